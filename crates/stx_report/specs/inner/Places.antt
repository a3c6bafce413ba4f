-- The places of each client's entries, as the code hands them out.
use Rattle.std.specs.Prelude.{◌≡◌, ℕ, ◌<◌, List, [], ◌∷◌, ◌++◌, length, codes, Some, slice_get, set, get_or}
use Rattle.std.specs.Fmt.{decimal}
use Rattle.stx_scenario.specs.declared.scenario.Scenario.{Scenario}
use Rattle.stx_base.specs.declared.line.Line.{Line}
use Rattle.stx_base.specs.Lines.{line_feed}
use Rattle.stx_base.specs.Report.{places_of, lines_text}

-- the list of each client below a count
pub record AreEach (of_client : ℕ → List ℕ) (clients : ℕ) (places : List (List ℕ)) : Type 0 where
  pub count : length places ≡ clients
  pub each : (c : ℕ) → c < clients → slice_get places c ≡ Some (of_client c)

-- the places, from 1, at which each client below a count is the maker
abbrev pub AreHandedOut : List ℕ → ℕ → List (List ℕ) → Type 0
AreHandedOut makers clients places = AreEach (λ c. places_of c 1 makers) clients places

-- one more place at the end of a client's
abbrev pub placed : List (List ℕ) → ℕ → ℕ → List (List ℕ)
placed places c n = set places c (get_or places c [] ++ n ∷ [])

-- a client's number, and its lines with these places
abbrev pub client_words : Scenario → ℕ → List ℕ → List ℕ → List Line → List ℕ
client_words S c pool store lines = codes "client " ++ decimal c ++ line_feed ++ lines_text S pool store lines
