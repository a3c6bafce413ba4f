-- The text that answers a load: what was asked for, how many calls clients made, and what the accounts hold at the end.
use Rattle.std.specs.Prelude.{ℕ, ℤ, pos, ◌+ℤ◌, ◌==◌, Bool, List, [], ◌∷◌, ◌++◌, codes, filter, length, map, sum}
use Rattle.std.specs.List.{starts_with}
use Rattle.std.specs.Fmt.{decimal, signed_decimal}
use Rattle.stx_scenario.specs.declared.scenario.Scenario.{Scenario}
use Rattle.stx_base.specs.declared.history.StoreEntry.{StoreEntry}
use Rattle.stx_base.specs.declared.outcome.Outcome.{Outcome}
use Rattle.stx_base.specs.Lines.{line_feed}
use Rattle.stx_base.specs.Report.{final_rows}

-- the number of all clients' top-level calls
abbrev pub top_calls : Scenario → ℕ
top_calls S = sum (map length S.clients)

-- a row whose name begins with `acct`
abbrev pub is_account : List ℕ × ℤ → Bool
is_account row = starts_with ◌==◌ row.0 (codes "acct")

-- what the accounts among the rows that are there at the end hold
abbrev pub balances : Scenario → List StoreEntry → List ℤ
balances S history = map (λ row. row.1) (filter is_account (final_rows S history))

abbrev pub sum_of : List ℤ → ℤ
sum_of [] = pos 0
sum_of (v ∷ vs) = v +ℤ sum_of vs

abbrev pub request_text : ℕ → ℕ → List ℕ
request_text seed clients = codes "load seed " ++ decimal seed ++ codes " clients " ++ decimal clients ++ line_feed

abbrev pub calls_text : ℕ → List ℕ
calls_text calls = codes "top_calls " ++ decimal calls ++ line_feed

abbrev pub accounts_text : List ℤ → List ℕ
accounts_text held = codes "accounts " ++ decimal (length held) ++ codes " sum " ++ signed_decimal (sum_of held) ++ line_feed

unfoldable pub summary : ℕ → Scenario → Outcome → List ℕ
summary seed S O =
    request_text seed (length S.clients)
    ++ calls_text (top_calls S)
    ++ accounts_text (balances S O.store)
    ++ codes "end" ++ line_feed
