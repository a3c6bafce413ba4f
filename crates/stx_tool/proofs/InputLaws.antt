-- A source that isn't read loses nothing; what is accepted is read whole, and isn't refused.
use Rattle.std.proofs.Common.{◌≡◌, ℕ, Bool, true, false, List, [], ◌++◌, length, Option, Some, None, refl, sym, subst, ◌∙◌, ap, arith}
use Rattle.std.proofs.lemmas.List.{length-append}
use Rattle.stx_scenario.specs.declared.limits.TheConstants.{MOST_INPUT_BYTES}
use Rattle.stx_outside.specs.Streams.{LosesMore, LosesWithin}
use Rattle.stx_tool.specs.Ends.{HasInput, IsInput, IsAccepted}

pub none_within : (limit : ℕ) (before : Option (List ℕ)) → LosesWithin limit before before
none_within limit None = ([], omega arith, tt)
none_within limit (Some before) = ([], omega arith, refl)

all_read : (needed : Bool) (left now : Option (List ℕ)) (input bytes : List ℕ) → IsInput needed left input → HasInput needed left now bytes → bytes ≡ input
all_read false left now input bytes there read = read.1 ∙ sym there
all_read true (Some before) (Some now) input bytes there read =
    let whole : before ≡ input = cc in
    sym read.0.0 ∙ whole
all_read true (Some before) None input bytes there read = absurd read.0
all_read true None now input bytes there read = absurd cc

-- the source doesn't have more bytes than a scenario may have
not_longer : (left now : Option (List ℕ)) (input : List ℕ) → IsInput true left input → LosesMore MOST_INPUT_BYTES left now → ⊥
not_longer (Some before) (Some now) input there more =
    let whole : before ≡ input = cc in
    let parts : length before ≡ length (more.0 ++ now) = ap length more.2 in
    let bound : length input ≡ length before = ap length (sym whole) in
    omega (arith, there.1, more.1, parts, bound, length-append more.0 now)
not_longer (Some before) None input there more = more.2
not_longer None now input there more = absurd cc

module _ {J : Type 0} (needs_input : J → Bool) (stated : Option J) (refusal : J → List ℕ → Option (List ℕ)) (left now : Option (List ℕ)) (accepted : IsAccepted needs_input stated refusal left) (job : J) (is : stated ≡ Some job) where
  same : accepted.job ≡ job
  same =
      let both : Some accepted.job ≡ Some job = sym accepted.stated_so ∙ is in
      cc

  there : IsInput (needs_input job) left accepted.input
  there = subst (λ j. IsInput (needs_input j) left accepted.input) same accepted.there

  pub not_refused : (bytes text : List ℕ) → HasInput (needs_input job) left now bytes → refusal job bytes ≡ Some text → ⊥
  not_refused bytes text read refused =
      let whole : bytes ≡ accepted.input = all_read (needs_input job) left now accepted.input bytes there read in
      let done : refusal job accepted.input ≡ None = subst (λ j. refusal j accepted.input ≡ None) same accepted.accepted in
      let here : refusal job bytes ≡ None = ap (refusal job) whole ∙ done in
      absurd cc

  pub not_too_long : needs_input job ≡ true → LosesMore MOST_INPUT_BYTES left now → ⊥
  not_too_long needed more = not_longer left now accepted.input (subst (λ n. IsInput n left accepted.input) needed there) more
