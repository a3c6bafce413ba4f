-- What is done at once ends: a line is said, or less is left.
use Rattle.std.proofs.Common.{◌≡◌, ◌∙◌, ◌+◌, ◌-◌, ◌==◌, ◌<◌, ◌≤◌, [], ℕ, Bool, true, false, List, length, refl, sym, ap, arith, eq-eqb, eqb-true, length-append}
use Rattle.std.proofs.lemmas.Bool.{false≢true}
use Rattle.stx_scenario.specs.declared.scenario.Scenario.{Scenario}
use Rattle.stx_model.specs.Meanings.{state_of}
use Rattle.stx_model.specs.Reads.{StartsWith}
use Rattle.stx_machine.specs.declared.machine.Machine.{Machine}
use Rattle.stx_machine.specs.Machine.{Goes, Moves, Says, Waits, Shrinks, falls, left, run}
use Rattle.stx_machine.specs.Sound.{IsSound, held}
use Rattle.stx_machine.proofs.Growth.{run_starts}

-- ---- how far it came

-- what is left of the script stayed, and no line was taken back while something is done at once
pub record FallsOn (S : Scenario) (n : ℕ) (before after : Machine) : Type 0 where
  pub goes : Goes S n before after
  pub sound : IsSound S after (held after.stage)
  pub longer : falls after.stage ≡ true → length before.lines.items ≤ length after.lines.items

-- ---- what falls

-- the actions that are left and one, while what is done at once has said nothing
abbrev pub silent : Bool → Bool → ℕ → ℕ
silent true true n = n + 1
silent _ _ n = 0

abbrev pub silent_left : ℕ → Machine → ℕ
silent_left said m = silent (falls m.stage) (length m.lines.items == said) (left m)

-- the lines that are left and one, while something is done at once
abbrev pub lines_if : Bool → ℕ → ℕ
lines_if true n = n + 1
lines_if false n = 0

abbrev pub lines_left : Scenario → ℕ → Machine → ℕ
lines_left S n m = lines_if (falls m.stage) (length (state_of (run S n m [] [])).lines - length m.lines.items)

silent_at_most : (b e : Bool) (n : ℕ) → silent b e n ≤ n + 1
silent_at_most true true n = omega arith
silent_at_most true false n = omega arith
silent_at_most false e n = omega arith

silent_longer : (b e : Bool) (x said n : ℕ) → (x == said) ≡ e → said < x → silent b (x == said) n ≡ 0
silent_longer true true x said n is longer = let same : x ≡ said = eqb-true x said is in absurd (omega (arith, same, longer))
silent_longer true false x said n is longer = (λ i. silent true (is i) n)
silent_longer false e x said n is longer = refl

silent_is : (said : ℕ) (m : Machine) → falls m.stage ≡ true → length m.lines.items ≡ said → silent_left said m ≡ left m + 1
silent_is said m falling same = (λ i. silent (falling i) ((eq-eqb (length m.lines.items) said same) i) (left m))

-- a step says a line or lessens what is left
pub falls_silently : (said : ℕ) (before after : Machine) → falls before.stage ≡ true → length before.lines.items ≡ said
    → Moves (left before) before after → silent_left said after < silent_left said before
falls_silently said before after falling same (Says longer) =
    let here = silent_is said before falling same in
    let none = silent_longer (falls after.stage) (length after.lines.items == said) (length after.lines.items) said (left after) refl (omega (arith, longer, same)) in
    omega (arith, here, none)
falls_silently said before after falling same (Waits waits) =
    let here = silent_is said before falling same in
    let none : silent_left said after ≡ 0 = (λ i. silent (waits i) (length after.lines.items == said) (left after)) in
    omega (arith, here, none)
falls_silently said before after falling same (Shrinks equal less) =
    let here = silent_is said before falling same in
    let few = silent_at_most (falls after.stage) (length after.lines.items == said) (left after) in
    omega (arith, here, few, less)

-- while a step falls, no line was taken back
pub moves_lines : (n : ℕ) (before after : Machine) → Moves n before after → falls after.stage ≡ true → length before.lines.items ≤ length after.lines.items
moves_lines n before after (Says longer) falling = omega (arith, longer)
moves_lines n before after (Waits waits) falling = absurd (false≢true (sym waits ∙ falling))
moves_lines n before after (Shrinks equal less) falling = omega (arith, equal)

starts_longer : {X : Type 0} (all first : List X) → StartsWith all first → length first ≤ length all
starts_longer all first (later, is) = omega (arith, ap length is, length-append first later)

-- each line that is said leaves fewer
pub falls_by_lines : (S : Scenario) (n : ℕ) (before after : Machine) → falls before.stage ≡ true
    → Goes S n before after → (falls after.stage ≡ true → length before.lines.items < length after.lines.items) → lines_left S n after < lines_left S n before
falls_by_lines S n before after falling goes longer =
    let all_before = length (state_of (run S n before [] [])).lines in
    let all_after = length (state_of (run S n after [] [])).lines in
    let here : lines_left S n before ≡ all_before - length before.lines.items + 1 = ap (λ b. lines_if b (all_before - length before.lines.items)) falling in
    let same : all_before ≡ all_after = ap (λ r. length (state_of r).lines) (goes [] []) in
    let most = starts_longer (state_of (run S n after [] [])).lines after.lines.items (run_starts S n after [] []) in
    by_stage (falls after.stage) all_before all_after refl here same most
  where
    by_stage : (b : Bool) (all_before all_after : ℕ) → falls after.stage ≡ b → lines_left S n before ≡ all_before - length before.lines.items + 1
        → all_before ≡ all_after → length after.lines.items ≤ all_after
        → lines_if b (all_after - length after.lines.items) < lines_left S n before
    by_stage true all_before all_after is here same most = omega (arith, here, same, most, longer is)
    by_stage false all_before all_after is here same most = omega (arith, here)
