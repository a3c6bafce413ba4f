-- Turns of a schedule, and clients that run out one after the other.
use Rattle.std.proofs.Common.{◌≡◌, ℕ, ◌+◌, ◌<◌, ◌≤◌, ◌++◌, ◌∷◌, [], List, map, refl, sym, ap, ◌∙◌, subst, arith, ◌⊎◌, inl, inr}
use Rattle.std.specs.List.{fold, range_with_len}
use Rattle.std.proofs.lemmas.List.Sums.{fold-append}
use Rattle.std.proofs.Math.Nat.{eq-or-lt_of_le}
use Rattle.stx_scenario.specs.declared.scenario.Scenario.{Scenario}
use Rattle.stx_model.specs.Played.{Turns, run_out}
use Rattle.stx_model.proofs.Turns.{still_done}
use Rattle.stx_play.specs.Play.{IsClientDone}
use Rattle.stx_play.proofs.RangeLaws.{push_range}

-- ---- one more of a list, and of a range

same_map : (xs : List ℕ) → map (λ n. n) xs ≡ xs
same_map [] = refl
same_map (x ∷ xs) = ap (λ ys. x ∷ ys) (same_map xs)

range_push : (n : ℕ) → range_with_len 0 (n + 1) ≡ range_with_len 0 n ++ n ∷ []
range_push n = sym (same_map (range_with_len 0 (n + 1))) ∙ push_range (λ k. k) n ∙ ap (λ xs. xs ++ n ∷ []) (same_map (range_with_len 0 n))

pub one_runs_out : (S : Scenario) (start : Turns) (n : ℕ) → fold (run_out S) start (range_with_len 0 (n + 1)) ≡ run_out S (fold (run_out S) start (range_with_len 0 n)) n
one_runs_out S start n = ap (fold (run_out S) start) (range_push n) ∙ fold-append (run_out S) start (range_with_len 0 n) (n ∷ [])

-- where the clients below n are done, they are so after n has run out, and so is n
pub done_below : (S : Scenario) (t new : Turns) (n : ℕ) → new ≡ run_out S t n → ((c : ℕ) → c < n → IsClientDone S t c) → IsClientDone S new n → (c : ℕ) → c < n + 1 → IsClientDone S new c
done_below S t new n is earlier here c below = either (eq-or-lt_of_le (last c n below))
  where
    last : (c n : ℕ) → c < n + 1 → c ≤ n
    last c n below = omega (arith, below)

    either : (c ≡ n) ⊎ (c < n) → IsClientDone S new c
    either (inl same) = subst (IsClientDone S new) (sym same) here
    either (inr before) = subst (λ t. IsClientDone S t c) (sym is) (still_done S n c (λ same. omega (arith, before, same)) t (earlier c before))
