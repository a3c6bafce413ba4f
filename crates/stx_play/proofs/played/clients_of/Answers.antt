-- One client more.
use Rattle.std.proofs.Common.{◌∙◌, ◌<◌, ◌+◌, ◌≤◌, ◌++◌, ◌∷◌, [], ℕ, sym, subst, arith, inl, inr}
use Rattle.std.proofs.Math.Nat.{eq-or-lt_of_le}
use Rattle.stx_model.specs.Reads.{ReadsAll}
use Rattle.stx_client.specs.View.{new_client, HasReadAll}
use Rattle.stx_play.proofs.RangeLaws.{push_range}
use Rattle.stx_play.proofs.played.clients_of.Goals as goal

pub loop-number-preserved : goal.loop-number-preserved
loop-number-preserved c =
    let S = c.args.setup.now.scenario in
    let n = c.loop-number.number in
    let client = c.in_ok-new.ensures.client in
    let read : ReadsAll S n [] [] = subst HasReadAll client c.in_ok-new.ensures.read in (
      c.in_ok-push.ensures.items ∙ (λ i. c.loop-number.invariant.0 i ++ client i ∷ []) ∙ sym (push_range (new_client S) n),
      λ d below. elim (eq-or-lt_of_le (lt d n below)) [
        | inl same ↦ subst (λ k. ReadsAll S k [] []) (sym same) read
        | inr earlier ↦ c.loop-number.invariant.1 d earlier
      ],
    )
  where
    lt : (d n : ℕ) → d < n + 1 → d ≤ n
    lt d n below = omega (arith, below)
