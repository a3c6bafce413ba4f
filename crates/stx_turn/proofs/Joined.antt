-- Seats that are joined in one after the other: then none is left out.
use Rattle.std.proofs.Common.{◌≡◌, ℕ, ◌+◌, ◌<◌, ◌≤◌, sym, ap, ◌∙◌, subst, ⊎_elim, arith, ◌++◌, ◌∷◌, []}
use Rattle.std.specs.Prelude.{Any}
use Rattle.std.proofs.lemmas.Bool.{cases_lt}
use Rattle.std.proofs.lemmas.Grind.{common_steps}
use Rattle.std.proofs.lemmas.List.Quantifiers.{Any-push}
use Rattle.stx_turn.specs.Seats.{Ended, SeatView, after_join, AllJoined}

module _ {E F : Type 0} where
  -- the seats up to this number were joined in
  abbrev pub JoinedUpTo : ℕ → SeatView E F → Type 0
  JoinedUpTo k first = (n : ℕ) → 0 < n → n ≤ k → Any (λ e. e.number ≡ n) first.ended

  pub none_joined : (first : SeatView E F) → JoinedUpTo 0 first
  none_joined first n some most = absurd (omega (arith, some, most))

  -- the next one is joined in
  pub one_joined : (k : ℕ) (before after one : SeatView E F) → after ≡ after_join before one → one.number ≡ k + 1 → JoinedUpTo k before → JoinedUpTo (k + 1) after
  one_joined k before after one is number joined n some most =
      let e : Ended E = record { number = one.number; mine = one.mine; seen = one.seen } in
      let P : Ended E → Type 0 = λ e. e.number ≡ n in
      subst (Any P) (sym (ap (λ (s : SeatView E F). s.ended) is))
      (⊎_elim
      (λ last. Any-push P before.ended e (number ∙ omega (arith, last, most)))
      (λ low.
      let found = joined n some low in
      (found.0, found.1, grind (arith, common_steps, found.2), grind (arith, common_steps, found.2, found.3), found.4))
      (cases_lt k n))

  pub all_joined : (k : ℕ) (first : SeatView E F) → first.made ≡ k → JoinedUpTo k first → AllJoined first
  all_joined k first made joined n some most = joined n some (omega (arith, made, most))
