-- A client's calls one after the other, and methods called by their rank.
use Rattle.std.proofs.Common.{◌≡◌, ◌≢◌, ℕ, zero, suc, ◌+◌, ◌<◌, ◌≤◌, ◌==◌, Bool, true, false, List, [], ◌∷◌, drop, Some, None, refl, sym, ap, ◌∙◌, arith, eq-eqb, eqb-true}
use Rattle.std.specs.Prelude.{slice_get, unwrap_or}
use Rattle.std.proofs.lemmas.Bool.{false≢true}
use Rattle.stx_scenario.specs.declared.numbers.MethodNo.{MethodNo}
use Rattle.stx_scenario.specs.declared.scenario.Scenario.{Scenario}
use Rattle.stx_base.specs.declared.call.Want.{Want}
use Rattle.stx_base.specs.declared.line.Line.{Line}
use Rattle.stx_base.specs.Weight.{rank}
use Rattle.stx_model.specs.Meanings.{State, Result, Over, Stops, Breaks, finally, say}
use Rattle.stx_model.specs.Rounds.{Way, Proxied}
use Rattle.stx_model.specs.Script.{invoked, calls_below, tops, calls_of}
use Rattle.stx_model.specs.Statements.{caught}
use Rattle.stx_machine.specs.Machine.{called, inside, later_calls, tops_from}
use Rattle.stx_machine.proofs.Places.{drop_at, drop_past}

-- ---- by rank

module _ (S : Scenario) (way : Way) (m : MethodNo) (st : State) where
  -- within any bound above its rank a method is called in the same way
  pub called_at : (bound : ℕ) → rank S m < bound → calls_below S bound way m st ≡ invoked S (inside S m) way m st
  unfolding calls_below
  called_at zero less = absurd (omega (arith, less))
  called_at (suc bound) less = by_rank (rank S m == bound) (called_at bound) refl
    where
      by_rank : (b : Bool) → (rank S m < bound → calls_below S bound way m st ≡ invoked S (inside S m) way m st) → (rank S m == bound) ≡ b
          → elim b as (λ _. Result) [ true ↦ invoked S (calls_below S bound) way m st | false ↦ calls_below S bound way m st ] ≡ invoked S (inside S m) way m st
      by_rank true lower is = ap (λ k. invoked S (calls_below S k) way m st) (sym (eqb-true (rank S m) bound is))
      by_rank false lower is =
          let differs : rank S m ≢ bound = λ same. false≢true (sym is ∙ eq-eqb (rank S m) bound same) in
          lower (omega (arith, less, differs))

-- ---- one after the other

-- what a client calls is caught by no statement
uncaught : (S : Scenario) (r : Result) → finally r (caught S None) ≡ r
uncaught S (Over None st) = refl
uncaught S (Over (Some x) st) = refl
uncaught S (Stops w st) = refl
uncaught S (Breaks st) = refl

module _ (S : Scenario) (n top : ℕ) (calls : List MethodNo) (there : slice_get S.clients n ≡ Some calls) (st : State) where
  calls_are : drop top (calls_of S n) ≡ drop top calls
  calls_are = ap (λ o. drop top (unwrap_or o [])) there

  pub no_call : slice_get calls top ≡ None → tops_from S n top st ≡ Stops Want.Done st
  unfolding tops
  no_call past = ap (λ cs. tops S top cs st) (calls_are ∙ drop_past calls top past)

  pub one_call : (m : MethodNo) → slice_get calls top ≡ Some m → rank S m ≤ 64
      → tops_from S n top st ≡ later_calls S n top (called S m None (say (Line.Top top) st))
  unfolding tops
  one_call m here low =
      let split = calls_are ∙ drop_at calls top m here ∙ ap (λ cs. m ∷ cs) (ap (λ o. drop (top + 1) (unwrap_or o [])) (sym there)) in
      ap (λ cs. tops S top cs st) split
      ∙ ap (later_calls S n top) (called_at S Proxied m (say (Line.Top top) st) 65 (omega (arith, low)) ∙ sym (uncaught S (invoked S (inside S m) Proxied m (say (Line.Top top) st))))
