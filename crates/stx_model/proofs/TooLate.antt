-- An exception of an after_commit callback comes too late.
use Rattle.std.proofs.Common.{◌≡◌, ℕ, true, false, List, [], ◌∷◌, Option, Some, None, refl, sym, ap, ◌∙◌, subst}
use Rattle.std.specs.Prelude.{slice_get, ◌==◌}
use Rattle.std.specs.Option.{option_map}
use Rattle.std.proofs.lemmas.Bool.{eq-eqb}
use Rattle.stx_scenario.specs.declared.numbers.ClassNo.{ClassNo}
use Rattle.stx_scenario.specs.declared.scenario.Scenario.{Scenario}
use Rattle.stx_base.specs.declared.manager.Action.{Action}
use Rattle.stx_base.specs.declared.call.Want.{Want}
use Rattle.stx_base.specs.declared.history.StoreNote.{StoreNote}
use Rattle.stx_base.specs.declared.manager.Kind.{Kind}
use Rattle.stx_base.specs.declared.manager.Ending.{Ending}
use Rattle.stx_base.specs.declared.manager.Round.{Round}
use Rattle.stx_model.specs.Contexts.{Live}
use Rattle.stx_model.specs.Ending.{completion, completion_after, has_before_commit}
use Rattle.stx_base.specs.declared.history.Note.{Note}
use Rattle.stx_model.specs.Meanings.{State, Result, Over, Breaks, state_of, finally, hear, ask, answered}
use Rattle.stx_model.specs.Rounds.{Calls, round_of, last_round, stopping_round, swallowing_round}
use Rattle.stx_model.specs.Scopes.{Scope, live_in, later_or, acts, completes}
use Rattle.stx_model.specs.Reads.{StartsWith}
use Rattle.stx_model.specs.Script.{calls_below}
use Rattle.stx_model.specs.Assurances.{AfterCommitComesTooLate, AfterCommitThrowsToTheCaller, CommittedStaysSaid}
use Rattle.stx_model.proofs.Apart.{finally_at_end, live_at_end, ask_at_end}
use Rattle.stx_model.proofs.SteadyPieces.{acts_steady, calls_below_steady}

same_number : (t : ℕ) → (t == t) ≡ true
same_number t = eq-eqb t t refl

module _ (S : Scenario) (calls : Calls) (scope : Scope) where
  abbrev Acts : List Action → Option ClassNo → State → Result
  Acts actions x st = acts S calls scope actions x st

  abbrev after_the_commit : List Action
  after_the_commit = Action.RoundAfterCommit ∷ Action.RoundAfterCompletion true ∷ Action.GiveBack ∷ Action.Resumption ∷ []

  fresh_commits : (x : Option ClassNo) (st before : State) → scope.kind ≡ Kind.Fresh
      → round_of scope.owns (stopping_round S calls Round.BeforeCommit) st ≡ Over None before
      → completes S calls scope Ending.Commit x st ≡ Acts (Action.RoundBeforeCompletion ∷ Action.CommitStore ∷ after_the_commit) x before
  unfolding completes completion
  fresh_commits x st before fresh went =
      ap (λ k. elim (has_before_commit k Ending.Commit) [
        | true ↦ finally (round_of scope.owns (stopping_round S calls Round.BeforeCommit) st) (λ y. Acts (completion_after k Ending.Commit y) (later_or y x))
        | false ↦ Acts (completion k Ending.Commit) x st
      ]) fresh
      ∙ ap (λ r. finally r (λ y. Acts (completion_after Kind.Fresh Ending.Commit y) (later_or y x))) went

  swallowed_goes_on : (rest : List Action) (x z : Option ClassNo) (before completed : State)
      → round_of scope.owns (swallowing_round S calls Round.BeforeCompletion false) before ≡ Over z completed
      → Acts (Action.RoundBeforeCompletion ∷ rest) x before ≡ Acts rest x completed
  unfolding acts
  swallowed_goes_on rest x z before completed went = ap (λ r. finally r (λ _. Acts rest x)) went

  store_commits : (rest : List Action) (x : Option ClassNo) (completed : State) (live : Live) (number : ℕ)
      → completed.context.tx ≡ Some live → slice_get completed.store 0 ≡ Some (StoreNote.Commit live.transaction number)
      → Acts (Action.CommitStore ∷ rest) x completed ≡ Acts rest x (hear (Note.Store (StoreNote.Commit live.transaction number)) completed)
  unfolding acts ask
  store_commits rest x completed live number is_live noted =
      let note : Note = Note.Store (StoreNote.Commit live.transaction number) in
      ap (λ tx. live_in tx (λ live. ask (Want.Commit live.transaction) (λ _. Acts rest x)) completed) is_live
      ∙ ap (λ o. answered (Want.Commit live.transaction) (λ _. Acts rest x) completed (option_map Note.Store o)) noted
      ∙ ap (λ b. elim b [ true ↦ Acts rest x (hear note completed) | false ↦ Breaks completed ]) (same_number live.transaction)

  thrown_goes_on : (rest : List Action) (x : Option ClassNo) (y : ClassNo) (st after : State)
      → round_of scope.owns (stopping_round S calls Round.AfterCommit) st ≡ Over (Some y) after
      → Acts (Action.RoundAfterCommit ∷ rest) x st ≡ Acts rest (Some y) after
  unfolding acts
  thrown_goes_on rest x y st after went = ap (λ r. finally r (λ y. Acts rest (later_or y x))) went

pub after_commit_comes_too_late : AfterCommitComesTooLate
unfolding acts
after_commit_comes_too_late S calls scope x z y live number st before completed after fresh went swallowed is_live noted thrown =
    fresh_commits S calls scope x st before fresh went
    ∙ swallowed_goes_on S calls scope (Action.CommitStore ∷ after_the_commit S calls scope) x z before completed swallowed
    ∙ store_commits S calls scope (after_the_commit S calls scope) x completed live number is_live noted
    ∙ thrown_goes_on S calls scope (Action.RoundAfterCompletion true ∷ Action.GiveBack ∷ Action.Resumption ∷ []) x y
    (hear (Note.Store (StoreNote.Commit live.transaction number)) completed) after thrown

pub after_commit_throws_to_the_caller : AfterCommitThrowsToTheCaller
unfolding acts
after_commit_throws_to_the_caller S calls scope y after =
    finally_at_end (λ x end. x ≡ Some y) (last_round S calls scope.owns true after) (λ _. acts S calls scope (Action.GiveBack ∷ Action.Resumption ∷ []) (Some y))
    (λ w st. live_at_end (λ x end. x ≡ Some y) st.context.tx (λ live. ask (Want.Give live.connection) (λ _. acts S calls scope (Action.Resumption ∷ []) (Some y))) st
    (λ live. ask_at_end (λ x end. x ≡ Some y) (Want.Give live.connection) (λ _. acts S calls scope (Action.Resumption ∷ []) (Some y)) st (λ n. refl)))

-- what the actions after the commit do comes after its line
pub committed_stays_said : CommittedStaysSaid
committed_stays_said S bound scope x z live number st before completed fresh went swallowed is_live noted =
    let calls : Calls = calls_below S bound in
    let heard : State = hear (Note.Store (StoreNote.Commit live.transaction number)) completed in
    let is = fresh_commits S calls scope x st before fresh went
    ∙ swallowed_goes_on S calls scope (Action.CommitStore ∷ after_the_commit S calls scope) x z before completed swallowed
    ∙ store_commits S calls scope (after_the_commit S calls scope) x completed live number is_live noted in
    subst (λ r. StartsWith (state_of r).lines heard.lines) (sym is)
    (acts_steady S calls (calls_below_steady S bound) scope (after_the_commit S calls scope) x heard).0.0
