-- The end of a scope: which actions are due, before and after each round.
use Rattle.std.proofs.Common.{◌≡◌, ℕ, zero, suc, Bool, true, false, List, [], ◌∷◌, Option, Some, None, refl, sym, ap, subst, ◌∙◌}
use Rattle.std.specs.Prelude.{◌||◌, ◌&&◌, not, ⊤}
use Rattle.std.specs.Option.{is_some}
use Rattle.std.proofs.lemmas.Bool.{false≢true, and_parts}
use Rattle.stx_scenario.specs.declared.numbers.ClassNo.{ClassNo}
use Rattle.stx_scenario.specs.declared.scenario.Scenario.{Scenario}
use Rattle.stx_base.specs.declared.manager.Action.{Action}
use Rattle.stx_base.specs.declared.manager.Ending.{Ending}
use Rattle.stx_base.specs.declared.manager.Kind.{Kind}
use Rattle.stx_base.specs.declared.manager.Round.{Round}
use Rattle.stx_model.specs.Contexts.{Context, Registration, ordered, registered, without_syncs}
use Rattle.stx_model.specs.Ending.{ending, completion, completion_after, completion_refused, has_before_commit}
use Rattle.stx_model.specs.Meanings.{State, Result, Over, Stops, Breaks, Meaning, finally, with_context}
use Rattle.stx_model.specs.Rounds.{Calls, last_round, round_of, stopping_round, swallowing_round, swallows, told}
use Rattle.stx_model.specs.Scopes.{Scope, acts, completes, later_or}
use Rattle.stx_manager.specs.Scopes.{OpenScope}
use Rattle.stx_machine.specs.Machine.{rest_after, round_if, round_in}
use Rattle.stx_machine.specs.Sound.{Bond, Unbound, Runs, Ended, Standing, below_rest, below_scope, due_after, due_in, ends_syncs, has_own, has_own_of, has_point, is_due, is_point, is_unbound, may_end, releases, standing_under, without_own}

-- ---- case by case

each_kind : (P : Kind → Type 0) → P Kind.Fresh → P Kind.Join → P Kind.Point → P Kind.Empty → (kind : Kind) → P kind
each_kind P fresh join point empty Kind.Fresh = fresh
each_kind P fresh join point empty Kind.Join = join
each_kind P fresh join point empty Kind.Point = point
each_kind P fresh join point empty Kind.Empty = empty

each_ending : (P : Ending → Type 0) → P Ending.Commit → P Ending.Rollback → P Ending.Unexpected → (e : Ending) → P e
each_ending P commit rollback unexpected Ending.Commit = commit
each_ending P commit rollback unexpected Ending.Rollback = rollback
each_ending P commit rollback unexpected Ending.Unexpected = unexpected

-- what holds of each action that is a round, with the round that it is
pub each_round : (P : Action → Round → Bool → Type 0) → P Action.RoundBeforeCompletion Round.BeforeCompletion false → P Action.RoundAfterCommit Round.AfterCommit true
    → ((committed : Bool) → P (Action.RoundAfterCompletion committed) Round.AfterCompletion committed)
    → (a : Action) (round : Round) (committed : Bool) → round_in a ≡ Some (round, committed) → P a round committed
each_round P before commit completion Action.RoundBeforeCompletion round committed is =
    let same : ◌≡◌ {A = Round × Bool} (Round.BeforeCompletion, false) (round, committed) = cc in subst (λ r. P Action.RoundBeforeCompletion r.0 r.1) same before
each_round P before commit completion Action.RoundAfterCommit round committed is =
    let same : ◌≡◌ {A = Round × Bool} (Round.AfterCommit, true) (round, committed) = cc in subst (λ r. P Action.RoundAfterCommit r.0 r.1) same commit
each_round P before commit completion (Action.RoundAfterCompletion told) round committed is =
    let same : ◌≡◌ {A = Round × Bool} (Round.AfterCompletion, told) (round, committed) = cc in subst (λ r. P (Action.RoundAfterCompletion told) r.0 r.1) same (completion told)
each_round P before commit completion Action.CommitStore round committed is = cc
each_round P before commit completion Action.RollbackStore round committed is = cc
each_round P before commit completion Action.BackToPoint round committed is = cc
each_round P before commit completion Action.ReleasePoint round committed is = cc
each_round P before commit completion Action.MarkGlobally round committed is = cc
each_round P before commit completion Action.ThrowUnexpected round committed is = cc
each_round P before commit completion Action.GiveBack round committed is = cc
each_round P before commit completion Action.Resumption round committed is = cc

-- ---- how a scope may end

may_unless : (b : Bool) → may_end Kind.Empty (elim b as (λ _. Ending) [ true ↦ Ending.Rollback | false ↦ Ending.Commit ]) ≡ true
may_unless true = refl
may_unless false = refl

-- an empty scope never ends unexpectedly
pub ends_so : (kind : Kind) (rolls local : Bool) (context : Context) → may_end kind (ending kind rolls local context) ≡ true
ends_so Kind.Fresh rolls local context = refl
ends_so Kind.Join rolls local context = refl
ends_so Kind.Point rolls local context = refl
ends_so Kind.Empty rolls local context = may_unless (rolls || local)

-- ---- what is released

-- of all completions that of a nested scope releases a savepoint
pub releases_point : (kind : Kind) (e : Ending) → releases (completion kind e) ≡ is_point kind
unfolding completion
releases_point Kind.Fresh = each_ending _ refl refl refl
releases_point Kind.Join = each_ending _ refl refl refl
releases_point Kind.Point = each_ending _ refl refl refl
releases_point Kind.Empty = each_ending _ refl refl refl

pub refused_releases : (kind : Kind) → releases (completion_refused kind) ≡ false
unfolding completion
refused_releases = each_kind _ refl refl refl refl

pub refused_ends : (kind : Kind) → ends_syncs (completion_refused kind) ≡ true
unfolding completion
refused_ends = each_kind _ refl refl refl refl

-- a scope that owns registrations has a last round
pub owned_ends : (kind : Kind) (e : Ending) (owns older : Bool) (standing : Standing) → may_end kind e ≡ true → has_own_of kind owns older standing ≡ true
    → owns ≡ (owns && ends_syncs (completion kind e))
unfolding completion
owned_ends kind e false older standing may own = refl
owned_ends Kind.Fresh Ending.Commit true older standing may own = refl
owned_ends Kind.Fresh Ending.Rollback true older standing may own = refl
owned_ends Kind.Fresh Ending.Unexpected true older standing may own = refl
owned_ends Kind.Empty Ending.Commit true older standing may own = refl
owned_ends Kind.Empty Ending.Rollback true older standing may own = refl
owned_ends Kind.Empty Ending.Unexpected true older standing may own = absurd (false≢true may)
owned_ends Kind.Join e true older standing may own = absurd (false≢true (and_parts (not older) false own).1)
owned_ends Kind.Point e true older standing may own =
    let (point, alone) = and_parts (has_point standing.bond) _ own in absurd (false≢true (and_parts (not older) false alone).1)

-- what stands below a scope stands below its completion
pub below_completion : (scope : OpenScope) (e : Ending) (standing : Standing) (rest : List Action) → completion scope.kind e ≡ rest → may_end scope.kind e ≡ true → has_own scope standing ≡ true
    → below_scope scope standing ≡ below_rest scope rest standing
below_completion scope e standing rest left may own =
    ap (λ b. standing_under scope.suspended (without_own b scope.owns standing)) (sym (releases_point scope.kind e))
    ∙ ap (λ b. standing_under scope.suspended (without_own (releases (completion scope.kind e)) b standing))
    (owned_ends scope.kind e scope.owns (is_some scope.suspended) standing may own)
    ∙ ap (λ rest. below_rest scope rest standing) left

commit_ends : (kind : Kind) (e : Ending) → has_before_commit kind e ≡ true → ends_syncs (completion kind e) ≡ true
unfolding completion
commit_ends Kind.Fresh Ending.Commit is = refl
commit_ends Kind.Empty Ending.Commit is = refl
commit_ends Kind.Fresh Ending.Rollback is = absurd (false≢true is)
commit_ends Kind.Fresh Ending.Unexpected is = absurd (false≢true is)
commit_ends Kind.Empty Ending.Rollback is = absurd (false≢true is)
commit_ends Kind.Empty Ending.Unexpected is = absurd (false≢true is)
commit_ends Kind.Join e is = absurd (false≢true is)
commit_ends Kind.Point e is = absurd (false≢true is)

-- ---- what is due at the end of a body

fresh_due : (owns active : Bool) (e : Ending) → owns || not active ≡ true → is_due owns true (Runs 0) active (completion Kind.Fresh e) ≡ true
unfolding completion
fresh_due true true Ending.Commit fits = refl
fresh_due true true Ending.Rollback fits = refl
fresh_due true true Ending.Unexpected fits = refl
fresh_due true false Ending.Commit fits = refl
fresh_due true false Ending.Rollback fits = refl
fresh_due true false Ending.Unexpected fits = refl
fresh_due false true e fits = absurd (false≢true fits)
fresh_due false false Ending.Commit fits = refl
fresh_due false false Ending.Rollback fits = refl
fresh_due false false Ending.Unexpected fits = refl

join_due : (owns active : Bool) (bond : Bond) (e : Ending) → is_due owns false bond active (completion Kind.Join e) ≡ true
unfolding completion
join_due owns active bond = each_ending _ refl refl refl

running_due : (owns active : Bool) (points : ℕ) (e : Ending) → is_due owns false (Runs (suc points)) active (completion Kind.Point e) ≡ true
unfolding completion
running_due owns active points = each_ending _ refl refl refl

ended_due : (owns active : Bool) (points : ℕ) (e : Ending) → is_due owns false (Ended (suc points)) active (completion Kind.Point e) ≡ true
unfolding completion
ended_due owns active points = each_ending _ refl refl refl

-- an empty scope that suspended nothing
within_due : (owns active : Bool) (bond : Bond) (e : Ending) → may_end Kind.Empty e ≡ true → is_due owns false bond active (completion Kind.Empty e) ≡ true
unfolding completion
within_due owns active bond Ending.Commit may = refl
within_due owns active bond Ending.Rollback may = refl
within_due owns active bond Ending.Unexpected may = absurd (false≢true may)

-- and one that did
apart_due : (owns active : Bool) (e : Ending) → may_end Kind.Empty e ≡ true → owns || not active ≡ true → is_due owns true Unbound active (completion Kind.Empty e) ≡ true
unfolding completion
apart_due owns active Ending.Unexpected may fits = absurd (false≢true may)
apart_due true true Ending.Commit may fits = refl
apart_due true false Ending.Commit may fits = refl
apart_due false true Ending.Commit may fits = absurd (false≢true fits)
apart_due false false Ending.Commit may fits = refl
apart_due true true Ending.Rollback may fits = refl
apart_due true false Ending.Rollback may fits = refl
apart_due false true Ending.Rollback may fits = absurd (false≢true fits)
apart_due false false Ending.Rollback may fits = refl

empty_due : (owns older : Bool) (bond : Bond) (active : Bool) (e : Ending) → may_end Kind.Empty e ≡ true
    → not older || (is_unbound bond && (owns || not active)) ≡ true → is_due owns older bond active (completion Kind.Empty e) ≡ true
empty_due owns false bond active e may own = within_due owns active bond e may
empty_due owns true Unbound active e may own = apart_due owns active e may own
empty_due owns true (Runs points) active e may own = absurd (false≢true own)
empty_due owns true (Ended points) active e may own = absurd (false≢true own)

due_of : (kind : Kind) (owns older : Bool) (bond : Bond) (syncs : Option (List Registration)) (e : Ending) → may_end kind e ≡ true
    → has_own_of kind owns older (record { bond = bond; syncs = syncs }) ≡ true → is_due owns older bond (is_some syncs) (completion kind e) ≡ true
due_of Kind.Fresh owns true (Runs zero) syncs e may own = fresh_due owns (is_some syncs) e own
due_of Kind.Fresh owns false (Runs zero) syncs e may own = absurd (false≢true own)
due_of Kind.Fresh owns older (Runs (suc points)) syncs e may own = absurd (false≢true own)
due_of Kind.Fresh owns older Unbound syncs e may own = absurd (false≢true own)
due_of Kind.Fresh owns older (Ended points) syncs e may own = absurd (false≢true own)
due_of Kind.Join owns true bond syncs e may own = absurd (false≢true own)
due_of Kind.Join owns false bond syncs e may own = join_due owns (is_some syncs) bond e
due_of Kind.Point owns false (Runs (suc points)) syncs e may own = running_due owns (is_some syncs) points e
due_of Kind.Point owns false (Ended (suc points)) syncs e may own = ended_due owns (is_some syncs) points e
due_of Kind.Point owns true (Runs (suc points)) syncs e may own = absurd (false≢true own)
due_of Kind.Point owns true (Ended (suc points)) syncs e may own = absurd (false≢true own)
due_of Kind.Point owns older (Runs zero) syncs e may own = absurd (false≢true own)
due_of Kind.Point owns older (Ended zero) syncs e may own = absurd (false≢true own)
due_of Kind.Point owns older Unbound syncs e may own = absurd (false≢true own)
due_of Kind.Empty owns older bond syncs e may own = empty_due owns older bond (is_some syncs) e may own

-- the completion of a scope whose body ran is due
pub due_at_end : (scope : OpenScope) (standing : Standing) (e : Ending) → may_end scope.kind e ≡ true → has_own scope standing ≡ true
    → due_in scope standing (completion scope.kind e) ≡ true
due_at_end scope standing e may own = due_of scope.kind scope.owns (is_some scope.suspended) standing.bond standing.syncs e may own

-- ---- rounds

and_all : (a b c d : Bool) → a ≡ true → b ≡ true → c ≡ true → d ≡ true → a && (b && (c && d)) ≡ true
and_all true true true d first second third fourth = fourth
and_all false b c d first second third fourth = first
and_all true false c d first second third fourth = second
and_all true true false d first second third fourth = third

not_released : (b : Bool) → b ≡ false → not b ≡ true
not_released false is = refl
not_released true is = absurd (false≢true (sym is))

refused_is : (kind : Kind) (e : Ending) → has_before_commit kind e ≡ true → completion_refused kind ≡ completion kind Ending.Rollback
refused_is Kind.Fresh e is = refl
refused_is Kind.Empty e is = refl
refused_is Kind.Join e is = absurd (false≢true is)
refused_is Kind.Point e is = absurd (false≢true is)

no_point : (kind : Kind) (e : Ending) → has_before_commit kind e ≡ true → is_point kind ≡ false
no_point Kind.Fresh e is = refl
no_point Kind.Empty e is = refl
no_point Kind.Join e is = refl
no_point Kind.Point e is = absurd (false≢true is)

may_roll_back : (kind : Kind) → may_end kind Ending.Rollback ≡ true
may_roll_back = each_kind _ refl refl refl refl

-- before the before_commit round of a scope that is to commit
pub due_before_commit : (scope : OpenScope) (standing : Standing) (e : Ending) → has_before_commit scope.kind e ≡ true → may_end scope.kind e ≡ true
    → has_own scope standing ≡ true → due_after Round.BeforeCommit scope standing (completion scope.kind e) ≡ true
due_before_commit scope standing e is may own =
    and_all _ _ _ _ (due_at_end scope standing e may own)
    (ap (due_in scope standing) (refused_is scope.kind e is) ∙ due_at_end scope standing Ending.Rollback (may_roll_back scope.kind) own)
    (not_released _ (releases_point scope.kind e ∙ no_point scope.kind e is)) (commit_ends scope.kind e is)

stays_active : (active owns : Bool) → owns ≡ false → active && not owns ≡ active
stays_active true false is = refl
stays_active false false is = refl
stays_active active true is = absurd (false≢true (sym is))

-- where the scope owns no synchronisation, the actions are due without the round
pub due_unowned : (round : Round) (scope : OpenScope) (standing : Standing) (rest : List Action) → scope.owns ≡ false → due_after round scope standing rest ≡ true
    → due_in scope standing rest ≡ true
due_unowned Round.BeforeCommit scope standing rest is due = (and_parts _ _ due).0
due_unowned Round.BeforeCompletion scope standing rest is due = due
due_unowned Round.AfterCommit scope standing rest is due = due
due_unowned Round.AfterCompletion scope standing rest is due =
    ap (λ active. is_due scope.owns (is_some scope.suspended) standing.bond active rest) (sym (stays_active (is_some standing.syncs) scope.owns is)) ∙ due

-- ---- rounds as pieces

-- what swallows throws nothing
abbrev NeverThrows : Result → Type 0
NeverThrows (Over (Some x) st) = ⊥
NeverThrows _ = ⊤

finally_never : (r : Result) (f g : Option ClassNo → Meaning) → NeverThrows r → ((st : State) → f None st ≡ g None st) → finally r f ≡ finally r g
finally_never (Over None st) f g never same = same st
finally_never (Over (Some x) st) f g never same = absurd never
finally_never (Stops w st) f g never same = refl
finally_never (Breaks st) f g never same = refl

finally_same : (r : Result) (f g : Option ClassNo → Meaning) → ((y : Option ClassNo) (st : State) → f y st ≡ g y st) → finally r f ≡ finally r g
finally_same (Over y st) f g same = same y st
finally_same (Stops w st) f g same = refl
finally_same (Breaks st) f g same = refl

module _ (S : Scenario) (calls : Calls) where
  swallows_on : (r : Result) (next : Option ClassNo → Meaning) → ((x : Option ClassNo) (st : State) → NeverThrows (next x st)) → NeverThrows (finally r next)
  swallows_on (Over x st) next never = never x st
  swallows_on (Stops w st) next never = tt
  swallows_on (Breaks st) next never = tt

  swallowing_never : (round : Round) (committed : Bool) (rs : List Registration) (st : State) → NeverThrows (swallowing_round S calls round committed rs st)
  unfolding swallowing_round
  swallowing_never round committed [] st = tt
  swallowing_never round committed (r ∷ later) st =
      swallows_on (told S calls round committed r st) (λ x after. swallowing_round S calls round committed later (swallows x after))
      (λ x after. swallowing_never round committed later (swallows x after))

  module _ (scope : Scope) (rest : List Action) (x : Option ClassNo) (st : State) where
    abbrev after : Kind → Round → Option ClassNo → Meaning
    after kind round y = acts S calls scope (rest_after kind round rest y) (later_or y x)

    before_completion_of : (owns : Bool) → finally (elim owns as (λ _. Result) [ true ↦ swallowing_round S calls Round.BeforeCompletion false (ordered (registered st.context.syncs)) st | false ↦ Over None st ]) (λ _. acts S calls scope rest x)
        ≡ finally (elim owns as (λ _. Result) [ true ↦ swallowing_round S calls Round.BeforeCompletion false (ordered (registered st.context.syncs)) st | false ↦ Over None st ]) (after scope.kind Round.BeforeCompletion)
    before_completion_of true =
        finally_never (swallowing_round S calls Round.BeforeCompletion false (ordered (registered st.context.syncs)) st) (λ _. acts S calls scope rest x) (after scope.kind Round.BeforeCompletion)
        (swallowing_never Round.BeforeCompletion false (ordered (registered st.context.syncs)) st) (λ u. refl)
    before_completion_of false = refl

    after_completion_of : (owns committed : Bool) → finally (last_round S calls owns committed st) (λ _. acts S calls scope rest x) ≡ finally (last_round S calls owns committed st) (after scope.kind Round.AfterCompletion)
    after_completion_of true committed =
        finally_never (last_round S calls true committed st) (λ _. acts S calls scope rest x) (after scope.kind Round.AfterCompletion)
        (swallowing_never Round.AfterCompletion committed (ordered (registered st.context.syncs)) (with_context (without_syncs st.context) st)) (λ u. refl)
    after_completion_of false committed = refl

    before_completion : (committed : Bool) → acts S calls scope (Action.RoundBeforeCompletion ∷ rest) x st
        ≡ finally (round_if S calls scope.owns Round.BeforeCompletion committed st) (after scope.kind Round.BeforeCompletion)
    unfolding acts
    before_completion committed = before_completion_of scope.owns

    after_commit : (committed : Bool) → acts S calls scope (Action.RoundAfterCommit ∷ rest) x st
        ≡ finally (round_if S calls scope.owns Round.AfterCommit committed st) (after scope.kind Round.AfterCommit)
    unfolding acts
    after_commit committed = refl

    after_completion : (committed : Bool) → acts S calls scope (Action.RoundAfterCompletion committed ∷ rest) x st
        ≡ finally (round_if S calls scope.owns Round.AfterCompletion committed st) (after scope.kind Round.AfterCompletion)
    unfolding acts
    after_completion committed = after_completion_of scope.owns committed

    -- a round, whichever it is, and the actions after it
    pub round_first : (a : Action) (round : Round) (committed : Bool) → round_in a ≡ Some (round, committed)
        → acts S calls scope (a ∷ rest) x st ≡ finally (round_if S calls scope.owns round committed st) (after scope.kind round)
    round_first =
        each_round (λ a round committed. acts S calls scope (a ∷ rest) x st ≡ finally (round_if S calls scope.owns round committed st) (after scope.kind round))
        (before_completion false) (after_commit true) after_completion

  -- the before_commit round of a scope that is to commit
  module _ (scope : Scope) (e : Ending) (x : Option ClassNo) (st : State) where
    after_refused : (y : Option ClassNo) (u : State) → acts S calls scope (completion_after scope.kind e y) (later_or y x) u
        ≡ acts S calls scope (rest_after scope.kind Round.BeforeCommit (completion scope.kind e) y) (later_or y x) u
    after_refused None u = refl
    after_refused (Some y) u = refl

    abbrev completing : Bool → Result
    completing b = elim b as (λ _. Result) [
      | true ↦ finally (round_of scope.owns (stopping_round S calls Round.BeforeCommit) st) (λ y. acts S calls scope (completion_after scope.kind e y) (later_or y x))
      | false ↦ acts S calls scope (completion scope.kind e) x st
    ]

    commits_by : (b committed : Bool) → b ≡ true → completing b
        ≡ finally (round_if S calls scope.owns Round.BeforeCommit committed st) (λ y. acts S calls scope (rest_after scope.kind Round.BeforeCommit (completion scope.kind e) y) (later_or y x))
    commits_by true committed is =
        finally_same (round_of scope.owns (stopping_round S calls Round.BeforeCommit) st) (λ y. acts S calls scope (completion_after scope.kind e y) (later_or y x))
        (λ y. acts S calls scope (rest_after scope.kind Round.BeforeCommit (completion scope.kind e) y) (later_or y x)) after_refused
    commits_by false committed is = absurd (false≢true is)

    pub commits : (committed : Bool) (rest : List Action) → has_before_commit scope.kind e ≡ true → completion scope.kind e ≡ rest
        → completes S calls scope e x st ≡ finally (round_if S calls scope.owns Round.BeforeCommit committed st) (λ y. acts S calls scope (rest_after scope.kind Round.BeforeCommit rest y) (later_or y x))
    unfolding completes
    commits committed rest is left =
        commits_by (has_before_commit scope.kind e) committed is
        ∙ ap (λ rest. finally (round_if S calls scope.owns Round.BeforeCommit committed st) (λ y. acts S calls scope (rest_after scope.kind Round.BeforeCommit rest y) (later_or y x))) left

    without_by : (b : Bool) → b ≡ false → completing b ≡ acts S calls scope (completion scope.kind e) x st
    without_by false is = refl
    without_by true is = absurd (false≢true (sym is))

    pub completes_at_once : (rest : List Action) → has_before_commit scope.kind e ≡ false → completion scope.kind e ≡ rest → completes S calls scope e x st ≡ acts S calls scope rest x st
    unfolding completes
    completes_at_once rest is left = without_by (has_before_commit scope.kind e) is ∙ ap (λ rest. acts S calls scope rest x st) left
