-- A round, whichever it is, and each other action of a completion.
use Rattle.std.proofs.Common.{◌≡◌, ◌∙◌, ◌∷◌, refl, sym, ap, subst, arith}
use Rattle.std.specs.Prelude.{◌&&◌}
use Rattle.stx_scenario.specs.declared.classes.TheConstants.{UNEXPECTED_ROLLBACK_EXCEPTION}
use Rattle.stx_model.specs.Scopes.{acts}
use Rattle.stx_machine.specs.declared.stage.Stage.{Stage}
use Rattle.stx_machine.specs.Machine.{inside, onward_caught, scope_of, state_before}
use Rattle.stx_machine.specs.Sound.{IsApart, IsCompleting, IsSound, below_rest, ends_after, rank_at, releases, standing_of, standing_under, without_own}
use Rattle.stx_machine.proofs.Completing.{asks_store, gives_back_sound, releases_sound}
use Rattle.stx_machine.proofs.Endings.{round_first}
use Rattle.stx_machine.proofs.Places.{built_in_known}
use Rattle.stx_machine.proofs.Standings.{round_due}
use Rattle.stx_machine.proofs.machine.Machine.act.Goals as goal

pub returns-in-Some-clause-goes : goal.returns-in-Some-clause-goes
returns-in-Some-clause-goes c n pool store =
    let S = c.args.setup.now.scenario in
    let m = c.args.self.now in
    let call = c.args.call in
    ap (onward_caught S n m call.catch)
    (round_first S (inside S call.method) (scope_of call.method call.interception) c.args.rest.now c.args.thrown (state_before m pool store) c.args.action _ _ (sym c.round_of.ensures ∙ c.in-Some.is))
    ∙ c.begin_round.ensures.goes S n pool store

pub returns-in-Some-clause-sound : goal.returns-in-Some-clause-sound
returns-in-Some-clause-sound c =
    let S = c.args.setup.now.scenario in
    let m = c.args.self.now in
    let scope = c.args.call.interception.scope in
    let completing = c.requires.completing in
    let (due, intercepted, released, ended) = round_due S c.args.call.method scope (standing_of m.context) c.args.rest.now c.args.action _ _
    (sym c.round_of.ensures ∙ c.in-Some.is) completing.due completing.intercepted in
    let below : below_rest scope (c.args.action ∷ c.args.rest.now) (standing_of m.context)
    ≡ standing_under scope.suspended (without_own (releases c.args.rest.now) (scope.owns && ends_after c.in-Some.round c.args.rest.now) (standing_of m.context)) =
    λ k. standing_under scope.suspended (without_own (released k) (scope.owns && ended k) (standing_of m.context)) in
    subst (IsSound S c.begin_round.new.self) (sym c.begin_round.ensures.held)
    (c.begin_round.ensures.sound S (record { call = completing.call; intercepted = intercepted; due = due; class = completing.class }) (subst (IsApart S m) below c.requires.apart))

pub returns-in-CommitStore-clause-goes : goal.returns-in-CommitStore-clause-goes
unfolding acts
returns-in-CommitStore-clause-goes c n pool store =
    let ends = c.end_session-tx.ensures in
    asks_store c.args.setup.now.scenario n c.args.self.now c.end_session-tx.new.self _ c.args.call c.args.rest c.args.thrown _ _ Stage.Committing _ pool store c.put_back.ensures c.in-CommitStore.is (λ st. refl) ends.rest (sym ends.context) ends.number

pub returns-in-RollbackStore-clause-goes : goal.returns-in-RollbackStore-clause-goes
unfolding acts
returns-in-RollbackStore-clause-goes c n pool store =
    let ends = c.end_session-tx-in-RollbackStore.ensures in
    asks_store c.args.setup.now.scenario n c.args.self.now c.end_session-tx-in-RollbackStore.new.self _ c.args.call c.args.rest c.args.thrown _ _ Stage.RollingBack _ pool store c.put_back-in-RollbackStore.ensures c.in-RollbackStore.is (λ st. refl) ends.rest (sym ends.context) ends.number

pub returns-in-ThrowUnexpected-clause-sound : goal.returns-in-ThrowUnexpected-clause-sound
returns-in-ThrowUnexpected-clause-sound c =
    let S = c.args.setup.now.scenario in
    let m = c.args.self.now in
    let completing = subst (λ a. IsCompleting S (rank_at S m) c.args.call (standing_of m.context) (a ∷ c.args.rest.now) c.args.thrown) c.in-ThrowUnexpected.is c.requires.completing in
    let apart = subst (λ a. IsApart S m (below_rest c.args.call.interception.scope (a ∷ c.args.rest.now) (standing_of m.context))) c.in-ThrowUnexpected.is c.requires.apart in
    let class = built_in_known S UNEXPECTED_ROLLBACK_EXCEPTION c.requires.playable (omega arith) in
    subst (IsSound S c.go_on_with.new.self) (sym c.go_on_with.ensures.held)
    (c.go_on_with.ensures.sound S (record { call = completing.call; intercepted = record { attribute = completing.intercepted.attribute; shelters = completing.intercepted.shelters }; due = completing.due; class = class })
    (record { calls = apart.calls; top = apart.top; holds = apart.holds }))

pub returns-in-GiveBack-clause-sound : goal.returns-in-GiveBack-clause-sound
returns-in-GiveBack-clause-sound c =
    let parts = c.part-bound.ensures in
    gives_back_sound c.args.setup.now.scenario c.args.self.now c.part-bound.new.self _ c.args.call c.args.rest c.args.thrown _ _ c.put_back-in-GiveBack.ensures c.in-GiveBack.is c.requires.completing c.requires.apart parts.rest parts.context parts.connection

pub returns-in-BackToPoint-clause-goes : goal.returns-in-BackToPoint-clause-goes
unfolding acts
returns-in-BackToPoint-clause-goes c n pool store =
    asks_store c.args.setup.now.scenario n c.args.self.now c.args.self.now _ c.args.call c.args.rest c.args.thrown _ _ Stage.GoingBack _ pool store c.put_back-in-BackToPoint.ensures c.in-BackToPoint.is (λ st. refl) refl refl c.transaction-tx.ensures

pub returns-in-ReleasePoint-clause-goes : goal.returns-in-ReleasePoint-clause-goes
unfolding acts
returns-in-ReleasePoint-clause-goes c n pool store =
    let leaves = c.leave_point-tx.ensures in
    let m = c.args.self.now in
    let kept = leaves.rest ∙ (λ k. record m { context = c.leave_point-tx.new.self.context; tokens = sym (ap (λ z. z.tokens) leaves.rest) k }) in
    asks_store c.args.setup.now.scenario n m c.leave_point-tx.new.self _ c.args.call c.args.rest c.args.thrown _ _ Stage.Releasing _ pool store c.put_back-in-ReleasePoint.ensures c.in-ReleasePoint.is (λ st. refl) kept (sym leaves.context) leaves.number

pub returns-in-ReleasePoint-clause-sound : goal.returns-in-ReleasePoint-clause-sound
returns-in-ReleasePoint-clause-sound c =
    let leaves = c.leave_point-tx.ensures in
    releases_sound c.args.setup.now.scenario c.args.self.now c.leave_point-tx.new.self _ c.args.call c.args.rest c.args.thrown _ _ c.put_back-in-ReleasePoint.ensures c.in-ReleasePoint.is c.requires.completing c.requires.apart leaves.rest leaves.context leaves.bond
