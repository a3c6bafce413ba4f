-- The nested scope is open on its savepoint.
use Rattle.std.proofs.Common.{◌≡◌, ◌∙◌, None, false, refl, sym, ap, subst}
use Rattle.std.specs.Prelude.{◌<◌}
use Rattle.stx_base.specs.Limits.{most_calls}
use Rattle.stx_base.specs.declared.manager.Kind.{Kind}
use Rattle.stx_model.specs.Meanings.{Meaning, finally}
use Rattle.stx_model.specs.Statements.{caught}
use Rattle.stx_context.specs.Carrying.{context_of}
use Rattle.stx_manager.specs.Scopes.{new_scope}
use Rattle.stx_machine.specs.declared.interception.Phase.{Phase}
use Rattle.stx_machine.specs.declared.machine.Machine.{Machine}
use Rattle.stx_machine.specs.Machine.{Comes, stack, phase_after, pointed, started}
use Rattle.stx_steps.specs.Steps.{starts_pointed}
use Rattle.stx_machine.specs.Sound.{CallPoints, CallsRun, IsApart, IsCall, IsOpen, IsSound, PointsIn, Standing, below_scope, bond_of, no_tokens, one_more, rank_at, standing_of}
use Rattle.stx_steps.proofs.Coming.{comes_carried, comes_of, comes_off}
use Rattle.stx_machine.proofs.Stacks.{points_only}
use Rattle.stx_machine.proofs.Standings.{has_one_more_own, one_more_less}
use Rattle.stx_steps.proofs.answers.start_point.Goals as goal

pub returns-clause-goes : goal.returns-clause-goes
returns-clause-goes c S points =
    let call = c.take_off-call.result in
    let off = c.take_off-call.new.self in
    let after = c.start.new.self in
    let here = (subst (CallPoints S (standing_of c.args.machine.now.context)) c.take_off-call.ensures.call points).3 in
    let phase = points_only call.interception call.interception.phase here in
    let new : call.interception.scope ≡ new_scope Kind.Point false None = subst (PointsIn call.interception) phase here in
    let in_phase : Phase → Meaning = λ p st. finally (phase_after S call.method call.place call.interception p (pointed S call.method st)) (caught S call.catch) in
    let body : Meaning = λ st. finally (pointed S call.method st) (caught S call.catch) in
    comes_off S c.args.machine.now after off call (starts_pointed S) c.take_off-call.ensures.call c.take_off-call.ensures.rest
    (comes_of S off after in_phase call.interception.phase Phase.Opening body phase (λ st. refl)
    (comes_carried S off after body c.enter_point.new.machine c.enter_point.ensures.rest c.enter_point.ensures.context
    (subst (λ scope. Comes S c.enter_point.new.machine (λ st. finally (started S call.method scope st) (caught S call.catch)) after) (c.into_scope.ensures ∙ new) (c.start.ensures.goes S))))

pub returns-clause-sound : goal.returns-clause-sound
returns-clause-sound c S points top holds =
    let m = c.args.machine.now in
    let call = c.take_off-call.result in
    let i = call.interception in
    let off = c.take_off-call.new.self in
    let entered = c.enter_point.new.machine in
    let here = subst (CallPoints S (standing_of m.context)) c.take_off-call.ensures.call points in
    let new : i.scope ≡ new_scope Kind.Point false None = subst (PointsIn i) (points_only i i.phase here.3) here.3 in
    let scope = sym (c.into_scope.ensures ∙ new) in
    let before = standing_of m.context in
    let pointed : Standing = record { bond = one_more before.bond; syncs = before.syncs } in
    let was : m.context ≡ off.context = sym (ap (λ z. z.context) c.take_off-call.ensures.rest) in
    let now : pointed ≡ standing_of entered.context =
    (λ k. record { bond = one_more (bond_of (was k).tx); syncs = (context_of (was k)).syncs })
    ∙ (λ k. record { bond = sym c.enter_point.ensures.bond k; syncs = (sym c.enter_point.ensures.context k).syncs }) in
    let same : (P : Machine → Type 0) → P (record off { context = entered.context }) → P entered = λ P p. subst P (sym c.enter_point.ensures.rest) p in
    let below : CallsRun S (below_scope (new_scope Kind.Point false None) pointed) (stack off.frames) =
    subst (λ b. CallsRun S (record { bond = b; syncs = before.syncs }) (stack off.frames)) (sym (one_more_less before.bond)) here.5 in
    let early : off.top < most_calls = subst (λ z. z.top < most_calls) (sym c.take_off-call.ensures.rest) top in
    let held : off.tokens ≡ no_tokens = ap (λ z. z.tokens) c.take_off-call.ensures.rest ∙ holds in
    let sound = c.start.ensures.sound S (same (λ z. IsCall S (rank_at S z) call.method call.catch) here.0)
    (subst (λ s. IsOpen S call.method s (standing_of entered.context)) scope (subst (IsOpen S call.method (new_scope Kind.Point false None)) now (record {
      attribute = here.2;
      unmarked = refl;
      own = has_one_more_own before.bond here.4;
      shelters = tt;
    })))
    (subst (λ s. IsApart S entered (below_scope s (standing_of entered.context))) scope
    (subst (λ s. IsApart S entered (below_scope (new_scope Kind.Point false None) s)) now
    (same (λ z. IsApart S z (below_scope (new_scope Kind.Point false None) pointed)) (record { calls = below; top = early; holds = held })))) in
    subst (IsSound S c.start.new.self) (sym c.start.ensures.held) sound
