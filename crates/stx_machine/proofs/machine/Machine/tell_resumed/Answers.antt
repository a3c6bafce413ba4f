-- The registrations are told; then the completion goes on, or the call is refused.
use Rattle.std.proofs.Common.{◌≡◌, ◌∙◌, Some, true, refl, sym, ap, subst, arith}
use Rattle.std.specs.Prelude.{not, ◌&&◌}
use Rattle.std.specs.Option.{is_some}
use Rattle.stx_scenario.specs.declared.classes.TheConstants.{CANNOT_CREATE_TRANSACTION_EXCEPTION}
use Rattle.stx_base.specs.declared.line.Line.{Line}
use Rattle.stx_model.specs.Meanings.{say}
use Rattle.stx_model.specs.Scopes.{acts, leaves}
use Rattle.stx_context.specs.Carrying.{context_of}
use Rattle.stx_machine.specs.Machine.{AreTold, inside, scope_of}
use Rattle.stx_machine.specs.Sound.{IsApart, IsSound, ResumesIn, Shelters, below_rest, due_in, ends_syncs, standing_of}
use Rattle.stx_machine.proofs.Places.{built_in_known}
use Rattle.stx_machine.proofs.Standings.{below_none, unowned}
use Rattle.stx_machine.proofs.Telling.{goes_on_resumed, resumed_is}
use Rattle.stx_machine.proofs.machine.Machine.tell_resumed.Goals as goal

pub returns-in-Completing-clause-goes : goal.returns-in-Completing-clause-goes
returns-in-Completing-clause-goes c S n pool store =
    let call = c.take_off-call.result in
    let told = subst (λ rs. AreTold rs (context_of c.args.self.now.context)) (sym c.as_slice.ensures) c.requires.told in
    goes_on_resumed S c.args.self.now c.say_each.new.self c.take_off-call.new.self call c.say_each.ensures.rest c.take_off-call.ensures.call c.take_off-call.ensures.rest n _ _
    (acts S (inside S call.method) (scope_of call.method call.interception) c.in-Completing.rest.now c.in-Completing.thrown) pool store told c.say_each.ensures.said c.in-Completing.is (λ st. refl)
    ∙ c.go_on_with.ensures.goes S n pool store

pub returns-in-Completing-clause-sound : goal.returns-in-Completing-clause-sound
returns-in-Completing-clause-sound c S playable resumes early holds =
    let call = c.take_off-call.result in
    let scope = call.interception.scope in
    let off = c.take_off-call.new.self in
    let standing = standing_of off.context in
    let (is_call, attribute, resumed, apart) = resumed_is S c.args.self.now c.say_each.new.self off call c.say_each.ensures.rest c.take_off-call.ensures.call c.take_off-call.ensures.rest resumes early holds in
    let ends = subst (ResumesIn S call.interception) c.in-Completing.is resumed in
    let alone : not (is_some scope.suspended) ≡ true = ap (λ o. not (is_some o)) ends.1 in
    let last = sym ends.0 in
    let sound = c.go_on_with.ensures.sound S (record {
      call = is_call;
      intercepted = record { attribute = attribute; shelters = subst (λ rest. Shelters S call.method (scope.owns && ends_syncs rest) standing.syncs) last (unowned S call.method scope.owns standing.syncs) };
      due = subst (λ rest. due_in scope standing rest ≡ true) last alone;
      class = ends.2;
    }) (subst (IsApart S off) (sym (below_none scope standing alone) ∙ ap (λ rest. below_rest scope rest standing) last) apart) in
    subst (IsSound S c.go_on_with.new.self) (sym c.go_on_with.ensures.held) sound

pub returns-in-Opening-clause-goes : goal.returns-in-Opening-clause-goes
returns-in-Opening-clause-goes c S n pool store =
    let call = c.take_off-call.result in
    let told = subst (λ rs. AreTold rs (context_of c.args.self.now.context)) (sym c.as_slice.ensures) c.requires.told in
    goes_on_resumed S c.args.self.now c.say_each.new.self c.take_off-call.new.self call c.say_each.ensures.rest c.take_off-call.ensures.call c.take_off-call.ensures.rest n _ _
    (λ st. leaves call.method (Some CANNOT_CREATE_TRANSACTION_EXCEPTION) (say (Line.Throw CANNOT_CREATE_TRANSACTION_EXCEPTION) st)) pool store told c.say_each.ensures.said c.in-Opening.is (λ st. refl)
    ∙ c.refuse.ensures.goes S n pool store

pub returns-in-Opening-clause-sound : goal.returns-in-Opening-clause-sound
returns-in-Opening-clause-sound c S playable resumes early holds =
    let (is_call, attribute, resumed, apart) = resumed_is S c.args.self.now c.say_each.new.self c.take_off-call.new.self c.take_off-call.result c.say_each.ensures.rest c.take_off-call.ensures.call c.take_off-call.ensures.rest resumes early holds in
    c.refuse.ensures.sound S is_call (built_in_known S CANNOT_CREATE_TRANSACTION_EXCEPTION playable (omega arith)) (record { calls = apart.calls; top = apart.top; holds = apart.holds })
