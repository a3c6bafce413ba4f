-- The number of the call fits, and fewer calls are left.
use Rattle.std.proofs.Common.{rules, arith, ◌<◌, ◌^◌, ◌+◌, subst}
use Rattle.stx_runner.specs.inner.Slots.{calls_left}
use Rattle.stx_runner.proofs.SlotLaws.{calls_few, left_falls, slot_of, some_left}
use Rattle.stx_runner.proofs.slot.Slot.step.Goals as goal

pub overflow_add-nth : goal.overflow_add-nth
overflow_add-nth g c =
    let few : c.self.inside.calls < 2 ^ 32 = calls_few c.self.inside.client c.self.inside.backend c.self.inside.calls c.self.inside.refused c.self.invariant (search rules) in
    omega (arith, few)

pub returns-in-Ok-clause-left : goal.returns-in-Ok-clause-left
returns-in-Ok-clause-left g c =
    let slot = c.self.inside in
    let heard = c.call_and_hear-heard.new in
    subst (λ old. calls_left (slot_of heard.client heard.backend (slot.calls + 1) slot.refused) < calls_left old) c.self.view_is
    (left_falls slot.client slot.backend slot.calls slot.refused c.self.invariant (search rules) heard.client heard.backend c.in-Ok.ensures.client)

pub returns-in-Err-clause-left : goal.returns-in-Err-clause-left
returns-in-Err-clause-left g c =
    subst (λ old. 0 < calls_left old) c.self.view_is
    (some_left c.self.inside.client c.self.inside.backend c.self.inside.calls c.self.inside.refused c.self.invariant (search rules))
