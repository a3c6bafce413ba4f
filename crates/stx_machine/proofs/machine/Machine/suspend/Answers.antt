-- The registrations are told, and then the connection is unbound.
use Rattle.std.proofs.Common.{◌∙◌, ◌≤◌, false, length, map, sym, ap, arith, length-append}
use Rattle.stx_model.specs.Contexts.{bare}
use Rattle.stx_model.specs.Meanings.{with_context}
use Rattle.stx_model.specs.Scopes.{say_unbind}
use Rattle.stx_context.specs.Carrying.{context_of}
use Rattle.stx_context.specs.Carrying as carrying
use Rattle.stx_machine.specs.declared.machine.Machine.{Machine}
use Rattle.stx_machine.specs.Machine.{state_before, told_line}
use Rattle.stx_machine.proofs.Telling.{tells_lines, with_lines}
use Rattle.stx_machine.proofs.machine.Machine.suspend.Goals as goal

pub returns-clause-suspends : goal.returns-clause-suspends
returns-clause-suspends c =
    let m = c.args.self.now in
    let told = c.args.told.now in
    let said = c.say_each.new.self in
    let unbound = c.say_unbind.new.self in
    let says = c.say_unbind.ensures in
    let longer : length m.lines.items ≤ length said.lines.items =
    omega (arith, ap length c.say_each.ensures.said, length-append m.lines.items (map (λ r. told_line false r.label) told)) in
    record {
      state = λ pool store.
          let st = state_before m pool store in
          let tx = (context_of m.context).tx in
          ap (λ u. with_context bare (say_unbind tx u)) (tells_lines false told st c.requires.told)
          ∙ ap (λ ls. with_context bare (say_unbind tx (with_lines st ls))) (sym c.say_each.ensures.said)
          ∙ ap (λ (z : Machine). with_context bare (say_unbind (context_of z.context).tx (record (state_before z pool store) { lines = said.lines.items }))) (sym c.say_each.ensures.rest)
          ∙ ap (with_context bare) (says.state pool store)
          ∙ ap (λ x. record (state_before unbound pool store) { context = context_of x }) (sym c.suspend.ensures.left);
      rest = (λ i. record (says.rest i) { context = c.suspend.ensures.left i })
          ∙ (λ i. record (c.say_each.ensures.rest i) { context = carrying.bare; lines = unbound.lines });
      room = omega (arith, c.say_each.ensures.room, says.room);
      longer = omega (arith, longer, says.longer);
    }
