-- A method with an attribute is intercepted, one without runs in its caller's context.
use Rattle.std.proofs.Common.{◌≡◌, ◌∙◌, List, Some, None, sym, ap}
use Rattle.std.specs.Option.{option_copied}
use Rattle.stx_base.specs.declared.line.Line.{Line}
use Rattle.stx_base.specs.Attributes.{attribute}
use Rattle.stx_model.specs.Meanings.{Result, State, Over, finally}
use Rattle.stx_model.specs.Statements.{caught}
use Rattle.stx_machine.specs.Machine.{state_before, opened, body_after, onward}
use Rattle.stx_machine.proofs.CallLaws.{called_with, called_without}
use Rattle.stx_machine.proofs.machine.Machine.call.Goals as goal

pub returns-in-Some-clause-goes : goal.returns-in-Some-clause-goes
returns-in-Some-clause-goes c n pool store =
    let S = c.args.setup.now.scenario in
    let m = c.args.self.now in
    let is : attribute S c.args.method ≡ Some c.in-Some.attribute.now = sym (c.of.ensures.attribute S c.args.setup.now.attributes_are) ∙ ap option_copied c.in-Some.is in
    let rest : Result → Result = onward S n m in
    let said : List Line → State = λ ls. record (state_before m pool store) { lines = ls } in
    ap rest (called_with S c.args.method c.args.catch (state_before m pool store) c.in-Some.attribute.now is)
    ∙ ap (λ ls. rest (finally (opened S c.args.method (said ls)) (caught S c.args.catch))) (sym c.push.ensures.items)

pub returns-in-None-clause-goes : goal.returns-in-None-clause-goes
returns-in-None-clause-goes c n pool store =
    let S = c.args.setup.now.scenario in
    let m = c.args.self.now in
    let is : attribute S c.args.method ≡ None = sym (c.of.ensures.attribute S c.args.setup.now.attributes_are) ∙ ap option_copied c.in-None.is in
    let rest : Result → Result = onward S n m in
    let said : List Line → State = λ ls. record (state_before m pool store) { lines = ls } in
    ap rest (called_without S c.args.method c.args.catch (state_before m pool store) is)
    ∙ ap (λ ls. rest (body_after S c.args.method 0 c.args.catch None (Over None (said ls)))) (sym c.push-in-None.ensures.items)
    ∙ c.enter.ensures.goes S n pool store
