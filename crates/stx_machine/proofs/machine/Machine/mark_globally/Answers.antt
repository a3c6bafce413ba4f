-- The transaction that is bound is marked.
use Rattle.std.proofs.Common.{◌∙◌, List, sym, ap}
use Rattle.stx_base.specs.declared.line.Line.{Line}
use Rattle.stx_model.specs.Meanings.{State, Result, say}
use Rattle.stx_model.specs.Scopes.{acts}
use Rattle.stx_context.specs.Carrying.{context_of}
use Rattle.stx_machine.specs.declared.machine.Machine.{Machine}
use Rattle.stx_machine.specs.Machine.{acts_of, state_before, state_with, onward}
use Rattle.stx_machine.proofs.machine.Machine.mark_globally.Goals as goal

pub returns-clause-goes : goal.returns-clause-goes
unfolding acts
returns-clause-goes c S n pool store =
    let m = c.args.self.now in
    let after = c.mark_holder.new.self in
    let at : Machine → State → Result = λ z st. onward S n z (acts_of S c.args.call c.args.rest.now c.args.thrown st) in
    let said : List Line → State = λ ls. record (state_before after pool store) { lines = ls } in
    ap (λ x. at m (say Line.MarkGlobal (state_with m x pool store))) (sym c.mark_holder.ensures.context)
    ∙ ap (λ z. at z (say Line.MarkGlobal (state_with z (context_of after.context) pool store))) (sym c.mark_holder.ensures.rest)
    ∙ ap (λ ls. at after (said ls)) (sym c.push.ensures.items)
    ∙ c.go_on_with.ensures.goes S n pool store
