-- The call waits for its savepoint.
use Rattle.std.proofs.Common.{◌∙◌, ℕ, ap}
use Rattle.stx_base.specs.declared.call.Want.{Want}
use Rattle.stx_model.specs.Meanings.{Result, Meaning, ask}
use Rattle.stx_context.specs.Carrying.{context_of}
use Rattle.stx_machine.specs.declared.interception.Phase.{Phase}
use Rattle.stx_machine.specs.declared.stage.Stage.{Stage}
use Rattle.stx_machine.specs.Machine.{unwound, new_call, pointed, state_before, onward_caught}
use Rattle.stx_machine.proofs.Stacks.{live_is, put_on}
use Rattle.stx_machine.proofs.machine.Machine.open_point.Goals as goal

pub returns-clause-goes : goal.returns-clause-goes
unfolding unwound
returns-clause-goes c S n pool store =
    let m = c.args.self.now in
    let t = c.transaction-tx.result in
    let points : ℕ → Meaning = λ u. ask (Want.Point u) (λ _. pointed S c.args.method) in
    let at : Result → Result = onward_caught S n m c.args.catch in
    ap at (live_is (context_of m.context).tx t points (state_before m pool store) c.transaction-tx.ensures)
    ∙ put_on S n m c.push_call.new.self (new_call c.args.method c.args.catch c.new.result m.local Phase.Opening) (Stage.Pointing t) pool store c.push_call.ensures
