-- It is suspended.
use Rattle.std.proofs.Common.{◌∙◌, length, sym, ap, subst}
use Rattle.stx_machine.specs.Machine.{SuspendsIf}
use Rattle.stx_machine.proofs.machine.Machine.suspend_if.Goals as goal

pub returns-then-suspends-clause-suspends : goal.returns-then-suspends-clause-suspends
returns-then-suspends-clause-suspends c =
    let m = c.args.self.now in
    let after = c.suspend.new.self in
    let s = c.suspend.ensures.suspends in
    subst (λ b. SuspendsIf b (length c.args.told.now) m after) (sym c.if-suspends.true) (record {
      state = s.state;
      rest = s.rest ∙ (λ i. record m { context = sym (ap (λ z. z.context) s.rest) i; lines = after.lines });
      room = s.room;
      longer = s.longer;
    })
