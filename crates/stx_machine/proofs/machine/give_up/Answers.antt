-- After the last frame none is left.
use Rattle.stx_machine.proofs.Stacks.{nothing_left}
use Rattle.stx_machine.proofs.machine.give_up.Goals as goal

pub done-requires : goal.done-requires
done-requires c = (nothing_left c.loop-frame.frames.items c.pop.new.self.items c.pop.result c.in_default.is c.pop.ensures.items c.pop.ensures.value).1
