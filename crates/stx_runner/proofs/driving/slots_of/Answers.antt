-- One slot more, and all of them.
use Rattle.std.proofs.Common.{rules}
use Rattle.stx_runner.proofs.DriveLaws.{filling_starts, filling_more, filled_all}
use Rattle.stx_runner.proofs.driving.slots_of.Goals as goal

pub loop-backend-init : goal.loop-backend-init
loop-backend-init c =
    filling_starts c.args.setup.now.scenario c.args.cells.now c.new-slots.result.items c.into_iter-backend-iterator.result.rest.items c.args.backends
    c.new-slots.ensures.items (search rules) c.requires.fresh

pub loop-backend-preserved : goal.loop-backend-preserved
loop-backend-preserved c =
    filling_more c.args.setup.now.scenario c.args.cells.now c.loop-backend.slots.items c.loop-backend.backend-iterator.rest.items c.in-Some.backend c.next.new.self.rest.items
    c.in_ok-new.field-0 c.push.new.self.items c.loop-backend.invariant (search rules) c.in_ok-new.ensures.0 c.in_ok-new.ensures.1 c.in_ok-push.ensures.items

pub returns : goal.returns
returns c = filled_all c.args.setup.now.scenario c.args.cells.now c.loop-backend.slots.items c.loop-backend.backend-iterator.rest.items c.loop-backend.invariant (search rules)
