-- One client more that has ended, and all of them.
use Rattle.std.proofs.Common.{rules}
use Rattle.stx_runner.proofs.DriveLaws.{ending_starts, ending_more, ended_all}
use Rattle.stx_runner.proofs.driving.end_all.Goals as goal

pub loop-slot-init : goal.loop-slot-init
loop-slot-init g c =
    ending_starts c.args.setup.now.scenario c.args.cells.now c.new-lines.result c.new-backends.result c.into_iter-slot-iterator.result.rest.items c.args.slots.items
    c.new-lines.ensures c.new-backends.ensures (search rules) c.requires

pub loop-slot-preserved : goal.loop-slot-preserved
loop-slot-preserved g c =
    ending_more c.args.setup.now.scenario c.args.cells.now c.loop-slot.lines c.loop-slot.backends c.loop-slot.slot-iterator.rest.items c.in-Some.slot c.next.new.self.rest.items
    c.finish.new.self c.in_ok-said.said c.in_ok-said.backend c.push.new.self c.push-in-loop-slot.new.self c.loop-slot.invariant (search rules) c.finish.ensures.keeps
    c.in_ok-said.ensures.0 c.in_ok-said.ensures.1 c.in_ok-push.ensures.ok c.in_ok-push-2.ensures.ok

pub returns : goal.returns
returns g c = ended_all c.args.setup.now.scenario c.args.cells.now c.loop-slot.lines c.loop-slot.backends c.loop-slot.slot-iterator.rest.items c.loop-slot.invariant (search rules)
