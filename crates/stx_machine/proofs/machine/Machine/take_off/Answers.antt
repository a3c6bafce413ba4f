-- The innermost call is an intercepted one.
use Rattle.std.proofs.Common.{◌∙◌, sym, ap, subst}
use Rattle.std.specs.Prelude.{reverse}
use Rattle.stx_machine.specs.Machine.{IsIntercepting}
use Rattle.stx_machine.proofs.Stacks.{none_left}
use Rattle.stx_machine.proofs.machine.Machine.take_off.Goals as goal

pub unreachable-requires : goal.unreachable-requires
unreachable-requires c =
    subst IsIntercepting (ap reverse (none_left c.args.self.now.frames.items (sym c.in-None.is ∙ c.pop.ensures.value))) c.requires.top
