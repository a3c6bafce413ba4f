use Rattle.std.proofs.Common.{rules, sym, ap}
use Rattle.stx_turn.proofs.Starting.{starts}
use Rattle.stx_turn.proofs.cell.TurnCell.new.Goals as goal

pub new-made-requires : goal.new-made-requires
new-made-requires g c = starts _ _ _ _ _ c.args.value _ (search rules) (ap g.V.Logged.fixed (sym c.of-about.ensures)) c.requires (g.met.V.Logged.empty_is_legal _)
