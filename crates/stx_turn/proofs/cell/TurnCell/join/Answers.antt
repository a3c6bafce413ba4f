use Rattle.std.proofs.Common.{rules}
use Rattle.stx_turn.proofs.Joining.{joins}
use Rattle.stx_turn.proofs.cell.TurnCell.join.Goals as goal

pub join_seat-requires : goal.join_seat-requires
join_seat-requires g c =
    (search rules, search rules, search rules, search rules, joins _ _ _ _ _ _ _ _ _ (search rules) (search rules) c.into.invariant.free (search rules) (search rules) c.seat.invariant.free)
