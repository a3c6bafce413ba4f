use Rattle.std.proofs.Common.{rules}
use Rattle.stx_turn.proofs.Splitting.{splits}
use Rattle.stx_turn.proofs.cell.TurnCell.split.Goals as goal

pub split_seat-place-requires : goal.split_seat-place-requires
split_seat-place-requires g c =
    let room = c.from.view_is in
    (search rules, search rules, splits _ _ _ _ _ _ _ (search rules) (search rules) c.from.invariant.free)
