use Rattle.std.proofs.Common.{◌∷◌, Some, ap, sym, ◌∙◌}
use Rattle.atomic_table.specs.Table.{rest}
use Rattle.stx_turn.proofs.turns.take_out.Goals as goal

pub exchange-requires : goal.exchange-requires
exchange-requires g c = let slot = c.requires.slot in (c.requires.table, (Some slot.0, slot.1 ∙ ap (λ l. (0, Some slot.0) ∷ l) (sym (ap rest slot.1))))
