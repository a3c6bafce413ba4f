-- The names of the items so far.
use Rattle.std.proofs.Common.{◌≡◌, map, take}
use Rattle.stx_names.proofs.named.names_from.Given as goal

abbrev pub invariant-loop-item : goal.invariant-loop-item
invariant-loop-item g l = l.names ≡ map g.T.HasName.name_of (take l.item-index l.items)
