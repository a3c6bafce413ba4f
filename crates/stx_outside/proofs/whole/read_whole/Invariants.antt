use Rattle.std.proofs.Common.{◌≡◌, ◌≤◌, ◌+◌, ◌-◌, vec_len}
use Rattle.stx_outside.specs.Streams.{LosesFront}
use Rattle.stx_outside.proofs.whole.read_whole.Given as goal

abbrev pub invariant-pieces : goal.invariant-pieces
invariant-pieces g l = record {
  front : LosesFront (g.S.Source.left l.fn.source) (g.S.Source.left l.source) l.all.items;
  within : vec_len l.all ≤ l.limit;
  kept : g.S.Source.faults l.source ≡ g.S.Source.faults l.fn.source;
  turns : g.S.Source.turns l.source ≤ g.S.Source.turns l.fn.source + vec_len l.all;
}

abbrev pub decreases-pieces : goal.decreases-pieces
decreases-pieces g l = l.limit - vec_len l.all
