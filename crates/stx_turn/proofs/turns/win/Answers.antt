use Rattle.std.proofs.Common.{rules, refl}
use Rattle.stx_turn.proofs.Winning.{wins}
use Rattle.stx_turn.proofs.turns.win.Goals as goal

pub compare_exchange-requires : goal.compare_exchange-requires
compare_exchange-requires g c = (
  search rules,
  search rules,
  wins _ _ _ _ _ g.met.V.Logged.legal_is_short _ _ _ c.args.word _ c.requires.even.0 refl c.requires.place.live c.requires.place.later,
)
