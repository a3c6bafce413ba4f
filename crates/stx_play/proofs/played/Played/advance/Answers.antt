-- A turn of a client that is done does nothing.
use Rattle.std.proofs.Common.{refl, sym, ap}
use Rattle.stx_model.proofs.Turns.{done_stays}
use Rattle.stx_play.proofs.played.Played.advance.Goals as goal

pub returns-then-is_done : goal.returns-then-is_done
returns-then-is_done c =
    let play = c.args.self.now in
    let done = c.if-is_done.ensures.0 refl in
    ap (λ t. record { scenario = play.scenario; so_far = t; failed = play.failed }) (sym (done_stays play.scenario play.so_far c.args.client done))
