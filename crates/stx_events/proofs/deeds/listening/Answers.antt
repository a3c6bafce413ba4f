-- One listener more.
use Rattle.std.proofs.Common.{◌==◌, arith}
use Rattle.std.proofs.lemmas.Grind.{common_steps}
use Rattle.std.proofs.lemmas.List.{map-append, append-nil}
use Rattle.stx_events.proofs.Numbered.{filter_numbered_more}
use Rattle.stx_events.proofs.deeds.listening.Goals as goal
use Rattle.stx_events.proofs.deeds.listening.Goals.{then-eq+in_ok-push, else-eq}

pub loop-number-preserved : goal.loop-number-preserved
loop-number-preserved c =
    let more = filter_numbered_more (λ l. l.1.event.0 == c.args.event.0) c.args.listeners.now c.loop-number.number c.index-listeners-number.result c.loop-number-test.true in
    elim c.if-eq.branch [
      | then-eq+in_ok-push w ↦ grind (arith, common_steps, more, map-append, append-nil)
      | else-eq w ↦ grind (arith, common_steps, more, append-nil)
    ]
