-- The deeds of those listeners in that order.
use Rattle.std.proofs.Common.{◌≡◌, ◌&&◌, refl}
use Rattle.stx_model.specs.Listeners.{deeds}
use Rattle.stx_events.proofs.deeds.on_publish.Goals as goal
use Rattle.stx_events.proofs.deeds.on_publish.Goals.{then-syncs_active, else-syncs_active}

pub returns : goal.returns
unfolding deeds
returns c =
    let registers : c.if-syncs_active.deeds_with ≡ (c.args.syncs_active && c.args.tx_live) =
    elim c.if-syncs_active.branch [
      | then-syncs_active w ↦ rw (w.deeds_with-is, w.if-syncs_active.true) refl
      | else-syncs_active w ↦ rw (w.deeds_with-is, w.if-syncs_active.false) refl
    ] in
    rw (registers, c.deref.ensures.value, c.in_ok-heard.ensures) at c.deeds_with.ensures
