-- The stage wants what the script stops at.
use Rattle.std.proofs.Common.{◌∙◌, Some, sym, ap}
use Rattle.stx_model.specs.Meanings.{stop_of}
use Rattle.stx_client.specs.inner.Keeps.{held_while}
use Rattle.stx_client.proofs.ClientLaws.{stops_now}
use Rattle.stx_client.proofs.client.Client.wants.Goals as goal

pub returns-clause-want : goal.returns-clause-want
returns-clause-want c =
    let i = c.self.inside in
    let k = c.self.invariant.0 in
    rw (← c.self.view_is) (λ ok.
    ap stop_of (stops_now i.setup.now.scenario i.number i.machine i.notes.pool.items i.notes.store.items (k.runs ok) (held_while i.is_out i.machine.stage) (k.waiting ok))
    ∙ ap Some (sym c.want.ensures))
