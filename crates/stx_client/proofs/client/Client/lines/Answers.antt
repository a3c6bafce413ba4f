-- The lines are those of the script, which has read every note.
use Rattle.std.proofs.Common.{sym}
use Rattle.stx_client.specs.inner.Keeps.{held_while}
use Rattle.stx_client.proofs.ClientLaws.{said_now, reads_now}
use Rattle.stx_client.proofs.client.Client.lines.Goals as goal

pub returns-clause-exact : goal.returns-clause-exact
returns-clause-exact c =
    let i = c.self.inside in
    let k = c.self.invariant.0 in
    rw (← c.self.view_is, c.as_slice.ensures) (λ ok.
    record {
      lines = sym (said_now i.setup.now.scenario i.number i.machine i.notes.pool.items i.notes.store.items (k.runs ok) (held_while i.is_out i.machine.stage) (k.waiting ok));
      read = reads_now i.setup.now.scenario i.number i.machine i.notes.pool.items i.notes.store.items (k.runs ok) (held_while i.is_out i.machine.stage) (k.waiting ok);
    })
