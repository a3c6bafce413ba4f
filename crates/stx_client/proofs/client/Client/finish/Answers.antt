-- The lines are those of the script.
use Rattle.std.proofs.Common.{◌∙◌, sym, ap}
use Rattle.stx_model.specs.Meanings.{state_of}
use Rattle.stx_client.specs.View.{script_of}
use Rattle.stx_client.specs.inner.Keeps.{held_while}
use Rattle.stx_client.proofs.ClientLaws.{going, stops_now}
use Rattle.stx_client.proofs.client.Client.finish.Goals as goal

pub returns : goal.returns
returns c =
    let i = c.self.inside in
    let k = c.self.invariant.0 in
    let ok = going i.is_out k c.args.self c.self.view_is c.requires.failed in
    let stops = stops_now i.setup.now.scenario i.number i.machine i.notes.pool.items i.notes.store.items (k.runs ok) (held_while i.is_out i.machine.stage) (k.waiting ok) in
    c.into_lines.ensures ∙ sym (ap (λ v. (state_of (script_of v)).lines) (sym c.self.view_is) ∙ ap (λ r. (state_of r).lines) stops)
