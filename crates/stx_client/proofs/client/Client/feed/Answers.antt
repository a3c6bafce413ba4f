-- A note more is taken in: what was said before is still its beginning, and the machine goes on.
use Rattle.std.proofs.Common.{◌≡◌, ◌∙◌, ◌++◌, false, sym, ap}
use Rattle.stx_base.specs.Notes.{note_of}
use Rattle.stx_machine.specs.Machine.{has_failed}
use Rattle.stx_machine.specs.Sound.{held}
use Rattle.stx_model.specs.Reads.{pool_with, store_with}
use Rattle.stx_client.specs.inner.Keeps.{RunsOn}
use Rattle.stx_client.proofs.ClientLaws.{fed_is, goes_whatever, going, out_is, reads_now, runs_with, said_now}
use Rattle.stx_client.proofs.client.Client.feed.Goals as goal

runs_on : (c : goal.In_default) → RunsOn c.self.inside.setup.now.scenario c.self.inside.number c.hear-heard.new.machine c.hear-heard.new.notes.pool.items c.hear-heard.new.notes.store.items
runs_on c =
    let i = c.self.inside in
    let k = c.self.invariant.0 in
    let S = i.setup.now.scenario in
    let ok : has_failed i.machine.stage ≡ false = going i.is_out k c.args.self.now c.self.view_is c.requires.failed in
    let note = c.note_of-note.result in
    let pool_is : c.hear-heard.new.notes.pool.items ≡ pool_with i.notes.pool.items note = c.hear-heard.ensures.pool ∙ c.push.ensures.pool in
    let store_is : c.hear-heard.new.notes.store.items ≡ store_with i.notes.store.items note = c.hear-heard.ensures.store ∙ c.push.ensures.store in
    rw (pool_is, store_is)
    (runs_with S i.number i.machine i.notes.pool.items i.notes.store.items (k.runs ok) note c.hear-heard.new.machine
    (goes_whatever S i.number note i.machine c.note_of-note.new.tokens c.hear-heard.new.machine c.in_default.ensures.goes))

pub returns-clause-ok : goal.returns-clause-ok
returns-clause-ok c =
    let i = c.self.inside in
    let k = c.self.invariant.0 in
    let S = i.setup.now.scenario in
    let ok = going i.is_out k c.args.self.now c.self.view_is c.requires.failed in
    let out = out_is i.is_out k c.args.self.now c.self.view_is c.requires.failed c.args.reply c.requires.reply in
    let new = c.hear-heard.new in
    let waiting = c.in_default.ensures.waiting in
    fed_is S i.number i.machine i.is_out i.notes.pool.items i.notes.store.items c.args.self.now c.args.reply c.note_of-note.result
    new.machine new.notes.pool.items new.notes.store.items c.self.view_is out ok
    (ap (λ w. note_of w c.args.reply) (sym c.want-want.ensures) ∙ c.note_of-note.ensures.note)
    (c.hear-heard.ensures.pool ∙ c.push.ensures.pool) (c.hear-heard.ensures.store ∙ c.push.ensures.store) waiting.going
    (said_now S i.number new.machine new.notes.pool.items new.notes.store.items (runs_on c) (held new.machine.stage) waiting)

pub returns-clause-read : goal.returns-clause-read
returns-clause-read c =
    let i = c.self.inside in
    let new = c.hear-heard.new in
    reads_now i.setup.now.scenario i.number new.machine new.notes.pool.items new.notes.store.items (runs_on c) (held new.machine.stage) c.in_default.ensures.waiting

pub returns-clause-longer : goal.returns-clause-longer
returns-clause-longer c =
    let (more, is) = c.hear-heard.ensures.longer in
    (more, is ∙ ap (λ v. v.said ++ more) c.self.view_is)
