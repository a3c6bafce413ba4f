-- The call is that of the stage's want, which is where the script stops.
use Rattle.std.proofs.Common.{◌∙◌, sym, ap}
use Rattle.stx_base.specs.declared.call.Want.{Want}
use Rattle.stx_client.proofs.ClientLaws.{going, want_is, wants_one}
use Rattle.stx_client.proofs.client.Client.next.Goals as goal

pub unreachable-requires : goal.unreachable-requires
unreachable-requires c =
    let i = c.self.inside in
    let k = c.self.invariant.0 in
    let ok = going i.is_out k c.args.self.now c.self.view_is c.requires.failed in
    let n = c.in_default in
    wants_one i.machine.stage c.want.result c.want.ensures (k.waiting ok).waits ok
    (λ done. c.requires.more (want_is i.is_out k c.args.self.now c.self.view_is c.requires.failed Want.Done (sym c.want.ensures ∙ done)))
    n.not-Take n.not-Give n.not-Begin n.not-Access n.not-Auto n.not-Point n.not-BackTo n.not-Release n.not-Commit n.not-Rollback

pub returns-in-Take-clause-want : goal.returns-in-Take-clause-want
returns-in-Take-clause-want c = want_is c.self.inside.is_out c.self.invariant.0 c.args.self.now c.self.view_is c.requires.failed Want.Take (sym c.want.ensures ∙ c.in-Take.is)

pub returns-in-Give-clause-want : goal.returns-in-Give-clause-want
returns-in-Give-clause-want c = want_is c.self.inside.is_out c.self.invariant.0 c.args.self.now c.self.view_is c.requires.failed (Want.Give c.spend_connection.result) (sym c.want.ensures ∙ (c.in-Give.is ∙ ap Want.Give (sym c.spend_connection.ensures.connection)))

pub returns-in-Begin-clause-want : goal.returns-in-Begin-clause-want
returns-in-Begin-clause-want c = want_is c.self.inside.is_out c.self.invariant.0 c.args.self.now c.self.view_is c.requires.failed Want.Begin (sym c.want.ensures ∙ c.in-Begin.is)

pub returns-in-Access-clause-want : goal.returns-in-Access-clause-want
returns-in-Access-clause-want c = want_is c.self.inside.is_out c.self.invariant.0 c.args.self.now c.self.view_is c.requires.failed (Want.Access c.in-Access.tx c.in-Access.access) (sym c.want.ensures ∙ c.in-Access.is)

pub returns-in-Auto-clause-want : goal.returns-in-Auto-clause-want
returns-in-Auto-clause-want c = want_is c.self.inside.is_out c.self.invariant.0 c.args.self.now c.self.view_is c.requires.failed (Want.Auto c.in-Auto.access) (sym c.want.ensures ∙ c.in-Auto.is)

pub returns-in-Commit-clause-want : goal.returns-in-Commit-clause-want
returns-in-Commit-clause-want c = want_is c.self.inside.is_out c.self.invariant.0 c.args.self.now c.self.view_is c.requires.failed (Want.Commit c.spend_session.result) (sym c.want.ensures ∙ (c.in-Commit.is ∙ ap Want.Commit (sym c.spend_session.ensures.session)))

pub returns-in-Rollback-clause-want : goal.returns-in-Rollback-clause-want
returns-in-Rollback-clause-want c = want_is c.self.inside.is_out c.self.invariant.0 c.args.self.now c.self.view_is c.requires.failed (Want.Rollback c.spend_session-in-Rollback.result) (sym c.want.ensures ∙ (c.in-Rollback.is ∙ ap Want.Rollback (sym c.spend_session-in-Rollback.ensures.session)))

pub returns-in-Point-clause-want : goal.returns-in-Point-clause-want
returns-in-Point-clause-want c = want_is c.self.inside.is_out c.self.invariant.0 c.args.self.now c.self.view_is c.requires.failed (Want.Point c.in-Point.tx) (sym c.want.ensures ∙ c.in-Point.is)

pub returns-in-BackTo-clause-want : goal.returns-in-BackTo-clause-want
returns-in-BackTo-clause-want c = want_is c.self.inside.is_out c.self.invariant.0 c.args.self.now c.self.view_is c.requires.failed (Want.BackTo c.in-BackTo.tx) (sym c.want.ensures ∙ c.in-BackTo.is)

pub returns-in-Release-clause-want : goal.returns-in-Release-clause-want
returns-in-Release-clause-want c = want_is c.self.inside.is_out c.self.invariant.0 c.args.self.now c.self.view_is c.requires.failed (Want.Release c.in-Release.tx) (sym c.want.ensures ∙ c.in-Release.is)
