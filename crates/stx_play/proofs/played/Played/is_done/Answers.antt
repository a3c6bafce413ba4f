-- A client is done where its script is.
use Rattle.std.proofs.Common.{◌≡◌, ◌∙◌, ◌<◌, Some, refl, sym, ap, subst}
use Rattle.std.proofs.lemmas.Bool.{false≢true}
use Rattle.stx_base.specs.declared.call.Want.{Want}
use Rattle.stx_model.specs.Played.{want_so_far}
use Rattle.stx_play.specs.inner.Turning.{turns_of}
use Rattle.stx_play.proofs.PlayedLaws.{at_client, want_at}
use Rattle.stx_play.proofs.played.Played.is_done.Goals as goal

pub index-requires : goal.index-requires
index-requires c =
    let at = at_client c.self.invariant c.args.self.now c.self.view_is c.requires.going c.args.client c.requires.client in
    subst (λ n. c.args.client < n) (sym c.self.inside.clients.ok.0) at.inside

pub returns-in-Done : goal.returns-in-Done
returns-in-Done c =
    let i = c.self.inside in
    let at = at_client c.self.invariant c.args.self.now c.self.view_is c.requires.going c.args.client c.requires.client in
    let want = want_at i.setup.now.scenario i.pool i.store i.clients.items at.going c.args.client c.index.result.now c.wants.result at.below c.index.ensures c.wants.ensures.want in
    rw (← c.self.view_is) ((λ _. want ∙ ap Some c.in-Done.is), (λ _. refl))

pub returns-in_default : goal.returns-in_default
returns-in_default c =
    let i = c.self.inside in
    let at = at_client c.self.invariant c.args.self.now c.self.view_is c.requires.going c.args.client c.requires.client in
    let want : want_so_far i.setup.now.scenario (turns_of i.pool i.store) c.args.client ≡ Some c.wants.result =
    want_at i.setup.now.scenario i.pool i.store i.clients.items at.going c.args.client c.index.result.now c.wants.result at.below c.index.ensures c.wants.ensures.want in
    rw (← c.self.view_is) (
      (λ never. absurd (false≢true never)),
      (λ done.
          let same : c.wants.result ≡ Want.Done = cc in
          absurd (c.in_default.not-Done same)),
    )
