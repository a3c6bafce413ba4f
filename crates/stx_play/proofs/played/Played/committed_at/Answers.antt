-- The store's commits are those of the play's history.
use Rattle.std.proofs.Common.{Some, slice_get, ap, ◌∙◌}
use Rattle.stx_journal.specs.Journal.{committed_in}
use Rattle.stx_play.proofs.PlayedLaws.{goes_on}
use Rattle.stx_play.proofs.played.Played.committed_at.Goals as goal

pub returns-in_ok-copy-in-Some : goal.returns-in_ok-copy-in-Some
returns-in_ok-copy-in-Some c =
    let i = c.self.inside in
    let going = goes_on c.self.invariant c.args.self.now c.self.view_is c.requires in
    ap Some c.in_ok-copy-in-Some.ensures
    ∙ c.in-Some.ensures
    ∙ ap (λ l. slice_get l c.args.place) (c.committed.ensures ∙ ap (λ f. committed_in f.values i.store.entries) going.cores.facts)
    ∙ ap (λ v. slice_get (committed_in v.scenario.values v.so_far.store) c.args.place) c.self.view_is

pub returns-in-None : goal.returns-in-None
returns-in-None c =
    let i = c.self.inside in
    let going = goes_on c.self.invariant c.args.self.now c.self.view_is c.requires in
    c.in-None.ensures
    ∙ ap (λ l. slice_get l c.args.place) (c.committed.ensures ∙ ap (λ f. committed_in f.values i.store.entries) going.cores.facts)
    ∙ ap (λ v. slice_get (committed_in v.scenario.values v.so_far.store) c.args.place) c.self.view_is
