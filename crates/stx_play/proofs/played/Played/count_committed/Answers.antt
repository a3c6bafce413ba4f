-- The store's commits are those of the play's history.
use Rattle.std.proofs.Common.{length, ap, ◌∙◌}
use Rattle.stx_journal.specs.Journal.{committed_in}
use Rattle.stx_play.proofs.PlayedLaws.{goes_on}
use Rattle.stx_play.proofs.played.Played.count_committed.Goals as goal

pub returns : goal.returns
returns c =
    let i = c.self.inside in
    let going = goes_on c.self.invariant c.args.self.now c.self.view_is c.requires in
    ap length (c.committed.ensures ∙ ap (λ f. committed_in f.values i.store.entries) going.cores.facts) ∙ ap (λ v. length (committed_in v.scenario.values v.so_far.store)) c.self.view_is
