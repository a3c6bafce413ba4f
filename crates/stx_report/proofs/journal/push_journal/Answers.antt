-- One entry more, a commit or none, and none left.
use Rattle.std.proofs.Common.{◌+◌, refl, sym, ◌∙◌, arith}
use Rattle.stx_report.specs.inner.Commits.{made_words}
use Rattle.stx_report.proofs.TextLaws.{commit_step, other_step, journal_end}
use Rattle.stx_report.proofs.journal.push_journal.Goals as goal
use Rattle.stx_report.proofs.journal.push_journal.Goals.{in-Some+in_ok-push_commit, in_default}

pub loop-index-preserved : goal.loop-index-preserved
loop-index-preserved c =
    elim c.match-made_by.branch [
      | in-Some+in_ok-push_commit w ↦ (
        rw (w.out-is, w.commits-is)
            (commit_step (c.loop-index.commits + 1) c.loop-index.index c.args.entries.now _ _ (made_words w.in-Some.made) _ _ _ c.loop-index-test.true refl
            (sym c.made_by.ensures ∙ rw w.in-Some.is refl)
            w.in_ok-push_commit.ensures
            c.loop-index.invariant.0),
        omega arith,
      )
      | in_default w ↦ (
        rw (w.out-is, w.commits-is)
            (other_step (c.loop-index.commits + 1) c.loop-index.index c.args.entries.now _ _ _ _ c.loop-index-test.true refl
            (sym c.made_by.ensures ∙ rw w.in_default.is refl)
            c.loop-index.invariant.0),
        omega arith,
      )
    ]

pub returns : goal.returns
returns c =
    journal_end (c.loop-index.commits + 1) c.loop-index.index c.args.entries.now _ _ c.loop-index-test.false c.loop-index.invariant.0
