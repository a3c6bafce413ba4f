-- A verb with a label.
use Rattle.std.proofs.Common.{sym}
use Rattle.stx_base.specs.Lines.{line_words}
use Rattle.stx_trace.proofs.lines.push_own.Goals as goal

pub returns-in-BeforeCompletion-clause-ok : goal.returns-in-BeforeCompletion-clause-ok
unfolding line_words
returns-in-BeforeCompletion-clause-ok c = rw (c.in-BeforeCompletion.is, sym c.label_name-in-BeforeCompletion.ensures) c.named-in-BeforeCompletion.ensures.ok

pub returns-in-AfterCommit-clause-ok : goal.returns-in-AfterCommit-clause-ok
unfolding line_words
returns-in-AfterCommit-clause-ok c = rw (c.in-AfterCommit.is, sym c.label_name-in-AfterCommit.ensures) c.named-in-AfterCommit.ensures.ok

pub returns-in-AfterCompletion-clause-ok : goal.returns-in-AfterCompletion-clause-ok
unfolding line_words
returns-in-AfterCompletion-clause-ok c =
    rw (c.in-AfterCompletion.is, sym c.label_name-in-AfterCompletion.ensures, sym c.completion_word-word.ensures) c.named_with.ensures.ok
