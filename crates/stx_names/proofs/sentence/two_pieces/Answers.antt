-- More than two pieces.
use Rattle.stx_names.proofs.SentenceLaws.{more_than_two}
use Rattle.stx_names.proofs.sentence.two_pieces.Goals as goal

pub returns-in-Some-clause-others : goal.returns-in-Some-clause-others
returns-in-Some-clause-others c =
    more_than_two c.args.separator c.args.text.now _ c.in_ok-first.rest.now _ c.in-Some.field-0.1.now c.in_ok-first.ensures.more c.in-Some.ensures.more
