-- By where `split_once` cuts.
use Rattle.stx_names.proofs.SentenceLaws.{cut_pieces, if_some, if_none}
use Rattle.stx_names.proofs.sentence.first_piece.Goals as goal

pub returns-clause-more : goal.returns-clause-more
returns-clause-more c = if_some c.split_once.result _ _ (cut_pieces c.args.separator c.args.text.now c.split_once.result c.split_once.ensures.cases c.requires)

pub returns-clause-one : goal.returns-clause-one
returns-clause-one c = if_none c.split_once.result _ _ (cut_pieces c.args.separator c.args.text.now c.split_once.result c.split_once.ensures.cases c.requires)
