-- The text doesn't begin with `~`.
use Rattle.std.proofs.Common.{None}
use Rattle.stx_names.proofs.SentenceLaws.{is_pattern_or_class}
use Rattle.stx_names.proofs.sentence.matched_in.Goals as goal

pub returns-in-None : goal.returns-in-None
returns-in-None c = rw (is_pattern_or_class c.args.text.now None c.in-None.ensures.cases) c.by_class.ensures
