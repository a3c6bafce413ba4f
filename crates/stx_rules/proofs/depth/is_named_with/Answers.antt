use Rattle.std.proofs.Common.{sym}
use Rattle.std.proofs.lemmas.Str.Pattern.{contains_text}
use Rattle.stx_rules.proofs.PartLaws.{is_has_part}
use Rattle.stx_rules.proofs.depth.is_named_with.Goals as goal

pub returns : goal.returns
returns c =
    rw (sym c.as_str-2.ensures) (rw (sym c.as_str.ensures)
    (is_has_part c.contains.result _ _ (contains_text c.contains.result _ _ c.contains.ensures.cases)))
