-- A search among the fields is one among their keys.
use Rattle.std.proofs.Common.{rules, tests, ◌∙◌}
use Rattle.std.proofs.lemmas.Iterator.{YieldsList-from_slice}
use Rattle.std.proofs.lemmas.Iterator.Search.{any_from_yields_List}
use Rattle.std.specs.Str.{bytes_eq}
use Rattle.stx_walk.proofs.WalkLaws.{any_field}
use Rattle.stx_walk.proofs.walk.is_known.Goals as goal

pub returns : goal.returns
returns c =
    any_from_yields_List (λ field. bytes_eq field.key.now c.args.key.now) _ _ _ c.any.ensures.ran (YieldsList-from_slice c.args.fields.now cc) (λ x b q k. search (rules, tests))
    ∙ any_field c.args.fields.now c.args.key.now
