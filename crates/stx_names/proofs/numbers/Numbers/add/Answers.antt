-- A new name goes to the end.
use Rattle.std.proofs.Common.{◌∙◌, sym, ap, map, string_bytes}
use Rattle.stx_names.proofs.NumbersLaws.{added-name}
use Rattle.stx_names.proofs.numbers.Numbers.add.Goals as goal

pub returns-clause-names : goal.returns-clause-names
returns-clause-names c =
    ap (map string_bytes) c.in_ok-insert_full.ensures.keys
    ∙ added-name c.args.name.now c.self.inside.names.keys _ c.in_ok-from_str.field-0 (sym c.self.view_is) c.in_ok-from_str.ensures.ok
    (sym c.has.ensures ∙ c.if-has.false)
