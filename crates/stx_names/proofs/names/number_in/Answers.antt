-- What `parse` gives of a number of this form is the number.
use Rattle.std.proofs.Common.{◌≡◌, ◌∙◌, sym, true}
use Rattle.stx_names.specs.Integers.{is_plain_number}
use Rattle.stx_names.proofs.NumberLaws.{number_from}
use Rattle.stx_names.proofs.names.number_in.Goals as goal

pub returns : goal.returns
returns c =
    let plain : is_plain_number c.args.text.now ≡ true = rw (← c.as_bytes.ensures.value) (sym c.if-not-is_plain_number.ensures) in
    c.ok.ensures.value ∙ number_from c.args.text.now c.parse.result plain c.parse.ensures.value.0
