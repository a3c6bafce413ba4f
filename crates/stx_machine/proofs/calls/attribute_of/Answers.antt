-- The attribute that is listed is the method's.
use Rattle.std.proofs.Common.{◌∙◌, sym, ap}
use Rattle.std.specs.Prelude.{unwrap_or}
use Rattle.std.specs.Option.{option_copied}
use Rattle.stx_machine.specs.Machine.{default_attribute, attribute_of}
use Rattle.stx_machine.proofs.calls.attribute_of.Goals as goal

pub returns : goal.returns
unfolding attribute_of
returns c =
    ap (λ o. unwrap_or o default_attribute)
    (sym (ap option_copied c.in-Some.is) ∙ c.of.ensures.attribute c.args.setup.now.scenario c.args.setup.now.attributes_are)
