-- The attribute that the table is read for is the method's.
use Rattle.std.proofs.Common.{◌∙◌, ap}
use Rattle.stx_model.specs.Opening.{opening}
use Rattle.stx_context.specs.Carrying.{context_of}
use Rattle.stx_machine.proofs.machine.Machine.opening_of.Goals as goal

pub returns : goal.returns
returns c =
    c.opening.ensures ∙ ap (λ a. opening c.args.setup.now.scenario.settings a (context_of c.args.self.now.context)) c.attribute_of-attribute.ensures
