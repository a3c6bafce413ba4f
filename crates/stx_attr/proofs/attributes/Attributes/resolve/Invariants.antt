-- The attributes of the methods so far.
use Rattle.std.proofs.Common.{◌≡◌, map, take}
use Rattle.stx_base.specs.Attributes.{method_attribute}
use Rattle.stx_attr.proofs.attributes.Attributes.resolve.Given as goal

abbrev pub invariant-loop-method : goal.invariant-loop-method
invariant-loop-method l = l.of_methods.items ≡ map (method_attribute l.scenario) (take l.method-index l.scenario.methods)
