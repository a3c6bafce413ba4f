-- The texts of the methods so far.
use Rattle.std.proofs.Common.{◌≡◌, map, take}
use Rattle.stx_names.specs.Duplicates.{number_of_method}
use Rattle.stx_names.proofs.named.numbers_of_methods.Given as goal

abbrev pub invariant-loop-method : goal.invariant-loop-method
invariant-loop-method l = l.names ≡ map number_of_method (take l.method-index l.methods)
