-- Which transaction attribute a method has. (Spring: AbstractFallbackTransactionAttributeSource.)
use Rattle.std.specs.Prelude.{List, map, Option, slice_get}
use Rattle.std.specs.Option.{option_and_then, option_or}
use Rattle.stx_scenario.specs.declared.numbers.MethodNo.{MethodNo}
use Rattle.stx_scenario.specs.declared.scenario.Scenario.{Scenario}
use Rattle.stx_scenario.specs.declared.scenario.Method.{Method}
use Rattle.stx_scenario.specs.declared.scenario.TxAttr.{TxAttr}

abbrev pub bean_attribute : Scenario → Method → Option TxAttr
bean_attribute S method = option_and_then (λ bean. bean.tx) (slice_get S.beans method.bean.0)

-- a method's own attribute, else its bean's, else none: the method's replaces the bean's wholly
abbrev pub method_attribute : Scenario → Method → Option TxAttr
method_attribute S method = option_or method.tx (bean_attribute S method)

abbrev pub attribute : Scenario → MethodNo → Option TxAttr
attribute S m = option_and_then (method_attribute S) (slice_get S.methods m.0)

-- of each method, in the order of their numbers
abbrev pub attributes : Scenario → List (Option TxAttr)
attributes S = map (method_attribute S) S.methods
