-- Which method of a scenario is the first that leads to itself, or that calls too deep.
use Rattle.std.specs.Prelude.{ℕ, zero, suc, Bool, false, ◌||◌, nat_lt, if◌then◌else◌, length, Option, Some, None}
use Rattle.std.specs.Option.{option_map}
use Rattle.std.specs.List.{find, list_any, range_with_len}
use Rattle.stx_scenario.specs.declared.numbers.MethodNo.{MethodNo}
use Rattle.stx_scenario.specs.declared.scenario.Scenario.{Scenario}
use Rattle.stx_scenario.specs.declared.limits.TheConstants.{GREATEST_RANK}
use Rattle.stx_base.specs.Weight.{Next, has_method, leads, rank, weight}
use Rattle.stx_base.specs.Lines.{method_name}
use Rattle.stx_refusals.specs.declared.fault.ReadFault.{ReadFault}

-- a way of one step or more, and at most this many, leads from m to n
abbrev pub reaches : ℕ → Next → MethodNo → MethodNo → Bool
reaches zero next m n = false
reaches (suc steps) next m n = has_method (next m) n || list_any (λ through. reaches steps next through n) (next m)

-- a method leads to itself; a way that meets no other method twice has at most as many steps as there are methods
unfoldable pub leads_to_itself : Scenario → MethodNo → Bool
leads_to_itself S m = reaches (length S.methods) (leads S) m m

abbrev pub numbered : ℕ → MethodNo
numbered n = record { 0 = n }

-- the first method, in the order of the numbers, that passes a test
abbrev pub first_method : Scenario → (MethodNo → Bool) → Option ℕ
first_method S test = find (λ n. test (numbered n)) (range_with_len 0 (length S.methods))

abbrev pub call_cycle : Scenario → Option ReadFault
call_cycle S = option_map (λ n. ReadFault.CallCycle (method_name S (numbered n))) (first_method S (leads_to_itself S))

-- too deep a rank
abbrev pub call_depth : Scenario → Option ReadFault
call_depth S = option_map (λ n. ReadFault.CallDepth (method_name S (numbered n))) (first_method S (λ m. nat_lt GREATEST_RANK (rank S m)))

-- a weight over 200,000
abbrev pub too_large : Scenario → Option ReadFault
too_large S = if nat_lt 200000 (weight S) then Some ReadFault.TooLarge else None
