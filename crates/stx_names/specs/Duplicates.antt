-- The refusal of names that stand twice, group by group.
use Rattle.std.specs.Prelude.{ℕ, List, [], ◌∷◌, ◌++◌, codes, map, drop, take, length, Option}
use Rattle.std.specs.Option.{option_map}
use Rattle.std.specs.Fmt.{decimal}
use Rattle.stx_scenario.specs.declared.scenario.Scenario.{Scenario}
use Rattle.stx_scenario.specs.declared.scenario.Method.{Method}
use Rattle.stx_scenario.specs.BuiltIn.{built_in}
use Rattle.stx_refusals.specs.declared.fault.ReadFault.{ReadFault}
use Rattle.stx_names.specs.declared.named.Named.{Named}
use Rattle.stx_refusals.specs.Faults.{under, entry, first_some}
use Rattle.stx_scenario.specs.Names.{duplicate_from, built_in_names}

-- ---- the groups

abbrev pub duplicate : (ℕ → List ℕ) → Option ℕ → Option ReadFault
duplicate path place = option_map (λ n. ReadFault.Duplicate (path n)) place

-- the path of the name of an entry
abbrev pub entry_name : List ℕ → ℕ → List ℕ
entry_name array n = under (entry array n) (codes "name")

-- that of each group, in walk order; a class must not have a built-in name, nor a listener a sync's
abbrev pub duplicates : Named → List (Option ReadFault)
duplicates named =
    duplicate (entry (codes "events")) (duplicate_from [] 0 named.events)
    ∷ duplicate (entry_name (codes "rows")) (duplicate_from [] 0 named.rows)
    ∷ duplicate (entry_name (codes "classes")) (duplicate_from built_in_names 0 named.classes)
    ∷ duplicate (entry_name (codes "beans")) (duplicate_from [] 0 named.beans)
    ∷ duplicate (entry_name (codes "methods")) (duplicate_from [] 0 named.methods)
    ∷ duplicate (entry_name (codes "syncs")) (duplicate_from [] 0 named.syncs)
    ∷ duplicate (entry_name (codes "listeners")) (duplicate_from named.syncs 0 named.listeners)
    ∷ []

-- the first of all
abbrev pub duplicate_among : Named → Option ReadFault
duplicate_among named = first_some (duplicates named)

-- ---- the names of a scenario

-- a method's bean and name, as BEAN.METHOD
abbrev pub method_text : List ℕ → List ℕ → List ℕ
method_text bean name = bean ++ codes "." ++ name

-- a method's bean, by its number, and its name
abbrev pub number_of_method : Method → List ℕ
number_of_method method = method_text (decimal method.bean.0) method.name

-- those of a scenario, without the built-in classes and the rows that only statements name
abbrev pub names_of : Scenario → Named
names_of S = record {
  events = S.events;
  rows = take (length S.values) S.row_names;
  classes = drop (length built_in) (map (λ class. class.name) S.classes);
  beans = map (λ bean. bean.name) S.beans;
  methods = map number_of_method S.methods;
  syncs = map (λ sync. sync.name) S.syncs;
  listeners = map (λ listener. listener.name) S.listeners;
}
