-- The keys and types of a scenario file, and what the stages on single values refuse.
use Rattle.std.specs.Prelude.{ℕ, ℤ, Bool, true, false, List, [], ◌∷◌, codes, Option, Some, None}
use Rattle.std.specs.Option.{is_some}
use Rattle.toml.specs.Data.{Data, string, integer, boolean}
use Rattle.stx_refusals.specs.declared.fault.Stage.{Stage}
use Rattle.stx_walk.specs.declared.schema.Shape.{Shape}
use Rattle.stx_walk.specs.declared.schema.Leaf.{Leaf}
use Rattle.stx_walk.specs.declared.schema.Kind.{Kind}
use Rattle.stx_walk.specs.declared.schema.Field.{Field}
use Rattle.stx_scenario.specs.declared.limits.TheConstants.{MOST_BEANS, MOST_CALLS, MOST_CLASSES, MOST_CLIENTS, MOST_EVENTS, MOST_LISTENERS, MOST_METHODS, MOST_ROWS, MOST_RULES, MOST_STATEMENTS, MOST_SYNCS, MOST_TURNS}
use Rattle.stx_scenario.specs.Names.{is_name, is_class_name}
use Rattle.stx_refusals.specs.Faults.{unless}
use Rattle.stx_names.specs.Integers.{is_pool, is_order, is_client}
use Rattle.stx_names.specs.Sentences.{sentence_in, rule_in}
use Rattle.stx_names.specs.Words.{mode_in, propagation_in, phase_in}

-- ---- the keys of each table, in walk order

pub record Key : Type 0 where
  pub name : List ℕ
  pub required : Bool
  pub kind : Kind

abbrev pub required : List ℕ → Kind → Key
required name kind = record { name = name; required = true; kind = kind }

abbrev pub optional : List ℕ → Kind → Key
optional name kind = record { name = name; required = false; kind = kind }

-- what a field of the code's tables says
abbrev pub key_of : Field → Key
key_of field = record { name = field.key.now; required = field.required; kind = field.kind }

abbrev pub statements : Kind
statements = Kind.Values Leaf.Statement MOST_STATEMENTS

-- the most entries of each array of the root
abbrev pub root_keys : List Key
root_keys =
    optional (codes "events") (Kind.Values Leaf.Name MOST_EVENTS)
    ∷ optional (codes "schedule") (Kind.Values Leaf.Client MOST_TURNS)
    ∷ optional (codes "settings") (Kind.Table Shape.Settings)
    ∷ optional (codes "rows") (Kind.Tables Shape.Row 0 MOST_ROWS)
    ∷ optional (codes "classes") (Kind.Tables Shape.Class 0 MOST_CLASSES)
    ∷ optional (codes "beans") (Kind.Tables Shape.Bean 0 MOST_BEANS)
    ∷ optional (codes "methods") (Kind.Tables Shape.Method 0 MOST_METHODS)
    ∷ optional (codes "syncs") (Kind.Tables Shape.Sync 0 MOST_SYNCS)
    ∷ optional (codes "listeners") (Kind.Tables Shape.Listener 0 MOST_LISTENERS)
    ∷ required (codes "clients") (Kind.Tables Shape.Client 1 MOST_CLIENTS)
    ∷ []

abbrev pub keys_of : Shape → List Key
keys_of Shape.Settings =
    optional (codes "pool") (Kind.Value Leaf.Pool)
    ∷ optional (codes "sync") (Kind.Value Leaf.ModeWord)
    ∷ optional (codes "nested") (Kind.Value Leaf.Flag)
    ∷ []
keys_of Shape.Row = required (codes "name") (Kind.Value Leaf.Name) ∷ required (codes "value") (Kind.Value Leaf.RowValue) ∷ []
keys_of Shape.Class = required (codes "name") (Kind.Value Leaf.ClassName) ∷ required (codes "parent") (Kind.Value Leaf.Text) ∷ []
keys_of Shape.Bean = required (codes "name") (Kind.Value Leaf.Name) ∷ optional (codes "tx") (Kind.Table Shape.Tx) ∷ []
keys_of Shape.Method =
    required (codes "bean") (Kind.Value Leaf.Text)
    ∷ required (codes "name") (Kind.Value Leaf.Name)
    ∷ optional (codes "tx") (Kind.Table Shape.Tx)
    ∷ optional (codes "body") statements
    ∷ []
keys_of Shape.Sync =
    required (codes "name") (Kind.Value Leaf.Name)
    ∷ optional (codes "order") (Kind.Value Leaf.Order)
    ∷ optional (codes "before_commit") statements
    ∷ optional (codes "before_completion") statements
    ∷ optional (codes "after_commit") statements
    ∷ optional (codes "after_completion") statements
    ∷ []
keys_of Shape.Listener =
    required (codes "name") (Kind.Value Leaf.Name)
    ∷ required (codes "event") (Kind.Value Leaf.Text)
    ∷ optional (codes "phase") (Kind.Value Leaf.PhaseWord)
    ∷ optional (codes "order") (Kind.Value Leaf.Order)
    ∷ optional (codes "fallback") (Kind.Value Leaf.Flag)
    ∷ optional (codes "body") statements
    ∷ []
keys_of Shape.Client = required (codes "calls") (Kind.Values Leaf.Text MOST_CALLS) ∷ []
keys_of Shape.Tx =
    optional (codes "propagation") (Kind.Value Leaf.PropagationWord)
    ∷ optional (codes "read_only") (Kind.Value Leaf.Flag)
    ∷ optional (codes "rules") (Kind.Values Leaf.Rule MOST_RULES)
    ∷ []

-- ---- single values

-- what is refused in a string
abbrev pub text_stage : Leaf → List ℕ → Option Stage
text_stage Leaf.Text text = None
text_stage Leaf.Name text = unless (is_name text) Stage.BadName
text_stage Leaf.ClassName text = unless (is_class_name text) Stage.BadName
text_stage Leaf.ModeWord text = unless (is_some (mode_in text)) Stage.BadWord
text_stage Leaf.PropagationWord text = unless (is_some (propagation_in text)) Stage.BadWord
text_stage Leaf.PhaseWord text = unless (is_some (phase_in text)) Stage.BadWord
text_stage Leaf.Statement text = unless (is_some (sentence_in text)) Stage.BadWord
text_stage Leaf.Rule text = unless (is_some (rule_in text)) Stage.BadWord
text_stage Leaf.Flag text = Some Stage.WrongType
text_stage Leaf.Pool text = Some Stage.WrongType
text_stage Leaf.Order text = Some Stage.WrongType
text_stage Leaf.Client text = Some Stage.WrongType
text_stage Leaf.RowValue text = Some Stage.WrongType

-- what is refused in an integer
abbrev pub number_stage : Leaf → ℤ → Option Stage
number_stage Leaf.Pool z = unless (is_pool z) Stage.OutOfRange
number_stage Leaf.Order z = unless (is_order z) Stage.OutOfRange
number_stage Leaf.Client z = unless (is_client z) Stage.OutOfRange
number_stage Leaf.RowValue z = None
number_stage _ z = Some Stage.WrongType

-- what is refused in a boolean
abbrev pub flag_stage : Leaf → Option Stage
flag_stage Leaf.Flag = None
flag_stage _ = Some Stage.WrongType

-- what is refused in a single value
abbrev pub leaf_stage : Leaf → Data → Option Stage
leaf_stage leaf (string text) = text_stage leaf text
leaf_stage leaf (integer z) = number_stage leaf z
leaf_stage leaf (boolean b) = flag_stage leaf
leaf_stage leaf _ = Some Stage.WrongType
