-- The scenario that a document states, where its places are right one by one: names become numbers, and a name of nothing
-- becomes a number that nothing has.
use Rattle.std.specs.Prelude.{ℕ, ℤ, pos, negsuc, true, false, nat_lt, if◌then◌else◌, List, [], ◌∷◌, ◌++◌, codes, map, fold, Option, Some, None, unwrap_or}
use Rattle.std.specs.Option.{option_map}
use Rattle.std.specs.List.{filter_map, flat_map}
use Rattle.toml.specs.Data.{Members}
use Rattle.stx_scenario.specs.declared.numbers.MethodNo.{MethodNo}
use Rattle.stx_scenario.specs.declared.scenario.Scenario.{Scenario}
use Rattle.stx_scenario.specs.declared.scenario.Settings.{Settings}
use Rattle.stx_scenario.specs.declared.scenario.SyncMode.{SyncMode}
use Rattle.stx_scenario.specs.declared.scenario.ClassDecl.{ClassDecl}
use Rattle.stx_scenario.specs.declared.scenario.Bean.{Bean}
use Rattle.stx_scenario.specs.declared.scenario.Method.{Method}
use Rattle.stx_scenario.specs.declared.scenario.TxAttr.{TxAttr}
use Rattle.stx_scenario.specs.declared.scenario.Propagation.{Propagation}
use Rattle.stx_scenario.specs.declared.scenario.Rule.{Rule}
use Rattle.stx_scenario.specs.declared.scenario.RuleBy.{RuleBy}
use Rattle.stx_scenario.specs.declared.scenario.SyncDecl.{SyncDecl}
use Rattle.stx_scenario.specs.declared.scenario.Listener.{Listener}
use Rattle.stx_scenario.specs.declared.scenario.Phase.{Phase}
use Rattle.stx_scenario.specs.declared.scenario.Stmt.{Stmt}
use Rattle.stx_scenario.specs.BuiltIn.{built_in}
use Rattle.stx_names.specs.declared.named.Named.{Named}
use Rattle.stx_names.specs.declared.numbered.Numbered.{Numbered}
use Rattle.stx_names.specs.declared.sentence.Sentence.{Sentence}
use Rattle.stx_names.specs.declared.sentence.RuleSentence.{RuleSentence}
use Rattle.stx_names.specs.declared.sentence.Matched.{Matched}
use Rattle.stx_names.specs.Words.{mode_in, propagation_in, phase_in}
use Rattle.stx_names.specs.Sentences.{sentence_in, rule_in, method_in}
use Rattle.stx_names.specs.Integers.{is_order}
use Rattle.stx_names.specs.Numbers.{with_name, number_of, class_no, row_no, method_no, own_method_no, catch_no, nothing}
use Rattle.stx_draft.specs.Parts.{text_at, number_at, flag_at, table_at, texts_at, numbers_at, tables_at}
use Rattle.stx_scenario.specs.Names.{built_in_names}
use Rattle.stx_draft.specs.DeclaredNames.{names_in}

-- ---- sentences

-- the statements under a key
abbrev pub sentences_at : List ℕ → Members → List Sentence
sentences_at key table = filter_map sentence_in (texts_at key table)

abbrev pub callback_sentences : Members → List Sentence
callback_sentences sync =
    sentences_at (codes "before_commit") sync ++ sentences_at (codes "before_completion") sync
    ++ sentences_at (codes "after_commit") sync ++ sentences_at (codes "after_completion") sync

-- all statements of a document, in walk order
abbrev pub sentences_of : Members → List Sentence
sentences_of root =
    flat_map (sentences_at (codes "body")) (tables_at (codes "methods") root)
    ++ flat_map callback_sentences (tables_at (codes "syncs") root)
    ++ flat_map (sentences_at (codes "body")) (tables_at (codes "listeners") root)

-- the row that a statement names
abbrev pub row_said : Sentence → List (List ℕ)
row_said (Sentence.Read row) = row ∷ []
row_said (Sentence.Write row v) = row ∷ []
row_said (Sentence.Erase row) = row ∷ []
row_said (Sentence.Add row v) = row ∷ []
row_said (Sentence.Need row v) = row ∷ []
row_said _ = []

-- ---- all names

-- rows, and after them those that statements name, by their first naming
abbrev pub with_rows : List (List ℕ) → List Sentence → List (List ℕ)
with_rows rows sentences = fold with_name rows (flat_map row_said sentences)

-- the rows of the rows section, and then those that only statements name
abbrev pub row_names_in : Members → List (List ℕ)
row_names_in root = with_rows (names_in root).rows (sentences_of root)

-- these names and rows in the order of their numbers, after the built-in classes
abbrev pub numbered_by : Named → List (List ℕ) → Numbered
numbered_by named rows = record {
  events = named.events;
  rows = rows;
  classes = built_in_names ++ named.classes;
  beans = named.beans;
  methods = named.methods;
  syncs = named.syncs;
}

-- all names that are looked up: also the built-in classes, and the rows that only statements name
abbrev pub all_names : Members → Numbered
all_names root = numbered_by (names_in root) (row_names_in root)

-- ---- statements and rules

abbrev pub stated : Numbered → Option (List ℕ) → Sentence → Stmt
stated names bean (Sentence.Read row) = Stmt.Read (row_no names row)
stated names bean (Sentence.Write row v) = Stmt.Write (row_no names row) v
stated names bean (Sentence.Erase row) = Stmt.Erase (row_no names row)
stated names bean (Sentence.Add row v) = Stmt.Add (row_no names row) v
stated names bean (Sentence.Need row v) = Stmt.Need (row_no names row) v
stated names bean (Sentence.Call called method catch) = Stmt.Call (method_no names (called, method)) (catch_no names catch)
stated names bean (Sentence.This method catch) = Stmt.This (own_method_no names bean method) (catch_no names catch)
stated names bean (Sentence.Throw class) = Stmt.Throw (class_no names class)
stated names bean Sentence.Mark = Stmt.Mark
stated names bean (Sentence.Publish event) = Stmt.Publish (record { 0 = number_of names.events event })
stated names bean (Sentence.Register sync) = Stmt.Register (record { 0 = number_of names.syncs sync })

-- the statements under a key
abbrev pub body_at : Numbered → Option (List ℕ) → List ℕ → Members → List Stmt
body_at names bean key table = map (stated names bean) (sentences_at key table)

abbrev pub matched_by : Numbered → Matched → RuleBy
matched_by names (Matched.Class class) = RuleBy.Class (class_no names class)
matched_by names (Matched.Pattern pattern) = RuleBy.Pattern pattern

abbrev pub rule_of : Numbered → RuleSentence → Rule
rule_of names rule = record { rollback = rule.rollback; by = matched_by names rule.by }

-- ---- tables

-- a number of 32 bits; others were out of range
abbrev pub natural : ℤ → ℕ
natural (pos n) = if nat_lt n 4294967296 then n else 0
natural (negsuc n) = 0

abbrev pub order_of : ℤ → ℤ
order_of z = if is_order z then z else pos 0

-- the lowest precedence (Spring: Ordered.LOWEST_PRECEDENCE)
abbrev pub order_at : Members → ℤ
order_at table = order_of (number_at (codes "order") (pos 2147483647) table)

abbrev pub default_settings : Settings
default_settings = record { pool = 8; mode = SyncMode.Always; nested = true }

abbrev pub settings_in : Members → Settings
settings_in table = record {
  pool = natural (number_at (codes "pool") (pos 8) table);
  mode = unwrap_or (mode_in (text_at (codes "sync") table)) SyncMode.Always;
  nested = flag_at (codes "nested") true table;
}

abbrev pub settings_of : Members → Settings
settings_of root = unwrap_or (option_map settings_in (table_at (codes "settings") root)) default_settings

abbrev pub tx_in : Numbered → Members → TxAttr
tx_in names table = record {
  propagation = unwrap_or (propagation_in (text_at (codes "propagation") table)) Propagation.Required;
  read_only = flag_at (codes "read_only") false table;
  rules = map (rule_of names) (filter_map rule_in (texts_at (codes "rules") table));
}

abbrev pub tx_at : Numbered → Members → Option TxAttr
tx_at names table = option_map (tx_in names) (table_at (codes "tx") table)

abbrev pub class_in : Numbered → Members → ClassDecl
class_in names table =
    record { name = text_at (codes "name") table; parent = Some (class_no names (text_at (codes "parent") table)) }

abbrev pub bean_in : Numbered → Members → Bean
bean_in names table = record { name = text_at (codes "name") table; tx = tx_at names table }

abbrev pub method_in_table : Numbered → Members → Method
method_in_table names table = record {
  bean = record { 0 = number_of names.beans (text_at (codes "bean") table) };
  name = text_at (codes "name") table;
  tx = tx_at names table;
  body = body_at names (Some (text_at (codes "bean") table)) (codes "body") table;
}

abbrev pub sync_in : Numbered → Members → SyncDecl
sync_in names table = record {
  name = text_at (codes "name") table;
  order = order_at table;
  before_commit = body_at names None (codes "before_commit") table;
  before_completion = body_at names None (codes "before_completion") table;
  after_commit = body_at names None (codes "after_commit") table;
  after_completion = body_at names None (codes "after_completion") table;
}

abbrev pub listener_in : Numbered → Members → Listener
listener_in names table = record {
  name = text_at (codes "name") table;
  event = record { 0 = number_of names.events (text_at (codes "event") table) };
  phase = unwrap_or (phase_in (text_at (codes "phase") table)) Phase.AfterCommit;
  order = order_at table;
  fallback = flag_at (codes "fallback") false table;
  body = body_at names None (codes "body") table;
}

-- a call that isn't BEAN.METHOD calls nothing
abbrev pub called_no : Numbered → Option (List ℕ × List ℕ) → MethodNo
called_no names (Some call) = method_no names call
called_no names None = record { 0 = nothing }

abbrev pub calls_in : Numbered → Members → List MethodNo
calls_in names table = map (λ text. called_no names (method_in text)) (texts_at (codes "calls") table)

-- ---- the scenario

unfoldable pub drafted : Members → Scenario
drafted root = let names = all_names root in record {
  settings = settings_of root;
  events = names.events;
  schedule = map natural (numbers_at (codes "schedule") root);
  row_names = names.rows;
  values = map (number_at (codes "value") (pos 0)) (tables_at (codes "rows") root);
  classes = built_in ++ map (class_in names) (tables_at (codes "classes") root);
  beans = map (bean_in names) (tables_at (codes "beans") root);
  methods = map (method_in_table names) (tables_at (codes "methods") root);
  syncs = map (sync_in names) (tables_at (codes "syncs") root);
  listeners = map (listener_in names) (tables_at (codes "listeners") root);
  clients = map (calls_in names) (tables_at (codes "clients") root);
}
