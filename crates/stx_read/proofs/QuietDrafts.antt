-- The draft of a document in which the stages on single places refuse nothing: they refuse nothing in it either.
use Rattle.std.proofs.Common.{◌≡◌, ℕ, suc, ◌≤◌, ℤ, pos, negsuc, Bool, true, false, ◌==◌, nat_lt, nat_le, if◌then◌else◌, List, [], ◌∷◌, ◌++◌, codes, length, map, Option, Some, None, IfSome, unwrap_or, inl, inr, refl, sym, ◌∙◌, subst, arith}
use Rattle.std.proofs.lemmas.Bool.{cases_Bool, false≢true}
use Rattle.std.proofs.lemmas.List.{length-map}
use Rattle.std.proofs.lemmas.List.Elements.{All-nil, All-cons}
use Rattle.std.specs.List.{All, flat_map, filter_map, cons_option}
use Rattle.std.specs.Option.{option_map, option_and_then}
use Rattle.toml.specs.Data.{Members}
use Rattle.stx_scenario.specs.declared.numbers.BeanNo.{BeanNo}
use Rattle.stx_scenario.specs.declared.scenario.Scenario.{Scenario}
use Rattle.stx_scenario.specs.declared.scenario.ClassDecl.{ClassDecl}
use Rattle.stx_scenario.specs.BuiltIn.{built_in}
use Rattle.stx_scenario.specs.Names.{is_name, is_class_name, is_pattern}
use Rattle.stx_base.specs.Valid.{first_rows, own_classes}
use Rattle.stx_names.specs.declared.numbered.Numbered.{Numbered}
use Rattle.stx_names.specs.declared.sentence.RuleSentence.{RuleSentence}
use Rattle.stx_names.specs.declared.sentence.Matched.{Matched}
use Rattle.stx_names.specs.Integers.{is_pool, is_client}
use Rattle.stx_names.specs.Sentences.{words_of, pattern_in, class_in, matched_in, decision_in, rule_with, rule_of as rule_of_words, rule_in, sentence_in, method_in}
use Rattle.stx_refusals.specs.declared.fault.Fault.{Fault}
use Rattle.stx_refusals.specs.declared.fault.Stage.{Stage}
use Rattle.stx_refusals.specs.declared.fault.Stage.TheVariants.{BadName, OutOfRange, TooMany, BadWord, UnknownRef}
use Rattle.stx_refusals.specs.Faults.{under, entry, refused, unless, count_stage, count_faults, each_from, is_stage}
use Rattle.stx_refusals.proofs.QuietLaws.{Quiet, both_true, quiet_append, quiet_unless, quiet_other, quiet_few, quiet_mapped, quiet_listed, first_none}
use Rattle.stx_walk.specs.declared.schema.Shape.{Shape}
use Rattle.stx_draft.specs.DeclaredNames.{names_in}
use Rattle.stx_draft.specs.Document.{refused_in}
use Rattle.stx_draft.specs.Draft
use Rattle.stx_draft.specs.Draft.{natural, drafted, all_names, row_said, sentences_of}
use Rattle.stx_draft.specs.Parts.{text_at, number_at, table_at, texts_at, numbers_at, tables_at}
use Rattle.stx_draft.proofs.DraftLaws.{added, are_names-document, take-first, drop-first}
use Rattle.stx_judge.specs.Judge
use Rattle.stx_judge.specs.Stages.{PlacesQuiet}
use Rattle.stx_read.proofs.AcceptedLaws.{Walked, TablesIn, Accepted, accepted, name_at, tx_at, few_statements, class_named, few_rules, few_calls, pool_within}

-- ---- numbers

turn_within : (z : ℤ) → is_client z ≡ true → nat_lt (natural z) 64 ≡ true
turn_within (pos n) h =
    let low : nat_le n 63 ≡ true = (both_true _ _ h).1 in
    let small : nat_lt n 4294967296 ≡ true = grind (arith, low) in
    rw small (grind (arith, low))
turn_within (negsuc n) h = absurd (false≢true h)

pool_drafted : (z : ℤ) → is_pool z ≡ true → is_pool (pos (natural z)) ≡ true
pool_drafted (pos n) h =
    let low : nat_le n 64 ≡ true = (both_true _ _ h).1 in
    let small : nat_lt n 4294967296 ≡ true = grind (arith, low) in
    rw small h
pool_drafted (negsuc n) h = absurd (false≢true h)

pool_of : (o : Option Members) → IfSome o (Walked Shape.Settings) → is_pool (pos (unwrap_or (option_map Draft.settings_in o) Draft.default_settings).pool) ≡ true
pool_of None w = refl
pool_of (Some table) w = pool_drafted (number_at (codes "pool") (pos 8) table) (pool_within table w)

-- ---- rules

-- a pattern that a rule says is one
abbrev good_by : Matched → Bool
good_by (Matched.Class class) = true
good_by (Matched.Pattern pattern) = is_pattern pattern

abbrev good_matched : Option Matched → Bool
good_matched None = true
good_matched (Some by) = good_by by

abbrev good_rule : Option RuleSentence → Bool
good_rule None = true
good_rule (Some rule) = good_by rule.by

either : (c : Bool) (x y : Option Matched) → good_matched x ≡ true → good_matched y ≡ true → good_matched (if c then x else y) ≡ true
either true x y first second = first
either false x y first second = second

pattern_good : (text : List ℕ) → good_matched (option_map Matched.Pattern (pattern_in text)) ≡ true
pattern_good text =
    elim (cases_Bool (is_pattern text)) [
      | inl passed ↦ rw passed passed
      | inr failed ↦ rw failed refl
    ]

class_good : (o : Option (List ℕ)) → good_matched (option_map Matched.Class o) ≡ true
class_good None = refl
class_good (Some class) = refl

matched_good : (text : List ℕ) → good_matched (matched_in text) ≡ true
matched_good [] = refl
matched_good (c ∷ cs) = either (c == 126) _ _ (pattern_good cs) (class_good (class_in (c ∷ cs)))

with_good : (rollback : Bool) (o : Option Matched) → good_matched o ≡ true → good_rule (option_map (λ (by : Matched). record { rollback = rollback; by = by }) o) ≡ true
with_good rollback None good = refl
with_good rollback (Some by) good = good

decided_good : (object : List ℕ) (o : Option Bool) → good_rule (option_and_then (rule_with object) o) ≡ true
decided_good object None = refl
decided_good object (Some rollback) = with_good rollback (matched_in object) (matched_good object)

words_good : (words : List (List ℕ)) → good_rule (rule_of_words words) ≡ true
words_good [] = refl
words_good (verb ∷ []) = refl
words_good (verb ∷ object ∷ []) = decided_good object (decision_in verb)
words_good (verb ∷ object ∷ more ∷ others) = refl

rule_good : (text : List ℕ) → good_rule (rule_in text) ≡ true
unfolding rule_in
rule_good text = words_good (words_of text)

all_good : (texts : List (List ℕ)) → All (λ (rule : RuleSentence). good_by rule.by ≡ true) (filter_map rule_in texts)
all_good [] = All-nil (λ (rule : RuleSentence). good_by rule.by ≡ true)
all_good (text ∷ texts) = one (rule_in text) (rule_good text) (all_good texts)
  where
    one : (o : Option RuleSentence) → good_rule o ≡ true → All (λ (rule : RuleSentence). good_by rule.by ≡ true) (filter_map rule_in texts)
        → All (λ (rule : RuleSentence). good_by rule.by ≡ true) (cons_option o (filter_map rule_in texts))
    one None good rest = rest
    one (Some rule) good rest = All-cons (λ (rule : RuleSentence). good_by rule.by ≡ true) rule (filter_map rule_in texts) good rest

-- ---- counts

fewer : {A B : Type 0} (h : A → Option B) (xs : List A) → length (filter_map h xs) ≤ length xs
fewer h [] = omega arith
fewer h (x ∷ xs) = one (h x) (fewer h xs)
  where
    one : (o : Option _) → length (filter_map h xs) ≤ length xs → length (cons_option o (filter_map h xs)) ≤ suc (length xs)
    one None rest = omega arith
    one (Some y) rest = omega arith

-- ---- parts of a draft, for stages that look at single places

module _ (of : Stage → Bool) (other : of UnknownRef ≡ false) (S : Scenario) (names : Numbered) where
  rule_quiet : (path : List ℕ) (by : Matched) → good_by by ≡ true → Quiet of (refused path (Judge.rule_stage S (Draft.matched_by names by)))
  rule_quiet path (Matched.Class class) good = quiet_other path _ UnknownRef other
  rule_quiet path (Matched.Pattern pattern) good = quiet_unless path (is_pattern pattern) BadWord good

  tx_quiet : (path : List ℕ) (o : Option Members) → IfSome o (Walked Shape.Tx) → Quiet of (Judge.tx_faults S path (option_map (Draft.tx_in names) o))
  tx_quiet path None w = record { none = refl }
  tx_quiet path (Some tx) w =
      let texts = texts_at (codes "rules") tx in
      let said = filter_map rule_in texts in
      let few : length (map (Draft.rule_of names) said) ≤ 64 = omega (arith, length-map said (Draft.rule_of names), fewer rule_in texts, few_rules tx w) in
      quiet_append _ _ (quiet_few 64 _ (length (map (Draft.rule_of names) said)) few)
      (quiet_mapped (λ (rule : RuleSentence). good_by rule.by ≡ true) (Draft.rule_of names) _ 0 said (λ k rule good. rule_quiet _ rule.by good) (all_good texts))

  statements_few : (b : Option (List ℕ)) (key : List ℕ) (table : Members) → length (texts_at key table) ≤ 256 → length (Draft.body_at names b key table) ≤ 256
  statements_few b key table few =
      omega (arith, length-map (Draft.sentences_at key table) (Draft.stated names b), fewer sentence_in (texts_at key table), few)

  body_quiet : (bean : BeanNo) (path : List ℕ) (b : Option (List ℕ)) (key : List ℕ) (table : Members) → length (texts_at key table) ≤ 256
      → Quiet of (Judge.body_faults S bean path (Draft.body_at names b key table))
  body_quiet bean path b key table few =
      quiet_append _ _ (quiet_few 256 path (length (Draft.body_at names b key table)) (statements_few b key table few))
      (quiet_listed (λ s. Unit {0}) _ 0 (Draft.body_at names b key table) (λ k s u. quiet_other (entry path k) _ UnknownRef other) (λ k d within. tt))

  callback_quiet : (path : List ℕ) (b : Option (List ℕ)) (key : List ℕ) (table : Members) → length (texts_at key table) ≤ 256
      → Quiet of (Judge.callback_body_faults S path (Draft.body_at names b key table))
  callback_quiet path b key table few =
      quiet_append _ _ (quiet_few 256 path (length (Draft.body_at names b key table)) (statements_few b key table few))
      (quiet_listed (λ s. Unit {0}) _ 0 (Draft.body_at names b key table) (λ k s u. quiet_other (entry path k) _ UnknownRef other) (λ k d within. tt))

  class_quiet : (n : ℕ) (table : Members) → Walked Shape.Class table → Quiet of (Judge.class_faults S n (Draft.class_in names table))
  class_quiet n table w = quiet_append _ _ (quiet_unless _ (is_class_name (text_at (codes "name") table)) BadName (class_named table w)) (quiet_other _ _ UnknownRef other)

  bean_quiet : (n : ℕ) (table : Members) → Walked Shape.Bean table → Quiet of (Judge.bean_faults S n (Draft.bean_in names table))
  bean_quiet n table w =
      quiet_append _ _ (quiet_unless _ (is_name (text_at (codes "name") table)) BadName (name_at table Shape.Bean w 0 (omega arith) refl)) (tx_quiet (entry (codes "beans") n) (table_at (codes "tx") table) (tx_at table Shape.Bean w 1 (omega arith) refl))

  method_quiet : (n : ℕ) (table : Members) → Walked Shape.Method table → Quiet of (Judge.method_faults S n (Draft.method_in_table names table))
  method_quiet n table w =
      quiet_append _ _
      (quiet_append _ _
      (quiet_append _ _ (quiet_other _ _ UnknownRef other) (quiet_unless _ (is_name (text_at (codes "name") table)) BadName (name_at table Shape.Method w 1 (omega arith) refl)))
      (tx_quiet (entry (codes "methods") n) (table_at (codes "tx") table) (tx_at table Shape.Method w 2 (omega arith) refl)))
      (body_quiet (Draft.method_in_table names table).bean (under (entry (codes "methods") n) (codes "body")) (Some (text_at (codes "bean") table)) (codes "body") table (few_statements table Shape.Method w 3 (omega arith) (codes "body") refl))

  sync_quiet : (n : ℕ) (table : Members) → Walked Shape.Sync table → Quiet of (Judge.sync_faults S n (Draft.sync_in names table))
  sync_quiet n table w =
      quiet_append _ _
      (quiet_append _ _
      (quiet_append _ _
      (quiet_append _ _ (quiet_unless _ (is_name (text_at (codes "name") table)) BadName (name_at table Shape.Sync w 0 (omega arith) refl))
      (callback_quiet (under (entry (codes "syncs") n) (codes "before_commit")) None (codes "before_commit") table (few_statements table Shape.Sync w 2 (omega arith) (codes "before_commit") refl)))
      (callback_quiet (under (entry (codes "syncs") n) (codes "before_completion")) None (codes "before_completion") table (few_statements table Shape.Sync w 3 (omega arith) (codes "before_completion") refl)))
      (callback_quiet (under (entry (codes "syncs") n) (codes "after_commit")) None (codes "after_commit") table (few_statements table Shape.Sync w 4 (omega arith) (codes "after_commit") refl)))
      (callback_quiet (under (entry (codes "syncs") n) (codes "after_completion")) None (codes "after_completion") table (few_statements table Shape.Sync w 5 (omega arith) (codes "after_completion") refl))

  listener_quiet : (n : ℕ) (table : Members) → Walked Shape.Listener table → Quiet of (Judge.listener_faults S n (Draft.listener_in names table))
  listener_quiet n table w =
      quiet_append _ _
      (quiet_append _ _ (quiet_unless _ (is_name (text_at (codes "name") table)) BadName (name_at table Shape.Listener w 0 (omega arith) refl)) (quiet_other _ _ UnknownRef other))
      (callback_quiet (under (entry (codes "listeners") n) (codes "body")) None (codes "body") table (few_statements table Shape.Listener w 5 (omega arith) (codes "body") refl))

  client_quiet : (n : ℕ) (table : Members) → Walked Shape.Client table → Quiet of (Judge.client_faults S n (Draft.calls_in names table))
  client_quiet n table w =
      let few : length (Draft.calls_in names table) ≤ 64 = omega (arith, length-map (texts_at (codes "calls") table) (λ text. Draft.called_no names (method_in text)), few_calls table w) in
      quiet_append _ _ (quiet_few 64 _ (length (Draft.calls_in names table)) few)
      (quiet_listed (λ m. Unit {0}) _ 0 (Draft.calls_in names table) (λ k m u. quiet_other _ _ UnknownRef other) (λ k d within. tt))

  turn_quiet : (n : ℕ) (z : ℤ) → is_client z ≡ true → Quiet of (Judge.turn_faults S n (natural z))
  turn_quiet n z within =
      quiet_append _ _ (quiet_unless (entry (codes "schedule") n) (nat_lt (natural z) 64) OutOfRange (turn_within z within))
      (quiet_other (entry (codes "schedule") n) _ UnknownRef other)

  count_quiet : (path : List ℕ) (n : ℕ) → 1 ≤ n → n ≤ 64 → Quiet of (refused path (count_stage 1 64 n))
  count_quiet path n some few =
      let long : nat_lt n 1 ≡ false = grind (arith, some) in
      let fits : nat_le n 64 ≡ true = grind (arith, few) in
      subst (λ (b : Bool). Quiet of (refused path (if b then Some OutOfRange else unless (nat_le n 64) TooMany))) (sym long) (quiet_unless path (nat_le n 64) TooMany fits)

-- ---- the whole draft

pub rows_of_draft : (root : Members) → first_rows (drafted root) ≡ (names_in root).rows
unfolding drafted
rows_of_draft root =
    let all = added (flat_map row_said (sentences_of root)) (names_in root).rows (are_names-document root) in
    let valued : length (map (number_at (codes "value") (pos 0)) (tables_at (codes "rows") root)) ≡ length (names_in root).rows =
    length-map (tables_at (codes "rows") root) (number_at (codes "value") (pos 0)) ∙ sym (length-map (tables_at (codes "rows") root) (text_at (codes "name"))) in
    rw (all.is, valued) (take-first (names_in root).rows all.more)

classes_of_draft : (root : Members) → own_classes (drafted root) ≡ map (Draft.class_in (all_names root)) (tables_at (codes "classes") root)
unfolding drafted
classes_of_draft root = drop-first built_in (map (Draft.class_in (all_names root)) (tables_at (codes "classes") root))

module _ (of : Stage → Bool) (other : of UnknownRef ≡ false) (root : Members) (doc : Accepted root) where
  events_quiet : Quiet of (Judge.events_faults (drafted root))
  unfolding drafted
  events_quiet =
      quiet_append _ _ (quiet_few 256 (codes "events") (length (texts_at (codes "events") root)) doc.events.few)
      (quiet_listed (λ t. is_name t ≡ true) _ 0 (texts_at (codes "events") root) (λ k t named. quiet_unless (entry (codes "events") k) (is_name t) BadName named) doc.events.all)

  schedule_quiet : Quiet of (Judge.schedule_faults (drafted root))
  unfolding drafted
  schedule_quiet =
      let turns = numbers_at (codes "schedule") root in
      let few : length (map natural turns) ≤ 100000 = omega (arith, length-map turns natural, doc.turns.few) in
      quiet_append _ _ (quiet_few 100000 (codes "schedule") (length (map natural turns)) few)
      (quiet_mapped (λ z. is_client z ≡ true) natural (Judge.turn_faults (drafted root)) 0 turns (turn_quiet of other (drafted root) (all_names root)) doc.turns.all)

  settings_quiet : Quiet of (Judge.settings_faults (drafted root))
  unfolding drafted
  settings_quiet = quiet_unless (codes "settings.pool") _ OutOfRange (pool_of (table_at (codes "settings") root) doc.settings)

  rows_quiet : Quiet of (Judge.rows_faults (drafted root))
  unfolding drafted
  rows_quiet = subst (λ (rows : List (List ℕ)). Quiet of (count_faults 10000 (codes "rows") (length (drafted root).values) ++ each_from (λ n name. Judge.name_faults (entry (codes "rows") n) name) 0 rows)) (sym (rows_of_draft root)) by
    where
      by : Quiet of (count_faults 10000 (codes "rows") (length (drafted root).values) ++ each_from (λ n name. Judge.name_faults (entry (codes "rows") n) name) 0 (names_in root).rows)
      by =
          let tables = tables_at (codes "rows") root in
          let few : length (map (number_at (codes "value") (pos 0)) tables) ≤ 10000 = omega (arith, length-map tables (number_at (codes "value") (pos 0)), doc.rows.few) in
          quiet_append _ _ (quiet_few 10000 (codes "rows") (length (map (number_at (codes "value") (pos 0)) tables)) few)
          (quiet_mapped (Walked Shape.Row) (text_at (codes "name")) (λ n name. Judge.name_faults (entry (codes "rows") n) name) 0 tables
          (λ k row w. quiet_unless _ (is_name (text_at (codes "name") row)) BadName (name_at row Shape.Row w 0 (omega arith) refl)) doc.rows.walked)

  classes_quiet : Quiet of (Judge.classes_faults (drafted root))
  classes_quiet = subst (λ (own : List ClassDecl). Quiet of (count_faults 1000 (codes "classes") (length own) ++ each_from (Judge.class_faults (drafted root)) 0 own)) (sym (classes_of_draft root)) by
    where
      by : Quiet of (count_faults 1000 (codes "classes") (length (map (Draft.class_in (all_names root)) (tables_at (codes "classes") root)))
          ++ each_from (Judge.class_faults (drafted root)) 0 (map (Draft.class_in (all_names root)) (tables_at (codes "classes") root)))
      by =
          let tables = tables_at (codes "classes") root in
          let few : length (map (Draft.class_in (all_names root)) tables) ≤ 1000 = omega (arith, length-map tables (Draft.class_in (all_names root)), doc.classes.few) in
          quiet_append _ _ (quiet_few 1000 (codes "classes") (length (map (Draft.class_in (all_names root)) tables)) few)
          (quiet_mapped (Walked Shape.Class) (Draft.class_in (all_names root)) (Judge.class_faults (drafted root)) 0 tables (class_quiet of other (drafted root) (all_names root)) doc.classes.walked)

  tables_quiet : {A : Type 0} (shape : Shape) (most : ℕ) (name : List ℕ) (f : Members → A) (F : ℕ → A → List Fault) (tables : List Members) → TablesIn shape 0 most false tables
      → ((n : ℕ) (table : Members) → Walked shape table → Quiet of (F n (f table))) → Quiet of (count_faults most name (length (map f tables)) ++ each_from F 0 (map f tables))
  tables_quiet shape most name f F tables in_array each =
      let few : length (map f tables) ≤ most = omega (arith, length-map tables f, in_array.few) in
      quiet_append _ _ (quiet_few most name (length (map f tables)) few) (quiet_mapped (Walked shape) f F 0 tables each in_array.walked)

  clients_quiet : Quiet of (Judge.clients_faults (drafted root))
  unfolding drafted
  clients_quiet =
      let tables = tables_at (codes "clients") root in
      let few : length (map (Draft.calls_in (all_names root)) tables) ≤ 64 = omega (arith, length-map tables (Draft.calls_in (all_names root)), doc.clients.few) in
      let some : 1 ≤ length (map (Draft.calls_in (all_names root)) tables) = omega (arith, length-map tables (Draft.calls_in (all_names root)), doc.clients.some refl) in
      quiet_append _ _ (count_quiet of other (drafted root) (all_names root) (codes "clients") (length (map (Draft.calls_in (all_names root)) tables)) some few)
      (quiet_mapped (Walked Shape.Client) (Draft.calls_in (all_names root)) (Judge.client_faults (drafted root)) 0 tables (client_quiet of other (drafted root) (all_names root)) doc.clients.walked)

  last_quiet : Quiet of (Judge.beans_faults (drafted root)) × Quiet of (Judge.methods_faults (drafted root)) × Quiet of (Judge.syncs_faults (drafted root)) × Quiet of (Judge.listeners_faults (drafted root))
  unfolding drafted
  last_quiet =
      let names = all_names root in (
        tables_quiet Shape.Bean 256 (codes "beans") (Draft.bean_in names) (Judge.bean_faults (drafted root)) (tables_at (codes "beans") root) doc.beans (bean_quiet of other (drafted root) names),
        tables_quiet Shape.Method 1000 (codes "methods") (Draft.method_in_table names) (Judge.method_faults (drafted root)) (tables_at (codes "methods") root) doc.methods (method_quiet of other (drafted root) names),
        tables_quiet Shape.Sync 256 (codes "syncs") (Draft.sync_in names) (Judge.sync_faults (drafted root)) (tables_at (codes "syncs") root) doc.syncs (sync_quiet of other (drafted root) names),
        tables_quiet Shape.Listener 256 (codes "listeners") (Draft.listener_in names) (Judge.listener_faults (drafted root)) (tables_at (codes "listeners") root) doc.listeners (listener_quiet of other (drafted root) names),
      )

  draft_quiet : Quiet of (Judge.scenario_faults (drafted root))
  unfolding Judge.scenario_faults
  draft_quiet =
      let last = last_quiet in
      quiet_append _ _
      (quiet_append _ _
      (quiet_append _ _
      (quiet_append _ _
      (quiet_append _ _
      (quiet_append _ _
      (quiet_append _ _
      (quiet_append _ _
      (quiet_append _ _ events_quiet schedule_quiet)
      settings_quiet) rows_quiet) classes_quiet) last.0) last.1) last.2) last.3) clients_quiet

pub quiet_draft : (root : Members) → refused_in root ≡ None → PlacesQuiet (drafted root)
quiet_draft root none =
    let doc = accepted root none in
    record {
      names = first_none BadName _ (draft_quiet (is_stage BadName) refl root doc);
      ranges = first_none OutOfRange _ (draft_quiet (is_stage OutOfRange) refl root doc);
      counts = first_none TooMany _ (draft_quiet (is_stage TooMany) refl root doc);
      words = first_none BadWord _ (draft_quiet (is_stage BadWord) refl root doc);
    }
