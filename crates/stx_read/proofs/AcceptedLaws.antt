-- What a document says of its parts where the stages on single places refuse nothing in it.
use Rattle.std.proofs.Common.{◌≡◌, ℕ, suc, ◌+◌, ◌<◌, ◌≤◌, ℤ, pos, Bool, true, false, ◌||◌, cond, nat_lt, nat_le, List, [], ◌∷◌, ◌++◌, codes, get_or, length, Option, Some, None, IfSome, unwrap_or, inl, inr, refl, ap, subst, arith}
use Rattle.std.proofs.lemmas.Bool.{cases_Bool, false≢true, ltb-false}
use Rattle.std.proofs.lemmas.List.Elements.{All-nil, All-cons}
use Rattle.std.proofs.lemmas.List.Concat.{flat_map-cons}
use Rattle.std.specs.List.{All, flat_map, filter_map}
use Rattle.std.specs.Option.{option_and_then, is_some}
use Rattle.toml.specs.Data.{Data, string, integer, boolean, array, table, Items, no_items, item, Members, get_member, as_str, as_integer, as_array, as_table}
use Rattle.stx_scenario.specs.Names.{is_name, is_class_name}
use Rattle.stx_names.specs.Integers.{is_pool, is_client}
use Rattle.stx_names.specs.Sentences.{sentence_in, rule_in}
use Rattle.stx_refusals.specs.declared.fault.Fault.{Fault}
use Rattle.stx_refusals.specs.declared.fault.Stage.{Stage}
use Rattle.stx_refusals.specs.declared.fault.Stage.TheVariants.{UnknownKey, Missing, WrongType, BadName, OutOfRange, TooMany, BadWord}
use Rattle.stx_refusals.specs.Faults.{under, entry, refused, unless, count_stage, is_stage, first_at}
use Rattle.stx_refusals.proofs.QuietLaws.{Quiet, InArray, some_none, quiet_both, quiet_passed, quiet_many, quiet_first, or_quiet}
use Rattle.stx_walk.specs.declared.schema.Shape.{Shape}
use Rattle.stx_walk.specs.declared.schema.Leaf.{Leaf}
use Rattle.stx_walk.specs.declared.schema.Kind.{Kind}
use Rattle.stx_walk.specs.Schema.{Key, required, optional, statements, root_keys, keys_of, leaf_stage, text_stage, number_stage, flag_stage}
use Rattle.stx_walk.specs.Walk.{count, missing, each_item, entry_faults, found_faults, key_faults, unknown_faults, table_faults, walk, document_faults}
use Rattle.stx_draft.specs.Parts.{text_at, number_at, table_at, entries, texts_at, tables_at, numbers_at}
use Rattle.stx_names.specs.Duplicates.{duplicate_among}
use Rattle.stx_draft.specs.DeclaredNames.{names_in}
use Rattle.stx_draft.specs.Document.{early_refusal, refused_in}
use Rattle.stx_walk.proofs.WalkLaws.{walk_table}

-- the stages that look at single places of a document
abbrev pub is_single : Stage → Bool
is_single stage = is_stage UnknownKey stage || (is_stage Missing stage || (is_stage WrongType stage || (is_stage BadName stage || (is_stage OutOfRange stage || (is_stage TooMany stage || is_stage BadWord stage)))))

abbrev IsQuiet : List Fault → Type 0
IsQuiet faults = Quiet is_single faults

pub document_quiet : (root : Members) → refused_in root ≡ None → IsQuiet (document_faults root)
unfolding refused_in
document_quiet root accepted =
    let faults = document_faults root in
    let early = some_none (early_refusal faults) _ accepted in
    let duplicates = some_none (duplicate_among (names_in root)) (first_at BadWord faults ∷ []) early.1 in
    let words = some_none (first_at BadWord faults) [] duplicates.1 in
    let keys = some_none (first_at UnknownKey faults) _ early.0 in
    let absent = some_none (first_at Missing faults) _ keys.1 in
    let types = some_none (first_at WrongType faults) _ absent.1 in
    let names = some_none (first_at BadName faults) _ types.1 in
    let ranges = some_none (first_at OutOfRange faults) _ names.1 in
    let counts = some_none (first_at TooMany faults) _ ranges.1 in
    or_quiet (is_stage UnknownKey) _ faults (quiet_first UnknownKey faults keys.0)
    (or_quiet (is_stage Missing) _ faults (quiet_first Missing faults absent.0)
    (or_quiet (is_stage WrongType) _ faults (quiet_first WrongType faults types.0)
    (or_quiet (is_stage BadName) _ faults (quiet_first BadName faults names.0)
    (or_quiet (is_stage OutOfRange) _ faults (quiet_first OutOfRange faults ranges.0)
    (or_quiet (is_stage TooMany) (is_stage BadWord) faults (quiet_first TooMany faults counts.0) (quiet_first BadWord faults words.0))))))

-- ---- places that are refused

wrong : (path : List ℕ) (rest : List Fault) → IsQuiet (refused path (Some WrongType) ++ rest) → ⊥
wrong path rest q = false≢true (quiet_passed path false WrongType refl (quiet_both (refused path (Some WrongType)) rest q).0)

alone : (path : List ℕ) → IsQuiet (refused path (Some WrongType)) → ⊥
alone path q = false≢true (quiet_passed path false WrongType refl q)

absent : (path : List ℕ) → IsQuiet (refused path (missing true)) → ⊥
absent path q = false≢true (quiet_passed path false Missing refl q)

count_within : (least most n : ℕ) (path : List ℕ) → IsQuiet (refused path (count_stage least most n)) → (least ≤ n) × (n ≤ most)
count_within least most n path q =
    elim (cases_Bool (nat_lt n least)) [
      | inl short ↦
          absurd (false≢true (quiet_passed path false OutOfRange refl
          (subst (λ (b : Bool). IsQuiet (refused path (cond b (Some OutOfRange) (unless (nat_le n most) TooMany)))) short q)))
      | inr long ↦ (ltb-false n least long, quiet_many path most n (nat_lt n least) refl q long)
    ]

-- ---- arrays of tables

-- a table that was walked, at some path
pub record Walked (shape : Shape) (inner : Members) : Type 0 where
  pub path : List ℕ
  pub quiet : Quiet is_single (walk shape path inner)

items_tables : (shape : Shape) (path : List ℕ) (n : ℕ) (items : Items) → IsQuiet (each_item (λ k d. entry_faults walk shape (entry path k) d) n items)
    → (length (filter_map as_table (entries items)) ≡ count items) × All (Walked shape) (filter_map as_table (entries items))
items_tables shape path n no_items q = (refl, All-nil (Walked shape))
items_tables shape path n (item (table inner) more) q =
    let parts = quiet_both (walk shape (entry path n) inner) (each_item (λ k d. entry_faults walk shape (entry path k) d) (n + 1) more) q in
    let rest = items_tables shape path (n + 1) more parts.1 in
    (ap suc rest.0, All-cons (Walked shape) inner (filter_map as_table (entries more)) (record { path = entry path n; quiet = parts.0 }) rest.1)
items_tables shape path n (item _ more) q = absurd (wrong _ _ q)

-- the tables of an array that may be missing
pub record TablesIn (shape : Shape) (least most : ℕ) (wanted : Bool) (tables : List Members) : Type 0 where
  pub few : length tables ≤ most
  pub some : wanted ≡ true → least ≤ length tables
  pub walked : All (Walked shape) tables

abbrev tables_of : Option Data → List Members
tables_of o = filter_map as_table (entries (unwrap_or (option_and_then as_array o) no_items))

abbrev tables_key : List ℕ → Bool → Shape → ℕ → ℕ → Key
tables_key name wanted shape least most = record { name = name; required = wanted; kind = Kind.Tables shape least most }

tables_found : (name : List ℕ) (wanted : Bool) (shape : Shape) (least most : ℕ) (path : List ℕ) (o : Option Data)
    → IsQuiet (found_faults walk (tables_key name wanted shape least most) path o) → TablesIn shape least most wanted (tables_of o)
tables_found name true shape least most path None q = absurd (absent path q)
tables_found name false shape least most path None q =
    record { few = omega arith; some = λ e. absurd (false≢true e); walked = All-nil (Walked shape) }
tables_found name wanted shape least most path (Some (array items)) q =
    let parts = quiet_both (refused path (count_stage least most (count items))) _ q in
    let within = count_within least most (count items) path parts.0 in
    let each = items_tables shape path 0 items parts.1 in
    record { few = omega (arith, each.0, within.1); some = λ e. omega (arith, each.0, within.0); walked = each.1 }
tables_found name wanted shape least most path (Some _) q = absurd (alone _ q)

-- ---- arrays of texts

module _ (leaf : Leaf) (T : List ℕ → Bool) (stage : Stage) (says : (t : List ℕ) → text_stage leaf t ≡ unless (T t) stage) (asked : is_single stage ≡ true)
    (numbers : (z : ℤ) → number_stage leaf z ≡ Some WrongType) (flags : flag_stage leaf ≡ Some WrongType) where
  items_texts : (path : List ℕ) (n : ℕ) (items : Items) → IsQuiet (each_item (λ k d. refused (entry path k) (leaf_stage leaf d)) n items)
      → (length (filter_map as_str (entries items)) ≡ count items) × All (λ t. T t ≡ true) (filter_map as_str (entries items))
  items_texts path n no_items q = (refl, All-nil (λ t. T t ≡ true))
  items_texts path n (item (string t) more) q =
      let parts = quiet_both (refused (entry path n) (text_stage leaf t)) (each_item (λ k d. refused (entry path k) (leaf_stage leaf d)) (n + 1) more) q in
      let rest = items_texts path (n + 1) more parts.1 in
      let here = quiet_passed (entry path n) (T t) stage asked (subst (λ (o : Option Stage). IsQuiet (refused (entry path n) o)) (says t) parts.0) in
      (ap suc rest.0, All-cons (λ t. T t ≡ true) t (filter_map as_str (entries more)) here rest.1)
  items_texts path n (item (integer z) more) q =
      absurd (wrong _ _ (subst (λ (o : Option Stage). IsQuiet (refused (entry path n) o ++ each_item (λ k d. refused (entry path k) (leaf_stage leaf d)) (n + 1) more)) (numbers z) q))
  items_texts path n (item (boolean b) more) q =
      absurd (wrong _ _ (subst (λ (o : Option Stage). IsQuiet (refused (entry path n) o ++ each_item (λ k d. refused (entry path k) (leaf_stage leaf d)) (n + 1) more)) flags q))
  items_texts path n (item _ more) q = absurd (wrong _ _ q)

  texts_found : (name : List ℕ) (wanted : Bool) (most : ℕ) (path : List ℕ) (o : Option Data)
      → IsQuiet (found_faults walk (record { name = name; required = wanted; kind = Kind.Values leaf most }) path o)
      → InArray most (length (filter_map as_str (entries (unwrap_or (option_and_then as_array o) no_items)))) (λ t. T t ≡ true)
      (filter_map as_str (entries (unwrap_or (option_and_then as_array o) no_items)))
  texts_found name wanted most path None q = record { few = omega arith; all = All-nil (λ t. T t ≡ true) }
  texts_found name wanted most path (Some (array items)) q =
      let parts = quiet_both (refused path (count_stage 0 most (count items))) _ q in
      let within = count_within 0 most (count items) path parts.0 in
      let each = items_texts path 0 items parts.1 in
      record { few = omega (arith, each.0, within.1); all = each.1 }
  texts_found name wanted most path (Some _) q = absurd (alone _ q)

  -- a single text that has to be there
  text_found : (name : List ℕ) (path : List ℕ) (o : Option Data) → IsQuiet (found_faults walk (required name (Kind.Value leaf)) path o)
      → T (unwrap_or (option_and_then as_str o) []) ≡ true
  text_found name path None q = absurd (absent path q)
  text_found name path (Some (string t)) q = quiet_passed path (T t) stage asked (subst (λ (o : Option Stage). IsQuiet (refused path o)) (says t) q)
  text_found name path (Some (integer z)) q = absurd (alone _ (subst (λ (o : Option Stage). IsQuiet (refused path o)) (numbers z) q))
  text_found name path (Some (boolean b)) q = absurd (alone _ (subst (λ (o : Option Stage). IsQuiet (refused path o)) flags q))
  text_found name path (Some _) q = absurd (alone _ q)

-- ---- clients' numbers, the pool, and tables that may be missing

items_turns : (path : List ℕ) (n : ℕ) (items : Items) → IsQuiet (each_item (λ k d. refused (entry path k) (leaf_stage Leaf.Client d)) n items)
    → (length (filter_map as_integer (entries items)) ≡ count items) × All (λ z. is_client z ≡ true) (filter_map as_integer (entries items))
items_turns path n no_items q = (refl, All-nil (λ z. is_client z ≡ true))
items_turns path n (item (integer z) more) q =
    let parts = quiet_both (refused (entry path n) (unless (is_client z) OutOfRange)) (each_item (λ k d. refused (entry path k) (leaf_stage Leaf.Client d)) (n + 1) more) q in
    let rest = items_turns path (n + 1) more parts.1 in
    (ap suc rest.0, All-cons (λ z. is_client z ≡ true) z (filter_map as_integer (entries more)) (quiet_passed (entry path n) (is_client z) OutOfRange refl parts.0) rest.1)
items_turns path n (item _ more) q = absurd (wrong _ _ q)

turns_found : (name : List ℕ) (most : ℕ) (path : List ℕ) (o : Option Data) → IsQuiet (found_faults walk (optional name (Kind.Values Leaf.Client most)) path o)
    → InArray most (length (filter_map as_integer (entries (unwrap_or (option_and_then as_array o) no_items)))) (λ z. is_client z ≡ true)
    (filter_map as_integer (entries (unwrap_or (option_and_then as_array o) no_items)))
turns_found name most path None q = record { few = omega arith; all = All-nil (λ z. is_client z ≡ true) }
turns_found name most path (Some (array items)) q =
    let parts = quiet_both (refused path (count_stage 0 most (count items))) _ q in
    let within = count_within 0 most (count items) path parts.0 in
    let each = items_turns path 0 items parts.1 in
    record { few = omega (arith, each.0, within.1); all = each.1 }
turns_found name most path (Some _) q = absurd (alone _ q)

pool_found : (name : List ℕ) (path : List ℕ) (o : Option Data) → IsQuiet (found_faults walk (optional name (Kind.Value Leaf.Pool)) path o)
    → is_pool (unwrap_or (option_and_then as_integer o) (pos 8)) ≡ true
pool_found name path None q = refl
pool_found name path (Some (integer z)) q = quiet_passed path (is_pool z) OutOfRange refl q
pool_found name path (Some _) q = absurd (alone _ q)

table_found : (shape : Shape) (name : List ℕ) (path : List ℕ) (o : Option Data) → IsQuiet (found_faults walk (optional name (Kind.Table shape)) path o)
    → IfSome (option_and_then as_table o) (Walked shape)
table_found shape name path None q = tt
table_found shape name path (Some (table inner)) q = record { path = path; quiet = q }
table_found shape name path (Some _) q = absurd (alone _ q)

-- ---- the keys of a table

keys_quiet : (keys : List Key) (path : List ℕ) (inner : Members) → IsQuiet (table_faults walk keys path inner)
    → All (λ key. IsQuiet (key_faults walk path inner key)) keys
unfolding table_faults
keys_quiet keys path inner q = each keys (quiet_both (flat_map (key_faults walk path inner) keys) (unknown_faults keys path inner) q).0
  where
    each : (ks : List Key) → IsQuiet (flat_map (key_faults walk path inner) ks) → All (λ key. IsQuiet (key_faults walk path inner key)) ks
    each [] q = All-nil (λ key. IsQuiet (key_faults walk path inner key))
    each (k ∷ ks) q =
        let parts = quiet_both (key_faults walk path inner k) (flat_map (key_faults walk path inner) ks) (subst (λ faults. IsQuiet faults) (flat_map-cons (key_faults walk path inner) k ks) q) in
        All-cons (λ key. IsQuiet (key_faults walk path inner key)) k ks parts.0 (each ks parts.1)

pub any_key : Key
any_key = required [] (Kind.Value Leaf.Text)

inner_quiet : (shape : Shape) (inner : Members) (walked : Walked shape inner) → All (λ key. IsQuiet (key_faults walk walked.path inner key)) (keys_of shape)
inner_quiet shape inner walked = keys_quiet (keys_of shape) walked.path inner (subst (λ faults. IsQuiet faults) (walk_table shape walked.path inner) walked.quiet)

-- what a table says under the key at a place among those of its shape
module _ (inner : Members) (shape : Shape) (walked : Walked shape inner) (n : ℕ) (within : n < length (keys_of shape)) where
  quiet_at : (key : Key) → get_or (keys_of shape) n any_key ≡ key → IsQuiet (key_faults walk walked.path inner key)
  quiet_at key is = subst (λ k. IsQuiet (key_faults walk walked.path inner k)) is (inner_quiet shape inner walked n any_key within)

  pub name_at : get_or (keys_of shape) n any_key ≡ required (codes "name") (Kind.Value Leaf.Name) → is_name (text_at (codes "name") inner) ≡ true
  name_at is =
      text_found Leaf.Name is_name BadName (λ t. refl) refl (λ z. refl) refl (codes "name") (under walked.path (codes "name")) (get_member (codes "name") inner) (quiet_at _ is)

  pub tx_at : get_or (keys_of shape) n any_key ≡ optional (codes "tx") (Kind.Table Shape.Tx) → IfSome (table_at (codes "tx") inner) (Walked Shape.Tx)
  tx_at is = table_found Shape.Tx (codes "tx") (under walked.path (codes "tx")) (get_member (codes "tx") inner) (quiet_at _ is)

  pub few_statements : (key : List ℕ) → get_or (keys_of shape) n any_key ≡ optional key statements → length (texts_at key inner) ≤ 256
  few_statements key is =
      (texts_found Leaf.Statement (λ t. is_some (sentence_in t)) BadWord (λ t. refl) refl (λ z. refl) refl key false 256 (under walked.path key) (get_member key inner) (quiet_at _ is)).few

module _ (inner : Members) where
  pub class_named : Walked Shape.Class inner → is_class_name (text_at (codes "name") inner) ≡ true
  class_named w =
      text_found Leaf.ClassName is_class_name BadName (λ t. refl) refl (λ z. refl) refl (codes "name") (under w.path (codes "name")) (get_member (codes "name") inner)
      (inner_quiet Shape.Class inner w 0 any_key (omega arith))

  pub few_rules : Walked Shape.Tx inner → length (texts_at (codes "rules") inner) ≤ 64
  few_rules w =
      (texts_found Leaf.Rule (λ t. is_some (rule_in t)) BadWord (λ t. refl) refl (λ z. refl) refl (codes "rules") false 64 (under w.path (codes "rules")) (get_member (codes "rules") inner)
      (inner_quiet Shape.Tx inner w 2 any_key (omega arith))).few

  pub few_calls : Walked Shape.Client inner → length (texts_at (codes "calls") inner) ≤ 64
  few_calls w =
      (texts_found Leaf.Text (λ t. true) BadWord (λ t. refl) refl (λ z. refl) refl (codes "calls") true 64 (under w.path (codes "calls")) (get_member (codes "calls") inner)
      (inner_quiet Shape.Client inner w 0 any_key (omega arith))).few

  pub pool_within : Walked Shape.Settings inner → is_pool (number_at (codes "pool") (pos 8) inner) ≡ true
  pool_within w = pool_found (codes "pool") (under w.path (codes "pool")) (get_member (codes "pool") inner) (inner_quiet Shape.Settings inner w 0 any_key (omega arith))

-- ---- the whole document

pub record Accepted (root : Members) : Type 0 where
  pub events : InArray 256 (length (texts_at (codes "events") root)) (λ t. is_name t ≡ true) (texts_at (codes "events") root)
  pub turns : InArray 100000 (length (numbers_at (codes "schedule") root)) (λ z. is_client z ≡ true) (numbers_at (codes "schedule") root)
  pub settings : IfSome (table_at (codes "settings") root) (Walked Shape.Settings)
  pub rows : TablesIn Shape.Row 0 10000 false (tables_at (codes "rows") root)
  pub classes : TablesIn Shape.Class 0 1000 false (tables_at (codes "classes") root)
  pub beans : TablesIn Shape.Bean 0 256 false (tables_at (codes "beans") root)
  pub methods : TablesIn Shape.Method 0 1000 false (tables_at (codes "methods") root)
  pub syncs : TablesIn Shape.Sync 0 256 false (tables_at (codes "syncs") root)
  pub listeners : TablesIn Shape.Listener 0 256 false (tables_at (codes "listeners") root)
  pub clients : TablesIn Shape.Client 1 64 true (tables_at (codes "clients") root)

pub accepted : (root : Members) → refused_in root ≡ None → Accepted root
unfolding document_faults
accepted root none =
    let keys = keys_quiet root_keys [] root (document_quiet root none) in
    record {
      events = texts_found Leaf.Name is_name BadName (λ t. refl) refl (λ z. refl) refl (codes "events") false 256 (codes "events") (get_member (codes "events") root) (keys 0 any_key (omega arith));
      turns = turns_found (codes "schedule") 100000 (codes "schedule") (get_member (codes "schedule") root) (keys 1 any_key (omega arith));
      settings = table_found Shape.Settings (codes "settings") (codes "settings") (get_member (codes "settings") root) (keys 2 any_key (omega arith));
      rows = tables_found (codes "rows") false Shape.Row 0 10000 (codes "rows") (get_member (codes "rows") root) (keys 3 any_key (omega arith));
      classes = tables_found (codes "classes") false Shape.Class 0 1000 (codes "classes") (get_member (codes "classes") root) (keys 4 any_key (omega arith));
      beans = tables_found (codes "beans") false Shape.Bean 0 256 (codes "beans") (get_member (codes "beans") root) (keys 5 any_key (omega arith));
      methods = tables_found (codes "methods") false Shape.Method 0 1000 (codes "methods") (get_member (codes "methods") root) (keys 6 any_key (omega arith));
      syncs = tables_found (codes "syncs") false Shape.Sync 0 256 (codes "syncs") (get_member (codes "syncs") root) (keys 7 any_key (omega arith));
      listeners = tables_found (codes "listeners") false Shape.Listener 0 256 (codes "listeners") (get_member (codes "listeners") root) (keys 8 any_key (omega arith));
      clients = tables_found (codes "clients") true Shape.Client 1 64 (codes "clients") (get_member (codes "clients") root) (keys 9 any_key (omega arith));
    }
