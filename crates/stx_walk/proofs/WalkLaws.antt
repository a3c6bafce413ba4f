-- The walk's loops step by step, and the walk of a table of each shape.
use Rattle.std.proofs.Common.{◌≡◌, ℕ, suc, ◌≤◌, Bool, true, false, List, [], ◌∷◌, ◌++◌, length, map, drop, Option, Some, None, String, Global, string_bytes, BTreeMap, Vec, refl, sym, ap, ◌∙◌}
use Rattle.std.proofs.lemmas.List.{drop_all, append_assoc, append-nil}
use Rattle.std.proofs.lemmas.Bool.{and_parts, false≢true}
use Rattle.std.specs.List.{flat_map, list_all, list_any}
use Rattle.std.specs.Map.{keys_of as names_of}
use Rattle.std.specs.Str.{bytes_eq}
use Rattle.toml.specs.Data.{Data, Members, array, table, as_array, get_member}
use Rattle.toml.specs.View.{view, items_view, members_view, table_view}
use Rattle.toml.specs.declared.value.Value.{Value}
use Rattle.toml.specs.declared.value.Value.TheVariants.{Array, Table}
use Rattle.toml.proofs.Views.{view-Array, view-Table}
use Rattle.stx_refusals.specs.declared.fault.Fault.{Fault}
use Rattle.stx_refusals.specs.declared.fault.Stage.{Stage}
use Rattle.stx_walk.specs.declared.schema.Field.{Field}
use Rattle.stx_walk.specs.declared.schema.Kind.{Kind}
use Rattle.stx_walk.specs.declared.schema.Leaf.{Leaf}
use Rattle.stx_walk.specs.declared.schema.Shape.{Shape}
use Rattle.stx_refusals.specs.Faults.{under, entry, refused, unless, count_stage}
use Rattle.stx_walk.specs.Schema.{Key, key_of, keys_of, leaf_stage}
use Rattle.stx_walk.specs.Walk.{TableWalk, count, missing, each_item, entry_faults, value_faults, found_faults, key_faults, is_known, key_text, unknown_faults, table_faults, walk_within, walk}

-- ---- the ends of loops

pub fields_end : (faults : Key → List Fault) (fields : List Field) (found whole : List Fault) (i : ℕ) → length fields ≤ i
    → found ++ flat_map faults (map key_of (drop i fields)) ≡ whole → found ≡ whole
fields_end faults fields found whole i past so_far = sym (append-nil found) ∙ (rw (drop_all i fields past) at so_far)

-- the keys of the format, and then the others
pub table_end : (keys : List Key) (path : List ℕ) (inner : Members) (found old : List Fault) → found ≡ old ++ flat_map (key_faults walk path inner) keys
    → found ++ unknown_faults keys path inner ≡ old ++ table_faults walk keys path inner
unfolding table_faults
table_end keys path inner found old known = rw known (append_assoc old (flat_map (key_faults walk path inner) keys) (unknown_faults keys path inner))

-- ---- unknown keys, by the names that a table has

abbrev pub unknown_names : List Key → List ℕ → List (String Global) → List Fault
unknown_names keys path [] = []
unknown_names keys path (name ∷ names) =
    refused (under path (key_text (string_bytes name))) (unless (is_known keys (string_bytes name)) Stage.UnknownKey) ++ unknown_names keys path names

pub unknown_by_names : (keys : List Key) (path : List ℕ) (es : List (String Global × Value)) → unknown_names keys path (names_of es) ≡ unknown_faults keys path (members_view es)
unknown_by_names keys path [] = refl
unknown_by_names keys path (e ∷ es) = rw (unknown_by_names keys path es)

-- a search among fields is one among their keys
pub any_field : (fields : List Field) (name : List ℕ) → list_any (λ field. bytes_eq field.key.now name) fields ≡ is_known (map key_of fields) name
any_field [] name = refl
any_field (field ∷ fields) name = rw (any_field fields name)

-- ---- a key and its value

pub key_found : (path : List ℕ) (inner : Members) (key : Key) (d : Data) → get_member key.name inner ≡ Some d
    → key_faults walk path inner key ≡ value_faults walk key.kind (under path key.name) d
key_found path inner key d found = rw found

pub key_missing : (path : List ℕ) (inner : Members) (key : Key) → get_member key.name inner ≡ None
    → key_faults walk path inner key ≡ refused (under path key.name) (missing key.required)
key_missing path inner key none = rw none

-- ---- arrays

count_items : (vs : List Value) → count (items_view vs) ≡ length vs
count_items [] = refl
count_items (v ∷ vs) = ap suc (count_items vs) ∙ refl

module _ (path : List ℕ) (n : ℕ) (items : List Value) (found old : List Fault) where
  -- an array of values: its own fault, if any, and then those of its entries
  pub values_begin : (leaf : Leaf) (most : ℕ) (d : Data) → Some (items_view items) ≡ as_array d → n ≡ length items → found ≡ old ++ refused path (count_stage 0 most n)
      → found ++ each_item (λ k x. refused (entry path k) (leaf_stage leaf x)) 0 (items_view items) ≡ old ++ value_faults walk (Kind.Values leaf most) path d
  values_begin leaf most d is many so_far = rw (so_far, whole d is, many) (append_assoc old _ _)
    where
      whole : (d : Data) → Some (items_view items) ≡ as_array d
          → value_faults walk (Kind.Values leaf most) path d
          ≡ refused path (count_stage 0 most (length items)) ++ each_item (λ k x. refused (entry path k) (leaf_stage leaf x)) 0 (items_view items)
      whole (array more) e =
          let same : more ≡ items_view items = cc in
          rw (same, count_items items)
      whole _ e = cc

  -- an array of tables
  pub tables_begin : (shape : Shape) (least most : ℕ) (v : Value) (more : Vec Value Global) → v ≡ Array more → items ≡ more.items → n ≡ length items
      → found ≡ old ++ refused path (count_stage least most n)
      → found ++ each_item (λ k x. entry_faults walk shape (entry path k) x) 0 (items_view items) ≡ old ++ value_faults walk (Kind.Tables shape least most) path (view v)
  tables_begin shape least most v more is same many so_far = rw (so_far, is, view-Array more, ← same, count_items items, many) (append_assoc old _ _)

-- ---- walks that agree on inner tables agree on the whole

-- a kind without tables
abbrev is_plain : Kind → Bool
is_plain (Kind.Value leaf) = true
is_plain (Kind.Values leaf most) = true
is_plain (Kind.Table shape) = false
is_plain (Kind.Tables shape least most) = false

-- a kind with no table but `tx`
abbrev is_shallow : Kind → Bool
is_shallow (Kind.Table Shape.Tx) = true
is_shallow kind = is_plain kind

module _ (V W : TableWalk) where
  plain_value : (kind : Kind) (path : List ℕ) (d : Data) → is_plain kind ≡ true → value_faults V kind path d ≡ value_faults W kind path d
  plain_value (Kind.Value leaf) path d plain = refl
  plain_value (Kind.Values leaf most) path (array items) plain = refl
  plain_value (Kind.Values leaf most) path _ plain = refl
  plain_value _ path d plain = absurd (false≢true plain)

  module _ (agree : (path : List ℕ) (inner : Members) → V Shape.Tx path inner ≡ W Shape.Tx path inner) where
    tx_value : (path : List ℕ) (d : Data) → value_faults V (Kind.Table Shape.Tx) path d ≡ value_faults W (Kind.Table Shape.Tx) path d
    tx_value path (table inner) = agree path inner
    tx_value path _ = refl

    shallow_value : (kind : Kind) (path : List ℕ) (d : Data) → is_shallow kind ≡ true → value_faults V kind path d ≡ value_faults W kind path d
    shallow_value (Kind.Table Shape.Tx) path d shallow = tx_value path d
    shallow_value kind path d shallow = plain_value kind path d shallow

  -- walks that agree on the kinds of all keys
  agree_on : (keys : List Key) (P : Kind → Bool) → ((kind : Kind) (path : List ℕ) (d : Data) → P kind ≡ true → value_faults V kind path d ≡ value_faults W kind path d)
      → list_all (λ key. P key.kind) keys ≡ true → (path : List ℕ) (inner : Members) → table_faults V keys path inner ≡ table_faults W keys path inner
  unfolding table_faults
  agree_on keys P same all path inner = ap (λ found. found ++ unknown_faults keys path inner) (each keys all)
    where
      found : (key : Key) (d : Option Data) → P key.kind ≡ true → found_faults V key (under path key.name) d ≡ found_faults W key (under path key.name) d
      found key None holds = refl
      found key (Some d) holds = same key.kind (under path key.name) d holds

      each : (ks : List Key) → list_all (λ key. P key.kind) ks ≡ true → flat_map (key_faults V path inner) ks ≡ flat_map (key_faults W path inner) ks
      each [] all = refl
      each (k ∷ ks) all = let both = and_parts (P k.kind) _ all in rw (found k _ both.0, each ks both.1)

tx_plain : list_all (λ key. is_plain key.kind) (keys_of Shape.Tx) ≡ true
tx_plain = refl

all_shallow : (shape : Shape) → list_all (λ key. is_shallow key.kind) (keys_of shape) ≡ true
all_shallow Shape.Tx = refl
all_shallow _ = refl

-- an inner table is walked as any other
pub walk_table : (shape : Shape) (path : List ℕ) (inner : Members) → walk shape path inner ≡ table_faults walk (keys_of shape) path inner
unfolding walk_within
walk_table shape path inner =
    agree_on (walk_within 1) walk (keys_of shape) is_shallow (shallow_value (walk_within 1) walk tx_agrees) (all_shallow shape) path inner
  where
    tx_agrees : (p : List ℕ) (m : Members) → walk_within 1 Shape.Tx p m ≡ walk Shape.Tx p m
    tx_agrees p m = agree_on (walk_within 0) (walk_within 1) (keys_of Shape.Tx) is_plain (plain_value (walk_within 0) (walk_within 1)) tx_plain p m

pub entry_table : (shape : Shape) (path : List ℕ) (v : Value) (inner : BTreeMap (String Global) Value) (keys : List Key) → v ≡ Table inner → keys ≡ keys_of shape
    → entry_faults walk shape path (view v) ≡ table_faults walk keys path (table_view inner)
entry_table shape path v inner keys is of = rw (is, view-Table inner, of) (walk_table shape path (table_view inner))
