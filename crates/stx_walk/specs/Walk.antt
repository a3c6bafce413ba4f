-- The walk over a document: what the stages on single places refuse in it, in walk order. That is the order of the keys
-- in the format, with unknown keys after them in byte order, and in an array the order of its entries.
use Rattle.std.specs.Prelude.{ℕ, zero, suc, ◌+◌, Bool, if◌then◌else◌, List, [], ◌++◌, codes, Option, Some, None}
use Rattle.std.specs.List.{list_any, flat_map}
use Rattle.std.specs.Str.{bytes_eq}
use Rattle.toml.specs.Data.{Data, array, table, Items, no_items, item, Members, no_members, member, get_member}
use Rattle.stx_refusals.specs.declared.fault.Fault.{Fault}
use Rattle.stx_refusals.specs.declared.fault.Stage.{Stage}
use Rattle.stx_walk.specs.declared.schema.Shape.{Shape}
use Rattle.stx_walk.specs.declared.schema.Kind.{Kind}
use Rattle.stx_scenario.specs.Names.{is_name}
use Rattle.stx_refusals.specs.Faults.{under, entry, refused, unless, count_stage}
use Rattle.stx_walk.specs.Schema.{Key, keys_of, root_keys, leaf_stage}

-- what is refused in a table of some shape at some path
abbrev pub TableWalk : Type 0
TableWalk = Shape → List ℕ → Members → List Fault

-- ---- arrays

abbrev pub count : Items → ℕ
count no_items = 0
count (item d more) = suc (count more)

-- what is refused in each entry, whose numbers are counted from n
abbrev pub each_item : (ℕ → Data → List Fault) → ℕ → Items → List Fault
each_item faults n no_items = []
each_item faults n (item d more) = faults n d ++ each_item faults (n + 1) more

-- an entry that has to be a table
abbrev pub entry_faults : TableWalk → Shape → List ℕ → Data → List Fault
entry_faults walk shape path (table inner) = walk shape path inner
entry_faults walk shape path _ = refused path (Some Stage.WrongType)

-- ---- values

-- an array comes before its entries
abbrev pub value_faults : TableWalk → Kind → List ℕ → Data → List Fault
value_faults walk (Kind.Value leaf) path d = refused path (leaf_stage leaf d)
value_faults walk (Kind.Values leaf most) path (array items) =
    refused path (count_stage 0 most (count items)) ++ each_item (λ n d. refused (entry path n) (leaf_stage leaf d)) 0 items
value_faults walk (Kind.Table shape) path (table inner) = walk shape path inner
value_faults walk (Kind.Tables shape least most) path (array items) =
    refused path (count_stage least most (count items)) ++ each_item (λ n d. entry_faults walk shape (entry path n) d) 0 items
value_faults walk _ path _ = refused path (Some Stage.WrongType)

-- ---- tables

abbrev pub missing : Bool → Option Stage
missing required = if required then Some Stage.Missing else None

-- what is refused at a key of the format
abbrev pub found_faults : TableWalk → Key → List ℕ → Option Data → List Fault
found_faults walk key path (Some d) = value_faults walk key.kind path d
found_faults walk key path None = refused path (missing key.required)

abbrev pub key_faults : TableWalk → List ℕ → Members → Key → List Fault
key_faults walk path inner key = found_faults walk key (under path key.name) (get_member key.name inner)

abbrev pub is_known : List Key → List ℕ → Bool
is_known keys name = list_any (λ key. bytes_eq key.name name) keys

-- a key that isn't a name is written `?`
abbrev pub key_text : List ℕ → List ℕ
key_text name = if is_name name then name else codes "?"

-- the keys that the format doesn't have; a table lists its keys in byte order
abbrev pub unknown_faults : List Key → List ℕ → Members → List Fault
unknown_faults keys path no_members = []
unknown_faults keys path (member name d more) =
    refused (under path (key_text name)) (unless (is_known keys name) Stage.UnknownKey) ++ unknown_faults keys path more

unfoldable pub table_faults : TableWalk → List Key → List ℕ → Members → List Fault
table_faults walk keys path inner = flat_map (key_faults walk path inner) keys ++ unknown_faults keys path inner

-- tables stand in tables of the root to a depth of two, a `tx` in a method
unfoldable pub walk_within : ℕ → TableWalk
walk_within zero shape path inner = []
walk_within (suc depth) shape path inner = table_faults (walk_within depth) (keys_of shape) path inner

abbrev pub walk : TableWalk
walk shape path inner = walk_within 2 shape path inner

-- all that the stages on single places refuse in a document
unfoldable pub document_faults : Members → List Fault
document_faults root = table_faults walk root_keys [] root
