-- What is found so far, and what the fields, names or items that are left give, is the whole.
use Rattle.std.proofs.Common.{◌≡◌, ◌++◌, map, drop}
use Rattle.std.specs.List.{flat_map}
use Rattle.toml.specs.View.{view, table_view, items_view}
use Rattle.stx_walk.specs.declared.schema.Kind.{Kind}
use Rattle.stx_refusals.specs.Faults.{entry}
use Rattle.stx_walk.specs.Schema.{key_of}
use Rattle.stx_walk.specs.Walk.{each_item, entry_faults, value_faults, key_faults, table_faults, walk}
use Rattle.stx_walk.specs.inner.Places.{holder_path, place_path}
use Rattle.stx_walk.proofs.WalkLaws.{unknown_names}
use Rattle.stx_walk.proofs.walk.Findings.+walk.Given as goal

abbrev pub invariant-table_faults-loop-field : goal.invariant-table_faults-loop-field
invariant-table_faults-loop-field l =
    l.self.faults ++ flat_map (key_faults walk (holder_path l.holder) (table_view l.table)) (map key_of (drop l.field-index l.fields))
    ≡ l.fn.self.faults ++ flat_map (key_faults walk (holder_path l.holder) (table_view l.table)) (map key_of l.fields)

abbrev pub invariant-table_faults-loop-key : goal.invariant-table_faults-loop-key
invariant-table_faults-loop-key l =
    l.self.faults ++ unknown_names (map key_of l.fields) (holder_path l.holder) l.key-iterator
    ≡ l.fn.self.faults ++ table_faults walk (map key_of l.fields) (holder_path l.holder) (table_view l.table)

abbrev pub invariant-tables_faults-loop-at : goal.invariant-tables_faults-loop-at
invariant-tables_faults-loop-at l =
    l.self.faults ++ each_item (λ n d. entry_faults walk l.shape (entry (place_path l.place) n) d) l.at (items_view (drop l.at l.item-items))
    ≡ l.fn.self.faults ++ value_faults walk (Kind.Tables l.shape l.fn.bounds.0 l.fn.bounds.1) (place_path l.place) (view l.value)
