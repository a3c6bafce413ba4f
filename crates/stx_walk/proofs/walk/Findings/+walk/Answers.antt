-- A key that is there or missing, the beginnings and ends of the loops, and an inner table.
use Rattle.std.proofs.Common.{◌≡◌, ◌∙◌, Some, None, option_map, map, length, ◌++◌, sym, ap}
use Rattle.toml.specs.Data.{get_member}
use Rattle.toml.specs.View.{view, table_view}
use Rattle.toml.proofs.Views.{table_get}
use Rattle.stx_walk.specs.Schema.{key_of}
use Rattle.stx_walk.specs.Walk.{walk, key_faults}
use Rattle.stx_walk.specs.inner.Places.{holder_path, place_path}
use Rattle.stx_walk.proofs.WalkLaws.{fields_end, key_found, key_missing, table_end, unknown_names, unknown_by_names, tables_begin, entry_table}
use Rattle.stx_walk.proofs.walk.Findings.+walk.Goals as goal

pub entry_faults-returns-in-Table : goal.entry_faults-returns-in-Table
entry_faults-returns-in-Table t c =
    rw (entry_table c.args.shape (holder_path c.args.holder) c.args.value.now c.in-Table.inner (map key_of c.fields_of.result.now) c.in-Table.is c.fields_of.ensures) c.table_faults.ensures

pub field_faults-returns-in-Some : goal.field_faults-returns-in-Some
field_faults-returns-in-Some t c =
    let field = key_of c.args.field.now in
    let found : get_member field.name (table_view c.args.table.now) ≡ Some (view c.in-Some.value.now)
    = sym (table_get c.get.result field.name c.args.table.now.entries c.get.ensures.value) ∙ ap (λ r. option_map (λ x. view x.now) r) c.in-Some.is in
    rw (key_found (holder_path c.args.holder) (table_view c.args.table.now) field (view c.in-Some.value.now) found) c.value_faults.ensures

pub field_faults-returns-in-None : goal.field_faults-returns-in-None
field_faults-returns-in-None t c =
    let field = key_of c.args.field.now in
    let none : get_member field.name (table_view c.args.table.now) ≡ None
    = sym (table_get c.get.result field.name c.args.table.now.entries c.get.ensures.value) ∙ ap (λ r. option_map (λ x. view x.now) r) c.in-None.is in
    rw (key_missing (holder_path c.args.holder) (table_view c.args.table.now) field none) (rw c.missing_stage.ensures at c.refuse_at.ensures)

pub table_faults-loop-key-init : goal.table_faults-loop-key-init
table_faults-loop-key-init t c =
    let fields = c.args.fields.now in
    let path = holder_path c.args.holder in
    let inner = table_view c.args.table.now in
    let found = c.loop-field.self.faults in
    let known = fields_end (key_faults walk path inner) fields found _ c.loop-field.field-index c.loop-field-test.false c.loop-field.invariant in
    ap (λ names. found ++ unknown_names (map key_of fields) path names) (c.into_iter-key-iterator.ensures.into_iter_gives ∙ c.keys-key-items.ensures.rest)
    ∙ ap (λ unknown. found ++ unknown) (unknown_by_names (map key_of fields) path c.args.table.now.entries)
    ∙ table_end (map key_of fields) path inner found c.args.self.now.faults known

pub tables_faults-loop-at-init : goal.tables_faults-loop-at-init
tables_faults-loop-at-init t c =
    let items = c.deref-item-items.result.now in
    let many : c.len.result ≡ length items = c.len.ensures ∙ sym c.deref-item-items.ensures.len in
    tables_begin (place_path c.args.place) c.len.result items c.refuse_at.new.self.faults c.args.self.now.faults c.args.shape c.args.bounds.0 c.args.bounds.1 c.args.value.now c.in-Array.items c.in-Array.is
    c.deref-item-items.ensures.value many (rw c.count_stage.ensures at c.in_ok-refuse_at-in-Array.ensures)
