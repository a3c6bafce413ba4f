-- The names that the arrays of a document declare, in the order of the numbers that they stand for.
use Rattle.std.specs.Prelude.{ℕ, List, codes, map}
use Rattle.toml.specs.Data.{Members}
use Rattle.stx_names.specs.declared.named.Named.{Named}
use Rattle.stx_names.specs.Duplicates.{method_text}
use Rattle.stx_draft.specs.Parts.{text_at, texts_at, tables_at}

abbrev pub names_at : List ℕ → Members → List (List ℕ)
names_at array root = map (text_at (codes "name")) (tables_at array root)

abbrev pub text_of_method : Members → List ℕ
text_of_method table = method_text (text_at (codes "bean") table) (text_at (codes "name") table)

-- those that the arrays of a document declare
abbrev pub names_in : Members → Named
names_in root = record {
  events = texts_at (codes "events") root;
  rows = names_at (codes "rows") root;
  classes = names_at (codes "classes") root;
  beans = names_at (codes "beans") root;
  methods = map text_of_method (tables_at (codes "methods") root);
  syncs = names_at (codes "syncs") root;
  listeners = names_at (codes "listeners") root;
}
