-- Names to which rows are added as statements are read.
use Rattle.std.specs.Prelude.{◌≡◌, List}
use Rattle.stx_names.specs.declared.numbered.Numbered.{Numbered}
use Rattle.stx_names.specs.declared.sentence.Sentence.{Sentence}
use Rattle.stx_draft.specs.Draft.{with_rows}

-- these names, and after them the rows that statements name
abbrev pub grown : Numbered → List Sentence → Numbered
grown names said = record {
  events = names.events;
  rows = with_rows names.rows said;
  classes = names.classes;
  beans = names.beans;
  methods = names.methods;
  syncs = names.syncs;
}

-- what is made by these names, and by them whatever rows are added
abbrev pub Lasts : {A : Type 0} → (Numbered → A) → Numbered → A → Type 0
Lasts made names a = (more : List Sentence) → a ≡ made (grown names more)
