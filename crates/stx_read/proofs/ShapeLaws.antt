-- The scenario that a document states is shaped: the rows that only statements name are names, and each is new.
use Rattle.std.proofs.Common.{◌≡◌, ℕ, List, ◌++◌, codes, flat_map, length, map, take, drop, refl, sym, ◌∙◌, length-append, arith}
use Rattle.std.proofs.lemmas.List.{length-map}
use Rattle.stx_scenario.specs.declared.scenario.Scenario.{Scenario}
use Rattle.stx_scenario.specs.declared.scenario.ClassDecl.{ClassDecl}
use Rattle.stx_scenario.specs.BuiltIn.{built_in}
use Rattle.stx_base.specs.Valid.{IsFew, IsShaped, PlacesInOrder}
use Rattle.stx_judge.proofs.CountLaws.{few_classes}
use Rattle.stx_draft.specs.DeclaredNames.{names_in}
use Rattle.stx_draft.specs.Parts.{tables_at}
use Rattle.stx_draft.specs.Draft.{row_said, sentences_of, all_names, class_in, drafted}
use Rattle.stx_draft.proofs.DraftLaws.{Added, added, are_names-document, take-first, drop-first}
use Rattle.stx_read.specs.Shaped.{AreFew, DraftsAreShaped}

shaped_so : (S : Scenario) (own : List ClassDecl) (rows : List (List ℕ)) → S.classes ≡ built_in ++ own → length S.values ≡ length rows → Added rows S.row_names → AreFew S → IsShaped S
shaped_so S own rows classes valued all few =
    let first : take (length S.values) S.row_names ≡ rows = rw (all.is, valued) (take-first rows all.more) in
    let rest : drop (length S.values) S.row_names ≡ all.more = rw (all.is, valued) (drop-first rows all.more) in
    record {
      classes = rw classes (take-first built_in own);
      values = rw (all.is, valued) (omega (arith, length-append rows all.more));
      names = rw rest all.names;
      rows = rw (first, rest) (all.new (length S.values));
      few_events = few.0;
      few_turns = few.1;
      few_rows = few.2;
      few_classes = few.3;
      few_beans = few.4;
      few_methods = few.5;
      few_syncs = few.6;
      few_listeners = few.7;
      few_clients = few.8;
    }

pub shaped : DraftsAreShaped
unfolding drafted
shaped root few =
    shaped_so (drafted root) (map (class_in (all_names root)) (tables_at (codes "classes") root)) (names_in root).rows refl
    (length-map (tables_at (codes "rows") root) _ ∙ sym (length-map (tables_at (codes "rows") root) _))
    (added (flat_map row_said (sentences_of root)) (names_in root).rows (are_names-document root)) few

-- how many parts of each kind there are where no list is too long
pub few_parts : (S : Scenario) → PlacesInOrder S → IsFew (length S.row_names) → AreFew S
few_parts S order rows = (
  omega (arith, order.few_events),
  omega (arith, order.few_turns),
  rows,
  few_classes S order,
  omega (arith, order.few_beans),
  omega (arith, order.few_methods),
  omega (arith, order.few_syncs),
  omega (arith, order.few_listeners),
  omega (arith, order.few_clients),
)
