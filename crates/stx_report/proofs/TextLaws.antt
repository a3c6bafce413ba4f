-- How a report's text grows: by one more line, client, commit or row.
use Rattle.std.proofs.Common.{◌≡◌, ℕ, ◌+◌, ◌<◌, ◌≤◌, ℤ, List, [], ◌∷◌, ◌++◌, length, map, drop, get_or, Option, Some, None, refl, sym, ◌∙◌, ap, append_assoc, append-nil, fold, Bor, codes, ◌⊎◌, inl, inr}
use Rattle.std.specs.Option.{option_map}
use Rattle.std.proofs.lemmas.List.{at_drop_more, at_drop_all}
use Rattle.std.specs.Ordering.{nat_cmp, match_ordering}
use Rattle.std.specs.declared.cmp.Ordering.{Ordering}
use Rattle.std.specs.declared.cmp.Ordering.TheVariants.{Less, Equal, Greater}
use Rattle.std.specs.Cmp.Lexicographic.{slice_cmp}
use Rattle.std.specs.BTreeMap.{insert_entry}
use Rattle.std.specs.FinMap as finite
use Rattle.std.specs.List.{filter_map, cons_option, enumerate_from}
use Rattle.stx_scenario.specs.declared.scenario.Scenario.{Scenario}
use Rattle.stx_base.specs.declared.history.StoreEntry.{StoreEntry}
use Rattle.stx_base.specs.declared.line.Line.{Line}
use Rattle.stx_base.specs.declared.outcome.Outcome.{Outcome}
use Rattle.stx_base.specs.Lines.{Shared, shared_by, line_text, line_feed}
use Rattle.stx_base.specs.Report.{next_place, pool_left, store_left, lines_text, client_text, clients_text, commit_words, commit_text, journal_text, named_row, rows_text, by_name, final_rows, printed}
use Rattle.stx_base.specs.Alone.{RowMap}
use Rattle.stx_base.specs.Stores.{committed_rows}
use Rattle.stx_report.specs.inner.RowValues.{values_from, found_rows}

-- rows put among sorted rows, one after the other
abbrev pub with_rows : List (List ℕ × ℤ) → List (List ℕ × ℤ) → List (List ℕ × ℤ)
with_rows sorted found = fold (λ rows row. insert_entry (slice_cmp nat_cmp) rows row.0 row.1) sorted found

-- where the item at i is x, what is left from i on is x and what is left after it
at_next : {A B : Type 0} (F : List A → B) (xs : List A) (i : ℕ) (x d : A) → i < length xs → x ≡ get_or xs i d → F (drop i xs) ≡ F (x ∷ drop (i + 1) xs)
at_next F xs i x d within at = at_drop_more F xs i d within ∙ ap (λ y. F (y ∷ drop (i + 1) xs)) (sym at)

-- a text that grows by a piece with which the rest of the whole began
piece_more : (out next piece rest left whole : List ℕ) → out ++ left ≡ whole → left ≡ piece ++ rest → next ≡ out ++ piece → next ++ rest ≡ whole
piece_more out next piece rest left whole so_far begins grown =
    ap (λ t. t ++ rest) grown ∙ append_assoc out piece rest ∙ ap (λ t. out ++ t) (sym begins) ∙ so_far

-- a text is whole where nothing is left
pub piece_all : {A : Type 0} (F : List A → List ℕ) (xs : List A) (i : ℕ) (out whole : List ℕ) → length xs ≤ i → F [] ≡ [] → out ++ F (drop i xs) ≡ whole → out ≡ whole
piece_all F xs i out whole past nothing so_far =
    sym (append-nil out) ∙ ap (λ t. out ++ t) (sym nothing ∙ sym (at_drop_all F xs i past)) ∙ so_far

module _ (S : Scenario) where
  -- one more line, with the place of the next entry in its history
  pub lines_step : (pool store pool' store' : List ℕ) (lines : List Line) (i : ℕ) (line d : Line) (shared : Shared) (place : Option ℕ) (out next whole : List ℕ)
      → i < length lines → line ≡ get_or lines i d → shared ≡ shared_by line
      → place ≡ next_place shared pool store → pool' ≡ pool_left shared pool → store' ≡ store_left shared store
      → next ≡ out ++ line_text S line place
      → out ++ lines_text S pool store (drop i lines) ≡ whole
      → next ++ lines_text S pool' store' (drop (i + 1) lines) ≡ whole
  unfolding lines_text
  lines_step pool store pool' store' lines i line d shared place out next whole within at whose its_place its_pool its_store grown so_far =
      piece_more out next _ _ _ whole so_far
      (at_next (lines_text S pool store) lines i line d within at ∙ rw (its_place, its_pool, its_store, whose) refl)
      grown

  pub lines_end : (pool store : List ℕ) (lines : List Line) (i : ℕ) (out whole : List ℕ) → length lines ≤ i
      → out ++ lines_text S pool store (drop i lines) ≡ whole → out ≡ whole
  unfolding lines_text
  lines_end pool store lines i out whole past so_far = piece_all (lines_text S pool store) lines i out whole past refl so_far

  -- one more client
  pub clients_step : (O : Outcome) (clients : List (List Line)) (i : ℕ) (lines : List Line) (out next whole : List ℕ)
      → i < length clients → lines ≡ get_or clients i lines
      → next ≡ out ++ client_text S O i lines
      → out ++ clients_text S O i (drop i clients) ≡ whole
      → next ++ clients_text S O (i + 1) (drop (i + 1) clients) ≡ whole
  unfolding clients_text
  clients_step O clients i lines out next whole within at grown so_far =
      piece_more out next _ _ _ whole so_far (at_next (clients_text S O i) clients i lines lines within at) grown

  pub clients_end : (O : Outcome) (clients : List (List Line)) (i : ℕ) (out whole : List ℕ) → length clients ≤ i
      → out ++ clients_text S O i (drop i clients) ≡ whole → out ≡ whole
  unfolding clients_text
  clients_end O clients i out whole past so_far = piece_all (clients_text S O i) clients i out whole past refl so_far

-- one more entry of the store's history, a commit or none
pub commit_step : (number i : ℕ) (entries : List StoreEntry) (entry d : StoreEntry) (words : List ℕ) (out next whole : List ℕ)
    → i < length entries → entry ≡ get_or entries i d → commit_words entry.note ≡ Some words
    → next ≡ out ++ commit_text number (i + 1) entry.client (Some words)
    → out ++ journal_text number (i + 1) (drop i entries) ≡ whole
    → next ++ journal_text (number + 1) (i + 1 + 1) (drop (i + 1) entries) ≡ whole
unfolding journal_text
commit_step number i entries entry d words out next whole within at is grown so_far =
    piece_more out next _ _ _ whole so_far (at_next (journal_text number (i + 1)) entries i entry d within at ∙ rw is refl) grown

pub other_step : (number i : ℕ) (entries : List StoreEntry) (entry d : StoreEntry) (out whole : List ℕ)
    → i < length entries → entry ≡ get_or entries i d → commit_words entry.note ≡ None
    → out ++ journal_text number (i + 1) (drop i entries) ≡ whole
    → out ++ journal_text number (i + 1 + 1) (drop (i + 1) entries) ≡ whole
unfolding journal_text
other_step number i entries entry d out whole within at is so_far =
    ap (λ t. out ++ t) (sym (at_next (journal_text number (i + 1)) entries i entry d within at ∙ rw is refl)) ∙ so_far

pub journal_end : (number i : ℕ) (entries : List StoreEntry) (out whole : List ℕ) → length entries ≤ i
    → out ++ journal_text number (i + 1) (drop i entries) ≡ whole → out ≡ whole
unfolding journal_text
journal_end number i entries out whole past so_far = piece_all (journal_text number (i + 1)) entries i out whole past refl so_far

-- ---- the rows that are put among others

-- an insertion among names by reference is one among the names
pub shown_insert : (es : List (Bor (List ℕ) × ℤ)) (k : Bor (List ℕ)) (v : ℤ)
    → map (λ row. (row.0.now, row.1)) (insert_entry (λ x y. slice_cmp nat_cmp x.now y.now) es k v)
    ≡ insert_entry (slice_cmp nat_cmp) (map (λ row. (row.0.now, row.1)) es) k.now v
shown_insert [] k v = refl
shown_insert (e ∷ es) k v = by (slice_cmp nat_cmp k.now e.0.now) (shown_insert es k v)
  where
    rest : List (Bor (List ℕ) × ℤ)
    rest = insert_entry (λ x y. slice_cmp nat_cmp x.now y.now) es k v

    names_rest : List (List ℕ × ℤ)
    names_rest = insert_entry (slice_cmp nat_cmp) (map (λ row. (row.0.now, row.1)) es) k.now v

    by : (o : Ordering) → map (λ row. (row.0.now, row.1)) rest ≡ names_rest
        → map (λ row. (row.0.now, row.1)) (match_ordering o ((k, v) ∷ e ∷ es) ((e.0, v) ∷ es) (e ∷ rest))
        ≡ match_ordering o ((k.now, v) ∷ map (λ row. (row.0.now, row.1)) (e ∷ es)) ((e.0.now, v) ∷ map (λ row. (row.0.now, row.1)) es) ((e.0.now, e.1) ∷ names_rest)
    by Less same = refl
    by Equal same = refl
    by Greater same = ap (λ rows. (e.0.now, e.1) ∷ rows) same

-- one more row that has a value
pub row_step : (es next : List (Bor (List ℕ) × ℤ)) (k : Bor (List ℕ)) (v : ℤ) (name : List ℕ) (value : Option ℤ) (names names' : List (List ℕ)) (values values' : List (Option ℤ)) (whole : List (List ℕ × ℤ))
    → names ≡ name ∷ names' → values ≡ value ∷ values' → value ≡ Some v → k.now ≡ name
    → next ≡ insert_entry (λ x y. slice_cmp nat_cmp x.now y.now) es k v
    → with_rows (map (λ row. (row.0.now, row.1)) es) (found_rows names values) ≡ whole
    → with_rows (map (λ row. (row.0.now, row.1)) next) (found_rows names' values') ≡ whole
row_step es next k v name value names names' values values' whole first second has reads grown so_far =
    rw (grown, shown_insert es k v, reads) (rw (first, second, has) at so_far)

-- no row is left where the names or the values have ended
found_rows-none : (names : List (List ℕ)) → found_rows names [] ≡ []
found_rows-none [] = refl
found_rows-none (name ∷ names) = refl

pub rows_end : (rows : List (List ℕ × ℤ)) (names : List (List ℕ)) (values : List (Option ℤ)) (whole : List (List ℕ × ℤ))
    → (names ≡ []) ⊎ (values ≡ []) → with_rows rows (found_rows names values) ≡ whole → rows ≡ whole
rows_end rows names values whole ended so_far =
    elim ended [
      | inl no_name ↦ rw no_name at so_far
      | inr no_value ↦ rw (no_value, found_rows-none names) at so_far
    ]

-- ---- the values of a map of rows

-- what is found by number is what is found beside the names
pub found_rows-values : (rows : RowMap) (k : ℕ) (names : List (List ℕ))
    → found_rows names (values_from rows k names) ≡ filter_map (named_row rows) (enumerate_from k names)
found_rows-values rows k [] = refl
found_rows-values rows k (name ∷ names) =
    ap (λ found. cons_option (option_map (λ value. (name, value)) (finite.get rows k)) found) (found_rows-values rows (k + 1) names)

-- the rows that have a value, sorted, are the final ones
pub held_at_end : (S : Scenario) (history : List StoreEntry) (values : List (Option ℤ)) (rows : List (List ℕ × ℤ))
    → values ≡ values_from (committed_rows S.values history) 0 S.row_names → rows ≡ by_name (found_rows S.row_names values)
    → rows ≡ final_rows S history
held_at_end S history values rows held sorted =
    sorted ∙ ap (λ vs. by_name (found_rows S.row_names vs)) held ∙ ap by_name (found_rows-values (committed_rows S.values history) 0 S.row_names)

-- ---- the whole report

ends_of_lines : (head feed clients journal entries rows found end : List ℕ)
    → (head ++ feed) ++ clients ++ (journal ++ feed) ++ entries ++ (rows ++ feed) ++ found ++ (end ++ feed)
    ≡ head ++ feed ++ clients ++ journal ++ feed ++ entries ++ rows ++ feed ++ found ++ end ++ feed
ends_of_lines head feed clients journal entries rows found end = simp append_assoc

-- the parts, pushed one after the other, are the report
pub printed_from : (S : Scenario) (O : Outcome) (values : List (Option ℤ)) (t1 t2 t3 t4 t5 t6 t7 : List ℕ)
    → values ≡ values_from (committed_rows S.values O.store) 0 S.row_names
    → t1 ≡ codes "springtx 1\n"
    → t2 ≡ t1 ++ clients_text S O 0 O.lines
    → t3 ≡ t2 ++ codes "journal\n"
    → t4 ≡ t3 ++ journal_text 1 1 O.store
    → t5 ≡ t4 ++ codes "rows\n"
    → t6 ≡ t5 ++ rows_text (by_name (found_rows S.row_names values))
    → t7 ≡ t6 ++ codes "end\n"
    → t7 ≡ printed S O
unfolding printed
printed_from S O values t1 t2 t3 t4 t5 t6 t7 found e1 e2 e3 e4 e5 e6 e7 =
    rw (e7, e6, e5, e4, e3, e2, e1, found, found_rows-values (committed_rows S.values O.store) 0 S.row_names)
    (ends_of_lines (codes "springtx 1") line_feed (clients_text S O 0 O.lines) (codes "journal") (journal_text 1 1 O.store) (codes "rows")
    (rows_text (final_rows S O.store)) (codes "end"))
