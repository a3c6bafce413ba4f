-- A turn gives a commit just where the store gains a note that commits.
use Rattle.std.proofs.Common.{◌≡◌, ℕ, ℤ, zero, suc, ◌+◌, Bool, true, false, not, ◌||◌, cond, List, [], ◌∷◌, ◌++◌, length, drop, filter, filter_map, slice_get, Option, Some, None, refl, sym, ap, ◌∙◌, append-nil, length-append, arith}
use Rattle.std.specs.List.{list_any, cons_option}
use Rattle.std.specs.Option.{is_some}
use Rattle.std.proofs.lemmas.List.{map-append}
use Rattle.std.proofs.lemmas.List.Elements.{filter-append}
use Rattle.std.proofs.Math.Seq.{drop-append_seam, drop-length}
use Rattle.stx_scenario.specs.declared.scenario.Scenario.{Scenario}
use Rattle.stx_base.specs.declared.call.Want.{Want}
use Rattle.stx_base.specs.declared.history.PoolNote.{PoolNote}
use Rattle.stx_base.specs.declared.history.StoreNote.{StoreNote}
use Rattle.stx_base.specs.declared.history.StoreEntry.{StoreEntry}
use Rattle.stx_base.specs.Alone.{RowMap, first_rows, after}
use Rattle.stx_base.specs.Histories.{store_notes}
use Rattle.stx_base.specs.Stores.{Transaction, is_busy, committed_note, committed_by, journal}
use Rattle.stx_journal.specs.Journal.{committed_from, committed_in}
use Rattle.stx_model.specs.Played.{Turns, turn, replied, with_pool, with_store, want_so_far}
use Rattle.stx_play.specs.Play.{is_commit}

-- ---- how many commit

abbrev count : List StoreNote → ℕ
count ns = length (filter is_commit ns)

abbrev positive : ℕ → Bool
positive zero = false
positive (suc n) = true

one_more : (notes : List StoreNote) (c : ℕ) (n : StoreNote) (rest : List Transaction) (more : List StoreNote) → length rest ≡ count more
    → length (cons_option (committed_note notes c n) rest) ≡ count (n ∷ more)
one_more notes c (StoreNote.Commit t m) rest more same = ap suc same
one_more notes c (StoreNote.Auto a r) rest more same =
    elim (is_busy r) as (λ b. length (cons_option (cond b None (Some (record { client = c; tx = None; work = StoreNote.Auto a r ∷ [] }))) rest)
    ≡ length (cond (not b) (StoreNote.Auto a r ∷ filter is_commit more) (filter is_commit more))) [
      | true ↦ same
      | false ↦ ap suc same
    ]
one_more notes c (StoreNote.Begin t) rest more same = same
one_more notes c (StoreNote.Access t a r) rest more same = same
one_more notes c (StoreNote.Point t) rest more same = same
one_more notes c (StoreNote.BackTo t) rest more same = same
one_more notes c (StoreNote.Release t) rest more same = same
one_more notes c (StoreNote.Rollback t) rest more same = same

journal_counts : (notes : List StoreNote) (H : List StoreEntry) → length (filter_map (committed_by notes) H) ≡ count (store_notes H)
journal_counts notes [] = refl
journal_counts notes (e ∷ es) = one_more notes e.client e.note (filter_map (committed_by notes) es) (store_notes es) (journal_counts notes es)

from_counts : (rows : RowMap) (before : ℕ) (js : List Transaction) → length (committed_from rows before js) ≡ length js
from_counts rows before [] = refl
from_counts rows before (j ∷ js) = ap suc (from_counts (after rows j.work) (before + 1) js)

committed_counts : (values : List ℤ) (H : List StoreEntry) → length (committed_in values H) ≡ count (store_notes H)
committed_counts values H = from_counts (first_rows values) 0 (journal H) ∙ journal_counts (store_notes H) H

count_both : (old added : List StoreEntry) → count (store_notes (old ++ added)) ≡ count (store_notes old) + count (store_notes added)
count_both old added =
    ap count (map-append (λ e. e.note) old added)
    ∙ ap length (filter-append is_commit (store_notes old) (store_notes added))
    ∙ length-append (filter is_commit (store_notes old)) (filter is_commit (store_notes added))

any_counts : (ns : List StoreNote) → list_any is_commit ns ≡ positive (count ns)
any_counts [] = refl
any_counts (n ∷ ns) = by_test (is_commit n) (any_counts ns)
  where
    by_test : (b : Bool) → list_any is_commit ns ≡ positive (count ns) → (b || list_any is_commit ns) ≡ positive (length (cond b (n ∷ filter is_commit ns) (filter is_commit ns)))
    by_test true same = refl
    by_test false same = same

-- an item stands behind the first n where there are more
some_past : {A : Type 0} (xs : List A) (n k : ℕ) → length xs ≡ n + k → is_some (slice_get xs n) ≡ positive k
some_past [] zero zero counted = refl
some_past [] zero (suc k) counted = absurd (omega (arith, counted))
some_past [] (suc n) k counted = absurd (omega (arith, counted))
some_past (x ∷ xs) zero zero counted = absurd (omega (arith, counted))
some_past (x ∷ xs) zero (suc k) counted = refl
some_past (x ∷ xs) (suc n) k counted =
    let rest : length xs ≡ n + k = omega (arith, counted) in
    some_past xs n k rest

-- ---- what a turn adds

-- the entries at the end of a history, which was there before them
record Adds (old new : List StoreEntry) : Type 0 where
  added : List StoreEntry
  is : new ≡ old ++ added

same : (t : Turns) → Adds t.store t.store
same t = record { added = []; is = sym (append-nil t.store) }

stored : (t : Turns) (c : ℕ) (o : Option StoreNote) → Adds t.store (with_store t c o).store
stored t c None = same t
stored t c (Some note) = record { added = record { client = c; note = note } ∷ []; is = refl }

pooled : (t : Turns) (c : ℕ) (o : Option PoolNote) → Adds t.store (with_pool t c o).store
pooled t c None = same t
pooled t c (Some note) = same t

adds : (S : Scenario) (t : Turns) (c : ℕ) (o : Option Want) → Adds t.store (replied S t c o).store
adds S t c None = same t
adds S t c (Some Want.Take) = pooled t c _
adds S t c (Some (Want.Give n)) = pooled t c _
adds S t c (Some w) = stored t c _

turn_adds : (S : Scenario) (t : Turns) (c : ℕ) → Adds t.store (turn S t c).store
unfolding turn
turn_adds S t c = adds S t c (want_so_far S t c)

told : (values : List ℤ) (old new : List StoreEntry) → Adds old new
    → is_some (slice_get (committed_in values new) (length (committed_in values old))) ≡ list_any is_commit (store_notes (drop (length old) new))
told values old new grown =
    let added = grown.added in
    let total : length (committed_in values new) ≡ length (committed_in values old) + count (store_notes added) =
    committed_counts values new
    ∙ ap (λ es. count (store_notes es)) grown.is
    ∙ count_both old added
    ∙ ap (λ n. n + count (store_notes added)) (sym (committed_counts values old)) in
    some_past (committed_in values new) (length (committed_in values old)) (count (store_notes added)) total
    ∙ sym (any_counts (store_notes added))
    ∙ ap (λ es. list_any is_commit (store_notes es)) (sym (ap (drop (length old)) grown.is ∙ drop-append_seam old added))

-- there is a commit more exactly where the turn has added a note that commits
pub turn_told : (S : Scenario) (values : List ℤ) (t : Turns) (c : ℕ)
    → is_some (slice_get (committed_in values (turn S t c).store) (length (committed_in values t.store))) ≡ list_any is_commit (store_notes (drop (length t.store) (turn S t c).store))
turn_told S values t c = told values t.store (turn S t c).store (turn_adds S t c)

-- and nothing is added where nothing is done
pub nothing_told : (H : List StoreEntry) → false ≡ list_any is_commit (store_notes (drop (length H) H))
nothing_told H = ap (λ es. list_any is_commit (store_notes es)) (sym (drop-length H))
