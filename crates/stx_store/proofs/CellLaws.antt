-- One row of a map that is replayed is a cell that is replayed.
use Rattle.std.proofs.Common.{◌≡◌, ℕ, ℤ, cond, List, [], ◌∷◌, Option, Some, None, map, fold, refl, sym, ap, ◌∙◌}
use Rattle.std.specs.Cmp.{unsigned_tied}
use Rattle.std.specs.FinMap.{get, get-insert, get-remove}
use Rattle.std.proofs.lemmas.Cmp.{nat_cmp_total}
use Rattle.stx_base.specs.declared.facts.StoreFacts.{StoreFacts}
use Rattle.stx_base.specs.declared.history.Access.{Access}
use Rattle.stx_base.specs.declared.history.Answer.{Answer}
use Rattle.stx_base.specs.declared.history.StoreNote.{StoreNote}
use Rattle.stx_base.specs.declared.history.StoreEntry.{StoreEntry}
use Rattle.stx_base.specs.Alone.{RowMap, Alone, row_of, applied, stepped, at_start, innermost, without_innermost, after, finds, found_or_absent}
use Rattle.stx_base.specs.Histories.{store_notes}
use Rattle.stx_base.specs.Stores.{work, conflicts, smallest, committed_rows, busy_or, access_answer, auto_answer}
use Rattle.stx_store.specs.inner.Cells.{Cell, cell_applied, cell_stepped, cell_after, found_at}

-- ---- one transaction's work

applied-at : (k : ℕ) (rows : RowMap) (a : Access) → get (applied rows a) k ≡ cell_applied k (get rows k) a
applied-at k rows (Access.Read row) = refl
applied-at k rows (Access.Write row v) = get-insert nat_cmp_total rows row.0 v k ∙ ap (λ b. cond b (Some v) (get rows k)) (unsigned_tied k row.0)
applied-at k rows (Access.Erase row) = get-remove nat_cmp_total rows row.0 k ∙ ap (λ b. cond b None (get rows k)) (unsigned_tied k row.0)

-- the cell of row k in a map with its copies
abbrev cell_of : ℕ → Alone → Cell
cell_of k s = record { value = get s.rows k; copies = map (λ rows. get rows k) s.copies }

last-at : (k : ℕ) (rows : RowMap) (copies : List RowMap) → get (innermost rows copies) k ≡ innermost (get rows k) (map (λ m. get m k) copies)
last-at k rows [] = refl
last-at k rows (copy ∷ copies) = refl

rest-at : (k : ℕ) (copies : List RowMap) → map (λ m. get m k) (without_innermost copies) ≡ without_innermost (map (λ m. get m k) copies)
rest-at k [] = refl
rest-at k (copy ∷ copies) = refl

abbrev with_value : Option ℤ → List (Option ℤ) → Cell
with_value value copies = record { value = value; copies = copies }

stepped-at : (k : ℕ) (s : Alone) (n : StoreNote) → cell_of k (stepped s n) ≡ cell_stepped k (cell_of k s) n
stepped-at k s (StoreNote.Access t a r) = ap (λ v. with_value v (map (λ m. get m k) s.copies)) (applied-at k s.rows a)
stepped-at k s (StoreNote.Auto a r) = ap (λ v. with_value v (map (λ m. get m k) s.copies)) (applied-at k s.rows a)
stepped-at k s (StoreNote.Point t) = refl
stepped-at k s (StoreNote.BackTo t) = ap (λ v. with_value v (map (λ m. get m k) s.copies)) (last-at k s.rows s.copies)
stepped-at k s (StoreNote.Release t) = ap (with_value (get s.rows k)) (rest-at k s.copies)
stepped-at k s (StoreNote.Begin t) = refl
stepped-at k s (StoreNote.Commit t n) = refl
stepped-at k s (StoreNote.Rollback t) = refl

worked-at : (k : ℕ) (s : Alone) (works : List StoreNote) → cell_of k (fold stepped s works) ≡ fold (cell_stepped k) (cell_of k s) works
worked-at k s [] = refl
worked-at k s (n ∷ works) = worked-at k (stepped s n) works ∙ ap (λ c. fold (cell_stepped k) c works) (stepped-at k s n)

pub after-at : (k : ℕ) (rows : RowMap) (works : List StoreNote) → get (after rows works) k ≡ cell_after k (get rows k) works
after-at k rows works = ap (λ c. c.value) (worked-at k (at_start rows) works)

pub finds-at : (rows : RowMap) (a : Access) (k : ℕ) → k ≡ row_of a → finds rows a ≡ found_at (get rows k) a
finds-at rows (Access.Read row) k is = ap (λ j. found_or_absent (get rows j)) (sym is)
finds-at rows (Access.Write row v) k is = refl
finds-at rows (Access.Erase row) k is = refl

-- ---- answers

-- where another is in the way, an access is busy with it
pub access-busy : (facts : StoreFacts) (H : List StoreEntry) (t u : ℕ) (a : Access) → Some u ≡ smallest (conflicts facts (store_notes H) (Some t) a)
    → Answer.Busy u ≡ access_answer facts H t a
access-busy facts H t u a held = ap (λ o. busy_or o (finds (after (committed_rows facts.values H) (work (store_notes H) t)) a)) held

pub auto-busy : (facts : StoreFacts) (H : List StoreEntry) (u : ℕ) (a : Access) → Some u ≡ smallest (conflicts facts (store_notes H) None a)
    → Answer.Busy u ≡ auto_answer facts H a
auto-busy facts H u a held = ap (λ o. busy_or o (finds (committed_rows facts.values H) a)) held

-- where nobody is in the way, an access finds what its row's value says
pub access-found : (facts : StoreFacts) (H : List StoreEntry) (t k : ℕ) (a : Access) (before now : Option ℤ) (answer : Answer)
    → k ≡ row_of a → None ≡ smallest (conflicts facts (store_notes H) (Some t) a) → before ≡ get (committed_rows facts.values H) k
    → now ≡ cell_after k before (work (store_notes H) t) → answer ≡ found_at now a → answer ≡ access_answer facts H t a
access-found facts H t k a before now answer is free committed worked found =
    let rows = committed_rows facts.values H in
    let own = work (store_notes H) t in
    found
    ∙ ap (λ v. found_at v a) (worked ∙ ap (λ v. cell_after k v own) committed ∙ sym (after-at k rows own))
    ∙ sym (finds-at (after rows own) a k is)
    ∙ ap (λ o. busy_or o (finds (after rows own) a)) free

pub auto-found : (facts : StoreFacts) (H : List StoreEntry) (k : ℕ) (a : Access) (now : Option ℤ) (answer : Answer)
    → k ≡ row_of a → None ≡ smallest (conflicts facts (store_notes H) None a) → now ≡ get (committed_rows facts.values H) k
    → answer ≡ found_at now a → answer ≡ auto_answer facts H a
auto-found facts H k a now answer is free committed found =
    let rows = committed_rows facts.values H in
    found
    ∙ ap (λ v. found_at v a) committed
    ∙ sym (finds-at rows a k is)
    ∙ ap (λ o. busy_or o (finds rows a)) free
