-- The committed rows: what they are at first, and after one entry more of a history that is walked.
use Rattle.std.proofs.Common.{◌≡◌, ℕ, ℤ, zero, suc, ◌+◌, ◌<◌, true, false, cond, List, [], ◌∷◌, Some, length, filter_map, get_or, take, slice_get, refl, ap, ◌∙◌, arith, eq-eqb, ne_eqb}
use Rattle.std.specs.List.{enumerate_from, cons_option}
use Rattle.std.specs.Ordering.{nat_cmp, eq_by_cmp}
use Rattle.std.specs.Cmp.{unsigned_tied}
use Rattle.std.specs.FinMap.{get, find, get-from_entries}
use Rattle.std.proofs.lemmas.Cmp.{nat_cmp_total}
use Rattle.std.proofs.lemmas.List.{take_more}
use Rattle.std.proofs.lemmas.List.Elements.{filter_map-append}
use Rattle.std.proofs.lemmas.List.Sums.{fold-append}
use Rattle.stx_base.specs.declared.history.StoreNote.{StoreNote}
use Rattle.stx_base.specs.declared.history.StoreEntry.{StoreEntry}
use Rattle.stx_base.specs.Alone.{RowMap, first_rows, after}
use Rattle.stx_base.specs.Stores.{committed_note, committed_by, after_all}

-- ---- at first

find_after : (n j : ℕ) (values : List ℤ) → find nat_cmp (n + j) (enumerate_from n values) ≡ slice_get values j
find_after n j [] = refl
find_after n zero (x ∷ xs) =
    let here : eq_by_cmp nat_cmp (n + 0) n ≡ true = unsigned_tied (n + 0) n ∙ eq-eqb (n + 0) n (omega arith) in
    ap (λ b. cond b (Some x) (find nat_cmp (n + 0) (enumerate_from (n + 1) xs))) here
find_after n (suc j) (x ∷ xs) =
    let elsewhere : eq_by_cmp nat_cmp (n + suc j) n ≡ false = unsigned_tied (n + suc j) n ∙ ne_eqb (n + suc j) n (λ e. omega arith) in
    let moved : n + suc j ≡ (n + 1) + j = omega arith in
    ap (λ b. cond b (Some x) (find nat_cmp (n + suc j) (enumerate_from (n + 1) xs))) elsewhere
    ∙ ap (λ q. find nat_cmp q (enumerate_from (n + 1) xs)) moved
    ∙ find_after (n + 1) j xs

pub first_rows-at : (values : List ℤ) (k : ℕ) → get (first_rows values) k ≡ slice_get values k
first_rows-at values k =
    let here : k ≡ 0 + k = omega arith in
    get-from_entries nat_cmp_total (enumerate_from 0 values) k ∙ ap (λ q. find nat_cmp q (enumerate_from 0 values)) here ∙ find_after 0 k values

-- ---- and then entry by entry

-- the rows after the commits in a part of a history
abbrev pub rows_so_far : List ℤ → List StoreNote → List StoreEntry → RowMap
rows_so_far values notes part = after_all (first_rows values) (filter_map (committed_by notes) part)

-- the rows after what an entry commits, if anything
abbrev pub rows_with : List StoreNote → RowMap → StoreEntry → RowMap
rows_with notes rows e = after_all rows (cons_option (committed_note notes e.client e.note) [])

pub rows_so_far-more : (values : List ℤ) (notes : List StoreNote) (H : List StoreEntry) (i : ℕ) (d : StoreEntry) → i < length H
    → rows_so_far values notes (take (i + 1) H) ≡ rows_with notes (rows_so_far values notes (take i H)) (get_or H i d)
rows_so_far-more values notes H i d within =
    ap (rows_so_far values notes) (take_more H i d within)
    ∙ ap (after_all (first_rows values)) (filter_map-append (committed_by notes) (take i H) (get_or H i d ∷ []))
    ∙ fold-append (λ m j. after m j.work) (first_rows values) (filter_map (committed_by notes) (take i H)) (filter_map (committed_by notes) (get_or H i d ∷ []))
