-- Laws of a transaction run alone: what it finds depends only on the rows that it reaches, and it changes only the rows that it writes.
use Rattle.std.proofs.Common.{◌≡◌, ℕ, ℤ, Bool, true, false, ◌&&◌, ◌==◌, cond, List, [], ◌∷◌, ◌++◌, Option, Some, None, refl, sym, ap, ◌∙◌, arith, eq-eqb}
use Rattle.std.specs.Cmp.{unsigned_tied}
use Rattle.std.specs.List.{fold, list_any, cons_option, AllZip, AllByRecursion}
use Rattle.std.specs.Ordering.{nat_cmp, eq_by_cmp}
use Rattle.std.specs.FinMap as finite
use Rattle.std.specs.FinMap.{get-insert, get-remove}
use Rattle.std.proofs.lemmas.Bool.{or_parts, or_left, or_right, cond-false}
use Rattle.std.proofs.lemmas.Cmp.{nat_cmp_total}
use Rattle.std.proofs.lemmas.List.Elements.{filter_map-append}
use Rattle.stx_base.specs.declared.history.Access.{Access}
use Rattle.stx_base.specs.declared.history.Answer.{Answer}
use Rattle.stx_base.specs.declared.history.StoreNote.{StoreNote}
use Rattle.stx_base.specs.Alone.{RowMap, Alone, row_of, applied, found_or_absent, at_start, innermost, without_innermost, stepped, after, finding, findings, found_alone, answer_of, answers}

-- ---- the rows of a note

-- the note has an access to this row
abbrev pub reaches : ℕ → StoreNote → Bool
reaches k (StoreNote.Access t a r) = row_of a == k
reaches k (StoreNote.Auto a r) = row_of a == k
reaches k _ = false

-- the access writes or erases
abbrev pub changes : Access → Bool
changes (Access.Read k) = false
changes (Access.Write k v) = true
changes (Access.Erase k) = true

-- the note has an access that writes or erases this row
abbrev pub writes : ℕ → StoreNote → Bool
writes k (StoreNote.Access t a r) = row_of a == k && changes a
writes k (StoreNote.Auto a r) = row_of a == k && changes a
writes k _ = false

pub reaches-since_writes : (k : ℕ) (n : StoreNote) → writes k n ≡ true → reaches k n ≡ true
reaches-since_writes k (StoreNote.Access t a r) h = grind arith
reaches-since_writes k (StoreNote.Auto a r) h = grind arith
reaches-since_writes k _ h = h

-- ---- over two maps with the same values at the rows that it reaches, a transaction finds the same

-- the same values at the rows of which P holds
abbrev pub SameAt : (ℕ → Type 0) → RowMap → RowMap → Type 0
SameAt P m n = (k : ℕ) → P k → finite.get m k ≡ finite.get n k

record StatesSameAt (P : ℕ → Type 0) (s t : Alone) : Type 0 where
  rows : SameAt P s.rows t.rows
  copies : AllZip (SameAt P) s.copies t.copies

same-applied : (P : ℕ → Type 0) (m n : RowMap) (a : Access) → SameAt P m n → SameAt P (applied m a) (applied n a)
same-applied P m n (Access.Read r) same = same
same-applied P m n (Access.Write r v) same = λ k p.
    get-insert nat_cmp_total m r.0 v k ∙ ap (cond (eq_by_cmp nat_cmp k r.0) (Some v)) (same k p) ∙ sym (get-insert nat_cmp_total n r.0 v k)
same-applied P m n (Access.Erase r) same = λ k p.
    get-remove nat_cmp_total m r.0 k ∙ ap (cond (eq_by_cmp nat_cmp k r.0) None) (same k p) ∙ sym (get-remove nat_cmp_total n r.0 k)

same-last_copy :
    (P : ℕ → Type 0) (m n : RowMap) (ms ns : List RowMap) → SameAt P m n → AllZip (SameAt P) ms ns
    → SameAt P (innermost m ms) (innermost n ns)
same-last_copy P m n [] [] same _ = same
same-last_copy P m n (c ∷ ms) (d ∷ ns) _ copies = copies.0
same-last_copy P m n [] (d ∷ ns) _ copies = absurd copies
same-last_copy P m n (c ∷ ms) [] _ copies = absurd copies

same-without_last : (P : ℕ → Type 0) (ms ns : List RowMap) → AllZip (SameAt P) ms ns → AllZip (SameAt P) (without_innermost ms) (without_innermost ns)
same-without_last P [] [] _ = tt
same-without_last P (c ∷ ms) (d ∷ ns) copies = copies.1
same-without_last P [] (d ∷ ns) copies = absurd copies
same-without_last P (c ∷ ms) [] copies = absurd copies

same-stepped : (P : ℕ → Type 0) (s t : Alone) (n : StoreNote) → StatesSameAt P s t → StatesSameAt P (stepped s n) (stepped t n)
same-stepped P s t (StoreNote.Access u a r) h = record { rows = same-applied P s.rows t.rows a h.rows; copies = h.copies }
same-stepped P s t (StoreNote.Auto a r) h = record { rows = same-applied P s.rows t.rows a h.rows; copies = h.copies }
same-stepped P s t (StoreNote.Point u) h = record { rows = h.rows; copies = (h.rows, h.copies) }
same-stepped P s t (StoreNote.BackTo u) h =
    record { rows = same-last_copy P s.rows t.rows s.copies t.copies h.rows h.copies; copies = h.copies }
same-stepped P s t (StoreNote.Release u) h = record { rows = h.rows; copies = same-without_last P s.copies t.copies h.copies }
same-stepped P s t _ h = h

same-finding :
    (P : ℕ → Type 0) (s t : Alone) (n : StoreNote) → ((k : ℕ) → reaches k n ≡ true → P k) → StatesSameAt P s t → finding s n ≡ finding t n
same-finding P s t (StoreNote.Access u (Access.Read r) x) within h =
    ap (λ v. Some (found_or_absent v)) (h.rows r.0 (within r.0 (eq-eqb r.0 r.0 refl)))
same-finding P s t (StoreNote.Auto (Access.Read r) x) within h =
    ap (λ v. Some (found_or_absent v)) (h.rows r.0 (within r.0 (eq-eqb r.0 r.0 refl)))
same-finding P s t _ within h = refl

same-findings :
    (P : ℕ → Type 0) (s t : Alone) (work : List StoreNote) → ((k : ℕ) → list_any (reaches k) work ≡ true → P k) → StatesSameAt P s t
    → findings s work ≡ findings t work
same-findings P s t [] within h = refl
same-findings P s t (n ∷ work) within h =
    let here = same-finding P s t n (λ k e. within k (or_left _ _ e)) h in
    let later = same-findings P (stepped s n) (stepped t n) work (λ k e. within k (or_right _ _ e)) (same-stepped P s t n h) in
    rw (here, later)

-- ---- a row that the work doesn't write keeps its value

record HasAt (k : ℕ) (v : Option ℤ) (s : Alone) : Type 0 where
  rows : finite.get s.rows k ≡ v
  copies : AllByRecursion (λ (m : RowMap). finite.get m k ≡ v) s.copies

unwritten-applied : (k : ℕ) (m : RowMap) (a : Access) → (row_of a == k && changes a) ≡ false → finite.get (applied m a) k ≡ finite.get m k
unwritten-applied k m (Access.Read r) h = refl
unwritten-applied k m (Access.Write r v) h = get-insert nat_cmp_total m r.0 v k ∙ cond-false _ _ _ (unsigned_tied k r.0 ∙ grind arith)
unwritten-applied k m (Access.Erase r) h = get-remove nat_cmp_total m r.0 k ∙ cond-false _ _ _ (unsigned_tied k r.0 ∙ grind arith)

unwritten-last_copy :
    (k : ℕ) (v : Option ℤ) (m : RowMap) (ms : List RowMap) → finite.get m k ≡ v → AllByRecursion (λ (m : RowMap). finite.get m k ≡ v) ms
    → finite.get (innermost m ms) k ≡ v
unwritten-last_copy k v m [] rows _ = rows
unwritten-last_copy k v m (c ∷ ms) _ copies = copies.0

unwritten-without_last :
    (k : ℕ) (v : Option ℤ) (ms : List RowMap) → AllByRecursion (λ (m : RowMap). finite.get m k ≡ v) ms
    → AllByRecursion (λ (m : RowMap). finite.get m k ≡ v) (without_innermost ms)
unwritten-without_last k v [] copies = tt
unwritten-without_last k v (c ∷ ms) copies = copies.1

unwritten-stepped : (k : ℕ) (v : Option ℤ) (s : Alone) (n : StoreNote) → writes k n ≡ false → HasAt k v s → HasAt k v (stepped s n)
unwritten-stepped k v s (StoreNote.Access t a r) not_here h = record { rows = unwritten-applied k s.rows a not_here ∙ h.rows; copies = h.copies }
unwritten-stepped k v s (StoreNote.Auto a r) not_here h = record { rows = unwritten-applied k s.rows a not_here ∙ h.rows; copies = h.copies }
unwritten-stepped k v s (StoreNote.Point t) _ h = record { rows = h.rows; copies = (h.rows, h.copies) }
unwritten-stepped k v s (StoreNote.BackTo t) _ h = record { rows = unwritten-last_copy k v s.rows s.copies h.rows h.copies; copies = h.copies }
unwritten-stepped k v s (StoreNote.Release t) _ h = record { rows = h.rows; copies = unwritten-without_last k v s.copies h.copies }
unwritten-stepped k v s _ _ h = h

unwritten-fold :
    (k : ℕ) (v : Option ℤ) (s : Alone) (work : List StoreNote) → list_any (writes k) work ≡ false → HasAt k v s
    → HasAt k v (fold stepped s work)
unwritten-fold k v s [] none h = h
unwritten-fold k v s (n ∷ work) none h =
    let parts = or_parts _ _ none in unwritten-fold k v (stepped s n) work parts.1 (unwritten-stepped k v s n parts.0 h)

-- a row that the work doesn't write has the same value after it
pub unwritten :
    (k : ℕ) (rows : RowMap) (work : List StoreNote) → list_any (writes k) work ≡ false → finite.get (after rows work) k ≡ finite.get rows k
unwritten k rows work none = (unwritten-fold k (finite.get rows k) (at_start rows) work none (record { rows = refl; copies = tt })).rows

-- work that writes no row that other work reaches leaves what that other work finds
pub unmoved :
    (rows : RowMap) (work other : List StoreNote) → ((k : ℕ) → list_any (reaches k) other ≡ true → list_any (writes k) work ≡ false)
    → found_alone (after rows work) other ≡ found_alone rows other
unmoved rows work other apart =
    same-findings (λ k. list_any (writes k) work ≡ false) (at_start (after rows work)) (at_start rows) other apart
    (record { rows = λ k none. unwritten k rows work none; copies = tt })

-- ---- one more note

-- the work, run alone over these rows, finds exactly the answers in its notes
abbrev pub FindsAnswers : RowMap → List StoreNote → Type 0
FindsAnswers rows work = found_alone rows work ≡ answers work

findings-push :
    (s : Alone) (work : List StoreNote) (n : StoreNote)
    → findings s (work ++ n ∷ []) ≡ findings s work ++ cons_option (finding (fold stepped s work) n) []
findings-push s [] n = refl
findings-push s (m ∷ work) n = rw (findings-push (stepped s m) work n) (joined (finding s m) _ _)
  where
    joined : (o : Option Answer) (xs ys : List Answer) → cons_option o (xs ++ ys) ≡ cons_option o xs ++ ys
    joined None xs ys = refl
    joined (Some x) xs ys = refl

-- work that finds its answers goes on to do so with a note that does
pub alone_push :
    (rows : RowMap) (work : List StoreNote) (n : StoreNote) → FindsAnswers rows work
    → finding (fold stepped (at_start rows) work) n ≡ answer_of n → FindsAnswers rows (work ++ n ∷ [])
alone_push rows work n before here = rw (findings-push (at_start rows) work n, before, here) (sym (filter_map-append answer_of work (n ∷ [])))
