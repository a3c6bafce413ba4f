-- What is kept of a transaction's work leaves the rows as the work does.
use Rattle.std.proofs.Common.{◌≡◌, ℕ, ◌≤◌, Bool, true, false, cond, not, ◌&&◌, ◌==◌, List, [], ◌∷◌, ◌++◌, length, map, take, filter, fold, Option, Some, None, refl, sym, ap, ◌∙◌, arith, length-append}
use Rattle.std.specs.Prelude.{⊤}
use Rattle.std.proofs.lemmas.List.{take_all, take-take, take-append-le, length-take}
use Rattle.std.proofs.lemmas.List.Elements.{filter-append}
use Rattle.std.proofs.lemmas.List.Sums.{fold-append}
use Rattle.stx_base.specs.declared.history.Access.{Access}
use Rattle.stx_base.specs.declared.history.StoreNote.{StoreNote}
use Rattle.stx_base.specs.Alone.{RowMap, Alone, applied, stepped, after}
use Rattle.stx_base.specs.Stores.{is_busy, works, work}
use Rattle.stx_report.specs.inner.Kept.{Kept, nothing, kept_after, kept_of, worker}

-- ---- the rows after the work are those after what is kept

-- the rows, and their copies at the open savepoints, made from what is kept
abbrev shown : RowMap → Kept → Alone
shown rows k = record { rows = fold applied rows k.accesses; copies = map (λ n. fold applied rows (take n k.accesses)) k.points }

-- a savepoint has no more accesses than the one inside it, and the innermost no more than the bound
abbrev Nested : ℕ → List ℕ → Type 0
Nested bound [] = ⊤
Nested bound (n ∷ outer) = (n ≤ bound) × Nested n outer

abbrev IsNested : Kept → Type 0
IsNested k = Nested (length k.accesses) k.points

abbrev alone : RowMap → List RowMap → Alone
alone rows copies = record { rows = rows; copies = copies }

abbrev kept : List Access → List ℕ → Kept
kept accesses points = record { accesses = accesses; points = points }

nested-more : (points : List ℕ) (n m : ℕ) → n ≤ m → Nested n points → Nested m points
nested-more [] n m more nested = nested
nested-more (p ∷ outer) n m more nested = (omega (arith, nested.0, more), nested.1)

-- the copies stay where more accesses follow
copies-push : (rows : RowMap) (xs : List Access) (a : Access) (points : List ℕ) (bound : ℕ) → bound ≤ length xs → Nested bound points
    → map (λ n. fold applied rows (take n xs)) points ≡ map (λ n. fold applied rows (take n (xs ++ a ∷ []))) points
copies-push rows xs a [] bound within nested = refl
copies-push rows xs a (n ∷ outer) bound within nested =
    let here : n ≤ length xs = omega (arith, nested.0, within) in
    ap (λ accesses. fold applied rows accesses ∷ map (λ m. fold applied rows (take m xs)) outer) (sym (take-append-le n xs (a ∷ []) here))
    ∙ ap (λ copies. fold applied rows (take n (xs ++ a ∷ [])) ∷ copies) (copies-push rows xs a outer n here nested.1)

-- and where a return leaves at least as many as they have
copies-back : (rows : RowMap) (xs : List Access) (n : ℕ) (points : List ℕ) (bound : ℕ) → bound ≤ n → Nested bound points
    → map (λ m. fold applied rows (take m xs)) points ≡ map (λ m. fold applied rows (take m (take n xs))) points
copies-back rows xs n [] bound within nested = refl
copies-back rows xs n (p ∷ outer) bound within nested =
    let here : p ≤ n = omega (arith, nested.0, within) in
    ap (λ accesses. fold applied rows accesses ∷ map (λ m. fold applied rows (take m xs)) outer) (sym (take-take p n xs here))
    ∙ ap (λ copies. fold applied rows (take p (take n xs)) ∷ copies) (copies-back rows xs n outer p here nested.1)

shown-push : (rows : RowMap) (xs : List Access) (points : List ℕ) (a : Access) → IsNested (kept xs points)
    → alone (applied (fold applied rows xs) a) (map (λ n. fold applied rows (take n xs)) points) ≡ shown rows (kept (xs ++ a ∷ []) points)
shown-push rows xs points a nested =
    let within : length xs ≤ length xs = omega arith in
    ap (λ now. alone now (map (λ n. fold applied rows (take n xs)) points)) (sym (fold-append applied rows xs (a ∷ [])))
    ∙ ap (alone (fold applied rows (xs ++ a ∷ []))) (copies-push rows xs a points (length xs) within nested)

shown-step : (rows : RowMap) (xs : List Access) (points : List ℕ) (n : StoreNote) → IsNested (kept xs points)
    → stepped (shown rows (kept xs points)) n ≡ shown rows (kept_after (kept xs points) n)
shown-step rows xs points (StoreNote.Access t a r) nested = shown-push rows xs points a nested
shown-step rows xs points (StoreNote.Auto a r) nested = shown-push rows xs points a nested
shown-step rows xs points (StoreNote.Point t) nested =
    let all : length xs ≤ length xs = omega arith in
    ap (λ accesses. alone (fold applied rows xs) (fold applied rows accesses ∷ map (λ n. fold applied rows (take n xs)) points)) (sym (take_all (length xs) xs all))
shown-step rows xs [] (StoreNote.BackTo t) nested = refl
shown-step rows xs (n ∷ outer) (StoreNote.BackTo t) nested =
    let within : n ≤ n = omega arith in
    ap (alone (fold applied rows (take n xs))) (copies-back rows xs n (n ∷ outer) n within (within, nested.1))
shown-step rows xs [] (StoreNote.Release t) nested = refl
shown-step rows xs (n ∷ outer) (StoreNote.Release t) nested = refl
shown-step rows xs points (StoreNote.Begin t) nested = refl
shown-step rows xs points (StoreNote.Commit t n) nested = refl
shown-step rows xs points (StoreNote.Rollback t) nested = refl

nested-push : (xs : List Access) (points : List ℕ) (a : Access) → IsNested (kept xs points) → IsNested (kept (xs ++ a ∷ []) points)
nested-push xs points a nested =
    let more : length xs ≤ length (xs ++ a ∷ []) = omega (arith, length-append xs (a ∷ [])) in
    nested-more points (length xs) (length (xs ++ a ∷ [])) more nested

nested-step : (xs : List Access) (points : List ℕ) (n : StoreNote) → IsNested (kept xs points) → IsNested (kept_after (kept xs points) n)
nested-step xs points (StoreNote.Access t a r) nested = nested-push xs points a nested
nested-step xs points (StoreNote.Auto a r) nested = nested-push xs points a nested
nested-step xs points (StoreNote.Point t) nested =
    let within : length xs ≤ length xs = omega arith in
    (within, nested)
nested-step xs [] (StoreNote.BackTo t) nested = nested
nested-step xs (n ∷ outer) (StoreNote.BackTo t) nested =
    let within : n ≤ length (take n xs) = omega (arith, length-take n xs, nested.0) in
    (within, nested.1)
nested-step xs [] (StoreNote.Release t) nested = nested
nested-step xs (n ∷ outer) (StoreNote.Release t) nested = nested-more outer n (length xs) nested.0 nested.1
nested-step xs points (StoreNote.Begin t) nested = nested
nested-step xs points (StoreNote.Commit t n) nested = nested
nested-step xs points (StoreNote.Rollback t) nested = nested

shown-work : (rows : RowMap) (k : Kept) (notes : List StoreNote) → IsNested k
    → fold stepped (shown rows k) notes ≡ shown rows (fold kept_after k notes)
shown-work rows k [] nested = refl
shown-work rows k (n ∷ notes) nested =
    ap (λ s. fold stepped s notes) (shown-step rows k.accesses k.points n nested)
    ∙ shown-work rows (kept_after k n) notes (nested-step k.accesses k.points n nested)

pub after-kept : (rows : RowMap) (notes : List StoreNote) → after rows notes ≡ fold applied rows (kept_of notes).accesses
after-kept rows notes = ap (λ s. s.rows) (shown-work rows nothing notes tt)

-- ---- one more note of the history

abbrev is_worker : Option ℕ → ℕ → Bool
is_worker None t = false
is_worker (Some u) t = u == t

unless_busy : (same busy : Bool) (t u : ℕ) → same ≡ (u == t) → same && not busy ≡ is_worker (cond busy None (Some u)) t
unless_busy true true t u is = refl
unless_busy false true t u is = refl
unless_busy true false t u is = is
unless_busy false false t u is = is

works-worker : (t : ℕ) (n : StoreNote) → works t n ≡ is_worker (worker n) t
works-worker t (StoreNote.Access u a r) = unless_busy (u == t) (is_busy r) t u refl
works-worker t (StoreNote.Point u) = refl
works-worker t (StoreNote.BackTo u) = refl
works-worker t (StoreNote.Release u) = refl
works-worker t (StoreNote.Begin u) = refl
works-worker t (StoreNote.Commit u n) = refl
works-worker t (StoreNote.Rollback u) = refl
works-worker t (StoreNote.Auto a r) = refl

kept-one : (mine : Bool) (k : Kept) (n : StoreNote) → fold kept_after k (cond mine (n ∷ []) []) ≡ cond mine (kept_after k n) k
kept-one true k n = refl
kept-one false k n = refl

pub kept-more : (notes : List StoreNote) (n : StoreNote) (t : ℕ)
    → kept_of (work (notes ++ n ∷ []) t) ≡ cond (is_worker (worker n) t) (kept_after (kept_of (work notes t)) n) (kept_of (work notes t))
kept-more notes n t =
    ap kept_of (filter-append (works t) notes (n ∷ []))
    ∙ fold-append kept_after nothing (work notes t) (filter (works t) (n ∷ []))
    ∙ kept-one (works t n) (kept_of (work notes t)) n
    ∙ ap (λ mine. cond mine (kept_after (kept_of (work notes t)) n) (kept_of (work notes t))) (works-worker t n)
