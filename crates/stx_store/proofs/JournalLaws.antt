-- The journal and the committed rows, entry by entry.
use Rattle.std.proofs.Common.{◌≡◌, ℕ, ℤ, suc, ◌+◌, Bool, true, false, not, ◌&&◌, List, [], ◌∷◌, ◌++◌, Some, length, filter_map, refl, sym, ap, ◌∙◌, append-nil, arith, eq-eqb}
use Rattle.std.proofs.Math.Bool.{and-false}
use Rattle.std.specs.List.{list_any, cons_option}
use Rattle.std.proofs.lemmas.Bool.{false≢true, or_left, or_right}
use Rattle.std.proofs.lemmas.List.Elements.{filter_map-append}
use Rattle.std.proofs.lemmas.List.Sums.{fold-append}
use Rattle.stx_base.specs.declared.facts.StoreFacts.{StoreFacts}
use Rattle.stx_base.specs.declared.history.StoreNote.{StoreNote}
use Rattle.stx_base.specs.declared.history.StoreEntry.{StoreEntry}
use Rattle.stx_base.specs.Alone.{RowMap, first_rows, after}
use Rattle.stx_base.specs.Histories.{store_notes, store_notes_of}
use Rattle.stx_base.specs.Pools.{contains}
use Rattle.stx_base.specs.Stores.{begun, ends, is_live, works, Transaction, committed_note, committed_by, journal, after_all, committed_rows}
use Rattle.stx_base.specs.Legal.{StoreFits}
use Rattle.stx_base.proofs.HistoryLaws.{store_notes-push, is_live-parts, work_same}
use Rattle.stx_base.proofs.StoreLaws.{names, lives}
use Rattle.stx_journal.specs.Journal.{committed_as, committed_from, committed_in}
use Rattle.stx_store.proofs.KeepLaws.{works_other}
use Rattle.stx_store.proofs.OwnLaws.{Owns}

-- a note that works for no transaction that has ended leaves what was committed
abbrev pub WorksLive : List StoreNote → StoreNote → Type 0
WorksLive notes n = (t : ℕ) → list_any (ends t) notes ≡ true → works t n ≡ false

committed_same : (notes : List StoreNote) (n : StoreNote) (c : ℕ) (m : StoreNote) → ((t : ℕ) → ends t m ≡ true → works t n ≡ false) → committed_note (notes ++ n ∷ []) c m ≡ committed_note notes c m
committed_same notes n c (StoreNote.Commit t k) apart = ap (λ w. Some (record { client = c; tx = Some t; work = w })) (work_same notes n t (apart t (eq-eqb t t refl)))
committed_same notes n c m apart = refl

journal_same : (notes : List StoreNote) (n : StoreNote) (part : List StoreEntry) → WorksLive (store_notes part) n → filter_map (committed_by (notes ++ n ∷ [])) part ≡ filter_map (committed_by notes) part
journal_same notes n [] apart = refl
journal_same notes n (e ∷ part) apart =
    λ i. cons_option (committed_same notes n e.client e.note (λ t h. apart t (or_left (ends t e.note) (list_any (ends t) (store_notes part)) h)) i)
    (journal_same notes n part (λ t h. apart t (or_right (ends t e.note) (list_any (ends t) (store_notes part)) h)) i)

-- what an entry commits
abbrev pub commits : List StoreEntry → StoreEntry → List Transaction
commits H e = cons_option (committed_note (store_notes H) e.client e.note) []

own_commit : (notes : List StoreNote) (c : ℕ) (m : StoreNote) → committed_note (notes ++ m ∷ []) c m ≡ committed_note notes c m
own_commit notes c (StoreNote.Commit t k) = ap (λ w. Some (record { client = c; tx = Some t; work = w })) (work_same notes (StoreNote.Commit t k) t refl)
own_commit notes c n = refl

pub journal-push : (H : List StoreEntry) (e : StoreEntry) → WorksLive (store_notes H) e.note → journal (H ++ e ∷ []) ≡ journal H ++ commits H e
journal-push H e apart =
    ap (λ ns. filter_map (committed_by ns) (H ++ e ∷ [])) (store_notes-push H e)
    ∙ filter_map-append (committed_by (store_notes H ++ e.note ∷ [])) H (e ∷ [])
    ∙ (λ i. journal_same (store_notes H) e.note H apart i ++ cons_option (own_commit (store_notes H) e.client e.note i) [])

pub committed_rows-push : (values : List ℤ) (H : List StoreEntry) (e : StoreEntry) → WorksLive (store_notes H) e.note → committed_rows values (H ++ e ∷ []) ≡ after_all (committed_rows values H) (commits H e)
committed_rows-push values H e apart =
    ap (after_all (first_rows values)) (journal-push H e apart) ∙ fold-append (λ m j. after m j.work) (first_rows values) (journal H) (commits H e)

committed_from-push : (rows : RowMap) (before : ℕ) (js : List Transaction) (j : Transaction) → committed_from rows before (js ++ j ∷ []) ≡ committed_from rows before js ++ committed_as (after_all rows js) (before + length js + 1) j ∷ []
committed_from-push rows before [] j = let same : before + 1 ≡ before + 0 + 1 = omega arith in ap (λ n. committed_as rows n j ∷ []) same
committed_from-push rows before (i ∷ js) j =
    let same : (before + 1) + length js + 1 ≡ before + length (i ∷ js) + 1 = omega arith in
    ap (λ cs. committed_as rows (before + 1) i ∷ cs)
    (committed_from-push (after rows i.work) (before + 1) js j ∙ ap (λ n. committed_from (after rows i.work) (before + 1) js ++ committed_as (after_all (after rows i.work) js) n j ∷ []) same)

pub committed_in-push : (values : List ℤ) (H : List StoreEntry) (e : StoreEntry) (j : Transaction) → WorksLive (store_notes H) e.note → commits H e ≡ j ∷ []
    → committed_in values (H ++ e ∷ []) ≡ committed_in values H ++ committed_as (committed_rows values H) (length (journal H) + 1) j ∷ []
committed_in-push values H e j apart is =
    ap (committed_from (first_rows values) 0) (journal-push H e apart ∙ ap (λ js. journal H ++ js) is)
    ∙ committed_from-push (first_rows values) 0 (journal H) j
    ∙ (let same : 0 + length (journal H) + 1 ≡ length (journal H) + 1 = omega arith in ap (λ n. committed_in values H ++ committed_as (committed_rows values H) n j ∷ []) same)

pub committed_in-same : (values : List ℤ) (H : List StoreEntry) (e : StoreEntry) → WorksLive (store_notes H) e.note → commits H e ≡ [] → committed_in values (H ++ e ∷ []) ≡ committed_in values H
committed_in-same values H e apart is =
    ap (committed_from (first_rows values) 0) (journal-push H e apart ∙ ap (λ js. journal H ++ js) is ∙ append-nil (journal H))

length-from : (rows : RowMap) (before : ℕ) (js : List Transaction) → length (committed_from rows before js) ≡ length js
length-from rows before [] = refl
length-from rows before (j ∷ js) = ap suc (length-from (after rows j.work) (before + 1) js)

pub committed_in-length : (values : List ℤ) (H : List StoreEntry) → length (committed_in values H) ≡ length (journal H)
committed_in-length values H = length-from (first_rows values) 0 (journal H)

-- ---- an entry that fits works for no transaction that has ended

ended_dead : (notes : List StoreNote) (t : ℕ) → list_any (ends t) notes ≡ true → is_live notes t ≡ false
ended_dead notes t h = is_live-parts notes t ∙ ap (λ b. contains (begun notes) t && not b) h ∙ and-false (contains (begun notes) t)

works_named : (t : ℕ) (n : StoreNote) → works t n ≡ true → (names t n ≡ true) × (begun (n ∷ []) ≡ [])
works_named t n h = (by_names (names t n) refl, begins_none n h)
  where
    by_names : (b : Bool) → names t n ≡ b → b ≡ true
    by_names true is = refl
    by_names false is = absurd (false≢true (sym (works_other t n is) ∙ h))

    begins_none : (n : StoreNote) → works t n ≡ true → begun (n ∷ []) ≡ []
    begins_none (StoreNote.Begin u) h = absurd (false≢true h)
    begins_none n h = refl

pub works_live : (n : ℕ) (facts : StoreFacts) (H : List StoreEntry) (e : StoreEntry) → Owns H → StoreFits n facts H e → WorksLive (store_notes H) e.note
works_live n facts H e owns fits t ended = by_works (works t e.note) refl
  where
    by_works : (b : Bool) → works t e.note ≡ b → b ≡ false
    by_works false is = refl
    by_works true is =
        let named = works_named t e.note is in
        let alive = owns.live e.client t (lives (store_notes_of H e.client) t e.note named.0 named.1 fits.proper) in
        absurd (false≢true (sym (ended_dead (store_notes H) t ended) ∙ alive))
