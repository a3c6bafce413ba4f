-- The journal of a history that grows: its transactions stay as they are, and a new one comes last.
use Rattle.std.proofs.Common.{◌≡◌, ℕ, zero, suc, true, false, List, [], ◌∷◌, ◌++◌, Option, Some, None, take, slice_get, refl, subst, eq-eqb, filter_map}
use Rattle.std.specs.Bool.{⊤}
use Rattle.std.specs.List.{list_any, cons_option}
use Rattle.std.proofs.lemmas.Bool.{or_left, or_parts, and_parts, not-true, both_ways, false_from_ne_true}
use Rattle.std.proofs.lemmas.List.Elements.{filter_map-append}
use Rattle.std.proofs.lemmas.List.Sums.{fold-append}
use Rattle.stx_base.specs.declared.facts.StoreFacts.{StoreFacts}
use Rattle.stx_base.specs.declared.history.StoreNote.{StoreNote}
use Rattle.stx_base.specs.declared.history.StoreEntry.{StoreEntry}
use Rattle.stx_base.specs.Alone.{RowMap, first_rows, after}
use Rattle.stx_base.specs.Histories.{store_notes}
use Rattle.stx_base.specs.Stores.{ends, works, Transaction, committed_note, committed_by, journal, after_all, committed_rows}
use Rattle.stx_base.specs.Serial.{Serial}
use Rattle.stx_model.proofs.SerialAlone.{FindsAnswers}
use Rattle.stx_model.proofs.SerialNames.{Sound, live-is, notes_with}
use Rattle.stx_base.proofs.HistoryLaws.{work_same, store_notes-push}

-- ---- serial, by recursion over the journal

abbrev pub SerialFrom : RowMap → List Transaction → Type 0
SerialFrom rows [] = ⊤
SerialFrom rows (j ∷ js) = FindsAnswers rows j.work × SerialFrom (after rows j.work) js

pub serial_push :
    (rows : RowMap) (js : List Transaction) (j : Transaction) → SerialFrom rows js → FindsAnswers (after_all rows js) j.work
    → SerialFrom rows (js ++ j ∷ [])
serial_push rows [] j so_far last = (last, tt)
serial_push rows (i ∷ js) j so_far last = (so_far.0, serial_push (after rows i.work) js j so_far.1 last)

serial_at :
    (rows : RowMap) (js : List Transaction) → SerialFrom rows js → (n : ℕ) (j : Transaction) → slice_get js n ≡ Some j
    → FindsAnswers (after_all rows (take n js)) j.work
serial_at rows [] all n j at = absurd (nothing at)
  where
    nothing : ◌≡◌ {A = Option Transaction} None (Some j) → ⊥
    nothing e = cc
serial_at rows (i ∷ js) all zero j at = let same : i ≡ j = cc in subst (λ (x : Transaction). FindsAnswers rows x.work) same all.0
serial_at rows (i ∷ js) all (suc n) j at = serial_at (after rows i.work) js all.1 n j at

pub serial_from : (facts : StoreFacts) (history : List StoreEntry) → SerialFrom (first_rows facts.values) (journal history) → Serial facts history
serial_from facts history all = serial_at (first_rows facts.values) (journal history) all

-- ---- one more entry

-- a note that isn't work of the transaction that another one commits leaves what that one commits
committed_same :
    (notes : List StoreNote) (n : StoreNote) (c : ℕ) (m : StoreNote) → ((t : ℕ) → works t n ≡ true → ends t m ≡ false)
    → committed_note (notes ++ n ∷ []) c m ≡ committed_note notes c m
committed_same notes n c (StoreNote.Commit t i) after =
    rw (work_same notes n t (false_from_ne_true _ (λ h. both_ways _ (after t h) (eq-eqb t t refl))))
committed_same notes n c _ after = refl

all_committed_same :
    (notes : List StoreNote) (n : StoreNote) (es : List StoreEntry)
    → ((t : ℕ) → works t n ≡ true → list_any (ends t) (store_notes es) ≡ false)
    → filter_map (committed_by (notes ++ n ∷ [])) es ≡ filter_map (committed_by notes) es
all_committed_same notes n [] after = refl
all_committed_same notes n (e ∷ es) after =
    let here = committed_same notes n e.client e.note (λ t h. (or_parts _ _ (after t h)).0) in
    let later = all_committed_same notes n es (λ t h. (or_parts _ _ (after t h)).1) in
    rw (here, later)

-- what the entry commits, if anything
abbrev pub joining : List StoreEntry → StoreEntry → Option Transaction
joining history e = committed_note (notes_with history e.note) e.client e.note

pub journal_push :
    (history : List StoreEntry) (e : StoreEntry) → Sound (store_notes history) e.note
    → journal (history ++ e ∷ []) ≡ journal history ++ cons_option (joining history e) []
journal_push history e sound =
    let old = all_committed_same (store_notes history) e.note history unended in
    rw (store_notes-push history e, filter_map-append (committed_by (notes_with history e.note)) history (e ∷ []), old)
  where
    unended : (t : ℕ) → works t e.note ≡ true → list_any (ends t) (store_notes history) ≡ false
    unended t h = not-true _ (and_parts _ _ (rw (live-is (store_notes history) t) at (sound.live t (or_left _ _ h)))).0

pub rows_push :
    (facts : StoreFacts) (history : List StoreEntry) (e : StoreEntry) → Sound (store_notes history) e.note
    → committed_rows facts.values (history ++ e ∷ []) ≡ after_all (committed_rows facts.values history) (cons_option (joining history e) [])
rows_push facts history e sound =
    rw (journal_push history e sound) (fold-append _ (first_rows facts.values) (journal history) (cons_option (joining history e) []))
