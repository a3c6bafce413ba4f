-- The journal in a report: a line for each transaction of the journal, with the number that the store gave its commit.
use Rattle.std.proofs.Common.{◌≡◌, ℕ, suc, ◌+◌, true, false, cond, List, [], ◌∷◌, ◌++◌, length, Some, None, refl, sym, ap, ◌∙◌, arith, append_assoc, append-nil}
use Rattle.std.specs.Prelude.{codes}
use Rattle.std.specs.List.{filter_map, cons_option}
use Rattle.stx_base.specs.declared.facts.StoreFacts.{StoreFacts}
use Rattle.stx_base.specs.declared.call.Want.{Want}
use Rattle.stx_base.specs.declared.history.StoreNote.{StoreNote}
use Rattle.stx_base.specs.declared.history.StoreEntry.{StoreEntry}
use Rattle.stx_base.specs.Histories.{store_notes}
use Rattle.stx_base.specs.Stores.{Transaction, is_busy, committed_by, committed_note, journal, store_reply}
use Rattle.stx_base.specs.Report.{commit_words, commit_text, number_after, journal_text}

-- the number of the next commit after these entries
abbrev pub number_of : ℕ → List StoreEntry → ℕ
number_of number [] = number
number_of number (e ∷ es) = number_of (number_after number (commit_words e.note)) es

-- an entry has words exactly where it is in the journal
counted : (notes : List StoreNote) (c number : ℕ) (n : StoreNote) (rest : List Transaction)
    → number_after number (commit_words n) + length rest ≡ number + length (cons_option (committed_note notes c n) rest)
counted notes c number (StoreNote.Commit t m) rest = omega arith
counted notes c number (StoreNote.Auto a r) rest =
    elim (is_busy r) as (λ b. number_after number (cond b None (Some (codes "auto"))) + length rest
    ≡ number + length (cons_option (cond b None (Some (record { client = c; tx = None; work = StoreNote.Auto a r ∷ [] }))) rest)) [
      | true ↦ refl
      | false ↦ omega arith
    ]
counted notes c number n rest = refl

numbered : (notes : List StoreNote) (number : ℕ) (es : List StoreEntry) → number_of number es ≡ number + length (filter_map (committed_by notes) es)
numbered notes number [] = omega arith
numbered notes number (e ∷ es) =
    numbered notes (number_after number (commit_words e.note)) es ∙ counted notes e.client number e.note (filter_map (committed_by notes) es)

-- so many lines stand before the next as the journal has transactions
pub number_of-journal : (history : List StoreEntry) → number_of 1 history ≡ 1 + length (journal history)
number_of-journal history = numbered (store_notes history) 1 history

-- an entry more is printed with the next number and its own place
pub journal_text-push : (number place : ℕ) (es : List StoreEntry) (e : StoreEntry)
    → journal_text number place (es ++ e ∷ []) ≡ journal_text number place es ++ commit_text (number_of number es) (place + length es) e.client (commit_words e.note)
unfolding journal_text
journal_text-push number place [] e =
    let here : place ≡ place + 0 = omega arith in
    append-nil (commit_text number place e.client (commit_words e.note)) ∙ ap (λ p. commit_text number p e.client (commit_words e.note)) here
journal_text-push number place (x ∷ es) e =
    let words = commit_words x.note in
    let later : (place + 1) + length es ≡ place + suc (length es) = omega arith in
    ap (λ text. commit_text number place x.client words ++ text) (journal_text-push (number_after number words) (place + 1) es e)
    ∙ ap (λ p. commit_text number place x.client words ++ (journal_text (number_after number words) (place + 1) es
    ++ commit_text (number_of (number_after number words) es) p e.client (commit_words e.note))) later
    ∙ sym (append_assoc (commit_text number place x.client words) _ _)

-- in a legal history that is the number in the note of the commit
pub printed_number : (facts : StoreFacts) (before : List StoreEntry) (t n : ℕ) → store_reply facts before (Want.Commit t) ≡ Some (StoreNote.Commit t n) → n ≡ number_of 1 before
unfolding store_reply
printed_number facts before t n reply =
    let given : n ≡ length (journal before) + 1 = cc in
    let printed : number_of 1 before ≡ 1 + length (journal before) = number_of-journal before in
    omega arith
