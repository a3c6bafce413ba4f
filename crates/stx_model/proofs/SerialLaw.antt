-- The serial law: what every legal history keeps, entry by entry, and from that its journal is a serial order.
use Rattle.std.proofs.Common.{◌≡◌, ℕ, Bool, true, false, List, [], ◌∷◌, ◌++◌, Option, Some, None, refl, ap, ◌∙◌, ⊎_elim, arith, eq-eqb, eqb-true, append_assoc, append-nil, if◌then◌else◌}
use Rattle.std.specs.Bool.{⊤}
use Rattle.std.specs.List.{list_any, cons_option, fold}
use Rattle.std.proofs.lemmas.Bool.{and_parts, not-true, both_ways, false≢true, false_from_ne_true}
use Rattle.stx_base.specs.declared.facts.StoreFacts.{StoreFacts}
use Rattle.stx_base.specs.declared.history.Access.{Access}
use Rattle.stx_base.specs.declared.history.Answer.{Answer}
use Rattle.stx_base.specs.declared.history.StoreNote.{StoreNote}
use Rattle.stx_base.specs.declared.history.StoreEntry.{StoreEntry}
use Rattle.stx_base.specs.Alone.{first_rows, row_of, at_start, stepped, finds, finding, found_alone, answer_of}
use Rattle.stx_base.specs.Histories.{store_notes}
use Rattle.stx_base.specs.Stores.{is_live, is_busy, conflicts, works, work, Transaction, committed_note, journal, after_all, committed_rows, store_reply, store_want}
use Rattle.stx_base.specs.Legal.{LegalFrom, StoreFits, StoreLegal}
use Rattle.stx_model.specs.Laws.{JournalIsSerial}
use Rattle.stx_model.proofs.SerialAlone.{FindsAnswers, reaches, writes, unmoved, alone_push}
use Rattle.stx_model.proofs.SerialNames.{begins, Names, NamesFit, Sound, names_fit, names_push, notes_with, no_names, sound}
use Rattle.stx_model.proofs.SerialLocks.{Locked, no_work, begins_no_work, lived, lived_with_work, free_row, not_busy, access_reply, auto_reply, granted, locked_push, no_locks}
use Rattle.stx_model.proofs.SerialJournal.{SerialFrom, serial_push, serial_from, joining, journal_push, rows_push}
use Rattle.stx_base.proofs.HistoryLaws.{work_more, work_same, store_notes-push}

-- what every prefix of a legal history has
pub record Good (facts : StoreFacts) (history : List StoreEntry) : Type 0 where
  pub names : Names history
  pub locked : Locked (store_notes history)
  pub serial : SerialFrom (first_rows facts.values) (journal history)
  -- each live transaction, run alone over the committed rows as they are now, finds its answers
  pub alone : (t : ℕ) → is_live (store_notes history) t ≡ true → FindsAnswers (committed_rows facts.values history) (work (store_notes history) t)

-- what the reply says of the next note
abbrev Replied : StoreFacts → List StoreEntry → StoreNote → Type 0
Replied facts history n = store_reply facts history (store_want n) ≡ Some n

-- ---- an entry that commits

-- the transaction that joins the journal finds its answers, and writes no row that a live one has reached
record Joins (facts : StoreFacts) (history : List StoreEntry) (n : StoreNote) (j : Transaction) : Type 0 where
  alone : FindsAnswers (committed_rows facts.values history) j.work
  apart :
      (u k : ℕ) → is_live (notes_with history n) u ≡ true → list_any (reaches k) (work (notes_with history n) u) ≡ true
      → list_any (writes k) j.work ≡ false

-- the same of what an entry commits, if anything
abbrev JoinsIfAny : StoreFacts → List StoreEntry → StoreNote → Option Transaction → Type 0
JoinsIfAny facts history n None = ⊤
JoinsIfAny facts history n (Some j) = Joins facts history n j

-- a transaction that commits was live, and what another live one has reached it hasn't written
commit_joins :
    (facts : StoreFacts) (history : List StoreEntry) (c t i : ℕ) → Good facts history → Sound (store_notes history) (StoreNote.Commit t i)
    → JoinsIfAny facts history (StoreNote.Commit t i) (committed_note (notes_with history (StoreNote.Commit t i)) c (StoreNote.Commit t i))
commit_joins facts history c t i good sound = record {
  alone = rw (same t) (good.alone t live);
  apart = λ u k live_u reached. false_from_ne_true _ (λ written.
      let before = lived_with_work (store_notes history) (StoreNote.Commit t i) sound (reaches k) u live_u reached in
      let own : t ≡ u = good.locked t u k live before.0 (rw (same t) at written) (rw (same u) at reached) in
      both_ways _ before.1 (eq-eqb t u own));
}
  where
    live : is_live (store_notes history) t ≡ true
    live = sound.live t (eq-eqb t t refl)

    same : (u : ℕ) → work (notes_with history (StoreNote.Commit t i)) u ≡ work (store_notes history) u
    same u = work_same (store_notes history) (StoreNote.Commit t i) u refl

-- an own statement that isn't busy found nobody at its row
auto_joins :
    (facts : StoreFacts) (history : List StoreEntry) (c : ℕ) (a : Access) (r : Answer) → Sound (store_notes history) (StoreNote.Auto a r)
    → Replied facts history (StoreNote.Auto a r)
    → JoinsIfAny facts history (StoreNote.Auto a r) (committed_note (notes_with history (StoreNote.Auto a r)) c (StoreNote.Auto a r))
auto_joins facts history c a r sound reply = step (is_busy r) refl
  where
    step :
        (b : Bool) → is_busy r ≡ b
        → JoinsIfAny facts history (StoreNote.Auto a r)
        (if b then None else Some (record { client = c; tx = None; work = StoreNote.Auto a r ∷ [] }))
    step true busy = tt
    step false free = record {
      alone = rw found.1;
      apart = λ u k live reached. false_from_ne_true _ (λ written.
          let before = lived_with_work (store_notes history) (StoreNote.Auto a r) sound (reaches k) u live reached in
          let here : row_of a ≡ k = grind arith in
          let there = rw (work_same (store_notes history) (StoreNote.Auto a r) u refl, ← here) at reached in
          false≢true (free_row facts (store_notes history) None a found.0 u before.0 there));
    }
      where
        found : (conflicts facts (store_notes history) None a ≡ []) × (finds (committed_rows facts.values history) a ≡ r)
        found = not_busy (conflicts facts (store_notes history) None a) _ r (auto_reply facts history a r reply) free

-- whatever an entry commits
entry_joins :
    (facts : StoreFacts) (history : List StoreEntry) (c : ℕ) (n : StoreNote) → Good facts history → Sound (store_notes history) n
    → Replied facts history n → JoinsIfAny facts history n (committed_note (notes_with history n) c n)
entry_joins facts history c (StoreNote.Commit t i) good sound reply = commit_joins facts history c t i good sound
entry_joins facts history c (StoreNote.Auto a r) good sound reply = auto_joins facts history c a r sound reply
entry_joins facts history c _ good sound reply = tt

serial_joined :
    (facts : StoreFacts) (history : List StoreEntry) (n : StoreNote) (o : Option Transaction) → JoinsIfAny facts history n o
    → SerialFrom (first_rows facts.values) (journal history) → SerialFrom (first_rows facts.values) (journal history ++ cons_option o [])
serial_joined facts history n None joins so_far = rw (append-nil (journal history)) so_far
serial_joined facts history n (Some j) joins so_far = serial_push (first_rows facts.values) (journal history) j so_far joins.alone

-- what joins the journal moves nothing that a live transaction has found
live_unmoved :
    (facts : StoreFacts) (history : List StoreEntry) (n : StoreNote) (o : Option Transaction) → JoinsIfAny facts history n o → (u : ℕ)
    → is_live (notes_with history n) u ≡ true
    → found_alone (after_all (committed_rows facts.values history) (cons_option o [])) (work (notes_with history n) u)
    ≡ found_alone (committed_rows facts.values history) (work (notes_with history n) u)
live_unmoved facts history n None joins u live = refl
live_unmoved facts history n (Some j) joins u live =
    unmoved (committed_rows facts.values history) j.work (work (notes_with history n) u) (λ k reached. joins.apart u k live reached)

-- ---- an entry that is work

-- an access of a transaction is answered what it finds alone, over the committed rows
finds_here :
    (facts : StoreFacts) (history : List StoreEntry) (n : StoreNote) → Replied facts history n → (t : ℕ) → works t n ≡ true
    → finding (fold stepped (at_start (committed_rows facts.values history)) (work (store_notes history) t)) n ≡ answer_of n
finds_here facts history (StoreNote.Access s a r) reply t works =
    let parts = and_parts _ _ works in
    let same : s ≡ t = eqb-true s t parts.0 in
    let answered = access_reply facts history s a r reply in
    ap Some (rw (← same) (not_busy (conflicts facts (store_notes history) (Some s) a) _ r answered (not-true _ parts.1)).1)
finds_here facts history (StoreNote.Auto a r) reply t works = absurd (false≢true works)
finds_here facts history _ reply t works = refl

-- over the committed rows before the entry, each transaction that lives after it finds its answers
alone_so_far :
    (facts : StoreFacts) (history : List StoreEntry) (n : StoreNote) → Good facts history → Sound (store_notes history) n
    → Replied facts history n → (t : ℕ) → is_live (notes_with history n) t ≡ true
    → FindsAnswers (committed_rows facts.values history) (work (notes_with history n) t)
alone_so_far facts history n good sound reply t live =
    ⊎_elim (λ old. before (good.alone t old.0) (works t n) refl) begun_now (lived (store_notes history) n t live)
  where
    before :
        FindsAnswers (committed_rows facts.values history) (work (store_notes history) t) → (b : Bool) → works t n ≡ b
        → FindsAnswers (committed_rows facts.values history) (work (notes_with history n) t)
    before so_far true h =
        rw (work_more (store_notes history) n t h)
        (alone_push (committed_rows facts.values history) (work (store_notes history) t) n so_far (finds_here facts history n reply t h))
    before so_far false h = rw (work_same (store_notes history) n t h) so_far

    begun_now : begins t n ≡ true → FindsAnswers (committed_rows facts.values history) (work (notes_with history n) t)
    begun_now h = rw (work_same (store_notes history) n t (begins_no_work n t h t), no_work (store_notes history) t (sound.fresh t h)) refl

-- ---- each entry keeps it

good_push :
    (clients : ℕ) (facts : StoreFacts) (history : List StoreEntry) (e : StoreEntry) → Good facts history → StoreFits clients facts history e
    → Good facts (history ++ e ∷ [])
good_push clients facts history e good fits = record {
  names = names_push history e good.names named;
  locked = rw (store_notes-push history e) (locked_push (store_notes history) e.note good.locked known (granted facts history e.note fits.reply));
  serial = rw (journal_push history e known) (serial_joined facts history e.note (joining history e) joins good.serial);
  alone = rw (rows_push facts history e known, store_notes-push history e) (λ t live.
      live_unmoved facts history e.note (joining history e) joins t live
      ∙ alone_so_far facts history e.note good known fits.reply t live);
}
  where
    named : NamesFit history e
    named = names_fit clients facts history e fits

    known : Sound (store_notes history) e.note
    known = sound history e good.names named

    joins : JoinsIfAny facts history e.note (joining history e)
    joins = entry_joins facts history e.client e.note good known fits.reply

good_from :
    (clients : ℕ) (facts : StoreFacts) (before es : List StoreEntry) → Good facts before → LegalFrom (StoreFits clients facts) before es
    → Good facts (before ++ es)
good_from clients facts before [] good legal = rw (append-nil before) good
good_from clients facts before (e ∷ es) good legal =
    rw (← append_assoc before (e ∷ []) es)
    (good_from clients facts (before ++ e ∷ []) es (good_push clients facts before e good legal.0) legal.1)

good_start : (facts : StoreFacts) → Good facts []
good_start facts = record { names = no_names; locked = no_locks; serial = tt; alone = λ t live. absurd (false≢true live) }

pub legal_is_good : (clients : ℕ) (facts : StoreFacts) (history : List StoreEntry) → StoreLegal clients facts history → Good facts history
legal_is_good clients facts history legal = good_from clients facts [] history (good_start facts) legal

pub journal_serial : JournalIsSerial
journal_serial clients facts history legal = serial_from facts history (legal_is_good clients facts history legal).serial
