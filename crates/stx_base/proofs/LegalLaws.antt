-- Legal histories: how they grow by an entry that fits, what every entry of one keeps, and how long they get.
use Rattle.std.proofs.Common.{◌≡◌, ℕ, ◌+◌, ◌*◌, ◌^◌, ◌<◌, ◌≤◌, IsTrue, List, [], ◌∷◌, ◌++◌, length, Option, Some, None, All, sym, ap, ◌∙◌, subst, inl, inr, arith, append_assoc, append-nil, length-append, ltb-true}
use Rattle.std.proofs.lemmas.Bool.{and_parts, cases_eq}
use Rattle.std.proofs.lemmas.List.Elements.{All-nil, All-push, All-head, All-tail}
use Rattle.stx_base.specs.declared.facts.StoreFacts.{StoreFacts}
use Rattle.stx_base.specs.declared.call.Want.{Want}
use Rattle.stx_base.specs.declared.history.PoolNote.{PoolNote}
use Rattle.stx_base.specs.declared.history.PoolEntry.{PoolEntry}
use Rattle.stx_base.specs.declared.history.StoreNote.{StoreNote}
use Rattle.stx_base.specs.declared.history.StoreEntry.{StoreEntry}
use Rattle.stx_base.specs.Limits.{most_notes}
use Rattle.stx_base.specs.Histories.{store_notes, pool_notes_of, store_notes_of, has_room}
use Rattle.stx_base.specs.Pools.{taken_or_empty, pool_reply, pool_want, pool_proper}
use Rattle.stx_base.specs.Stores.{begun, journal, access_answer, auto_answer, store_reply, store_want, store_proper}
use Rattle.stx_base.specs.Legal.{LegalFrom, PoolFits, PoolLegal, StoreFits, StoreLegal}
use Rattle.stx_base.proofs.HistoryLaws.{made, made-push, made-push_other, sum_below-le, length-made}

-- ---- of any entries

module _ {E : Type 0} (Fits : List E → E → Type 0) where
  push_from : (before H : List E) (e : E) → LegalFrom Fits before H → Fits (before ++ H) e → LegalFrom Fits before (H ++ e ∷ [])
  push_from before [] e legal fits = (subst (λ b. Fits b e) (append-nil before) fits, tt)
  push_from before (x ∷ H) e legal fits = (legal.0, push_from (before ++ x ∷ []) H e legal.1 (subst (λ b. Fits b e) (sym (append_assoc before (x ∷ []) H)) fits))

  -- a property of histories that holds of the empty one, and of each legal one longer by an entry that fits, holds of each legal one
  along_from : (P : List E → Type 0) → ((H : List E) (e : E) → P H → Fits H e → P (H ++ e ∷ [])) → (before H : List E) → P before → LegalFrom Fits before H → P (before ++ H)
  along_from P more before [] p legal = subst P (sym (append-nil before)) p
  along_from P more before (x ∷ H) p legal = subst P (append_assoc before (x ∷ []) H) (along_from P more (before ++ x ∷ []) H (more before x p legal.0) legal.1)

  -- a legal history of two parts: the first is legal, and the second after it
  parts_from : (before H G : List E) → LegalFrom Fits before (H ++ G) → LegalFrom Fits before H × LegalFrom Fits (before ++ H) G
  parts_from before [] G legal = (tt, subst (λ b. LegalFrom Fits b G) (sym (append-nil before)) legal)
  parts_from before (x ∷ H) G legal =
      let parts = parts_from (before ++ x ∷ []) H G legal.1 in
      ((legal.0, parts.0), subst (λ b. LegalFrom Fits b G) (append_assoc before (x ∷ []) H) parts.1)

  -- where each entry that fits passes, all pass
  all_legal : (P : E → Type 0) → ((before : List E) (e : E) → Fits before e → P e) → (H : List E) → LegalFrom Fits [] H → All P H
  all_legal P passes H legal = along_from (All P) (λ K e all fits. All-push P K e all (passes K e fits)) [] H (All-nil P) legal

  -- where each entry that passes fits otherwise too, a legal history whose entries pass is legal otherwise too
  other_from : (P : E → Type 0) (Other : List E → E → Type 0) → ((before : List E) (e : E) → Fits before e → P e → Other before e)
      → (before H : List E) → LegalFrom Fits before H → All P H → LegalFrom Other before H
  other_from P Other passes before [] legal all = tt
  other_from P Other passes before (x ∷ H) legal all =
      (passes before x legal.0 (All-head P x H all), other_from P Other passes (before ++ x ∷ []) H legal.1 (All-tail P x H all))

  -- where an entry fits only while its client has room, each client keeps few enough notes, and the whole history isn't long
  module _ {N : Type 0} (client : E → ℕ) (note : E → N) (room : (before : List E) (e : E) → Fits before e → length (made client note before (client e)) < most_notes) where
    own_step : (K : List E) (e : E) → ((c : ℕ) → length (made client note K c) ≤ most_notes) → Fits K e → (c : ℕ) → length (made client note (K ++ e ∷ []) c) ≤ most_notes
    own_step K e few fits c = elim (cases_eq (client e) c) [
      | inl same ↦
          let less : length (made client note K c) < most_notes = subst (λ d. length (made client note K d) < most_notes) same (room K e fits) in
          let grown : length (made client note (K ++ e ∷ []) c) ≡ length (made client note K c) + 1 = ap length (made-push client note K e c same) ∙ length-append (made client note K c) (note e ∷ []) in
          omega arith
      | inr differs ↦ let kept : length (made client note (K ++ e ∷ []) c) ≡ length (made client note K c) = ap length (made-push_other client note K e c differs) in let before = few c in omega arith
    ]

    own_few : (H : List E) → LegalFrom Fits [] H → (c : ℕ) → length (made client note H c) ≤ most_notes
    own_few H legal = along_from (λ K. (c : ℕ) → length (made client note K c) ≤ most_notes) own_step [] H (λ c. omega arith) legal

    short : (n : ℕ) (H : List E) → LegalFrom Fits [] H → All (λ e. client e < n) H → length H ≤ n * most_notes
    short n H legal all =
        let sum = length-made client note n H all in
        let most = sum_below-le n most_notes (λ c. length (made client note H c)) (λ c h. own_few H legal c) in
        omega arith

-- ---- growing

pub PoolLegal-push : (n size : ℕ) (H : List PoolEntry) (e : PoolEntry) → PoolLegal n size H → PoolFits n size H e → PoolLegal n size (H ++ e ∷ [])
PoolLegal-push n size H e legal fits = push_from (PoolFits n size) [] H e legal fits

pub StoreLegal-push : (n : ℕ) (facts : StoreFacts) (H : List StoreEntry) (e : StoreEntry) → StoreLegal n facts H → StoreFits n facts H e → StoreLegal n facts (H ++ e ∷ [])
StoreLegal-push n facts H e legal fits = push_from (StoreFits n facts) [] H e legal fits

pub PoolLegal-along : (n size : ℕ) (P : List PoolEntry → Type 0)
    → P []
    → ((H : List PoolEntry) (e : PoolEntry) → P H → PoolFits n size H e → P (H ++ e ∷ []))
    → (H : List PoolEntry) → PoolLegal n size H → P H
PoolLegal-along n size P none more H legal = along_from (PoolFits n size) P more [] H none legal

pub StoreLegal-along : (n : ℕ) (facts : StoreFacts) (P : List StoreEntry → Type 0)
    → P []
    → ((H : List StoreEntry) (e : StoreEntry) → P H → StoreFits n facts H e → P (H ++ e ∷ []))
    → (H : List StoreEntry) → StoreLegal n facts H → P H
StoreLegal-along n facts P none more H legal = along_from (StoreFits n facts) P more [] H none legal

pub PoolLegal-parts : (n size : ℕ) (H G : List PoolEntry) → PoolLegal n size (H ++ G) → PoolLegal n size H × LegalFrom (PoolFits n size) H G
PoolLegal-parts n size H G legal = parts_from (PoolFits n size) [] H G legal

pub StoreLegal-parts : (n : ℕ) (facts : StoreFacts) (H G : List StoreEntry) → StoreLegal n facts (H ++ G) → StoreLegal n facts H × LegalFrom (StoreFits n facts) H G
StoreLegal-parts n facts H G legal = parts_from (StoreFits n facts) [] H G legal

-- ---- replies

-- a reply answers the call that was made
pub store_want-reply : (facts : StoreFacts) (H : List StoreEntry) (want : Want) (note : StoreNote) → store_reply facts H want ≡ Some note → store_want note ≡ want
unfolding store_reply
store_want-reply facts H Want.Begin note h = let is : note ≡ StoreNote.Begin (length (begun (store_notes H)) + 1) = cc in ap store_want is
store_want-reply facts H (Want.Access t a) note h = let is : note ≡ StoreNote.Access t a (access_answer facts H t a) = cc in ap store_want is
store_want-reply facts H (Want.Point t) note h = let is : note ≡ StoreNote.Point t = cc in ap store_want is
store_want-reply facts H (Want.BackTo t) note h = let is : note ≡ StoreNote.BackTo t = cc in ap store_want is
store_want-reply facts H (Want.Release t) note h = let is : note ≡ StoreNote.Release t = cc in ap store_want is
store_want-reply facts H (Want.Commit t) note h = let is : note ≡ StoreNote.Commit t (length (journal H) + 1) = cc in ap store_want is
store_want-reply facts H (Want.Rollback t) note h = let is : note ≡ StoreNote.Rollback t = cc in ap store_want is
store_want-reply facts H (Want.Auto a) note h = let is : note ≡ StoreNote.Auto a (auto_answer facts H a) = cc in ap store_want is
store_want-reply facts H want note h = cc

-- the entry of a proper call with its reply fits
pub StoreFits-reply : (n : ℕ) (facts : StoreFacts) (H : List StoreEntry) (c : ℕ) (want : Want) (note : StoreNote)
    → c < n → IsTrue (store_proper (store_notes_of H c) want) → store_reply facts H want ≡ Some note → StoreFits n facts H (record { client = c; note = note })
StoreFits-reply n facts H c want note below proper reply =
    let own = subst (λ w. IsTrue (store_proper (store_notes_of H c) w) × (store_reply facts H w ≡ Some note)) (sym (store_want-reply facts H want note reply)) (proper, reply) in
    record { client = below; proper = own.0; reply = own.1 }

taken_or_not : (free : Option ℕ) (note : PoolNote) → Some (taken_or_empty free) ≡ Some note → pool_want note ≡ Want.Take
taken_or_not (Some c) note h = let is : note ≡ PoolNote.Taken c = cc in ap pool_want is
taken_or_not None note h = let is : note ≡ PoolNote.Empty = cc in ap pool_want is

pub pool_want-reply : (size : ℕ) (H : List PoolEntry) (want : Want) (note : PoolNote) → pool_reply size H want ≡ Some note → pool_want note ≡ want
unfolding pool_reply
pool_want-reply size H Want.Take note h = taken_or_not _ note h
pool_want-reply size H (Want.Give c) note h = let is : note ≡ PoolNote.Given c = cc in ap pool_want is
pool_want-reply size H want note h = cc

pub PoolFits-reply : (n size : ℕ) (H : List PoolEntry) (c : ℕ) (want : Want) (note : PoolNote)
    → c < n → IsTrue (pool_proper (pool_notes_of H c) want) → pool_reply size H want ≡ Some note → PoolFits n size H (record { client = c; note = note })
PoolFits-reply n size H c want note below proper reply =
    let own = subst (λ w. IsTrue (pool_proper (pool_notes_of H c) w) × (pool_reply size H w ≡ Some note)) (sym (pool_want-reply size H want note reply)) (proper, reply) in
    record { client = below; proper = own.0; reply = own.1 }

-- ---- clients

pub PoolLegal-clients : (n size : ℕ) (H : List PoolEntry) → PoolLegal n size H → All (λ e. e.client < n) H
PoolLegal-clients n size H legal = all_legal (PoolFits n size) (λ e. e.client < n) (λ before e fits. fits.client) H legal

pub StoreLegal-clients : (n : ℕ) (facts : StoreFacts) (H : List StoreEntry) → StoreLegal n facts H → All (λ e. e.client < n) H
StoreLegal-clients n facts H legal = all_legal (StoreFits n facts) (λ e. e.client < n) (λ before e fits. fits.client) H legal

-- a legal history, where all clients are below a count, is one of so many clients
pub PoolLegal-among : (m n size : ℕ) (H : List PoolEntry) → PoolLegal m size H → All (λ e. e.client < n) H → PoolLegal n size H
PoolLegal-among m n size H legal all =
    other_from (PoolFits m size) (λ e. e.client < n) (PoolFits n size) (λ before e fits below. record { client = below; proper = fits.proper; reply = fits.reply }) [] H legal all

pub StoreLegal-among : (m n : ℕ) (facts : StoreFacts) (H : List StoreEntry) → StoreLegal m facts H → All (λ e. e.client < n) H → StoreLegal n facts H
StoreLegal-among m n facts H legal all =
    other_from (StoreFits m facts) (λ e. e.client < n) (StoreFits n facts) (λ before e fits below. record { client = below; proper = fits.proper; reply = fits.reply }) [] H legal all

-- ---- how long they get

store_room : (own : List StoreNote) (want : Want) → IsTrue (store_proper own want) → length own < 2 ^ 32
unfolding store_proper
store_room own want proper = ltb-true (length own) (2 ^ 32) (and_parts (has_room own) _ proper).0

pool_room : (own : List PoolNote) (want : Want) → IsTrue (pool_proper own want) → length own < 2 ^ 32
unfolding pool_proper
pool_room own Want.Take proper = ltb-true (length own) (2 ^ 32) proper
pool_room own (Want.Give c) proper = ltb-true (length own) (2 ^ 32) (and_parts (has_room own) _ proper).0
pool_room own want proper = cc

-- each client keeps few enough notes
pub PoolLegal-own : (n size : ℕ) (H : List PoolEntry) → PoolLegal n size H → (c : ℕ) → length (pool_notes_of H c) ≤ most_notes
PoolLegal-own n size H legal =
    own_few (PoolFits n size) (λ e. e.client) (λ e. e.note) (λ before e fits. pool_room (pool_notes_of before e.client) (pool_want e.note) fits.proper) H legal

pub StoreLegal-own : (n : ℕ) (facts : StoreFacts) (H : List StoreEntry) → StoreLegal n facts H → (c : ℕ) → length (store_notes_of H c) ≤ most_notes
StoreLegal-own n facts H legal =
    own_few (StoreFits n facts) (λ e. e.client) (λ e. e.note) (λ before e fits. store_room (store_notes_of before e.client) (store_want e.note) fits.proper) H legal

-- so the whole history isn't long
pub PoolLegal-short : (n size : ℕ) (H : List PoolEntry) → PoolLegal n size H → length H ≤ n * most_notes
PoolLegal-short n size H legal =
    short (PoolFits n size) (λ e. e.client) (λ e. e.note) (λ before e fits. pool_room (pool_notes_of before e.client) (pool_want e.note) fits.proper) n H legal (PoolLegal-clients n size H legal)

pub StoreLegal-short : (n : ℕ) (facts : StoreFacts) (H : List StoreEntry) → StoreLegal n facts H → length H ≤ n * most_notes
StoreLegal-short n facts H legal =
    short (StoreFits n facts) (λ e. e.client) (λ e. e.note) (λ before e fits. store_room (store_notes_of before e.client) (store_want e.note) fits.proper) n H legal (StoreLegal-clients n facts H legal)
