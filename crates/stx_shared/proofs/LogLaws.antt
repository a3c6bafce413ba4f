-- What a call that was answered is to the turn cell's history: one entry more, which notes the call, and a legal history stays
-- legal. The entries of the seat c + 1 are those of client c.
use Rattle.std.proofs.Common.{◌≡◌, ℕ, suc, ◌-◌, ◌==◌, ◌<◌, List, [], ◌∷◌, ◌++◌, filter, map, Result, sym, ap, ◌∙◌, subst, inl, inr, arith, eq-eqb, ne_eqb}
use Rattle.std.specs.Prelude.{Bool, IfOk, IsTrue, OnErr}
use Rattle.std.proofs.lemmas.Bool.Decides.{eqb_tells}
use Rattle.stx_base.specs.declared.call.PoolAnswer.{PoolAnswer}
use Rattle.stx_base.specs.declared.call.PoolCall.{PoolCall}
use Rattle.stx_base.specs.declared.call.StoreAnswer.{StoreAnswer}
use Rattle.stx_base.specs.declared.call.StoreCall.{StoreCall}
use Rattle.stx_base.specs.declared.history.PoolEntry.{PoolEntry}
use Rattle.stx_base.specs.declared.history.StoreEntry.{StoreEntry}
use Rattle.stx_base.specs.Histories.{pool_notes_of, store_notes_of}
use Rattle.stx_base.specs.Legal.{PoolLegal, StoreLegal}
use Rattle.stx_base.specs.Limits.{most_clients}
use Rattle.stx_base.specs.Notes.{pool_call_want, store_call_want}
use Rattle.stx_base.specs.Pools.{pool_proper}
use Rattle.stx_base.specs.Stores.{store_proper}
use Rattle.stx_base.proofs.HistoryLaws.{made}
use Rattle.stx_base.proofs.LegalLaws.{PoolLegal-push, StoreLegal-push, PoolFits-reply, StoreFits-reply}
use Rattle.stx_base.proofs.NoteLaws.{pool_suits, store_suits}
use Rattle.stx_base.proofs.Results.{either_way}
use Rattle.stx_pool.specs.Pool.{Pool, PoolCallAnswered}
use Rattle.stx_store.specs.Store.{Store, StoreCallAnswered}
use Rattle.stx_shared.specs.Logs.{pool_maker, store_maker, NotesPoolCall, NotesStoreCall, IsSeatCall}
use Rattle.stx_turn.specs.Histories.{made_by}

suc_test : (a c : ℕ) → (suc a == suc c) ≡ (a == c)
suc_test a c = elim (eqb_tells a c) [
  | inl (tells, same) ↦ eq-eqb (suc a) (suc c) (ap suc same) ∙ sym tells
  | inr (tells, differs) ↦ ne_eqb (suc a) (suc c) (λ same. differs (omega (arith, same))) ∙ sym tells
]

-- the notes of the seat c + 1 are those of client c
pub notes_by : {E N : Type 0} (client : E → ℕ) (note : E → N) (H : List E) (c : ℕ) → map note (made_by (λ e. suc (client e)) (suc c) H) ≡ made client note H c
notes_by client note H c = λ i. map note (filter (λ e. suc_test (client e) c i) H)

-- the seat of client who - 1 is who
pub seat_of : (who : ℕ) {is_proper : Bool} → IsSeatCall who is_proper → suc (who - 1) ≡ who
seat_of who call = omega (arith, call.who_is)

-- what a call keeps stays, since one that wasn't made changes nothing
pub stays : {S T E : Type 0} {A : T → Type 0} (P : S → Type 0) (old new : S) (r : Result T E) → IfOk r A → OnErr r (new ≡ old) → ((x : T) → A x → P old → P new) → P old → P new
stays P old new r made none keeps = either_way r made none keeps (λ same. subst P (sym same))

-- ---- the entry that an answer of client c adds

pub pool_noted : (old new : Pool) (who c : ℕ) (call : PoolCall) → suc c ≡ who → (answer : PoolAnswer) → PoolCallAnswered old new c call answer → (e : PoolEntry) × (new.entries ≡ old.entries ++ e ∷ []) × (pool_maker e ≡ who) × NotesPoolCall e call answer
pool_noted old new who c call seat answer answered =
    let suits = pool_suits old.size old.entries (pool_call_want call) answer answered.note answered.made answered.replies.reply in
    (record { client = c; note = answered.note }, ap (λ pool. pool.entries) answered.replies.kept, seat, record { note = answered.made; suits = suits })

pub store_noted : (old new : Store) (who c : ℕ) (call : StoreCall) → suc c ≡ who → (answer : StoreAnswer) → StoreCallAnswered old new c call answer → (e : StoreEntry) × (new.entries ≡ old.entries ++ e ∷ []) × (store_maker e ≡ who) × NotesStoreCall e call answer
store_noted old new who c call seat answer answered =
    let suits = store_suits old.facts old.entries (store_call_want call) answer answered.note answered.made answered.replies.reply in
    (record { client = c; note = answered.note }, ap (λ store. store.entries) answered.replies.kept, seat, record { note = answered.made; suits = suits })

-- ---- with it, a legal history stays legal

abbrev pub IsLegalPool : Pool → Type 0
IsLegalPool pool = PoolLegal most_clients pool.size pool.entries

abbrev pub IsLegalStore : Store → Type 0
IsLegalStore store = StoreLegal most_clients store.facts store.entries

pub pool_stays_legal : (old new : Pool) (c : ℕ) (call : PoolCall) → c < most_clients → IsTrue (pool_proper (pool_notes_of old.entries c) (pool_call_want call)) → (answer : PoolAnswer) → PoolCallAnswered old new c call answer → IsLegalPool old → IsLegalPool new
pool_stays_legal old new c call below proper answer answered legal =
    let fits = PoolFits-reply most_clients old.size old.entries c (pool_call_want call) answered.note below proper answered.replies.reply in
    subst IsLegalPool (sym answered.replies.kept) (PoolLegal-push most_clients old.size old.entries _ legal fits)

pub store_stays_legal : (old new : Store) (c : ℕ) (call : StoreCall) → c < most_clients → IsTrue (store_proper (store_notes_of old.entries c) (store_call_want call)) → (answer : StoreAnswer) → StoreCallAnswered old new c call answer → IsLegalStore old → IsLegalStore new
store_stays_legal old new c call below proper answer answered legal =
    let fits = StoreFits-reply most_clients old.facts old.entries c (store_call_want call) answered.note below proper answered.replies.reply in
    subst IsLegalStore (sym answered.replies.kept) (StoreLegal-push most_clients old.facts old.entries _ legal fits)
