-- A turn: the call that a client wants is proper, and its reply is the next entry.
use Rattle.std.proofs.Common.{◌≡◌, ℕ, ◌+◌, ◌<◌, true, false, List, [], length, Some, None, refl, sym, ap, ◌∙◌, subst, arith, length-append}
use Rattle.std.specs.Prelude.{IsTrue}
use Rattle.std.specs.Option.{option_map}
use Rattle.stx_scenario.specs.declared.scenario.Scenario.{Scenario}
use Rattle.stx_base.specs.declared.call.Want.{Want}
use Rattle.stx_base.specs.declared.call.Call.{Call}
use Rattle.stx_base.specs.declared.call.Reply.{Reply}
use Rattle.stx_base.specs.declared.call.PoolCall.{PoolCall}
use Rattle.stx_base.specs.declared.call.StoreCall.{StoreCall}
use Rattle.stx_base.specs.declared.history.PoolNote.{PoolNote}
use Rattle.stx_base.specs.declared.history.StoreNote.{StoreNote}
use Rattle.stx_base.specs.declared.history.Note.{Note}
use Rattle.stx_base.specs.Limits.{most_clients}
use Rattle.stx_base.specs.Histories.{pool_notes_of, store_notes_of}
use Rattle.stx_base.specs.Notes.{pool_call_want, store_call_want, call_want, note_of, is_reply_to}
use Rattle.stx_base.specs.Pools.{pool_reply, pool_proper}
use Rattle.stx_base.specs.Stores.{store_reply, store_proper, store_facts}
use Rattle.stx_model.specs.Meanings.{stop_of}
use Rattle.stx_model.specs.Reads.{TakesFresh, BeginsFresh}
use Rattle.stx_model.specs.Played.{Turns, turn, replied, want_so_far, with_pool, with_store}
use Rattle.stx_base.proofs.LegalLaws.{PoolLegal-push, StoreLegal-push, PoolFits-reply, StoreFits-reply}
use Rattle.stx_base.proofs.HistoryLaws.{pool_notes_of-push, pool_notes_of-push_other, store_notes_of-push, store_notes_of-push_other}
use Rattle.stx_base.proofs.NoteLaws.{pool_suits, store_suits}
use Rattle.stx_model.proofs.FreshLaw.{own_notes_fresh}
use Rattle.stx_model.proofs.WantedCalls.{proper_pool as wanted_by_pool, proper_store as wanted_by_store}
use Rattle.stx_client.specs.View.{ClientView, script_of, has_told, with_note, calling, fed, HasReadAll}
use Rattle.stx_pool.specs.Pool.{Pool, with_pool_entry}
use Rattle.stx_store.specs.Store.{Store, with_store_entry}
use Rattle.stx_play.specs.inner.Turning.{turns_of, count_entries, client_so_far, AreCores, IsReady, IsCallProper, IsCallAnswered, HasTurned}

module _ (S : Scenario) (client : ClientView) (c : ℕ) (pool : Pool) (store : Store) (ready : IsReady S client c pool store) where
  abbrev so_far : Turns
  so_far = turns_of pool store

  abbrev own_pool : List PoolNote
  own_pool = pool_notes_of pool.entries c

  abbrev own_store : List StoreNote
  own_store = store_notes_of store.entries c

  pub wanted : (w : Want) → stop_of (script_of client) ≡ Some w → want_so_far S so_far c ≡ Some w
  wanted w is = ap (λ v. stop_of (script_of v)) (sym ready.own) ∙ is

  takes_fresh : TakesFresh own_pool
  takes_fresh = (own_notes_fresh (length S.clients) c).0 S.settings.pool pool.entries ready.cores.pool_legal

  begins_fresh : BeginsFresh own_store
  begins_fresh = (own_notes_fresh (length S.clients) c).1 (store_facts S) store.entries ready.cores.store_legal

  pub below : c < most_clients
  below = omega (arith, ready.below, ready.playable.order.places.few_clients)

  pub proper_pool : (call : PoolCall) → stop_of (script_of client) ≡ Some (pool_call_want call) → IsTrue (pool_proper own_pool (pool_call_want call))
  proper_pool call is = wanted_by_pool S ready.playable.order c own_pool own_store ready.read takes_fresh call (wanted (pool_call_want call) is)

  pub proper_store : (call : StoreCall) → stop_of (script_of client) ≡ Some (store_call_want call) → IsTrue (store_proper own_store (store_call_want call))
  proper_store call is = wanted_by_store S ready.playable.order c own_pool own_store ready.read begins_fresh call (wanted (store_call_want call) is)

  pub proper_call : (call : Call) → stop_of (script_of client) ≡ Some (call_want call) → IsCallProper pool store c call
  proper_call (Call.Pool call) is = proper_pool call is
  proper_call (Call.Store call) is = proper_store call is

  -- ---- a note more

  -- the histories with the note as the client's entry
  abbrev noted : Note → Turns
  noted (Note.Pool n) = with_pool so_far c (Some n)
  noted (Note.Store n) = with_store so_far c (Some n)

  abbrev own_client : List PoolNote → List StoreNote → ClientView
  own_client ps ss = has_told (record { scenario = S; number = c; pool = ps; store = ss; out = None; failed = false; said = [] })

  -- the client that has taken the note in has just its own notes
  own_noted : (note : Note) → has_told (with_note (client_so_far S so_far c) (Some note)) ≡ client_so_far S (noted note) c
  own_noted (Note.Pool n) = ap (λ ns. own_client ns own_store) (sym (pool_notes_of-push pool.entries (record { client = c; note = n }) c refl))
  own_noted (Note.Store n) = ap (λ ns. own_client own_pool ns) (sym (store_notes_of-push store.entries (record { client = c; note = n }) c refl))

  fed_own : (w : Want) (reply : Reply) (note : Note) → note_of w reply ≡ Some note → fed (calling client w) reply ≡ client_so_far S (noted note) c
  fed_own w reply note made =
      (λ i. fed (calling (ready.own i) w) reply)
      ∙ ap (λ o. has_told (with_note (calling (client_so_far S so_far c) w) o)) made
      ∙ own_noted note

  others_noted : (note : Note) (d : ℕ) → (d ≡ c → ⊥) → client_so_far S (noted note) d ≡ client_so_far S so_far d
  others_noted (Note.Pool n) d differs =
      ap (λ ns. has_told (record { scenario = S; number = d; pool = ns; store = store_notes_of store.entries d; out = None; failed = false; said = [] }))
      (pool_notes_of-push_other pool.entries (record { client = c; note = n }) d (λ same. differs (sym same)))
  others_noted (Note.Store n) d differs =
      ap (λ ns. has_told (record { scenario = S; number = d; pool = pool_notes_of pool.entries d; store = ns; out = None; failed = false; said = [] }))
      (store_notes_of-push_other store.entries (record { client = c; note = n }) d (λ same. differs (sym same)))

  count_noted : (note : Note) → count_entries (noted note) ≡ count_entries so_far + 1
  count_noted (Note.Pool n) = rw length-append (omega arith)
  count_noted (Note.Store n) = rw length-append (omega arith)

  -- the note is the reply to what the client wants: then that is its turn
  turned : (w : Want) (reply : Reply) (note : Note) (new_pool : Pool) (new_store : Store) (new : ClientView)
      → stop_of (script_of client) ≡ Some w → note_of w reply ≡ Some note → replied S so_far c (Some w) ≡ noted note → turns_of new_pool new_store ≡ noted note
      → AreCores S new_pool new_store → new ≡ fed (calling client w) reply → HasReadAll new → HasTurned S c pool store new_pool new_store new
  unfolding turn
  turned w reply note new_pool new_store new is made replies grown cores is_fed read =
      let own : new ≡ client_so_far S (turns_of new_pool new_store) c = is_fed ∙ fed_own w reply note made ∙ ap (λ t. client_so_far S t c) (sym grown) in
      record {
        turned = grown ∙ sym replies ∙ sym (ap (replied S so_far c) (wanted w is));
        cores = cores;
        own = own;
        read = subst HasReadAll own read;
        one_more = ap count_entries grown ∙ count_noted note;
        others = λ d differs. ap (λ t. client_so_far S t d) grown ∙ others_noted note d differs;
      }

  -- ---- the reply of the pool, and of the store

  replied_pool : (call : PoolCall) → replied S so_far c (Some (pool_call_want call)) ≡ with_pool so_far c (pool_reply S.settings.pool pool.entries (pool_call_want call))
  replied_pool PoolCall.Take = refl
  replied_pool (PoolCall.Give n) = refl

  replied_store : (call : StoreCall) → replied S so_far c (Some (store_call_want call)) ≡ with_store so_far c (store_reply (store_facts S) store.entries (store_call_want call))
  replied_store StoreCall.Begin = refl
  replied_store call = refl

  pub after_call : (call : Call) (reply : Reply) (new_pool : Pool) (new_store : Store) (new : ClientView) → stop_of (script_of client) ≡ Some (call_want call)
      → IsCallAnswered pool store new_pool new_store c call reply → new ≡ fed (calling client (call_want call)) reply → HasReadAll new → HasTurned S c pool store new_pool new_store new
  after_call (Call.Pool call) (Reply.Pool answer) new_pool new_store new is (answered, same) is_fed read =
      let w = pool_call_want call in
      let reply : pool_reply S.settings.pool pool.entries w ≡ Some answered.note = ap (λ n. pool_reply n pool.entries w) (sym ready.cores.size) ∙ answered.replies.reply in
      turned w (Reply.Pool answer) (Note.Pool answered.note) new_pool new_store new is (ap (option_map Note.Pool) answered.made) (replied_pool call ∙ ap (with_pool so_far c) reply)
      (λ i. turns_of (answered.replies.kept i) (same i))
      (subst (λ p. AreCores S p new_store) (sym answered.replies.kept) (subst (AreCores S (with_pool_entry pool c answered.note)) (sym same) (record {
        size = ready.cores.size;
        facts = ready.cores.facts;
        pool_legal = PoolLegal-push (length S.clients) S.settings.pool pool.entries (record { client = c; note = answered.note }) ready.cores.pool_legal
            (PoolFits-reply (length S.clients) S.settings.pool pool.entries c w answered.note ready.below (proper_pool call is) reply);
        store_legal = ready.cores.store_legal;
      })))
      is_fed read
  after_call (Call.Store call) (Reply.Store answer) new_pool new_store new is (answered, same) is_fed read =
      let w = store_call_want call in
      let reply : store_reply (store_facts S) store.entries w ≡ Some answered.note = ap (λ f. store_reply f store.entries w) (sym ready.cores.facts) ∙ answered.replies.reply in
      turned w (Reply.Store answer) (Note.Store answered.note) new_pool new_store new is (ap (option_map Note.Store) answered.made) (replied_store call ∙ ap (with_store so_far c) reply)
      (λ i. turns_of (same i) (answered.replies.kept i))
      (subst (λ s. AreCores S new_pool s) (sym answered.replies.kept) (subst (λ p. AreCores S p (with_store_entry store c answered.note)) (sym same) (record {
        size = ready.cores.size;
        facts = ready.cores.facts;
        pool_legal = ready.cores.pool_legal;
        store_legal = StoreLegal-push (length S.clients) (store_facts S) store.entries (record { client = c; note = answered.note }) ready.cores.store_legal
            (StoreFits-reply (length S.clients) (store_facts S) store.entries c w answered.note ready.below (proper_store call is) reply);
      })))
      is_fed read
  after_call (Call.Pool call) (Reply.Store answer) new_pool new_store new is answered is_fed read = elim answered [ ]
  after_call (Call.Store call) (Reply.Pool answer) new_pool new_store new is answered is_fed read = elim answered [ ]

-- ---- what the code hands over

-- the answer is a reply to the call
pub suits_call : (pool : Pool) (store : Store) (new_pool : Pool) (new_store : Store) (c : ℕ) (call : Call) (reply : Reply)
    → IsCallAnswered pool store new_pool new_store c call reply → is_reply_to (call_want call) reply ≡ true
suits_call pool store new_pool new_store c (Call.Pool call) (Reply.Pool answer) (answered, same) =
    pool_suits pool.size pool.entries (pool_call_want call) answer answered.note answered.made answered.replies.reply
suits_call pool store new_pool new_store c (Call.Store call) (Reply.Store answer) (answered, same) =
    store_suits store.facts store.entries (store_call_want call) answer answered.note answered.made answered.replies.reply
suits_call pool store new_pool new_store c (Call.Pool call) (Reply.Store answer) answered = elim answered [ ]
suits_call pool store new_pool new_store c (Call.Store call) (Reply.Pool answer) answered = elim answered [ ]
