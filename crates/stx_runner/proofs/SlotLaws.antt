-- The calls that a slot's client wants are proper after its seats' own calls, and there are only so many.
use Rattle.std.proofs.Common.{◌≡◌, ℕ, zero, suc, ◌+◌, ◌-◌, ◌^◌, ◌<◌, ◌≤◌, List, [], ◌∷◌, ◌++◌, length, Option, Some, None, refl, sym, ap, ◌∙◌, subst, inl, inr, arith, length-append}
use Rattle.std.specs.Prelude.{Bool, IsTrue}
use Rattle.std.specs.Option.{option_map}
use Rattle.std.proofs.lemmas.List.{map-append}
use Rattle.std.proofs.lemmas.Bool.Decides.{eqb_tells}
use Rattle.stx_scenario.specs.declared.scenario.Scenario.{Scenario}
use Rattle.stx_scenario.specs.declared.memory.NoMemory.{NoMemory}
use Rattle.stx_base.specs.declared.call.Call.{Call}
use Rattle.stx_base.specs.declared.call.Reply.{Reply}
use Rattle.stx_base.specs.declared.history.Note.{Note}
use Rattle.stx_base.specs.Histories.{pool_notes, pool_notes_of, store_notes, store_notes_of, sum_below}
use Rattle.stx_base.specs.Legal.{PoolLegal, StoreLegal}
use Rattle.stx_base.specs.Limits.{most_clients}
use Rattle.stx_base.specs.Notes.{pool_call_want, store_call_want, call_want}
use Rattle.stx_base.specs.Pools.{pool_proper}
use Rattle.stx_base.specs.Stores.{store_proper, store_facts}
use Rattle.stx_client.specs.View.{ClientView, script_of, has_told, with_note, calling, fed, HasReadAll}
use Rattle.stx_model.specs.Meanings.{stop_of}
use Rattle.stx_model.specs.Playable.{IsPlayable}
use Rattle.stx_model.specs.Played.{most_calls}
use Rattle.stx_model.specs.Reads.{TakesFresh, BeginsFresh, notes_read}
use Rattle.stx_model.proofs.FreshLaw.{own_notes_fresh}
use Rattle.stx_model.proofs.ReadsLaw.{reads_within}
use Rattle.stx_model.proofs.WantedCalls.{proper_pool, proper_store}
use Rattle.stx_runner.specs.Driving.{AreCellsOf, IsFresh}
use Rattle.stx_runner.specs.inner.Slots.{AreOwn, IsGoing, IsNewSlot, IsReady, IsSameClient, IsTied, SlotView, calls_left, count_notes, left_unless}
use Rattle.stx_shared.specs.declared.asking.Cells.{Cells}
use Rattle.stx_shared.specs.declared.asking.SharedBackend.{SharedBackend}
use Rattle.stx_shared.specs.Asking.{Asked, IsProperCall}
use Rattle.stx_shared.specs.Logs.{NotesPoolCall, NotesStoreCall, IsSeatCall, pool_maker, store_maker}
use Rattle.stx_shared.proofs.LogLaws.{notes_by}
use Rattle.stx_turn.specs.Histories.{made_by}
use Rattle.stx_turn.specs.Seats.{SeatView, Added}

-- ---- a client that goes on

one_of : (n : ℕ) (f : ℕ → ℕ) (c : ℕ) → c < n → f c ≤ sum_below n f
one_of zero f c below = absurd (omega (arith, below))
one_of (suc n) f c below = elim (eqb_tells n c) [
  | inl (tells, same) ↦ let here : f n ≡ f c = ap f same in omega (arith, here)
  | inr (tells, differs) ↦ let rest : f c ≤ sum_below n f = one_of n f c (omega (arith, below, differs)) in omega (arith, rest)
]

module _ (client : ClientView) (backend : SharedBackend) (ready : IsReady client backend) where
  takes_fresh : TakesFresh client.pool
  takes_fresh =
      let own = ready.going.pool_own in
      let is : client.pool ≡ pool_notes_of own.history client.number = ready.going.pool ∙ ap pool_notes own.own ∙ notes_by (λ e. e.client) (λ e. e.note) own.history client.number in
      subst TakesFresh (sym is) ((own_notes_fresh most_clients client.number).0 client.scenario.settings.pool own.history own.is_legal)

  begins_fresh : BeginsFresh client.store
  begins_fresh =
      let own = ready.going.store_own in
      let is : client.store ≡ store_notes_of own.history client.number = ready.going.store ∙ ap store_notes own.own ∙ notes_by (λ e. e.client) (λ e. e.note) own.history client.number in
      subst BeginsFresh (sym is) ((own_notes_fresh most_clients client.number).1 (store_facts client.scenario) own.history own.is_legal)

  below : client.number < most_clients
  below = omega (arith, ready.paired.below, ready.paired.playable.order.places.few_clients)

  own_call : (who : ℕ) (is_proper : Bool) → who ≡ suc client.number → IsTrue is_proper → IsSeatCall who is_proper
  own_call who is_proper seat proper = record { client = client.number; who_is = seat; below = below; proper = proper }

  -- what it wants is proper after its seats' own calls
  pub proper_call : (call : Call) → stop_of (script_of client) ≡ Some (call_want call) → IsProperCall backend call
  proper_call (Call.Pool call) is =
      let proper = proper_pool client.scenario ready.paired.playable.order client.number client.pool client.store ready.going.read takes_fresh call is in
      own_call _ _ ready.paired.seats.pool (subst (λ ns. IsTrue (pool_proper ns (pool_call_want call))) ready.going.pool proper)
  proper_call (Call.Store call) is =
      let proper = proper_store client.scenario ready.paired.playable.order client.number client.pool client.store ready.going.read begins_fresh call is in
      own_call _ _ ready.paired.seats.store (subst (λ ns. IsTrue (store_proper ns (store_call_want call))) ready.going.store proper)

  -- it has made no more calls than the weight allows
  pub within : count_notes client ≤ most_calls client.scenario
  within =
      let S = client.scenario in
      let read : ℕ → ℕ = λ c. notes_read S c client.pool client.store in
      let all : sum_below (length S.clients) read ≤ most_calls S =
      reads_within S ready.paired.playable.order.range ready.paired.playable.order.acyclic (λ _. client.pool) (λ _. client.store) in
      let one : read client.number ≤ sum_below (length S.clients) read = one_of (length S.clients) read client.number ready.paired.below in
      omega (arith, all, one, ap length ready.going.read.pool_read, ap length ready.going.read.store_read)

  -- and that count fits
  pub few : count_notes client < 2 ^ 32
  few = omega (arith, within, ready.paired.playable.order.light)

-- ---- what a call leaves

own_after : {E F C A : Type 0} (maker : E → ℕ) (fits : E → C → A → Type 0) (legal : F → List E → Type 0) (before : SeatView E F) (call : C) (answer : A) (after : SeatView E F) (facts : F) (number : ℕ)
    → Added maker fits legal before call answer after → before.cell.facts ≡ Some facts → before.number ≡ number → AreOwn maker legal facts number after.mine
own_after maker fits legal before call answer after facts number added has is =
    let same : added.facts ≡ facts = let both = sym added.has ∙ has in cc in
    record {
      history = after.seen;
      is_legal = subst (λ f. legal f after.seen) same added.is_legal;
      own = added.own ∙ ap (λ n. made_by maker n after.seen) is;
    }

module _ (client : ClientView) (backend : SharedBackend) (ready : IsReady client backend) where
  -- the client that has taken the note in
  abbrev noted : Note → ClientView
  noted note = has_told (with_note client (Some note))

  -- the note of a call that was asked
  note_of : (call : Call) (reply : Reply) (after : SharedBackend) → Asked backend call reply after → (note : Note) × (fed (calling client (call_want call)) reply ≡ noted note)
  note_of (Call.Pool call) (Reply.Pool answer) after (added, same) = (Note.Pool added.entry.note, ap (λ o. has_told (with_note (calling client (pool_call_want call)) (option_map Note.Pool o))) added.fit.note)
  note_of (Call.Store call) (Reply.Store answer) after (added, same) = (Note.Store added.entry.note, ap (λ o. has_told (with_note (calling client (store_call_want call)) (option_map Note.Store o))) added.fit.note)
  note_of (Call.Pool call) (Reply.Store answer) after asked = elim asked [ ]
  note_of (Call.Store call) (Reply.Pool answer) after asked = elim asked [ ]

  going_on : (call : Call) (reply : Reply) (after : SharedBackend) (asked : Asked backend call reply after) → HasReadAll (noted (note_of call reply after asked).0) → IsGoing (noted (note_of call reply after asked).0) after
  unfolding note_of
  going_on (Call.Pool call) (Reply.Pool answer) after (added, same) read = record {
    unfailed = ready.going.unfailed;
    none_out = refl;
    pool = ap (λ ns. ns ++ added.entry.note ∷ []) ready.going.pool ∙ sym (ap pool_notes added.gained ∙ map-append (λ e. e.note) backend.pool.mine (added.entry ∷ []));
    store = ready.going.store ∙ ap (λ seat. store_notes seat.mine) (sym same);
    read = read;
    pool_own = own_after pool_maker NotesPoolCall (PoolLegal most_clients) backend.pool call answer after.pool client.scenario.settings.pool (suc client.number) added ready.paired.pool ready.paired.seats.pool;
    store_own = subst (λ seat. AreOwn store_maker (StoreLegal most_clients) (store_facts client.scenario) (suc client.number) seat.mine) (sym same) ready.going.store_own;
  }
  going_on (Call.Store call) (Reply.Store answer) after (added, same) read = record {
    unfailed = ready.going.unfailed;
    none_out = refl;
    pool = ready.going.pool ∙ ap (λ seat. pool_notes seat.mine) (sym same);
    store = ap (λ ns. ns ++ added.entry.note ∷ []) ready.going.store ∙ sym (ap store_notes added.gained ∙ map-append (λ e. e.note) backend.store.mine (added.entry ∷ []));
    read = read;
    pool_own = subst (λ seat. AreOwn pool_maker (PoolLegal most_clients) client.scenario.settings.pool (suc client.number) seat.mine) (sym same) ready.going.pool_own;
    store_own = own_after store_maker NotesStoreCall (StoreLegal most_clients) backend.store call answer after.store (store_facts client.scenario) (suc client.number) added ready.paired.store ready.paired.seats.store;
  }
  going_on (Call.Pool call) (Reply.Store answer) after asked read = elim asked [ ]
  going_on (Call.Store call) (Reply.Pool answer) after asked read = elim asked [ ]

  one_noted : (note : Note) → count_notes (noted note) ≡ count_notes client + 1
  one_noted (Note.Pool n) = rw length-append (omega arith)
  one_noted (Note.Store n) = rw length-append (omega arith)

  -- a client that was fed the reply goes on
  pub going_after : (call : Call) (reply : Reply) (after : SharedBackend) (new : ClientView) → Asked backend call reply after → new ≡ fed (calling client (call_want call)) reply → HasReadAll new → IsGoing new after
  going_after call reply after new asked is_fed read =
      let is = is_fed ∙ (note_of call reply after asked).1 in
      subst (λ v. IsGoing v after) (sym is) (going_on call reply after asked (subst HasReadAll is read))

  pub one_more_after : (call : Call) (reply : Reply) (after : SharedBackend) (new : ClientView) → Asked backend call reply after → new ≡ fed (calling client (call_want call)) reply → count_notes new ≡ count_notes client + 1
  one_more_after call reply after new asked is_fed =
      let (note, made) = note_of call reply after asked in
      ap count_notes (is_fed ∙ made) ∙ one_noted note

-- ---- slots

abbrev pub slot_of : ClientView → SharedBackend → ℕ → Option NoMemory → SlotView
slot_of client backend calls refused = record { client = client; backend = backend; calls = calls; refused = refused }

module _ (client : ClientView) (backend : SharedBackend) (calls : ℕ) (refused : Option NoMemory) (tied : IsTied client backend calls refused) (going : refused ≡ None) where
  ready_of : IsReady client backend
  ready_of = record { paired = tied.paired; going = tied.going going }

  calls_within : calls ≤ most_calls client.scenario
  calls_within = let counted = tied.counted going in let bound = within client backend ready_of in omega (arith, counted, bound)

  pub calls_few : calls < 2 ^ 32
  calls_few = let counted = tied.counted going in let bound = few client backend ready_of in omega (arith, counted, bound)

  left_is : calls_left (slot_of client backend calls refused) ≡ suc (most_calls client.scenario) - calls
  left_is = ap (λ r. left_unless r (suc (most_calls client.scenario) - calls)) going

  -- a call more leaves one less
  pub left_falls : (new : ClientView) (after : SharedBackend) → IsSameClient client new → calls_left (slot_of new after (calls + 1) refused) < calls_left (slot_of client backend calls refused)
  left_falls new after same =
      let now : calls_left (slot_of new after (calls + 1) refused) ≡ suc (most_calls client.scenario) - (calls + 1) =
      ap (λ r. left_unless r (suc (most_calls new.scenario) - (calls + 1))) going ∙ ap (λ S. suc (most_calls S) - (calls + 1)) same.scenario in
      let before = left_is in
      let bound = calls_within in
      subst (λ n. n < calls_left (slot_of client backend calls refused)) (sym now) (subst (λ n. suc (most_calls client.scenario) - (calls + 1) < n) (sym before) (less (most_calls client.scenario) calls bound))
    where
      less : (most n : ℕ) → n ≤ most → suc most - (n + 1) < suc most - n
      less most n bound = omega (arith, bound)

  pub some_left : 0 < calls_left (slot_of client backend calls refused)
  some_left =
      let before = left_is in
      let bound = calls_within in
      subst (λ n. 0 < n) (sym before) (more (most_calls client.scenario) calls bound)
    where
      more : (most n : ℕ) → n ≤ most → 0 < suc most - n
      more most n bound = omega (arith, bound)

pub new_slot : (S : Scenario) (cells : Cells) (c : ℕ) (backend : SharedBackend) → IsPlayable S → AreCellsOf S cells → IsFresh cells c backend → c < length S.clients → IsNewSlot S backend
new_slot S cells c backend playable are fresh below =
    let number = fresh.seats.number in
    record {
      playable = playable;
      below = subst (λ k. k < length S.clients) (sym number) below;
      seats = record { number = refl; pool = fresh.seats.pool ∙ ap suc (sym number); store = fresh.seats.store ∙ ap suc (sym number) };
      pool = ap (λ cell. cell.facts) fresh.at.pool ∙ are.pool;
      store = ap (λ cell. cell.facts) fresh.at.store ∙ are.store;
      pool_mine = fresh.pool;
      store_mine = fresh.store;
    }
