-- What the seats know once all are taken in, and that the run of all clients is then faithful.
use Rattle.std.proofs.Common.{All, Any, ◌≡◌, ℕ, suc, ◌+◌, ◌-◌, ◌<◌, ◌≤◌, ◌==◌, Bool, true, false, cond, List, [], ◌∷◌, ◌++◌, map, length, get_or, Some, refl, sym, ap, ◌∙◌, subst, inl, inr, arith, eq-eqb}
use Rattle.std.specs.Prelude.{slice_get}
use Rattle.std.specs.List.{range_with_len}
use Rattle.std.proofs.lemmas.List.FromFn.{length-map-range_with_len, get_or-map-range_with_len}
use Rattle.std.specs.Option.{option_map}
use Rattle.std.proofs.lemmas.Bool.{cases_lt}
use Rattle.std.proofs.lemmas.List.{length-map, same_lists}
use Rattle.std.proofs.lemmas.List.Elements.{All-nil, All-cons}
use Rattle.std.proofs.lemmas.Option.{slice_get_cases, slice_get-get_or, slice_get-map, slice_get_within, get_or_from_slice_get}
use Rattle.stx_scenario.specs.declared.scenario.Scenario.{Scenario}
use Rattle.stx_base.specs.declared.call.Want.{Want}
use Rattle.stx_base.specs.declared.line.Line.{Line}
use Rattle.stx_base.specs.declared.outcome.Outcome.{Outcome}
use Rattle.stx_base.specs.Histories.{pool_notes, pool_notes_of, store_notes, store_notes_of}
use Rattle.stx_base.specs.Legal.{PoolLegal, StoreLegal}
use Rattle.stx_base.specs.Limits.{most_clients}
use Rattle.stx_base.specs.Stores.{store_facts}
use Rattle.stx_base.proofs.HistoryLaws.{made}
use Rattle.stx_base.proofs.LegalLaws.{PoolLegal-among, StoreLegal-among}
use Rattle.stx_model.specs.Faithful.{Faithful}
use Rattle.stx_model.specs.Meanings.{state_of, stop_of}
use Rattle.stx_model.specs.Played.{Turns, script_so_far, want_so_far, lines_so_far}
use Rattle.stx_model.specs.Reads.{ReadsAll}
use Rattle.stx_model.specs.Script.{script}
use Rattle.stx_model.proofs.PlayedLaw.{faithful_if_done}
use Rattle.stx_pool.specs.Pool.{Pool}
use Rattle.stx_runner.specs.declared.running.FirstSeats.{FirstSeats}
use Rattle.stx_runner.specs.Driving.{AreCellsOf, HasSeatsOf, IsDriven, IsPlayed, script_by}
use Rattle.stx_runner.specs.inner.Seats.{HaveJoined, HaveSplit, IsJoinable, ended_of, pool_ended, store_ended}
use Rattle.stx_shared.specs.declared.asking.Cells.{Cells}
use Rattle.stx_shared.specs.declared.asking.SharedBackend.{SharedBackend}
use Rattle.stx_shared.specs.Logs.{pool_maker, store_maker}
use Rattle.stx_shared.proofs.LogLaws.{notes_by}
use Rattle.stx_store.specs.Store.{Store}
use Rattle.stx_turn.specs.Histories.{made_by}
use Rattle.stx_turn.specs.declared.view.Ended.{Ended}
use Rattle.stx_turn.specs.Seats.{SeatView, AllJoined, IsWhole, Knew}

-- ---- of the pool and of the store alike

module _ {E F N : Type 0} (client : E → ℕ) (note : E → N) (seat : SharedBackend → SeatView E F) where
  abbrev maker : E → ℕ
  maker e = suc (client e)

  abbrev ended : List SharedBackend → List (Ended E)
  ended backends = map (λ b. ended_of (seat b)) backends

  ended_at : (backends : List SharedBackend) (c : ℕ) (b : SharedBackend) (d : Ended E) → slice_get backends c ≡ Some b → get_or (ended backends) c d ≡ ended_of (seat b)
  ended_at backends c b d at =
      get_or_from_slice_get (ended backends) c (ended_of (seat b)) d (slice_get-map (λ b. ended_of (seat b)) backends c ∙ ap (option_map (λ b. ended_of (seat b))) at)

  ended_inside : (backends : List SharedBackend) (c : ℕ) (b : SharedBackend) → slice_get backends c ≡ Some b → c < length (ended backends)
  ended_inside backends c b at = subst (λ n. c < n) (sym (length-map backends (λ b. ended_of (seat b)))) (slice_get_within backends c b at)

  -- the own calls of the seat of client c are all entries of client c
  pub own_notes : (H : List E) (backends : List SharedBackend) → All (Knew maker H) (ended backends) → (c : ℕ) (b : SharedBackend) → slice_get backends c ≡ Some b → (seat b).number ≡ suc c
      → map note (seat b).mine ≡ made client note H c
  own_notes H backends knew c b at number =
      let here = subst (Knew maker H) (ended_at backends c b (ended_of (seat b)) at) (knew c (ended_of (seat b)) (ended_inside backends c b at)) in
      ap (map note) (here.own ∙ ap (λ n. made_by maker n H) number) ∙ notes_by client note H c

  -- every seat that was split off was taken in
  pub all_joined : (n : ℕ) (backends : List SharedBackend) → length backends ≡ n → ((c : ℕ) (b : SharedBackend) → slice_get backends c ≡ Some b → (seat b).number ≡ suc c)
      → (m : ℕ) → 0 < m → m ≤ n → Any (λ e. e.number ≡ m) (ended backends)
  all_joined n backends count each m some few = elim (slice_get_cases backends (m - 1)).1 [
    | inl (b, inside, at, _) ↦
        let here : suc (m - 1) ≡ m = omega (arith, some) in
        (m - 1, ended_of (seat b), ended_inside backends (m - 1) b at, ended_at backends (m - 1) b (ended_of (seat b)) at, each (m - 1) b at ∙ here)
    | inr (past, _) ↦ absurd (omega (arith, past, count, some, few))
  ]

  -- no entry is of a client that has no seat
  pub clients_below : (n : ℕ) (H : List E) → ((m : ℕ) → n < m → made_by maker m H ≡ []) → All (λ e. client e < n) H
  clients_below n [] none = All-nil (λ e. client e < n)
  clients_below n (e ∷ H) none =
      All-cons (λ e. client e < n) e H
      (elim (cases_lt (client e) n) [
        | inl below ↦ below
        | inr past ↦ absurd (kept (maker e == maker e) e (made_by maker (maker e) H) (eq-eqb (maker e) (maker e) refl) (none (maker e) (omega (arith, past))))
      ])
      (clients_below n H (λ m past. rest (maker e == m) e (made_by maker m H) (none m past)))
    where
      rest : (b : Bool) (x : E) (xs : List E) → cond b (x ∷ xs) xs ≡ [] → xs ≡ []
      rest true x xs is = cc
      rest false x xs is = is

      kept : (b : Bool) (x : E) (xs : List E) → b ≡ true → cond b (x ∷ xs) xs ≡ [] → ⊥
      kept b x xs same is = let here : x ∷ xs ≡ [] = subst (λ t. cond t (x ∷ xs) xs ≡ []) same is in cc

-- ---- the whole run

-- the first seats have taken in the seats of all clients
pub record HaveAll (S : Scenario) (backends : List SharedBackend) (first : FirstSeats) : Type 0 where
  pub pool_facts : first.pool.cell.facts ≡ Some S.settings.pool
  pub pool_made : first.pool.made ≡ length S.clients
  pub pool_all : first.pool.ended ≡ pool_ended backends
  pub store_facts_are : first.store.cell.facts ≡ Some (store_facts S)
  pub store_made : first.store.made ≡ length S.clients
  pub store_all : first.store.ended ≡ store_ended backends

pub have_all : (S : Scenario) (cells : Cells) (first after : FirstSeats) (backends : List SharedBackend) → AreCellsOf S cells → HaveSplit cells (length S.clients) first → HaveJoined first backends after → HaveAll S backends after
have_all S cells first after backends are split joined = record {
  pool_facts = ap (λ cell. cell.facts) (joined.pool.cell ∙ ap (λ seat. seat.cell) split.pool) ∙ are.pool;
  pool_made = joined.pool.made ∙ ap (λ seat. seat.made) split.pool;
  pool_all = joined.pool.all ∙ ap (λ seat. seat.ended ++ pool_ended backends) split.pool;
  store_facts_are = ap (λ cell. cell.facts) (joined.store.cell ∙ ap (λ seat. seat.cell) split.store) ∙ are.store;
  store_made = joined.store.made ∙ ap (λ seat. seat.made) split.store;
  store_all = joined.store.all ∙ ap (λ seat. seat.ended ++ store_ended backends) split.store;
}

module _ (S : Scenario) (cells : Cells) (lines : List (List Line)) (backends : List SharedBackend) (driven : IsDriven S cells lines backends) where
  -- client c has its lines and its backend
  record Place (c : ℕ) : Type 0 where
    said : List Line
    backend : SharedBackend
    said_at : slice_get lines c ≡ Some said
    backend_at : slice_get backends c ≡ Some backend
    played : IsPlayed S c said backend

  place : (c : ℕ) → c < length S.clients → Place c
  place c below = elim (slice_get_cases lines c).1 [
    | inl (said, _, said_at, _) ↦ elim (slice_get_cases backends c).1 [
      | inl (backend, _, backend_at, _) ↦ record { said = said; backend = backend; said_at = said_at; backend_at = backend_at; played = driven.each c said backend said_at backend_at }
      | inr (past, _) ↦ absurd (omega (arith, past, below, driven.count))
    ]
    | inr (past, _) ↦ absurd (omega (arith, past, below, driven.traces))
  ]

  seats_of : (c : ℕ) (b : SharedBackend) → slice_get backends c ≡ Some b → HasSeatsOf c b
  seats_of c b at = elim (slice_get_cases lines c).1 [
    | inl (said, _, said_at, _) ↦ (driven.each c said b said_at at).seats
    | inr (past, _) ↦ absurd (let inside = slice_get_within backends c b at in omega (arith, past, inside, driven.count, driven.traces))
  ]

  pub joinable : All (IsJoinable cells) backends
  joinable c d inside =
      let b = get_or backends c d in
      let there : slice_get backends c ≡ Some b = slice_get-get_or backends c d inside in
      let seats = seats_of c b there in
      record {
        at = driven.at c b there;
        pool = λ none. absurd (let is = seats.pool in omega (arith, none, is));
        store = λ none. absurd (let is = seats.store in omega (arith, none, is));
      }

  module _ (first : FirstSeats) (all : HaveAll S backends first) where
    pub all_of_pool : AllJoined first.pool
    all_of_pool m some few =
        subst (Any (λ e. e.number ≡ m)) (sym all.pool_all)
        (all_joined (λ e. e.client) (λ e. e.note) (λ b. b.pool) (length S.clients) backends driven.count (λ c b at. (seats_of c b at).pool) m some (subst (λ n. m ≤ n) all.pool_made few))

    pub all_of_store : AllJoined first.store
    all_of_store m some few =
        subst (Any (λ e. e.number ≡ m)) (sym all.store_all)
        (all_joined (λ e. e.client) (λ e. e.note) (λ b. b.store) (length S.clients) backends driven.count (λ c b at. (seats_of c b at).store) m some (subst (λ n. m ≤ n) all.store_made few))

    module _ (pool : Pool) (store : Store) (pool_whole : IsWhole (λ p. p.size) (λ p. p.entries) pool_maker (PoolLegal most_clients) first.pool pool)
        (store_whole : IsWhole (λ s. s.facts) (λ s. s.entries) store_maker (StoreLegal most_clients) first.store store) where
      abbrev so_far : Turns
      so_far = record { pool = pool.entries; store = store.entries }

      abbrev n : ℕ
      n = length S.clients

      pool_legal : PoolLegal n S.settings.pool pool.entries
      pool_legal =
          let same : S.settings.pool ≡ pool.size = let is = sym all.pool_facts ∙ pool_whole.same in cc in
          let below = clients_below (λ e. e.client) (λ e. e.note) (λ b. b.pool) n pool.entries (λ m past. pool_whole.no_other m (inr (subst (λ k. k < m) (sym all.pool_made) past))) in
          PoolLegal-among most_clients n S.settings.pool pool.entries (subst (λ k. PoolLegal most_clients k pool.entries) (sym same) pool_whole.is_legal) below

      store_legal : StoreLegal n (store_facts S) store.entries
      store_legal =
          let same : store_facts S ≡ store.facts = let is = sym all.store_facts_are ∙ store_whole.same in cc in
          let below = clients_below (λ e. e.client) (λ e. e.note) (λ b. b.store) n store.entries (λ m past. store_whole.no_other m (inr (subst (λ k. k < m) (sym all.store_made) past))) in
          StoreLegal-among most_clients n (store_facts S) store.entries (subst (λ k. StoreLegal most_clients k store.entries) (sym same) store_whole.is_legal) below

      module _ (c : ℕ) (here : Place c) where
        pool_is : pool_notes here.backend.pool.mine ≡ pool_notes_of pool.entries c
        pool_is =
            own_notes (λ e. e.client) (λ e. e.note) (λ b. b.pool) pool.entries backends (subst (All (Knew pool_maker pool.entries)) all.pool_all pool_whole.own)
            c here.backend here.backend_at here.played.seats.pool

        store_is : store_notes here.backend.store.mine ≡ store_notes_of store.entries c
        store_is =
            own_notes (λ e. e.client) (λ e. e.note) (λ b. b.store) store.entries backends (subst (All (Knew store_maker store.entries)) all.store_all store_whole.own)
            c here.backend here.backend_at here.played.seats.store

        reads : ReadsAll S c (pool_notes_of pool.entries c) (store_notes_of store.entries c)
        reads = subst (λ ns. ReadsAll S c ns (store_notes_of store.entries c)) pool_is (subst (ReadsAll S c (pool_notes here.backend.pool.mine)) store_is here.played.read)

        script_is : script_by S c here.backend ≡ script_so_far S so_far c
        script_is = λ i. script S c (pool_is i) (store_is i)

        done : want_so_far S so_far c ≡ Some Want.Done
        done = ap stop_of (sym script_is) ∙ here.played.done

        said_is : here.said ≡ lines_so_far S so_far c
        said_is = here.played.lines ∙ ap (λ r. (state_of r).lines) script_is

      lines_are : lines ≡ map (lines_so_far S so_far) (range_with_len 0 n)
      lines_are = same_lists lines (map (lines_so_far S so_far) (range_with_len 0 n)) (driven.traces ∙ sym (length-map-range_with_len (lines_so_far S so_far) 0 n)) each
        where
          each : (c : ℕ) (d : List Line) → c < length lines → get_or lines c d ≡ get_or (map (lines_so_far S so_far) (range_with_len 0 n)) c d
          each c d inside =
              let below : c < n = subst (λ k. c < k) driven.traces inside in
              let from : 0 + c ≡ c = omega arith in
              let here = place c below in
              get_or_from_slice_get lines c here.said d here.said_at ∙ said_is c here ∙ sym (get_or-map-range_with_len (lines_so_far S so_far) 0 n c c d below from)

      pub is_faithful : (outcome : Outcome) → outcome.lines ≡ lines → outcome.pool ≡ pool.entries → outcome.store ≡ store.entries → Faithful S outcome
      is_faithful outcome said taken kept =
          subst (Faithful S) (λ i. record { lines = (sym lines_are ∙ sym said) i; pool = sym taken i; store = sym kept i })
          (faithful_if_done S so_far pool_legal store_legal (λ c below. reads c (place c below)) (λ c below. done c (place c below)))
