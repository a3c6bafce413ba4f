-- The slots as they are filled, and the lines and backends as the slots end.
use Rattle.std.proofs.Common.{◌≡◌, ℕ, suc, ◌+◌, List, [], ◌∷◌, ◌++◌, length, sym, ap, ◌∙◌, subst, inl, inr, arith, add-one, append_assoc, length-append}
use Rattle.std.proofs.lemmas.List.{map-append}
use Rattle.std.proofs.lemmas.Option.{slice_get_cases, slice_get_within}
use Rattle.stx_scenario.specs.declared.scenario.Scenario.{Scenario}
use Rattle.stx_base.specs.declared.line.Line.{Line}
use Rattle.stx_runner.specs.declared.running.FirstSeats.{FirstSeats}
use Rattle.stx_runner.specs.Driving.{AreFresh, IsDriven, IsFresh, IsPlayed}
use Rattle.stx_runner.specs.inner.Lists.{BothFrom, EachFrom}
use Rattle.stx_runner.specs.inner.Seats.{HasJoined, HaveJoined, HaveSplit, ended_of, pool_ended, store_ended}
use Rattle.stx_runner.specs.inner.Slots.{AreSlots, IsPlayedAt, IsSlot, IsSlotAt, Keeps, SlotView}
use Rattle.stx_runner.proofs.ListLaws.{both_length, both_place, both_push, each_from_index, each_from_place, each_index, each_push}
use Rattle.stx_shared.specs.declared.asking.Cells.{Cells}
use Rattle.stx_shared.specs.declared.asking.SharedBackend.{SharedBackend}
use Rattle.stx_shared.specs.Asking.{IsAt}
use Rattle.stx_turn.specs.declared.view.Ended.{Ended}
use Rattle.stx_turn.specs.Seats.{SeatView, after_join, new_seat}

longer : {X : Type 0} (xs : List X) (x : X) → length (xs ++ x ∷ []) ≡ suc (length xs)
longer xs x = length-append xs (x ∷ []) ∙ add-one (length xs)

module _ (S : Scenario) (cells : Cells) where
  abbrev n : ℕ
  n = length S.clients

  -- ---- filling

  -- the slots so far, and the backends still to come
  abbrev pub Filling : List SlotView → List SharedBackend → Type 0
  Filling slots rest = EachFrom (IsSlotAt S cells) 0 slots × EachFrom (IsFresh cells) (length slots) rest × (length slots + length rest ≡ n)

  pub filling_starts : (slots : List SlotView) (rest backends : List SharedBackend) → slots ≡ [] → rest ≡ backends → AreFresh S cells backends → Filling slots rest
  filling_starts slots rest backends none all fresh =
      let here : 0 + length backends ≡ length backends = omega arith in
      subst (λ s. Filling s rest) (sym none) (subst (Filling []) (sym all) (tt, each_from_place (IsFresh cells) backends fresh.each, here ∙ fresh.count))

  pub filling_more : (slots : List SlotView) (rest : List SharedBackend) (backend : SharedBackend) (later : List SharedBackend) (slot : SlotView) (new : List SlotView)
      → Filling slots rest → rest ≡ backend ∷ later → IsSlot S backend.number slot → slot.backend ≡ backend → new ≡ slots ++ slot ∷ [] → Filling new later
  filling_more slots rest backend later slot new (filled, waiting, sum) is slot_of same grown =
      let (fresh, others) = subst (EachFrom (IsFresh cells) (length slots)) is waiting in
      let here : IsSlotAt S cells (length slots) slot = record {
        slot_of = record { scenario = slot_of.scenario; number = slot_of.number ∙ fresh.seats.number };
        at = subst (λ b. IsAt b cells) (sym same) fresh.at;
      } in
      let left : length rest ≡ suc (length later) = ap length is in
      let more : length (slots ++ slot ∷ []) ≡ suc (length slots) = longer slots slot in
      subst (λ s. Filling s later) (sym grown) (
        each_push (IsSlotAt S cells) slots slot filled here,
        subst (λ k. EachFrom (IsFresh cells) k later) (sym more) others,
        omega (arith, sum, left, more),
      )

  pub filled_all : (slots : List SlotView) (rest : List SharedBackend) → Filling slots rest → length rest ≡ 0 → AreSlots S cells slots
  filled_all slots rest (filled, waiting, sum) over =
      record { count = omega (arith, sum, over); each = each_index (IsSlotAt S cells) slots filled }

  -- ---- ending

  -- the lines and the backends of those that have ended, and the slots still to come
  abbrev pub Ending : List (List Line) → List SharedBackend → List SlotView → Type 0
  Ending lines backends rest = BothFrom (IsPlayedAt S cells) 0 lines backends × EachFrom (IsSlotAt S cells) (length lines) rest × (length lines + length rest ≡ n)

  pub ending_starts : (lines : List (List Line)) (backends : List SharedBackend) (rest slots : List SlotView) → lines ≡ [] → backends ≡ [] → rest ≡ slots → AreSlots S cells slots → Ending lines backends rest
  ending_starts lines backends rest slots silent none all are =
      let here : 0 + length slots ≡ length slots = omega arith in
      subst (λ ls. Ending ls backends rest) (sym silent)
      (subst (λ bs. Ending [] bs rest) (sym none) (subst (Ending [] []) (sym all) (tt, each_from_index (IsSlotAt S cells) slots are.each, here ∙ are.count)))

  pub ending_more : (lines : List (List Line)) (backends : List SharedBackend) (rest : List SlotView) (slot : SlotView) (later : List SlotView) (finished : SlotView) (said : List Line) (backend : SharedBackend)
      (new_lines : List (List Line)) (new_backends : List SharedBackend) → Ending lines backends rest → rest ≡ slot ∷ later → Keeps slot finished
      → IsPlayed finished.client.scenario finished.client.number said backend → backend ≡ finished.backend → new_lines ≡ lines ++ said ∷ [] → new_backends ≡ backends ++ backend ∷ []
      → Ending new_lines new_backends later
  ending_more lines backends rest slot later finished said backend new_lines new_backends (ended, waiting, sum) is keeps played same more_lines more_backends =
      let (here, others) = subst (EachFrom (IsSlotAt S cells) (length lines)) is waiting in
      let scenario = keeps.client.scenario ∙ here.slot_of.scenario in
      let number = keeps.client.number ∙ here.slot_of.number in
      let kept : IsAt finished.backend cells = record { pool = keeps.pool ∙ here.at.pool; store = keeps.store ∙ here.at.store } in
      let at : IsPlayedAt S cells (length lines) said backend = record {
        played = subst (λ c. IsPlayed S c said backend) number (subst (λ s. IsPlayed s finished.client.number said backend) scenario played);
        at = subst (λ b. IsAt b cells) (sym same) kept;
      } in
      let left : length rest ≡ suc (length later) = ap length is in
      let more : length (lines ++ said ∷ []) ≡ suc (length lines) = longer lines said in
      subst (λ ls. Ending ls new_backends later) (sym more_lines) (subst (λ bs. Ending (lines ++ said ∷ []) bs later) (sym more_backends) (
        both_push (IsPlayedAt S cells) lines backends said backend ended at,
        subst (λ k. EachFrom (IsSlotAt S cells) k later) (sym more) others,
        omega (arith, sum, left, more),
      ))

  pub ended_all : (lines : List (List Line)) (backends : List SharedBackend) (rest : List SlotView) → Ending lines backends rest → length rest ≡ 0 → IsDriven S cells lines backends
  ended_all lines backends rest (ended, waiting, sum) over =
      let same : length lines ≡ length backends = both_length (IsPlayedAt S cells) lines backends ended in
      record {
        traces = omega (arith, sum, over);
        count = omega (arith, sum, over, same);
        at = λ c backend there. elim (slice_get_cases lines c).1 [
          | inl (said, _, said_at, _) ↦ (both_place (IsPlayedAt S cells) lines backends ended c said backend said_at there).at
          | inr (past, _) ↦ absurd (let inside = slice_get_within backends c backend there in omega (arith, past, inside, same))
        ];
        each = λ c said backend said_at there. (both_place (IsPlayedAt S cells) lines backends ended c said backend said_at there).played;
      }

-- ---- splitting

pub fresh_seats : (cells : Cells) (c : ℕ) (first : FirstSeats) (backend : SharedBackend) → HaveSplit cells c first
    → backend.number ≡ c → backend.pool ≡ new_seat first.pool (c + 1) → backend.store ≡ new_seat first.store (c + 1) → IsFresh cells c backend
fresh_seats cells c first backend split number pool store =
    let pool_is = pool ∙ ap (λ seat. new_seat seat (c + 1)) split.pool in
    let store_is = store ∙ ap (λ seat. new_seat seat (c + 1)) split.store in
    record {
      at = record { pool = ap (λ seat. seat.cell) pool_is; store = ap (λ seat. seat.cell) store_is };
      seats = record { number = number; pool = ap (λ seat. seat.number) pool_is ∙ add-one c; store = ap (λ seat. seat.number) store_is ∙ add-one c };
      pool = ap (λ seat. seat.mine) pool_is;
      store = ap (λ seat. seat.mine) store_is;
    }

-- ---- joining

has_joined : {E F : Type 0} (before middle after seat : SeatView E F) (ended : List (Ended E)) → HasJoined before ended middle → after ≡ after_join middle seat → HasJoined before (ended ++ ended_of seat ∷ []) after
has_joined before middle after seat ended so_far is = record {
  cell = ap (λ s. s.cell) is ∙ so_far.cell;
  number = ap (λ s. s.number) is ∙ so_far.number;
  made = ap (λ s. s.made) is ∙ so_far.made;
  all = ap (λ s. s.ended) is ∙ ap (λ es. es ++ ended_of seat ∷ []) so_far.all ∙ append_assoc before.ended ended (ended_of seat ∷ []);
}

pub joined_more : (before middle after : FirstSeats) (backends : List SharedBackend) (backend : SharedBackend) → HaveJoined before backends middle
    → after.pool ≡ after_join middle.pool backend.pool → after.store ≡ after_join middle.store backend.store → HaveJoined before (backends ++ backend ∷ []) after
joined_more before middle after backends backend so_far pool store = record {
  pool = subst (λ es. HasJoined before.pool es after.pool) (sym (map-append (λ b. ended_of b.pool) backends (backend ∷ []))) (has_joined before.pool middle.pool after.pool backend.pool (pool_ended backends) so_far.pool pool);
  store = subst (λ es. HasJoined before.store es after.store) (sym (map-append (λ b. ended_of b.store) backends (backend ∷ []))) (has_joined before.store middle.store after.store backend.store (store_ended backends) so_far.store store);
}
