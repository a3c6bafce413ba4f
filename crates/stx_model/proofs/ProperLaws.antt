-- What a script asks for is proper after what it has read, and a script that is done has given all back: read off the ledger.
use Rattle.std.proofs.Common.{◌≡◌, ℕ, zero, suc, ◌+◌, ◌-◌, ◌*◌, ◌^◌, ◌≤◌, ◌==◌, ◌∷◌, ◌++◌, [], Bool, true, false, not, ◌&&◌, List, length, refl, sym, ap, ◌∙◌, subst, arith, append-nil, eq-eqb}
use Rattle.std.specs.Prelude.{slice_get, unwrap_or}
use Rattle.std.specs.List.{sum_by}
use Rattle.std.proofs.lemmas.Bool.{false≢true, or_left, lt-ltb}
use Rattle.std.proofs.lemmas.List.Sums.{sum_by-cons, sum-map}
use Rattle.stx_scenario.specs.declared.numbers.MethodNo.{MethodNo}
use Rattle.stx_scenario.specs.declared.scenario.Scenario.{Scenario}
use Rattle.stx_base.specs.declared.call.Want.{Want}
use Rattle.stx_base.specs.declared.history.PoolNote.{PoolNote}
use Rattle.stx_base.specs.declared.history.StoreNote.{StoreNote}
use Rattle.stx_base.specs.Histories.{has_room}
use Rattle.stx_base.specs.Pools.{contains, out, pool_proper}
use Rattle.stx_base.specs.Stores.{begun, live, is_live, savepoints, can_go_back, is_pointed, store_proper}
use Rattle.stx_base.specs.Valid.{IsInOrder}
use Rattle.stx_base.specs.Weight.{cost, client_weight, weight}
use Rattle.stx_model.specs.Laws.{WantsProper, GivesAllBack}
use Rattle.stx_model.specs.Meanings.{state_of}
use Rattle.stx_model.specs.Reads.{TakesFresh, BeginsFresh, IsProperAfter, count_unread, notes_read}
use Rattle.stx_model.specs.Script.{calls_of}
use Rattle.stx_model.proofs.BracketLaws.{any_label, world, stops_so}
use Rattle.stx_model.proofs.Ledgers.{Ledger}
use Rattle.stx_model.proofs.Moves.{World, Allows}
use Rattle.stx_model.proofs.ReadsLaw.{client_reads}

-- ---- what a script reads is little

item_within : {X : Type 0} (weight : X → ℕ) (default : X) (xs : List X) (i : ℕ) → weight default ≡ 0 → weight (unwrap_or (slice_get xs i) default) ≤ sum_by weight xs
item_within weight default [] i none = omega arith
item_within weight default (x ∷ xs) zero none = omega (arith, sum_by-cons weight x xs)
item_within weight default (x ∷ xs) (suc i) none = omega (arith, sum_by-cons weight x xs, item_within weight default xs i none)

-- the script of one client reads at most eight notes for each unit of the whole weight
pub reads_few : (S : Scenario) → IsInOrder S → (c : ℕ) (pool : List PoolNote) (store : List StoreNote) → notes_read S c pool store ≤ 8 * weight S
reads_few S valid c pool store =
    let of : List MethodNo → ℕ = client_weight (cost S) in
    let reads : notes_read S c pool store ≤ 8 * of (calls_of S c) = client_reads S valid.range valid.acyclic c pool store in
    let own : of (calls_of S c) ≤ sum_by of S.clients = item_within of [] S.clients c refl in
    let all : weight S ≡ sum_by of S.clients = sum-map of S.clients in
    omega arith

begun_within : (notes : List StoreNote) → length (begun notes) ≤ length notes
begun_within [] = omega arith
begun_within (StoreNote.Begin t ∷ notes) = let rest = begun_within notes in omega arith
begun_within (n ∷ notes) = let rest = begun_within notes in omega arith

room : {N : Type 0} (notes : List N) → length notes ≤ 1600000 → has_room notes ≡ true
room notes few = lt-ltb (length notes) (2 ^ 32) (omega arith)

both : (a b : Bool) → a ≡ true → b ≡ true → (a && b) ≡ true
both a b h i = ap (λ x. x && b) h ∙ i

-- ---- proper calls

-- where nothing is left, all was read
all_read : {N : Type 0} (all read left : List N) → all ≡ read ++ left → left ≡ [] → read ≡ all
all_read all read left is none = sym (is ∙ ap (λ ns. read ++ ns) none ∙ append-nil read)

module _ (W : World) (valid : IsInOrder W.scenario) (L : Ledger) (out_is : TakesFresh W.pool → out W.pool ≡ L.connections)
    (lives : BeginsFresh W.store → (u : ℕ) → is_live W.store u ≡ contains L.transactions u) (points_are : (u : ℕ) → savepoints W.store u ≡ L.points u)
    (few_pool : length W.pool ≤ 1600000) (few_store : length W.store ≤ 1600000) where
  in_store : (b : Bool) → b ≡ true → (has_room W.store && b) ≡ true
  in_store b is = both (has_room W.store) b (room W.store few_store) is

  lives_here : (fresh : BeginsFresh W.store) (t : ℕ) → contains L.transactions t ≡ true → is_live W.store t ≡ true
  lives_here fresh t is = lives fresh t ∙ is

  may_end : (fresh : BeginsFresh W.store) (t : ℕ) → (contains L.transactions t ≡ true) × (L.points t ≡ []) → (is_live W.store t && not (is_pointed (savepoints W.store t))) ≡ true
  may_end fresh t may = both (is_live W.store t) _ (lives_here fresh t may.0) (ap (λ ps. not (is_pointed ps)) (points_are t ∙ may.1))

  proper_after : (want : Want) → Allows W L want → IsProperAfter W.pool W.store want
  unfolding pool_proper store_proper
  proper_after Want.Take may = λ fresh. room W.pool few_pool
  proper_after (Want.Give c) may = λ fresh. both (has_room W.pool) (contains (out W.pool) c) (room W.pool few_pool) (ap (λ ns. contains ns c) (out_is fresh) ∙ may)
  proper_after Want.Begin may = λ fresh. in_store _ (lt-ltb (length (begun W.store)) (2 ^ 26 - 1) (omega (arith, begun_within W.store)))
  proper_after (Want.Access t a) may = λ fresh. in_store _ (lives_here fresh t (may (valid, fresh)))
  proper_after (Want.Point t) may = λ fresh. in_store _ (lives_here fresh t (may (valid, fresh)))
  proper_after (Want.BackTo t) may = λ fresh.
      let h = may (valid, fresh) in in_store _ (both (is_live W.store t) _ (lives_here fresh t h.0) (ap can_go_back (points_are t) ∙ h.1))
  proper_after (Want.Release t) may = λ fresh.
      let h = may (valid, fresh) in in_store _ (both (is_live W.store t) _ (lives_here fresh t h.0) (ap is_pointed (points_are t) ∙ h.1))
  proper_after (Want.Commit t) may = λ fresh. in_store _ (may_end fresh t (may (valid, fresh)))
  proper_after (Want.Rollback t) may = λ fresh. in_store _ (may_end fresh t (may (valid, fresh)))
  proper_after (Want.Auto a) may = λ fresh. in_store true refl
  proper_after Want.Done may = tt
  proper_after Want.Failed may = absurd may

pub wants_proper : WantsProper
wants_proper S valid c pool store want end is no_pool no_store =
    let stops = stops_so S c pool store any_label want end is in
    let pools = stops.holds.pools in
    let stores = stops.holds.stores in
    let pool_is = all_read pool pools.read end.pool pools.is no_pool in
    let store_is = all_read store stores.read end.store stores.is no_store in
    let reads : notes_read S c pool store ≤ 8 * weight S = reads_few S valid c pool store in
    let read : notes_read S c pool store ≡ length pool + length store - (length end.pool + length end.store) = ap (λ r. length pool + length store - count_unread (state_of r)) is in
    let few : length pool + length store ≤ 1600000 = omega (arith, ap length no_pool, ap length no_store, valid.light) in
    proper_after (world S pool store any_label) valid stops.ledger
    (subst (λ ns. TakesFresh pool → out ns ≡ stops.ledger.connections) pool_is pools.out_is)
    (subst (λ ns. BeginsFresh store → (u : ℕ) → is_live ns u ≡ contains stops.ledger.transactions u) store_is stores.lives)
    (subst (λ ns. (u : ℕ) → savepoints ns u ≡ stops.ledger.points u) store_is stores.points_are)
    (omega arith) (omega arith) want stops.allowed

-- ---- what is given back

-- where no number is in the list, it has none
pub none_live : (xs : List ℕ) → ((t : ℕ) → contains xs t ≡ false) → xs ≡ []
none_live [] none = refl
none_live (x ∷ xs) none = absurd (false≢true (sym (none x) ∙ or_left (x == x) (contains xs x) (eq-eqb x x refl)))

pub gives_all_back : GivesAllBack
gives_all_back S c pool store end is no_pool no_store =
    let stops = stops_so S c pool store any_label Want.Done end is in
    let pools = stops.holds.pools in
    let stores = stops.holds.stores in (
      λ fresh. ap out (sym (all_read pool pools.read end.pool pools.is no_pool)) ∙ pools.out_is fresh ∙ stops.allowed.connections,
      λ fresh. none_live (live store) (λ t.
          ap (λ ns. is_live ns t) (sym (all_read store stores.read end.store stores.is no_store))
          ∙ stores.lives fresh t
          ∙ ap (λ ts. contains ts t) stops.allowed.transactions),
    )
