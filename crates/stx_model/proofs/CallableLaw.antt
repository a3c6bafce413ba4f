-- A valid scenario is callable: ranks fall along what methods lead to, and callbacks hold only what they may.
use Rattle.std.proofs.Common.{◌≡◌, ◌+◌, ◌<◌, ◌&&◌, ◌==◌, ◌++◌, ◌∷◌, [], Bool, true, false, cond, List, Option, Some, None, length, map, refl, sym, ◌∙◌, subst, arith, filter}
use Rattle.std.specs.Prelude.{◌||◌, ⊤, ℕ, zero, suc, slice_get, unwrap_or}
use Rattle.std.specs.List.{All, AllByRecursion, enumerate_from, flat_map}
use Rattle.std.proofs.lemmas.Bool.{false≢true, or_left, or_right}
use Rattle.std.proofs.lemmas.Grind.{flat_map-append}
use Rattle.std.proofs.lemmas.List.Elements.{All-head, All-tail}
use Rattle.std.proofs.lemmas.Option.{slice_get_within}
use Rattle.stx_scenario.specs.declared.numbers.EventNo.{EventNo}
use Rattle.stx_scenario.specs.declared.numbers.MethodNo.{MethodNo}
use Rattle.stx_scenario.specs.declared.scenario.Scenario.{Scenario}
use Rattle.stx_scenario.specs.declared.scenario.Listener.{Listener}
use Rattle.stx_scenario.specs.declared.scenario.Method.{Method}
use Rattle.stx_scenario.specs.declared.scenario.Phase.{Phase}
use Rattle.stx_scenario.specs.declared.scenario.Stmt.{Stmt}
use Rattle.stx_scenario.specs.declared.scenario.SyncDecl.{SyncDecl}
use Rattle.stx_base.specs.declared.manager.Round.{Round}
use Rattle.stx_base.specs.Valid.{allowed_before_commit, allowed_around, allowed_in, SyncAllowed, IsInOrder}
use Rattle.stx_base.specs.Weight.{body_in, body_of, callbacks, callbacks_in, listeners_of, called, calls, led, leads, has_method, rank}
use Rattle.stx_base.proofs.WayLaws.{has_itself, above_more}
use Rattle.stx_base.proofs.WeightLaws.{acyclic_from, has_append, rank_is}
use Rattle.stx_model.specs.Listeners.{Numbered, RunNow, Skip, deed, deeds, dealt_with, listening}
use Rattle.stx_model.specs.Rounds.{sync_body}
use Rattle.stx_model.specs.Script.{calls_of}
use Rattle.stx_model.specs.Below.{listener_body, CallbackBelow, CallbacksBelow, ListenerBelow, DeedBelow, StatementBelow, StatementsBelow, MethodsBelow, Callable}
use Rattle.stx_model.proofs.Callable.{by_order_all}
use Rattle.stx_base.proofs.ValidLaws.{entry_of}

-- ---- what callbacks may hold

-- a statement on a row, a throw or a call
abbrev pub MayCallback : Stmt → Type 0
MayCallback (Stmt.This m catch) = ⊥
MayCallback Stmt.Mark = ⊥
MayCallback (Stmt.Register s) = ⊥
MayCallback (Stmt.Publish e) = ⊥
MayCallback _ = ⊤

abbrev pub MayCallbacks : List Stmt → Type 0
MayCallbacks body = All MayCallback body

record SyncMay (sync : SyncDecl) : Type 0 where
  pub before_commit : MayCallbacks sync.before_commit
  pub before_completion : MayCallbacks sync.before_completion
  pub after_commit : MayCallbacks sync.after_commit
  pub after_completion : MayCallbacks sync.after_completion

-- what some callback may hold is no statement of bodies alone
may_callback : (S : Scenario) (s : Stmt) → (allowed_before_commit S s || allowed_around S s) ≡ true → MayCallback s
may_callback S (Stmt.This m catch) is = absurd (false≢true is)
may_callback S Stmt.Mark is = absurd (false≢true is)
may_callback S (Stmt.Register s) is = absurd (false≢true is)
may_callback S (Stmt.Publish e) is = absurd (false≢true is)
may_callback S s is = tt

may_before_commit : (S : Scenario) (s : Stmt) → allowed_before_commit S s ≡ true → MayCallback s
may_before_commit S s is = may_callback S s (or_left (allowed_before_commit S s) (allowed_around S s) is)

may_around : (S : Scenario) (s : Stmt) → allowed_around S s ≡ true → MayCallback s
may_around S s is = may_callback S s (or_right (allowed_before_commit S s) (allowed_around S s) is)

may_all : (allowed : Stmt → Bool) (body : List Stmt) → ((s : Stmt) → allowed s ≡ true → MayCallback s)
    → All (λ s. allowed s ≡ true) body → MayCallbacks body
may_all allowed body may all = λ n s within. may _ (all n s within)

sync_may : (S : Scenario) (sync : SyncDecl) → SyncAllowed S sync → SyncMay sync
sync_may S sync allowed = record {
  before_commit = may_all (allowed_before_commit S) sync.before_commit (may_before_commit S) allowed.before_commit;
  before_completion = may_all (allowed_around S) sync.before_completion (may_around S) allowed.before_completion;
  after_commit = may_all (allowed_around S) sync.after_commit (may_around S) allowed.after_commit;
  after_completion = may_all (allowed_around S) sync.after_completion (may_around S) allowed.after_completion;
}

abbrev ListenerAllowed : Scenario → Listener → Type 0
ListenerAllowed S listener = All (λ s. allowed_in listener.phase S s ≡ true) listener.body

listener_may : (S : Scenario) (listener : Listener) → ListenerAllowed S listener → MayCallbacks listener.body
listener_may S listener allowed = by_phase listener.phase allowed
  where
    by_phase : (phase : Phase) → All (λ s. allowed_in phase S s ≡ true) listener.body → MayCallbacks listener.body
    by_phase Phase.BeforeCommit all = may_all (allowed_before_commit S) listener.body (may_before_commit S) all
    by_phase Phase.AfterCommit all = may_all (allowed_around S) listener.body (may_around S) all
    by_phase Phase.AfterRollback all = may_all (allowed_around S) listener.body (may_around S) all
    by_phase Phase.AfterCompletion all = may_all (allowed_around S) listener.body (may_around S) all

-- ---- ranks below

-- all these methods have a rank below this
abbrev LedBelow : Scenario → ℕ → List MethodNo → Type 0
LedBelow S k ms = (m : MethodNo) → has_method ms m ≡ true → rank S m < k

module _ (S : Scenario) (k : ℕ) where
  first_below : (ms ns : List MethodNo) → LedBelow S k (ms ++ ns) → LedBelow S k ms
  first_below ms ns below m is = below m (has_append ms ns m ∙ or_left _ _ is)

  rest_below : (ms ns : List MethodNo) → LedBelow S k (ms ++ ns) → LedBelow S k ns
  rest_below ms ns below m is = below m (has_append ms ns m ∙ or_right _ _ is)

  callback_below : (s : Stmt) → MayCallback s → LedBelow S k (called s) → CallbackBelow S k s
  callback_below (Stmt.Call m catch) may below = below m (has_itself m [])
  callback_below (Stmt.This m catch) may below = may
  callback_below Stmt.Mark may below = may
  callback_below (Stmt.Register s) may below = may
  callback_below (Stmt.Publish e) may below = may
  callback_below s may below = tt

  callbacks_below : (body : List Stmt) → MayCallbacks body → LedBelow S k (calls body) → CallbacksBelow S k body
  callbacks_below [] may below = tt
  callbacks_below (s ∷ body) may below = (
    callback_below s (All-head MayCallback s body may) (first_below (called s) (calls body) below),
    callbacks_below body (All-tail MayCallback s body may) (rest_below (called s) (calls body) below),
  )

  -- two bodies, one after the other
  both_below : (first rest : List Stmt) → LedBelow S k (calls (first ++ rest)) → LedBelow S k (calls first) × LedBelow S k (calls rest)
  both_below first rest below =
      let both = subst (LedBelow S k) (flat_map-append called first rest) below in
      (first_below (calls first) (calls rest) both, rest_below (calls first) (calls rest) both)

  first_three : (sync : SyncDecl) → LedBelow S k (calls (callbacks sync))
      → LedBelow S k (calls (sync.before_commit ++ sync.before_completion ++ sync.after_commit)) × LedBelow S k (calls sync.after_completion)
  first_three sync below = both_below (sync.before_commit ++ sync.before_completion ++ sync.after_commit) sync.after_completion below

  first_two : (sync : SyncDecl) → LedBelow S k (calls (callbacks sync))
      → LedBelow S k (calls sync.before_commit) × LedBelow S k (calls sync.before_completion)
  first_two sync below =
      both_below sync.before_commit sync.before_completion
      (both_below (sync.before_commit ++ sync.before_completion) sync.after_commit (first_three sync below).0).0

  sync_below : (sync : SyncDecl) → SyncMay sync → LedBelow S k (calls (callbacks sync)) → (round : Round)
      → CallbacksBelow S k (sync_body round (Some sync))
  sync_below sync may below Round.BeforeCommit = callbacks_below sync.before_commit may.before_commit (first_two sync below).0
  sync_below sync may below Round.BeforeCompletion = callbacks_below sync.before_completion may.before_completion (first_two sync below).1
  sync_below sync may below Round.AfterCommit =
      callbacks_below sync.after_commit may.after_commit (both_below (sync.before_commit ++ sync.before_completion) sync.after_commit
      (first_three sync below).0).1
  sync_below sync may below Round.AfterCompletion = callbacks_below sync.after_completion may.after_completion (first_three sync below).1

  registered_below : (o : Option SyncDecl) → ((sync : SyncDecl) → o ≡ Some sync → SyncMay sync) → LedBelow S k (calls (callbacks_in o))
      → (round : Round) → CallbacksBelow S k (sync_body round o)
  registered_below (Some sync) may below round = sync_below sync (may sync refl) below round
  registered_below None may below round = tt

  -- ---- listeners

  listener_below : (listener : Listener) (p : Listener → Bool) (listeners : List Listener) (i : ℕ)
      → slice_get listeners i ≡ Some listener → p listener ≡ true
      → LedBelow S k (flat_map (λ l. calls l.body) (filter p listeners)) → LedBelow S k (calls listener.body)
  listener_below listener p [] i there is below = absurd cc
  listener_below listener p (l ∷ listeners) zero there is below =
      let same : l ≡ listener = cc in
      first_below (calls listener.body) (flat_map (λ l. calls l.body) (filter p listeners))
      (subst (λ b. LedBelow S k (flat_map (λ l. calls l.body) (cond b (listener ∷ filter p listeners) (filter p listeners)))) is
      (subst (λ l. LedBelow S k (flat_map (λ l. calls l.body) (cond (p l) (l ∷ filter p listeners) (filter p listeners)))) same below))
  listener_below listener p (l ∷ listeners) (suc i) there is below = listener_below listener p listeners i there is (by_first (p l) below)
    where
      by_first : (b : Bool) → LedBelow S k (flat_map (λ l. calls l.body) (cond b (l ∷ filter p listeners) (filter p listeners)))
          → LedBelow S k (flat_map (λ l. calls l.body) (filter p listeners))
      by_first true below = rest_below (calls l.body) (flat_map (λ l. calls l.body) (filter p listeners)) below
      by_first false below = below

-- ---- numbered lists

pub numbered_all : {X : Type 0} (P : ℕ × X → Type 0) (n : ℕ) (xs : List X) → ((i : ℕ) (x : X) → slice_get xs i ≡ Some x → P (n + i, x))
    → AllByRecursion P (enumerate_from n xs)
numbered_all P n [] each = tt
numbered_all P n (x ∷ xs) each = (
  (let same : n + 0 ≡ n = omega arith in subst (λ i. P (i, x)) same (each 0 x refl)),
  numbered_all P (n + 1) xs (λ i y there. let same : n + suc i ≡ n + 1 + i = omega arith in subst (λ j. P (j, y)) same (each (suc i) y there)),
)

pub filter_all : {X : Type 0} (P : X → Type 0) (p : X → Bool) (xs : List X) → AllByRecursion (λ x. p x ≡ true → P x) xs
    → AllByRecursion P (filter p xs)
filter_all P p [] all = tt
filter_all P p (x ∷ xs) all = by_first (p x) refl (filter_all P p xs all.1)
  where
    by_first : (b : Bool) → p x ≡ b → AllByRecursion P (filter p xs) → AllByRecursion P (cond b (x ∷ filter p xs) (filter p xs))
    by_first true is rest = (all.0 is, rest)
    by_first false is rest = rest

pub map_all : {X Y : Type 0} (P : Y → Type 0) (f : X → Y) (xs : List X) → AllByRecursion (λ x. P (f x)) xs → AllByRecursion P (map f xs)
map_all P f [] all = tt
map_all P f (x ∷ xs) all = (all.0, map_all P f xs all.1)

all_each : {X : Type 0} (P Q : X → Type 0) (xs : List X) → ((x : X) → P x → Q x) → All P xs → AllByRecursion Q xs
all_each P Q [] each all = tt
all_each P Q (x ∷ xs) each all = (each x (All-head P x xs all), all_each P Q xs each (All-tail P x xs all))

-- ---- methods

module _ (S : Scenario) (valid : IsInOrder S) (k : ℕ) where
  deed_below : (b : Bool) (l : Numbered) → ListenerBelow S k (record { 0 = l.0 }) → DeedBelow S k (deed b l)
  deed_below true l below = below
  deed_below false l below = by_fallback l.1.fallback
    where
      by_fallback : (b : Bool) → DeedBelow S k (elim b [ true ↦ RunNow (record { 0 = l.0 }) | false ↦ Skip (record { 0 = l.0 }) ])
      by_fallback true = below
      by_fallback false = tt

  deeds_below : (e : EventNo) (active live : Bool) → LedBelow S k (flat_map (λ l. calls l.body) (listeners_of S e))
      → AllByRecursion (DeedBelow S k) (deeds S e active live)
  unfolding deeds
  deeds_below e active live below =
      map_all (DeedBelow S k) (deed (active && live)) (dealt_with S e)
      (by_order_all Deeds (λ l. l.1.order) (listening S e) (filter_all Deeds (λ l. l.1.event.0 == e.0) (enumerate_from 0 S.listeners)
      (numbered_all Heard 0 S.listeners heard)))
    where
      Deeds : Numbered → Type 0
      Deeds l = DeedBelow S k (deed (active && live) l)

      Heard : Numbered → Type 0
      Heard l = (l.1.event.0 == e.0) ≡ true → Deeds l

      heard : (i : ℕ) (listener : Listener) → slice_get S.listeners i ≡ Some listener → Heard (0 + i, listener)
      heard i listener there is =
          let may = listener_may S listener (entry_of (ListenerAllowed S) S.listeners i listener valid.callbacks.listeners there) in
          let body = callbacks_below S k listener.body may
          (listener_below S k listener (λ l. l.event.0 == e.0) S.listeners i there is below) in
          let number : i ≡ 0 + i = omega arith in
          deed_below (active && live) (0 + i, listener)
          (subst (λ n. CallbacksBelow S k (listener_body (slice_get S.listeners n))) number
          (subst (λ l. CallbacksBelow S k (listener_body l)) (sym there) body))

  statement_below : (s : Stmt) → LedBelow S k (led S s) → StatementBelow S k s
  statement_below (Stmt.Call m catch) below = below m (has_itself m [])
  statement_below (Stmt.This m catch) below = below m (has_itself m [])
  statement_below (Stmt.Register s) below =
      registered_below S k (slice_get S.syncs s.0) (λ sync there. sync_may S sync (entry_of (SyncAllowed S) S.syncs s.0 sync valid.callbacks.syncs there)) below
  statement_below (Stmt.Publish e) below = λ active live. deeds_below e active live below
  statement_below s below = tt

  statements_below : (body : List Stmt) → LedBelow S k (flat_map (led S) body) → StatementsBelow S k body
  statements_below [] below = tt
  statements_below (s ∷ body) below = (
    statement_below s (first_below S k (led S s) (flat_map (led S) body) below),
    statements_below body (rest_below S k (led S s) (flat_map (led S) body) below),
  )

-- ---- the whole

-- a method leads to methods of lower rank
ranks_fall : (S : Scenario) → IsInOrder S → (m : MethodNo) → m.0 < length S.methods → LedBelow S (rank S m) (leads S m)
ranks_fall S valid m there n is =
    let less = above_more (rank S) (leads S m) n is in
    let here = rank_is S m (acyclic_from S valid.range valid.acyclic) there in
    omega (arith, less, here)

pub callable_if_valid : (S : Scenario) → IsInOrder S → Callable S
unfolding leads
callable_if_valid S valid = record { methods = λ m. by_method m (slice_get S.methods m.0) refl; clients = λ c. by_calls (slice_get S.clients c) c refl }
  where
    by_method : (m : MethodNo) (o : Option Method) → slice_get S.methods m.0 ≡ o → StatementsBelow S (rank S m) (body_of S m)
    by_method m (Some method) there =
        statements_below S valid (rank S m) (body_of S m) (ranks_fall S valid m (slice_get_within S.methods m.0 method there))
    by_method m None there = subst (λ o. StatementsBelow S (rank S m) (body_in o)) (sym there) tt

    below_bound : (m : MethodNo) → m.0 < length S.methods → rank S m < 65
    below_bound m there = let most = valid.shallow m there in omega (arith, most)

    by_calls : (o : Option (List MethodNo)) (c : ℕ) → slice_get S.clients c ≡ o → MethodsBelow S 65 (calls_of S c)
    by_calls (Some calls) c there =
        subst (λ o. MethodsBelow S 65 (unwrap_or o [])) (sym there)
        (all_each (λ m. m.0 < length S.methods) (λ m. rank S m < 65) calls below_bound
        (entry_of (λ calls. All (λ m. m.0 < length S.methods) calls) S.clients c calls valid.range.clients there))
    by_calls None c there = subst (λ o. MethodsBelow S 65 (unwrap_or o [])) (sym there) tt
