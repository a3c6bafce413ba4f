-- An action of a completion that comes to a stage of its own: the call is on top again, and the rest is due after it.
use Rattle.std.proofs.Common.{◌≡◌, ◌∙◌, ◌∷◌, ℕ, List, Option, Some, None, sym, ap, subst}
use Rattle.std.specs.Prelude.{◌&&◌, ◌<◌}
use Rattle.std.specs.Option.{is_some, option_map}
use Rattle.stx_scenario.specs.declared.numbers.ClassNo.{ClassNo}
use Rattle.stx_scenario.specs.declared.scenario.Scenario.{Scenario}
use Rattle.stx_base.specs.Limits.{most_calls}
use Rattle.stx_base.specs.declared.call.Want.{Want}
use Rattle.stx_base.specs.declared.history.PoolNote.{PoolNote}
use Rattle.stx_base.specs.declared.history.StoreNote.{StoreNote}
use Rattle.stx_base.specs.declared.manager.Action.{Action}
use Rattle.stx_model.specs.Meanings.{State, Result, ask}
use Rattle.stx_model.specs.Scopes.{acts, live_in}
use Rattle.stx_context.specs.Carrying.{context_of}
use Rattle.stx_machine.specs.declared.completion.Intercepted.{Intercepted}
use Rattle.stx_machine.specs.declared.interception.Phase.{Phase}
use Rattle.stx_machine.specs.declared.machine.Machine.{Machine}
use Rattle.stx_machine.specs.declared.stage.Bound.{Bound}
use Rattle.stx_machine.specs.declared.stage.Stage.{Stage}
use Rattle.stx_machine.specs.declared.tokens.Tokens.{Tokens}
use Rattle.stx_machine.specs.Machine.{Call, HasTransaction, IsPushed, acts_of, context_at, inside, live_of, onward, onward_caught, piece, put_back, run, scope_of, stack, state_before, state_with, unwound}
use Rattle.stx_machine.specs.Sound.{CallCompletes, CallsRun, IsApart, IsCompleting, IsSound, Standing, StageFits, below_rest, bond_of, ends_syncs, no_tokens, one_less, rank_at, standing_of, standing_under, with_connection, without_own}
use Rattle.stx_machine.proofs.Stacks.{live_is, put_on}
use Rattle.stx_machine.proofs.Standings.{due_given, due_released, pushed_sound, under_some}

-- what is left goes on from the stage, with what is then carried
comes_to_stage : (S : Scenario) (n : ℕ) (m after new : Machine) (call : Intercepted) (rest : _) (x : Option ClassNo) (a : Action) (stage : Stage) (pool : List PoolNote) (store : List StoreNote)
    → IsPushed after (put_back call (Phase.Completing rest x)) new → after ≡ record m { context = after.context; tokens = after.tokens }
    → context_of m.context ≡ context_at stage after.context
    → acts S (inside S call.method) (scope_of call.method call.interception) (a ∷ rest.now) x (state_before m pool store)
    ≡ piece S (put_back call (Phase.Completing rest x) ∷ stack m.frames) stage (state_before m pool store)
    → onward S n m (acts_of S call (a ∷ rest.now) x (state_before m pool store)) ≡ run S n (record new { stage = stage }) pool store
unfolding unwound
comes_to_stage S n m after new call rest x a stage pool store pushed kept same first =
    let top : Call = put_back call (Phase.Completing rest x) in
    let at : Machine → State → Result = λ z st. onward_caught S n z call.catch (piece S (top ∷ stack z.frames) stage st) in
    ap (onward_caught S n m call.catch) first
    ∙ ap (λ k. at m (state_with m k pool store)) same
    ∙ ap (λ z. at z (state_with z (context_at stage after.context) pool store)) (sym kept)
    ∙ put_on S n after new top stage pool store pushed

-- an action that asks the store of the live transaction
pub asks_store : (S : Scenario) (n : ℕ) (m after new : Machine) (call : Intercepted) (rest : _) (x : Option ClassNo) (a b : Action) (stage : ℕ → Stage) (t : ℕ) (pool : List PoolNote) (store : List StoreNote)
    → IsPushed after (put_back call (Phase.Completing rest x)) new → a ≡ b
    → ((st : State) → acts S (inside S call.method) (scope_of call.method call.interception) (b ∷ rest.now) x st
    ≡ live_in st.context.tx (λ live. piece S (put_back call (Phase.Completing rest x) ∷ stack m.frames) (stage live.transaction)) st)
    → after ≡ record m { context = after.context; tokens = after.tokens } → context_of m.context ≡ context_at (stage t) after.context → HasTransaction (context_of m.context).tx t
    → onward S n m (acts_of S call (a ∷ rest.now) x (state_before m pool store)) ≡ run S n (record new { stage = stage t }) pool store
asks_store S n m after new call rest x a b stage t pool store pushed is first kept same live =
    ap (λ z. onward S n m (acts_of S call (z ∷ rest.now) x (state_before m pool store))) is
    ∙ comes_to_stage S n m after new call rest x b (stage t) pool store pushed kept same
    (first (state_before m pool store) ∙ live_is (context_of m.context).tx t (λ u. piece S (put_back call (Phase.Completing rest x) ∷ stack m.frames) (stage u)) (state_before m pool store) live)

-- the bound connection is given back
pub gives_back : (S : Scenario) (n : ℕ) (m after new : Machine) (call : Intercepted) (rest : _) (x : Option ClassNo) (a : Action) (bound : Bound) (pool : List PoolNote) (store : List StoreNote)
    → IsPushed after (put_back call (Phase.Completing rest x)) new → a ≡ Action.GiveBack
    → after ≡ record m { context = after.context; tokens = after.tokens } → after.context ≡ record (m.context) { tx = None } → (context_of m.context).tx ≡ Some (live_of bound)
    → onward S n m (acts_of S call (a ∷ rest.now) x (state_before m pool store)) ≡ run S n (record new { stage = Stage.GivingBack bound }) pool store
unfolding acts
gives_back S n m after new call rest x a bound pool store pushed is kept parted live =
    let same : context_of m.context ≡ context_at (Stage.GivingBack bound) after.context =
    (λ k. record { tx = live k; syncs = option_map (λ r. r.list) m.context.syncs }) ∙ ap (context_at (Stage.GivingBack bound)) (sym parted) in
    ap (λ z. onward S n m (acts_of S call (z ∷ rest.now) x (state_before m pool store))) is
    ∙ comes_to_stage S n m after new call rest x Action.GiveBack (Stage.GivingBack bound) pool store pushed kept same
    (ap (λ tx. live_in tx (λ l. ask (Want.Give l.connection) (λ _. acts S (inside S call.method) (scope_of call.method call.interception) rest.now x)) (state_before m pool store)) live)

-- ---- what the machine may rely on

-- the bound connection is on its way back
pub gives_back_sound : (S : Scenario) (m after new : Machine) (call : Intercepted) (rest : _) (x : Option ClassNo) (a : Action) (bound : Bound)
    → IsPushed after (put_back call (Phase.Completing rest x)) new → a ≡ Action.GiveBack
    → IsCompleting S (rank_at S m) call (standing_of m.context) (a ∷ rest.now) x → IsApart S m (below_rest call.interception.scope (a ∷ rest.now) (standing_of m.context))
    → after ≡ record m { context = after.context; tokens = after.tokens } → after.context ≡ record (m.context) { tx = None } → after.tokens ≡ record (m.tokens) { connection = Some bound.connection }
    → IsSound S (record new { stage = Stage.GivingBack bound }) (with_connection bound.connection)
gives_back_sound S m after new call rest x a bound pushed is completing apart kept parted holds =
    let scope = call.interception.scope in
    let standing = standing_of m.context in
    let top : Call = put_back call (Phase.Completing rest x) in
    let gives = subst (λ z. IsCompleting S (rank_at S m) call standing (z ∷ rest.now) x) is completing in
    let due = due_given scope.owns (is_some scope.suspended) standing.bond (is_some standing.syncs) rest.now gives.due in
    let calls = subst (λ s. CallsRun S s (stack m.frames)) (under_some scope.suspended _ _ due.2) apart.calls in
    let fits : StageFits S (Stage.GivingBack bound) (record (m.context) { tx = None }) (top ∷ stack m.frames) =
    ((gives.call, gives.intercepted, (due.0, gives.class), calls), (due.1, due.2)) in
    pushed_sound S after new top (Stage.GivingBack bound) _ pushed
    (subst (λ z. StageFits S (Stage.GivingBack bound) z.context (top ∷ stack z.frames)) (sym kept) (subst (λ k. StageFits S (Stage.GivingBack bound) k (top ∷ stack m.frames)) (sym parted) fits))
    (subst (λ z. z.top < most_calls) (sym kept) apart.top) (holds ∙ ap (λ (t : Tokens). record t { connection = Some bound.connection }) apart.holds)

-- the innermost savepoint is being released
pub releases_sound : (S : Scenario) (m after new : Machine) (call : Intercepted) (rest : _) (x : Option ClassNo) (a : Action) (t : ℕ)
    → IsPushed after (put_back call (Phase.Completing rest x)) new → a ≡ Action.ReleasePoint
    → IsCompleting S (rank_at S m) call (standing_of m.context) (a ∷ rest.now) x → IsApart S m (below_rest call.interception.scope (a ∷ rest.now) (standing_of m.context))
    → after ≡ record m { context = after.context } → context_of after.context ≡ context_of m.context → bond_of after.context.tx ≡ one_less (bond_of m.context.tx)
    → IsSound S (record new { stage = Stage.Releasing t }) no_tokens
releases_sound S m after new call rest x a t pushed is completing apart kept same bond =
    let scope = call.interception.scope in
    let standing = standing_of m.context in
    let top : Call = put_back call (Phase.Completing rest x) in
    let released : Standing = record { bond = one_less standing.bond; syncs = standing.syncs } in
    let releasing = subst (λ z. IsCompleting S (rank_at S m) call standing (z ∷ rest.now) x) is completing in
    let due = due_released scope.owns (is_some scope.suspended) standing.bond (is_some standing.syncs) rest.now releasing.due in
    let calls = subst (λ z. CallsRun S (below_rest scope (z ∷ rest.now) standing) (stack m.frames)) is apart.calls in
    let below = subst (λ b. CallsRun S (standing_under scope.suspended (without_own b (scope.owns && ends_syncs rest.now) released)) (stack m.frames)) (sym due.1) calls in
    let fits : CallCompletes S released (top ∷ stack m.frames) = (releasing.call, releasing.intercepted, (due.2, releasing.class), below) in
    let now : released ≡ standing_of after.context = λ k. record { bond = sym bond k; syncs = (sym same k).syncs } in
    pushed_sound S after new top (Stage.Releasing t) _ pushed
    (subst (λ z. CallCompletes S (standing_of after.context) (top ∷ stack z.frames)) (sym kept) (subst (λ s. CallCompletes S s (top ∷ stack m.frames)) now fits))
    (subst (λ z. z.top < most_calls) (sym kept) apart.top) (ap (λ z. z.tokens) kept ∙ apart.holds)
