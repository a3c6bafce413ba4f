-- Laws of rank and cost: what a scenario's methods lead to is in range, and without a cycle rank and cost are what the
-- methods to which a method leads make them.
use Rattle.std.proofs.Common.{◌≡◌, ℕ, zero, suc, ◌+◌, ◌<◌, Bool, true, false, ◌||◌, ◌==◌, cond, List, [], ◌∷◌, ◌++◌, Option, Some, None, length, map, refl, sym, ◌∙◌, ap, ⊎_elim, arith, filter}
use Rattle.std.specs.List.{All, flat_map, slice_get}
use Rattle.std.proofs.lemmas.Bool.{or_cases, or_left, or_right, false≢true}
use Rattle.std.proofs.lemmas.List.Folds.{list_any-append}
use Rattle.std.proofs.lemmas.List.Elements.{All-nil, All-head, All-tail, All-append}
use Rattle.stx_scenario.specs.declared.numbers.MethodNo.{MethodNo}
use Rattle.stx_scenario.specs.declared.scenario.Scenario.{Scenario}
use Rattle.stx_scenario.specs.declared.scenario.Method.{Method}
use Rattle.stx_scenario.specs.declared.scenario.Listener.{Listener}
use Rattle.stx_scenario.specs.declared.scenario.SyncDecl.{SyncDecl}
use Rattle.stx_scenario.specs.declared.scenario.Stmt.{Stmt}
use Rattle.stx_base.specs.declared.cost.Cost.{Cost}
use Rattle.stx_base.specs.Weight.{body_in, body_of, callbacks_in, callbacks_of, listeners_of, called, calls, led, leads, has_method, HasNoCycle, above, longest, rank, plus, total, one, callback_cost, callbacks_cost, listener_cost, statement_cost, body_cost, cost_within, cost, CallbackInRange, CallbacksInRange, StatementInRange, SyncInRange, InRange}
use Rattle.stx_base.proofs.WayLaws.{same_method, has_itself, above_more, longest_settled, longest_all, longest_way, shallow, IsAcyclic}
use Rattle.stx_base.specs.Laws.{RanksAreLongestWays}
use Rattle.stx_base.proofs.ValidLaws.{entry_of}

-- ---- what is in range

abbrev pub Below : ℕ → List MethodNo → Type 0
Below count ms = (m : MethodNo) → has_method ms m ≡ true → m.0 < count

pub has_append : (ms ns : List MethodNo) (m : MethodNo) → has_method (ms ++ ns) m ≡ (has_method ms m || has_method ns m)
has_append ms ns m = list_any-append (λ n. n.0 == m.0) ms ns

below_none : (count : ℕ) → Below count []
below_none count m h = absurd (false≢true h)

below_one : (count : ℕ) (m : MethodNo) → m.0 < count → Below count (m ∷ [])
below_one count m below n h =
    ⊎_elim (λ here. let e = ap (λ a. a.0) (same_method m n here) in omega (arith, e, below)) (λ later. absurd (false≢true later)) (or_cases _ _ h)

below_append : (count : ℕ) (ms ns : List MethodNo) → Below count ms → Below count ns → Below count (ms ++ ns)
below_append count ms ns left right m h =
    ⊎_elim (left m) (right m) (or_cases _ _ (sym (has_append ms ns m) ∙ h))

below_called : (count : ℕ) (s : Stmt) → CallbackInRange count s → Below count (called s)
below_called count (Stmt.Call m x) h = below_one count m h
below_called count _ h = below_none count

below_calls : (count : ℕ) (body : List Stmt) → CallbacksInRange count body → Below count (calls body)
below_calls count [] h = below_none count
below_calls count (s ∷ body) h =
    below_append count (called s) (calls body) (below_called count s (All-head (CallbackInRange count) s body h)) (below_calls count body (All-tail (CallbackInRange count) s body h))

abbrev ListenerInRange : ℕ → Listener → Type 0
ListenerInRange count listener = CallbacksInRange count listener.body

below_listeners :
    (count : ℕ) (p : Listener → Bool) (listeners : List Listener) → All (ListenerInRange count) listeners
    → Below count (flat_map (λ listener. calls listener.body) (filter p listeners))
below_listeners count p [] h = below_none count
below_listeners count p (l ∷ listeners) h =
    step (p l) (below_listeners count p listeners (All-tail (ListenerInRange count) l listeners h))
  where
    step :
        (b : Bool) → Below count (flat_map (λ listener. calls listener.body) (filter p listeners))
        → Below count (flat_map (λ listener. calls listener.body) (cond b (l ∷ filter p listeners) (filter p listeners)))
    step true rest =
        below_append count (calls l.body) (flat_map (λ listener. calls listener.body) (filter p listeners))
        (below_calls count l.body (All-head (ListenerInRange count) l listeners h)) rest
    step false rest = rest

pub callbacks_range : (S : Scenario) → InRange S → (o : Option SyncDecl) (i : ℕ) → slice_get S.syncs i ≡ o → CallbacksInRange (length S.methods) (callbacks_in o)
callbacks_range S range None i e = All-nil (CallbackInRange (length S.methods))
callbacks_range S range (Some sync) i e =
    let here = entry_of (SyncInRange (length S.methods)) S.syncs i sync range.syncs e in
    let P = CallbackInRange (length S.methods) in
    All-append P _ _ (All-append P _ _ (All-append P _ _ here.before_commit here.before_completion) here.after_commit) here.after_completion

abbrev pub InRangeIn : Scenario → Stmt → Type 0
InRangeIn S s = StatementInRange (length S.methods) (length S.events) (length S.syncs) s

pub body_range : (S : Scenario) → InRange S → (o : Option Method) (i : ℕ) → slice_get S.methods i ≡ o → All (InRangeIn S) (body_in o)
body_range S range None i e = All-nil (InRangeIn S)
body_range S range (Some method) i e = entry_of (λ method. All (InRangeIn S) method.body) S.methods i method range.methods e

below_led : (S : Scenario) → InRange S → (s : Stmt) → InRangeIn S s → Below (length S.methods) (led S s)
below_led S range (Stmt.Call m x) h = below_one _ m h
below_led S range (Stmt.This m x) h = below_one _ m h
below_led S range (Stmt.Register s) h = below_calls _ (callbacks_of S s) (callbacks_range S range _ s.0 refl)
below_led S range (Stmt.Publish e) h = below_listeners _ (λ l. l.event.0 == e.0) S.listeners range.listeners
below_led S range _ h = below_none _

below_body : (S : Scenario) → InRange S → (body : List Stmt) → All (InRangeIn S) body → Below (length S.methods) (flat_map (led S) body)
below_body S range [] h = below_none _
below_body S range (s ∷ body) h =
    below_append _ (led S s) (flat_map (led S) body) (below_led S range s (All-head (InRangeIn S) s body h)) (below_body S range body (All-tail (InRangeIn S) s body h))

-- a method leads to methods that there are
pub leads_below : (S : Scenario) → InRange S → (m : MethodNo) → Below (length S.methods) (leads S m)
unfolding leads
leads_below S range m = below_body S range (body_of S m) (body_range S range _ m.0 refl)

pub acyclic_from :
    (S : Scenario) → InRange S → HasNoCycle (leads S) (length S.methods)
    → IsAcyclic (leads S) (length S.methods)
acyclic_from S range none = record { range = λ m n below h. leads_below S range m n h; acyclic = none }

-- ---- costs depend on what is led to alone

abbrev pub AgreeOn : (MethodNo → Cost) → (MethodNo → Cost) → List MethodNo → Type 0
AgreeOn f g ms = (m : MethodNo) → has_method ms m ≡ true → f m ≡ g m

agree_left : (f g : MethodNo → Cost) (ms ns : List MethodNo) → AgreeOn f g (ms ++ ns) → AgreeOn f g ms
agree_left f g ms ns agree m h = agree m (has_append ms ns m ∙ or_left _ _ h)

agree_right : (f g : MethodNo → Cost) (ms ns : List MethodNo) → AgreeOn f g (ms ++ ns) → AgreeOn f g ns
agree_right f g ms ns agree m h = agree m (has_append ms ns m ∙ or_right _ _ h)

callback_same : (f g : MethodNo → Cost) (s : Stmt) → AgreeOn f g (called s) → callback_cost f s ≡ callback_cost g s
callback_same f g (Stmt.Call m x) agree = ap (plus one) (agree m (has_itself m []))
callback_same f g _ agree = refl

callbacks_same : (f g : MethodNo → Cost) (body : List Stmt) → AgreeOn f g (calls body) → callbacks_cost f body ≡ callbacks_cost g body
callbacks_same f g [] agree = refl
callbacks_same f g (s ∷ body) agree =
    let here = callback_same f g s (agree_left f g (called s) (calls body) agree) in
    let rest = callbacks_same f g body (agree_right f g (called s) (calls body) agree) in
    cc

abbrev heard : List Listener → List MethodNo
heard listeners = flat_map (λ listener. calls listener.body) listeners

listeners_same :
    (f g : MethodNo → Cost) (listeners : List Listener) → AgreeOn f g (heard listeners)
    → total (map (listener_cost f) listeners) ≡ total (map (listener_cost g) listeners)
listeners_same f g [] agree = refl
listeners_same f g (l ∷ listeners) agree =
    let here = callbacks_same f g l.body (agree_left f g (calls l.body) (heard listeners) agree) in
    let rest = listeners_same f g listeners (agree_right f g (calls l.body) (heard listeners) agree) in
    rw (here, rest)

statement_same : (S : Scenario) (f g : MethodNo → Cost) (s : Stmt) → AgreeOn f g (led S s) → statement_cost S f s ≡ statement_cost S g s
statement_same S f g (Stmt.Call m x) agree = ap (plus one) (agree m (has_itself m []))
statement_same S f g (Stmt.This m x) agree = ap (plus one) (agree m (has_itself m []))
statement_same S f g (Stmt.Register s) agree = rw (callbacks_same f g (callbacks_of S s) agree)
statement_same S f g (Stmt.Publish e) agree = rw (listeners_same f g (listeners_of S e) agree)
statement_same S f g _ agree = refl

statements_same :
    (S : Scenario) (f g : MethodNo → Cost) (body : List Stmt) → AgreeOn f g (flat_map (led S) body)
    → total (map (statement_cost S f) body) ≡ total (map (statement_cost S g) body)
statements_same S f g [] agree = refl
statements_same S f g (s ∷ body) agree =
    let here = statement_same S f g s (agree_left f g (led S s) (flat_map (led S) body) agree) in
    let rest = statements_same S f g body (agree_right f g (led S s) (flat_map (led S) body) agree) in
    cc

-- ---- costs settle as longest ways do

pub cost_stays : (S : Scenario) (k : ℕ) (m : MethodNo) → longest (leads S) k m < k → cost_within S (suc k) m ≡ cost_within S k m
unfolding longest cost_within leads
cost_stays S zero m short = absurd (omega arith)
cost_stays S (suc k) m short =
    ap (plus one) (statements_same S (cost_within S (suc k)) (cost_within S k) (body_of S m) (λ n h.
    cost_stays S k n (let more = above_more (longest (leads S) k) (leads S m) n h in omega (arith, more, short))))

pub cost_settled :
    (S : Scenario) (extra k j : ℕ) (m : MethodNo) → j ≡ k + extra → longest (leads S) k m < k → cost_within S j m ≡ cost_within S k m
cost_settled S zero k j m e short = let same : j ≡ k = omega (arith, e) in ap (λ i. cost_within S i m) same
cost_settled S (suc extra) k j m e short =
    let settled = longest_settled (leads S) extra k (k + extra) m refl short in
    let one_more : j ≡ suc (k + extra) = omega (arith, e) in
    ap (λ i. cost_within S i m) one_more ∙ cost_stays S (k + extra) m (omega (arith, settled, short)) ∙ cost_settled S extra k (k + extra) m refl short

-- ---- the two equations

-- the rank is 0 where the method leads to none, else one more than the greatest rank to which it leads
pub rank_is :
    (S : Scenario) (m : MethodNo) → IsAcyclic (leads S) (length S.methods) → m.0 < length S.methods
    → rank S m ≡ above (map (rank S) (leads S m))
rank_is S m graph below = longest_all (leads S) (length S.methods) m graph below

-- the cost is what the statements make it, given what the methods cost
pub cost_is :
    (S : Scenario) (m : MethodNo) → IsAcyclic (leads S) (length S.methods) → m.0 < length S.methods
    → cost S m ≡ body_cost S (cost S) (body_of S m)
unfolding cost_within
cost_is S m graph below = sym (cost_stays S (length S.methods) m (shallow (leads S) (length S.methods) m graph below))

pub ranks_are_longest_ways : RanksAreLongestWays
ranks_are_longest_ways S range none m below =
    let graph = acyclic_from S range none in
    record {
      is_longest = longest_way (leads S) (length S.methods) m graph below;
      from_ranks = rank_is S m graph below;
      from_costs = cost_is S m graph below;
    }
