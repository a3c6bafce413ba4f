-- Laws of weighing: costs that are the same up to the cap make the same costs up to the cap, round by round.
use Rattle.std.proofs.Common.{◌≡◌, ℕ, suc, ◌+◌, ◌*◌, ◌<◌, ◌≤◌, ◌==◌, true, List, [], ◌∷◌, ◌++◌, length, map, min, replicate, refl, sym, ◌∙◌, ap, subst, arith, filter, get_or, take, ◌⊎◌, inl, inr, zero}
use Rattle.std.specs.List.{All, flat_map, range_with_len, slice_get, sum}
use Rattle.std.proofs.lemmas.Bool.{or_left, or_right, cases_lt}
use Rattle.std.proofs.lemmas.List.Sums.{sum_by-append}
use Rattle.std.proofs.lemmas.List.{get_or-map, get_or-replicate, length-map, length-replicate, take_more, map-append}
use Rattle.std.proofs.lemmas.List.FromFn.{get_or-map-range_with_len, length-map-range_with_len, map-range_with_len_more}
use Rattle.std.proofs.lemmas.List.Elements.{All-head, All-tail}
use Rattle.std.proofs.lemmas.Option.{slice_get-get_or}
use Rattle.stx_scenario.specs.declared.numbers.MethodNo.{MethodNo}
use Rattle.stx_scenario.specs.declared.scenario.Scenario.{Scenario}
use Rattle.stx_scenario.specs.declared.scenario.Method.{Method}
use Rattle.stx_scenario.specs.declared.scenario.Listener.{Listener}
use Rattle.stx_scenario.specs.declared.scenario.SyncDecl.{SyncDecl}
use Rattle.stx_scenario.specs.declared.scenario.Stmt.{Stmt}
use Rattle.stx_base.specs.declared.cost.Cost.{Cost}
use Rattle.stx_base.specs.Weight.{no_cost, one, one_registered, plus, total, body_in, body_of, callbacks, callbacks_in, callbacks_of, called, calls, led, leads, listeners_of, has_method, callback_cost, callbacks_cost, listener_cost, statement_cost, body_cost, cost_within, client_weight, weight_of, StatementInRange, BodyInRange, MethodsInRange, InRange}
use Rattle.stx_base.proofs.WayLaws.{has_itself}
use Rattle.stx_base.proofs.WeightLaws.{has_append, leads_below}
use Rattle.stx_graph.specs.inner.Costs.{cap, capped, cost_at, statement_at, event_cost, AreCosts}
use Rattle.stx_graph.proofs.CostLaws.{capped_both, capped_twice}
use Rattle.stx_graph.proofs.RankLaws.{row_below}
use Rattle.stx_graph.proofs.RowLaws.{item_keeps}

-- ---- the same up to the cap

abbrev pub Near : Cost → Cost → Type 0
Near a b = capped a ≡ capped b

near_plus : (a b c d : Cost) → Near a b → Near c d → Near (plus a c) (plus b d)
near_plus a b c d first second =
    sym (capped_both a c) ∙ ap (λ x. capped (plus x (capped c))) first ∙ ap (λ x. capped (plus (capped b) x)) second ∙ capped_both b d

abbrev pub NearOn : (MethodNo → Cost) → (MethodNo → Cost) → List MethodNo → Type 0
NearOn f g ms = (m : MethodNo) → has_method ms m ≡ true → Near (f m) (g m)

near_left : (f g : MethodNo → Cost) (ms ns : List MethodNo) → NearOn f g (ms ++ ns) → NearOn f g ms
near_left f g ms ns near m h = near m (has_append ms ns m ∙ or_left _ _ h)

near_right : (f g : MethodNo → Cost) (ms ns : List MethodNo) → NearOn f g (ms ++ ns) → NearOn f g ns
near_right f g ms ns near m h = near m (has_append ms ns m ∙ or_right _ _ h)

near_total : {X : Type 0} (f g : X → Cost) (xs : List X) → All (λ x. Near (f x) (g x)) xs → Near (total (map f xs)) (total (map g xs))
near_total f g [] h = refl
near_total f g (x ∷ xs) h =
    near_plus (f x) (g x) (total (map f xs)) (total (map g xs)) (All-head (λ x. Near (f x) (g x)) x xs h)
    (near_total f g xs (All-tail (λ x. Near (f x) (g x)) x xs h))

near_callback : (f g : MethodNo → Cost) (s : Stmt) → NearOn f g (called s) → Near (callback_cost f s) (callback_cost g s)
near_callback f g (Stmt.Call m x) near = near_plus one one (f m) (g m) refl (near m (has_itself m []))
near_callback f g _ near = refl

near_callbacks : (f g : MethodNo → Cost) (body : List Stmt) → NearOn f g (calls body) → Near (callbacks_cost f body) (callbacks_cost g body)
near_callbacks f g [] near = refl
near_callbacks f g (s ∷ body) near =
    near_plus (callback_cost f s) (callback_cost g s) (callbacks_cost f body) (callbacks_cost g body)
    (near_callback f g s (near_left f g (called s) (calls body) near))
    (near_callbacks f g body (near_right f g (called s) (calls body) near))

abbrev heard : List Listener → List MethodNo
heard listeners = flat_map (λ listener. calls listener.body) listeners

near_listeners :
    (f g : MethodNo → Cost) (listeners : List Listener) → NearOn f g (heard listeners)
    → Near (total (map (listener_cost f) listeners)) (total (map (listener_cost g) listeners))
near_listeners f g [] near = refl
near_listeners f g (l ∷ listeners) near =
    near_plus (listener_cost f l) (listener_cost g l) (total (map (listener_cost f) listeners)) (total (map (listener_cost g) listeners))
    (near_plus one_registered one_registered (callbacks_cost f l.body) (callbacks_cost g l.body) refl
    (near_callbacks f g l.body (near_left f g (calls l.body) (heard listeners) near)))
    (near_listeners f g listeners (near_right f g (calls l.body) (heard listeners) near))

near_statement : (S : Scenario) (f g : MethodNo → Cost) (s : Stmt) → NearOn f g (led S s) → Near (statement_cost S f s) (statement_cost S g s)
near_statement S f g (Stmt.Call m x) near = near_plus one one (f m) (g m) refl (near m (has_itself m []))
near_statement S f g (Stmt.This m x) near = near_plus one one (f m) (g m) refl (near m (has_itself m []))
near_statement S f g (Stmt.Register s) near =
    near_plus one_registered one_registered (callbacks_cost f (callbacks_of S s)) (callbacks_cost g (callbacks_of S s)) refl (near_callbacks f g (callbacks_of S s) near)
near_statement S f g (Stmt.Publish e) near =
    near_plus one one (total (map (listener_cost f) (listeners_of S e))) (total (map (listener_cost g) (listeners_of S e))) refl (near_listeners f g (listeners_of S e) near)
near_statement S f g _ near = refl

near_statements :
    (S : Scenario) (f g : MethodNo → Cost) (body : List Stmt) → NearOn f g (flat_map (led S) body)
    → Near (total (map (statement_cost S f) body)) (total (map (statement_cost S g) body))
near_statements S f g [] near = refl
near_statements S f g (s ∷ body) near =
    near_plus (statement_cost S f s) (statement_cost S g s) (total (map (statement_cost S f) body)) (total (map (statement_cost S g) body))
    (near_statement S f g s (near_left f g (led S s) (flat_map (led S) body) near))
    (near_statements S f g body (near_right f g (led S s) (flat_map (led S) body) near))

near_body :
    (S : Scenario) (f g : MethodNo → Cost) (body : List Stmt) → NearOn f g (flat_map (led S) body) → Near (body_cost S f body) (body_cost S g body)
near_body S f g body near =
    near_plus one one (total (map (statement_cost S f) body)) (total (map (statement_cost S g) body)) refl (near_statements S f g body near)

-- ---- what the costs of events and syncs stand for

abbrev pub event_costs_of : Scenario → (MethodNo → Cost) → List Cost
event_costs_of S of = map (λ e. capped (event_cost S of (record { 0 = e }))) (range_with_len 0 (length S.events))

abbrev pub sync_costs_of : Scenario → (MethodNo → Cost) → List Cost
sync_costs_of S of = map (λ sync. capped (callbacks_cost of (callbacks sync))) S.syncs

at_sync :
    (of : MethodNo → Cost) (syncs : List SyncDecl) (n : ℕ) → n < length syncs
    → get_or (map (λ sync. capped (callbacks_cost of (callbacks sync))) syncs) n no_cost ≡ capped (callbacks_cost of (callbacks_in (slice_get syncs n)))
at_sync of [] n h = absurd (omega arith)
at_sync of (sync ∷ syncs) n h =
    get_or-map (λ sync. capped (callbacks_cost of (callbacks sync))) (sync ∷ syncs) n sync no_cost h
    ∙ ap (λ o. capped (callbacks_cost of (callbacks_in o))) (sym (slice_get-get_or (sync ∷ syncs) n sync h))

near_statement_at :
    (S : Scenario) (costs events syncs : List Cost) → events ≡ event_costs_of S (cost_at costs) → syncs ≡ sync_costs_of S (cost_at costs)
    → (s : Stmt) → StatementInRange (length S.methods) (length S.events) (length S.syncs) s
    → Near (statement_at costs events syncs s) (statement_cost S (cost_at costs) s)
near_statement_at S costs events syncs e y (Stmt.Call m x) h = refl
near_statement_at S costs events syncs e y (Stmt.This m x) h = refl
near_statement_at S costs events syncs e y (Stmt.Register s) h =
    let here = ap (λ costs. get_or costs s.0 no_cost) y ∙ at_sync (cost_at costs) S.syncs s.0 h in
    near_plus one_registered one_registered (get_or syncs s.0 no_cost) (callbacks_cost (cost_at costs) (callbacks_of S s)) refl
    (ap capped here ∙ sym (capped_twice (callbacks_cost (cost_at costs) (callbacks_of S s))))
near_statement_at S costs events syncs e y (Stmt.Publish event) h =
    let here =
    ap (λ costs. get_or costs event.0 no_cost) e
    ∙ get_or-map-range_with_len (λ n. capped (event_cost S (cost_at costs) (record { 0 = n }))) 0 (length S.events) event.0 event.0 no_cost h (omega arith) in
    near_plus one one (get_or events event.0 no_cost) (event_cost S (cost_at costs) event) refl
    (ap capped here ∙ sym (capped_twice (event_cost S (cost_at costs) event)))
near_statement_at S costs events syncs e y _ h = refl

near_statements_at :
    (S : Scenario) (costs events syncs : List Cost) → events ≡ event_costs_of S (cost_at costs) → syncs ≡ sync_costs_of S (cost_at costs)
    → (body : List Stmt) → BodyInRange (length S.methods) (length S.events) (length S.syncs) body
    → Near (total (map (statement_at costs events syncs) body)) (total (map (statement_cost S (cost_at costs)) body))
near_statements_at S costs events syncs e y [] h = refl
near_statements_at S costs events syncs e y (s ∷ body) h =
    let P : Stmt → Type 0 = StatementInRange (length S.methods) (length S.events) (length S.syncs) in
    near_plus (statement_at costs events syncs s) (statement_cost S (cost_at costs) s)
    (total (map (statement_at costs events syncs) body)) (total (map (statement_cost S (cost_at costs)) body))
    (near_statement_at S costs events syncs e y s (All-head P s body h))
    (near_statements_at S costs events syncs e y body (All-tail P s body h))

-- a method's cost by the lists is its cost
pub method_cost_is :
    (S : Scenario) (costs events syncs : List Cost) (body : List Stmt) (result : Cost) → events ≡ event_costs_of S (cost_at costs)
    → syncs ≡ sync_costs_of S (cost_at costs) → BodyInRange (length S.methods) (length S.events) (length S.syncs) body
    → result ≡ capped (plus one (total (map (statement_at costs events syncs) body)))
    → result ≡ capped (body_cost S (cost_at costs) body)
method_cost_is S costs events syncs body result e y h is =
    is ∙ near_plus one one (total (map (statement_at costs events syncs) body)) (total (map (statement_cost S (cost_at costs)) body)) refl
    (near_statements_at S costs events syncs e y body h)

-- one item more
pub map_turn :
    {X Y : Type 0} (f : X → Y) (xs : List X) (n : ℕ) (x : X) (ys after : List Y) (y : Y) → ys ≡ map f (take n xs) → n < length xs
    → x ≡ get_or xs n x → y ≡ f x → after ≡ ys ++ y ∷ [] → after ≡ map f (take (n + 1) xs)
map_turn f xs n x ys after y so_far below here is pushed =
    pushed ∙ ap (λ ys. ys ++ y ∷ []) so_far ∙ ap (λ y. map f (take n xs) ++ y ∷ []) is
    ∙ sym (ap (map f) (take_more xs n x below) ∙ map-append f (take n xs) (get_or xs n x ∷ []) ∙ ap (λ z. map f (take n xs) ++ f z ∷ []) (sym here))

-- ---- rounds

pub first_costs : (S : Scenario) (costs : List Cost) → costs ≡ replicate (length S.methods) no_cost → AreCosts S 0 costs
unfolding cost_within
first_costs S costs e = record {
  count = ap length e ∙ length-replicate (length S.methods) no_cost;
  costs = λ m h.
      ap (λ costs. cost_at costs m) e
      ∙ get_or-replicate (length S.methods) m.0 no_cost no_cost (let count = ap length e ∙ length-replicate (length S.methods) no_cost in omega (arith, count, h));
}

costs_at :
    (S : Scenario) (f : MethodNo → Cost) (methods : List Method) (n : ℕ) → n < length methods
    → get_or (map (λ method. capped (body_cost S f method.body)) methods) n no_cost ≡ capped (body_cost S f (body_in (slice_get methods n)))
costs_at S f [] n h = absurd (omega arith)
costs_at S f (method ∷ methods) n h =
    get_or-map (λ method. capped (body_cost S f method.body)) (method ∷ methods) n method no_cost h
    ∙ ap (λ o. capped (body_cost S f (body_in o))) (sym (slice_get-get_or (method ∷ methods) n method h))

near_costs : (S : Scenario) (depth : ℕ) (costs : List Cost) → AreCosts S depth costs → (ms : List MethodNo) → ((m : MethodNo) → has_method ms m ≡ true → m.0 < length S.methods) → NearOn (cost_at costs) (cost_within S depth) ms
near_costs S depth costs are ms below m h =
    ap capped (are.costs m (let e = are.count in let less = below m h in omega (arith, e, less))) ∙ sym (capped_twice (cost_within S depth m))

pub costs_more :
    (S : Scenario) (depth : ℕ) (costs next : List Cost) → InRange S → AreCosts S depth costs
    → next ≡ map (λ method. capped (body_cost S (cost_at costs) method.body)) S.methods → AreCosts S (depth + 1) next
unfolding cost_within leads
costs_more S depth costs next range are e =
    let one_more : depth + 1 ≡ suc depth = omega arith in
    let count = ap length e ∙ length-map S.methods (λ method. capped (body_cost S (cost_at costs) method.body)) in
    subst (λ depth. AreCosts S depth next) (sym one_more) (record {
      count = count;
      costs = λ m h.
          ap (λ costs. cost_at costs m) e ∙ costs_at S (cost_at costs) S.methods m.0 (omega (arith, count, h))
          ∙ near_body S (cost_at costs) (cost_within S depth) (body_of S m) (near_costs S depth costs are (leads S m) (leads_below S range m));
    })

-- ---- clients

low_product : (u r c : ℕ) → u ≤ c → c ≤ r → min (u * (1 + c)) c ≡ min (u * (1 + r)) c
low_product zero r c low high = omega arith
low_product (suc u) r c low high = omega arith

min_product : (u r c : ℕ) → min (min u c * (1 + min r c)) c ≡ min (u * (1 + r)) c
min_product u r c = step (cases_lt c u) (cases_lt c r)
  where
    step : (c < u) ⊎ (u ≤ c) → (c < r) ⊎ (r ≤ c) → min (min u c * (1 + min r c)) c ≡ min (u * (1 + r)) c
    step (inr a) (inr b) = let e : min u c ≡ u = omega arith in let g : min r c ≡ r = omega arith in cc
    step (inr a) (inl b) =
        let e : min u c ≡ u = omega arith in let g : min r c ≡ c = omega arith in
        let less = low_product u r c a (omega arith) in cc
    step (inl a) _ = let e : min u c ≡ c = omega arith in rw e (omega arith)

min_sum : (w n c : ℕ) → min (min w c + min n c) c ≡ min (w + n) c
min_sum w n c = omega arith

sum_push : (ns : List ℕ) (n : ℕ) → sum (ns ++ n ∷ []) ≡ sum ns + n
sum_push ns n = sum_by-append (λ x. x) ns (n ∷ []) ∙ ap (λ k. sum ns + k) (omega arith)

near_calls :
    (f g : MethodNo → Cost) (calls : List MethodNo) → NearOn f g calls → Near (total (map f calls)) (total (map g calls))
near_calls f g [] near = refl
near_calls f g (m ∷ calls) near =
    near_plus (f m) (g m) (total (map f calls)) (total (map g calls)) (near m (has_itself m calls)) (near_calls f g calls (λ n h. near n (or_right _ _ h)))

-- one client more
pub client_turn :
    (S : Scenario) (depth : ℕ) (costs : List Cost) (clients : List (List MethodNo)) (n : ℕ) (calls : List MethodNo) (cost : Cost) (before client after : ℕ)
    → AreCosts S depth costs → MethodsInRange (length S.methods) calls
    → before ≡ min (sum (map (client_weight (cost_within S depth)) (take n clients))) cap → n < length clients → calls ≡ get_or clients n calls
    → cost ≡ capped (total (map (cost_at costs) calls)) → client ≡ min (weight_of cost) cap → after ≡ min (before + client) cap
    → after ≡ min (sum (map (client_weight (cost_within S depth)) (take (n + 1) clients))) cap
client_turn S depth costs clients n calls cost before client after are range so_far below here is weighed summed =
    let f : List MethodNo → ℕ = client_weight (cost_within S depth) in
    let same = is ∙ near_calls (cost_at costs) (cost_within S depth) calls (near_costs S depth costs are calls (row_below (length S.methods) calls range)) in
    let all = total (map (cost_within S depth) calls) in
    let weight : client ≡ min (f calls) cap =
    weighed ∙ ap (λ c. min (weight_of c) cap) same ∙ min_product all.size all.registrations cap in
    let front = ap (map f) (take_more clients n calls below) ∙ map-append f (take n clients) (get_or clients n calls ∷ []) ∙ ap (λ z. map f (take n clients) ++ f z ∷ []) (sym here) in
    let whole = ap sum front ∙ sum_push (map f (take n clients)) (f calls) in
    summed ∙ ap (λ w. min (w + client) cap) so_far ∙ ap (λ w. min (min (sum (map f (take n clients))) cap + w) cap) weight
    ∙ min_sum (sum (map f (take n clients))) (f calls) cap ∙ ap (λ w. min w cap) (sym whole)

-- ---- turns of the loops

-- one event more
pub event_turn :
    (S : Scenario) (of : MethodNo → Cost) (n : ℕ) (listeners : List Listener) (events after : List Cost) (cost : Cost)
    → events ≡ map (λ e. capped (event_cost S of (record { 0 = e }))) (range_with_len 0 n) → listeners ≡ S.listeners
    → cost ≡ capped (total (map (listener_cost of) (filter (λ l. l.event.0 == n) listeners))) → after ≡ events ++ cost ∷ []
    → after ≡ map (λ e. capped (event_cost S of (record { 0 = e }))) (range_with_len 0 (n + 1))
event_turn S of n listeners events after cost so_far same is pushed =
    let here = is ∙ ap (λ listeners. capped (total (map (listener_cost of) (filter (λ l. l.event.0 == n) listeners)))) same in
    pushed ∙ ap (λ ys. ys ++ cost ∷ []) so_far
    ∙ ap (λ y. map (λ e. capped (event_cost S of (record { 0 = e }))) (range_with_len 0 n) ++ y ∷ []) here
    ∙ sym (map-range_with_len_more (λ e. capped (event_cost S of (record { 0 = e }))) 0 n n (omega arith))

-- what a method's body may name
pub body_fits :
    (S : Scenario) (costs events syncs : List Cost) (methods : List Method) (method : Method) (body : List Stmt) (n : ℕ) → InRange S
    → length costs ≡ length S.methods → events ≡ event_costs_of S (cost_at costs) → syncs ≡ sync_costs_of S (cost_at costs)
    → methods ≡ S.methods → n < length methods → method ≡ get_or methods n method → body ≡ method.body
    → BodyInRange (length costs) (length events) (length syncs) body
body_fits S costs events syncs methods method body n range count e y same below here of_method =
    let of_item =
    item_keeps (λ method. BodyInRange (length S.methods) (length S.events) (length S.syncs) method.body)
    methods S.methods n method same below here range.methods in
    let of_costs = subst (λ k. BodyInRange k (length S.events) (length S.syncs) method.body) (sym count) of_item in
    let event_count = ap length e ∙ length-map-range_with_len (λ e. capped (event_cost S (cost_at costs) (record { 0 = e }))) 0 (length S.events) in
    let sync_count = ap length y ∙ length-map S.syncs (λ sync. capped (callbacks_cost (cost_at costs) (callbacks sync))) in
    let of_events = subst (λ k. BodyInRange (length costs) k (length S.syncs) method.body) (sym event_count) of_costs in
    let of_syncs = subst (λ k. BodyInRange (length costs) (length events) k method.body) (sym sync_count) of_events in
    subst (λ body. BodyInRange (length costs) (length events) (length syncs) body) (sym of_method) of_syncs

-- one method more
pub method_turn :
    (S : Scenario) (costs events syncs : List Cost) (methods : List Method) (method : Method) (body : List Stmt) (n : ℕ)
    (next after : List Cost) (cost : Cost) → InRange S → events ≡ event_costs_of S (cost_at costs)
    → syncs ≡ sync_costs_of S (cost_at costs) → methods ≡ S.methods → n < length methods → method ≡ get_or methods n method → body ≡ method.body
    → next ≡ map (λ method. capped (body_cost S (cost_at costs) method.body)) (take n S.methods)
    → cost ≡ capped (plus one (total (map (statement_at costs events syncs) body))) → after ≡ next ++ cost ∷ []
    → after ≡ map (λ method. capped (body_cost S (cost_at costs) method.body)) (take (n + 1) S.methods)
method_turn S costs events syncs methods method body n next after cost range e y same below here of_method so_far is pushed =
    let of_item =
    item_keeps (λ method. BodyInRange (length S.methods) (length S.events) (length S.syncs) method.body)
    methods S.methods n method same below here range.methods in
    let of_body = ap (λ body. capped (plus one (total (map (statement_at costs events syncs) body)))) of_method in
    map_turn (λ method. capped (body_cost S (cost_at costs) method.body)) S.methods n method next after cost so_far
    (let e = ap length same in omega (arith, e, below)) (here ∙ ap (λ xs. get_or xs n method) same)
    (method_cost_is S costs events syncs method.body cost e y of_item (is ∙ of_body)) pushed
