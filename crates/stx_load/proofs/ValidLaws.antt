-- The generated scenario is valid, whatever the seed and however many clients there are.
use Rattle.std.proofs.Common.{◌≡◌, ℕ, zero, suc, ◌+◌, ◌*◌, ◌/◌, ◌^◌, ◌<◌, ◌≤◌, min, Bool, true, false, cond, ◌&&◌, nat_lt, nat_le, List, [], ◌∷◌, ◌++◌, length, map, codes, Option, Some, None, inl, inr, refl, sym, ap, ◌∙◌, arith}
use Rattle.std.specs.Prelude.{pos, sum, slice_get}
use Rattle.std.specs.Fmt.{digits}
use Rattle.std.specs.List.{All, fold, list_all, range_with_len}
use Rattle.std.proofs.lemmas.Bool.{and_parts, cases_lt, lt-ltb, le-leb, le-ltb}
use Rattle.std.proofs.lemmas.Nat.{mod_below}
use Rattle.std.proofs.lemmas.List.Elements.{All-nil, All-cons, All-head, All-tail, All-append, All-from_recursion}
use Rattle.std.proofs.lemmas.List.FromFn.{length-map-range_with_len}
use Rattle.stx_scenario.specs.declared.numbers.MethodNo.{MethodNo}
use Rattle.stx_scenario.specs.declared.scenario.Method.{Method}
use Rattle.stx_scenario.specs.declared.scenario.Stmt.{Stmt}
use Rattle.stx_scenario.specs.declared.limits.TheConstants.{MOST_CALLS, MOST_CLIENTS, MOST_METHODS, MOST_STATEMENTS, MOST_TURNS}
use Rattle.stx_scenario.specs.Names.{is_name, duplicate_from}
use Rattle.stx_base.specs.declared.cost.Cost.{Cost}
use Rattle.stx_base.specs.Valid.{is_method, names_known, own_known, IsShaped}
use Rattle.stx_base.specs.Weight.{leads, longest, body_cost, body_in, client_weight, cost, cost_within, total, weight, weight_of}
use Rattle.stx_names.specs.Duplicates.{duplicate_among, names_of}
use Rattle.stx_names.specs.Integers.{is_pool}
use Rattle.stx_refusals.specs.declared.fault.Fault.{Fault}
use Rattle.stx_refusals.specs.declared.fault.ReadFault.{ReadFault}
use Rattle.stx_refusals.specs.declared.fault.Stage.{Stage}
use Rattle.stx_refusals.specs.Faults.{count_faults, count_stage, each_from, entry, first_at, first_some, refused, under, unless}
use Rattle.stx_judge.specs.Calls.{call_cycle, call_depth, leads_to_itself, too_large}
use Rattle.stx_judge.specs.Judge.{IsValid, beans_faults, body_faults, callback_faults, class_cycle, class_depth, classes_faults, client_faults, clients_faults, events_faults, judged, listeners_faults, method_faults, methods_faults, name_faults, rows_faults, scenario_faults, schedule_faults, settings_faults, syncs_faults, turn_faults, tx_faults}
use Rattle.stx_load.specs.declared.payments.Payment.{Payment}
use Rattle.stx_load.specs.Draws.{after, draw, next_state}
use Rattle.stx_load.specs.Generated.{calls_from, generated, helpers, bean_no, payment, payment_body, payment_method, method_no, payments, two_digits}

-- ---- what no draw changes computes

pub no_duplicates : (seed clients : ℕ) → duplicate_among (names_of (generated seed clients)) ≡ None
unfolding generated duplicate_from digits
no_duplicates seed clients = refl

pub no_class_cycle : (seed clients : ℕ) → class_cycle (generated seed clients) ≡ None
unfolding generated
no_class_cycle seed clients = refl

pub no_class_depth : (seed clients : ℕ) → class_depth (generated seed clients) ≡ None
unfolding generated
no_class_depth seed clients = refl

pub no_callback_fault : (seed clients : ℕ) → first_at Stage.CallbackBody (callback_faults (generated seed clients)) ≡ None
unfolding generated callback_faults first_at
no_callback_fault seed clients = refl

pub no_call_cycle : (seed clients : ℕ) → call_cycle (generated seed clients) ≡ None
unfolding generated leads leads_to_itself
no_call_cycle seed clients = refl

pub no_call_depth : (seed clients : ℕ) → call_depth (generated seed clients) ≡ None
unfolding generated leads longest
no_call_depth seed clients = refl

-- ---- tests and lists of faults

both : (a b : Bool) → a ≡ true → b ≡ true → (a && b) ≡ true
both a b one two = rw (one, two) refl

passed : (path : List ℕ) (b : Bool) (stage : Stage) → b ≡ true → refused path (unless b stage) ≡ []
passed path b stage h = rw h refl

none_both : (xs ys : List Fault) → xs ≡ [] → ys ≡ [] → xs ++ ys ≡ []
none_both xs ys one two = rw (one, two) refl

-- a count within its bounds
counted : (path : List ℕ) (least most n : ℕ) (low high : Bool) → low ≡ false → high ≡ true
    → refused path (cond low (Some Stage.OutOfRange) (unless high Stage.TooMany)) ≡ []
counted path least most n low high enough few = rw (enough, few) refl

few_enough : (path : List ℕ) (most n : ℕ) → n ≤ most → count_faults most path n ≡ []
few_enough path most n few = counted path 0 most n (nat_lt n 0) (nat_le n most) (grind arith) (le-leb n most few)

each_none : {A : Type 0} (F : ℕ → A → List Fault) (k : ℕ) (xs : List A) → All (λ x. (n : ℕ) → F n x ≡ []) xs → each_from F k xs ≡ []
each_none F k [] all = refl
each_none F k (x ∷ xs) all =
    none_both (F k x) (each_from F (k + 1) xs) (All-head (λ y. (n : ℕ) → F n y ≡ []) x xs all k)
    (each_none F (k + 1) xs (All-tail (λ y. (n : ℕ) → F n y ≡ []) x xs all))

-- what holds of f at each number of a range holds of each member of the list
of_range : {A : Type 0} (P : A → Type 0) (f : ℕ → A) (a n : ℕ) → ((t : ℕ) → a ≤ t → t < a + n → P (f t)) → All P (map f (range_with_len a n))
of_range P f a zero holds = All-nil P
of_range P f a (suc n) holds =
    All-cons P (f a) (map f (range_with_len (a + 1) n)) (holds a (omega arith) (omega arith))
    (of_range P f (a + 1) n (λ t low high. holds t (omega (arith, low)) (omega (arith, high))))

-- a test that passes over a whole range passes at each number of it
at_each : (p : ℕ → Bool) (a n t : ℕ) → list_all p (range_with_len a n) ≡ true → a ≤ t → t < a + n → p t ≡ true
at_each p a zero t all low high = absurd (omega (arith, low, high))
at_each p a (suc n) t all low high =
    let parts = and_parts (p a) (list_all p (range_with_len (a + 1) n)) all in
    elim (cases_lt a t) [
      | inl later ↦ at_each p (a + 1) n t parts.1 (omega (arith, later)) (omega (arith, high))
      | inr here ↦ let same : a ≡ t = omega (arith, here, low) in ap p (sym same) ∙ parts.0
    ]

-- ---- draws are below what was asked for

draw_below : (x n : ℕ) → 0 < n → draw x n < n
unfolding draw
draw_below x n some = mod_below (next_state x / 2 ^ 33) n some

from_below : (x : ℕ) → (payment x).from < 16
from_below x = draw_below x 16 (omega arith)

to_below : (x : ℕ) → (payment x).to < 16
to_below x = mod_below ((payment x).from + 1 + draw (after x 1) 15) 16 (omega arith)

-- ---- methods

payment_names : list_all (λ t. is_name (codes "t" ++ two_digits t)) (range_with_len 0 64) ≡ true
unfolding digits
payment_names = refl

body_none : (seed clients : ℕ) (p : Payment) (path : List ℕ) → p.from < 16 → p.to < 16
    → body_faults (generated seed clients) (bean_no 0) path (payment_body p) ≡ []
unfolding generated
body_none seed clients p path from to =
    let one = lt-ltb p.from 19 (omega (arith, from)) in
    let other = lt-ltb p.to 19 (omega (arith, to)) in
    let faults : ℕ → Stmt → List Fault = λ n s. refused (entry path n) (unless (names_known (generated seed clients) s && own_known (generated seed clients) (bean_no 0) s) Stage.UnknownRef) in
    let P : Stmt → Type 0 = λ s. (n : ℕ) → faults n s ≡ [] in
    none_both (count_faults MOST_STATEMENTS path 6) (each_from faults 0 (payment_body p)) refl
    (each_none faults 0 (payment_body p)
    (All-from_recursion P (payment_body p) (
      (λ n. passed (entry path n) (nat_lt p.from 19 && true) Stage.UnknownRef (both _ _ one refl)),
      (
        (λ n. passed (entry path n) (nat_lt p.from 19 && true) Stage.UnknownRef (both _ _ one refl)),
        (
          (λ n. passed (entry path n) (nat_lt p.to 19 && true) Stage.UnknownRef (both _ _ other refl)),
          ((λ n. refl), ((λ n. refl), ((λ n. refl), tt))),
        ),
      ),
    )))

method_none : (seed clients n t : ℕ) (p : Payment) → is_name (codes "t" ++ two_digits t) ≡ true → p.from < 16 → p.to < 16
    → method_faults (generated seed clients) n (payment_method t p) ≡ []
unfolding generated
method_none seed clients n t p name from to =
    let S = generated seed clients in
    let path = entry (codes "methods") n in
    let bean = refused (under path (codes "bean")) (unless (nat_lt 0 (length S.beans)) Stage.UnknownRef) in
    let body = body_faults S (bean_no 0) (under path (codes "body")) (payment_body p) in
    let named = name_faults path (codes "t" ++ two_digits t) in
    let tx = tx_faults S path None in
    none_both (bean ++ named ++ tx) body
    (none_both (bean ++ named) tx
    (none_both bean named refl (passed (under path (codes "name")) (is_name (codes "t" ++ two_digits t)) Stage.BadName name)) refl)
    (body_none seed clients p (under path (codes "body")) from to)

methods_none : (seed clients : ℕ) → methods_faults (generated seed clients) ≡ []
unfolding generated
methods_none seed clients =
    let S = generated seed clients in
    let P : Method → Type 0 = λ method. (n : ℕ) → method_faults S n method ≡ [] in
    none_both (count_faults MOST_METHODS (codes "methods") 67) (each_from (method_faults S) 0 (payments seed ++ helpers)) refl
    (each_none (method_faults S) 0 (payments seed ++ helpers)
    (All-append P (payments seed) helpers
    (of_range P (λ t. payment_method t (payment (after seed (3 * t)))) 0 64
    (λ t low high n. method_none seed clients n t (payment (after seed (3 * t))) (at_each (λ k. is_name (codes "t" ++ two_digits k)) 0 64 t payment_names low high)
    (from_below (after seed (3 * t))) (to_below (after seed (3 * t)))))
    (All-from_recursion P helpers ((λ n. refl), ((λ n. refl), ((λ n. refl), tt))))))

-- ---- the parts whose lengths the number of clients decides

count_of_clients : (seed clients : ℕ) → length (generated seed clients).clients ≡ clients
unfolding generated
count_of_clients seed clients = length-map-range_with_len (λ c. calls_from (after seed (192 + 8 * c))) 0 clients

count_of_turns : (seed clients : ℕ) → length (generated seed clients).schedule ≡ 200 * clients
unfolding generated
count_of_turns seed clients = length-map-range_with_len (λ n. draw (after seed (192 + 8 * clients + n)) clients) 0 (200 * clients)

schedule_none : (seed clients : ℕ) → 1 ≤ clients → clients ≤ 64 → schedule_faults (generated seed clients) ≡ []
unfolding generated
schedule_none seed clients some few =
    let S = generated seed clients in
    let count = count_of_clients seed clients in
    let P : ℕ → Type 0 = λ turn. (n : ℕ) → turn_faults S n turn ≡ [] in
    none_both (count_faults MOST_TURNS (codes "schedule") (length S.schedule)) (each_from (turn_faults S) 0 S.schedule)
    (few_enough (codes "schedule") MOST_TURNS (length S.schedule) (let long = count_of_turns seed clients in omega (arith, long, few)))
    (each_none (turn_faults S) 0 S.schedule
    (of_range P (λ n. draw (after seed (192 + 8 * clients + n)) clients) 0 (200 * clients)
    (λ t low high n.
    let turn = draw (after seed (192 + 8 * clients + t)) clients in
    let below = draw_below (after seed (192 + 8 * clients + t)) clients some in
    none_both (refused (entry (codes "schedule") n) (unless (nat_lt turn MOST_CLIENTS) Stage.OutOfRange)) (refused (entry (codes "schedule") n) (unless (nat_lt turn (length S.clients)) Stage.UnknownRef))
    (passed _ _ _ (lt-ltb turn MOST_CLIENTS (omega (arith, below, few))))
    (passed _ _ _ (lt-ltb turn (length S.clients) (omega (arith, below, count)))))))

client_none : (seed clients n x : ℕ) → client_faults (generated seed clients) n (calls_from x) ≡ []
unfolding generated
client_none seed clients n x =
    let S = generated seed clients in
    let path = under (entry (codes "clients") n) (codes "calls") in
    let faults : ℕ → MethodNo → List Fault = λ k m. refused (entry path k) (unless (is_method S m) Stage.UnknownRef) in
    let P : MethodNo → Type 0 = λ m. (k : ℕ) → faults k m ≡ [] in
    none_both (count_faults MOST_CALLS path 8) (each_from faults 0 (calls_from x)) refl
    (each_none faults 0 (calls_from x)
    (of_range P (λ k. method_no (draw (after x k) 64)) 0 8
    (λ k low high at. passed _ _ _ (lt-ltb (draw (after x k) 64) 67 (let below = draw_below (after x k) 64 (omega arith) in omega (arith, below))))))

clients_none : (seed clients : ℕ) → 1 ≤ clients → clients ≤ 64 → clients_faults (generated seed clients) ≡ []
unfolding generated
clients_none seed clients some few =
    let S = generated seed clients in
    let count = count_of_clients seed clients in
    let P : List MethodNo → Type 0 = λ calls. (n : ℕ) → client_faults S n calls ≡ [] in
    none_both (refused (codes "clients") (count_stage 1 MOST_CLIENTS (length S.clients))) (each_from (client_faults S) 0 S.clients)
    (counted (codes "clients") 1 MOST_CLIENTS (length S.clients) (nat_lt (length S.clients) 1) (nat_le (length S.clients) MOST_CLIENTS)
    (let long = count in grind (arith, long, some)) (le-leb (length S.clients) MOST_CLIENTS (omega (arith, count, few))))
    (each_none (client_faults S) 0 S.clients
    (of_range P (λ c. calls_from (after seed (192 + 8 * c))) 0 clients (λ c low high n. client_none seed clients n (after seed (192 + 8 * c)))))

pool_in_range : (clients : ℕ) → is_pool (pos (min 64 (clients + 1))) ≡ true
pool_in_range clients = both _ _ (le-leb 1 (min 64 (clients + 1)) (omega arith)) (le-leb (min 64 (clients + 1)) 64 (omega arith))

faults_none : (seed clients : ℕ) → 1 ≤ clients → clients ≤ 64 → scenario_faults (generated seed clients) ≡ []
unfolding generated scenario_faults digits
faults_none seed clients some few =
    let S = generated seed clients in
    none_both _ (clients_faults S)
    (none_both _ (listeners_faults S)
    (none_both _ (syncs_faults S)
    (none_both _ (methods_faults S)
    (none_both _ (beans_faults S)
    (none_both _ (classes_faults S)
    (none_both _ (rows_faults S)
    (none_both _ (settings_faults S)
    (none_both (events_faults S) (schedule_faults S) refl (schedule_none seed clients some few))
    (passed (codes "settings.pool") (is_pool (pos (min 64 (clients + 1)))) Stage.OutOfRange (pool_in_range clients)))
    refl) refl) refl) (methods_none seed clients)) refl) refl)
    (clients_none seed clients some few)

-- ---- the weight: each client makes eight payments, of size 16 and one registration each

mapped_same : {A B : Type 0} (g : A → B) (h : ℕ → A) (b : B) → ((n : ℕ) → g (h n) ≡ b) → (ns : List ℕ) → map g (map h ns) ≡ map (λ n. b) ns
mapped_same g h b same [] = refl
mapped_same g h b same (n ∷ ns) = ap (λ first. first ∷ map g (map h ns)) (same n) ∙ ap (λ rest. b ∷ rest) (mapped_same g h b same ns)

slice_mapped : {A : Type 0} (f : ℕ → A) (a n t : ℕ) (more : List A) → t < n → slice_get (map f (range_with_len a n) ++ more) t ≡ Some (f (a + t))
slice_mapped f a zero t more within = absurd (omega (arith, within))
slice_mapped f a (suc n) zero more within = let same : a ≡ a + 0 = omega arith in ap (λ k. Some (f k)) same
slice_mapped f a (suc n) (suc t) more within =
    let same : a + 1 + t ≡ a + suc t = omega arith in slice_mapped f (a + 1) n t more (omega (arith, within)) ∙ ap (λ k. Some (f k)) same

sum_same : (each so_far a n : ℕ) → fold (λ s k. s + k) so_far (map (λ m. each) (range_with_len a n)) ≡ so_far + each * n
sum_same each so_far a zero = grind arith
sum_same each so_far a (suc n) =
    let next : so_far + each + each * n ≡ so_far + each * suc n = grind arith in
    sum_same each (so_far + each) (a + 1) n ∙ next

payment_cost : Cost
payment_cost = record { size = 16; registrations = 1 }

cost_of_payment : (seed clients t : ℕ) → t < 64 → cost (generated seed clients) (method_no t) ≡ payment_cost
unfolding generated cost_within payment_cost
cost_of_payment seed clients t within =
    let S = generated seed clients in
    let made : ℕ → Method = λ k. payment_method k (payment (after seed (3 * k))) in
    ap (λ method. body_cost S (cost_within S 66) (body_in method)) (slice_mapped made 0 64 t helpers within)

client_cost : (seed clients x : ℕ) → client_weight (cost (generated seed clients)) (calls_from x) ≡ 1152
unfolding payment_cost
client_cost seed clients x =
    ap (λ costs. weight_of (total costs))
    (mapped_same (cost (generated seed clients)) (λ n. method_no (draw (after x n) 64)) payment_cost
    (λ n. cost_of_payment seed clients (draw (after x n) 64) (draw_below (after x n) 64 (omega arith))) (range_with_len 0 8))

pub weight_of_clients : (seed clients : ℕ) → weight (generated seed clients) ≡ 1152 * clients
unfolding generated
weight_of_clients seed clients =
    let S = generated seed clients in
    ap sum (mapped_same (client_weight (cost S)) (λ c. calls_from (after seed (192 + 8 * c))) 1152
    (λ c. client_cost seed clients (after seed (192 + 8 * c))) (range_with_len 0 clients))
    ∙ sum_same 1152 0 0 clients ∙ omega arith

light : (seed clients : ℕ) → clients ≤ 64 → too_large (generated seed clients) ≡ None
light seed clients few =
    let weighs = weight_of_clients seed clients in
    let within : nat_lt 200000 (weight (generated seed clients)) ≡ false = le-ltb 200000 (weight (generated seed clients)) (omega (arith, weighs, few)) in
    ap (λ (b : Bool). cond b (Some ReadFault.TooLarge) None) within

-- ---- the whole

next_stage : (o : Option ReadFault) (more : List (Option ReadFault)) → o ≡ None → first_some more ≡ None → first_some (o ∷ more) ≡ None
next_stage o more none rest = rw none rest

no_fault_at : (stage : Stage) (faults : List Fault) → faults ≡ [] → first_at stage faults ≡ None
unfolding first_at
no_fault_at stage faults none = rw none refl

accepted : (seed clients : ℕ) → 1 ≤ clients → clients ≤ 64 → judged (generated seed clients) ≡ None
unfolding judged
accepted seed clients some few =
    let none = faults_none seed clients some few in
    next_stage _ _ (no_fault_at Stage.BadName _ none)
    (next_stage _ _ (no_fault_at Stage.OutOfRange _ none)
    (next_stage _ _ (no_fault_at Stage.TooMany _ none)
    (next_stage _ _ (no_duplicates seed clients)
    (next_stage _ _ (no_fault_at Stage.BadWord _ none)
    (next_stage _ _ (no_fault_at Stage.UnknownRef _ none)
    (next_stage _ _ (no_class_cycle seed clients)
    (next_stage _ _ (no_class_depth seed clients)
    (next_stage _ _ (no_callback_fault seed clients)
    (next_stage _ _ (no_call_cycle seed clients)
    (next_stage _ _ (no_call_depth seed clients)
    (next_stage _ [] (light seed clients few) refl)))))))))))

shaped : (seed clients : ℕ) → clients ≤ 64 → IsShaped (generated seed clients)
unfolding generated duplicate_from
shaped seed clients few =
    let turns = count_of_turns seed clients in
    let count = count_of_clients seed clients in
    search (arith, turns, count, few)

pub generated_valid : (seed clients : ℕ) → 1 ≤ clients → clients ≤ 64 → IsValid (generated seed clients)
generated_valid seed clients some few = record { shaped = shaped seed clients few; accepted = accepted seed clients some few }
