-- Laws of rows: a row holds exactly the methods to which its method, event or synchronisation leads.
use Rattle.std.proofs.Common.{◌≡◌, ℕ, ◌+◌, ◌<◌, Bool, true, false, ◌||◌, ◌==◌, cond, List, [], ◌∷◌, ◌++◌, Some, length, refl, sym, ◌∙◌, ap, arith, filter, fold, get_or, subst, ⊎_elim}
use Rattle.std.specs.List.{All, flat_map, slice_get}
use Rattle.std.proofs.lemmas.Bool.{or_cases, false≢true}
use Rattle.std.proofs.lemmas.Bool.{ltb-true, ltb-false}
use Rattle.std.proofs.lemmas.List.{get_or_append_left, get_or_push, length-append}
use Rattle.std.proofs.lemmas.List.Elements.{All-head, All-tail, All-push}
use Rattle.std.proofs.lemmas.Option.{slice_get-get_or}
use Rattle.std.proofs.Math.Dec.{ltb}
use Rattle.std.proofs.lemmas.Grind.{flat_map-append}
use Rattle.std.proofs.Math.Bool.{or_assoc}
use Rattle.stx_scenario.specs.declared.numbers.MethodNo.{MethodNo}
use Rattle.stx_scenario.specs.declared.scenario.Scenario.{Scenario}
use Rattle.stx_scenario.specs.declared.scenario.Method.{Method}
use Rattle.stx_scenario.specs.declared.scenario.Listener.{Listener}
use Rattle.stx_scenario.specs.declared.scenario.SyncDecl.{SyncDecl}
use Rattle.stx_scenario.specs.declared.scenario.Stmt.{Stmt}
use Rattle.stx_base.specs.Weight.{body_in, called, calls, callbacks, callbacks_in, led, leads, has_method, StatementInRange, BodyInRange, MethodsInRange, InRange}
use Rattle.stx_base.proofs.WayLaws.{same_method}
use Rattle.stx_base.proofs.WeightLaws.{has_append}
use Rattle.stx_graph.specs.inner.Rows.{with_method, with_called, with_listener, with_led, sync_order, row_at, Same, AreRows, EventRows, SyncRows, event_calls, sync_calls}

-- these methods, and then those
abbrev pub Joins : List MethodNo → List MethodNo → List MethodNo → Type 0
Joins whole ms ns = (m : MethodNo) → has_method whole m ≡ (has_method ms m || has_method ns m)

or_none : (a : Bool) → a ≡ (a || false)
or_none true = refl
or_none false = refl

or_there : (a b : Bool) → (b ≡ true → a ≡ true) → a ≡ (a || b)
or_there true b h = refl
or_there false true h = absurd (false≢true (h refl))
or_there false false h = refl

joins_none : (ms : List MethodNo) → Joins ms ms []
joins_none ms m = or_none (has_method ms m)

joins_append : (whole ms part ns os : List MethodNo) → Joins part ms ns → Joins whole part os → Joins whole ms (ns ++ os)
joins_append whole ms part ns os first second m =
    second m ∙ ap (λ b. b || has_method os m) (first m) ∙ or_assoc (has_method ms m) (has_method ns m) (has_method os m)
    ∙ ap (λ b. has_method ms m || b) (sym (has_append ns os m))

joins_method : (ms : List MethodNo) (n : MethodNo) → Joins (with_method ms n) ms (n ∷ [])
joins_method ms n m = step (has_method ms n) refl
  where
    step : (b : Bool) → has_method ms n ≡ b → has_method (cond b ms (ms ++ n ∷ [])) m ≡ (has_method ms m || has_method (n ∷ []) m)
    step true e =
        or_there _ _ (λ h.
        ⊎_elim (λ here. ap (has_method ms) (sym (same_method n m here)) ∙ e) (λ later. absurd (false≢true later)) (or_cases _ _ h))
    step false e = has_append ms (n ∷ []) m

pub joins_methods : (ms ns : List MethodNo) → Joins (fold with_method ms ns) ms ns
joins_methods ms [] = joins_none ms
joins_methods ms (n ∷ ns) = joins_append _ ms (with_method ms n) (n ∷ []) ns (joins_method ms n) (joins_methods (with_method ms n) ns)

joins_same : (whole ms ns os : List MethodNo) → Same ns os → Joins whole ms ns → Joins whole ms os
joins_same whole ms ns os same joins m = joins m ∙ ap (λ b. has_method ms m || b) (same.tells m)

-- ---- callbacks

joins_called_once : (ms : List MethodNo) (s : Stmt) → Joins (with_called ms s) ms (called s)
joins_called_once ms (Stmt.Call n x) = joins_method ms n
joins_called_once ms _ = joins_none ms

joins_called : (ms : List MethodNo) (body : List Stmt) → Joins (fold with_called ms body) ms (calls body)
joins_called ms [] = joins_none ms
joins_called ms (s ∷ body) =
    joins_append _ ms (with_called ms s) (called s) (calls body) (joins_called_once ms s) (joins_called (with_called ms s) body)

abbrev heard_by : ℕ → List Listener → List MethodNo
heard_by event listeners = flat_map (λ l. calls l.body) (filter (λ l. l.event.0 == event) listeners)

joins_listeners :
    (event : ℕ) (ms : List MethodNo) (listeners : List Listener)
    → Joins (fold (with_listener event) ms listeners) ms (flat_map (λ l. calls l.body) (filter (λ l. l.event.0 == event) listeners))
joins_listeners event ms [] = joins_none ms
joins_listeners event ms (l ∷ listeners) =
    step (l.event.0 == event) (joins_listeners event ms listeners) (joins_listeners event (fold with_called ms l.body) listeners)
  where
    step :
        (b : Bool) → Joins (fold (with_listener event) ms listeners) ms (heard_by event listeners)
        → Joins (fold (with_listener event) (fold with_called ms l.body) listeners) (fold with_called ms l.body) (heard_by event listeners)
        → Joins (fold (with_listener event) (cond b (fold with_called ms l.body) ms) listeners) ms
        (flat_map (λ l. calls l.body) (cond b (l ∷ filter (λ l. l.event.0 == event) listeners) (filter (λ l. l.event.0 == event) listeners)))
    step true without with_it = joins_append _ ms (fold with_called ms l.body) (calls l.body) (heard_by event listeners) (joins_called ms l.body) with_it
    step false without with_it = without

pub event_same : (S : Scenario) (event : ℕ) → Same (fold (with_listener event) [] S.listeners) (event_calls S event)
event_same S event = record { tells = joins_listeners event [] S.listeners }

joins_more :
    (before whole : List MethodNo) (ss ts : List Stmt) → Joins before [] (calls ss) → Joins whole before (calls ts)
    → Joins whole [] (calls (ss ++ ts))
joins_more before whole ss ts first second =
    λ m. joins_append whole [] before (calls ss) (calls ts) first second m
    ∙ ap (λ ms. has_method [] m || has_method ms m) (sym (flat_map-append called ss ts))

abbrev after_one : SyncDecl → List MethodNo
after_one sync = fold with_called [] sync.before_commit

abbrev after_two : SyncDecl → List MethodNo
after_two sync = fold with_called (after_one sync) sync.before_completion

abbrev after_three : SyncDecl → List MethodNo
after_three sync = fold with_called (after_two sync) sync.after_commit

pub sync_same : (sync : SyncDecl) → Same (sync_order sync) (calls (callbacks sync))
sync_same sync = record {
  tells =
      joins_more (after_three sync) (sync_order sync) (sync.before_commit ++ sync.before_completion ++ sync.after_commit) sync.after_completion
      (joins_more (after_two sync) (after_three sync) (sync.before_commit ++ sync.before_completion) sync.after_commit
      (joins_more (after_one sync) (after_two sync) sync.before_commit sync.before_completion
      (joins_called [] sync.before_commit) (joins_called (after_one sync) sync.before_completion))
      (joins_called (after_two sync) sync.after_commit))
      (joins_called (after_three sync) sync.after_completion);
}

-- ---- methods

joins_led :
    (S : Scenario) (events syncs : List (List MethodNo)) → EventRows S events → SyncRows S syncs → (ms : List MethodNo) (s : Stmt)
    → StatementInRange (length S.methods) (length events) (length syncs) s → Joins (with_led events syncs ms s) ms (led S s)
joins_led S events syncs e y ms (Stmt.Call m x) h = joins_method ms m
joins_led S events syncs e y ms (Stmt.This m x) h = joins_method ms m
joins_led S events syncs e y ms (Stmt.Publish event) h =
    joins_same _ ms (row_at events event.0) _ (e.same event.0 (let e = e.whole in omega (arith, e, h))) (joins_methods ms (row_at events event.0))
joins_led S events syncs e y ms (Stmt.Register sync) h =
    joins_same _ ms (row_at syncs sync.0) _ (y.same sync.0 (let e = y.whole in omega (arith, e, h))) (joins_methods ms (row_at syncs sync.0))
joins_led S events syncs e y ms _ h = joins_none ms

joins_body :
    (S : Scenario) (events syncs : List (List MethodNo)) → EventRows S events → SyncRows S syncs → (ms : List MethodNo) (body : List Stmt)
    → BodyInRange (length S.methods) (length events) (length syncs) body
    → Joins (fold (with_led events syncs) ms body) ms (flat_map (led S) body)
joins_body S events syncs e y ms [] h = joins_none ms
joins_body S events syncs e y ms (s ∷ body) h =
    let P : Stmt → Type 0 = StatementInRange (length S.methods) (length events) (length syncs) in
    joins_append _ ms (with_led events syncs ms s) (led S s) (flat_map (led S) body)
    (joins_led S events syncs e y ms s (All-head P s body h))
    (joins_body S events syncs e y (with_led events syncs ms s) body (All-tail P s body h))

pub body_same :
    (S : Scenario) (events syncs : List (List MethodNo)) → EventRows S events → SyncRows S syncs → (body : List Stmt)
    → BodyInRange (length S.methods) (length events) (length syncs) body
    → Same (fold (with_led events syncs) [] body) (flat_map (led S) body)
body_same S events syncs e y body h = record { tells = joins_body S events syncs e y [] body h }

-- ---- one row more

pub rows_push :
    (count bound : ℕ) (of : ℕ → List MethodNo) (rows : List (List MethodNo)) (row : List MethodNo) → AreRows count bound of rows
    → MethodsInRange bound row → Same row (of count) → AreRows (count + 1) bound of (rows ++ row ∷ [])
rows_push count bound of rows row are range same = record {
  whole = length-append rows (row ∷ []) ∙ ap (λ n. n + 1) are.whole;
  range = All-push (MethodsInRange bound) rows row are.range range;
  same = λ n h. place n h (ltb n count) refl;
}
  where
    place : (n : ℕ) → n < count + 1 → (b : Bool) → ltb n count ≡ b → Same (row_at (rows ++ row ∷ []) n) (of n)
    place n h true e =
        let below : n < length rows = let less = ltb-true n count e in let all = are.whole in omega (arith, less, all) in
        rw (get_or_append_left rows (row ∷ []) [] n below) (are.same n (ltb-true n count e))
    place n h false e =
        let last : n ≡ count = let not_less = ltb-false n count e in omega (arith, h, not_less) in
        let here : row_at (rows ++ row ∷ []) n ≡ row = ap (row_at (rows ++ row ∷ [])) (last ∙ sym are.whole) ∙ get_or_push rows row [] (length rows) refl in
        rw (here, last) same

-- what all items keep the item of a turn keeps
pub item_keeps :
    {X : Type 0} (P : X → Type 0) (items whole : List X) (n : ℕ) (x : X) → items ≡ whole → n < length items → x ≡ get_or items n x
    → All P whole → P x
item_keeps P items whole n x same below here all =
    let P_all = subst (λ xs. All P xs) (sym same) all in
    subst P (sym here) (P_all n x below)

item_got :
    {X : Type 0} (items whole : List X) (n : ℕ) (x : X) → items ≡ whole → n < length items → x ≡ get_or items n x
    → slice_get whole n ≡ Some x
item_got items whole n x same below here =
    ap (λ xs. slice_get xs n) (sym same) ∙ slice_get-get_or items n x below ∙ ap Some (sym here)

pub event_pushed :
    (S : Scenario) (n bound : ℕ) (listeners : List Listener) (rows after : List (List MethodNo)) (row : List MethodNo)
    → AreRows n (length S.methods) (event_calls S) rows → listeners ≡ S.listeners → bound ≡ length S.methods
    → row ≡ fold (with_listener n) [] listeners → MethodsInRange bound row → after ≡ rows ++ row ∷ []
    → AreRows (n + 1) (length S.methods) (event_calls S) after
event_pushed S n bound listeners rows after row are same bounded made range pushed =
    let made_of = made ∙ ap (fold (with_listener n) []) same in
    let fits = subst (λ row. Same row (event_calls S n)) (sym made_of) (event_same S n) in
    let within = subst (λ bound. MethodsInRange bound row) bounded range in
    subst (λ rows. AreRows (n + 1) (length S.methods) (event_calls S) rows) (sym pushed)
    (rows_push n (length S.methods) (event_calls S) rows row are within fits)

pub sync_pushed :
    (S : Scenario) (n bound : ℕ) (syncs : List SyncDecl) (sync : SyncDecl) (rows after : List (List MethodNo)) (row : List MethodNo)
    → AreRows n (length S.methods) (sync_calls S) rows → syncs ≡ S.syncs → n < length syncs → sync ≡ get_or syncs n sync
    → bound ≡ length S.methods → row ≡ sync_order sync → MethodsInRange bound row → after ≡ rows ++ row ∷ []
    → AreRows (n + 1) (length S.methods) (sync_calls S) after
sync_pushed S n bound syncs sync rows after row are same below here bounded made range pushed =
    let of_sync = subst (λ row. Same row (calls (callbacks sync))) (sym made) (sync_same sync) in
    let fits = subst (λ o. Same row (calls (callbacks_in o))) (sym (item_got syncs S.syncs n sync same below here)) of_sync in
    let within = subst (λ bound. MethodsInRange bound row) bounded range in
    subst (λ rows. AreRows (n + 1) (length S.methods) (sync_calls S) rows) (sym pushed)
    (rows_push n (length S.methods) (sync_calls S) rows row are within fits)

-- what the rows of methods are asked for
abbrev pub method_leads : Scenario → ℕ → List MethodNo
method_leads S n = leads S (record { 0 = n })

leads_is : (S : Scenario) (n : ℕ) (method : Method) → slice_get S.methods n ≡ Some method → method_leads S n ≡ flat_map (led S) method.body
unfolding leads
leads_is S n method e = ap (λ o. flat_map (led S) (body_in o)) e

pub method_pushed :
    (S : Scenario) (n bound : ℕ) (methods : List Method) (method : Method) (body : List Stmt) (events syncs rows after : List (List MethodNo)) (row : List MethodNo)
    → AreRows n (length S.methods) (method_leads S) rows → EventRows S events → SyncRows S syncs
    → InRange S → methods ≡ S.methods → n < length methods → method ≡ get_or methods n method → body ≡ method.body
    → bound ≡ length S.methods → row ≡ fold (with_led events syncs) [] body → MethodsInRange bound row → after ≡ rows ++ row ∷ []
    → AreRows (n + 1) (length S.methods) (method_leads S) after
method_pushed S n bound methods method body events syncs rows after row are e y in_range same below here of_method bounded made range pushed =
    let of_item =
    item_keeps (λ method. BodyInRange (length S.methods) (length S.events) (length S.syncs) method.body)
    methods S.methods n method same below here in_range.methods in
    let of_events = subst (λ k. BodyInRange (length S.methods) k (length S.syncs) method.body) (sym e.whole) of_item in
    let of_syncs = subst (λ k. BodyInRange (length S.methods) (length events) k method.body) (sym y.whole) of_events in
    let body_within = subst (λ body. BodyInRange (length S.methods) (length events) (length syncs) body) (sym of_method) of_syncs in
    let of_body = subst (λ row. Same row (flat_map (led S) body)) (sym made) (body_same S events syncs e y body body_within) in
    let asked = leads_is S n method (item_got methods S.methods n method same below here) ∙ ap (flat_map (led S)) (sym of_method) in
    let fits = subst (λ ms. Same row ms) (sym asked) of_body in
    let within = subst (λ bound. MethodsInRange bound row) bounded range in
    subst (λ rows. AreRows (n + 1) (length S.methods) (method_leads S) rows) (sym pushed)
    (rows_push n (length S.methods) (method_leads S) rows row are within fits)
