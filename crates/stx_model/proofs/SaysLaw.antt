-- How many lines the scripts of all clients say together: at most sixteen for each unit of weight.
use Rattle.std.proofs.Common.{◌≡◌, ℕ, zero, suc, ◌+◌, ◌*◌, ◌<◌, ◌≤◌, List, [], ◌∷◌, length, map, Option, Some, None, refl, sym, ap, ◌∙◌, subst, arith}
use Rattle.std.specs.Prelude.{slice_get, unwrap_or}
use Rattle.std.specs.List.{sum_by}
use Rattle.std.proofs.Math.Nat.{add-mul, mul-add, mul-le-mul_left, mul_comm}
use Rattle.std.proofs.lemmas.List.Elements.{All-head}
use Rattle.std.proofs.lemmas.List.Sums.{sum_by-cons, sum_by_push, sum-map}
use Rattle.stx_scenario.specs.declared.numbers.MethodNo.{MethodNo}
use Rattle.stx_scenario.specs.declared.scenario.Scenario.{Scenario}
use Rattle.stx_base.specs.declared.cost.Cost.{Cost}
use Rattle.stx_base.specs.declared.history.Note.{Note}
use Rattle.stx_base.specs.declared.history.PoolNote.{PoolNote}
use Rattle.stx_base.specs.declared.history.StoreNote.{StoreNote}
use Rattle.stx_base.specs.declared.line.Line.{Line}
use Rattle.stx_base.specs.Histories.{sum_below}
use Rattle.stx_base.specs.Notes.{note_line}
use Rattle.stx_base.specs.Weight.{InRange, MethodsInRange, HasNoCycle, leads, cost, cost_within, total, client_weight, weight}
use Rattle.stx_base.proofs.ValidLaws.{entry_of}
use Rattle.stx_model.specs.Laws.{SaysWithin}
use Rattle.stx_model.specs.Meanings.{State, at_first, state_of, hear}
use Rattle.stx_model.specs.Script.{script, tops, calls_of}
use Rattle.stx_model.proofs.Spending.{Measure, price}
use Rattle.stx_model.proofs.ScriptCosts.{script_costs}
use Rattle.stx_model.proofs.ReadsLaw.{costed, sum_below_within, sum_below_items}
use Rattle.stx_model.proofs.Pausing.{pausing, registering, calling, script_pauses}

-- ---- what is counted

note_price : (call register line : ℕ) (n : Note) → price call register line (note_line n) ≡ line
note_price call register line (Note.Pool (PoolNote.Taken c)) = refl
note_price call register line (Note.Pool PoolNote.Empty) = refl
note_price call register line (Note.Pool (PoolNote.Given c)) = refl
note_price call register line (Note.Store (StoreNote.Begin t)) = refl
note_price call register line (Note.Store (StoreNote.Access t a r)) = refl
note_price call register line (Note.Store (StoreNote.Point t)) = refl
note_price call register line (Note.Store (StoreNote.BackTo t)) = refl
note_price call register line (Note.Store (StoreNote.Release t)) = refl
note_price call register line (Note.Store (StoreNote.Commit t n)) = refl
note_price call register line (Note.Store (StoreNote.Rollback t)) = refl
note_price call register line (Note.Store (StoreNote.Auto a r)) = refl

heard_price : (call register line : ℕ) (n : Note) (st : State) → sum_by (price call register line) (hear n st).lines ≤ sum_by (price call register line) st.lines + line
heard_price call register line (Note.Pool n) st = omega (arith, sum_by_push (price call register line) st.lines (note_line (Note.Pool n)), note_price call register line (Note.Pool n))
heard_price call register line (Note.Store n) st = omega (arith, sum_by_push (price call register line) st.lines (note_line (Note.Store n)), note_price call register line (Note.Store n))

-- the registrations that have their lines
registrations_said : Measure
registrations_said = record {
  spent = λ st. sum_by registering st.lines;
  note = 0;
  line = 0;
  call = 0;
  register = 1;
  weigh = λ c. c.registrations;
  heard = λ n st. heard_price 0 1 0 n st;
  said = λ l st. omega (arith, sum_by_push registering st.lines l);
  in_context = λ c st. refl;
  marked = λ b st. refl;
  weighs_none = refl;
  weighs_both = λ a b. refl;
  pays_call = omega arith;
  pays_registration = omega arith;
}

-- all lines but those of suspensions and resumptions, for which each call pays so many
lines_said : ℕ → Measure
lines_said paid = record {
  spent = λ st. sum_by (price (1 + paid) 1 1) st.lines;
  note = 1;
  line = 1;
  call = 1 + paid;
  register = 1;
  weigh = λ c. (13 + paid) * c.size;
  heard = λ n st. heard_price (1 + paid) 1 1 n st;
  said = λ l st. omega (arith, sum_by_push (price (1 + paid) 1 1) st.lines l);
  in_context = λ c st. refl;
  marked = λ b st. refl;
  weighs_none = omega arith;
  weighs_both = λ a b. mul-add (13 + paid) a.size b.size;
  pays_call = omega arith;
  pays_registration = omega arith;
}

-- each line is one of a suspension or a resumption, or it has its price
each_line : (paid : ℕ) (l : Line) → 1 + calling paid l ≡ pausing l + price (1 + paid) 1 1 l
each_line paid (Line.Call m p r) = omega arith
each_line paid _ = refl

all_lines : (paid : ℕ) (lines : List Line) → length lines + sum_by (calling paid) lines ≡ sum_by pausing lines + sum_by (price (1 + paid) 1 1) lines
all_lines paid [] = refl
all_lines paid (l ∷ lines) = omega (
  arith,
  all_lines paid lines,
  each_line paid l,
  sum_by-cons (calling paid) l lines,
  sum_by-cons pausing l lines,
  sum_by-cons (price (1 + paid) 1 1) l lines,
)

-- ---- what calls come to

registrations_of : (of : MethodNo → Cost) (calls : List MethodNo) → sum_by (λ m. 0 + (of m).registrations) calls ≡ (total (map of calls)).registrations
registrations_of of [] = refl
registrations_of of (m ∷ calls) = omega (arith, registrations_of of calls, sum_by-cons (λ m. 0 + (of m).registrations) m calls)

lines_of : (of : MethodNo → Cost) → ((m : MethodNo) → 1 ≤ (of m).size) → (paid : ℕ) (calls : List MethodNo)
    → sum_by (λ m. 1 + (13 + paid) * (of m).size) calls ≤ (14 + paid) * (total (map of calls)).size
lines_of of sized paid [] = omega arith
lines_of of sized paid (m ∷ calls) = omega (
  arith,
  lines_of of sized paid calls,
  sized m,
  sum_by-cons (λ m. 1 + (13 + paid) * (of m).size) m calls,
  mul-add (14 + paid) (of m).size (total (map of calls)).size,
  add-mul 14 paid (of m).size,
  add-mul 13 paid (of m).size,
)

sixteen_each : (size registrations : ℕ) → (14 + (registrations + registrations)) * size ≤ 16 * (size * (1 + registrations))
sixteen_each size registrations = omega (
  arith,
  add-mul 14 (registrations + registrations) size,
  add-mul registrations registrations size,
  mul-add size 1 registrations,
  mul_comm size registrations,
)

-- ---- scripts

-- where there are methods, each costs something
sized : (S : Scenario) (n : ℕ) → length S.methods ≡ suc n → (m : MethodNo) → 1 ≤ (cost S m).size
unfolding cost_within
sized S n is m = subst (λ k. 1 ≤ (cost_within S k m).size) (sym is) (omega arith)

module _ (S : Scenario) (range : InRange S) (acyclic : HasNoCycle (leads S) (length S.methods)) where
  -- the script of one client registers at most what its calls register
  script_registers : (c : ℕ) (pool : List PoolNote) (store : List StoreNote) → sum_by registering (state_of (script S c pool store)).lines ≤ (total (map (cost S) (calls_of S c))).registrations
  unfolding registrations_said
  script_registers c pool store =
      let says = script_costs registrations_said S (cost S) (costed registrations_said S range acyclic (λ m past. omega arith)) c pool store in
      omega (arith, says, registrations_of (cost S) (calls_of S c))

  script_says : (n : ℕ) → length S.methods ≡ suc n → (c : ℕ) (pool : List PoolNote) (store : List StoreNote)
      → length (state_of (script S c pool store)).lines ≤ 16 * client_weight (cost S) (calls_of S c)
  unfolding lines_said
  script_says n is c pool store =
      let all : Cost = total (map (cost S) (calls_of S c)) in
      let R : ℕ = (total (map (cost S) (calls_of S c))).registrations in
      let lines : List Line = (state_of (script S c pool store)).lines in
      let past : (m : MethodNo) → slice_get S.methods m.0 ≡ None → 2 * 1 ≤ (13 + (R + R)) * (cost S m).size =
      λ m gone. omega (arith, mul-le-mul_left (13 + (R + R)) (sized S n is m)) in
      let says : sum_by (price (1 + (R + R)) 1 1) lines ≤ 0 + sum_by (λ m. 1 + (13 + (R + R)) * (cost S m).size) (calls_of S c) =
      script_costs (lines_said (R + R)) S (cost S) (costed (lines_said (R + R)) S range acyclic past) c pool store in
      let pauses : sum_by pausing lines ≤ sum_by (calling (R + R)) lines = script_pauses R S c pool store (script_registers c pool store) in
      let calls : sum_by (λ m. 1 + (13 + (R + R)) * (cost S m).size) (calls_of S c) ≤ (14 + (R + R)) * all.size = lines_of (cost S) (sized S n is) (R + R) (calls_of S c) in
      let last : (14 + (R + R)) * all.size ≤ 16 * (all.size * (1 + R)) = sixteen_each all.size R in
      let whole : length lines + sum_by (calling (R + R)) lines ≡ sum_by pausing lines + sum_by (price (1 + (R + R)) 1 1) lines = all_lines (R + R) lines in
      omega (arith, says, pauses, calls, last, whole)

  -- where there are no methods a client calls none
  calls_none : length S.methods ≡ 0 → (c : ℕ) → calls_of S c ≡ []
  calls_none none c = by (slice_get S.clients c) refl
    where
      empty : (calls : List MethodNo) → MethodsInRange (length S.methods) calls → calls ≡ []
      empty [] all = refl
      empty (m ∷ calls) all = let below = All-head (λ m. m.0 < length S.methods) m calls all in absurd (omega (arith, below, none))

      by : (o : Option (List MethodNo)) → slice_get S.clients c ≡ o → unwrap_or o [] ≡ []
      by None there = refl
      by (Some calls) there = empty calls (entry_of (MethodsInRange (length S.methods)) S.clients c calls range.clients there)

  says_none : length S.methods ≡ 0 → (c : ℕ) (pool : List PoolNote) (store : List StoreNote) → length (state_of (script S c pool store)).lines ≡ 0
  unfolding script tops
  says_none none c pool store = ap (λ calls. length (state_of (tops S 0 calls (at_first pool store))).lines) (calls_none none c)

  -- the script of one client says at most sixteen lines for each unit of its calls' weight
  client_says : (c : ℕ) (pool : List PoolNote) (store : List StoreNote) → length (state_of (script S c pool store)).lines ≤ 16 * client_weight (cost S) (calls_of S c)
  client_says c pool store = by (length S.methods) refl
    where
      by : (n : ℕ) → length S.methods ≡ n → length (state_of (script S c pool store)).lines ≤ 16 * client_weight (cost S) (calls_of S c)
      by zero none = omega (arith, says_none none c pool store)
      by (suc n) is = script_says n is c pool store

-- ---- all clients together

pub says_within : SaysWithin
says_within S range acyclic pool store =
    let of : List MethodNo → ℕ = client_weight (cost S) in
    let each : sum_below (length S.clients) (λ c. length (state_of (script S c (pool c) (store c))).lines) ≤ 16 * sum_below (length S.clients) (λ c. of (calls_of S c)) =
    sum_below_within (length S.clients) 16 (λ c. length (state_of (script S c (pool c) (store c))).lines) (λ c. of (calls_of S c)) (λ c. client_says S range acyclic c (pool c) (store c)) in
    let all : sum_below (length S.clients) (λ c. of (calls_of S c)) ≡ weight S = sum_below_items of [] S.clients ∙ sym (sum-map of S.clients) in
    omega arith
