-- How many notes the scripts of all clients read together: at most eight for each unit of weight.
use Rattle.std.proofs.Common.{◌≡◌, ℕ, zero, suc, ◌+◌, ◌*◌, ◌≤◌, List, [], ◌∷◌, length, map, Option, Some, None, refl, sym, ap, ◌∙◌, arith}
use Rattle.std.specs.Prelude.{◌-◌, slice_get, unwrap_or}
use Rattle.std.specs.List.{sum_by}
use Rattle.std.specs.Option.{option_and_then}
use Rattle.std.proofs.Math.Nat.{le-mul_of_pos_right}
use Rattle.std.proofs.lemmas.List.{length-drop}
use Rattle.std.proofs.lemmas.List.Sums.{sum_by-cons, sum-map}
use Rattle.std.proofs.lemmas.Option.{slice_get_within}
use Rattle.stx_scenario.specs.declared.numbers.MethodNo.{MethodNo}
use Rattle.stx_scenario.specs.declared.scenario.Scenario.{Scenario}
use Rattle.stx_scenario.specs.declared.scenario.Method.{Method}
use Rattle.stx_base.specs.declared.cost.Cost.{Cost}
use Rattle.stx_base.specs.declared.history.PoolNote.{PoolNote}
use Rattle.stx_base.specs.declared.history.StoreNote.{StoreNote}
use Rattle.stx_base.specs.declared.history.Note.{Note}
use Rattle.stx_base.specs.Attributes.{method_attribute}
use Rattle.stx_base.specs.Histories.{sum_below}
use Rattle.stx_base.specs.Weight.{InRange, HasNoCycle, one, body_in, body_of, leads, statement_cost, cost, total, client_weight, weight}
use Rattle.stx_base.proofs.WeightLaws.{acyclic_from, cost_is}
use Rattle.stx_model.specs.Laws.{ReadsWithin}
use Rattle.stx_model.specs.Meanings.{State, hear}
use Rattle.stx_model.specs.Reads.{count_unread, notes_read}
use Rattle.stx_model.specs.Script.{calls_of}
use Rattle.stx_model.proofs.Spending.{Measure}
use Rattle.stx_model.proofs.ScriptCosts.{IsCosted, There, Past, script_costs}

-- ---- what is counted

hear_reads : (n : Note) (st : State) → count_unread st ≤ 1 + count_unread (hear n st)
hear_reads (Note.Pool n) st = omega (arith, length-drop 1 st.pool)
hear_reads (Note.Store n) st = omega (arith, length-drop 1 st.store)

-- the notes that are read, of so many that were given
notes : ℕ → Measure
notes given = record {
  spent = λ st. given - count_unread st;
  note = 1;
  line = 0;
  call = 0;
  register = 0;
  weigh = λ c. 8 * c.size;
  heard = λ n st. omega (arith, hear_reads n st);
  said = λ l st. omega arith;
  in_context = λ c st. refl;
  marked = λ b st. refl;
  weighs_none = refl;
  weighs_both = λ a b. omega arith;
  pays_call = omega arith;
  pays_registration = omega arith;
}

-- ---- what methods cost

-- where no method leads to itself, a cost is what the statements make it
pub costed : (M : Measure) (S : Scenario) → InRange S → HasNoCycle (leads S) (length S.methods) → ((m : MethodNo) → slice_get S.methods m.0 ≡ None → 2 * M.line ≤ M.weigh (cost S m))
    → (m : MethodNo) → IsCosted M S (cost S) m
costed M S range acyclic gone m = by (slice_get S.methods m.0) refl
  where
    by : (o : Option Method) → slice_get S.methods m.0 ≡ o → IsCosted M S (cost S) m
    by None past = Past (ap body_in past) (ap (option_and_then (method_attribute S)) past) (gone m past)
    by (Some method) there =
        let is = cost_is S m (acyclic_from S range acyclic) (slice_get_within S.methods m.0 method there) in
        There (omega (arith, ap M.weigh is, M.weighs_both one (total (map (statement_cost S (cost S)) (body_of S m)))))

-- ---- scripts

eight_each : (of : MethodNo → Cost) (calls : List MethodNo) → sum_by (λ m. 0 + 8 * (of m).size) calls ≡ 8 * (total (map of calls)).size
eight_each of [] = refl
eight_each of (m ∷ calls) = omega (arith, eight_each of calls, sum_by-cons (λ m. 0 + 8 * (of m).size) m calls)

-- sizes are weighed at least once
size_within : (c : Cost) → c.size ≤ c.size * (1 + c.registrations)
size_within c = le-mul_of_pos_right c.size (omega arith)

-- the script of one client reads at most eight notes for each unit of its calls' weight
script_reads : (S : Scenario) → ((given : ℕ) (m : MethodNo) → IsCosted (notes given) S (cost S) m) → (c : ℕ) (pool : List PoolNote) (store : List StoreNote)
    → notes_read S c pool store ≤ 8 * client_weight (cost S) (calls_of S c)
unfolding notes
script_reads S costs c pool store =
    let reads = script_costs (notes (length pool + length store)) S (cost S) (costs (length pool + length store)) c pool store in
    let once = size_within (total (map (cost S) (calls_of S c))) in
    omega (arith, reads, once, eight_each (cost S) (calls_of S c))

pub client_reads : (S : Scenario) → InRange S → HasNoCycle (leads S) (length S.methods) → (c : ℕ) (pool : List PoolNote) (store : List StoreNote)
    → notes_read S c pool store ≤ 8 * client_weight (cost S) (calls_of S c)
unfolding notes
client_reads S range acyclic = script_reads S (λ given. costed (notes given) S range acyclic (λ m past. omega arith))

-- ---- all clients together

sum_below_first : (n : ℕ) (f : ℕ → ℕ) → sum_below (suc n) f ≡ f 0 + sum_below n (λ i. f (suc i))
sum_below_first zero f = omega arith
sum_below_first (suc n) f = let rest : sum_below (suc n) f ≡ f 0 + sum_below n (λ i. f (suc i)) = sum_below_first n f in omega arith

pub sum_below_within : (n b : ℕ) (f g : ℕ → ℕ) → ((i : ℕ) → f i ≤ b * g i) → sum_below n f ≤ b * sum_below n g
sum_below_within zero b f g each = omega arith
sum_below_within (suc n) b f g each =
    let rest : sum_below n f ≤ b * sum_below n g = sum_below_within n b f g each in
    let last : f n ≤ b * g n = each n in
    omega arith

-- the sum over the places of a list is that over its items
pub sum_below_items : {X : Type 0} (weight : X → ℕ) (default : X) (xs : List X) → sum_below (length xs) (λ i. weight (unwrap_or (slice_get xs i) default)) ≡ sum_by weight xs
sum_below_items weight default [] = refl
sum_below_items weight default (x ∷ xs) =
    sum_below_first (length xs) (λ i. weight (unwrap_or (slice_get (x ∷ xs) i) default))
    ∙ ap (λ n. weight x + n) (sum_below_items weight default xs)
    ∙ sym (sum_by-cons weight x xs)

pub reads_within : ReadsWithin
unfolding notes
reads_within S range acyclic pool store =
    let of : List MethodNo → ℕ = client_weight (cost S) in
    let each : sum_below (length S.clients) (λ c. notes_read S c (pool c) (store c)) ≤ 8 * sum_below (length S.clients) (λ c. of (calls_of S c)) =
    sum_below_within (length S.clients) 8 (λ c. notes_read S c (pool c) (store c)) (λ c. of (calls_of S c)) (λ c. client_reads S range acyclic c (pool c) (store c)) in
    let all : sum_below (length S.clients) (λ c. of (calls_of S c)) ≡ weight S = sum_below_items of [] S.clients ∙ sym (sum-map of S.clients) in
    omega arith
