-- What pieces of a script spend, beside what the registrations still owe: a registration is paid for where it is made, and
-- each round takes its share. What is counted is a parameter: notes that are read, or lines that are said.
use Rattle.std.proofs.Common.{◌≡◌, ℕ, ◌+◌, ◌*◌, ◌≤◌, Bool, true, false, Option, Some, None, subst, arith}
use Rattle.std.specs.List.{sum_by}
use Rattle.stx_scenario.specs.declared.numbers.ClassNo.{ClassNo}
use Rattle.stx_base.specs.declared.call.Want.{Want}
use Rattle.stx_base.specs.declared.history.Answer.{Answer}
use Rattle.stx_base.specs.declared.history.PoolNote.{PoolNote}
use Rattle.stx_base.specs.declared.history.StoreNote.{StoreNote}
use Rattle.stx_base.specs.declared.history.Note.{Note}
use Rattle.stx_base.specs.declared.line.Line.{Line}
use Rattle.stx_base.specs.Notes.{is_answer}
use Rattle.stx_model.specs.Contexts.{Context, Registration, registered}
use Rattle.stx_base.specs.declared.cost.Cost.{Cost}
use Rattle.stx_base.specs.Weight.{no_cost, one, one_registered, plus}
use Rattle.stx_model.specs.Meanings.{State, Result, Over, Stops, Breaks, Meaning, and_then, finally, say, with_context, with_local, unread, hear, answered, ask, on_take, on_begin, on_access}
use Rattle.stx_model.proofs.Apart.{hear_keeps}

-- ---- what is counted

-- what a line comes to that is said: a call and a registration have their own prices, and the lines of suspension and
-- resumption none
abbrev pub price : ℕ → ℕ → ℕ → Line → ℕ
price call register other (Line.Call m p r) = call
price call register other (Line.Register l) = register
price call register other (Line.Suspend l) = 0
price call register other (Line.Resume l) = 0
price call register other _ = other

-- a count that grows with what is heard and said, and how costs pay for it
pub record Measure : Type 0 where
  pub spent : State → ℕ
  pub note : ℕ
  pub line : ℕ
  pub call : ℕ
  pub register : ℕ
  pub weigh : Cost → ℕ
  pub heard : (n : Note) (st : State) → spent (hear n st) ≤ spent st + note
  pub said : (l : Line) (st : State) → spent (say l st) ≤ spent st + price call register line l
  pub in_context : (c : Context) (st : State) → spent (with_context c st) ≡ spent st
  pub marked : (b : Option Bool) (st : State) → spent (with_local b st) ≡ spent st
  pub weighs_none : weigh no_cost ≡ 0
  pub weighs_both : (a b : Cost) → weigh (plus a b) ≡ weigh a + weigh b
  pub pays_call : call + 4 * note + 8 * line ≤ weigh one
  pub pays_registration : register + 12 * line ≤ weigh one_registered

-- ---- what registrations owe

-- how much a registration may still spend
abbrev pub Owed : Type 0
Owed = Registration → ℕ

-- all of them together; nothing where no synchronisation is active
abbrev pub owes : Owed → Context → ℕ
owes o context = sum_by o (registered context.syncs)

-- ---- spending

module _ (M : Measure) where
  -- from where so much was spent a piece spends at most so much, and at its end what is owed is among it
  abbrev pub Spends : Owed → ℕ → ℕ → Result → Type 0
  Spends o u n (Over x after) = M.spent after + owes o after.context ≤ u + n
  Spends o u n (Stops w after) = M.spent after ≤ u + n
  Spends o u n (Breaks after) = M.spent after ≤ u + n

  -- a piece spends at most so much more than its registrations owed and owe no longer
  abbrev pub Costs : Owed → ℕ → Meaning → Type 0
  Costs o n meaning = (st : State) → Spends o (M.spent st) (owes o st.context + n) (meaning st)

  pub spends_within : (o : Owed) (u v n m : ℕ) (r : Result) → u + n ≤ v + m → Spends o u n r → Spends o v m r
  spends_within o u v n m (Over x st) le h = omega (arith, le, h)
  spends_within o u v n m (Stops w st) le h = omega (arith, le, h)
  spends_within o u v n m (Breaks st) le h = omega (arith, le, h)

  pub costs_more : (o : Owed) (n m : ℕ) (meaning : Meaning) → n ≤ m → Costs o n meaning → Costs o m meaning
  costs_more o n m meaning le costs st = spends_within o (M.spent st) (M.spent st) (owes o st.context + n) (owes o st.context + m) (meaning st) (omega (arith, le)) (costs st)

  -- a line is said, and then the rest
  pub says : (o : Owed) (l : Line) (k n : ℕ) (next : Meaning) (st : State) → price M.call M.register M.line l + k ≤ n → Costs o k next
      → Spends o (M.spent st) (owes o st.context + n) (next (say l st))
  says o l k n next st le costs = spends_within o (M.spent (say l st)) (M.spent st) (owes o st.context + k) (owes o st.context + n) (next (say l st)) (omega (arith, le, M.said l st)) (costs (say l st))

  -- after a piece that left this state
  goes_on : (o : Owed) (u n m : ℕ) (st : State) (r : Result) → M.spent st + owes o st.context ≤ u + n → Spends o (M.spent st) (owes o st.context + m) r → Spends o u (n + m) r
  goes_on o u n m st r first then = spends_within o (M.spent st) u (owes o st.context + m) (n + m) r (omega (arith, first)) then

  pub finally_spends : (o : Owed) (u n m : ℕ) (r : Result) (next : Option ClassNo → Meaning) → Spends o u n r → ((x : Option ClassNo) → Costs o m (next x)) → Spends o u (n + m) (finally r next)
  finally_spends o u n m (Over x st) next first then = goes_on o u n m st (next x st) first (then x st)
  finally_spends o u n m (Stops w st) next first then = omega (arith, first)
  finally_spends o u n m (Breaks st) next first then = omega (arith, first)

  pub and_then_spends : (o : Owed) (u n m : ℕ) (r : Result) (next : Meaning) → Spends o u n r → Costs o m next → Spends o u (n + m) (and_then r next)
  and_then_spends o u n m (Over None st) next first then = goes_on o u n m st (next st) first (then st)
  and_then_spends o u n m (Over (Some x) st) next first then = omega (arith, first)
  and_then_spends o u n m (Stops w st) next first then = omega (arith, first)
  and_then_spends o u n m (Breaks st) next first then = omega (arith, first)

  pub either_spends : (o : Owed) (u n : ℕ) (b : Bool) (first second : Result) → Spends o u n first → Spends o u n second → Spends o u n (elim b [ true ↦ first | false ↦ second ])
  either_spends o u n true first second h i = h
  either_spends o u n false first second h i = i

  -- one note, and then the rest
  pub ask_costs : (o : Owed) (w : Want) (next : Note → Meaning) (k : ℕ) → ((n : Note) → Costs o k (next n)) → Costs o (M.note + k) (ask w next)
  unfolding ask
  ask_costs o w next k costs st = by_note (unread w st)
    where
      nothing : M.spent st ≤ M.spent st + (owes o st.context + (M.note + k))
      nothing = omega arith

      heard : (n : Note) (r : Result) → Spends o (M.spent (hear n st)) (owes o st.context + k) r → Spends o (M.spent st) (owes o st.context + (M.note + k)) r
      heard n r h = spends_within o (M.spent (hear n st)) (M.spent st) (owes o st.context + k) (owes o st.context + (M.note + k)) r (omega (arith, M.heard n st)) h

      by_note : (n : Option Note) → Spends o (M.spent st) (owes o st.context + (M.note + k)) (answered w next st n)
      by_note None = nothing
      by_note (Some n) =
          either_spends o (M.spent st) (owes o st.context + (M.note + k)) (is_answer w n) (next n (hear n st)) (Breaks st)
          (heard n (next n (hear n st)) (subst (λ c. Spends o (M.spent (hear n st)) (owes o c + k) (next n (hear n st))) (hear_keeps n st).0 (costs n (hear n st)))) nothing

  pub nothing_spent : (o : Owed) (n : ℕ) (x : Option ClassNo) (st : State) → Spends o (M.spent st) (owes o st.context + n) (Over x st)
  nothing_spent o n x st = omega arith

  -- it ends after a line
  pub said_last : (o : Owed) (l : Line) (n : ℕ) (x : Option ClassNo) (st : State) → price M.call M.register M.line l ≤ n → Spends o (M.spent st) (owes o st.context + n) (Over x (say l st))
  said_last o l n x st le = omega (arith, le, M.said l st)

  pub broken : (o : Owed) (n : ℕ) (st : State) → Spends o (M.spent st) (owes o st.context + n) (Breaks st)
  broken o n st = omega arith

  pub take_costs : (o : Owed) (k : ℕ) (next : Option ℕ → Meaning) → ((c : Option ℕ) → Costs o k (next c)) → (n : Note) → Costs o k (on_take next n)
  take_costs o k next costs (Note.Pool (PoolNote.Taken c)) st = costs (Some c) st
  take_costs o k next costs (Note.Pool PoolNote.Empty) st = costs None st
  take_costs o k next costs (Note.Pool (PoolNote.Given c)) st = broken o k st
  take_costs o k next costs (Note.Store n) st = broken o k st

  pub begin_costs : (o : Owed) (k : ℕ) (next : ℕ → Meaning) → ((t : ℕ) → Costs o k (next t)) → (n : Note) → Costs o k (on_begin next n)
  begin_costs o k next costs (Note.Store (StoreNote.Begin t)) st = costs t st
  begin_costs o k next costs n st = broken o k st

  pub access_costs : (o : Owed) (k : ℕ) (next : Answer → Meaning) → ((r : Answer) → Costs o k (next r)) → (n : Note) → Costs o k (on_access next n)
  access_costs o k next costs (Note.Store (StoreNote.Access t a r)) st = costs r st
  access_costs o k next costs (Note.Store (StoreNote.Auto a r)) st = costs r st
  access_costs o k next costs n st = broken o k st
