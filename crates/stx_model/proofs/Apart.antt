-- A scope that gives its older context back leaves it as it was; a joined scope only marks.
use Rattle.std.proofs.Common.{◌≡◌, ℕ, Bool, true, false, List, [], ◌∷◌, ◌++◌, Option, Some, None, refl, sym, ap, ◌∙◌, subst, append_assoc}
use Rattle.std.specs.Prelude.{◌||◌}
use Rattle.stx_scenario.specs.declared.numbers.ClassNo.{ClassNo}
use Rattle.stx_scenario.specs.declared.numbers.MethodNo.{MethodNo}
use Rattle.stx_scenario.specs.declared.scenario.Scenario.{Scenario}
use Rattle.stx_scenario.specs.declared.scenario.Propagation.{Propagation}
use Rattle.stx_scenario.specs.declared.scenario.TxAttr.{TxAttr}
use Rattle.stx_base.specs.declared.manager.Action.{Action}
use Rattle.stx_base.specs.declared.call.Want.{Want}
use Rattle.stx_base.specs.declared.history.PoolNote.{PoolNote}
use Rattle.stx_base.specs.declared.history.StoreNote.{StoreNote}
use Rattle.stx_base.specs.declared.line.Line.{Line}
use Rattle.stx_base.specs.declared.line.Label.{Label}
use Rattle.stx_base.specs.declared.manager.Kind.{Kind}
use Rattle.stx_base.specs.declared.manager.Opening.{Opening}
use Rattle.stx_base.specs.declared.manager.Ending.{Ending}
use Rattle.stx_base.specs.declared.manager.Round.{Round}
use Rattle.stx_model.specs.Contexts.{Context, Live, is_active, ordered_labels}
use Rattle.stx_model.specs.Ending.{completion, completion_after, has_before_commit, ending}
use Rattle.stx_base.specs.declared.history.Note.{Note}
use Rattle.stx_base.specs.Notes.{is_answer}
use Rattle.stx_model.specs.Meanings.{State, Result, Over, Stops, Breaks, Meaning, finally, say, with_context, with_local, unread, hear, answered, ask, on_take, on_begin}
use Rattle.stx_model.specs.Opening.{opening, opening_in, opening_without, opening_within, owns_fresh}
use Rattle.stx_model.specs.Rounds.{Calls, round_of, stopping_round}
use Rattle.stx_model.specs.Scopes.{Scope, say_each, say_bind, say_unbind, suspended, resume, resumed, live_in, later_or, rolls, ruled, is_set, fresh_context, acts, completes, ends, in_scope, begins, opens, intercepted}
use Rattle.stx_model.specs.Assurances.{AtEnd, OnlyMarks, JoinedScopesOnlyMark, RequiresNewStandsApart}

-- ---- what holds at each end holds after pieces that go on

pub finally_at_end : (P : Option ClassNo → State → Type 0) (r : Result) (next : Option ClassNo → Meaning)
    → ((x : Option ClassNo) (st : State) → AtEnd (next x st) P) → AtEnd (finally r next) P
finally_at_end P (Over x st) next then = then x st
finally_at_end P (Stops w st) next then = tt
finally_at_end P (Breaks st) next then = tt

pub either_at_end : (P : Option ClassNo → State → Type 0) (b : Bool) (first second : Result) → AtEnd first P → AtEnd second P
    → AtEnd (elim b [ true ↦ first | false ↦ second ]) P
either_at_end P true first second one other = one
either_at_end P false first second one other = other

pub ask_at_end : (P : Option ClassNo → State → Type 0) (w : Want) (next : Note → Meaning) (st : State)
    → ((n : Note) → AtEnd (next n (hear n st)) P) → AtEnd (ask w next st) P
unfolding ask
ask_at_end P w next st then = by_note (unread w st)
  where
    by_note : (n : Option Note) → AtEnd (answered w next st n) P
    by_note None = tt
    by_note (Some n) = either_at_end P (is_answer w n) (next n (hear n st)) (Breaks st) (then n) tt

pub live_at_end : (P : Option ClassNo → State → Type 0) (tx : Option Live) (next : Live → Meaning) (st : State)
    → ((live : Live) → AtEnd (next live st) P) → AtEnd (live_in tx next st) P
live_at_end P (Some live) next st then = then live
live_at_end P None next st then = tt

pub hear_keeps : (n : Note) (st : State) → (hear n st).context ≡ st.context × (hear n st).local ≡ st.local
hear_keeps (Note.Pool n) st = (refl, refl)
hear_keeps (Note.Store n) st = (refl, refl)

take_at_end : (P : Option ClassNo → State → Type 0) (next : Option ℕ → Meaning) (n : Note) (st : State)
    → ((c : Option ℕ) → AtEnd (next c st) P) → AtEnd (on_take next n st) P
take_at_end P next (Note.Pool (PoolNote.Taken c)) st then = then (Some c)
take_at_end P next (Note.Pool PoolNote.Empty) st then = then None
take_at_end P next (Note.Pool (PoolNote.Given c)) st then = tt
take_at_end P next (Note.Store n) st then = tt

begin_at_end : (P : Option ClassNo → State → Type 0) (next : ℕ → Meaning) (n : Note) (st : State)
    → ((t : ℕ) → AtEnd (next t st) P) → AtEnd (on_begin next n st) P
begin_at_end P next (Note.Store (StoreNote.Begin t)) st then = then t
begin_at_end P next n st then = tt

-- ---- resumption

say_each_keeps : (line : Label → Line) (ls : List Label) (st : State) → (say_each line ls st).context ≡ st.context × (say_each line ls st).local ≡ st.local
say_each_keeps line [] st = (refl, refl)
say_each_keeps line (l ∷ ls) st = say_each_keeps line ls (say (line l) st)

-- the context is the older one, and the local mark as it was
abbrev pub Apart : Context → Option Bool → Option ClassNo → State → Type 0
Apart older outer x after = (after.context ≡ older) × (after.local ≡ outer)

pub bind_keeps : (older : Context) (tx : Option Live) (st : State) → (say_bind tx (with_context older st)).context ≡ older
bind_keeps older (Some live) st = refl
bind_keeps older None st = refl

bind_local : (tx : Option Live) (st : State) → (say_bind tx st).local ≡ st.local
bind_local (Some live) st = refl
bind_local None st = refl

pub resume_gives : (older : Context) (st : State) → (resume older st).context ≡ older
resume_gives older st = (say_each_keeps Line.Resume (ordered_labels older.syncs) (say_bind older.tx (with_context older st))).0 ∙ bind_keeps older older.tx st

-- ---- a scope with an older context gives it back

module _ (S : Scenario) (calls : Calls) (scope : Scope) (older : Context) (is_older : scope.older ≡ Some older) where
  abbrev Gives : List Action → Type 0
  Gives actions = (x : Option ClassNo) (st : State) → AtEnd (acts S calls scope actions x st) (Apart older scope.outer)

  resumes : Gives (Action.Resumption ∷ [])
  unfolding acts
  resumes x st = subst (λ o. AtEnd (acts S calls scope [] x (resumed o st)) (Apart older scope.outer)) (sym is_older) (resume_gives older st, refl)

  before_completion : (rest : List Action) → Gives rest → Gives (Action.RoundBeforeCompletion ∷ rest)
  unfolding acts
  before_completion rest gives x st = finally_at_end (Apart older scope.outer) _ (λ _. acts S calls scope rest x) (λ y after. gives x after)

  after_commit : (rest : List Action) → Gives rest → Gives (Action.RoundAfterCommit ∷ rest)
  unfolding acts
  after_commit rest gives x st =
      finally_at_end (Apart older scope.outer) _ (λ y. acts S calls scope rest (later_or y x)) (λ y after. gives (later_or y x) after)

  after_completion : (committed : Bool) (rest : List Action) → Gives rest → Gives (Action.RoundAfterCompletion committed ∷ rest)
  unfolding acts
  after_completion committed rest gives x st = finally_at_end (Apart older scope.outer) _ (λ _. acts S calls scope rest x) (λ y after. gives x after)

  -- a call on what the context has bound
  asks : (want : Live → Want) (rest : List Action) → Gives rest → (x : Option ClassNo) (st : State)
      → AtEnd (live_in st.context.tx (λ live. ask (want live) (λ _. acts S calls scope rest x)) st) (Apart older scope.outer)
  asks want rest gives x st =
      live_at_end (Apart older scope.outer) st.context.tx _ st (λ live. ask_at_end (Apart older scope.outer) (want live) (λ _. acts S calls scope rest x) st (λ n. gives x (hear n st)))

  commit : (rest : List Action) → Gives rest → Gives (Action.CommitStore ∷ rest)
  unfolding acts
  commit rest gives x st = asks (λ live. Want.Commit live.transaction) rest gives x st

  rollback : (rest : List Action) → Gives rest → Gives (Action.RollbackStore ∷ rest)
  unfolding acts
  rollback rest gives x st = asks (λ live. Want.Rollback live.transaction) rest gives x st

  give_back : (rest : List Action) → Gives rest → Gives (Action.GiveBack ∷ rest)
  unfolding acts
  give_back rest gives x st = asks (λ live. Want.Give live.connection) rest gives x st

  unexpected : (rest : List Action) → Gives rest → Gives (Action.ThrowUnexpected ∷ rest)
  unfolding acts
  unexpected rest gives x st = gives _ _

  -- each completion of a fresh scope
  rolls_fresh : Gives (completion Kind.Fresh Ending.Rollback)
  unfolding completion
  rolls_fresh =
      before_completion _ (rollback _ (after_completion false _ (give_back _ resumes)))

  completion_gives : (e : Ending) → Gives (completion Kind.Fresh e)
  unfolding completion
  completion_gives Ending.Commit =
      before_completion _ (commit _ (after_commit _ (after_completion true _ (give_back _ resumes))))
  completion_gives Ending.Rollback = rolls_fresh
  completion_gives Ending.Unexpected =
      before_completion _ (rollback _ (after_completion false _ (unexpected _ (give_back _ resumes))))

  -- a fresh scope, however it ends
  completes_fresh : scope.kind ≡ Kind.Fresh → (e : Ending) (x : Option ClassNo) (st : State) → AtEnd (completes S calls scope e x st) (Apart older scope.outer)
  unfolding completes
  completes_fresh fresh Ending.Commit x st =
      subst (λ k. AtEnd (elim (has_before_commit k Ending.Commit) [
        | true ↦ finally (round_of scope.owns (stopping_round S calls Round.BeforeCommit) st) (λ y. acts S calls scope (completion_after k Ending.Commit y) (later_or y x))
        | false ↦ acts S calls scope (completion k Ending.Commit) x st
      ]) (Apart older scope.outer)) (sym fresh)
      (finally_at_end (Apart older scope.outer) _ (λ y. acts S calls scope (completion_after Kind.Fresh Ending.Commit y) (later_or y x)) after_round)
    where
      after_round : (y : Option ClassNo) (after : State) → AtEnd (acts S calls scope (completion_after Kind.Fresh Ending.Commit y) (later_or y x) after) (Apart older scope.outer)
      after_round None after = completion_gives Ending.Commit (later_or None x) after
      after_round (Some y) after = rolls_fresh (later_or (Some y) x) after
  completes_fresh fresh Ending.Rollback x st =
      subst (λ k. AtEnd (elim (has_before_commit k Ending.Rollback) [
        | true ↦ finally (round_of scope.owns (stopping_round S calls Round.BeforeCommit) st) (λ y. acts S calls scope (completion_after k Ending.Rollback y) (later_or y x))
        | false ↦ acts S calls scope (completion k Ending.Rollback) x st
      ]) (Apart older scope.outer)) (sym fresh) (completion_gives Ending.Rollback x st)
  completes_fresh fresh Ending.Unexpected x st =
      subst (λ k. AtEnd (elim (has_before_commit k Ending.Unexpected) [
        | true ↦ finally (round_of scope.owns (stopping_round S calls Round.BeforeCommit) st) (λ y. acts S calls scope (completion_after k Ending.Unexpected y) (later_or y x))
        | false ↦ acts S calls scope (completion k Ending.Unexpected) x st
      ]) (Apart older scope.outer)) (sym fresh) (completion_gives Ending.Unexpected x st)

  empty_commits : Gives (completion Kind.Empty Ending.Commit)
  unfolding completion
  empty_commits = before_completion _ (after_commit _ (after_completion true _ resumes))

  empty_rolls_back : Gives (completion Kind.Empty Ending.Rollback)
  unfolding completion
  empty_rolls_back = before_completion _ (after_completion false _ resumes)

  -- an empty scope that suspended something, however it ends
  pub completes_empty : scope.kind ≡ Kind.Empty → (rolled local : Bool) (x : Option ClassNo) (context : Context) (st : State)
      → AtEnd (completes S calls scope (ending Kind.Empty rolled local context) x st) (Apart older scope.outer)
  unfolding completes
  completes_empty empty rolled local x context st =
      subst (λ k. AtEnd (elim (has_before_commit k (ending Kind.Empty rolled local context)) [
        | true ↦ finally (round_of scope.owns (stopping_round S calls Round.BeforeCommit) st) (λ y. acts S calls scope (completion_after k (ending Kind.Empty rolled local context) y) (later_or y x))
        | false ↦ acts S calls scope (completion k (ending Kind.Empty rolled local context)) x st
      ]) (Apart older scope.outer)) (sym empty) (by (rolled || local))
    where
      after_round : (y : Option ClassNo) (after : State) → AtEnd (acts S calls scope (completion_after Kind.Empty Ending.Commit y) (later_or y x) after) (Apart older scope.outer)
      after_round None after = empty_commits (later_or None x) after
      after_round (Some y) after = empty_rolls_back (later_or (Some y) x) after

      by : (either : Bool) → AtEnd (elim (has_before_commit Kind.Empty (elim either [ true ↦ Ending.Rollback | false ↦ Ending.Commit ])) [
        | true ↦ finally (round_of scope.owns (stopping_round S calls Round.BeforeCommit) st)
            (λ y. acts S calls scope (completion_after Kind.Empty (elim either [ true ↦ Ending.Rollback | false ↦ Ending.Commit ]) y) (later_or y x))
        | false ↦ acts S calls scope (completion Kind.Empty (elim either [ true ↦ Ending.Rollback | false ↦ Ending.Commit ])) x st
      ]) (Apart older scope.outer)
      by true = empty_rolls_back x st
      by false = finally_at_end (Apart older scope.outer) _ (λ y. acts S calls scope (completion_after Kind.Empty Ending.Commit y) (later_or y x)) after_round

-- ---- requires_new

module _ (S : Scenario) (calls : Calls) (m : MethodNo) (a : TxAttr) (run : Meaning) (older : Context) where
  fresh_in_scope : (owns : Bool) (outer : Option Bool) (st : State)
      → AtEnd (in_scope S calls (record { method = m; kind = Kind.Fresh; owns = owns; older = Some older; outer = outer }) a run st) (Apart older outer)
  unfolding in_scope ends
  fresh_in_scope owns outer st =
      let scope : Scope = record { method = m; kind = Kind.Fresh; owns = owns; older = Some older; outer = outer } in
      finally_at_end (Apart older outer) (run (with_local (Some false) (say (Line.Opened Kind.Fresh owns) st))) (ends S calls scope a)
      (λ x after. completes_fresh S calls scope older refl refl (ending Kind.Fresh (rolls S a.rules x) (is_set after.local) after.context) x
      (say (Line.End (ending Kind.Fresh (rolls S a.rules x) (is_set after.local) after.context)) (ruled S a.rules x after)))

  begins_apart : (owns : Bool) (c : Option ℕ) (st : State) → AtEnd (begins S calls m a run owns older c st) (Apart older st.local)
  unfolding begins
  begins_apart owns (Some c) st =
      ask_at_end (Apart older st.local) Want.Begin _ st (λ n. begin_at_end (Apart older st.local) _ n (hear n st)
      (λ t. subst (λ l. AtEnd (in_scope S calls (record { method = m; kind = Kind.Fresh; owns = owns; older = Some older; outer = (hear n st).local }) a run
      (with_context (fresh_context c t a.read_only owns) (hear n st))) (Apart older l)) (hear_keeps n st).1
      (fresh_in_scope owns (hear n st).local (with_context (fresh_context c t a.read_only owns) (hear n st)))))
  begins_apart owns None st =
      (resume_gives older st, (say_each_keeps Line.Resume (ordered_labels older.syncs) (say_bind older.tx (with_context older st))).1 ∙ bind_local older.tx (with_context older st))

pub suspended_local : (suspends : Bool) (st : State) → (suspended suspends st).local ≡ st.local
suspended_local false st = refl
suspended_local true st = unbind_local st.context.tx (say_each Line.Suspend (ordered_labels st.context.syncs) st) ∙ (say_each_keeps Line.Suspend (ordered_labels st.context.syncs) st).1
  where
    unbind_local : (tx : Option Live) (at : State) → (say_unbind tx at).local ≡ at.local
    unbind_local (Some live) at = refl
    unbind_local None at = refl

-- a call that opens a fresh scope, whatever its body does
pub fresh_stands_apart : (S : Scenario) (calls : Calls) (m : MethodNo) (a : TxAttr) (run : Meaning) (suspends owns : Bool) (st : State)
    → AtEnd (opens S calls m a run (Opening.Fresh suspends owns) st) (Apart st.context st.local)
unfolding opens
fresh_stands_apart S calls m a run suspends owns st =
    let apart = Apart st.context st.local in
    ask_at_end (Apart st.context st.local) Want.Take (on_take (begins S calls m a run owns st.context)) (suspended suspends st)
    (λ n. take_at_end (Apart st.context st.local) (begins S calls m a run owns st.context) n (hear n (suspended suspends st))
    (λ c. subst (λ l. AtEnd (begins S calls m a run owns st.context c (hear n (suspended suspends st))) (Apart st.context l))
    ((hear_keeps n (suspended suspends st)).1 ∙ suspended_local suspends st)
    (begins_apart S calls m a run st.context owns c (hear n (suspended suspends st)))))

-- requires_new opens a fresh scope in every context
opens_a_fresh_one : (S : Scenario) (a : TxAttr) (context : Context) (tx : Option Live) → a.propagation ≡ Propagation.RequiresNew
    → (suspends : Bool) × (opening_in S.settings a context tx ≡ Opening.Fresh suspends (owns_fresh S.settings.mode))
opens_a_fresh_one S a context None is = (is_active context, ap (opening_without S.settings context) is)
opens_a_fresh_one S a context (Some live) is = (true, ap (opening_within S.settings live) is)

pub requires_new_stands_apart : RequiresNewStandsApart
unfolding intercepted opening
requires_new_stands_apart S calls m a run st is =
    let said : State = say (Line.Call m a.propagation a.read_only) st in
    let fresh = opens_a_fresh_one S a st.context st.context.tx is in
    subst (λ o. AtEnd (opens S calls m a run o said) (Apart st.context st.local)) (sym fresh.1)
    (fresh_stands_apart S calls m a run fresh.0 (owns_fresh S.settings.mode) said)

-- ---- a joined scope

module _ (S : Scenario) (calls : Calls) (scope : Scope) (x : Option ClassNo) (st : State) where
  abbrev AsKind : Ending → Kind → Type 0
  AsKind e k =
      (after : State) × (elim (has_before_commit k e) [
        | true ↦ finally (round_of scope.owns (stopping_round S calls Round.BeforeCommit) st) (λ y. acts S calls scope (completion_after k e y) (later_or y x))
        | false ↦ acts S calls scope (completion k e) x st
      ] ≡ Over x after) × OnlyMarks scope e x st after

  marked_then_left : (st.lines ++ Line.MarkGlobal ∷ []) ++ Line.Leave scope.method x ∷ [] ≡ st.lines ++ (Line.MarkGlobal ∷ [] ++ Line.Leave scope.method x ∷ [])
  marked_then_left = append_assoc st.lines (Line.MarkGlobal ∷ []) (Line.Leave scope.method x ∷ [])

  completes_joined : (e : Ending) → AsKind e Kind.Join
  unfolding acts completion
  completes_joined Ending.Commit = (_, refl, record { lines = refl; context = refl; local = refl; pool = refl; store = refl })
  completes_joined Ending.Rollback = (_, refl, record { lines = marked_then_left; context = refl; local = refl; pool = refl; store = refl })
  completes_joined Ending.Unexpected = (_, refl, record { lines = marked_then_left; context = refl; local = refl; pool = refl; store = refl })

pub joined_scopes_only_mark : JoinedScopesOnlyMark
unfolding completes
joined_scopes_only_mark S calls scope e x st joins = subst (AsKind S calls scope x st e) (sym joins) (completes_joined S calls scope x st e)
