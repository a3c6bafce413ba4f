-- How calls leave the context: as it was, but for the mark and the registrations of those that take part in it.
use Rattle.std.proofs.Common.{◌≡◌, ℕ, zero, suc, Bool, true, false, List, [], ◌∷◌, Option, Some, None, refl, sym, ap, ◌∙◌, subst}
use Rattle.std.specs.Prelude.{◌==◌, ◌||◌, slice_get}
use Rattle.std.proofs.lemmas.Bool.{false≢true}
use Rattle.stx_scenario.specs.declared.numbers.ClassNo.{ClassNo}
use Rattle.stx_scenario.specs.declared.numbers.MethodNo.{MethodNo}
use Rattle.stx_scenario.specs.declared.scenario.Scenario.{Scenario}
use Rattle.stx_scenario.specs.declared.scenario.Stmt.{Stmt}
use Rattle.stx_scenario.specs.declared.scenario.TxAttr.{TxAttr}
use Rattle.stx_base.specs.declared.manager.Action.{Action}
use Rattle.stx_base.specs.declared.call.Want.{Want}
use Rattle.stx_base.specs.declared.line.Line.{Line}
use Rattle.stx_base.specs.declared.manager.Kind.{Kind}
use Rattle.stx_base.specs.declared.manager.Opening.{Opening}
use Rattle.stx_base.specs.declared.manager.Ending.{Ending}
use Rattle.stx_base.specs.declared.manager.Round.{Round}
use Rattle.stx_base.specs.Attributes.{attribute}
use Rattle.stx_base.specs.Weight.{body_of, rank}
use Rattle.stx_model.specs.Contexts.{Context, Live, bare, Registration, is_active, is_live, registered, ordered, with_mark, marked_globally, with_global_mark, without_syncs}
use Rattle.stx_model.specs.Ending.{completion, completion_after, has_before_commit, ending, is_marked}
use Rattle.stx_model.specs.Listeners.{Deed, Register, RunNow, Skip, deeds}
use Rattle.stx_base.specs.declared.history.Note.{Note}
use Rattle.stx_model.specs.Meanings.{State, Result, Over, Stops, Breaks, Meaning, finally, say, with_context, with_local, hear, ask}
use Rattle.stx_model.specs.Opening.{opening}
use Rattle.stx_model.specs.Statements.{caught, register_listener}
use Rattle.stx_model.specs.Rounds.{Calls, Proxied, Direct, listens, swallowing_round, stopping_round, round_of}
use Rattle.stx_model.specs.Scopes.{Scope, leaves, later_or, rolls, ruled, is_set, started_syncs, acts, completes, ends, in_scope, suspended, live_in, within, opens, intercepted}
use Rattle.stx_model.specs.Script.{deals, statement, body, unscoped, proxied, invoked, calls_below}
use Rattle.stx_model.specs.Assurances.{AtEnd, IsSameTransaction, MayBeMarked, IsKept, IsOnlyExtended, LeavesContext, CallsLeaveTheContext}
use Rattle.stx_model.proofs.Apart.{Apart, either_at_end, suspended_local, finally_at_end, ask_at_end, live_at_end, hear_keeps, fresh_stands_apart, completes_empty}
use Rattle.stx_model.proofs.Openings.{opening_tells}
use Rattle.stx_model.proofs.Keeping.{kept_refl, HasKept, Keeps, finally_keeps, and_then_keeps, either_keeps, CallsKeep, callback_statement_keeps, listens_keeps, caught_keeps, marks_keeps, registers_keeps, round_of_keeps, swallowing_round_keeps, stopping_round_keeps}

-- ---- a piece after a piece

-- so it is at the end of what goes on, where the piece before kept its context
pub after_kept : (P : Option ClassNo → State → Type 0) (context : Context) (r : Result) (next : Option ClassNo → Meaning)
    → HasKept context r → ((x : Option ClassNo) (st : State) → IsKept context st.context → AtEnd (next x st) P) → AtEnd (finally r next) P
after_kept P context (Over x st) next kept then = then x st kept
after_kept P context (Stops w st) next kept then = tt
after_kept P context (Breaks st) next kept then = tt

pub ruled_keeps : (S : Scenario) (a : TxAttr) (x : Option ClassNo) (st : State) → (ruled S a.rules x st).context ≡ st.context
ruled_keeps S a (Some x) st = refl
ruled_keeps S a None st = refl

-- ---- joined scopes

mark_may_be : (tx : Option Live) → MayBeMarked tx (marked_globally true tx)
mark_may_be (Some live) = (with_mark true live, refl, record { connection = refl; transaction = refl; read_only = refl; mark = λ _. refl })
mark_may_be None = refl

marking_keeps : (context : Context) → IsKept context (with_global_mark true context)
marking_keeps context = record { tx = mark_may_be context.tx; syncs = (kept_refl context).syncs }

module _ (S : Scenario) (calls : Calls) where
  completes_join : (m : MethodNo) (outer : Option Bool) (e : Ending) (x : Option ClassNo)
      → Keeps (completes S calls (record { method = m; kind = Kind.Join; owns = false; older = None; outer = outer }) e x)
  unfolding completes acts completion
  completes_join m outer Ending.Commit x st = kept_refl st.context
  completes_join m outer Ending.Rollback x st = marking_keeps st.context
  completes_join m outer Ending.Unexpected x st = marking_keeps st.context

  joins : (m : MethodNo) (a : TxAttr) (run : Meaning) → Keeps run → Keeps (within S calls m Kind.Join a run)
  unfolding in_scope ends
  joins m a run keeps st =
      finally_keeps st.context (run (with_local (Some false) (say (Line.Opened Kind.Join false) st))) (ends S calls (record { method = m; kind = Kind.Join; owns = false; older = None; outer = st.local }) a)
      (keeps (with_local (Some false) (say (Line.Opened Kind.Join false) st)))
      (λ x after. subst (λ c. HasKept c (ends S calls (record { method = m; kind = Kind.Join; owns = false; older = None; outer = st.local }) a x after)) (ruled_keeps S a x after)
      (completes_join m st.local (ending Kind.Join (rolls S a.rules x) (is_set after.local) after.context) x
      (say (Line.End (ending Kind.Join (rolls S a.rules x) (is_set after.local) after.context)) (ruled S a.rules x after))))

-- ---- points

same_live : (before after : Live) → IsSameTransaction before after → before.mark ≡ false → after.mark ≡ false → after ≡ before
same_live before after same unmarked still =
    ap (λ c. record { connection = c; transaction = after.transaction; read_only = after.read_only; mark = after.mark }) same.connection
    ∙ ap (λ t. record { connection = before.connection; transaction = t; read_only = after.read_only; mark = after.mark }) same.transaction
    ∙ ap (λ r. record { connection = before.connection; transaction = before.transaction; read_only = r; mark = after.mark }) same.read_only
    ∙ ap (λ m. record { connection = before.connection; transaction = before.transaction; read_only = before.read_only; mark = m }) (still ∙ sym unmarked)

-- a transaction that isn't marked is the one before it, also where its mark was cleared
unmarked_tx : (before : Live) (tx : Option Live) → MayBeMarked (Some before) tx → before.mark ≡ false → is_marked tx ≡ false → tx ≡ Some before
unmarked_tx before tx (live, is, same) unmarked still =
    is ∙ ap Some (same_live before live same unmarked (sym (ap is_marked is) ∙ still))

cleared_tx : (before : Live) (tx : Option Live) → MayBeMarked (Some before) tx → before.mark ≡ false → marked_globally false tx ≡ Some before
cleared_tx before tx (live, is, same) unmarked =
    ap (marked_globally false) is
    ∙ ap Some (same_live before (with_mark false live) (record { connection = same.connection; transaction = same.transaction; read_only = same.read_only; mark = λ set. absurd (false≢true (sym unmarked ∙ set)) })
    unmarked refl)

commits_unmarked : (rolls local : Bool) (context : Context) → ending Kind.Point rolls local context ≡ Ending.Commit → is_marked context.tx ≡ false
commits_unmarked rolls local context e = by (rolls || local) (is_marked context.tx) refl e
  where
    by : (either marked : Bool) → is_marked context.tx ≡ marked
        → elim either [ true ↦ Ending.Rollback | false ↦ elim marked [ true ↦ Ending.Unexpected | false ↦ Ending.Commit ] ] ≡ Ending.Commit → is_marked context.tx ≡ false
    by true marked is e = cc
    by false true is e = cc
    by false false is e = is

module _ (S : Scenario) (calls : Calls) (context : Context) (before : Live) (there : context.tx ≡ Some before) (unmarked : before.mark ≡ false) where
  abbrev Extended : Option ClassNo → State → Type 0
  Extended x after = IsOnlyExtended context after.context

  kept_live : (after : Context) → IsKept context after → MayBeMarked (Some before) after.tx
  kept_live after kept = subst (λ o. MayBeMarked o after.tx) there kept.tx

  only_extended : (after : Context) → IsKept context after → after.tx ≡ Some before → IsOnlyExtended context after
  only_extended after kept same = record { tx = same ∙ sym there; syncs = kept.syncs }

  cleared_extended : (after : Context) → IsKept context after → IsOnlyExtended context (with_global_mark false after)
  cleared_extended after kept = record { tx = cleared_tx before after.tx (kept_live after kept) unmarked ∙ sym there; syncs = kept.syncs }

  module _ (scope : Scope) (x : Option ClassNo) where
    releases : (st : State) (rest : List Action) (y : Option ClassNo) → ((after : State) → after.context ≡ st.context → AtEnd (acts S calls scope rest y after) Extended)
        → AtEnd (acts S calls scope (Action.ReleasePoint ∷ rest) y st) Extended
    unfolding acts
    releases st rest y then =
        live_at_end Extended st.context.tx (λ live. ask (Want.Release live.transaction) (λ _. acts S calls scope rest y)) st
        (λ live. ask_at_end Extended (Want.Release live.transaction) (λ _. acts S calls scope rest y) st (λ n. then (hear n st) (hear_keeps n st).0))

    goes_back : (st : State) (rest : List Action) → IsKept context st.context → ((after : State) → IsOnlyExtended context after.context → AtEnd (acts S calls scope rest x after) Extended)
        → AtEnd (acts S calls scope (Action.BackToPoint ∷ rest) x st) Extended
    unfolding acts
    goes_back st rest kept then =
        live_at_end Extended st.context.tx
        (λ live. ask (Want.BackTo live.transaction) (λ _ back. acts S calls scope rest x (with_context (with_global_mark false back.context) back))) st
        (λ live. ask_at_end Extended (Want.BackTo live.transaction) (λ _ back. acts S calls scope rest x (with_context (with_global_mark false back.context) back)) st
        (λ n. then (with_context (with_global_mark false (hear n st).context) (hear n st))
        (cleared_extended (hear n st).context (subst (IsKept context) (sym (hear_keeps n st).0) kept))))

    extended_at : (after : State) (c : Context) → IsOnlyExtended context c → after.context ≡ c → IsOnlyExtended context after.context
    extended_at after c only is = subst (IsOnlyExtended context) (sym is) only

    completes_point : (e : Ending) (st : State) → scope.kind ≡ Kind.Point → IsKept context st.context → (e ≡ Ending.Commit → is_marked st.context.tx ≡ false)
        → AtEnd (completes S calls scope e x st) Extended
    unfolding completes completion acts
    completes_point e st point kept still =
        subst (λ k. AtEnd (elim (has_before_commit k e) [
          | true ↦ finally (round_of scope.owns (stopping_round S calls Round.BeforeCommit) st) (λ y. acts S calls scope (completion_after k e y) (later_or y x))
          | false ↦ acts S calls scope (completion k e) x st
        ]) Extended) (sym point) (by e still)
      where
        by : (e : Ending) → (e ≡ Ending.Commit → is_marked st.context.tx ≡ false) → AtEnd (elim (has_before_commit Kind.Point e) [
          | true ↦ finally (round_of scope.owns (stopping_round S calls Round.BeforeCommit) st) (λ y. acts S calls scope (completion_after Kind.Point e y) (later_or y x))
          | false ↦ acts S calls scope (completion Kind.Point e) x st
        ]) Extended
        by Ending.Commit still =
            releases st [] x (λ after is. extended_at after st.context
            (only_extended st.context kept (unmarked_tx before st.context.tx (kept_live st.context kept) unmarked (still refl))) is)
        by Ending.Rollback still =
            goes_back st (Action.ReleasePoint ∷ []) kept (λ after only. releases after [] x (λ last is. extended_at last after.context only is))
        by Ending.Unexpected still =
            goes_back st (Action.ReleasePoint ∷ Action.ThrowUnexpected ∷ []) kept
            (λ after only. releases after (Action.ThrowUnexpected ∷ []) x (λ last is. extended_at last after.context only is))

  points : (m : MethodNo) (a : TxAttr) (run : Meaning) (st : State) → Keeps run → st.context ≡ context → AtEnd (within S calls m Kind.Point a run st) Extended
  unfolding in_scope ends
  points m a run st keeps is =
      let scope : Scope = record { method = m; kind = Kind.Point; owns = false; older = None; outer = st.local } in
      after_kept Extended context (run (with_local (Some false) (say (Line.Opened Kind.Point false) st))) (ends S calls scope a)
      (subst (λ c. HasKept c (run (with_local (Some false) (say (Line.Opened Kind.Point false) st)))) is (keeps (with_local (Some false) (say (Line.Opened Kind.Point false) st))))
      (λ x after kept. completes_point scope x (ending Kind.Point (rolls S a.rules x) (is_set after.local) after.context)
      (say (Line.End (ending Kind.Point (rolls S a.rules x) (is_set after.local) after.context)) (ruled S a.rules x after)) refl
      (subst (IsKept context) (sym (ruled_keeps S a x after)) kept)
      (λ commit. ap (λ c. is_marked c.tx) (ruled_keeps S a x after) ∙ commits_unmarked (rolls S a.rules x) (is_set after.local) after.context commit))

-- ---- empty scopes

-- an empty scope never ends unexpectedly
ends_empty : (P : Ending → Type 0) (rolls local : Bool) (context : Context) → P Ending.Commit → P Ending.Rollback → P (ending Kind.Empty rolls local context)
ends_empty P rolls local context commits rolls_back = by (rolls || local)
  where
    by : (either : Bool) → P (elim either [ true ↦ Ending.Rollback | false ↦ Ending.Commit ])
    by true = rolls_back
    by false = commits

module _ (S : Scenario) (calls : Calls) (called : CallsKeep calls) (m : MethodNo) (outer : Option Bool) where
  -- one that owns nothing and suspended nothing says no round
  abbrev plain_scope : Scope
  plain_scope = record { method = m; kind = Kind.Empty; owns = false; older = None; outer = outer }

  completes_plain : (e : Ending) (x : Option ClassNo) → Keeps (completes S calls plain_scope e x)
  unfolding completes acts completion
  completes_plain Ending.Commit x st = kept_refl st.context
  completes_plain Ending.Rollback x st = kept_refl st.context
  completes_plain Ending.Unexpected x st = kept_refl st.context

  plain_empty : (a : TxAttr) (run : Meaning) → Keeps run → (st : State) → HasKept st.context (in_scope S calls plain_scope a run st)
  unfolding in_scope ends
  plain_empty a run keeps st =
      finally_keeps st.context (run (with_local (Some false) (say (Line.Opened Kind.Empty false) st))) (ends S calls plain_scope a)
      (keeps (with_local (Some false) (say (Line.Opened Kind.Empty false) st)))
      (λ x after. subst (λ c. HasKept c (ends S calls plain_scope a x after)) (ruled_keeps S a x after)
      (completes_plain (ending Kind.Empty (rolls S a.rules x) (is_set after.local) after.context) x
      (say (Line.End (ending Kind.Empty (rolls S a.rules x) (is_set after.local) after.context)) (ruled S a.rules x after))))

  -- one that owns synchronisation, in a bare context
  abbrev owning_scope : Scope
  owning_scope = record { method = m; kind = Kind.Empty; owns = true; older = None; outer = outer }

  abbrev IsBare : Option ClassNo → State → Type 0
  IsBare x after = after.context ≡ bare

  abbrev HasNone : Context → Type 0
  HasNone context = context.tx ≡ None

  none_kept : (a b : Context) → HasNone a → IsKept a b → HasNone b
  none_kept a b none kept = subst (λ o. MayBeMarked o b.tx) none kept.tx

  is_bare : (context : Context) → context.tx ≡ None → context.syncs ≡ None → context ≡ bare
  is_bare context none inactive = ap (λ t. record { tx = t; syncs = context.syncs }) none ∙ ap (λ s. record { tx = None; syncs = s }) inactive

  -- the last round takes the registrations out
  last : (committed : Bool) (x : Option ClassNo) (st : State) → HasNone st.context → AtEnd (acts S calls owning_scope (Action.RoundAfterCompletion committed ∷ Action.Resumption ∷ []) x st) IsBare
  unfolding acts
  last committed x st none =
      after_kept IsBare (without_syncs st.context)
      (swallowing_round S calls Round.AfterCompletion committed (ordered (registered st.context.syncs)) (with_context (without_syncs st.context) st))
      (λ _. acts S calls owning_scope (Action.Resumption ∷ []) x)
      (swallowing_round_keeps S calls called Round.AfterCompletion committed (ordered (registered st.context.syncs)) (with_context (without_syncs st.context) st))
      (λ y after kept. is_bare after.context (none_kept (without_syncs st.context) after.context none kept) kept.syncs)

  round_then : (round : List Registration → Meaning) (next : Option ClassNo → Meaning) (st : State) → ((list : List Registration) → Keeps (round list)) → HasNone st.context
      → ((y : Option ClassNo) (after : State) → HasNone after.context → AtEnd (next y after) IsBare) → AtEnd (finally (round_of true round st) next) IsBare
  round_then round next st keeps none then =
      after_kept IsBare st.context (round_of true round st) next (round_of_keeps S calls called true round keeps st) (λ y after kept. then y after (none_kept st.context after.context none kept))

  owning_rolls_back : (x : Option ClassNo) (st : State) → HasNone st.context → AtEnd (acts S calls owning_scope (completion Kind.Empty Ending.Rollback) x st) IsBare
  unfolding acts completion
  owning_rolls_back x st none =
      round_then (swallowing_round S calls Round.BeforeCompletion false) (λ _. acts S calls owning_scope (Action.RoundAfterCompletion false ∷ Action.Resumption ∷ []) x) st
      (swallowing_round_keeps S calls called Round.BeforeCompletion false) none (λ y after none. last false x after none)

  owning_commits : (x : Option ClassNo) (st : State) → HasNone st.context → AtEnd (acts S calls owning_scope (completion Kind.Empty Ending.Commit) x st) IsBare
  unfolding acts completion
  owning_commits x st none =
      round_then (swallowing_round S calls Round.BeforeCompletion false) (λ _. acts S calls owning_scope (Action.RoundAfterCommit ∷ Action.RoundAfterCompletion true ∷ Action.Resumption ∷ []) x) st
      (swallowing_round_keeps S calls called Round.BeforeCompletion false) none
      (λ y after none. round_then (stopping_round S calls Round.AfterCommit) (λ y. acts S calls owning_scope (Action.RoundAfterCompletion true ∷ Action.Resumption ∷ []) (later_or y x)) after
      (stopping_round_keeps S calls called Round.AfterCommit) none (λ y after none. last true (later_or y x) after none))

  completes_owning : (rolls local : Bool) (context : Context) (x : Option ClassNo) (st : State) → HasNone st.context
      → AtEnd (completes S calls owning_scope (ending Kind.Empty rolls local context) x st) IsBare
  unfolding completes
  completes_owning rolls local context x st none =
      ends_empty (λ e. AtEnd (completes S calls owning_scope e x st) IsBare) rolls local context
      (round_then (stopping_round S calls Round.BeforeCommit) (λ y. acts S calls owning_scope (completion_after Kind.Empty Ending.Commit y) (later_or y x)) st
      (stopping_round_keeps S calls called Round.BeforeCommit) none after_round)
      (owning_rolls_back x st none)
    where
      after_round : (y : Option ClassNo) (after : State) → HasNone after.context → AtEnd (acts S calls owning_scope (completion_after Kind.Empty Ending.Commit y) (later_or y x) after) IsBare
      after_round None after none = owning_commits (later_or None x) after none
      after_round (Some y) after none = owning_rolls_back (later_or (Some y) x) after none

  owning_empty : (a : TxAttr) (run : Meaning) → Keeps run → (st : State) → HasNone st.context → AtEnd (in_scope S calls owning_scope a run st) IsBare
  unfolding in_scope ends
  owning_empty a run keeps st none =
      after_kept IsBare st.context (run (with_local (Some false) (say (Line.Opened Kind.Empty true) st))) (ends S calls owning_scope a)
      (keeps (with_local (Some false) (say (Line.Opened Kind.Empty true) st)))
      (λ x after kept. completes_owning (rolls S a.rules x) (is_set after.local) after.context x
      (say (Line.End (ending Kind.Empty (rolls S a.rules x) (is_set after.local) after.context)) (ruled S a.rules x after))
      (subst HasNone (sym (ruled_keeps S a x after)) (none_kept st.context after.context none kept)))

-- one that suspended what was there gives it back
module _ (S : Scenario) (calls : Calls) (m : MethodNo) (outer : Option Bool) (owns : Bool) (older : Context) where
  abbrev apart_scope : Scope
  apart_scope = record { method = m; kind = Kind.Empty; owns = owns; older = Some older; outer = outer }

  apart_empty : (a : TxAttr) (run : Meaning) (st : State) → AtEnd (in_scope S calls apart_scope a run st) (λ x after. after.context ≡ older)
  unfolding in_scope ends
  apart_empty a run st =
      finally_at_end (λ x after. after.context ≡ older) (run (with_local (Some false) (say (Line.Opened Kind.Empty owns) st))) (ends S calls apart_scope a)
      (λ x after. only_context (completes S calls apart_scope (ending Kind.Empty (rolls S a.rules x) (is_set after.local) after.context) x
      (say (Line.End (ending Kind.Empty (rolls S a.rules x) (is_set after.local) after.context)) (ruled S a.rules x after)))
      (completes_empty S calls apart_scope older refl refl (rolls S a.rules x) (is_set after.local) x after.context
      (say (Line.End (ending Kind.Empty (rolls S a.rules x) (is_set after.local) after.context)) (ruled S a.rules x after))))
    where
      only_context : (r : Result) → AtEnd r (Apart older outer) → AtEnd r (λ x after. after.context ≡ older)
      only_context (Over x st) apart = apart.0
      only_context (Stops w st) apart = tt
      only_context (Breaks st) apart = tt

-- ---- intercepted calls

kept_by : (o : Opening) (before after : Context) → LeavesContext o before after → IsKept before after
kept_by (Opening.Refuse x) before after left = subst (IsKept before) (sym left) (kept_refl before)
kept_by (Opening.Fresh s w) before after left = subst (IsKept before) (sym left) (kept_refl before)
kept_by Opening.Join before after left = left
kept_by Opening.Point before after left = record { tx = subst (MayBeMarked before.tx) (sym left.tx) (kept_refl before).tx; syncs = left.syncs }
kept_by (Opening.Empty false false) before after left = record { tx = subst (MayBeMarked before.tx) (sym left.tx) (kept_refl before).tx; syncs = left.syncs }
kept_by (Opening.Empty false true) before after left = subst (IsKept before) (sym left) (kept_refl before)
kept_by (Opening.Empty true false) before after left = subst (IsKept before) (sym left) (kept_refl before)
kept_by (Opening.Empty true true) before after left = subst (IsKept before) (sym left) (kept_refl before)

-- one holds wherever the other does
weaker : (P Q : Option ClassNo → State → Type 0) (r : Result) → ((x : Option ClassNo) (st : State) → P x st → Q x st) → AtEnd r P → AtEnd r Q
weaker P Q (Over x st) implies holds = implies x st holds
weaker P Q (Stops w st) implies holds = tt
weaker P Q (Breaks st) implies holds = tt

module _ (S : Scenario) (calls : Calls) (called : CallsKeep calls) (m : MethodNo) (a : TxAttr) (run : Meaning) (keeps : Keeps run) where
  abbrev Leaves : Opening → Context → Option ClassNo → State → Type 0
  Leaves o before x after = LeavesContext o before after.context

  pub opens_leaves : (o : Opening) (st : State) → opening S.settings a st.context ≡ o → AtEnd (opens S calls m a run o st) (Leaves o st.context)
  unfolding opens
  opens_leaves (Opening.Refuse x) st is = refl
  opens_leaves (Opening.Fresh suspends owns) st is =
      weaker (Apart st.context st.local) (Leaves (Opening.Fresh suspends owns) st.context) (opens S calls m a run (Opening.Fresh suspends owns) st) (λ x after apart. apart.0)
      (fresh_stands_apart S calls m a run suspends owns st)
  opens_leaves Opening.Join st is = joins S calls m a run keeps st
  opens_leaves Opening.Point st is =
      let point = opening_tells S.settings a st.context Opening.Point is in
      live_at_end (Leaves Opening.Point st.context) st.context.tx (λ live. ask (Want.Point live.transaction) (λ _. within S calls m Kind.Point a run)) st
      (λ live. ask_at_end (Leaves Opening.Point st.context) (Want.Point live.transaction) (λ _. within S calls m Kind.Point a run) st
      (λ n. points S calls st.context point.0 point.1 point.2 m a run (hear n st) keeps (hear_keeps n st).0))
  opens_leaves (Opening.Empty true owns) st is = apart_either owns
    where
      apart_either : (owns : Bool) → AtEnd (opens S calls m a run (Opening.Empty true owns) st) (Leaves (Opening.Empty true owns) st.context)
      apart_either true = apart_empty S calls m _ true st.context a run _
      apart_either false = apart_empty S calls m _ false st.context a run _
  opens_leaves (Opening.Empty false true) st is =
      let empty = opening_tells S.settings a st.context (Opening.Empty false true) is in
      weaker (λ x after. after.context ≡ bare) (Leaves (Opening.Empty false true) st.context) (opens S calls m a run (Opening.Empty false true) st)
      (λ x after left. left ∙ sym (is_bare_there st.context empty.0 (empty.1 refl)))
      (owning_empty S calls called m st.local a run keeps (with_context (record { tx = st.context.tx; syncs = started_syncs true st.context.syncs }) st) empty.0)
    where
      is_bare_there : (context : Context) → context.tx ≡ None → context.syncs ≡ None → context ≡ bare
      is_bare_there context none inactive = ap (λ t. record { tx = t; syncs = context.syncs }) none ∙ ap (λ s. record { tx = None; syncs = s }) inactive
  opens_leaves (Opening.Empty false false) st is =
      let empty = opening_tells S.settings a st.context (Opening.Empty false false) is in
      weaker (λ x after. IsKept st.context after.context) (Leaves (Opening.Empty false false) st.context) (opens S calls m a run (Opening.Empty false false) st)
      (λ x after kept. record { tx = subst (λ o. MayBeMarked o after.context.tx) empty.0 kept.tx ∙ sym empty.0; syncs = kept.syncs })
      (plain_empty S calls called m st.local a run keeps (with_context (record { tx = st.context.tx; syncs = started_syncs false st.context.syncs }) st))

  pub intercepted_leaves : (st : State) → AtEnd (intercepted S calls m a run st) (Leaves (opening S.settings a st.context) st.context)
  unfolding intercepted
  intercepted_leaves st = opens_leaves (opening S.settings a st.context) (say (Line.Call m a.propagation a.read_only) st) refl

-- ---- bodies and calls

module _ (S : Scenario) (calls : Calls) (called : CallsKeep calls) where
  deals_keeps : (list : List Deed) → Keeps (deals S calls list)
  unfolding deals
  deals_keeps [] st = kept_refl st.context
  deals_keeps (Register l ∷ later) st =
      and_then_keeps st.context (register_listener S l st) (deals S calls later) (registers_keeps _ st.context.syncs st refl) (deals_keeps later)
  deals_keeps (RunNow l ∷ later) st =
      and_then_keeps st.context (listens S calls l (slice_get S.listeners l.0) st) (deals S calls later) (listens_keeps S calls called l (slice_get S.listeners l.0) st) (deals_keeps later)
  deals_keeps (Skip l ∷ later) st = deals_keeps later (say (Line.Skip l) st)

  statement_keeps : (s : Stmt) → Keeps (statement S calls s)
  unfolding statement
  statement_keeps Stmt.Mark st = marks_keeps st.local st
  statement_keeps (Stmt.Register s) st = registers_keeps _ st.context.syncs st refl
  statement_keeps (Stmt.Publish e) st = deals_keeps (deeds S e (is_active st.context) (is_live st.context)) (say (Line.Publish e) st)
  statement_keeps (Stmt.This m catch) st = finally_keeps st.context (calls Direct m st) (caught S catch) (called Direct m st) (caught_keeps S catch)
  statement_keeps s st = callback_statement_keeps S calls called s st

  pub body_keeps : (statements : List Stmt) → Keeps (body S calls statements)
  unfolding body
  body_keeps [] st = kept_refl st.context
  body_keeps (s ∷ statements) st =
      and_then_keeps st.context (statement S calls s st) (body S calls statements) (statement_keeps s st) (body_keeps statements)

  unscoped_keeps : (line : Line) (m : MethodNo) → Keeps (unscoped S calls line m)
  unscoped_keeps line m st =
      finally_keeps st.context (body S calls (body_of S m) (say line st)) (leaves m) (body_keeps (body_of S m) (say line st)) (λ x after. kept_refl after.context)

  proxied_keeps : (m : MethodNo) (o : Option TxAttr) → Keeps (proxied S calls m o)
  proxied_keeps m None st = unscoped_keeps (Line.Plain m) m st
  proxied_keeps m (Some a) st =
      weaker _ (λ x after. IsKept st.context after.context) (intercepted S calls m a (body S calls (body_of S m)) st)
      (λ x after left. kept_by (opening S.settings a st.context) st.context after.context left)
      (intercepted_leaves S calls called m a (body S calls (body_of S m)) (body_keeps (body_of S m)) st)

  pub invoked_keeps : CallsKeep (invoked S calls)
  unfolding invoked
  invoked_keeps Proxied m st = proxied_keeps m (attribute S m) st
  invoked_keeps Direct m st = unscoped_keeps (Line.This m) m st

pub calls_keep : (S : Scenario) (bound : ℕ) → CallsKeep (calls_below S bound)
unfolding calls_below
calls_keep S zero way m st = tt
calls_keep S (suc bound) way m st =
    either_keeps st.context (rank S m == bound) (invoked S (calls_below S bound) way m st) (calls_below S bound way m st)
    (invoked_keeps S (calls_below S bound) (calls_keep S bound) way m st) (calls_keep S bound way m st)

-- ---- the local mark of the scope round a call

module _ (S : Scenario) (calls : Calls) (scope : Scope) where
  abbrev HasOuter : Option ClassNo → State → Type 0
  HasOuter x after = after.local ≡ scope.outer

  goes_on : (r : Result) (next : Option ClassNo → Meaning) → ((y : Option ClassNo) (after : State) → AtEnd (next y after) HasOuter) → AtEnd (finally r next) HasOuter
  goes_on r next then = finally_at_end HasOuter r next then

  asks : (want : Live → Want) (next : Note → Meaning) (st : State) → ((n : Note) (after : State) → AtEnd (next n after) HasOuter)
      → AtEnd (live_in st.context.tx (λ live. ask (want live) next) st) HasOuter
  asks want next st then =
      live_at_end HasOuter st.context.tx (λ live. ask (want live) next) st (λ live. ask_at_end HasOuter (want live) next st (λ n. then n (hear n st)))

  acts_outer : (actions : List Action) (x : Option ClassNo) (st : State) → AtEnd (acts S calls scope actions x st) HasOuter
  unfolding acts
  acts_outer [] x st = refl
  acts_outer (Action.RoundBeforeCompletion ∷ rest) x st = goes_on _ (λ _. acts S calls scope rest x) (λ y after. acts_outer rest x after)
  acts_outer (Action.RoundAfterCommit ∷ rest) x st = goes_on _ (λ y. acts S calls scope rest (later_or y x)) (λ y after. acts_outer rest (later_or y x) after)
  acts_outer (Action.RoundAfterCompletion committed ∷ rest) x st = goes_on _ (λ _. acts S calls scope rest x) (λ y after. acts_outer rest x after)
  acts_outer (Action.CommitStore ∷ rest) x st = asks (λ live. Want.Commit live.transaction) (λ _. acts S calls scope rest x) st (λ n after. acts_outer rest x after)
  acts_outer (Action.RollbackStore ∷ rest) x st = asks (λ live. Want.Rollback live.transaction) (λ _. acts S calls scope rest x) st (λ n after. acts_outer rest x after)
  acts_outer (Action.BackToPoint ∷ rest) x st =
      asks (λ live. Want.BackTo live.transaction) (λ _ back. acts S calls scope rest x (with_context (with_global_mark false back.context) back)) st
      (λ n after. acts_outer rest x (with_context (with_global_mark false after.context) after))
  acts_outer (Action.ReleasePoint ∷ rest) x st = asks (λ live. Want.Release live.transaction) (λ _. acts S calls scope rest x) st (λ n after. acts_outer rest x after)
  acts_outer (Action.MarkGlobally ∷ rest) x st = acts_outer rest x _
  acts_outer (Action.ThrowUnexpected ∷ rest) x st = acts_outer rest _ _
  acts_outer (Action.GiveBack ∷ rest) x st = asks (λ live. Want.Give live.connection) (λ _. acts S calls scope rest x) st (λ n after. acts_outer rest x after)
  acts_outer (Action.Resumption ∷ rest) x st = acts_outer rest x _

  completes_outer : (e : Ending) (x : Option ClassNo) (st : State) → AtEnd (completes S calls scope e x st) HasOuter
  unfolding completes
  completes_outer e x st =
      let next : Option ClassNo → Meaning = λ y. acts S calls scope (completion_after scope.kind e y) (later_or y x) in
      either_at_end HasOuter (has_before_commit scope.kind e) (finally (round_of scope.owns (stopping_round S calls Round.BeforeCommit) st) next)
      (acts S calls scope (completion scope.kind e) x st)
      (goes_on (round_of scope.owns (stopping_round S calls Round.BeforeCommit) st) next (λ y after. acts_outer (completion_after scope.kind e y) (later_or y x) after))
      (acts_outer (completion scope.kind e) x st)

  in_scope_outer : (a : TxAttr) (run : Meaning) (st : State) → AtEnd (in_scope S calls scope a run st) HasOuter
  unfolding in_scope ends
  in_scope_outer a run st =
      goes_on (run (with_local (Some false) (say (Line.Opened scope.kind scope.owns) st))) (ends S calls scope a) (λ x after. completes_outer _ x _)

module _ (S : Scenario) (calls : Calls) (m : MethodNo) (a : TxAttr) (run : Meaning) where
  abbrev HasLocal : Option Bool → Option ClassNo → State → Type 0
  HasLocal local x after = after.local ≡ local

  opens_outer : (o : Opening) (st : State) → AtEnd (opens S calls m a run o st) (HasLocal st.local)
  unfolding opens
  opens_outer (Opening.Refuse x) st = refl
  opens_outer (Opening.Fresh suspends owns) st =
      weaker (Apart st.context st.local) (HasLocal st.local) (opens S calls m a run (Opening.Fresh suspends owns) st) (λ x after apart. apart.1)
      (fresh_stands_apart S calls m a run suspends owns st)
  opens_outer Opening.Join st = in_scope_outer S calls (record { method = m; kind = Kind.Join; owns = false; older = None; outer = st.local }) a run st
  opens_outer Opening.Point st =
      live_at_end (HasLocal st.local) st.context.tx (λ live. ask (Want.Point live.transaction) (λ _. within S calls m Kind.Point a run)) st
      (λ live. ask_at_end (HasLocal st.local) (Want.Point live.transaction) (λ _. within S calls m Kind.Point a run) st
      (λ n. subst (λ l. AtEnd (within S calls m Kind.Point a run (hear n st)) (HasLocal l)) (hear_keeps n st).1
      (in_scope_outer S calls (record { method = m; kind = Kind.Point; owns = false; older = None; outer = (hear n st).local }) a run (hear n st))))
  opens_outer (Opening.Empty suspends owns) st =
      subst (λ l. AtEnd (opens S calls m a run (Opening.Empty suspends owns) st) (HasLocal l)) (suspended_local suspends st)
      (in_scope_outer S calls (record { method = m; kind = Kind.Empty; owns = owns; older = _; outer = (suspended suspends st).local }) a run _)

  intercepted_outer : (st : State) → AtEnd (intercepted S calls m a run st) (HasLocal st.local)
  unfolding intercepted
  intercepted_outer st = opens_outer (opening S.settings a st.context) (say (Line.Call m a.propagation a.read_only) st)

both_at_end : (P Q : Option ClassNo → State → Type 0) (r : Result) → AtEnd r P → AtEnd r Q → AtEnd r (λ x st. P x st × Q x st)
both_at_end P Q (Over x st) one other = (one, other)
both_at_end P Q (Stops w st) one other = tt
both_at_end P Q (Breaks st) one other = tt

pub calls_leave_the_context : CallsLeaveTheContext
calls_leave_the_context S bound m a st =
    let run : Meaning = body S (calls_below S bound) (body_of S m) in
    both_at_end (λ x after. LeavesContext (opening S.settings a st.context) st.context after.context) (λ x after. after.local ≡ st.local)
    (intercepted S (calls_below S bound) m a run st)
    (intercepted_leaves S (calls_below S bound) (calls_keep S bound) m a run (body_keeps S (calls_below S bound) (calls_keep S bound) (body_of S m)) st)
    (intercepted_outer S (calls_below S bound) m a run st)
