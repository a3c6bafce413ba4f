-- Rounds, scopes and bodies move the ledger as their forms say, and so does the whole script.
use Rattle.std.proofs.Common.{◌≡◌, ◌⊎◌, inl, inr, ℕ, zero, suc, ◌+◌, ◌==◌, ◌∷◌, [], Bool, true, false, List, Option, Some, None, refl, sym, ap, ◌∙◌, subst, arith, eq-eqb}
use Rattle.std.specs.Prelude.{⊤, slice_get}
use Rattle.std.specs.Option.{option_map_or, is_some}
use Rattle.std.specs.List.{All}
use Rattle.std.proofs.lemmas.Bool.{false≢true, or_left}
use Rattle.std.proofs.lemmas.List.Elements.{All-head, All-tail}
use Rattle.stx_scenario.specs.declared.numbers.ClassNo.{ClassNo}
use Rattle.stx_scenario.specs.declared.numbers.MethodNo.{MethodNo}
use Rattle.stx_scenario.specs.declared.numbers.ListenerNo.{ListenerNo}
use Rattle.stx_scenario.specs.declared.classes.TheConstants.{CANNOT_CREATE_TRANSACTION_EXCEPTION, UNEXPECTED_ROLLBACK_EXCEPTION}
use Rattle.stx_scenario.specs.declared.scenario.Scenario.{Scenario}
use Rattle.stx_scenario.specs.declared.scenario.Listener.{Listener}
use Rattle.stx_scenario.specs.declared.scenario.Phase.{Phase}
use Rattle.stx_scenario.specs.declared.scenario.Propagation.{Propagation}
use Rattle.stx_scenario.specs.declared.scenario.Stmt.{Stmt}
use Rattle.stx_scenario.specs.declared.scenario.SyncDecl.{SyncDecl}
use Rattle.stx_scenario.specs.declared.scenario.TxAttr.{TxAttr}
use Rattle.stx_base.specs.declared.manager.Action.{Action}
use Rattle.stx_base.specs.declared.call.Want.{Want}
use Rattle.stx_base.specs.declared.history.StoreNote.{StoreNote}
use Rattle.stx_base.specs.declared.line.Line.{Line}
use Rattle.stx_base.specs.declared.line.Label.{Label}
use Rattle.stx_base.specs.declared.manager.Kind.{Kind}
use Rattle.stx_base.specs.declared.manager.Opening.{Opening}
use Rattle.stx_base.specs.declared.manager.Ending.{Ending}
use Rattle.stx_base.specs.declared.manager.Round.{Round}
use Rattle.stx_base.specs.Attributes.{attribute}
use Rattle.stx_base.specs.Pools.{contains}
use Rattle.stx_base.specs.Stores.{pointed, can_go_back, is_pointed}
use Rattle.stx_base.specs.Valid.{SyncAllowed, is_new, allowed_around, allowed_in}
use Rattle.stx_base.specs.Weight.{body_of, rank}
use Rattle.stx_model.specs.Brackets.{same_label}
use Rattle.stx_model.specs.Contexts.{Context, Live, Registration, bare, is_active, is_live, ordered, registered, with_global_mark, marked_globally, without_syncs}
use Rattle.stx_model.specs.Ending.{ending, has_before_commit, completion, completion_after}
use Rattle.stx_model.specs.Listeners.{Deed, Register, RunNow, Skip, deeds, runs_in}
use Rattle.stx_model.specs.Meanings.{State, Result, Over, Stops, Breaks, at_first, Meaning, finally, say, with_context, with_local, ask}
use Rattle.stx_model.specs.Opening.{opening, opening_within, opening_without}
use Rattle.stx_model.specs.Statements.{caught, register_listener}
use Rattle.stx_model.specs.Rounds.{Calls, Way, Proxied, Direct, sync_body, callback_line, swallows, round_of, callback_statement, callback, listens, listens_in, called_back, told, stopping_round, swallowing_round, last_round}
use Rattle.stx_model.specs.Scopes.{suspend, resume, suspended, resumed, Scope, leaves, later_or, started_syncs, fresh_context, rolls, ruled, is_set, acts, completes, ends, in_scope, within, begins, empty, opens, intercepted, live_in}
use Rattle.stx_model.specs.Script.{deals, statement, body, unscoped, proxied, invoked, calls_below, invoke, tops, script, calls_of}
use Rattle.stx_model.proofs.BreaksPieces.{Happens, happens}
use Rattle.stx_model.proofs.Ledgers.{tallied, tally, nothing_open, one_less, paid, Bound, bound, Ledger, nothing_outstanding, counted, carried, opened, is_end}
use Rattle.stx_model.proofs.Moves.{World, noted, Sound, IsAlive, At, AtIn, Ends, Keeps, finally_ends, and_then_ends, either_ends, live_in_ends, said, moved, in_context, same_points, ask_take, ask_give, ask_begin, ask_point, ask_back, ask_release, ask_commit, ask_rollback}
use Rattle.stx_model.proofs.MovesPieces.{carried_ordered, none_active, plain, throws_go, caught_go, alive_at, row_go, marks_go, registers_go, inside, apart, suspends, resumes, left}
use Rattle.stx_model.specs.Below.{listener_body}
use Rattle.stx_model.proofs.Openings.{opening_tells}
use Rattle.stx_base.proofs.ValidLaws.{entry_of}

-- ---- what callbacks may hold where their transaction has ended

-- a call through the proxy of a method with requires_new
abbrev pub is_apart : Scenario → Way → MethodNo → Bool
is_apart S Proxied m = option_map_or (λ tx. is_new tx.propagation) (attribute S m) false
is_apart S Direct m = false

abbrev is_first : Round → Bool
is_first Round.BeforeCommit = true
is_first _ = false

abbrev is_last : Round → Bool
is_last Round.AfterCompletion = true
is_last _ = false

abbrev AllAround : Scenario → List Stmt → Type 0
AllAround S body = All (λ s. allowed_around S s ≡ true) body

around : (S : Scenario) (phase : Phase) (round : Round) (committed : Bool) (body : List Stmt) → runs_in phase round committed ≡ true → is_first round ≡ false
    → All (λ s. allowed_in phase S s ≡ true) body → AllAround S body
around S Phase.BeforeCommit Round.BeforeCommit committed body runs later all = absurd (false≢true (sym later))
around S Phase.BeforeCommit Round.BeforeCompletion committed body runs later all = absurd (false≢true runs)
around S Phase.BeforeCommit Round.AfterCommit committed body runs later all = absurd (false≢true runs)
around S Phase.BeforeCommit Round.AfterCompletion committed body runs later all = absurd (false≢true runs)
around S Phase.AfterCommit round committed body runs later all = all
around S Phase.AfterRollback round committed body runs later all = all
around S Phase.AfterCompletion round committed body runs later all = all

-- ---- ledgers of scopes

abbrev closed : Bool → Bool → Bool
closed true active = false
closed false active = active

abbrev started : Bool → Bool → Bool
started true active = true
started false active = active

closed_started : (owns active : Bool) → (owns ≡ true → active ≡ false) → closed owns (started owns active) ≡ active
closed_started true active none = sym (none refl)
closed_started false active none = refl

closed_itself : (owns : Bool) → closed owns owns ≡ false
closed_itself true = refl
closed_itself false = refl

none_registered : (owns : Bool) → registered (started_syncs owns None) ≡ []
none_registered true = refl
none_registered false = refl

fresh_active : (owns : Bool) → is_some (started_syncs owns None) ≡ owns
fresh_active true = refl
fresh_active false = refl

bound_marked : (mark : Bool) (tx : Option Live) → bound (marked_globally mark tx) ≡ bound tx
bound_marked mark (Some live) = refl
bound_marked mark None = refl

released : (t u : ℕ) (ps : List Bool) → pointed u (pointed u ps (StoreNote.Point t)) (StoreNote.Release t) ≡ ps
released t u ps = by (t == u) refl
  where
    by : (b : Bool) → (t == u) ≡ b → pointed u (pointed u ps (StoreNote.Point t)) (StoreNote.Release t) ≡ ps
    by true is = rw is refl
    by false is = rw is refl

gone_back : (t u : ℕ) (ps : List Bool) → pointed u (pointed u (pointed u ps (StoreNote.Point t)) (StoreNote.BackTo t)) (StoreNote.Release t) ≡ ps
gone_back t u ps = by (t == u) refl
  where
    by : (b : Bool) → (t == u) ≡ b → pointed u (pointed u (pointed u ps (StoreNote.Point t)) (StoreNote.BackTo t)) (StoreNote.Release t) ≡ ps
    by true is = rw is refl
    by false is = rw is refl

-- ---- openings

abbrev IsFresh : Opening → Type 0
IsFresh (Opening.Fresh suspends owns) = ⊤
IsFresh _ = ⊥

new_is_fresh : (S : Scenario) (a : TxAttr) (context : Context) → is_new a.propagation ≡ true → IsFresh (opening S.settings a context)
unfolding opening
new_is_fresh S a context is = by context.tx a.propagation is
  where
    by : (tx : Option Live) (p : Propagation) → is_new p ≡ true → IsFresh (elim tx [ Some live ↦ opening_within S.settings live p | None ↦ opening_without S.settings context p ])
    by (Some live) Propagation.RequiresNew is = tt
    by None Propagation.RequiresNew is = tt
    by tx p is = absurd (false≢true is)

module _ (W : World) where
  abbrev S : Scenario
  S = W.scenario

  -- with this outstanding, where its transaction lives
  abbrev Goes : Meaning → Type 0
  Goes run = (L : Ledger) → (Sound W → IsAlive L) → Keeps W L run

  -- where its transaction has ended, only methods with requires_new are called
  abbrev pub CallsGo : Calls → Type 0
  CallsGo calls = (way : Way) (m : MethodNo) (L : Ledger) → (Sound W → IsAlive L ⊎ (is_apart S way m ≡ true)) → Keeps W L (calls way m)

  remarked : (mark : Bool) (L : Ledger) (st : State) → At W L st → At W L (with_context (with_global_mark mark st.context) st)
  remarked mark L st h = in_context W L L.owed L.tx L.active st.context (with_global_mark mark st.context) st refl (bound_marked mark st.context.tx ∙ h.tx) h.active h

  in_which : (M E : Ledger) (r : Result) → ((st : State) → At W M st → At W E st) → Ends W M r → Ends W E r
  in_which M E (Over x st) implies h = implies st h
  in_which M E (Stops w st) implies h = h
  in_which M E (Breaks st) implies h = h

  module _ (calls : Calls) (calls_go : CallsGo calls) where
    -- ---- callbacks

    still_alive : (L : Ledger) → (Sound W → IsAlive L ⊎ (false ≡ true)) → Sound W → IsAlive L
    still_alive L safe sound = elim (safe sound) [ inl alive ↦ alive | inr none ↦ absurd (false≢true none) ]

    callback_statement_go : (L : Ledger) (s : Stmt) → (Sound W → IsAlive L ⊎ (allowed_around S s ≡ true)) → Keeps W L (callback_statement S calls s)
    unfolding callback_statement
    callback_statement_go L (Stmt.Read k) safe st h = row_go W L st.context.tx (Stmt.Read k) st h.tx (still_alive L safe) h
    callback_statement_go L (Stmt.Write k v) safe st h = row_go W L st.context.tx (Stmt.Write k v) st h.tx (still_alive L safe) h
    callback_statement_go L (Stmt.Erase k) safe st h = row_go W L st.context.tx (Stmt.Erase k) st h.tx (still_alive L safe) h
    callback_statement_go L (Stmt.Add k n) safe st h = row_go W L st.context.tx (Stmt.Add k n) st h.tx (still_alive L safe) h
    callback_statement_go L (Stmt.Need k n) safe st h = row_go W L st.context.tx (Stmt.Need k n) st h.tx (still_alive L safe) h
    callback_statement_go L (Stmt.Throw x) safe st h = throws_go W L x st h
    callback_statement_go L (Stmt.Call m catch) safe st h =
        finally_ends W L L (calls Proxied m st) (caught S catch) (calls_go Proxied m L safe st h) (caught_go W L S catch)
    callback_statement_go L s safe st h = record { ledger = L; holds = h }

    callback_go : (L : Ledger) (body : List Stmt) → (Sound W → IsAlive L ⊎ AllAround S body) → Keeps W L (callback S calls body)
    unfolding callback
    callback_go L [] safe st h = h
    callback_go L (s ∷ later) safe st h =
        and_then_ends W L (callback_statement S calls s st) (callback S calls later)
        (callback_statement_go L s (λ sound. elim (safe sound) [ inl alive ↦ inl alive | inr all ↦ inr (All-head (λ s. allowed_around S s ≡ true) s later all) ]) st h)
        (callback_go L later (λ sound. elim (safe sound) [ inl alive ↦ inl alive | inr all ↦ inr (All-tail (λ s. allowed_around S s ≡ true) s later all) ]))

    listens_go : (L : Ledger) (l : ListenerNo) (o : Option Listener) → (Sound W → IsAlive L ⊎ AllAround S (listener_body o)) → Keeps W L (listens S calls l o)
    listens_go L l (Some listener) safe st h = callback_go L listener.body safe (say (Line.Listen l) st) (plain W (Line.Listen l) L st.context st (λ u. refl) refl h)
    listens_go L l None safe st h = h

    -- before the commit the transaction lives; in the other rounds callbacks hold only what stands apart from it
    abbrev RoundSafe : Ledger → Round → Type 0
    RoundSafe L round = Sound W → IsAlive L ⊎ (is_first round ≡ false)

    listens_in_go : (L : Ledger) (round : Round) (committed : Bool) (l : ListenerNo) (o : Option Listener) → slice_get S.listeners l.0 ≡ o → RoundSafe L round
        → Keeps W L (listens_in S calls round committed l o)
    listens_in_go L round committed l None there safe st h = h
    listens_in_go L round committed l (Some listener) there safe st h =
        either_ends W L (runs_in listener.phase round committed) (listens S calls l (Some listener) st) (Over None st)
        (λ runs. listens_go L l (Some listener) (λ sound. elim (safe sound) [
          | inl alive ↦ inl alive
          | inr later ↦ inr (around S listener.phase round committed listener.body runs later
              (entry_of (λ l. All (λ s. allowed_in l.phase S s ≡ true) l.body) S.listeners l.0 listener sound.0.callbacks.listeners there))
        ]) st h)
        (λ _. h)

    sync_go : (L : Ledger) (round : Round) (o : Option SyncDecl) (s : ℕ) → slice_get S.syncs s ≡ o → RoundSafe L round → Keeps W L (callback S calls (sync_body round o))
    unfolding callback
    sync_go L Round.BeforeCommit (Some sync) s there safe =
        callback_go L sync.before_commit (λ sound. elim (safe sound) [ inl alive ↦ inl alive | inr later ↦ absurd (false≢true (sym later)) ])
    sync_go L Round.BeforeCompletion (Some sync) s there safe = callback_go L sync.before_completion (λ sound. inr (entry_of (SyncAllowed S) S.syncs s sync sound.0.callbacks.syncs there).before_completion)
    sync_go L Round.AfterCommit (Some sync) s there safe = callback_go L sync.after_commit (λ sound. inr (entry_of (SyncAllowed S) S.syncs s sync sound.0.callbacks.syncs there).after_commit)
    sync_go L Round.AfterCompletion (Some sync) s there safe = callback_go L sync.after_completion (λ sound. inr (entry_of (SyncAllowed S) S.syncs s sync sound.0.callbacks.syncs there).after_completion)
    sync_go L round None s there safe = λ st h. h

    called_back_go : (L : Ledger) (round : Round) (committed : Bool) (label : Label) → RoundSafe L round → Keeps W L (called_back S calls round committed label)
    called_back_go L round committed (Label.Sync s) safe = sync_go L round (slice_get S.syncs s.0) s.0 refl safe
    called_back_go L round committed (Label.Listener l) safe = listens_in_go L round committed l (slice_get S.listeners l.0) refl safe

    -- ---- rounds

    called_line : (L : Ledger) (round : Round) (committed : Bool) (l : Label) (context : Context) (st : State) → is_last round ≡ false
        → AtIn W L context st → AtIn W L context (say (callback_line round committed l) st)
    called_line L Round.BeforeCommit committed l context st is h = plain W (Line.BeforeCommit l) L context st (λ u. refl) refl h
    called_line L Round.BeforeCompletion committed l context st is h = plain W (Line.BeforeCompletion l) L context st (λ u. refl) refl h
    called_line L Round.AfterCommit committed l context st is h = plain W (Line.AfterCommit l) L context st (λ u. refl) refl h
    called_line L Round.AfterCompletion committed l context st is h = absurd (false≢true (sym is))

    stopping_go : (L : Ledger) (round : Round) → is_last round ≡ false → RoundSafe L round → (rs : List Registration) → Keeps W L (stopping_round S calls round rs)
    unfolding stopping_round told
    stopping_go L round is safe [] st h = h
    stopping_go L round is safe (r ∷ later) st h =
        and_then_ends W L (told S calls round true r st) (stopping_round S calls round later)
        (called_back_go L round true r.label safe (say (callback_line round true r.label) st) (called_line L round true r.label st.context st is h))
        (stopping_go L round is safe later)

    -- each callback moves the ledger on, and its exception is swallowed
    swallowing_go : (round : Round) (committed : Bool) (at : List Registration → Ledger) → ((rs : List Registration) → RoundSafe (at rs) round)
        → ((r : Registration) (later : List Registration) (context : Context) (st : State) → AtIn W (at (r ∷ later)) context st → AtIn W (at later) context (say (callback_line round committed r.label) st))
        → (rs : List Registration) (st : State) → At W (at rs) st → Ends W (at []) (swallowing_round S calls round committed rs st)
    unfolding swallowing_round told
    swallowing_go round committed at safe line [] st h = h
    swallowing_go round committed at safe line (r ∷ later) st h =
        finally_ends W (at later) (at []) (told S calls round committed r st) (λ x after. swallowing_round S calls round committed later (swallows x after))
        (called_back_go (at later) round committed r.label (safe later) (say (callback_line round committed r.label) st) (line r later st.context st h))
        (λ x after h. swallowing_go round committed at safe line later (swallows x after) (swallowed x after h))
      where
        swallowed : (x : Option ClassNo) (after : State) → At W (at later) after → At W (at later) (swallows x after)
        swallowed None after h = h
        swallowed (Some x) after h = plain W (Line.Swallow x) (at later) after.context after (λ u. refl) refl h

    round_of_go : (L : Ledger) (owns : Bool) (round : List Registration → Meaning) → ((rs : List Registration) → Keeps W L (round rs)) → Keeps W L (round_of owns round)
    round_of_go L owns round goes st h =
        either_ends W L owns (round (ordered (registered st.context.syncs)) st) (Over None st) (λ _. goes (ordered (registered st.context.syncs)) st h) (λ _. h)

    abbrev owing : Ledger → ℕ → Ledger
    owing L n = record L { owed = L.owed + n }

    -- a completion pays what is owed for its registration
    pays : (L : Ledger) (committed : Bool) (r : Registration) (later : List Registration) (context : Context) (st : State)
        → AtIn W (owing L (carried W.label (r ∷ later))) context st → AtIn W (owing L (carried W.label later)) context (say (Line.AfterCompletion r.label committed) st)
    pays L committed r later context st h =
        moved W (Line.AfterCompletion r.label committed) (owing L (carried W.label (r ∷ later))) L.unbound L.calls (L.owed + carried W.label later) context context st (λ u. refl) refl refl
        (ap (λ o. record { connections = Some L.connections; transactions = Some L.transactions; bindings = Some L.unbound; calls = Some L.calls; owed = o })
        (by (same_label r.label W.label))) h
      where
        c : ℕ
        c = carried W.label (registered context.syncs)

        by : (b : Bool) → paid b (L.owed + counted b (carried W.label later) + c) ≡ Some (L.owed + carried W.label later + c)
        by true = let more : L.owed + suc (carried W.label later) + c ≡ suc (L.owed + carried W.label later + c) = omega arith in ap one_less more
        by false = refl

    last_round_go : (L : Ledger) (owns committed : Bool) (st : State) → At W L st → Ends W (record L { active = closed owns L.active }) (last_round S calls owns committed st)
    last_round_go L false committed st h = h
    last_round_go L true committed st h =
        let rs = ordered (registered st.context.syncs) in
        let M : Ledger = record L { active = false } in
        let taken = with_context (without_syncs st.context) st in
        in_which (owing M 0) M (swallowing_round S calls Round.AfterCompletion committed rs taken)
        (λ st h. in_context W (owing M 0) M.owed M.tx M.active st.context st.context st (omega arith) h.tx h.active h)
        (swallowing_go Round.AfterCompletion committed (λ rs. owing M (carried W.label rs)) (λ rs sound. inr refl) (pays M committed) rs taken
        (in_context W L (L.owed + carried W.label rs) L.tx false st.context (without_syncs st.context) st
        (omega (arith, carried_ordered W.label [] (registered st.context.syncs))) h.tx refl h))

    -- ---- completion

    -- the newest transaction is this one, with no savepoint
    abbrev MayEnd : Ledger → List ℕ → Bound → Type 0
    MayEnd L ts b = (L.transactions ≡ b.transaction ∷ ts) × (Sound W → L.points b.transaction ≡ [])

    abbrev MayGoBack : Ledger → Bound → Type 0
    MayGoBack L b = Sound W → (contains L.transactions b.transaction ≡ true) × (can_go_back (L.points b.transaction) ≡ true)

    abbrev MayRelease : Ledger → Bound → Type 0
    MayRelease L b = Sound W → (contains L.transactions b.transaction ≡ true) × (is_pointed (L.points b.transaction) ≡ true)

    -- what the actions of a scope's completion do to the ledger, from inside its call to after it
    abbrev Acts : Scope → Ledger → Ledger → List Action → Type 0
    Acts scope M L [] = (st : State) → At W L st → At W (inside W scope.method M) st
    Acts scope M L (Action.RoundBeforeCompletion ∷ rest) = Acts scope M L rest
    Acts scope M L (Action.RoundAfterCommit ∷ rest) = Acts scope M L rest
    Acts scope M L (Action.RoundAfterCompletion committed ∷ rest) = Acts scope M (record L { active = closed scope.owns L.active }) rest
    Acts scope M L (Action.CommitStore ∷ rest) = (b : Bound) × (L.tx ≡ Some b) × (ts : List ℕ) × MayEnd L ts b × Acts scope M (record L { transactions = ts }) rest
    Acts scope M L (Action.RollbackStore ∷ rest) = (b : Bound) × (L.tx ≡ Some b) × (ts : List ℕ) × MayEnd L ts b × Acts scope M (record L { transactions = ts }) rest
    Acts scope M L (Action.BackToPoint ∷ rest) = (b : Bound) × (L.tx ≡ Some b) × MayGoBack L b × Acts scope M (noted (StoreNote.BackTo b.transaction) L) rest
    Acts scope M L (Action.ReleasePoint ∷ rest) = (b : Bound) × (L.tx ≡ Some b) × MayRelease L b × Acts scope M (noted (StoreNote.Release b.transaction) L) rest
    Acts scope M L (Action.MarkGlobally ∷ rest) = Acts scope M L rest
    Acts scope M L (Action.ThrowUnexpected ∷ rest) = Acts scope M L rest
    Acts scope M L (Action.GiveBack ∷ rest) = (b : Bound) × (L.tx ≡ Some b) × (cs : List ℕ) × (L.connections ≡ b.connection ∷ cs) × Acts scope M (record L { connections = cs }) rest
    Acts scope M L (Action.Resumption ∷ rest) = ((st : State) → At W L st → At W (inside W scope.method M) (resumed scope.older st)) × Acts scope M (inside W scope.method M) rest

    acts_go : (scope : Scope) (M : Ledger) (actions : List Action) (x : Option ClassNo) (L : Ledger) (st : State) → Acts scope M L actions → At W L st → Ends W M (acts S calls scope actions x st)
    unfolding acts
    acts_go scope M [] x L st done h = left W scope.method x M (with_local scope.outer st) (done st h)
    acts_go scope M (Action.RoundBeforeCompletion ∷ rest) x L st may h =
        let round = swallowing_round S calls Round.BeforeCompletion false in
        finally_ends W L M (round_of scope.owns round st) (λ _. acts S calls scope rest x)
        (round_of_go L scope.owns round (swallowing_go Round.BeforeCompletion false (λ _. L) (λ rs sound. inr refl)
        (λ r later context st h. called_line L Round.BeforeCompletion false r.label context st refl h)) st h)
        (λ _ after h. acts_go scope M rest x L after may h)
    acts_go scope M (Action.RoundAfterCommit ∷ rest) x L st may h =
        let round = stopping_round S calls Round.AfterCommit in
        finally_ends W L M (round_of scope.owns round st) (λ y. acts S calls scope rest (later_or y x))
        (round_of_go L scope.owns round (stopping_go L Round.AfterCommit refl (λ sound. inr refl)) st h)
        (λ y after h. acts_go scope M rest (later_or y x) L after may h)
    acts_go scope M (Action.RoundAfterCompletion committed ∷ rest) x L st may h =
        finally_ends W (record L { active = closed scope.owns L.active }) M (last_round S calls scope.owns committed st) (λ _. acts S calls scope rest x)
        (last_round_go L scope.owns committed st h)
        (λ _ after h. acts_go scope M rest x (record L { active = closed scope.owns L.active }) after may h)
    acts_go scope M (Action.CommitStore ∷ rest) x L st (b, is, ts, ends, may) h =
        live_in_ends W (MayEnd L ts) M b st.context.tx _ st (h.tx ∙ is) ends
        (λ live ends. ask_commit W M L st h live.transaction ts _ ends.0 ends.1 (λ after h. acts_go scope M rest x (record L { transactions = ts }) after may h))
    acts_go scope M (Action.RollbackStore ∷ rest) x L st (b, is, ts, ends, may) h =
        live_in_ends W (MayEnd L ts) M b st.context.tx _ st (h.tx ∙ is) ends
        (λ live ends. ask_rollback W M L st h live.transaction ts _ ends.0 ends.1 (λ after h. acts_go scope M rest x (record L { transactions = ts }) after may h))
    acts_go scope M (Action.BackToPoint ∷ rest) x L st (b, is, allowed, may) h =
        live_in_ends W (λ b. MayGoBack L b × Acts scope M (noted (StoreNote.BackTo b.transaction) L) rest) M b st.context.tx _ st (h.tx ∙ is) (allowed, may)
        (λ live at. ask_back W M L st h live.transaction _ at.0 (λ after h. acts_go scope M rest x (noted (StoreNote.BackTo live.transaction) L)
        (with_context (with_global_mark false after.context) after) at.1 (remarked false (noted (StoreNote.BackTo live.transaction) L) after h)))
    acts_go scope M (Action.ReleasePoint ∷ rest) x L st (b, is, allowed, may) h =
        live_in_ends W (λ b. MayRelease L b × Acts scope M (noted (StoreNote.Release b.transaction) L) rest) M b st.context.tx _ st (h.tx ∙ is) (allowed, may)
        (λ live at. ask_release W M L st h live.transaction _ at.0 (λ after h. acts_go scope M rest x (noted (StoreNote.Release live.transaction) L) after at.1 h))
    acts_go scope M (Action.MarkGlobally ∷ rest) x L st may h =
        acts_go scope M rest x L _ may (plain W Line.MarkGlobal L (with_global_mark true st.context) (with_context (with_global_mark true st.context) st) (λ u. refl) refl (remarked true L st h))
    acts_go scope M (Action.ThrowUnexpected ∷ rest) x L st may h =
        acts_go scope M rest (Some UNEXPECTED_ROLLBACK_EXCEPTION) L _ may (throws_go W L UNEXPECTED_ROLLBACK_EXCEPTION st h)
    acts_go scope M (Action.GiveBack ∷ rest) x L st (b, is, cs, newest, may) h =
        live_in_ends W (λ b. L.connections ≡ b.connection ∷ cs) M b st.context.tx _ st (h.tx ∙ is) newest
        (λ live at. ask_give W M L st h live.connection cs _ at (λ after h. acts_go scope M rest x (record L { connections = cs }) after may h))
    acts_go scope M (Action.Resumption ∷ rest) x L st (back, may) h = acts_go scope M rest x (inside W scope.method M) (resumed scope.older st) may (back st h)

    -- ---- scopes

    abbrev Ready : Scope → Ledger → Ledger → Type 0
    Ready scope M L = (e : Ending) → Happens scope.kind e → Acts scope M L (completion scope.kind e)

    -- also where a callback of the before_commit round threw
    after_ready : (scope : Scope) (M L : Ledger) (kind : Kind) (e : Ending) (y : Option ClassNo) → has_before_commit kind e ≡ true → ((e : Ending) → Happens kind e → Acts scope M L (completion kind e))
        → Happens kind e → Acts scope M L (completion_after kind e y)
    after_ready scope M L kind e None has ready may = ready e may
    after_ready scope M L Kind.Fresh Ending.Commit (Some x) has ready may = ready Ending.Rollback tt
    after_ready scope M L Kind.Empty Ending.Commit (Some x) has ready may = ready Ending.Rollback tt
    after_ready scope M L kind e (Some x) has ready may = absurd (false≢true has)

    completes_go : (scope : Scope) (M L : Ledger) (e : Ending) (x : Option ClassNo) (st : State) → (Sound W → IsAlive L) → Ready scope M L → Happens scope.kind e → At W L st
        → Ends W M (completes S calls scope e x st)
    unfolding completes
    completes_go scope M L e x st alive ready may h =
        let round = stopping_round S calls Round.BeforeCommit in
        let next : Option ClassNo → Meaning = λ y. acts S calls scope (completion_after scope.kind e y) (later_or y x) in
        either_ends W M (has_before_commit scope.kind e) (finally (round_of scope.owns round st) next) (acts S calls scope (completion scope.kind e) x st)
        (λ has. finally_ends W L M (round_of scope.owns round st) next
        (round_of_go L scope.owns round (stopping_go L Round.BeforeCommit refl (λ sound. inl (alive sound))) st h)
        (λ y after h. acts_go scope M (completion_after scope.kind e y) (later_or y x) L after (after_ready scope M L scope.kind e y has ready may) h))
        (λ _. acts_go scope M (completion scope.kind e) x L st (ready e may) h)

    ends_go : (scope : Scope) (a : TxAttr) (x : Option ClassNo) (M L : Ledger) (st : State) → (Sound W → IsAlive L) → Ready scope M L → At W L st → Ends W M (ends S calls scope a x st)
    unfolding ends
    ends_go scope a x M L st alive ready h =
        let e = ending scope.kind (rolls S a.rules x) (is_set st.local) st.context in
        completes_go scope M L e x (say (Line.End e) (ruled S a.rules x st)) alive ready (happens scope.kind (rolls S a.rules x) (is_set st.local) st.context)
        (plain W (Line.End e) L (ruled S a.rules x st).context (ruled S a.rules x st) (λ u. refl) refl (by x))
      where
        by : (x : Option ClassNo) → At W L (ruled S a.rules x st)
        by None = h
        by (Some x) = plain W (Line.Rules _ _) L st.context st (λ u. refl) refl h

    module _ (m : MethodNo) (a : TxAttr) (run : Meaning) (run_goes : Goes run) where
      in_scope_go : (scope : Scope) (M L : Ledger) (st : State) → (Sound W → IsAlive L) → Ready scope M L → At W L st → Ends W M (in_scope S calls scope a run st)
      unfolding in_scope
      in_scope_go scope M L st alive ready h =
          finally_ends W L M (run (with_local (Some false) (say (Line.Opened scope.kind scope.owns) st))) (ends S calls scope a)
          (run_goes L alive (with_local (Some false) (say (Line.Opened scope.kind scope.owns) st)) (plain W (Line.Opened scope.kind scope.owns) L st.context st (λ u. refl) refl h))
          (λ x after h. ends_go scope a x M L after alive ready h)

      joins : (M : Ledger) (st : State) → (Sound W → IsAlive M) → At W (inside W m M) st → Ends W M (within S calls m Kind.Join a run st)
      unfolding completion
      joins M st alive h = in_scope_go (record { method = m; kind = Kind.Join; owns = false; older = None; outer = st.local }) M (inside W m M) st alive ready h
        where
          ready : Ready (record { method = m; kind = Kind.Join; owns = false; older = None; outer = st.local }) M (inside W m M)
          ready Ending.Commit may = λ st h. h
          ready Ending.Rollback may = λ st h. h
          ready Ending.Unexpected may = λ st h. h

      points : (M : Ledger) (live : Live) (st : State) → bound (Some live) ≡ M.tx → (Sound W → IsAlive M)
          → At W (noted (StoreNote.Point live.transaction) (inside W m M)) st → Ends W M (within S calls m Kind.Point a run st)
      unfolding completion
      points M live st is alive h =
          in_scope_go (record { method = m; kind = Kind.Point; owns = false; older = None; outer = st.local }) M L st alive ready h
        where
          t : ℕ
          t = live.transaction

          L : Ledger
          L = noted (StoreNote.Point live.transaction) (inside W m M)

          scope : Scope
          scope = record { method = m; kind = Kind.Point; owns = false; older = None; outer = st.local }

          b : Bound
          b = record { connection = live.connection; transaction = live.transaction }

          lives : Sound W → contains M.transactions t ≡ true
          lives sound = alive_at W M live is (alive sound)

          undone : (st : State) → At W (noted (StoreNote.Release t) (noted (StoreNote.BackTo t) L)) st → At W (inside W m M) st
          undone st = same_points W (noted (StoreNote.Release t) (noted (StoreNote.BackTo t) L)) M.points st.context st (λ u. gone_back t u (M.points u))

          rolls_back : (rest : List Action) → Acts scope M (noted (StoreNote.Release t) (noted (StoreNote.BackTo t) L)) rest → Acts scope M L (Action.BackToPoint ∷ Action.ReleasePoint ∷ rest)
          rolls_back rest then =
              (b, sym is, λ sound. (lives sound, rw (eq-eqb t t refl) refl), (b, sym is, λ sound. (lives sound, rw (eq-eqb t t refl) refl), then))

          ready : Ready scope M L
          ready Ending.Commit may = (
            b,
            sym is,
            λ sound. (lives sound, rw (eq-eqb t t refl) refl),
            λ st. same_points W (noted (StoreNote.Release t) L) M.points st.context st (λ u. released t u (M.points u)),
          )
          ready Ending.Rollback may = rolls_back [] undone
          ready Ending.Unexpected may = rolls_back (Action.ThrowUnexpected ∷ []) undone

      -- a fresh scope, on connection c in transaction t
      fresh_go : (M : Ledger) (older : Context) (owns : Bool) (c t : ℕ) (st : State) → bound older.tx ≡ M.tx → is_active older ≡ M.active → (Sound W → M.points t ≡ [])
          → At W (record (apart W m older M) { connections = c ∷ M.connections; transactions = t ∷ M.transactions }) st
          → Ends W M (in_scope S calls (record { method = m; kind = Kind.Fresh; owns = owns; older = Some older; outer = st.local }) a run (with_context (fresh_context c t a.read_only owns) st))
      unfolding completion
      fresh_go M older owns c t st tx_is active_is unpointed h =
          in_scope_go scope M L (with_context (fresh_context c t a.read_only owns) st) (λ sound. or_left (t == t) (contains M.transactions t) (eq-eqb t t refl)) ready
          (in_context W N N.owed (Some b) owns st.context (fresh_context c t a.read_only owns) st
          (omega (arith, ap (carried W.label) (none_active st.context h.active), ap (carried W.label) (none_registered owns))) refl (fresh_active owns) h)
        where
          b : Bound
          b = record { connection = c; transaction = t }

          scope : Scope
          scope = record { method = m; kind = Kind.Fresh; owns = owns; older = Some older; outer = st.local }

          N : Ledger
          N = record (apart W m older M) { connections = c ∷ M.connections; transactions = t ∷ M.transactions }

          L : Ledger
          L = record N { tx = Some b; active = owns }

          back : (st : State) → At W (record (apart W m older M) { tx = Some b; active = closed owns owns }) st → At W (inside W m M) (resume older st)
          back = resumes W m older M (Some b) (closed owns owns) tx_is active_is (closed_itself owns)

          ready : Ready scope M L
          ready Ending.Commit may = (b, refl, M.transactions, (refl, unpointed), (b, refl, M.connections, refl, (back, λ st h. h)))
          ready Ending.Rollback may = (b, refl, M.transactions, (refl, unpointed), (b, refl, M.connections, refl, (back, λ st h. h)))
          ready Ending.Unexpected may = (b, refl, M.transactions, (refl, unpointed), (b, refl, M.connections, refl, (back, λ st h. h)))

      -- an empty scope, which goes back to what was there
      empty_go : (M L : Ledger) (owns : Bool) (older : Option Context) (st : State) → (owns ≡ true → L.active ≡ false) → (Sound W → IsAlive L)
          → ((active : Bool) → active ≡ L.active → (st : State) → At W (record L { active = active }) st → At W (inside W m M) (resumed older st))
          → At W L st → Ends W M (empty S calls m a run owns older st)
      unfolding completion
      empty_go M L owns older st none alive back h =
          in_scope_go scope M (record L { active = started owns L.active }) (with_context starts st) alive ready
          (in_context W L L.owed L.tx (started owns L.active) st.context starts st (same owns none) h.tx (active_is owns) h)
        where
          starts : Context
          starts = record { tx = st.context.tx; syncs = started_syncs owns st.context.syncs }

          scope : Scope
          scope = record { method = m; kind = Kind.Empty; owns = owns; older = older; outer = st.local }

          same : (owns : Bool) → (owns ≡ true → L.active ≡ false)
              → L.owed + carried W.label (registered st.context.syncs) ≡ L.owed + carried W.label (registered (started_syncs owns st.context.syncs))
          same true none = ap (λ rs. L.owed + carried W.label rs) (none_active st.context (h.active ∙ none refl))
          same false none = refl

          active_is : (owns : Bool) → is_some (started_syncs owns st.context.syncs) ≡ started owns L.active
          active_is true = refl
          active_is false = h.active

          goes_back : (st : State) → At W (record L { active = closed owns (started owns L.active) }) st → At W (inside W m M) (resumed older st)
          goes_back = back (closed owns (started owns L.active)) (closed_started owns L.active none)

          ready : Ready scope M (record L { active = started owns L.active })
          ready Ending.Commit may = (goes_back, λ st h. h)
          ready Ending.Rollback may = (goes_back, λ st h. h)
          ready Ending.Unexpected may = absurd may

      -- ---- intercepted calls

      suspended_go : (M : Ledger) (suspends_it : Bool) (st : State) → (suspends_it ≡ false → (st.context.tx ≡ None) × (st.context.syncs ≡ None)) → At W (inside W m M) st
          → At W (apart W m st.context M) (suspended suspends_it st)
      suspended_go M true st is_bare h = suspends W m M st h
      suspended_go M false st is_bare h =
          stays (sym (is_bare refl).0) (sym (is_bare refl).1)
        where
          stays : None ≡ st.context.tx → None ≡ st.context.syncs → AtIn W (apart W m st.context M) st.context st
          stays none inactive =
              subst (λ c. AtIn W (apart W m c M) c st) (ap (λ tx. record { tx = tx; syncs = None }) none ∙ ap (λ syncs. record { tx = st.context.tx; syncs = syncs }) inactive)
              (in_context W (inside W m M) (M.owed + 0) None false st.context bare st
              (omega (arith, ap (λ o. carried W.label (registered o)) inactive)) refl refl h)

      opens_go : (M : Ledger) (o : Opening) (st : State) → opening S.settings a st.context ≡ o → (Sound W → IsAlive M ⊎ IsFresh o) → At W (inside W m M) st → Ends W M (opens S calls m a run o st)
      unfolding opens begins
      opens_go M (Opening.Refuse x) st is safe h = left W m (Some x) M (say (Line.Throw x) st) (throws_go W (inside W m M) x st h)
      opens_go M (Opening.Fresh suspends_it owns) st is safe h =
          let older = st.context in
          let x = CANNOT_CREATE_TRANSACTION_EXCEPTION in
          ask_take W M (apart W m older M) (suspended suspends_it st)
          (suspended_go M suspends_it st (λ stays. opening_tells S.settings a older (Opening.Fresh false owns) (is ∙ ap (λ b. Opening.Fresh b owns) stays)) h)
          (begins S calls m a run owns older)
          (λ c taken h1. ask_begin W M (record (apart W m older M) { connections = c ∷ M.connections }) taken h1
          (λ t begun. in_scope S calls (record { method = m; kind = Kind.Fresh; owns = owns; older = Some older; outer = begun.local }) a run (with_context (fresh_context c t a.read_only owns) begun))
          (λ t begun unpointed h2. fresh_go M older owns c t begun h.tx h.active unpointed h2))
          (λ after h1. left W m (Some x) M (say (Line.Throw x) (resume older after))
          (throws_go W (inside W m M) x (resume older after) (resumes W m older M None false h.tx h.active refl after h1)))
      opens_go M Opening.Join st is safe h = joins M st (λ sound. elim (safe sound) [ inl alive ↦ alive | inr none ↦ absurd none ]) h
      opens_go M Opening.Point st is safe h =
          let alive : Sound W → IsAlive M = λ sound. elim (safe sound) [ inl alive ↦ alive | inr none ↦ absurd none ] in
          in_live st.context.tx h.tx alive
        where
          in_live : (tx : Option Live) → bound tx ≡ M.tx → (Sound W → IsAlive M) → Ends W M (live_in tx (λ live. ask (Want.Point live.transaction) (λ _. within S calls m Kind.Point a run)) st)
          in_live (Some live) tx_is alive =
              ask_point W M (inside W m M) st h live.transaction (within S calls m Kind.Point a run) (λ sound. alive_at W M live tx_is (alive sound)) (λ after h. points M live after tx_is alive h)
          in_live None tx_is alive = record { ledger = inside W m M; holds = h }
      opens_go M (Opening.Empty true owns) st is safe h =
          empty_go M (apart W m st.context M) owns (Some st.context) (suspend st) (λ _. refl) (λ sound. tt)
          (λ active none. resumes W m st.context M None active h.tx h.active none) (suspends W m M st h)
      opens_go M (Opening.Empty false owns) st is safe h =
          empty_go M (inside W m M) owns None st
          (λ own. sym h.active ∙ ap is_some ((opening_tells S.settings a st.context (Opening.Empty false owns) is).1 own))
          (λ sound. elim (safe sound) [ inl alive ↦ alive | inr none ↦ absurd none ])
          (λ active same st h. subst (λ b. At W (record (inside W m M) { active = b }) st) same h) h

      intercepted_go : (M : Ledger) → (Sound W → IsAlive M ⊎ (is_new a.propagation ≡ true)) → Keeps W M (intercepted S calls m a run)
      unfolding intercepted
      intercepted_go M safe st h =
          let o = opening S.settings a st.context in
          opens_go M o (say (Line.Call m a.propagation a.read_only) st) refl
          (λ sound. elim (safe sound) [ inl alive ↦ inl alive | inr new ↦ inr (new_is_fresh S a st.context new) ])
          (said W (Line.Call m a.propagation a.read_only) M M.unbound (record { method = m; suspended = [] } ∷ M.calls) st.context st (λ u. refl) refl h)

    -- ---- bodies

    deals_go : (ds : List Deed) → Goes (deals S calls ds)
    unfolding deals
    deals_go [] L alive st h = h
    deals_go (Register l ∷ later) L alive st h =
        and_then_ends W L (register_listener S l st) (deals S calls later) (registers_go W L _ st.context.syncs st refl h) (deals_go later L alive)
    deals_go (RunNow l ∷ later) L alive st h =
        and_then_ends W L (listens S calls l (slice_get S.listeners l.0) st) (deals S calls later)
        (listens_go L l (slice_get S.listeners l.0) (λ sound. inl (alive sound)) st h) (deals_go later L alive)
    deals_go (Skip l ∷ later) L alive st h = deals_go later L alive (say (Line.Skip l) st) (plain W (Line.Skip l) L st.context st (λ u. refl) refl h)

    statement_go : (s : Stmt) → Goes (statement S calls s)
    unfolding statement
    statement_go Stmt.Mark L alive st h = marks_go W L st.local st h
    statement_go (Stmt.Register s) L alive st h = registers_go W L _ st.context.syncs st refl h
    statement_go (Stmt.Publish e) L alive st h =
        deals_go (deeds S e (is_active st.context) (is_live st.context)) L alive (say (Line.Publish e) st) (plain W (Line.Publish e) L st.context st (λ u. refl) refl h)
    statement_go (Stmt.This m catch) L alive st h =
        finally_ends W L L (calls Direct m st) (caught S catch) (calls_go Direct m L (λ sound. inl (alive sound)) st h) (caught_go W L S catch)
    statement_go s L alive st h = callback_statement_go L s (λ sound. inl (alive sound)) st h

    body_go : (statements : List Stmt) → Goes (body S calls statements)
    unfolding body
    body_go [] L alive st h = h
    body_go (s ∷ statements) L alive st h = and_then_ends W L (statement S calls s st) (body S calls statements) (statement_go s L alive st h) (body_go statements L alive)

    -- ---- calls

    unscoped_go : (line : Line) (m : MethodNo) (M : Ledger) → ((u : ℕ) → is_end u line ≡ false)
        → ((context : Context) → tallied W.label (opened W.label M context) line ≡ opened W.label (inside W m M) context) → (Sound W → IsAlive M) → Keeps W M (unscoped S calls line m)
    unscoped_go line m M ends_none step alive st h =
        finally_ends W (inside W m M) M (body S calls (body_of S m) (say line st)) (leaves m)
        (body_go (body_of S m) (inside W m M) alive (say line st) (said W line M M.unbound (record { method = m; suspended = [] } ∷ M.calls) st.context st ends_none (step st.context) h))
        (λ x after h. left W m x M after h)

    invoked_go : CallsGo (invoked S calls)
    unfolding invoked
    invoked_go Direct m L safe st h = unscoped_go (Line.This m) m L (λ u. refl) (λ context. refl) (still_alive L safe) st h
    invoked_go Proxied m L safe st h = by (attribute S m) safe
      where
        by : (o : Option TxAttr) → (Sound W → IsAlive L ⊎ (option_map_or (λ tx. is_new tx.propagation) o false ≡ true)) → Ends W L (proxied S calls m o st)
        by (Some a) safe = intercepted_go m a (body S calls (body_of S m)) (body_go (body_of S m)) L safe st h
        by None safe = unscoped_go (Line.Plain m) m L (λ u. refl) (λ context. refl) (still_alive L safe) st h

  -- ---- the whole

  calls_below_go : (bound : ℕ) → CallsGo (calls_below S bound)
  unfolding calls_below
  calls_below_go zero way m L safe st h = record { ledger = L; holds = h }
  calls_below_go (suc bound) way m L safe st h =
      either_ends W L (rank S m == bound) (invoked S (calls_below S bound) way m st) (calls_below S bound way m st)
      (λ _. invoked_go (calls_below S bound) (calls_below_go bound) way m L safe st h) (λ _. calls_below_go bound way m L safe st h)

  -- between two top-level calls nothing is open
  pub idle : (st : State) → At W nothing_outstanding st → tally W.label st.lines ≡ nothing_open
  idle st h = h.tallies ∙ ap (λ rs. record { connections = Some []; transactions = Some []; bindings = Some []; calls = Some []; owed = Some (0 + carried W.label rs) }) (none_active st.context h.active)

  tops_go : (k : ℕ) (calls : List MethodNo) → Keeps W nothing_outstanding (tops S k calls)
  unfolding tops
  tops_go k [] st h =
      record { ledger = nothing_outstanding; holds = h; allowed = record { connections = refl; transactions = refl; unbound = refl; calls = refl; owed = refl; active = refl } }
  tops_go k (m ∷ calls) st h =
      finally_ends W nothing_outstanding nothing_outstanding (invoke S m (say (Line.Top k) st)) (λ _. tops S (k + 1) calls)
      (calls_below_go 65 Proxied m nothing_outstanding (λ sound. inl tt) (say (Line.Top k) st)
      (plain W (Line.Top k) nothing_outstanding st.context st (λ u. refl)
      (ap (λ t. tallied W.label t (Line.Top k)) (sym h.tallies ∙ idle st h) ∙ sym (idle st h) ∙ h.tallies) h))
      (λ _. tops_go (k + 1) calls)

  pub script_goes : (c : ℕ) → Ends W nothing_outstanding (script S c W.pool W.store)
  unfolding script
  script_goes c = tops_go 0 (calls_of S c) (at_first W.pool W.store) (record {
    tallies = refl;
    tx = refl;
    active = refl;
    pools = record { read = []; is = refl; out_is = λ fresh. refl; apart = λ fresh. tt };
    stores = record {
      read = [];
      is = refl;
      points_are = λ u. refl;
      lives = λ fresh u. refl;
      apart = λ fresh. tt;
      unended = λ fresh u absent. refl;
      unpointed = λ sound u absent. refl;
      said = λ u. refl;
      once = λ fresh u. omega arith;
    };
  })
