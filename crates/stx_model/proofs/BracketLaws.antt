-- The laws on brackets, on registrations and on suspension, and that what is committed stays so: read off the ledger.
use Rattle.std.proofs.Common.{◌≡◌, ℕ, zero, suc, ◌+◌, ◌≤◌, ◌==◌, ◌∷◌, ◌++◌, [], Bool, true, false, ◌||◌, List, Option, Some, None, refl, sym, ap, ◌∙◌, subst, arith, fold, filter, map, eq-eqb}
use Rattle.std.specs.List.{All, list_any}
use Rattle.std.proofs.lemmas.List.Elements.{All-cons, All-from_recursion}
use Rattle.std.proofs.lemmas.List.Sums.{fold-append}
use Rattle.std.proofs.lemmas.Option.{same_Some}
use Rattle.stx_scenario.specs.declared.scenario.Scenario.{Scenario}
use Rattle.stx_base.specs.declared.call.Want.{Want}
use Rattle.stx_base.specs.declared.history.PoolNote.{PoolNote}
use Rattle.stx_base.specs.declared.history.StoreNote.{StoreNote}
use Rattle.stx_base.specs.declared.line.Line.{Line}
use Rattle.stx_base.specs.declared.line.Label.{Label}
use Rattle.stx_model.specs.Brackets.{Bracket, open_after, connection_bracket, transaction_bracket, binding_bracket, same_label, calls_after, count, is_registering, is_completing, IsCompletedOnce, calls_from, top_calls, is_rollback}
use Rattle.stx_model.specs.Laws.{Balanced, CompletedOnce, ResumesInOrder, CommittedStaysCommitted}
use Rattle.stx_model.specs.Meanings.{State, Result, Over, Stops, Breaks, state_of}
use Rattle.stx_model.specs.Script.{script}
use Rattle.stx_model.proofs.Ledgers.{counted, paid, owed_after, Tally, tallied, tally, nothing_open, Ledger, nothing_outstanding, carried, is_end, count_append}
use Rattle.stx_model.proofs.Moves.{World, At, StopsAt, Ends}
use Rattle.stx_model.proofs.MovesPieces.{none_active}
use Rattle.stx_model.proofs.MovesScopes.{script_goes}

abbrev pub world : Scenario → List PoolNote → List StoreNote → Label → World
world S pool store label = record { scenario = S; pool = pool; store = store; label = label }

pub stops_so : (S : Scenario) (c : ℕ) (pool : List PoolNote) (store : List StoreNote) (label : Label) (want : Want) (end : State) → script S c pool store ≡ Stops want end
    → StopsAt (world S pool store label) want end
stops_so S c pool store label want end is = subst (Ends (world S pool store label) nothing_outstanding) is (script_goes (world S pool store label) c)

-- the lines of a script that is done leave nothing open
done_tally : (S : Scenario) (c : ℕ) (pool : List PoolNote) (store : List StoreNote) (label : Label) (end : State) → script S c pool store ≡ Stops Want.Done end → tally label end.lines ≡ nothing_open
done_tally S c pool store label end is =
    let stops = stops_so S c pool store label Want.Done end is in
    let a = stops.allowed in
    stops.holds.tallies
    ∙ ap (λ rs. record {
      connections = Some stops.ledger.connections;
      transactions = Some stops.ledger.transactions;
      bindings = Some stops.ledger.unbound;
      calls = Some stops.ledger.calls;
      owed = Some (stops.ledger.owed + carried label rs);
    }) (none_active end.context (stops.holds.active ∙ a.active))
    ∙ (λ i. record { connections = Some (a.connections i); transactions = Some (a.transactions i); bindings = Some (a.unbound i); calls = Some (a.calls i); owed = Some (a.owed i + 0) })

pub any_label : Label
any_label = Label.Sync (record { 0 = 0 })

-- ---- brackets

module _ (label : Label) (bracket : Line → Bracket) (part : Tally → Option (List ℕ)) (moves : (t : Tally) (line : Line) → part (tallied label t line) ≡ open_after (part t) (bracket line)) where
  brackets_of : (lines : List Line) (t : Tally) → part (fold (tallied label) t lines) ≡ fold open_after (part t) (map bracket lines)
  brackets_of [] t = refl
  brackets_of (line ∷ lines) t = brackets_of lines (tallied label t line) ∙ ap (λ o. fold open_after o (map bracket lines)) (moves t line)

pub balanced : Balanced
unfolding any_label
balanced S c pool store end is =
    let done = done_tally S c pool store any_label end is in (
      sym (brackets_of any_label connection_bracket (λ t. t.connections) (λ t line. refl) end.lines nothing_open) ∙ ap (λ t. t.connections) done,
      sym (brackets_of any_label transaction_bracket (λ t. t.transactions) (λ t line. refl) end.lines nothing_open) ∙ ap (λ t. t.transactions) done,
      sym (brackets_of any_label binding_bracket (λ t. t.bindings) (λ t line. refl) end.lines nothing_open) ∙ ap (λ t. t.bindings) done,
    )

calls_of_tally : (label : Label) (lines : List Line) (t : Tally) → (fold (tallied label) t lines).calls ≡ fold calls_after t.calls lines
calls_of_tally label [] t = refl
calls_of_tally label (line ∷ lines) t = calls_of_tally label lines (tallied label t line)

pub resumes_in_order : ResumesInOrder
resumes_in_order S c pool store end is = sym (calls_of_tally any_label end.lines nothing_open) ∙ ap (λ t. t.calls) (done_tally S c pool store any_label end is)

-- ---- registrations

owed_of_tally : (label : Label) (lines : List Line) (t : Tally) → (fold (tallied label) t lines).owed ≡ fold (owed_after label) t.owed lines
owed_of_tally label [] t = refl
owed_of_tally label (line ∷ lines) t = owed_of_tally label lines (tallied label t line)

module _ (label : Label) where
  abbrev owed_by : Option ℕ → List Line → Option ℕ
  owed_by o lines = fold (owed_after label) o lines

  none_stays : (lines : List Line) → owed_by None lines ≡ None
  none_stays [] = refl
  none_stays (line ∷ lines) = none_stays lines

  -- ---- counts

  line_counts : (line : Line) (n m : ℕ) → owed_after label (Some n) line ≡ Some m → n + count (is_registering label) (line ∷ []) ≡ m + count (is_completing label) (line ∷ [])
  line_counts (Line.Register l) n m is = by (same_label l label) refl (same_Some _ m is)
    where
      by : (b : Bool) → same_label l label ≡ b → counted (same_label l label) n ≡ m → n + count (is_registering label) (Line.Register l ∷ []) ≡ m + 0
      by true same e = rw (same, filter) (omega (arith, sym (ap (λ b. counted b n) same) ∙ e))
      by false other e = rw (other, filter) (omega (arith, sym (ap (λ b. counted b n) other) ∙ e))
  line_counts (Line.AfterCompletion l committed) n m is = by (same_label l label) n refl is
    where
      by : (b : Bool) (n : ℕ) → same_label l label ≡ b → paid (same_label l label) n ≡ Some m → n + 0 ≡ m + count (is_completing label) (Line.AfterCompletion l committed ∷ [])
      by true zero same e = absurd (let no : None ≡ Some m = sym (ap (λ b. paid b 0) same) ∙ e in cc)
      by true (suc n) same e = rw (same, filter) (omega (arith, same_Some n m (sym (ap (λ b. paid b (suc n)) same) ∙ e)))
      by false n other e = rw (other, filter) (omega (arith, same_Some n m (sym (ap (λ b. paid b n) other) ∙ e)))
  line_counts (Line.Top k) zero m is = omega (arith, same_Some 0 m is)
  line_counts (Line.Top k) (suc n) m is = absurd (let no : None ≡ Some m = is in cc)
  line_counts line n m is = omega (arith, same_Some n m is)

  lines_count : (lines : List Line) (n m : ℕ) → owed_by (Some n) lines ≡ Some m → n + count (is_registering label) lines ≡ m + count (is_completing label) lines
  lines_count [] n m is = omega (arith, same_Some n m is)
  lines_count (line ∷ lines) n m is = by (lines_count lines) (owed_after label (Some n) line) refl is
    where
      by : ((n m : ℕ) → owed_by (Some n) lines ≡ Some m → n + count (is_registering label) lines ≡ m + count (is_completing label) lines) → (o : Option ℕ) → owed_after label (Some n) line ≡ o → owed_by o lines ≡ Some m
          → n + count (is_registering label) (line ∷ lines) ≡ m + count (is_completing label) (line ∷ lines)
      by rest (Some k) here is =
          omega (arith, line_counts line n k here, rest k m is, count_append (is_registering label) (line ∷ []) lines, count_append (is_completing label) (line ∷ []) lines)
      by rest None here is = absurd (let no : None ≡ Some m = sym (none_stays lines) ∙ is in cc)

  pub once_if_settled : (lines : List Line) → owed_by (Some 0) lines ≡ Some 0 → IsCompletedOnce label lines
  once_if_settled lines settled = record {
    all = omega (arith, lines_count lines 0 0 settled);
    never_more = λ first rest is. by first rest (owed_by (Some 0) first) refl (sym (fold-append (owed_after label) (Some 0) first rest) ∙ ap (owed_by (Some 0)) (sym is) ∙ settled);
  }
    where
      by : (first rest : List Line) (o : Option ℕ) → owed_by (Some 0) first ≡ o → owed_by (owed_by (Some 0) first) rest ≡ Some 0 → count (is_completing label) first ≤ count (is_registering label) first
      by first rest (Some n) here is = omega (arith, lines_count first 0 n here)
      by first rest None here is = absurd (let no : None ≡ Some 0 = sym (none_stays rest) ∙ sym (ap (λ o. owed_by o rest) here) ∙ is in cc)

  -- ---- top-level calls

  abbrev OnceFrom : List Line → List Line → Type 0
  OnceFrom call lines = All (IsCompletedOnce label) (calls_from call lines)

  -- a line of the call
  one_more : (call : List Line) (line : Line) (lines : List Line) (n : ℕ) → ((m : ℕ) → owed_by (Some 0) (call ++ line ∷ []) ≡ Some m → owed_by (Some m) lines ≡ Some 0 → OnceFrom (call ++ line ∷ []) lines)
      → owed_by (Some 0) call ≡ Some n → owed_by (owed_after label (Some n) line) lines ≡ Some 0 → OnceFrom (call ++ line ∷ []) lines
  one_more call line lines n then before after = by (owed_after label (Some n) line) refl after
    where
      by : (o : Option ℕ) → owed_after label (Some n) line ≡ o → owed_by o lines ≡ Some 0 → OnceFrom (call ++ line ∷ []) lines
      by (Some m) here after = then m (fold-append (owed_after label) (Some 0) call (line ∷ []) ∙ ap (λ o. owed_after label o line) before ∙ here) after
      by None here after = absurd (let no : None ≡ Some 0 = sym (none_stays lines) ∙ after in cc)

  once_from : (lines call : List Line) (n : ℕ) → owed_by (Some 0) call ≡ Some n → owed_by (Some n) lines ≡ Some 0 → OnceFrom call lines
  once_from [] call n before after = All-cons (IsCompletedOnce label) call [] (once_if_settled call (before ∙ after)) (All-from_recursion (IsCompletedOnce label) [] tt)
  once_from (Line.Top k ∷ lines) call zero before after =
      All-cons (IsCompletedOnce label) call (calls_from (Line.Top k ∷ []) lines) (once_if_settled call before) (once_from lines (Line.Top k ∷ []) 0 refl after)
  once_from (Line.Top k ∷ lines) call (suc n) before after = absurd (let no : None ≡ Some 0 = sym (none_stays lines) ∙ after in cc)
  once_from (line ∷ lines) call n before after = one_more call line lines n (once_from lines (call ++ line ∷ [])) before after

  once_in_each : (lines : List Line) → owed_by (Some 0) lines ≡ Some 0 → All (IsCompletedOnce label) (top_calls lines)
  once_in_each [] settled = All-from_recursion (IsCompletedOnce label) [] tt
  once_in_each (line ∷ lines) settled = one_more [] line lines 0 (once_from lines (line ∷ [])) refl settled

pub completed_once : CompletedOnce
completed_once S c pool store end is label =
    once_in_each label end.lines (sym (owed_of_tally label end.lines nothing_open) ∙ ap (λ t. t.owed) (done_tally S c pool store label end is))

-- ---- commits

record Outstanding (W : World) (st : State) : Type 0 where
  ledger : Ledger
  holds : At W ledger st

outstanding : (W : World) (E : Ledger) (r : Result) → Ends W E r → Outstanding W (state_of r)
outstanding W E (Over x st) ends = record { ledger = E; holds = ends }
outstanding W E (Stops w st) ends = record { ledger = ends.ledger; holds = ends.holds }
outstanding W E (Breaks st) ends = record { ledger = ends.ledger; holds = ends.holds }

none_rolls_back : (t : ℕ) (lines : List Line) → count (is_end t) lines ≡ 0 → list_any (is_rollback t) lines ≡ false
none_rolls_back t [] none = refl
none_rolls_back t (line ∷ lines) none =
    let parts = count_append (is_end t) (line ∷ []) lines in
    ap (λ b. b || list_any (is_rollback t) lines) (line_is line (omega (arith, parts, none))) ∙ none_rolls_back t lines (omega (arith, parts, none))
  where
    line_is : (line : Line) → count (is_end t) (line ∷ []) ≡ 0 → is_rollback t line ≡ false
    line_is (Line.Rollback u) none = by (u == t) refl none
      where
        by : (b : Bool) → (u == t) ≡ b → count (is_end t) (Line.Rollback u ∷ []) ≡ 0 → (u == t) ≡ false
        by true same none = let one : count (is_end t) (Line.Rollback u ∷ []) ≡ 1 = rw (same, filter) refl in absurd (omega (arith, none, one))
        by false other none = other
    line_is line none = refl

pub committed_stays_committed : CommittedStaysCommitted
unfolding any_label
committed_stays_committed S c pool store fresh first rest t n is =
    let W = world S pool store any_label in
    let here = outstanding W nothing_outstanding (script S c pool store) (script_goes W c) in
    let once : count (is_end t) (state_of (script S c pool store)).lines ≤ 1 = here.holds.stores.once fresh t in
    let all : count (is_end t) (state_of (script S c pool store)).lines ≡ count (is_end t) first + count (is_end t) (Line.Commit t n ∷ rest) = ap (count (is_end t)) is ∙ count_append (is_end t) first (Line.Commit t n ∷ rest) in
    let this : count (is_end t) (Line.Commit t n ∷ []) ≡ 1 = rw (eq-eqb t t refl, filter) refl in
    none_rolls_back t (first ++ rest) (omega (arith, once, all, this, count_append (is_end t) (Line.Commit t n ∷ []) rest, count_append (is_end t) first rest))
