-- A client's lines start those of its script, and its machine stops where the script does.
use Rattle.std.proofs.Common.{◌≡◌, ◌≤◌, ℕ, ◌++◌, ◌∷◌, [], false, true, List, Bool, Some, None, length, refl, sym, ap, ◌∙◌, append-nil, append_assoc, arith, Result, Ok, Err}
use Rattle.std.specs.Prelude.{OnOk, OnErr, reverse}
use Rattle.stx_scenario.specs.declared.scenario.Scenario.{Scenario}
use Rattle.std.specs.Prelude.{if◌then◌else◌}
use Rattle.std.proofs.lemmas.Bool.{false≢true}
use Rattle.stx_base.specs.declared.call.Want.{Want}
use Rattle.stx_base.specs.declared.call.Reply.{Reply}
use Rattle.stx_base.specs.declared.history.Access.{Access}
use Rattle.stx_base.specs.declared.history.Note.{Note}
use Rattle.stx_base.specs.declared.history.PoolNote.{PoolNote}
use Rattle.stx_base.specs.declared.history.StoreNote.{StoreNote}
use Rattle.stx_base.specs.declared.line.Line.{Line}
use Rattle.stx_base.specs.Notes.{is_reply, note_of}
use Rattle.stx_model.specs.Meanings.{Stops, state_of, stop_of}
use Rattle.stx_model.specs.Meanings.{Result as Outcome}
use Rattle.stx_model.specs.Reads.{ReadsAll, StartsWith, pool_with, store_with}
use Rattle.stx_model.specs.Script.{script}
use Rattle.stx_machine.specs.declared.machine.Machine.{Machine}
use Rattle.stx_machine.specs.declared.stage.Place.{Place}
use Rattle.stx_machine.specs.declared.stage.Stage.{Stage}
use Rattle.stx_machine.specs.declared.tokens.Tokens.{Tokens}
use Rattle.stx_context.specs.Carrying.{Carried}
use Rattle.stx_machine.specs.Machine.{Call, Goes, context_at, falls, has_failed, later_calls, piece, unwound, run, stack, state_at, want_of}
use Rattle.stx_steps.specs.Steps.{Hears}
use Rattle.stx_machine.specs.Sound.{IsSound, StageFits}
use Rattle.stx_machine.proofs.Growth.{run_starts, run_stops}
use Rattle.stx_client.specs.View.{ClientView, script_of, has_told, with_note, fed}
use Rattle.stx_client.specs.inner.Keeps.{GoesOn, IsWaiting, Keeps, RunsOn, held_while, run_with}

-- ---- what is left of the script

-- with a note more, the lines are still the beginning
pub with_starts : (S : Scenario) (n : ℕ) (m : Machine) (note : Note) → StartsWith (state_of (run_with S n m note [] [])).lines m.lines.items
with_starts S n m (Note.Pool note) = run_starts S n m (note ∷ []) []
with_starts S n m (Note.Store note) = run_starts S n m [] (note ∷ [])

-- room alone was made
run_stays : (S : Scenario) (n : ℕ) (before after : Machine) → after.lines.items ≡ before.lines.items → after.frames.items ≡ before.frames.items
    → after ≡ record before { lines = after.lines; frames = after.frames } → (pool : List PoolNote) (store : List StoreNote) → run S n before pool store ≡ run S n after pool store
run_stays S n before after said calls rest pool store =
    let at : List Line → List Call → Outcome =
    λ lines frames.
    later_calls S n before.top (unwound S (reverse frames) (piece S (reverse frames) before.stage
    (record { lines = lines; context = context_at before.stage before.context; local = before.local; pool = pool; store = store }))) in
    sym (ap (λ m. run S n m pool store) rest ∙ (λ k. at (said k) (calls k)))

-- a note that is heard after that, and all that is done at once after it
pub heard_goes : (S : Scenario) (n : ℕ) (note : Note) (before roomy heard after : Machine) → roomy.lines.items ≡ before.lines.items → roomy.frames.items ≡ before.frames.items
    → roomy ≡ record before { lines = roomy.lines; frames = roomy.frames } → Hears S note roomy heard → Goes S n heard after → GoesOn S n note before after
heard_goes S n (Note.Pool note) before roomy heard after said calls rest hears goes p s =
    run_stays S n before roomy said calls rest (note ∷ p) s ∙ hears n p s ∙ goes p s
heard_goes S n (Note.Store note) before roomy heard after said calls rest hears goes p s =
    run_stays S n before roomy said calls rest p (note ∷ s) ∙ hears n p s ∙ goes p s

-- what the client holds is nothing to what is left
pub goes_whatever : (S : Scenario) (n : ℕ) (note : Note) (before : Machine) (tokens : Tokens) (after : Machine) → GoesOn S n note (record before { tokens = tokens }) after → GoesOn S n note before after
goes_whatever S n (Note.Pool note) before tokens after goes = goes
goes_whatever S n (Note.Store note) before tokens after goes = goes

-- a sound machine has not failed
pub is_going : (S : Scenario) (stage : Stage) (carried : Carried) (calls : List Call) → StageFits S stage carried calls → has_failed stage ≡ false
is_going S (Stage.Over x) carried calls fits = refl
is_going S (Stage.Opening m catch) carried calls fits = refl
is_going S Stage.Completing carried calls fits = refl
is_going S Stage.Rounding carried calls fits = refl
is_going S (Stage.Dealing publication) carried calls fits = refl
is_going S Stage.Resuming carried calls fits = refl
is_going S (Stage.Pointing t) carried calls fits = refl
is_going S (Stage.GoingBack t) carried calls fits = refl
is_going S (Stage.Releasing t) carried calls fits = refl
is_going S (Stage.Connecting a d) carried calls fits = refl
is_going S (Stage.Accessing place a d) carried calls fits = refl
is_going S (Stage.Returning c x) carried calls fits = refl
is_going S Stage.Taking carried calls fits = refl
is_going S (Stage.Beginning c) carried calls fits = refl
is_going S (Stage.Committing t) carried calls fits = refl
is_going S (Stage.RollingBack t) carried calls fits = refl
is_going S (Stage.GivingBack bound) carried calls fits = refl
is_going S Stage.Done carried calls fits = refl
is_going S Stage.Failed carried calls fits = absurd fits

pub on_err_within : {T E : Type 0} (a b d : ℕ) (result : Result T E) → a ≤ b → OnErr result (b ≤ d) → OnErr result (a ≤ d)
on_err_within a b d (Ok t) first second = tt
on_err_within a b d (Err e) first second = omega (arith, first, second)

-- of two beginnings of a list the longer one begins with the other
pub longer_starts : {A : Type 0} (all xs ys : List A) → StartsWith all xs → StartsWith all ys → length xs ≤ length ys → StartsWith ys xs
longer_starts all [] ys (more, is) (rest, same) longer = (ys, refl)
longer_starts all (x ∷ xs) [] (more, is) (rest, same) longer = absurd (omega (arith, longer))
longer_starts [] (x ∷ xs) (y ∷ ys) (more, is) (rest, same) longer = cc
longer_starts (a ∷ all) (x ∷ xs) (y ∷ ys) (more, is) (rest, same) longer =
    let inner = longer_starts all xs ys (more, cc) (rest, cc) (omega (arith, longer)) in
    let first : y ≡ x = cc in
    (inner.0, (λ i. first i ∷ inner.1 i))

-- what is left of the script begins with what was said
pub goes_starts : (S : Scenario) (n : ℕ) (note : Note) (before after : Machine) → GoesOn S n note before after → StartsWith (state_of (run_with S n before note [] [])).lines after.lines.items
goes_starts S n note before after goes =
    let (more, is) = run_starts S n after [] [] in
    (more, ap (λ r. (state_of r).lines) (goes [] []) ∙ is)

-- what was said is never taken back: where the machine waits its lines are all that is left of the script so far, and where
-- memory ran out there are no fewer
pub stays_said : {T E : Type 0} (S : Scenario) (n : ℕ) (note : Note) (before after : Machine) (tokens : Tokens) (result : Result T E) → GoesOn S n note before after → IsSound S after tokens
    → OnOk result (falls after.stage ≡ false) → OnErr result (length before.lines.items ≤ length after.lines.items) → StartsWith after.lines.items before.lines.items
stays_said S n note before after tokens (Ok t) goes sound waits kept =
    let (more, is) = with_starts S n before note in
    let stops = run_stops S n after tokens sound waits (is_going S after.stage after.context (stack after.frames) sound.stage) in
    (more, sym (ap (λ r. (state_of r).lines) (goes [] [] ∙ stops)) ∙ is)
stays_said S n note before after tokens (Err e) goes sound waits kept =
    longer_starts (state_of (run_with S n before note [] [])).lines before.lines.items after.lines.items (with_starts S n before note) (goes_starts S n note before after goes) kept

module _ (S : Scenario) (n : ℕ) (m : Machine) (pool : List PoolNote) (store : List StoreNote) (runs : RunsOn S n m pool store) where
  runs_now : script S n pool store ≡ run S n m [] []
  runs_now = (λ i. script S n (sym (append-nil pool) i) (sym (append-nil store) i)) ∙ runs [] []

  pub starts_now : StartsWith (state_of (script S n pool store)).lines m.lines.items
  starts_now =
      let (more, is) = run_starts S n m [] [] in
      (more, ap (λ r. (state_of r).lines) runs_now ∙ is)

  -- a note more
  pub script_with : (note : Note) → script S n (pool_with pool note) (store_with store note) ≡ run_with S n m note [] []
  script_with (Note.Pool note) = ap (script S n (pool ++ note ∷ [])) (sym (append-nil store)) ∙ runs (note ∷ []) []
  script_with (Note.Store note) = ap (λ ps. script S n ps (store ++ note ∷ [])) (sym (append-nil pool)) ∙ runs [] (note ∷ [])

  -- and the machine that has heard it is what is left
  pub runs_with : (note : Note) (after : Machine) → GoesOn S n note m after → RunsOn S n after (pool_with pool note) (store_with store note)
  runs_with (Note.Pool note) after goes p s = ap (λ ps. script S n ps (store ++ s)) (append_assoc pool (note ∷ []) p) ∙ runs (note ∷ p) s ∙ goes p s
  runs_with (Note.Store note) after goes p s = ap (script S n (pool ++ p)) (append_assoc store (note ∷ []) s) ∙ runs p (note ∷ s) ∙ goes p s

  module _ (tokens : Tokens) (waiting : IsWaiting S m tokens) where
    pub stops_now : script S n pool store ≡ Stops (want_of m.stage) (state_at m [] [])
    stops_now = runs_now ∙ run_stops S n m tokens waiting.sound waiting.waits waiting.going

    pub reads_now : ReadsAll S n pool store
    reads_now = record { pool_read = ap (λ r. (state_of r).pool) stops_now; store_read = ap (λ r. (state_of r).store) stops_now }

    pub said_now : m.lines.items ≡ (state_of (script S n pool store)).lines
    said_now = sym (ap (λ r. (state_of r).lines) stops_now)

-- ---- what is wanted

-- a stage that waits, isn't done and hasn't failed wants one of these calls
pub wants_one : (stage : Stage) (w : Want) → w ≡ want_of stage → falls stage ≡ false → has_failed stage ≡ false → (w ≡ Want.Done → ⊥) → (w ≡ Want.Take → ⊥) → ((c : ℕ) → w ≡ Want.Give c → ⊥)
    → (w ≡ Want.Begin → ⊥) → ((t : ℕ) (a : Access) → w ≡ Want.Access t a → ⊥) → ((a : Access) → w ≡ Want.Auto a → ⊥) → ((t : ℕ) → w ≡ Want.Point t → ⊥) → ((t : ℕ) → w ≡ Want.BackTo t → ⊥) → ((t : ℕ) → w ≡ Want.Release t → ⊥)
    → ((t : ℕ) → w ≡ Want.Commit t → ⊥) → ((t : ℕ) → w ≡ Want.Rollback t → ⊥) → ⊥
wants_one (Stage.Over x) w is waits ok done take give begin access auto point back release commit rollback = cc
wants_one (Stage.Opening m catch) w is waits ok done take give begin access auto point back release commit rollback = cc
wants_one Stage.Completing w is waits ok done take give begin access auto point back release commit rollback = cc
wants_one (Stage.Connecting a d) w is waits ok done take give begin access auto point back release commit rollback = take is
wants_one (Stage.Accessing (Place.Transaction t) a d) w is waits ok done take give begin access auto point back release commit rollback = access t a is
wants_one (Stage.Accessing (Place.Connection c) a d) w is waits ok done take give begin access auto point back release commit rollback = auto a is
wants_one (Stage.Returning c x) w is waits ok done take give begin access auto point back release commit rollback = give c is
wants_one Stage.Taking w is waits ok done take give begin access auto point back release commit rollback = take is
wants_one (Stage.Beginning c) w is waits ok done take give begin access auto point back release commit rollback = begin is
wants_one (Stage.Dealing publication) w is waits ok done take give begin access auto point back release commit rollback = cc
wants_one Stage.Rounding w is waits ok done take give begin access auto point back release commit rollback = cc
wants_one Stage.Resuming w is waits ok done take give begin access auto point back release commit rollback = cc
wants_one (Stage.Pointing t) w is waits ok done take give begin access auto point back release commit rollback = point t is
wants_one (Stage.GoingBack t) w is waits ok done take give begin access auto point back release commit rollback = back t is
wants_one (Stage.Releasing t) w is waits ok done take give begin access auto point back release commit rollback = release t is
wants_one (Stage.Committing t) w is waits ok done take give begin access auto point back release commit rollback = commit t is
wants_one (Stage.RollingBack t) w is waits ok done take give begin access auto point back release commit rollback = rollback t is
wants_one (Stage.GivingBack bound) w is waits ok done take give begin access auto point back release commit rollback = give bound.connection is
wants_one Stage.Done w is waits ok done take give begin access auto point back release commit rollback = done is
wants_one Stage.Failed w is waits ok done take give begin access auto point back release commit rollback = cc

-- ---- what the view tells

abbrev pub view_of : Scenario → ℕ → Machine → Bool → List PoolNote → List StoreNote → ClientView
view_of S n m out pool store =
    record { scenario = S; number = n; pool = pool; store = store; out = if out then Some (want_of m.stage) else None; failed = has_failed m.stage; said = m.lines.items }

module _ {S : Scenario} {n : ℕ} {m : Machine} {pool : List PoolNote} {store : List StoreNote} (out : Bool) (keeps : Keeps S n m out pool store) (client : ClientView)
    (view : view_of S n m out pool store ≡ client) (ok : client.failed ≡ false) where
  pub going : has_failed m.stage ≡ false
  going = ap (λ v. v.failed) view ∙ ok

  pub want_is : (w : Want) → want_of m.stage ≡ w → stop_of (script_of client) ≡ Some w
  want_is w is =
      ap (λ v. stop_of (script_of v)) (sym view) ∙ ap stop_of (stops_now S n m pool store (keeps.runs going) (held_while out m.stage) (keeps.waiting going)) ∙ ap Some is

  pub out_is : (reply : Reply) → is_reply client.out reply ≡ true → out ≡ true
  out_is reply is = by_out out (ap (λ v. is_reply v.out reply) view ∙ is)
    where
      by_out : (b : Bool) → is_reply (if b then Some (want_of m.stage) else None) reply ≡ true → b ≡ true
      by_out true is = refl
      by_out false is = is

-- a client that has heard a note and said all of its script has been fed
pub fed_is : (S : Scenario) (n : ℕ) (m : Machine) (out : Bool) (pool : List PoolNote) (store : List StoreNote) (client : ClientView) (reply : Reply) (note : Note)
    (new : Machine) (pool' : List PoolNote) (store' : List StoreNote) → view_of S n m out pool store ≡ client → out ≡ true
    → has_failed m.stage ≡ false → note_of (want_of m.stage) reply ≡ Some note → pool' ≡ pool_with pool note → store' ≡ store_with store note
    → has_failed new.stage ≡ false → new.lines.items ≡ (state_of (script S n pool' store')).lines → view_of S n new false pool' store' ≡ fed client reply
fed_is S n m out pool store client reply note new pool' store' view is_out ok is pool_is store_is new_ok said =
    let same : has_failed new.stage ≡ has_failed m.stage = new_ok ∙ sym ok in
    let told : new.lines.items ≡ (state_of (script S n (pool_with pool note) (store_with store note))).lines = said ∙ (λ j. (state_of (script S n (pool_is j) (store_is j))).lines) in
    (λ j. record { scenario = S; number = n; pool = pool_is j; store = store_is j; out = None; failed = same j; said = told j })
    ∙ ap (λ o. has_told (with_note (view_of S n m true pool store) o)) (sym is)
    ∙ ap (λ b. fed (view_of S n m b pool store) reply) (sym is_out)
    ∙ ap (λ v. fed v reply) view

pub not_failed : {X : Type 0} → true ≡ false → X
not_failed is = absurd (false≢true (sym is))
