-- The stack of calls, the innermost first, where one is put on top or taken off.
use Rattle.std.proofs.Common.{◌≡◌, ◌⊎◌, inl, inr, get_or, ◌<◌, ◌≤◌, ◌-◌, ◌++◌, ◌∷◌, [], List, length, Option, Some, None, refl, sym, ap, ◌∙◌, append-nil, arith}
use Rattle.std.proofs.lemmas.Option.{slice_get_cases}
use Rattle.stx_frames.specs.Stacks.{last_of}
use Rattle.std.specs.Prelude.{ℕ, reverse, slice_get, unwrap_or, IsSome}
use Rattle.std.specs.Option.{option_to_list, option_map}
use Rattle.std.proofs.lemmas.List.{reverse-append}
use Rattle.stx_scenario.specs.Rooms.{Room}
use Rattle.stx_scenario.specs.declared.numbers.ClassNo.{ClassNo}
use Rattle.stx_scenario.specs.declared.numbers.MethodNo.{MethodNo}
use Rattle.stx_base.specs.declared.history.PoolNote.{PoolNote}
use Rattle.stx_base.specs.declared.history.StoreNote.{StoreNote}
use Rattle.stx_model.specs.Contexts.{Live, bare}
use Rattle.stx_model.specs.Meanings.{State, Result, Meaning}
use Rattle.stx_model.specs.Scopes.{live_in, resumed}
use Rattle.stx_model.specs.Scopes.{resume}
use Rattle.stx_context.specs.Carrying.{Carried, context_of}
use Rattle.stx_frames.specs.declared.frame.Frame.{Frame}
use Rattle.stx_machine.specs.declared.interception.Interception.{Interception}
use Rattle.stx_machine.specs.declared.interception.Phase.{Phase}
use Rattle.stx_machine.specs.Sound.{Standing, OpensIn, PointsIn, RunsIn}
use Rattle.stx_machine.specs.declared.machine.Machine.{Machine}
use Rattle.stx_machine.specs.declared.stage.Stage.{Stage}
use Rattle.stx_scenario.specs.declared.scenario.Scenario.{Scenario}
use Rattle.stx_machine.specs.Machine.{Call, IsPushed, HasTransaction, Innermost, stack, unwound, frame_after, piece, state_with, context_at, later_calls, run}

-- a call on top
pub pushed : (old new : Room Call) (f : Call) → new.items ≡ old.items ++ f ∷ [] → stack new ≡ f ∷ stack old
pushed old new f is = ap reverse is ∙ reverse-append old.items (f ∷ [])

-- the innermost call taken off, if there is one
abbrev pub with_top : Option Call → List Call → List Call
with_top (Some f) fs = f ∷ fs
with_top None fs = fs

pub popped : (old new : Room Call) (top : Option Call) → old.items ≡ new.items ++ option_to_list top → stack old ≡ with_top top (stack new)
popped old new (Some f) is = ap reverse is ∙ reverse-append new.items (f ∷ [])
popped old new None is = ap reverse (is ∙ append-nil new.items)

-- what a pushed call means
pub resume_pushed : (S : Scenario) (old new : Room Call) (f : Call) (r : Result) → new.items ≡ old.items ++ f ∷ []
    → unwound S (stack old) (frame_after S (stack old) f r) ≡ unwound S (stack new) r
unfolding unwound
resume_pushed S old new f r is = ap (λ fs. unwound S fs r) (sym (pushed old new f is))

-- a call on top, at a stage
pub put_on : (S : Scenario) (n : ℕ) (m after : Machine) (call : Call) (stage : Stage) (pool : List PoolNote) (store : List StoreNote) → IsPushed m call after
    → (let st = state_with m (context_at stage m.context) pool store in
    later_calls S n m.top (unwound S (call ∷ stack m.frames) (piece S (call ∷ stack m.frames) stage st)) ≡ run S n (record after { stage = stage }) pool store)
put_on S n m after call stage pool store is =
    ap (λ fs. later_calls S n m.top (unwound S fs (piece S fs stage (state_with m (context_at stage m.context) pool store)))) (sym (pushed m.frames after.frames call is.frames))
    ∙ ap (λ z. run S n (record z { stage = stage }) pool store) (sym is.rest)

-- the transaction that is live
pub live_is : (tx : Option Live) (t : ℕ) (next : ℕ → Meaning) (st : State) → HasTransaction tx t → live_in tx (λ live. next live.transaction) st ≡ next t st
live_is (Some live) t next st is = ap (λ u. next u st) is
live_is None t next st is = absurd is

-- where there is no innermost call there is none
pub none_left : (items : List Call) → None ≡ last_of items → items ≡ []
none_left [] is = refl
none_left (f ∷ fs) is = by_place (slice_get_cases (f ∷ fs) (length fs)).1
  where
    by_place : ((x : Call) × (length fs < length (f ∷ fs)) × (slice_get (f ∷ fs) (length fs) ≡ Some x) × (get_or (f ∷ fs) (length fs) x ≡ x)) ⊎ ((length (f ∷ fs) ≤ length fs) × (slice_get (f ∷ fs) (length fs) ≡ None))
        → f ∷ fs ≡ []
    by_place (inl (x, less, there, same)) =
        let last : slice_get (f ∷ fs) (length (f ∷ fs) - 1) ≡ Some x = ap (slice_get (f ∷ fs)) (omega arith) ∙ there in absurd cc
    by_place (inr (past, none)) = absurd (omega (arith, past))

-- what holds with each intercepted call on top
pub each_innermost : (P : MethodNo → ℕ → Option ClassNo → Interception → List Call → Type 0) (Q : List Call → Type 0)
    → ((m : MethodNo) (place : ℕ) (catch : Option ClassNo) (i : Interception) (fs : List Call) → P m place catch i fs → Q (Frame.Body m place catch (Some i) ∷ fs))
    → (fs : List Call) → Innermost P fs → Q fs
each_innermost P Q holds (Frame.Body m place catch (Some i) ∷ fs) is = holds m place catch i fs is
each_innermost P Q holds (Frame.Body m place catch None ∷ fs) is = absurd is
each_innermost P Q holds (Frame.Round round todo at place x ∷ fs) is = absurd is
each_innermost P Q holds (Frame.Now listener place ∷ fs) is = absurd is
each_innermost P Q holds [] is = absurd is

-- ---- phases

pub opens_only : (i : Interception) (phase : Phase) → OpensIn i phase → phase ≡ Phase.Opening
opens_only i Phase.Opening opens = refl
opens_only i Phase.Running opens = absurd opens
opens_only i (Phase.Completing rest x) opens = absurd opens
opens_only i (Phase.Round course) opens = absurd opens

pub runs_only : (standing : Standing) (i : Interception) (phase : Phase) → RunsIn standing i phase → phase ≡ Phase.Running
runs_only standing i Phase.Running runs = refl
runs_only standing i Phase.Opening runs = absurd runs
runs_only standing i (Phase.Completing rest x) runs = absurd runs
runs_only standing i (Phase.Round course) runs = absurd runs

pub points_only : (i : Interception) (phase : Phase) → PointsIn i phase → phase ≡ Phase.Opening
points_only i Phase.Opening points = refl
points_only i Phase.Running points = absurd points
points_only i (Phase.Completing rest x) points = absurd points
points_only i (Phase.Round course) points = absurd points

-- what was suspended is there
pub resumes_some : (older : Option Carried) (st : State) → IsSome older → resume (unwrap_or (option_map context_of older) bare) st ≡ resumed (option_map context_of older) st
resumes_some (Some carried) st is = refl
resumes_some None st is = cc

pub some_is : {X : Type 0} (o : Option X) (x : X) → IsSome o → Some (unwrap_or o x) ≡ o
some_is (Some y) x is = refl
some_is None x is = cc

pub mapped_some : (o : Option Carried) → IsSome o → IsSome (option_map context_of o)
mapped_some (Some carried) is = is
mapped_some None is = is

-- where nothing was taken off, nothing was there
pub nothing_left : (old new : List Call) (top : Option Call) → top ≡ None → old ≡ new ++ option_to_list top → top ≡ last_of old → (old ≡ []) × (new ≡ [])
nothing_left old new top is items value =
    let none = none_left old (sym is ∙ value) in
    (none, sym (append-nil new) ∙ sym (items ∙ ap (λ t. new ++ option_to_list t) is) ∙ none)
