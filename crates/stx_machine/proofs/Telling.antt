-- The lines that tell registrations, all in one go; and what is left once those that were resumed are told.
use Rattle.std.proofs.Common.{◌≡◌, ◌∙◌, ◌++◌, ◌∷◌, [], ℕ, Bool, true, List, map, refl, sym, ap, subst, append_assoc, append-nil}
use Rattle.std.specs.Prelude.{◌<◌, IsSome}
use Rattle.stx_scenario.specs.declared.scenario.Scenario.{Scenario}
use Rattle.stx_base.specs.Attributes.{attribute}
use Rattle.stx_base.specs.Limits.{most_calls}
use Rattle.stx_base.specs.declared.history.PoolNote.{PoolNote}
use Rattle.stx_base.specs.declared.history.StoreNote.{StoreNote}
use Rattle.stx_base.specs.declared.line.Line.{Line}
use Rattle.stx_base.specs.declared.line.Label.{Label}
use Rattle.stx_model.specs.Contexts.{ordered_labels}
use Rattle.stx_model.specs.Meanings.{State, Result, Meaning, finally}
use Rattle.stx_model.specs.Scopes.{say_each}
use Rattle.stx_model.specs.Statements.{caught}
use Rattle.stx_context.specs.Carrying.{context_of}
use Rattle.stx_sync.specs.declared.registered.Registered.{Registered}
use Rattle.stx_sync.specs.Registries.{registration}
use Rattle.stx_machine.specs.declared.completion.Intercepted.{Intercepted}
use Rattle.stx_machine.specs.declared.interception.Phase.{Phase}
use Rattle.stx_machine.specs.declared.machine.Machine.{Machine}
use Rattle.stx_machine.specs.declared.stage.Stage.{Stage}
use Rattle.stx_machine.specs.Machine.{AreTold, later_calls, of_top, on_top, onward, onward_caught, phase_after, resumes_call, stack, state_before, tells_resumed, told_line, unwound}
use Rattle.stx_machine.specs.Sound.{CallResumes, CallsRun, IsApart, IsCall, ResumesIn, no_tokens, rank_at, standing_of}

-- a state that has said these lines too
abbrev pub with_lines : State → List Line → State
with_lines st lines = record { lines = lines; context = st.context; local = st.local; pool = st.pool; store = st.store }

each_is : (line : Label → Line) (labels : List Label) (st : State) → say_each line labels st ≡ with_lines st (st.lines ++ map line labels)
each_is line [] st = ap (with_lines st) (sym (append-nil st.lines))
each_is line (l ∷ ls) st = each_is line ls (with_lines st (st.lines ++ line l ∷ [])) ∙ ap (with_lines st) (append_assoc st.lines (line l ∷ []) (map line ls))

labels_are : (told : List Registered) → map (λ r. r.label) (map registration told) ≡ map (λ r. r.label) told
labels_are [] = refl
labels_are (r ∷ told) = ap (λ ls. r.label ∷ ls) (labels_are told)

map_twice : (line : Label → Line) (told : List Registered) → map line (map (λ r. r.label) told) ≡ map (λ r. line r.label) told
map_twice line [] = refl
map_twice line (r ∷ told) = ap (λ ls. line r.label ∷ ls) (map_twice line told)

-- the registrations of a context, told by order, are these lines
pub tells_lines : (resumed : Bool) (told : List Registered) (st : State) → AreTold told st.context
    → say_each (told_line resumed) (ordered_labels st.context.syncs) st ≡ with_lines st (st.lines ++ map (λ r. told_line resumed r.label) told)
tells_lines resumed told st are =
    ap (λ rs. say_each (told_line resumed) (map (λ r. r.label) rs) st) (sym are)
    ∙ each_is (told_line resumed) (map (λ r. r.label) (map registration told)) st
    ∙ ap (λ ls. with_lines st (st.lines ++ map (told_line resumed) ls)) (labels_are told)
    ∙ ap (λ ls. with_lines st (st.lines ++ ls)) (map_twice (told_line resumed) told)

-- ---- what was suspended for the innermost call is carried again

-- its registrations were told, the call was taken off, and its completion goes on or it is refused
module _ (S : Scenario) (m said off : Machine) (call : Intercepted) (kept : said ≡ record m { lines = said.lines }) (top : stack said.frames ≡ on_top call ∷ stack off.frames) (left : off ≡ record said { frames = off.frames }) where
  pub goes_on_resumed : (n : ℕ) (told : List Registered) (phase : Phase) (next : Meaning) (pool : List PoolNote) (store : List StoreNote)
      → AreTold told (context_of m.context) → said.lines.items ≡ m.lines.items ++ map (λ r. told_line true r.label) told → call.interception.phase ≡ phase
      → ((st : State) → phase_after S call.method call.place call.interception phase (resumes_call S call.method call.interception phase st) ≡ next (tells_resumed st))
      → onward S n m (of_top S (stack m.frames) Stage.Resuming (state_before m pool store)) ≡ onward_caught S n off call.catch (next (state_before off pool store))
  unfolding unwound
  goes_on_resumed n told phase next pool store are lines is first =
      let st = state_before m pool store in
      let leaving : Machine → Result → Result = λ z r. later_calls S n z.top (unwound S (stack off.frames) (finally r (caught S call.catch))) in
      ap (λ z. onward S n z (of_top S (stack z.frames) Stage.Resuming st)) (sym kept)
      ∙ ap (λ fs. later_calls S n said.top (unwound S fs (of_top S fs Stage.Resuming st))) top
      ∙ ap (λ p. leaving said (phase_after S call.method call.place call.interception p (resumes_call S call.method call.interception p st))) is
      ∙ ap (leaving said) (first st ∙ ap next (tells_lines true told st are))
      ∙ ap (λ ls. leaving said (next (with_lines st ls))) (sym lines)
      ∙ ap (λ z. leaving said (next (record (state_before z pool store) { lines = said.lines.items }))) (sym kept)
      ∙ ap (λ z. leaving z (next (state_before z pool store))) (sym left)

  pub resumed_is : CallResumes S (standing_of m.context) (stack m.frames) → m.top < most_calls → m.tokens ≡ no_tokens
      → IsCall S (rank_at S off) call.method call.catch × IsSome (attribute S call.method) × ResumesIn S call.interception call.interception.phase × IsApart S off (standing_of off.context)
  resumed_is resumes early holds =
      let here = subst (CallResumes S (standing_of m.context)) top (subst (λ z. CallResumes S (standing_of m.context) (stack z.frames)) (sym kept) resumes) in
      let was : m.context ≡ off.context = sym (ap (λ z. z.context) left ∙ ap (λ z. z.context) kept) in (
        here.0,
        here.1,
        here.2,
        record {
          calls = subst (λ k. CallsRun S (standing_of k) (stack off.frames)) was here.3;
          top = subst (λ z. z.top < most_calls) (sym left) (subst (λ z. z.top < most_calls) (sym kept) early);
          holds = ap (λ z. z.tokens) left ∙ ap (λ z. z.tokens) kept ∙ holds;
        },
      )
