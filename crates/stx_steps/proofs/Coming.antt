-- Where a piece of the innermost frame comes to: where another does that is the same, also with other frames below it.
use Rattle.std.proofs.Common.{◌≡◌, ℕ, ◌++◌, ◌∷◌, [], List, Option, Some, sym, ap, ◌∙◌}
use Rattle.std.specs.Option.{option_to_list}
use Rattle.stx_scenario.specs.declared.numbers.ClassNo.{ClassNo}
use Rattle.stx_scenario.specs.declared.numbers.MethodNo.{MethodNo}
use Rattle.stx_scenario.specs.declared.scenario.Scenario.{Scenario}
use Rattle.stx_scenario.specs.Rooms.{Room}
use Rattle.stx_model.specs.Meanings.{State, Meaning, finally}
use Rattle.stx_model.specs.Rounds.{Way}
use Rattle.stx_model.specs.Script.{calls_below, invoked}
use Rattle.stx_model.specs.Statements.{caught}
use Rattle.stx_context.specs.Carrying.{context_of}
use Rattle.stx_machine.specs.declared.completion.Intercepted.{Intercepted}
use Rattle.stx_machine.specs.declared.machine.Machine.{Machine}
use Rattle.stx_machine.specs.Machine.{Call, Comes, frame_after, inside, later_calls, on_top, onward, stack, state_before, state_with, unwound}
use Rattle.stx_machine.specs.Sound.{IsCall}
use Rattle.stx_machine.proofs.TopLaws.{called_at}
use Rattle.stx_machine.proofs.Stacks.{popped, resume_pushed, with_top}

-- this frame was taken off
pub popped_top : (old new : Room Call) (top : Option Call) (f : Call) → top ≡ Some f → old.items ≡ new.items ++ option_to_list top → stack old ≡ f ∷ stack new
popped_top old new top f is items = popped old new top items ∙ ap (λ t. with_top t (stack new)) is

module _ (S : Scenario) (before after : Machine) (this : Meaning) where
  -- a piece that is the same as another
  comes_as : (other : Meaning) → ((st : State) → this st ≡ other st) → Comes S before other after → Comes S before this after
  comes_as other same comes n pool store = ap (onward S n before) (same (state_before before pool store)) ∙ comes n pool store

  -- with one more frame on top, of which the other is a piece
  pub comes_pushed : (other : Meaning) (frames : Room Call) (f : Call) → frames.items ≡ before.frames.items ++ f ∷ []
      → ((st : State) → this st ≡ frame_after S (stack before.frames) f (other st))
      → Comes S (record before { frames = frames }) other after → Comes S before this after
  comes_pushed other frames f pushed same comes n pool store =
      let st = state_before before pool store in
      ap (onward S n before) (same st) ∙ ap (later_calls S n before.top) (resume_pushed S before.frames frames f (other st) pushed) ∙ comes n pool store

  -- where something else is carried that is the same to the script
  pub comes_carried : (mid : Machine) → mid ≡ record before { context = mid.context } → context_of mid.context ≡ context_of before.context
      → Comes S mid this after → Comes S before this after
  comes_carried mid rest same comes n pool store =
      ap (λ context. onward S n before (this (state_with before context pool store))) (sym same)
      ∙ ap (λ (z : Machine). onward S n z (this (state_with z (context_of mid.context) pool store))) (sym rest)
      ∙ comes n pool store

  -- with the innermost frame taken off, of which this is a piece
  pub comes_popped : (frames : Room Call) (f : Call) → stack before.frames ≡ f ∷ stack frames
      → Comes S (record before { frames = frames }) (λ st. frame_after S (stack frames) f (this st)) after → Comes S before this after
  unfolding unwound
  comes_popped frames f top comes n pool store = ap (λ fs. later_calls S n before.top (unwound S fs (this (state_before before pool store)))) top ∙ comes n pool store

-- with the intercepted call taken off that is on top
pub comes_off : (S : Scenario) (before after off : Machine) (call : Intercepted) (piece : List Call → Meaning)
    → stack before.frames ≡ on_top call ∷ stack off.frames → off ≡ record before { frames = off.frames }
    → Comes S off (λ st. frame_after S (stack off.frames) (on_top call) (piece (on_top call ∷ stack off.frames) st)) after
    → Comes S before (piece (stack before.frames)) after
unfolding unwound
comes_off S before after off call piece top rest comes n pool store =
    ap (λ fs. later_calls S n before.top (unwound S fs (piece fs (state_before before pool store)))) top
    ∙ ap (λ (z : Machine). later_calls S n z.top (unwound S (on_top call ∷ stack off.frames) (piece (on_top call ∷ stack off.frames) (state_before z pool store)))) (sym rest)
    ∙ comes n pool store

-- a piece by what it is of, as a statement: the piece of another that is the same
pub comes_of : {X : Type 0} (S : Scenario) (before after : Machine) (piece : X → Meaning) (x y : X) (other : Meaning) → x ≡ y → ((st : State) → piece y st ≡ other st)
    → Comes S before other after → Comes S before (piece x) after
comes_of S before after piece x y other is same comes = comes_as S before after (piece x) other (λ st. ap (λ z. piece z st) is ∙ same st) comes

-- a method of a rank below this is called in the same way by all that may call it
pub comes_called : (S : Scenario) (before after : Machine) (way : Way) (k : ℕ) (m : MethodNo) (catch : Option ClassNo) → IsCall S k m catch
    → Comes S before (λ st. finally (invoked S (inside S m) way m st) (caught S catch)) after
    → Comes S before (λ st. finally (calls_below S k way m st) (caught S catch)) after
comes_called S before after way k m catch call =
    comes_as S before after (λ st. finally (calls_below S k way m st) (caught S catch)) (λ st. finally (invoked S (inside S m) way m st) (caught S catch))
    (λ st. ap (λ r. finally r (caught S catch)) (called_at S way m st k call.low))
