-- What was suspended is carried again, and is to be told; where nothing was, nothing but the leaving is left.
use Rattle.std.proofs.Common.{◌≡◌, ◌∙◌, ◌∷◌, List, None, true, refl, sym, ap, subst}
use Rattle.std.specs.Prelude.{IsSome, ◌<◌, ◌&&◌, false}
use Rattle.std.specs.Option.{is_some, option_map}
use Rattle.stx_base.specs.declared.manager.Action.{Action}
use Rattle.stx_base.specs.Limits.{most_calls}
use Rattle.stx_model.specs.Meanings.{State, Result}
use Rattle.stx_model.specs.Scopes.{acts, resumed}
use Rattle.stx_context.specs.Carrying.{context_of}
use Rattle.stx_manager.specs.Scopes.{OpenScope}
use Rattle.stx_machine.specs.declared.completion.Intercepted.{Intercepted}
use Rattle.stx_machine.specs.declared.interception.Phase.{Phase}
use Rattle.stx_machine.specs.declared.machine.Machine.{Machine}
use Rattle.stx_machine.specs.declared.stage.Stage.{Stage}
use Rattle.stx_machine.specs.Machine.{unwound, stack, acts_of, put_back, state_before, tells_resumed, onward}
use Rattle.stx_machine.specs.Sound.{CallResumes, CallsRun, IsApart, IsCompleting, below_rest, ends_syncs, is_due, rank_at, releases, standing_of, standing_under, without_own}
use Rattle.stx_machine.proofs.Stacks.{put_on}
use Rattle.stx_machine.proofs.Standings.{pushed_sound}
use Rattle.stx_machine.proofs.machine.Machine.take_up.Goals as goal

pub resume-requires-clause-bare : goal.resume-requires-clause-bare
resume-requires-clause-bare c = c.requires.bare (subst IsSome (sym (sym c.take_held.ensures.held ∙ c.in-Some.is)) refl)

pub returns-in-Some-clause-goes : goal.returns-in-Some-clause-goes
unfolding acts unwound
returns-in-Some-clause-goes c S n pool store =
    let m = c.args.self.now in
    let call = c.args.call in
    let rest = c.args.rest.now in
    let after = c.resume.new.self in
    let taken : Intercepted = record call { interception = record (call.interception) { scope = c.take_held.new.self } } in
    let at : Machine → Intercepted → List Action → State → Result = λ z k actions st. onward S n z (acts_of S k actions c.args.thrown st) in
    let told = tells_resumed (state_before after pool store) in
    ap (λ older. at m call rest (resumed (option_map context_of older) (state_before m pool store))) (sym c.take_held.ensures.held ∙ c.in-Some.is)
    ∙ ap (at m call rest) (c.resume.ensures.state pool store)
    ∙ ap (λ z. at z call rest told) (sym c.resume.ensures.rest)
    ∙ ap (λ actions. at after call actions told) c.requires.last
    ∙ ap (λ actions. at after taken actions told) (sym c.requires.last)
    ∙ put_on S n after c.put_back.new.self (put_back taken (Phase.Completing c.args.rest c.args.thrown)) Stage.Resuming pool store c.put_back.ensures

pub returns-in-Some-clause-sound : goal.returns-in-Some-clause-sound
returns-in-Some-clause-sound c S completing apart =
    let m = c.args.self.now in
    let call = c.args.call in
    let after = c.resume.new.self in
    let taken : Intercepted = record call { interception = record (call.interception) { scope = c.take_held.new.self } } in
    let top = put_back taken (Phase.Completing c.args.rest c.args.thrown) in
    let held = sym c.take_held.ensures.held ∙ c.in-Some.is in
    let none : c.take_held.new.self.suspended ≡ None = ap (λ s. s.suspended) c.take_held.ensures.rest in
    let calls = subst (λ older. CallsRun S (standing_under older (without_own (releases (Action.Resumption ∷ c.args.rest.now)) (call.interception.scope.owns && ends_syncs (Action.Resumption ∷ c.args.rest.now)) (standing_of m.context))) (stack m.frames)) held apart.calls in
    let fits : CallResumes S (standing_of c.in-Some.suspended) (top ∷ stack m.frames) =
    (completing.call, completing.intercepted.attribute, (c.requires.last, none, completing.class), calls) in
    pushed_sound S after c.put_back.new.self top Stage.Resuming _ c.put_back.ensures
    (subst (λ z. CallResumes S (standing_of z.context) (top ∷ stack z.frames)) (sym c.resume.ensures.rest) fits)
    (subst (λ z. z.top < most_calls) (sym c.resume.ensures.rest) apart.top) (ap (λ z. z.tokens) c.resume.ensures.rest ∙ apart.holds)

pub returns-in-None-clause-goes : goal.returns-in-None-clause-goes
unfolding acts
returns-in-None-clause-goes c S n pool store =
    let m = c.args.self.now in
    let call = c.args.call in
    let rest = c.args.rest.now in
    let taken : Intercepted = record call { interception = record (call.interception) { scope = c.take_held.new.self } } in
    let at : Intercepted → List Action → State → Result = λ k actions st. onward S n m (acts_of S k actions c.args.thrown st) in
    ap (λ older. at call rest (resumed (option_map context_of older) (state_before m pool store))) (sym c.take_held.ensures.held ∙ c.in-None.is)
    ∙ ap (λ actions. at call actions (state_before m pool store)) c.requires.last
    ∙ ap (λ actions. at taken actions (state_before m pool store)) (sym c.requires.last)
    ∙ c.go_on_with.ensures.goes S n pool store

pub returns-in-None-clause-sound : goal.returns-in-None-clause-sound
returns-in-None-clause-sound c S completing apart =
    let m = c.args.self.now in
    let call = c.args.call in
    let scope = call.interception.scope in
    let held = sym c.take_held.ensures.held ∙ c.in-None.is in
    let taken : OpenScope → Intercepted = λ s. record call { interception = record (call.interception) { scope = s } } in
    let same : record scope { suspended = None } ≡ c.take_held.new.self = sym c.take_held.ensures.rest in
    let calls = subst (λ older. CallsRun S (standing_under older (without_own (releases (Action.Resumption ∷ c.args.rest.now)) (scope.owns && ends_syncs (Action.Resumption ∷ c.args.rest.now)) (standing_of m.context))) (stack m.frames)) held apart.calls in
    c.go_on_with.ensures.sound S
    (subst (λ s. IsCompleting S (rank_at S m) (taken s) (standing_of m.context) c.args.rest.now c.args.thrown) same (record {
      call = completing.call;
      intercepted = record { attribute = completing.intercepted.attribute; shelters = completing.intercepted.shelters };
      due = subst (λ actions. is_due scope.owns false (standing_of m.context).bond (is_some (standing_of m.context).syncs) actions ≡ true) (sym c.requires.last) refl;
      class = completing.class;
    }))
    (subst (λ s. IsApart S m (below_rest s c.args.rest.now (standing_of m.context))) same (record { calls = calls; top = apart.top; holds = apart.holds }))
