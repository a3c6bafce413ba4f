-- The scope is open on its transaction.
use Rattle.std.proofs.Common.{◌≡◌, ◌∙◌, sym, ap, subst}
use Rattle.std.specs.Option.{option_map}
use Rattle.stx_model.specs.Contexts.{Context, bare}
use Rattle.stx_model.specs.Meanings.{Result, finally}
use Rattle.stx_model.specs.Scopes.{in_scope, fresh_context}
use Rattle.stx_model.specs.Statements.{caught}
use Rattle.stx_context.specs.Carrying.{context_of}
use Rattle.stx_machine.specs.declared.machine.Machine.{Machine}
use Rattle.stx_machine.specs.Machine.{later_calls, unwound, stack, attribute_of, inside, statements, started, phase_after, state_before, state_with, with_syncs_started}
use Rattle.stx_steps.specs.Steps.{starts, starts_on}
use Rattle.stx_machine.specs.Sound.{CallOpens, OpensIn}
use Rattle.stx_machine.proofs.Stacks.{opens_only, some_is, mapped_some}
use Rattle.stx_steps.proofs.answers.begin.Goals as goal

pub returns-clause-goes : goal.returns-clause-goes
unfolding unwound
returns-clause-goes c n pool store =
    let S = c.args.setup.now.scenario in
    let m = c.args.machine.now in
    let call = c.take_off-call.result in
    let i = call.interception in
    let method = call.method in
    let off = c.take_off-call.new.self in
    let bound = c.bind.new.machine in
    let begun = c.start_syncs_if.new.self in
    let here = subst (CallOpens S) c.take_off-call.ensures.call c.requires.call in
    let opens = subst (OpensIn i) (opens_only i i.phase here.3) here.3 in
    let older = option_map context_of i.scope.suspended in
    let some = some_is older bare (mapped_some i.scope.suspended opens.1) in
    let at : Machine → Result → Result = λ z r. later_calls S n z.top (unwound S (stack z.frames) (finally r (caught S call.catch))) in
    let opened : Machine → Context → Result =
    λ z context.
    in_scope S (inside S method) (record { method = method; kind = i.scope.kind; owns = i.scope.owns; older = older; outer = z.local }) (attribute_of S method) (statements S method 0)
    (state_with z context pool store) in
    let fresh : Context = fresh_context c.args.connection c.args.tx (attribute_of S method).read_only i.scope.owns in
    let carried : context_of begun.context ≡ fresh =
    c.start_syncs_if.ensures.started
    ∙ ap (λ owns. with_syncs_started owns (context_of bound.context)) (c.owns.ensures ∙ ap (λ s. s.owns) c.into_scope-scope.ensures)
    ∙ ap (λ x. with_syncs_started i.scope.owns (context_of x)) c.bind.ensures.context
    ∙ ap (λ a. fresh_context c.args.connection c.args.tx a.read_only i.scope.owns) c.attribute_of.ensures in
    ap (λ fs. later_calls S n m.top (unwound S fs (starts S fs c.args.connection c.args.tx (state_before m pool store)))) c.take_off-call.ensures.call
    ∙ ap (λ phase. later_calls S n m.top (unwound S (stack off.frames) (finally (phase_after S method call.place i phase (starts_on S method i c.args.connection c.args.tx (state_before m pool store))) (caught S call.catch)))) (opens_only i i.phase here.3)
    ∙ ap (λ z. later_calls S n z.top (unwound S (stack off.frames) (finally (starts_on S method i c.args.connection c.args.tx (state_before z pool store)) (caught S call.catch)))) (sym c.take_off-call.ensures.rest)
    ∙ (λ k. at off (in_scope S (inside S method) (record { method = method; kind = sym opens.0 k; owns = i.scope.owns; older = some k; outer = off.local }) (attribute_of S method) (statements S method 0) (state_with off fresh pool store)))
    ∙ ap (λ context. at off (opened off context)) (sym carried)
    ∙ ap (λ z. at z (opened z (context_of begun.context))) (sym c.bind.ensures.rest)
    ∙ ap (λ z. at z (opened z (context_of begun.context))) (sym c.start_syncs_if.ensures.rest)
    ∙ ap (λ scope. at begun (started S method scope (state_before begun pool store))) (sym c.into_scope-scope.ensures)
    ∙ c.start.ensures.goes S n pool store
