-- The end of the scope is said, and its completion is due.
use Rattle.std.proofs.Common.{◌≡◌, ◌∙◌, true, sym, ap, subst}
use Rattle.stx_base.specs.declared.line.Line.{Line}
use Rattle.stx_base.specs.declared.manager.Ending.{Ending}
use Rattle.stx_model.specs.Ending.{ending}
use Rattle.stx_model.specs.Meanings.{State, Result, say}
use Rattle.stx_model.specs.Scopes.{ends, rolls, is_set}
use Rattle.stx_context.specs.Carrying.{context_of}
use Rattle.stx_machine.specs.declared.completion.Intercepted.{Intercepted}
use Rattle.stx_machine.specs.declared.interception.Interception.{Interception}
use Rattle.stx_machine.specs.declared.machine.Machine.{Machine}
use Rattle.stx_machine.specs.Machine.{attribute_of, completes_of, onward, state_before}
use Rattle.stx_machine.specs.Sound.{IsApart, IsEndingSo, below_scope, may_end, rank_at, standing_of}
use Rattle.stx_machine.proofs.Endings.{ends_so}
use Rattle.stx_machine.proofs.machine.Machine.end.Goals as goal

pub returns-clause-goes : goal.returns-clause-goes
unfolding ends
returns-clause-goes c n pool store =
    let S = c.args.setup.now.scenario in
    let call = c.args.call in
    let says = c.rule-rolls_back.ensures.rules in
    let ruled = c.rule-rolls_back.new.self in
    let st = state_before ruled pool store in
    let ends_so : Intercepted → Machine → Ending → State → Result = λ k z e st. onward S n z (completes_of S k e c.args.thrown st) in
    let before = ending call.interception.scope.kind (rolls S (attribute_of S call.method).rules c.args.thrown) (is_set c.args.self.now.local) (context_of c.args.self.now.context) in
    let same : before ≡ c.ending-ending.result =
    sym (c.ending-ending.ensures.ending ∙ (λ k. ending call.interception.scope.kind (c.rule-rolls_back.ensures.rolls k) (is_set (says.rest k).local) (context_of (says.rest k).context))) in
    ap (λ st. ends_so call c.args.self.now before (say (Line.End before) st)) (says.state pool store)
    ∙ ap (λ z. ends_so call z before (say (Line.End before) st)) (sym says.rest)
    ∙ ap (λ e. ends_so call ruled e (say (Line.End e) st)) same
    ∙ ap (λ ls. ends_so call ruled c.ending-ending.result (record st { lines = ls })) (sym c.push.ensures.items)
    ∙ ap (λ j. ends_so (record call { interception = j }) ruled c.ending-ending.result (record st { lines = c.push.new.self.items })) (sym c.ending-ending.ensures.rest)
    ∙ c.go_on_to.ensures.goes S n pool store

pub returns-clause-sound : goal.returns-clause-sound
returns-clause-sound c =
    let S = c.args.setup.now.scenario in
    let m = c.args.self.now in
    let call = c.args.call in
    let i = call.interception in
    let x = c.args.thrown in
    let e = c.ending-ending.result in
    let ruled = c.rule-rolls_back.new.self in
    let says = c.rule-rolls_back.ensures.rules in
    let pushed : Machine → Machine = λ z. record z { lines = c.push.new.self } in
    let possible : may_end i.scope.kind e ≡ true =
    ap (may_end i.scope.kind) c.ending-ending.ensures.ending ∙ ends_so i.scope.kind c.rule-rolls_back.result (is_set ruled.local) (context_of ruled.context) in
    let own = c.requires.ending in
    let with : Interception → Intercepted = λ j. record call { interception = j } in
    let marked : Interception = record i { scope = record (i.scope) { local_mark = c.ending-ending.new.interception.scope.local_mark } } in
    c.go_on_to.ensures.sound S
    (subst (λ j. IsEndingSo S (rank_at S ruled) (with j) (standing_of ruled.context) e x) (sym c.ending-ending.ensures.rest)
    (subst (λ z. IsEndingSo S (rank_at S z) (with marked) (standing_of z.context) e x) (sym says.rest)
    (record { call = own.call; intercepted = own.intercepted; own = own.own; class = c.requires.class; possible = possible })))
    (subst (λ j. IsApart S (pushed ruled) (below_scope j.scope (standing_of ruled.context))) (sym c.ending-ending.ensures.rest)
    (subst (λ z. IsApart S (pushed z) (below_scope i.scope (standing_of z.context))) (sym says.rest)
    (record { calls = c.requires.apart.calls; top = c.requires.apart.top; holds = c.requires.apart.holds })))
