-- Each statement of a body.
use Rattle.std.proofs.Common.{◌≡◌, ◌∙◌, sym, ap, subst}
use Rattle.stx_scenario.specs.declared.numbers.MethodNo.{MethodNo}
use Rattle.stx_scenario.specs.declared.scenario.Scenario.{Scenario}
use Rattle.stx_scenario.specs.declared.scenario.Stmt.{Stmt}
use Rattle.stx_base.specs.Weight.{rank}
use Rattle.stx_model.specs.Below.{SyncBelow}
use Rattle.stx_model.specs.Rounds.{Proxied, Direct, callback_statement}
use Rattle.stx_model.specs.Listeners.{deeds}
use Rattle.stx_model.specs.Script.{calls_below, publishes, statement, invoked}
use Rattle.stx_machine.specs.declared.machine.Machine.{Machine}
use Rattle.stx_machine.specs.Machine.{Comes, inside, state_before, onward}
use Rattle.stx_machine.specs.Sound.{DeedsBelow, IsCall}
use Rattle.stx_steps.specs.Steps.{MayMake}
use Rattle.stx_steps.proofs.Coming.{comes_called}
use Rattle.stx_machine.proofs.RowLaws.{row_is}
use Rattle.stx_steps.proofs.steps.make.Goals as goal

-- a statement that is this one comes to where this one does
made : (S : Scenario) (caller : MethodNo) (before after : Machine) (s t : Stmt) → s ≡ t → Comes S before (statement S (inside S caller) t) after
    → Comes S before (statement S (inside S caller) s) after
made S caller before after s t is = subst (λ s. Comes S before (statement S (inside S caller) s) after) (sym is)

pub returns-in-Call-clause-goes : goal.returns-in-Call-clause-goes
unfolding statement callback_statement
returns-in-Call-clause-goes c =
    let S = c.args.setup.now.scenario in
    let w = c.in-Call in
    let may : IsCall S (rank S c.args.caller) w.method w.catch = subst (MayMake S c.args.caller) w.is c.requires.may in
    made S c.args.caller c.args.machine.now c.call.new.self _ _ w.is (comes_called S c.args.machine.now c.call.new.self Proxied _ w.method w.catch may c.call.ensures.goes)

pub returns-in-This-clause-goes : goal.returns-in-This-clause-goes
unfolding statement invoked
returns-in-This-clause-goes c =
    let S = c.args.setup.now.scenario in
    let m = c.args.machine.now in
    let w = c.in-This in
    made S c.args.caller m c.call_directly.new.self _ _ w.is
    (comes_called S m c.call_directly.new.self Direct _ w.method w.catch (subst (MayMake S c.args.caller) w.is c.requires.may) (c.call_directly.ensures.goes S))

pub returns-in-Throw-clause-goes : goal.returns-in-Throw-clause-goes
unfolding statement callback_statement
returns-in-Throw-clause-goes c =
    let S = c.args.setup.now.scenario in made S c.args.caller c.args.machine.now c.throw.new.self _ _ c.in-Throw.is (c.throw.ensures.goes S)

pub returns-in-Mark-clause-goes : goal.returns-in-Mark-clause-goes
unfolding statement
returns-in-Mark-clause-goes c =
    let S = c.args.setup.now.scenario in made S c.args.caller c.args.machine.now c.mark.new.self _ _ c.in-Mark.is (c.mark.ensures.goes S)

pub returns-in-Register-clause-goes : goal.returns-in-Register-clause-goes
unfolding statement
returns-in-Register-clause-goes c = made c.args.setup.now.scenario c.args.caller c.args.machine.now c.register.new.self _ _ c.in-Register.is c.register.ensures.goes

pub returns-in-Some-clause-goes : goal.returns-in-Some-clause-goes
returns-in-Some-clause-goes c n pool store =
    let S = c.args.setup.now.scenario in
    let m = c.args.machine.now in
    ap (onward S n m)
    (row_is S (inside S c.args.caller) (state_before m pool store) c.args.statement c.in-Some.access c.in-Some.then (sym c.access_of.ensures ∙ c.in-Some.is))
    ∙ c.want_access.ensures.goes S n pool store

pub returns-in-Register-clause-sound : goal.returns-in-Register-clause-sound
returns-in-Register-clause-sound c =
    let S = c.args.setup.now.scenario in
    let may : MayMake S c.args.caller (Stmt.Register c.in-Register.sync) = subst (MayMake S c.args.caller) c.in-Register.is c.requires.may in
    c.register.ensures.sound c.requires.playable (subst (λ k. SyncBelow S k c.in-Register.sync) (sym c.requires.rank) may) c.requires.within

pub returns-in-Publish-clause-goes : goal.returns-in-Publish-clause-goes
unfolding statement
returns-in-Publish-clause-goes c =
    let S = c.args.setup.now.scenario in
    let after = c.publish.new.machine in
    let comes = subst (λ k. Comes S c.args.machine.now (publishes S (calls_below S k) c.in-Publish.event) after) c.requires.rank (c.publish.ensures.goes S) in
    made S c.args.caller c.args.machine.now after _ _ c.in-Publish.is comes

pub returns-in-Publish-clause-sound : goal.returns-in-Publish-clause-sound
returns-in-Publish-clause-sound c =
    let S = c.args.setup.now.scenario in
    let e = c.in-Publish.event in
    let may : MayMake S c.args.caller (Stmt.Publish e) = subst (MayMake S c.args.caller) c.in-Publish.is c.requires.may in
    c.publish.ensures.sound S c.requires.body (λ active live. subst (λ k. DeedsBelow S k (deeds S e active live)) (sym c.requires.rank) (may active live)) c.requires.within
