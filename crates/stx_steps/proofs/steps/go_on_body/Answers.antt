-- The next statement, or the end of the call.
use Rattle.std.proofs.Common.{◌∙◌, ◌+◌, Some, None, refl, ap, subst}
use Rattle.stx_base.specs.Weight.{body_of}
use Rattle.stx_model.specs.Meanings.{Over, finally}
use Rattle.stx_model.specs.Scopes.{leaves}
use Rattle.stx_model.specs.Script.{statement}
use Rattle.stx_model.specs.Statements.{caught}
use Rattle.stx_frames.specs.declared.frame.Frame.{Frame}
use Rattle.stx_machine.specs.Machine.{body_after, inside}
use Rattle.stx_machine.specs.Sound.{ScopeRuns, standing_of}
use Rattle.stx_steps.specs.Steps.{IsNext}
use Rattle.stx_steps.proofs.BodyLaws.{may_at, goes_on, ends_unscoped, ends_scoped, moves_from}
use Rattle.stx_steps.proofs.Coming.{comes_of, comes_pushed}
use Rattle.stx_steps.proofs.steps.go_on_body.Goals as goal

pub make-requires-clause-may : goal.make-requires-clause-may
make-requires-clause-may c =
    let S = c.args.setup.now.scenario in
    let next = subst (IsNext (body_of S c.args.method) c.args.place c.args.thrown) c.in-Some.is c.statement_at.ensures in
    may_at S c.args.method c.args.place c.in-Some.statement c.requires.playable c.requires.call.method next.1

pub returns-in-Some-clause-goes : goal.returns-in-Some-clause-goes
returns-in-Some-clause-goes c =
    let S = c.args.setup.now.scenario in
    let m = c.args.machine.now in
    let a = c.args in
    let s = c.in-Some.statement in
    let next = subst (IsNext (body_of S a.method) a.place a.thrown) c.in-Some.is c.statement_at.ensures in
    comes_pushed S m c.make.new.machine (λ st. body_after S a.method a.place a.catch a.scope (Over a.thrown st)) (statement S (inside S a.method) s) c.push.new.self
    (Frame.Body a.method (a.place + 1) a.catch a.scope) c.push.ensures.items
    (λ st. ap (λ x. body_after S a.method a.place a.catch a.scope (Over x st)) next.0
    ∙ ap (λ r. finally r (caught S a.catch)) (goes_on S a.method a.place st s next.1 (standing_of m.context) a.scope c.requires.scope)) c.make.ensures.goes

pub returns-in-Some-clause-moves : goal.returns-in-Some-clause-moves
returns-in-Some-clause-moves c n = moves_from n c.args.machine.now (record (c.args.machine.now) { frames = c.push.new.self }) c.make.new.machine refl (c.make.ensures.moves n)

pub returns-in-Some-scope-clause-goes : goal.returns-in-Some-scope-clause-goes
returns-in-Some-scope-clause-goes c n pool store =
    let S = c.args.setup.now.scenario in
    let a = c.args in
    let i = c.in-Some-scope.interception in
    let none = subst (IsNext (body_of S a.method) a.place a.thrown) c.in-None.is c.statement_at.ensures in
    let runs = subst (ScopeRuns S (standing_of a.machine.now.context) a.method) c.in-Some-scope.is c.requires.scope in
    comes_of S a.machine.now c.end.new.self (λ scope st. body_after S a.method a.place a.catch scope (Over a.thrown st)) a.scope (Some i) _ c.in-Some-scope.is
    (λ st. ap (λ r. finally r (caught S a.catch)) (ends_scoped S a.method a.place st a.thrown none (standing_of a.machine.now.context) i runs)) c.end.ensures.goes n pool store

pub returns-in-None-scope-clause-goes : goal.returns-in-None-scope-clause-goes
returns-in-None-scope-clause-goes c =
    let S = c.args.setup.now.scenario in
    let a = c.args in
    comes_of S a.machine.now c.leave.new.self (λ scope st. body_after S a.method a.place a.catch scope (Over a.thrown st)) a.scope None (λ st. finally (leaves a.method a.thrown st) (caught S a.catch)) c.in-None-scope.is
    (λ st. ap (λ r. finally r (caught S a.catch)) (ends_unscoped S a.method a.place st a.thrown (subst (IsNext (body_of S a.method) a.place a.thrown) c.in-None.is c.statement_at.ensures))) c.leave.ensures.goes
