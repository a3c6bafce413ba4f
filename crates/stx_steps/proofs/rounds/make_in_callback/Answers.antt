-- Each statement of a callback.
use Rattle.std.proofs.Common.{◌∙◌, sym, ap, subst}
use Rattle.stx_model.specs.Rounds.{Proxied, callback_statement}
use Rattle.stx_machine.specs.Machine.{Comes, Waits, calls_at, stack, state_before, onward}
use Rattle.stx_machine.specs.Sound.{rank_at}
use Rattle.stx_steps.specs.Steps.{MayCallBack}
use Rattle.stx_machine.proofs.RowLaws.{row_called}
use Rattle.stx_steps.proofs.Coming.{comes_called}
use Rattle.stx_steps.proofs.rounds.make_in_callback.Goals as goal

pub returns-in-Call-clause-goes : goal.returns-in-Call-clause-goes
unfolding callback_statement
returns-in-Call-clause-goes c =
    let S = c.args.setup.now.scenario in
    let m = c.args.machine.now in
    let after = c.call.new.self in
    subst (λ s. Comes S m (callback_statement S (calls_at S (stack m.frames)) s) after) (sym c.in-Call.is)
    (comes_called S m after Proxied (rank_at S m) c.in-Call.method c.in-Call.catch (subst (MayCallBack S (rank_at S m)) c.in-Call.is c.requires.may) c.call.ensures.goes)

pub returns-in-Throw-clause-goes : goal.returns-in-Throw-clause-goes
unfolding callback_statement
returns-in-Throw-clause-goes c =
    let S = c.args.setup.now.scenario in
    let m = c.args.machine.now in
    subst (λ s. Comes S m (callback_statement S (calls_at S (stack m.frames)) s) c.throw.new.self) (sym c.in-Throw.is) (c.throw.ensures.goes S)

pub returns-in-Some : goal.returns-in-Some
returns-in-Some c =
    let S = c.args.setup.now.scenario in
    let m = c.args.machine.now in
    record {
      goes = λ n pool store.
          ap (onward S n m)
          (row_called S (calls_at S (stack m.frames)) (state_before m pool store) c.args.statement c.in-Some.access c.in-Some.then (sym c.access_of.ensures ∙ c.in-Some.is))
          ∙ c.want_access.ensures.goes S n pool store;
      sound = c.want_access.ensures.sound S c.requires.within;
      moves = λ n. Waits c.want_access.ensures.waits;
    }
