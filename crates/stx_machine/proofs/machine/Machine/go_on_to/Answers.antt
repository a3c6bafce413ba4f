-- A round before the completion, or the completion at once.
use Rattle.std.proofs.Common.{◌≡◌, ◌∙◌, true, sym, ap, subst}
use Rattle.std.specs.Prelude.{◌&&◌}
use Rattle.std.specs.Option.{is_some}
use Rattle.stx_base.specs.declared.manager.Round.{Round}
use Rattle.stx_model.specs.Ending.{completion, has_before_commit}
use Rattle.stx_machine.specs.Machine.{inside, onward_caught, scope_of, state_before}
use Rattle.stx_machine.specs.Sound.{IsApart, Shelters, due_after, due_in, ends_syncs, standing_of}
use Rattle.stx_machine.proofs.Endings.{below_completion, commits, completes_at_once, due_at_end, due_before_commit, owned_ends}
use Rattle.stx_machine.proofs.machine.Machine.go_on_to.Goals as goal

pub returns-then-has_before_commit-clause-goes : goal.returns-then-has_before_commit-clause-goes
returns-then-has_before_commit-clause-goes c S n pool store =
    let due = ap (λ k. has_before_commit k c.args.ending) (sym c.kind-kind.ensures) ∙ sym c.has_before_commit.ensures ∙ c.if-has_before_commit.true in
    let left = ap (λ k. completion k c.args.ending) (sym c.kind-kind.ensures) ∙ sym c.completion-rest.ensures in
    ap (onward_caught S n c.args.self.now c.args.call.catch)
    (commits S (inside S c.args.call.method) (scope_of c.args.call.method c.args.call.interception) c.args.ending c.args.thrown (state_before c.args.self.now pool store) true _ due left)
    ∙ c.begin_round.ensures.goes S n pool store

pub returns-then-has_before_commit-clause-sound : goal.returns-then-has_before_commit-clause-sound
returns-then-has_before_commit-clause-sound c S so apart =
    let scope = c.args.call.interception.scope in
    let standing = standing_of c.args.self.now.context in
    let due = ap (λ k. has_before_commit k c.args.ending) (sym c.kind-kind.ensures) ∙ sym c.has_before_commit.ensures ∙ c.if-has_before_commit.true in
    let left : completion scope.kind c.args.ending ≡ c.completion-rest.result.now = ap (λ k. completion k c.args.ending) (sym c.kind-kind.ensures) ∙ sym c.completion-rest.ensures in
    c.begin_round.ensures.sound S (record {
      call = so.call;
      intercepted = so.intercepted;
      due = subst (λ rest. due_after Round.BeforeCommit scope standing rest ≡ true) left (due_before_commit scope standing c.args.ending due so.possible so.own);
      class = so.class;
    }) (subst (IsApart S c.args.self.now) (below_completion scope c.args.ending standing _ left so.possible so.own) apart)

pub returns-else-has_before_commit-clause-goes : goal.returns-else-has_before_commit-clause-goes
returns-else-has_before_commit-clause-goes c S n pool store =
    let none = ap (λ k. has_before_commit k c.args.ending) (sym c.kind-kind.ensures) ∙ sym c.has_before_commit.ensures ∙ c.if-has_before_commit.false in
    let left = ap (λ k. completion k c.args.ending) (sym c.kind-kind.ensures) ∙ sym c.completion-rest.ensures in
    ap (onward_caught S n c.args.self.now c.args.call.catch)
    (completes_at_once S (inside S c.args.call.method) (scope_of c.args.call.method c.args.call.interception) c.args.ending c.args.thrown (state_before c.args.self.now pool store) _ none left)
    ∙ c.go_on_with.ensures.goes S n pool store

pub returns-else-has_before_commit-clause-sound : goal.returns-else-has_before_commit-clause-sound
returns-else-has_before_commit-clause-sound c S so apart =
    let scope = c.args.call.interception.scope in
    let standing = standing_of c.args.self.now.context in
    let left : completion scope.kind c.args.ending ≡ c.completion-rest.result.now = ap (λ k. completion k c.args.ending) (sym c.kind-kind.ensures) ∙ sym c.completion-rest.ensures in
    let owned = owned_ends scope.kind c.args.ending scope.owns (is_some scope.suspended) standing so.possible so.own ∙ ap (λ rest. scope.owns && ends_syncs rest) left in
    c.go_on_with.ensures.sound S (record {
      call = so.call;
      intercepted = record { attribute = so.intercepted.attribute; shelters = subst (λ b. Shelters S c.args.call.method b standing.syncs) owned so.intercepted.shelters };
      due = subst (λ rest. due_in scope standing rest ≡ true) left (due_at_end scope standing c.args.ending so.possible so.own);
      class = so.class;
    }) (subst (IsApart S c.args.self.now) (below_completion scope c.args.ending standing _ left so.possible so.own) apart)
