-- What comes after the round.
use Rattle.std.proofs.Common.{◌≡◌, ◌*◌, true, length, sym, ap, ◌∙◌, subst, arith}
use Rattle.stx_machine.specs.Machine.{IsClass, rest_after}
use Rattle.stx_machine.specs.Sound.{IsApart, below_rest, due_in, ends_syncs, standing_of}
use Rattle.stx_machine.proofs.Standings.{shelters_part}
use Rattle.stx_steps.proofs.RoundLaws.{due_after_round, below_after_round, few_after_round, later_known}
use Rattle.stx_steps.proofs.rounds.end_round.Goals as goal

pub returns-clause-sound : goal.returns-clause-sound
returns-clause-sound c S round class apart =
    let m = c.args.machine.now in
    let call = c.args.call in
    let course = c.args.course in
    let scope = call.interception.scope in
    let standing = standing_of m.context in
    let rest = c.rest_after-rest.result.now in
    let same : rest_after scope.kind course.round course.rest.now c.args.thrown ≡ rest =
    ap (λ kind. rest_after kind course.round course.rest.now c.args.thrown) (sym c.kind.ensures) ∙ sym c.rest_after-rest.ensures in
    c.go_on_with.ensures.sound S
    (record {
      call = round.call;
      intercepted = record {
        attribute = round.intercepted.attribute;
        shelters = shelters_part S call.method scope.owns (ends_syncs rest) standing.syncs round.intercepted.shelters;
      };
      due = subst (λ rest. due_in scope standing rest ≡ true) same (due_after_round scope standing course.rest.now course.round c.args.thrown round.due);
      class = subst (IsClass S) (sym c.or.ensures) (later_known S c.args.thrown course.thrown class round.class);
    })
    (subst (IsApart S m) (below_after_round scope standing course.rest.now course.round c.args.thrown round.due ∙ ap (λ rest. below_rest scope rest standing) same) apart)

pub returns-clause-left : goal.returns-clause-left
returns-clause-left c =
    let course = c.args.course in
    let same : 4 * length (rest_after c.args.call.interception.scope.kind course.round course.rest.now c.args.thrown) ≡ 4 * length c.rest_after-rest.result.now =
    ap (λ kind. 4 * length (rest_after kind course.round course.rest.now c.args.thrown)) (sym c.kind.ensures) ∙ sym (ap (λ rest. 4 * length rest) c.rest_after-rest.ensures) in
    let few = few_after_round c.args.call.interception.scope.kind course.round course.rest.now c.args.thrown in
    omega (arith, few, c.go_on_with.ensures.left, same)
