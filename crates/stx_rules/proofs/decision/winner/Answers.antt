use Rattle.std.proofs.Common.{◌-◌, ◌+◌, ap, sym, subst, ◌∙◌, length, arith}
use Rattle.std.specs.Option.{option_map}
use Rattle.stx_base.specs.Rules.{rule_depth, winner}
use Rattle.stx_rules.proofs.WinnerLaws.{none_searched, one_more, without_match, later_stays, earlier_wins, only_match, all_searched, IsBest}
use Rattle.stx_rules.proofs.decision.winner.Goals as goal

pub loop-place-init : goal.loop-place-init
loop-place-init c = none_searched (rule_depth c.args.classes.now c.args.thrown.0) c.args.rules.now (length c.args.rules.now) (omega arith)

pub loop-place-preserved : goal.loop-place-preserved
loop-place-preserved c =
    one_more (rule_depth c.args.classes.now c.args.thrown.0) c.args.rules.now c.loop-place.place _ _ _ _
    c.loop-place-test.true c.loop-place.auto.place c.index-rules-place.is c.in_default.ensures c.loop-place.invariant
    (without_match (c.loop-place.place - 1) _)

pub loop-place-preserved-then-later-depth : goal.loop-place-preserved-then-later-depth
loop-place-preserved-then-later-depth c =
    one_more (rule_depth c.args.classes.now c.args.thrown.0) c.args.rules.now c.loop-place.place _ _ _ _
    c.loop-place-test.true c.loop-place.auto.place c.index-rules-place.is c.in-Some.ensures c.loop-place.invariant
    (λ ds later. later_stays (c.loop-place.place - 1) _ c.in-Some-best.later ds c.if-later-depth.true
    (subst (IsBest (c.loop-place.place - 1 + 1) ds) c.in-Some-best.is later))

pub loop-place-preserved-in_default-best : goal.loop-place-preserved-in_default-best
loop-place-preserved-in_default-best c =
    one_more (rule_depth c.args.classes.now c.args.thrown.0) c.args.rules.now c.loop-place.place _ _ _ _
    c.loop-place-test.true c.loop-place.auto.place c.index-rules-place.is c.in-Some.ensures c.loop-place.invariant
    (λ ds later. earlier_wins (c.loop-place.place - 1) _ c.in-Some-best.later ds c.if-later-depth.false
    (subst (IsBest (c.loop-place.place - 1 + 1) ds) c.in-Some-best.is later))

pub loop-place-preserved-in_default-best-2 : goal.loop-place-preserved-in_default-best-2
loop-place-preserved-in_default-best-2 c =
    one_more (rule_depth c.args.classes.now c.args.thrown.0) c.args.rules.now c.loop-place.place _ _ _ _
    c.loop-place-test.true c.loop-place.auto.place c.index-rules-place.is c.in-Some.ensures c.loop-place.invariant
    (λ ds later. only_match (c.loop-place.place - 1) _ ds
    (subst (IsBest (c.loop-place.place - 1 + 1) ds) c.in_default-best.is later))

pub returns-in-Some-best-2 : goal.returns-in-Some-best-2
unfolding winner
returns-in-Some-best-2 c =
    ap (option_map (λ m. m.place)) (sym c.in-Some-best-2.is)
    ∙ all_searched (rule_depth c.args.classes.now c.args.thrown.0) c.args.rules.now c.loop-place.place _ c.loop-place-test.false c.loop-place.invariant

pub returns-in-None : goal.returns-in-None
unfolding winner
returns-in-None c =
    ap (option_map (λ m. m.place)) (sym c.in-None.is)
    ∙ all_searched (rule_depth c.args.classes.now c.args.thrown.0) c.args.rules.now c.loop-place.place _ c.loop-place-test.false c.loop-place.invariant
