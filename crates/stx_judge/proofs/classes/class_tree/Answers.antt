use Rattle.std.proofs.Common.{◌∙◌, length, sym, arith}
use Rattle.std.proofs.lemmas.List.{length-map}
use Rattle.std.proofs.lemmas.Option.{none-some}
use Rattle.stx_base.specs.Classes.{parents_of, is_own_ancestor, is_too_deep}
use Rattle.stx_judge.proofs.CountLaws.{few_classes}
use Rattle.stx_judge.proofs.ParentLaws.{parents_known}
use Rattle.stx_judge.proofs.SearchLaws.{found_within}
use Rattle.stx_judge.proofs.classes.class_tree.Goals as goal

pub unreachable-requires : goal.unreachable-requires
unreachable-requires c =
    let due = rw c.in-Err-UnknownParent.field-0-is at c.in-Err-UnknownParent.ensures.refused in
    let known = parents_known c.args.scenario.now c.requires.built_in (c.requires.order).classes in
    none-some _ (sym known ∙ due)

pub class-requires : goal.class-requires
class-requires c =
    let due = rw c.in-Err-Cycle.field-0-is at c.in-Err-Cycle.ensures.refused in
    let P = parents_of c.args.scenario.now.classes in
    let within = found_within (is_own_ancestor P) 0 (length P) c.in-Err-Cycle.class.0 due.1 in
    omega (arith, within, length-map c.args.scenario.now.classes (λ class. class.parent))

pub class-requires-in-Err-TooDeep : goal.class-requires-in-Err-TooDeep
class-requires-in-Err-TooDeep c =
    let due = rw c.in-Err-TooDeep.field-0-is at c.in-Err-TooDeep.ensures.refused in
    let P = parents_of c.args.scenario.now.classes in
    let within = found_within (is_too_deep P) 0 (length P) c.in-Err-TooDeep.class.0 due.2 in
    omega (arith, within, length-map c.args.scenario.now.classes (λ class. class.parent))

pub build-requires-clause-few : goal.build-requires-clause-few
build-requires-clause-few c = few_classes c.args.scenario.now c.requires.order
