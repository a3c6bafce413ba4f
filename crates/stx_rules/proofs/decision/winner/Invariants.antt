-- What is found is the first match of least depth among the rules that were searched.
use Rattle.std.proofs.Common.{map, drop}
use Rattle.stx_base.specs.Rules.{rule_depth}
use Rattle.stx_rules.proofs.WinnerLaws.{IsBest}
use Rattle.stx_rules.proofs.decision.winner.Given as goal

abbrev pub invariant-loop-place : goal.invariant-loop-place
invariant-loop-place l = IsBest l.place (drop l.place (map (rule_depth l.classes l.thrown.0) l.rules)) l.best
