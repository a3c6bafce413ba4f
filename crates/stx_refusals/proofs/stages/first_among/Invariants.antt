-- The stages so far refuse nothing: what is left refuses first what all of them do.
use Rattle.std.proofs.Common.{◌≡◌, drop}
use Rattle.stx_refusals.specs.Stages.{first_among}
use Rattle.stx_refusals.proofs.stages.first_among.Given as goal

abbrev pub invariant-loop-stage : goal.invariant-loop-stage
invariant-loop-stage l = first_among (drop l.stage-index l.stages) l.faults ≡ first_among l.stages l.faults
