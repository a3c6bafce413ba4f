use Rattle.std.proofs.Common.{Some, sym, ap, ◌∙◌}
use Rattle.stx_refusals.specs.declared.fault.ReadFault.TheVariants.{CallCycle, CallDepth}
use Rattle.stx_judge.proofs.CallLaws.{calls_accepted, refused_cycle, refused_depth, refused_large}
use Rattle.stx_judge.proofs.calls.call_fault.Goals as goal
use Rattle.stx_judge.proofs.calls.call_fault.Goals.{in-Ok, in-Err-CallCycle+in_ok-method-in-Err-CallCycle, in-Err-TooDeep+in_ok-method-in-Err-TooDeep, in-Err-TooLarge, in-Err-NoMemory}

pub returns : goal.returns
returns c =
    let S = c.args.scenario.now in
    elim c.match-of.branch [
      | in-Ok w ↦ rw w.result-is (sym (calls_accepted S c.requires w.in-Ok.ensures.accepted))
      | in-Err-CallCycle+in_ok-method-in-Err-CallCycle w ↦
          let due = rw w.in-Err-CallCycle.field-0-is at w.in-Err-CallCycle.ensures.refused in
          rw w.result-is (ap (λ name. Some (CallCycle name)) w.in_ok-method-in-Err-CallCycle.ensures ∙ sym (refused_cycle S c.requires w.in-Err-CallCycle.method due))
      | in-Err-TooDeep+in_ok-method-in-Err-TooDeep w ↦
          let due = rw w.in-Err-TooDeep.field-0-is at w.in-Err-TooDeep.ensures.refused in
          rw w.result-is (ap (λ name. Some (CallDepth name)) w.in_ok-method-in-Err-TooDeep.ensures ∙ sym (refused_depth S c.requires w.in-Err-TooDeep.method due))
      | in-Err-TooLarge w ↦
          let due = rw w.in-Err-TooLarge.field-0-is at w.in-Err-TooLarge.ensures.refused in
          rw w.result-is (sym (refused_large S c.requires due))
      | in-Err-NoMemory w ↦ rw w.result-is tt
    ]
