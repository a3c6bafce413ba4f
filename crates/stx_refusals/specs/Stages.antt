-- What some stages refuse, one after the other.
use Rattle.std.specs.Prelude.{List, map, Option}
use Rattle.stx_refusals.specs.declared.fault.Fault.{Fault}
use Rattle.stx_refusals.specs.declared.fault.ReadFault.{ReadFault}
use Rattle.stx_refusals.specs.declared.fault.Stage.{Stage}
use Rattle.stx_refusals.specs.Faults.{first_at, first_some}

-- the first place of the first of these stages that refuses any
abbrev pub first_among : List Stage → List Fault → Option ReadFault
first_among stages faults = first_some (map (λ stage. first_at stage faults) stages)
