-- The lines of the registrations so far.
use Rattle.std.proofs.Common.{◌≡◌, ◌+◌, ◌++◌, map, take}
use Rattle.stx_machine.specs.Machine.{told_line}
use Rattle.stx_machine.proofs.machine.Machine.say_each.Given as goal

abbrev pub invariant-loop-registered : goal.invariant-loop-registered
invariant-loop-registered l = record {
  said : l.self.lines.items ≡ l.fn.self.lines.items ++ map (λ r. told_line l.resumed r.label) (take l.registered-index l.told);
  room : l.fn.self.lines.spare ≡ l.self.lines.spare + l.registered-index;
  rest : l.self ≡ record l.fn.self { lines = l.self.lines };
}
