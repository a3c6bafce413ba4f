-- What is found so far, and what the items that are left give, is the whole.
use Rattle.std.proofs.Common.{◌≡◌, ◌++◌, drop}
use Rattle.toml.specs.View.{items_view}
use Rattle.stx_refusals.specs.Faults.{refused, entry}
use Rattle.stx_walk.specs.Schema.{leaf_stage}
use Rattle.stx_walk.specs.Walk.{each_item}
use Rattle.stx_walk.proofs.walk.Findings.items_faults.Given as goal

abbrev pub invariant-loop-at : goal.invariant-loop-at
invariant-loop-at l =
    l.self.faults ++ each_item (λ n d. refused (entry l.path n) (leaf_stage l.leaf d)) l.at (items_view (drop l.at l.items))
    ≡ l.fn.self.faults ++ each_item (λ n d. refused (entry l.path n) (leaf_stage l.leaf d)) 0 (items_view l.items)
