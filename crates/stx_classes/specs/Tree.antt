-- Which refusal is due where classes make no tree.
use Rattle.std.specs.Prelude.{◌≡◌, List, Some, None, ⊤}
use Rattle.stx_scenario.specs.declared.scenario.ClassDecl.{ClassDecl}
use Rattle.stx_base.specs.Classes.{first_unknown_parent, first_own_ancestor, first_too_deep}
use Rattle.stx_classes.specs.declared.fault.ClassFault.{ClassFault}

-- the refusal names the first class of its cause, and no earlier cause holds of any class; want of memory is free
abbrev pub IsDue : List ClassDecl → ClassFault → Type 0
IsDue classes (ClassFault.UnknownParent class) = first_unknown_parent classes ≡ Some class.0
IsDue classes (ClassFault.Cycle class) = (first_unknown_parent classes ≡ None) × (first_own_ancestor classes ≡ Some class.0)
IsDue classes (ClassFault.TooDeep class) =
    (first_unknown_parent classes ≡ None) × (first_own_ancestor classes ≡ None) × (first_too_deep classes ≡ Some class.0)
IsDue classes (ClassFault.NoMemory _) = ⊤
