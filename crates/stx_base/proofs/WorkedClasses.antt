-- The definitions of the tree of classes, worked on the built-in classes and on a few more.
use Rattle.std.specs.Prelude.{◌≡◌, true, false, List, [], ◌∷◌, ◌++◌, codes, Some, None}
use Rattle.std.proofs.Common.{refl}
use Rattle.stx_scenario.specs.declared.scenario.ClassDecl.{ClassDecl}
use Rattle.stx_scenario.specs.declared.classes.TheConstants.{THROWABLE, EXCEPTION, ERROR, RUNTIME_EXCEPTION, CANNOT_ACQUIRE_LOCK_EXCEPTION}
use Rattle.stx_scenario.specs.BuiltIn.{built_in, class_below}
use Rattle.stx_base.specs.Classes.{parent_of, ancestor, steps_within, steps_to, depth, is_below, rolls_back_by_default, first_unknown_parent, first_own_ancestor, IsTree}

-- DataAccessException, NestedRuntimeException, RuntimeException, Exception and Throwable are above it
lock_below_throwable : depth built_in CANNOT_ACQUIRE_LOCK_EXCEPTION.0 THROWABLE.0 ≡ Some 5
lock_below_throwable = refl

on_five_classes_it_is_too_far : steps_within 5 built_in (λ class. false) CANNOT_ACQUIRE_LOCK_EXCEPTION.0 ≡ None
on_five_classes_it_is_too_far = refl

error_is_no_exception : depth built_in ERROR.0 EXCEPTION.0 ≡ None
error_is_no_exception = refl

lock_is_unchecked : is_below built_in CANNOT_ACQUIRE_LOCK_EXCEPTION.0 RUNTIME_EXCEPTION.0 ≡ true
lock_is_unchecked = refl

throwable_has_no_parent : parent_of built_in THROWABLE.0 ≡ None
throwable_has_no_parent = refl

exception_commits : rolls_back_by_default built_in EXCEPTION.0 ≡ false
exception_commits = refl

error_rolls_back : rolls_back_by_default built_in ERROR.0 ≡ true
error_rolls_back = refl

pub built_in_tree : IsTree built_in
built_in_tree = record { parents = refl; acyclic = refl; near = refl }

-- app.Soft below Exception is class 17, and app.Softer below it is class 18
abbrev soft : List ClassDecl
soft = built_in ++ class_below EXCEPTION.0 (codes "app.Soft") ∷ class_below 17 (codes "app.Softer") ∷ []

softer_below_exception : depth soft 18 EXCEPTION.0 ≡ Some 2
softer_below_exception = refl

softer_below_soft : depth soft 18 17 ≡ Some 1
softer_below_soft = refl

soft_commits : rolls_back_by_default soft 18 ≡ false
soft_commits = refl

-- class 17 leads into the cycle of 18 and 19, and isn't on it
abbrev cycle : List ClassDecl
cycle = built_in ++ class_below 19 (codes "app.In") ∷ class_below 19 (codes "app.One") ∷ class_below 18 (codes "app.Two") ∷ []

the_first_on_the_cycle : first_own_ancestor cycle ≡ Some 18
the_first_on_the_cycle = refl

around : ancestor cycle 2 18 ≡ Some 18
around = refl

nowhere_wanted : steps_to cycle (λ class. false) 17 ≡ None
nowhere_wanted = refl

-- class 17 is its own parent
itself : first_own_ancestor (built_in ++ class_below 17 (codes "app.Self") ∷ []) ≡ Some 17
itself = refl

unknown : first_unknown_parent (built_in ++ class_below 18 (codes "app.Lost") ∷ []) ≡ Some 17
unknown = refl

orphan : first_unknown_parent (built_in ++ record { name = codes "app.Orphan"; parent = None } ∷ []) ≡ Some 17
orphan = refl
