-- The tree of exception classes: steps from a class up to the classes above it, and which classes make no tree.
-- (Spring: RollbackRuleAttribute.getDepth; DefaultTransactionAttribute.rollbackOn.)
use Rattle.std.specs.Prelude.{◌≡◌, ℕ, zero, suc, ◌+◌, Bool, false, not, ◌||◌, ◌==◌, nat_lt, nat_le, if◌then◌else◌, List, length, map, Option, Some, None, slice_get}
use Rattle.std.specs.List.{find, range_with_len}
use Rattle.std.specs.Option.{option_map, option_and_then, is_some}
use Rattle.stx_scenario.specs.declared.numbers.ClassNo.{ClassNo}
use Rattle.stx_scenario.specs.declared.scenario.ClassDecl.{ClassDecl}
use Rattle.stx_scenario.specs.declared.classes.TheConstants.{THROWABLE, ERROR, RUNTIME_EXCEPTION}

-- ---- over the parents alone, in the order of the classes' numbers

abbrev pub Parents : Type 0
Parents = List (Option ClassNo)

abbrev pub number_above : Option ClassNo → Option ℕ
number_above parent = option_map (λ class. class.0) parent

-- the class above; none for a number out of range
abbrev pub parent_in : Parents → ℕ → Option ℕ
parent_in parents a = option_and_then number_above (slice_get parents a)

-- the class so many steps above
abbrev pub above_in : ℕ → Parents → ℕ → Option ℕ
above_in zero parents a = Some a
above_in (suc n) parents a = option_and_then (above_in n parents) (parent_in parents a)

-- one step more, where there are any
abbrev pub one_more : Option ℕ → Option ℕ
one_more steps = option_map (λ n. n + 1) steps

-- the steps from a class up to the first that is wanted, itself included, on a way of at most so many classes
abbrev pub bounded_steps_in : ℕ → Parents → (ℕ → Bool) → ℕ → Option ℕ
bounded_steps_in zero parents wanted a = None
bounded_steps_in (suc n) parents wanted a =
    if wanted a then Some 0 else one_more (option_and_then (bounded_steps_in n parents wanted) (parent_in parents a))

-- the same with no bound but the number of classes: a way that meets no class twice is no longer
abbrev pub steps_in : Parents → (ℕ → Bool) → ℕ → Option ℕ
steps_in parents wanted a = bounded_steps_in (length parents) parents wanted a

-- the steps from a up to b; none where a isn't b or below it
abbrev pub depth_in : Parents → ℕ → ℕ → Option ℕ
depth_in parents a b = steps_in parents (λ c. c == b) a

abbrev pub is_below_in : Parents → ℕ → ℕ → Bool
is_below_in parents a b = is_some (depth_in parents a b)

-- ---- classes that make no tree

-- the most steps that a class may be below Throwable
abbrev pub deepest : ℕ
deepest = 64

-- whether the parent of class a, among so many classes, is out of range, or missing where a isn't Throwable
abbrev pub is_unknown : ℕ → ℕ → Option ℕ → Bool
is_unknown count a None = not (a == THROWABLE.0)
is_unknown count a (Some parent) = nat_le count parent

abbrev pub has_unknown_parent : Parents → ℕ → Bool
has_unknown_parent parents a = is_unknown (length parents) a (parent_in parents a)

-- its parent is the class itself or below it
abbrev pub is_own_ancestor : Parents → ℕ → Bool
is_own_ancestor parents a = is_some (option_and_then (λ parent. depth_in parents parent a) (parent_in parents a))

abbrev pub is_over : Option ℕ → Bool
is_over (Some steps) = nat_lt deepest steps
is_over None = false

-- it is too many steps below Throwable
abbrev pub is_too_deep : Parents → ℕ → Bool
is_too_deep parents a = is_over (depth_in parents a THROWABLE.0)

-- the first class, in the order of the numbers, that passes a test
abbrev pub first_class : Parents → (ℕ → Bool) → Option ℕ
first_class parents test = find test (range_with_len 0 (length parents))

-- ---- over the declarations

abbrev pub parents_of : List ClassDecl → Parents
parents_of classes = map (λ class. class.parent) classes

-- the class above; none for Throwable and for a number out of range
abbrev pub parent_of : List ClassDecl → ℕ → Option ℕ
parent_of classes a = parent_in (parents_of classes) a

-- the class n steps above
abbrev pub ancestor : List ClassDecl → ℕ → ℕ → Option ℕ
ancestor classes n a = above_in n (parents_of classes) a

-- the steps from a class up to the first that is wanted, itself included, on a way of at most so many classes
abbrev pub steps_within : ℕ → List ClassDecl → (ℕ → Bool) → ℕ → Option ℕ
steps_within n classes wanted a = bounded_steps_in n (parents_of classes) wanted a

-- the same with no bound but the number of classes
abbrev pub steps_to : List ClassDecl → (ℕ → Bool) → ℕ → Option ℕ
steps_to classes wanted a = steps_in (parents_of classes) wanted a

-- the steps from a up to b; none where a isn't b or below it
abbrev pub depth : List ClassDecl → ℕ → ℕ → Option ℕ
depth classes a b = depth_in (parents_of classes) a b

-- a is b or below it
abbrev pub is_below : List ClassDecl → ℕ → ℕ → Bool
is_below classes a b = is_below_in (parents_of classes) a b

-- without a rule, RuntimeException, Error and all below them roll back
abbrev pub rolls_back_by_default : List ClassDecl → ℕ → Bool
rolls_back_by_default classes a = is_below classes a RUNTIME_EXCEPTION.0 || is_below classes a ERROR.0

abbrev pub first_unknown_parent : List ClassDecl → Option ℕ
first_unknown_parent classes = first_class (parents_of classes) (has_unknown_parent (parents_of classes))

abbrev pub first_own_ancestor : List ClassDecl → Option ℕ
first_own_ancestor classes = first_class (parents_of classes) (is_own_ancestor (parents_of classes))

abbrev pub first_too_deep : List ClassDecl → Option ℕ
first_too_deep classes = first_class (parents_of classes) (is_too_deep (parents_of classes))

-- the classes make a tree: each but Throwable has a parent in range, none is its own ancestor, and none is too deep
pub record IsTree (classes : List ClassDecl) : Type 0 where
  pub parents : first_unknown_parent classes ≡ None
  pub acyclic : first_own_ancestor classes ≡ None
  pub near : first_too_deep classes ≡ None
