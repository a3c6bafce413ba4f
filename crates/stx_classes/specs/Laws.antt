-- The laws that public functions carry: what depth and the causes say of the ways up the tree.
use Rattle.std.specs.Prelude.{◌≡◌, ◌↔◌, ℕ, ◌<◌, ◌≤◌, IsTrue, List, length, Some}
use Rattle.stx_scenario.specs.declared.scenario.ClassDecl.{ClassDecl}
use Rattle.stx_scenario.specs.declared.classes.TheConstants.{THROWABLE}
use Rattle.stx_base.specs.Classes.{ancestor, depth, is_below, is_own_ancestor, parents_of, deepest, IsTree}

-- n steps lead from a up to b, and no fewer do
pub record IsFewest (classes : List ClassDecl) (a b n : ℕ) : Type 0 where
  pub leads : ancestor classes n a ≡ Some b
  pub fewest : (m : ℕ) → ancestor classes m a ≡ Some b → n ≤ m

-- the depth is the fewest steps that lead from a up to b
abbrev pub DepthIsFewest : Type 0
DepthIsFewest = (classes : List ClassDecl) (a b n : ℕ) → b < length classes → (depth classes a b ≡ Some n) ↔ IsFewest classes a b n

-- a is b or below it exactly where some number of steps leads from a up to b
abbrev pub BelowIsAWay : Type 0
BelowIsAWay = (classes : List ClassDecl) (a b : ℕ) → b < length classes → IsTrue (is_below classes a b) ↔ ((n : ℕ) × (ancestor classes n a ≡ Some b))

-- a class is its own ancestor exactly where one or more steps lead from it up to itself
abbrev pub OwnAncestorIsAWay : Type 0
OwnAncestorIsAWay =
    (classes : List ClassDecl) (a : ℕ) → a < length classes
    → IsTrue (is_own_ancestor (parents_of classes) a) ↔ ((n : ℕ) × (0 < n) × (ancestor classes n a ≡ Some a))

-- in a tree at most 64 steps lead from each class up to Throwable
abbrev pub TreeReachesThrowable : Type 0
TreeReachesThrowable =
    (classes : List ClassDecl) → IsTree classes → (a : ℕ) → a < length classes
    → (n : ℕ) × (n ≤ deepest) × (depth classes a THROWABLE.0 ≡ Some n)
