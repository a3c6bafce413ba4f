-- A path that isn't the root's.
use Rattle.std.proofs.Common.{◌≡◌, ℕ, false, ◌==◌, List, [], ◌∷◌, ◌++◌, length, sym}
use Rattle.std.proofs.lemmas.List.{append_assoc}
use Rattle.std.specs.Prelude.{codes}
use Rattle.stx_refusals.specs.Faults.{under}

pub under_inner : (path key : List ℕ) → (length path == 0) ≡ false → path ++ 46 ∷ key ≡ under path key
under_inner [] key some = cc
under_inner (b ∷ path) key some = sym (append_assoc (b ∷ path) (codes ".") key)
