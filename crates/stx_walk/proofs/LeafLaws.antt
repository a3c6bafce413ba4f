-- What is refused in a single value, by what it is.
use Rattle.std.proofs.Common.{◌≡◌, ℕ, ℤ, true, false, List, Some, None, Bor, refl}
use Rattle.std.specs.Option.{option_copied, is_some}
use Rattle.toml.specs.Data.{Data, string, integer, boolean, as_str, as_integer, as_bool}
use Rattle.stx_refusals.specs.declared.fault.Stage.{Stage}
use Rattle.stx_walk.specs.declared.schema.Leaf.{Leaf}
use Rattle.stx_walk.specs.Schema.{text_stage, number_stage, flag_stage, leaf_stage}

pub stage_of_text : (leaf : Leaf) (d : Data) (text : Bor (List ℕ)) → option_copied (Some text) ≡ as_str d → leaf_stage leaf d ≡ text_stage leaf text.now
stage_of_text leaf (string t) text e = cc
stage_of_text leaf _ text e = cc

pub stage_of_number : (leaf : Leaf) (d : Data) (z : ℤ) → Some z ≡ as_integer d → leaf_stage leaf d ≡ number_stage leaf z
stage_of_number leaf (integer y) z e = cc
stage_of_number leaf _ z e = cc

pub stage_of_flag : (leaf : Leaf) (d : Data) → is_some (as_bool d) ≡ true → leaf_stage leaf d ≡ flag_stage leaf
stage_of_flag leaf (boolean b) e = refl
stage_of_flag leaf _ e = cc

-- no string, integer or boolean
pub stage_of_other : (leaf : Leaf) (d : Data) → as_str d ≡ None → as_integer d ≡ None → is_some (as_bool d) ≡ false → leaf_stage leaf d ≡ Some Stage.WrongType
stage_of_other leaf (string t) e f g = cc
stage_of_other leaf _ e f g = cc
