-- What an add does with a sum.
use Rattle.std.proofs.Common.{◌≡◌, Bool, true, false, ℤ, ◌+ℤ◌, Option, Some, None, refl, ap}
use Rattle.stx_scenario.specs.declared.numbers.RowNo.{RowNo}
use Rattle.stx_scenario.specs.declared.classes.TheConstants.{ARITHMETIC_EXCEPTION}
use Rattle.stx_base.specs.declared.history.Access.{Access}
use Rattle.stx_base.specs.declared.history.Answer.{Answer}
use Rattle.stx_model.specs.Meanings.{State, Result}
use Rattle.stx_model.specs.Statements.{RowAccess, is_value, value_of, access_row, nothing_more, added}
use Rattle.stx_machine.specs.Machine.{sum_of}

module _ (at : RowAccess) (k : RowNo) (st : State) where
  writes : ℤ → Result
  writes v = access_row at (Access.Write k v) (nothing_more at) st

  by_some : (b : Bool) (v sum : ℤ) → elim b as (λ _. Option ℤ) [ true ↦ Some v | false ↦ None ] ≡ Some sum
      → elim b as (λ _. Result) [ true ↦ writes v | false ↦ at.ends (Some ARITHMETIC_EXCEPTION) st ] ≡ writes sum
  by_some true v sum is =
      let same : v ≡ sum = cc in ap writes same
  by_some false v sum is = cc

  by_none : (b : Bool) (v : ℤ) → elim b as (λ _. Option ℤ) [ true ↦ Some v | false ↦ None ] ≡ None
      → elim b as (λ _. Result) [ true ↦ writes v | false ↦ at.ends (Some ARITHMETIC_EXCEPTION) st ] ≡ at.ends (Some ARITHMETIC_EXCEPTION) st
  by_none true v is = cc
  by_none false v is = refl

  pub added_some : (n sum : ℤ) (answer : Answer) → sum_of (value_of answer) n ≡ Some sum → added at k n answer st ≡ access_row at (Access.Write k sum) (nothing_more at) st
  unfolding writes
  added_some n sum answer is = by_some (is_value (value_of answer +ℤ n)) (value_of answer +ℤ n) sum is

  pub added_none : (n : ℤ) (answer : Answer) → sum_of (value_of answer) n ≡ None → added at k n answer st ≡ at.ends (Some ARITHMETIC_EXCEPTION) st
  unfolding writes
  added_none n answer is = by_none (is_value (value_of answer +ℤ n)) (value_of answer +ℤ n) is
