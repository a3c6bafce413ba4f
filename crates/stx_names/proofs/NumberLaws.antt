-- A number of the form that a scenario writes is a numeral with its sign, so that `parse` reads it.
use Rattle.std.proofs.Common.{◌≡◌, ℕ, ℤ, pos, negsuc, true, false, not, ◌==◌, List, [], ◌∷◌, Result, Ok, Err, Some, refl, sym, ap, ◌∙◌, inl, inr, arith, w64, lit<}
use Rattle.std.proofs.lemmas.Bool.{cases_Bool, and_parts, or_cases, false≢true}
use Rattle.std.proofs.lemmas.Bool.Decides.{nat_tests}
use Rattle.std.proofs.lemmas.Slice.Eq.{bytes_eq-Decides}
use Rattle.std.proofs.lemmas.Str.Parse.{IsNumeralModel, numerals_by_value, tells_all_ascii_digits}
use Rattle.std.specs.Prelude.{codes, ◌&&◌, FitsSigned}
use Rattle.std.specs.Char.{is_ascii_digit}
use Rattle.std.specs.List.{list_all}
use Rattle.std.specs.Result.{result_ok}
use Rattle.std.specs.Str.{all_ascii_digits, bytes_eq}
use Rattle.std.specs.Str.Parse.{IsNumeral, digits_value, without_leading_sign, signed_digits_value, ParsesSigned}
use Rattle.stx_names.specs.Integers.{are_plain_digits, is_plain_number, without_minus, fits_i64, number_in}

own : IsNumeralModel (λ ds. all_ascii_digits ds ≡ true) (digits_value 10)
own = numerals_by_value _ tells_all_ascii_digits

all_digits : (ds : List ℕ) → list_all is_ascii_digit ds ≡ all_ascii_digits ds
all_digits [] = refl
all_digits (d ∷ ds) = ap (λ b. is_ascii_digit d && b) (all_digits ds)

digit_is_no_plus : (c : ℕ) → is_ascii_digit c ≡ true → (c == 43) ≡ false
digit_is_no_plus c h = grind (arith, nat_tests)

plain_is_numeral : (ds : List ℕ) → are_plain_digits ds ≡ true → IsNumeral 10 ds
plain_is_numeral [] h = absurd (false≢true h)
plain_is_numeral (d ∷ ds) h = (omega arith, own.to (d ∷ ds) (sym (all_digits (d ∷ ds)) ∙ (and_parts _ _ h).1))

-- the first of plain digits is no plus
no_plus : (c : ℕ) (cs : List ℕ) → are_plain_digits (c ∷ cs) ≡ true → (c == 43) ≡ false
no_plus c cs h =
    let digits : (is_ascii_digit c && list_all is_ascii_digit cs) ≡ true = (and_parts (not (c == 48)) _ h).1 in
    let first : is_ascii_digit c ≡ true = (and_parts (is_ascii_digit c) (list_all is_ascii_digit cs) digits).0 in
    digit_is_no_plus c first

signed_is_numeral : (text : List ℕ) → are_plain_digits (without_minus text) ≡ true → IsNumeral 10 (without_leading_sign text)
signed_is_numeral [] h = absurd (false≢true h)
signed_is_numeral (c ∷ cs) h =
    elim (cases_Bool (c == 45)) [
      | inl minus ↦ rw minus (plain_is_numeral cs (rw minus at h))
      | inr other ↦
          let plain : are_plain_digits (c ∷ cs) ≡ true = rw other at h in
          rw (other, no_plus c cs plain) (plain_is_numeral (c ∷ cs) plain)
    ]

numeral : (text : List ℕ) → is_plain_number text ≡ true → IsNumeral 10 (without_leading_sign text)
numeral text h =
    elim (or_cases (bytes_eq text (codes "0")) _ h) [
      | inl zero ↦
          let is : text ≡ codes "0" = (bytes_eq-Decides text (codes "0")).0 zero in
          rw is (lit< tt, (lit< tt, tt))
      | inr plain ↦ signed_is_numeral text plain
    ]

within : (z : ℤ) → FitsSigned w64 z → fits_i64 z ≡ true
within (pos n) fits = grind (arith, nat_tests, fits.sfits)
within (negsuc n) fits = grind (arith, nat_tests, fits.sfits)

beyond : (z : ℤ) → ¬ FitsSigned w64 z → fits_i64 z ≡ false
beyond z too_far =
    elim (cases_Bool (fits_i64 z)) [
      | inl fits ↦ absurd (too_far (from_test z fits))
      | inr past ↦ past
    ]
  where
    from_test : (y : ℤ) → fits_i64 y ≡ true → FitsSigned w64 y
    from_test (pos n) h = record { sfits = grind (arith, nat_tests, h) }
    from_test (negsuc n) h = record { sfits = grind (arith, nat_tests, h) }

-- what `parse` gives of a number of this form
pub number_from : {E : Type 0} (text : List ℕ) (r : Result ℤ E) → is_plain_number text ≡ true → ParsesSigned w64 10 text r → result_ok r ≡ number_in text
unfolding number_in
number_from text (Ok z) form parses = rw (form, within (signed_digits_value 10 text) parses.0.1) (ap Some parses.1)
number_from text (Err e) form parses = rw (form, beyond (signed_digits_value 10 text) (λ fits. parses (numeral text form, fits)))
