-- A number that a getter reads from a text is the one that the text states.
use Rattle.std.proofs.Common.{◌≡◌, ℕ, Bool, true, List, [], ◌∷◌, Result, Ok, Err, Option, Some, None, refl, ap, inl, inr, ◌<◌, ◌^◌}
use Rattle.std.proofs.lemmas.Bool.{cases_Bool, and_parts, ltb-true, lt-ltb}
use Rattle.std.specs.Prelude.{◌&&◌, nat_lt, option_and_then}
use Rattle.std.specs.Char.{digit_value}
use Rattle.std.specs.List.{list_all}
use Rattle.std.specs.Str.Parse.{AllDigits, IsNumeral, ParsesUnsigned, digits_value, without_leading_plus}
use Rattle.clap.specs.ValueTests.{is_numeral}
use Rattle.clap.specs.Words.{ReadsOne}
use Rattle.stx_words.specs.Options.{number_in}

digits_from : (ds : List ℕ) → list_all (λ d. nat_lt (digit_value d) 10) ds ≡ true → AllDigits 10 ds
digits_from [] h = tt
digits_from (d ∷ ds) h =
    let parts = and_parts _ _ h in
    (ltb-true _ _ parts.0, digits_from ds parts.1)

digits_back : (ds : List ℕ) → AllDigits 10 ds → list_all (λ d. nat_lt (digit_value d) 10) ds ≡ true
digits_back [] h = refl
digits_back (d ∷ ds) h = rw (lt-ltb (digit_value d) 10 h.0) (digits_back ds h.1)

abbrev fits : ℕ → List ℕ → Bool
fits bits digits = is_numeral digits && nat_lt (digits_value 10 digits) (2 ^ bits)

fits_from : (bits : ℕ) (ds : List ℕ) → fits bits ds ≡ true → IsNumeral 10 ds × (digits_value 10 ds < 2 ^ bits)
fits_from bits ds h =
    let parts = and_parts _ _ h in
    let numeral = and_parts _ _ parts.0 in
    ((ltb-true _ _ numeral.0, digits_from ds numeral.1), ltb-true _ _ parts.1)

fits_back : (bits : ℕ) (ds : List ℕ) → IsNumeral 10 ds → digits_value 10 ds < 2 ^ bits → fits bits ds ≡ true
fits_back bits ds numeral within = rw (lt-ltb _ _ numeral.0, digits_back ds numeral.1, lt-ltb _ _ within) refl

stated : (E : Type 0) (bits : ℕ) (text : List ℕ) (n : ℕ) → ParsesUnsigned {E = E} bits 10 text (Ok n) → Some n ≡ number_in bits text
stated E bits text n parses =
    rw (fits_back bits (without_leading_plus text) parses.0.0 parses.0.1) (ap Some parses.1)

none_stated : {E : Type 0} (bits : ℕ) (text : List ℕ) (e : E) → ParsesUnsigned {E = E} bits 10 text (Err e) → None ≡ number_in bits text
none_stated bits text e parses =
    elim (cases_Bool (fits bits (without_leading_plus text))) [
      | inl fit ↦ absurd (parses (fits_from bits _ fit))
      | inr unfit ↦ rw unfit refl
    ]

-- `get_one` of an option whose first value is this text, at an unsigned type of so many bits
pub number_read : {E : Type 0} (G : List ℕ → Result ℕ E → Type 0) (bits : ℕ) (text : Option (List ℕ)) (read : Option ℕ)
    → ((t : List ℕ) (r : Result ℕ E) → G t r → ParsesUnsigned bits 10 t r)
    → (text ≡ None → read ≡ None) → ((t : List ℕ) → text ≡ Some t → ReadsOne G t read)
    → read ≡ option_and_then (number_in bits) text
number_read G bits None read parses none some = none refl
number_read {E} G bits (Some t) (Some n) parses none some = stated E bits t n (parses t (Ok n) (some t refl))
number_read {E} G bits (Some t) None parses none some =
    let refused = some t refl in
    none_stated bits t refused.0 (parses t (Err refused.0) refused.1)
