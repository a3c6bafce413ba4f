-- Whole numbers as a statement writes them, and the ranges of those that a document has.
use Rattle.std.specs.Prelude.{ℕ, ◌-◌, ◌^◌, ℤ, pos, negsuc, int_le, nat_lt, Bool, false, not, ◌&&◌, ◌||◌, ◌==◌, if◌then◌else◌, List, [], ◌∷◌, codes, Option, Some, None}
use Rattle.stx_scenario.specs.declared.limits.TheConstants.{MOST_CLIENTS, MOST_CONNECTIONS}
use Rattle.std.specs.List.{list_all}
use Rattle.std.specs.Char.{is_ascii_digit}
use Rattle.std.specs.Str.{bytes_eq}
use Rattle.std.specs.Str.Parse.{signed_digits_value}

-- digits that don't begin with 0
abbrev pub are_plain_digits : List ℕ → Bool
are_plain_digits [] = false
are_plain_digits (d ∷ ds) = not (d == 48) && list_all is_ascii_digit (d ∷ ds)

abbrev pub without_minus : List ℕ → List ℕ
without_minus [] = []
without_minus (c ∷ cs) = if c == 45 then cs else c ∷ cs

-- `0`, or an optional `-` and digits that don't begin with 0
abbrev pub is_plain_number : List ℕ → Bool
is_plain_number text = bytes_eq text (codes "0") || are_plain_digits (without_minus text)

-- how far a number is from 0 or, where it is below, from -1
abbrev pub magnitude : ℤ → ℕ
magnitude (pos n) = n
magnitude (negsuc n) = n

-- -2^63 to 2^63 - 1
abbrev pub fits_i64 : ℤ → Bool
fits_i64 z = nat_lt (magnitude z) (2 ^ 63)

-- a number of this form, within i64
unfoldable pub number_in : List ℕ → Option ℤ
number_in text =
    if is_plain_number text && fits_i64 (signed_digits_value 10 text) then Some (signed_digits_value 10 text) else None

-- ---- ranges

abbrev pub is_within : ℤ → ℤ → ℤ → Bool
is_within low high z = int_le low z && int_le z high

-- the ranges of the numbers, both ends included
abbrev pub is_pool : ℤ → Bool
is_pool z = is_within (pos 1) (pos MOST_CONNECTIONS) z

abbrev pub is_order : ℤ → Bool
is_order z = is_within (negsuc 2147483647) (pos 2147483647) z

abbrev pub is_client : ℤ → Bool
is_client z = is_within (pos 0) (pos (MOST_CLIENTS - 1)) z
