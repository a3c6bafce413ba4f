-- Names, class names and patterns as a scenario has them, and names that stand twice.
use Rattle.std.specs.Prelude.{ℕ, ◌+◌, Bool, false, ◌&&◌, ◌||◌, ◌==◌, nat_le, if◌then◌else◌, List, [], ◌∷◌, ◌++◌, length, map, Option, Some, None}
use Rattle.std.specs.List.{list_all, list_any, slice_split}
use Rattle.std.specs.Char.{is_ascii_digit}
use Rattle.std.specs.Str.{bytes_eq}
use Rattle.stx_scenario.specs.BuiltIn.{built_in}

abbrev pub is_name_start : ℕ → Bool
is_name_start c = nat_le 97 c && nat_le c 122 || nat_le 65 c && nat_le c 90 || c == 95

abbrev pub is_name_part : ℕ → Bool
is_name_part c = is_name_start c || is_ascii_digit c

-- a letter or `_`, followed by up to 31 letters, digits or `_`
abbrev pub is_name : List ℕ → Bool
is_name [] = false
is_name (c ∷ cs) = is_name_start c && list_all is_name_part cs && nat_le (length cs) 31

-- a class that a file declares: one to eight names joined by dots, of at most 64 bytes in all
abbrev pub is_class_name : List ℕ → Bool
is_class_name text =
    list_all is_name (slice_split (λ c. c == 46) text) && nat_le (length (slice_split (λ c. c == 46) text)) 8 && nat_le (length text) 64

abbrev pub is_built_in : List ℕ → Bool
is_built_in text = list_any (λ class. bytes_eq class.name text) built_in

-- what may stand where a class is named: the built-in names stand as they are
abbrev pub may_name_class : List ℕ → Bool
may_name_class text = is_class_name text || is_built_in text

-- a letter, a digit, `_` or a dot
abbrev pub is_pattern_part : ℕ → Bool
is_pattern_part c = is_name_part c || c == 46

-- 1 to 64 of these
abbrev pub is_pattern : List ℕ → Bool
is_pattern text = list_all is_pattern_part text && nat_le 1 (length text) && nat_le (length text) 64

-- ---- names that stand twice

abbrev pub has_name : List (List ℕ) → List ℕ → Bool
has_name names name = list_any (λ n. bytes_eq n name) names

-- the place, counted from n, of the first name that was seen, in the list or before it
unfoldable pub duplicate_from : List (List ℕ) → ℕ → List (List ℕ) → Option ℕ
duplicate_from seen n [] = None
duplicate_from seen n (name ∷ names) =
    if has_name seen name then Some n else duplicate_from (seen ++ name ∷ []) (n + 1) names

abbrev pub built_in_names : List (List ℕ)
built_in_names = map (λ class. class.name) built_in
