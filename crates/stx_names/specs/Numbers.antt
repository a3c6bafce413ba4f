-- The numbers of names: the places at which they stand.
use Rattle.std.specs.Prelude.{ℕ, if◌then◌else◌, List, [], ◌∷◌, ◌++◌, position, Option, Some, None, unwrap_or}
use Rattle.std.specs.Option.{option_map}
use Rattle.std.specs.Str.{bytes_eq}
use Rattle.stx_scenario.specs.declared.numbers.ClassNo.{ClassNo}
use Rattle.stx_scenario.specs.declared.numbers.MethodNo.{MethodNo}
use Rattle.stx_scenario.specs.declared.numbers.RowNo.{RowNo}
use Rattle.stx_names.specs.declared.numbered.Numbered.{Numbered}
use Rattle.stx_scenario.specs.Names.{has_name}
use Rattle.stx_names.specs.Duplicates.{method_text}

-- a name that isn't there yet goes to the end
abbrev pub with_name : List (List ℕ) → List ℕ → List (List ℕ)
with_name names name = if has_name names name then names else names ++ name ∷ []

-- the number of nothing: no list is so long
abbrev pub nothing : ℕ
nothing = 4294967295

abbrev pub number_of : List (List ℕ) → List ℕ → ℕ
number_of names name = unwrap_or (position (λ n. bytes_eq n name) names) nothing

abbrev pub class_no : Numbered → List ℕ → ClassNo
class_no names class = record { 0 = number_of names.classes class }

abbrev pub row_no : Numbered → List ℕ → RowNo
row_no names row = record { 0 = number_of names.rows row }

-- a method of a bean that is there
abbrev pub method_no : Numbered → List ℕ × List ℕ → MethodNo
method_no names (bean, method) =
    record { 0 = if has_name names.beans bean then number_of names.methods (method_text bean method) else nothing }

-- a method of the bean whose method holds the statement; in a callback there is no such bean
abbrev pub own_method_no : Numbered → Option (List ℕ) → List ℕ → MethodNo
own_method_no names (Some bean) method = record { 0 = number_of names.methods (method_text bean method) }
own_method_no names None method = record { 0 = nothing }

abbrev pub catch_no : Numbered → Option (List ℕ) → Option ClassNo
catch_no names catch = option_map (class_no names) catch
