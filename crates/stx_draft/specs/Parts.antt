-- What stands in a table, read with a default: for documents in which all types are right.
use Rattle.std.specs.Prelude.{ℕ, ℤ, Bool, List, [], ◌∷◌, Option, unwrap_or}
use Rattle.std.specs.Option.{option_and_then}
use Rattle.std.specs.List.{filter_map}
use Rattle.toml.specs.Data.{Data, Items, no_items, item, Members, get_member, as_str, as_integer, as_bool, as_array, as_table}

abbrev pub text_at : List ℕ → Members → List ℕ
text_at key table = unwrap_or (option_and_then as_str (get_member key table)) []

abbrev pub number_at : List ℕ → ℤ → Members → ℤ
number_at key default table = unwrap_or (option_and_then as_integer (get_member key table)) default

abbrev pub flag_at : List ℕ → Bool → Members → Bool
flag_at key default table = unwrap_or (option_and_then as_bool (get_member key table)) default

abbrev pub table_at : List ℕ → Members → Option Members
table_at key table = option_and_then as_table (get_member key table)

abbrev pub entries : Items → List Data
entries no_items = []
entries (item d more) = d ∷ entries more

abbrev pub array_at : List ℕ → Members → List Data
array_at key table = entries (unwrap_or (option_and_then as_array (get_member key table)) no_items)

abbrev pub texts_at : List ℕ → Members → List (List ℕ)
texts_at key table = filter_map as_str (array_at key table)

abbrev pub numbers_at : List ℕ → Members → List ℤ
numbers_at key table = filter_map as_integer (array_at key table)

abbrev pub tables_at : List ℕ → Members → List Members
tables_at key table = filter_map as_table (array_at key table)
