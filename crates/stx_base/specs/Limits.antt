-- The limits within which scenarios are played, and histories kept.
use Rattle.std.specs.Prelude.{ℕ, ◌-◌, ◌^◌}

abbrev pub most_clients : ℕ
most_clients = 64

abbrev pub most_connections : ℕ
most_connections = 64

-- a client's top-level calls
abbrev pub most_calls : ℕ
most_calls = 64

-- the rules of an attribute
abbrev pub most_rules : ℕ
most_rules = 64

-- the statements of a body
abbrev pub most_statements : ℕ
most_statements = 256

abbrev pub most_weight : ℕ
most_weight = 200000

-- the notes that scripts read for each unit of weight
abbrev pub notes_a_unit : ℕ
notes_a_unit = 8

-- the numbers of methods and of classes are below this
abbrev pub number_bound : ℕ
number_bound = 2 ^ 32

-- a client's notes in each history
abbrev pub most_notes : ℕ
most_notes = 2 ^ 32

-- a client's begins: those of all clients together have numbers
abbrev pub most_begins : ℕ
most_begins = 2 ^ 26 - 1
