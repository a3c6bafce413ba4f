-- The options of the command line, as `clap` knows them: how each is declared, and what it says.
use Rattle.std.specs.Prelude.{ℕ, ◌-◌, ◌^◌, ◌≤◌, ◌&&◌, true, nat_le, nat_lt, if◌then◌else◌, List, [], ◌∷◌, codes, Option, Some, None, option_and_then, unwrap_or, pos}
use Rattle.std.specs.Str.Parse.{digits_value, without_leading_plus}
use Rattle.clap.specs.ValueTests.{is_numeral}
use Rattle.clap.specs.Simple.{on_top}
use Rattle.clap.specs.Words.{App, Row, Rule, first_of, new_app, new_rule, one_of}
use Rattle.clap.specs.declared.builder.value_parser.ValueParser.TheVariants as parser

-- a command line of this name, without the flag for help that `clap` would add
abbrev pub plain_app : List ℕ → App
plain_app name = on_top (λ shape. record shape { disable_help_flag = true }) (new_app name)

-- `--do JOB`, which must be given
abbrev pub do_rule : Rule
do_rule = record (new_rule (codes "do")) { long = Some (codes "do"); required = true }

-- `--seed N`, a number of 64 bits, 1 where it isn't given
abbrev pub seed_rule : Rule
seed_rule = record (new_rule (codes "seed")) {
  long = Some (codes "seed");
  parser = Some (parser.Unsigned 0 (2 ^ 64 - 1));
  defaults = codes "1" ∷ [];
}

-- `--clients N`, a number from 1 to 64, 4 where it isn't given
abbrev pub clients_rule : Rule
clients_rule = record (new_rule (codes "clients")) {
  long = Some (codes "clients");
  parser = Some (parser.Signed (pos 1) (pos 64));
  defaults = codes "4" ∷ [];
}

-- the number that a text states in decimal digits, within so many bits; a plus may stand first
abbrev pub number_in : ℕ → List ℕ → Option ℕ
number_in bits text =
    let digits = without_leading_plus text in
    if is_numeral digits && nat_lt (digits_value 10 digits) (2 ^ bits) then Some (digits_value 10 digits) else None

-- the number, where it is a count of clients
abbrev pub client_count : ℕ → Option ℕ
client_count n = if nat_le 1 n && nat_le n 64 then Some n else None

-- What the matches of a command line have under each option. Defaults are among the matches, and numbers out of range are
-- not; where it were otherwise, the defaults would stand.
abbrev pub job_in : List Row → Option (List ℕ)
job_in rows = first_of (codes "do") rows

abbrev pub seed_in : List Row → ℕ
seed_in rows = unwrap_or (option_and_then (number_in 64) (one_of (codes "seed") rows)) 1

abbrev pub clients_in : List Row → ℕ
clients_in rows = unwrap_or (option_and_then client_count (option_and_then (number_in 32) (one_of (codes "clients") rows))) 4

-- so many clients can be
pub record IsClientCount (n : ℕ) : Type 0 where
  pub some : 1 ≤ n
  pub few : n ≤ 64
