-- The line of a decision, from its parts.
use Rattle.std.specs.Prelude.{ℕ, Bool, List, ◌++◌, codes, Option}
use Rattle.stx_base.specs.Lines.{decision_word, winner_text, line_feed}

-- what the rules decide for a class that is thrown out of a method, by their names
abbrev pub decision_line : List ℕ → List ℕ → Bool → Option ℕ → List ℕ
decision_line method class rollback winner =
    codes "rules " ++ method ++ codes " " ++ class ++ codes " "
    ++ decision_word rollback ++ codes " by " ++ winner_text winner ++ line_feed
