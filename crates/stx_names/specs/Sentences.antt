-- Statements and rules, by the names in them. Words stand apart by exactly one space.
use Rattle.std.specs.Prelude.{ℕ, Bool, true, false, ◌==◌, if◌then◌else◌, List, [], ◌∷◌, codes, Option, Some, None, ℤ}
use Rattle.std.specs.Option.{option_map, option_and_then}
use Rattle.std.specs.List.{slice_split}
use Rattle.std.specs.Str.{bytes_eq}
use Rattle.stx_names.specs.declared.sentence.Sentence.{Sentence}
use Rattle.stx_names.specs.declared.sentence.RuleSentence.{RuleSentence}
use Rattle.stx_names.specs.declared.sentence.Matched.{Matched}
use Rattle.stx_scenario.specs.Names.{is_name, may_name_class, is_pattern}
use Rattle.stx_names.specs.Integers.{number_in}

-- the pieces of a text between separators
abbrev pub pieces_of : ℕ → List ℕ → List (List ℕ)
pieces_of separator text = slice_split (λ c. c == separator) text

-- the words of a text
abbrev pub words_of : List ℕ → List (List ℕ)
words_of text = pieces_of 32 text

-- ---- what stands for a word

abbrev pub name_in : List ℕ → Option (List ℕ)
name_in text = if is_name text then Some text else None

abbrev pub class_in : List ℕ → Option (List ℕ)
class_in text = if may_name_class text then Some text else None

abbrev pub pattern_in : List ℕ → Option (List ℕ)
pattern_in text = if is_pattern text then Some text else None

-- BEAN.METHOD
abbrev pub two_names : List (List ℕ) → Option (List ℕ × List ℕ)
two_names (bean ∷ method ∷ []) = option_and_then (λ b. option_map (λ m. (b, m)) (name_in method)) (name_in bean)
two_names _ = None

-- the parts of a text between dots
abbrev pub parts_of : List ℕ → List (List ℕ)
parts_of text = pieces_of 46 text

abbrev pub method_in : List ℕ → Option (List ℕ × List ℕ)
method_in text = two_names (parts_of text)

-- ---- statements

abbrev pub call_of : Option (List ℕ) → List ℕ × List ℕ → Sentence
call_of catch (bean, method) = Sentence.Call bean method catch

-- `mark`
abbrev pub alone : List ℕ → Option Sentence
alone verb = if bytes_eq verb (codes "mark") then Some Sentence.Mark else None

-- a word and what it is about
abbrev pub about : List ℕ → List ℕ → Option Sentence
about verb object =
    if bytes_eq verb (codes "read") then option_map Sentence.Read (name_in object) else
    if bytes_eq verb (codes "erase") then option_map Sentence.Erase (name_in object) else
    if bytes_eq verb (codes "call") then option_map (call_of None) (method_in object) else
    if bytes_eq verb (codes "this") then option_map (λ m. Sentence.This m None) (name_in object) else
    if bytes_eq verb (codes "throw") then option_map Sentence.Throw (class_in object) else
    if bytes_eq verb (codes "publish") then option_map Sentence.Publish (name_in object) else
    if bytes_eq verb (codes "register") then option_map Sentence.Register (name_in object) else None

-- a row and a number
abbrev pub of_value : (List ℕ → ℤ → Sentence) → List ℕ → List ℕ → Option Sentence
of_value sentence row value = option_and_then (λ k. option_map (sentence k) (number_in value)) (name_in row)

abbrev pub with_value : List ℕ → List ℕ → List ℕ → Option Sentence
with_value verb row value =
    if bytes_eq verb (codes "write") then of_value Sentence.Write row value else
    if bytes_eq verb (codes "add") then of_value Sentence.Add row value else
    if bytes_eq verb (codes "need") then of_value Sentence.Need row value else None

-- a call that catches a class
abbrev pub catching : List ℕ → List ℕ → List ℕ → Option Sentence
catching verb object class =
    if bytes_eq verb (codes "call") then option_map (call_of (Some class)) (method_in object) else
    if bytes_eq verb (codes "this") then option_map (λ m. Sentence.This m (Some class)) (name_in object) else None

abbrev pub with_catch : List ℕ → List ℕ → List ℕ → List ℕ → Option Sentence
with_catch verb object word class =
    if bytes_eq word (codes "catch") then option_and_then (catching verb object) (class_in class) else None

abbrev pub sentence_of : List (List ℕ) → Option Sentence
sentence_of (verb ∷ []) = alone verb
sentence_of (verb ∷ object ∷ []) = about verb object
sentence_of (verb ∷ row ∷ value ∷ []) = with_value verb row value
sentence_of (verb ∷ object ∷ word ∷ class ∷ []) = with_catch verb object word class
sentence_of _ = None

-- the statement that a text is
unfoldable pub sentence_in : List ℕ → Option Sentence
sentence_in text = sentence_of (words_of text)

-- ---- rules

-- ~PATTERN, or a class
abbrev pub matched_in : List ℕ → Option Matched
matched_in [] = None
matched_in (c ∷ cs) = if c == 126 then option_map Matched.Pattern (pattern_in cs) else option_map Matched.Class (class_in (c ∷ cs))

abbrev pub decision_in : List ℕ → Option Bool
decision_in verb =
    if bytes_eq verb (codes "rollback") then Some true else
    if bytes_eq verb (codes "keep") then Some false else None

abbrev pub rule_with : List ℕ → Bool → Option RuleSentence
rule_with object rollback = option_map (λ by. record { rollback = rollback; by = by }) (matched_in object)

abbrev pub rule_of : List (List ℕ) → Option RuleSentence
rule_of (verb ∷ object ∷ []) = option_and_then (rule_with object) (decision_in verb)
rule_of _ = None

-- the rule that a text is
unfoldable pub rule_in : List ℕ → Option RuleSentence
rule_in text = rule_of (words_of text)
