-- Texts by their pieces, and statements by the number of their words.
use Rattle.std.proofs.Common.{◌≡◌, ◌≢◌, ℕ, suc, ◌==◌, List, [], ◌∷◌, ◌++◌, length, drop, get_or, ◌+◌, ◌<◌, lit<, Option, Some, None, IfSome, IfNone, Bor, true, false, refl, ap, ◌∙◌, inl, inr, arith}
use Rattle.std.proofs.lemmas.Bool.{cases_Bool}
use Rattle.std.proofs.lemmas.Bool.Decides.{nat_tests}
use Rattle.std.proofs.lemmas.List.Splits.{slice_split-cons_yes, slice_split-cons_no, length-slice_split}
use Rattle.std.proofs.lemmas.Str.Pattern.{IsSplitOnceResult, split_parts, strip_prefix_char}
use Rattle.std.specs.List.{slice_split, onto_first}
use Rattle.std.specs.Option.{option_map, MatchOption}
use Rattle.std.specs.Str.Pattern.{FindsCharPrefix}
use Rattle.stx_names.specs.declared.sentence.Matched.{Matched}
use Rattle.stx_names.specs.Sentences.{pieces_of, words_of, alone, about, with_value, with_catch, sentence_of, sentence_in, class_in, pattern_in, matched_in}

-- ---- what `split_once` says of pieces

module _ (c : ℕ) where
  alien : (b : ℕ) → b ≢ c → (b == c) ≡ false
  alien b other = grind (arith, nat_tests)

  itself : (b : ℕ) → b ≡ c → (b == c) ≡ true
  itself b same = grind (arith, nat_tests)

  whole : (text : List ℕ) → ((i : ℕ) → i < length text → get_or text i 0 ≢ c) → slice_split (λ b. b == c) text ≡ text ∷ []
  whole [] other = refl
  whole (b ∷ text) other =
      slice_split-cons_no (λ b. b == c) b text (alien b (other 0 (omega arith)))
      ∙ ap (onto_first b) (whole text (λ i within. other (suc i) (omega arith)))

  cut_at : (first rest : List ℕ) → ((i : ℕ) → i < length first → get_or first i 0 ≢ c)
      → slice_split (λ b. b == c) (first ++ c ∷ rest) ≡ first ∷ slice_split (λ b. b == c) rest
  cut_at [] rest other = slice_split-cons_yes (λ b. b == c) c rest (itself c refl)
  cut_at (b ∷ first) rest other =
      slice_split-cons_no (λ b. b == c) b (first ++ c ∷ rest) (alien b (other 0 (omega arith)))
      ∙ ap (onto_first b) (cut_at first rest (λ i within. other (suc i) (omega arith)))

  pub cut_pieces : (text : List ℕ) (r : Option (Bor (List ℕ) × Bor (List ℕ))) → IsSplitOnceResult c text r → c < 128
      → MatchOption r (pieces_of c text ≡ text ∷ []) (λ cut. pieces_of c text ≡ cut.0.now ∷ pieces_of c cut.1.now)
  cut_pieces text r cut small = by r (split_parts c text r cut small)
    where
      by : (r : Option (Bor (List ℕ) × Bor (List ℕ)))
          → MatchOption r ((i : ℕ) → i < length text → get_or text i 0 ≢ c) (λ x. (text ≡ x.0.now ++ (c ∷ x.1.now)) × ((i : ℕ) → i < length x.0.now → get_or x.0.now i 0 ≢ c))
          → MatchOption r (pieces_of c text ≡ text ∷ []) (λ cut. pieces_of c text ≡ cut.0.now ∷ pieces_of c cut.1.now)
      by None none = whole text none
      by (Some x) parts = ap (slice_split (λ b. b == c)) parts.0 ∙ cut_at x.0.now x.1.now parts.1

pub if_some : {X : Type 0} (r : Option X) (A : Type 0) (P : X → Type 0) → MatchOption r A P → IfSome r P
if_some None A P m = tt
if_some (Some x) A P m = m

pub if_none : {X : Type 0} (r : Option X) (A : Type 0) (P : X → Type 0) → MatchOption r A P → IfNone r A
if_none None A P m = m
if_none (Some x) A P m = tt

-- a text has some piece
some_piece : (c : ℕ) (text : List ℕ) → 0 < length (pieces_of c text)
some_piece c text = omega (arith, length-slice_split (λ b. b == c) text)

-- ---- sentences by their words

module _ (text : List ℕ) where
  pub one_word : (verb : List ℕ) → words_of text ≡ verb ∷ [] → sentence_in text ≡ alone verb
  unfolding sentence_in
  one_word verb words = ap sentence_of words

  pub two_words : (verb rest : List ℕ) → words_of text ≡ verb ∷ words_of rest → words_of rest ≡ rest ∷ [] → sentence_in text ≡ about verb rest
  unfolding sentence_in
  two_words verb rest first second = ap sentence_of (first ∙ ap (λ more. verb ∷ more) second)

  pub three_words : (verb object rest after : List ℕ) → words_of text ≡ verb ∷ words_of rest → words_of rest ≡ object ∷ words_of after → words_of after ≡ after ∷ []
      → sentence_in text ≡ with_value verb object after
  unfolding sentence_in
  three_words verb object rest after first second third =
      ap sentence_of (first ∙ ap (λ more. verb ∷ more) (second ∙ ap (λ more. object ∷ more) third))

  pub four_words : (verb object word rest after last : List ℕ) → words_of text ≡ verb ∷ words_of rest → words_of rest ≡ object ∷ words_of after
      → words_of after ≡ word ∷ words_of last → words_of last ≡ last ∷ [] → sentence_in text ≡ with_catch verb object word last
  unfolding sentence_in
  four_words verb object word rest after last first second third fourth =
      ap sentence_of (first ∙ ap (λ more. verb ∷ more) (second ∙ ap (λ more. object ∷ more) (third ∙ ap (λ more. word ∷ more) fourth)))

  pub five_words : (verb object word class rest after last over : List ℕ) → words_of text ≡ verb ∷ words_of rest → words_of rest ≡ object ∷ words_of after
      → words_of after ≡ word ∷ words_of last → words_of last ≡ class ∷ words_of over → sentence_in text ≡ None
  unfolding sentence_in
  five_words verb object word class rest after last over first second third fourth =
      ap sentence_of (first ∙ ap (λ more. verb ∷ more) (second ∙ ap (λ more. object ∷ more) (third ∙ ap (λ more. word ∷ more) fourth)))
      ∙ by (words_of over) (some_piece 32 over)
    where
      by : (more : List (List ℕ)) → 0 < length more → sentence_of (verb ∷ object ∷ word ∷ class ∷ more) ≡ None
      by [] some = absurd (omega arith)
      by (w ∷ more) some = refl

-- ---- texts of more than two pieces

pub more_than_two : (c : ℕ) (text first rest second over : List ℕ) → pieces_of c text ≡ first ∷ pieces_of c rest → pieces_of c rest ≡ second ∷ pieces_of c over
    → length (pieces_of c text) ≢ 2
more_than_two c text first rest second over begins continues two = omega (arith, ap length begins, ap length continues, two, some_piece c over)

-- ---- what `strip_prefix` says of `~`

-- a text that doesn't begin with `~` may be a class
no_pattern : (text : List ℕ) → ((rest : List ℕ) → text ≢ 126 ∷ rest) → matched_in text ≡ option_map Matched.Class (class_in text)
no_pattern [] other = refl
no_pattern (c ∷ cs) other =
    elim (cases_Bool (c == 126)) [
      | inl tilde ↦ absurd (other cs (ap (λ x. x ∷ cs) (from_test c tilde)))
      | inr alien ↦ rw alien
    ]
  where
    from_test : (x : ℕ) → (x == 126) ≡ true → x ≡ 126
    from_test x h = grind (arith, nat_tests)

pub is_pattern_or_class : (text : List ℕ) (r : Option (Bor (List ℕ)))
    → MatchOption r (FindsCharPrefix 126 text None) (λ x. (n : ℕ) × FindsCharPrefix 126 text (Some n) × (x.now ≡ drop n text) × (length x.now + n ≡ length text))
    → MatchOption r (matched_in text ≡ option_map Matched.Class (class_in text)) (λ x. matched_in text ≡ option_map Matched.Pattern (pattern_in x.now))
is_pattern_or_class text r stripped = by r (strip_prefix_char 126 text r stripped (lit< tt))
  where
    by : (r : Option (Bor (List ℕ))) → MatchOption r ((rest : List ℕ) → text ≢ 126 ∷ rest) (λ x. text ≡ 126 ∷ x.now)
        → MatchOption r (matched_in text ≡ option_map Matched.Class (class_in text)) (λ x. matched_in text ≡ option_map Matched.Pattern (pattern_in x.now))
    by None other = no_pattern text other
    by (Some x) begins = rw begins
