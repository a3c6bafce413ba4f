-- The words so far are others: the text stands among the rest for what it does among all.
use Rattle.std.proofs.Common.{◌≡◌, drop, map}
use Rattle.stx_names.specs.Words.{word_in}
use Rattle.stx_names.proofs.words.word_in.Given as goal

abbrev pub invariant-loop-word : goal.invariant-loop-word
invariant-loop-word g l = word_in (map (λ word. (word.0.now, word.1)) (drop l.word-index l.words)) l.text ≡ word_in (map (λ word. (word.0.now, word.1)) l.words) l.text
