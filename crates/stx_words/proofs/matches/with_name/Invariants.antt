-- The name and the words so far.
use Rattle.std.proofs.Common.{◌≡◌, ◌∷◌, map, string_bytes}
use Rattle.std.specs.Prelude.{take}
use Rattle.stx_words.proofs.matches.with_name.Given as goal

abbrev pub invariant-loop-word : goal.invariant-loop-word
invariant-loop-word l = map (λ word. word.now) l.all.items ≡ l.fn.name ∷ map string_bytes (take l.word-index l.words)
