-- One word after the other.
use Rattle.std.proofs.Common.{sym, ◌∙◌}
use Rattle.stx_names.proofs.SentenceLaws.{one_word, two_words, three_words, four_words, five_words}
use Rattle.stx_names.proofs.sentence.sentence_in.Goals as goal

pub returns-in_default : goal.returns-in_default
returns-in_default c = c.alone.ensures ∙ sym (one_word c.args.text.now _ c.in_default.ensures.one)

pub returns-in_default-first_piece : goal.returns-in_default-first_piece
returns-in_default-first_piece c = c.about.ensures ∙ sym (two_words c.args.text.now _ c.in-Some.rest.now c.in-Some.ensures.more c.in_default-first_piece.ensures.one)

pub returns-in_default-first_piece-2 : goal.returns-in_default-first_piece-2
returns-in_default-first_piece-2 c =
    c.with_value.ensures
    ∙ sym (three_words c.args.text.now _ _ c.in-Some.rest.now c.in-Some-first_piece.rest.now c.in-Some.ensures.more c.in-Some-first_piece.ensures.more c.in_default-first_piece-2.ensures.one)

pub returns-in-Some-first_piece-3 : goal.returns-in-Some-first_piece-3
returns-in-Some-first_piece-3 c =
    sym (five_words c.args.text.now _ _ _ _ c.in-Some.rest.now c.in-Some-first_piece.rest.now c.in-Some-first_piece-2.rest.now
    c.in-Some-first_piece-3.field-0.1.now c.in-Some.ensures.more c.in-Some-first_piece.ensures.more c.in-Some-first_piece-2.ensures.more
    c.in-Some-first_piece-3.ensures.more)

pub returns-in-None : goal.returns-in-None
returns-in-None c =
    c.with_catch.ensures
    ∙ sym (four_words c.args.text.now _ _ _ c.in-Some.rest.now c.in-Some-first_piece.rest.now c.in-Some-first_piece-2.rest.now c.in-Some.ensures.more c.in-Some-first_piece.ensures.more c.in-Some-first_piece-2.ensures.more
    c.in-None.ensures.one)
