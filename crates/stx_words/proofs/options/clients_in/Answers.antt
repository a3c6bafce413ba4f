use Rattle.std.proofs.Common.{◌∙◌, ap}
use Rattle.std.specs.Prelude.{unwrap_or, codes, option_and_then}
use Rattle.std.specs.Str.Parse.{ParsesUnsigned, ExplainsUnsignedError, HasUnsignedDigitsIfOk}
use Rattle.clap.specs.Words.{found_of}
use Rattle.clap.proofs.WalkLemmas.{one_text-rows}
use Rattle.stx_words.specs.Options.{client_count, number_in}
use Rattle.stx_words.proofs.NumberLaws.{number_read}
use Rattle.stx_words.proofs.options.clients_in.Goals as goal

pub returns-clause-number : goal.returns-clause-number
returns-clause-number c =
    let read = number_read (λ bs r. ParsesUnsigned 32 10 bs r × ExplainsUnsignedError 10 bs r × HasUnsignedDigitsIfOk bs r) 32 _ c.get_one.result
    (λ t r g. g.0) c.get_one.ensures.none c.get_one.ensures.value in
    c.count_or_default.ensures.number
    ∙ ap (λ number. unwrap_or (option_and_then client_count number) 4) (read ∙ ap (option_and_then (number_in 32)) (one_text-rows (found_of c.args.matches.now) (codes "clients")))
