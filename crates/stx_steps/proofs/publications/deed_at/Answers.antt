-- The deed is the first of those from its place on.
use Rattle.std.proofs.Common.{◌∙◌, sym, ap}
use Rattle.std.specs.Option.{option_copied, option_map}
use Rattle.stx_events.specs.Deeds.{deed_of}
use Rattle.stx_steps.proofs.Dealings.{first_at}
use Rattle.stx_steps.proofs.publications.deed_at.Goals as goal

pub returns-in-Some : goal.returns-in-Some
returns-in-Some c = ap (option_map deed_of) (sym (ap option_copied c.in-Some.is) ∙ c.get.ensures) ∙ first_at c.args.deeds.now c.args.place

pub returns-in-None : goal.returns-in-None
returns-in-None c = ap (option_map deed_of) (sym (ap option_copied c.in-None.is) ∙ c.get.ensures) ∙ first_at c.args.deeds.now c.args.place
