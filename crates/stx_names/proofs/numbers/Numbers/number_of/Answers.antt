-- The place of a name among the texts, and none.
use Rattle.std.proofs.Common.{◌∙◌, sym}
use Rattle.stx_names.proofs.NumbersLaws.{number-among, number-nothing}
use Rattle.stx_names.proofs.numbers.Numbers.number_of.Goals as goal

pub returns-in-Some : goal.returns-in-Some
returns-in-Some c = number-among c.args.name.now c.self.inside.names.keys _ c.in-Some.place (sym c.self.view_is) (sym c.get_index_of.ensures.index ∙ c.in-Some.is)

pub returns-in-None : goal.returns-in-None
returns-in-None c = number-nothing c.args.name.now c.self.inside.names.keys _ (sym c.self.view_is) (sym c.get_index_of.ensures.index ∙ c.in-None.is)
