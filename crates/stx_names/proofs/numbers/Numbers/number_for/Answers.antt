-- The place of a name among the texts.
use Rattle.std.proofs.Common.{◌∙◌, sym}
use Rattle.stx_names.proofs.NumbersLaws.{number-among, with-found}
use Rattle.stx_names.proofs.numbers.Numbers.number_for.Goals as goal

pub returns-in-Some-clause-names : goal.returns-in-Some-clause-names
returns-in-Some-clause-names c = with-found c.args.name.now c.self.inside.names.keys _ c.in-Some.place (sym c.self.view_is) (sym c.get_index_of.ensures.index ∙ c.in-Some.is)

pub returns-in-Some-clause-number : goal.returns-in-Some-clause-number
returns-in-Some-clause-number c = number-among c.args.name.now c.self.inside.names.keys _ c.in-Some.place (sym c.self.view_is) (sym c.get_index_of.ensures.index ∙ c.in-Some.is)
