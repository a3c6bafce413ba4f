-- A name among the texts.
use Rattle.stx_names.proofs.NumbersLaws.{found-among}
use Rattle.stx_names.proofs.numbers.Numbers.has.Goals as goal

pub returns : goal.returns
returns c = cc (found-among c.args.name.now c.self.inside.names.keys)
