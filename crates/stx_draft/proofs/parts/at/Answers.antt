-- What the map of the table finds at the key.
use Rattle.toml.proofs.Views.{table_get}
use Rattle.stx_draft.proofs.parts.at.Goals as goal

pub returns : goal.returns
returns c = table_get c.get.result c.args.key.now c.args.table.now.entries c.get.ensures.value
