use Rattle.stx_model.proofs.SerialLaw.{journal_serial}
use Rattle.stx_model.proofs.WorkedRows.{rows_compute}
use Rattle.stx_model.proofs.laws.journal_is_serial.Goals as goal

pub returns : goal.returns
returns c = let rows = rows_compute in journal_serial
