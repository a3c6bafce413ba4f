use Rattle.std.proofs.Common.{refl}
use Rattle.springtx.proofs.answer.told.Goals as goal

pub returns-in-Play : goal.returns-in-Play
returns-in-Play c = rw c.in-Play.is c.reported.ensures

pub returns-in_ok-checked-in-Check : goal.returns-in_ok-checked-in-Check
returns-in_ok-checked-in-Check c = rw c.in-Check.is (record { unreported = refl; told = c.in_ok-checked-in-Check.ensures })

pub returns-in_ok-decided-in-Rules : goal.returns-in_ok-decided-in-Rules
returns-in_ok-decided-in-Rules c = rw c.in-Rules.is (record { unreported = refl; told = c.in_ok-decided-in-Rules.ensures })

pub returns-in-Load : goal.returns-in-Load
returns-in-Load c = rw c.in-Load.is c.reported-in-Load.ensures
