-- Which deed of the definition of publications a `Deed` is.
use Rattle.stx_events.specs.declared.deeds.Deed.{Deed}
use Rattle.stx_model.specs.Listeners.{Deed as ModelDeed, Register, RunNow, Skip}

abbrev pub deed_of : Deed → ModelDeed
deed_of (Deed.Register l) = Register l
deed_of (Deed.RunNow l) = RunNow l
deed_of (Deed.Skip l) = Skip l
