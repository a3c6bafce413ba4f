-- A listener with its number, behind a reference and as it is.
use Rattle.std.specs.Prelude.{ℕ}
use Rattle.stx_scenario.specs.declared.scenario.Listener.{Listener}
use Rattle.stx_model.specs.Listeners.{Numbered}
use denote.Ref.{Bor}

abbrev pub listener_of : ℕ × Bor Listener → Numbered
listener_of l = (l.0, l.1.now)
