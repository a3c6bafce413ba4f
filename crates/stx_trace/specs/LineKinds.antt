-- Whose history a line is of, as the code tells it.
use Rattle.stx_trace.specs.declared.history.History.{History}
use Rattle.stx_base.specs.Lines.{Shared, OfPool, OfStore, OfNeither}

-- the history that a line has its place in
abbrev pub shared_of : History → Shared
shared_of History.Pool = OfPool
shared_of History.Store = OfStore
shared_of History.Neither = OfNeither
