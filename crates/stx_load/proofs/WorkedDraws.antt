-- The worked draws are those of the definition: they compute.
use Rattle.std.proofs.Common.{refl}
use Rattle.stx_load.specs.Draws.{after, draw}
use Rattle.stx_load.specs.Generated.{generated}
use Rattle.stx_load.specs.WorkedDraws.{DrawsAreWorkedOut}

pub draws_are_worked_out : DrawsAreWorkedOut
unfolding generated after draw
draws_are_worked_out = (
  record { bodies_are = refl; calls_are = refl; turns_are = refl },
  record { bodies_are = refl; calls_are = refl; turns_are = refl },
  record { bodies_are = refl; calls_are = refl; turns_are = refl },
)
