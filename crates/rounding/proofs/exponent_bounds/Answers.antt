-- Proved in `UnitInLastPlace`.
use Rattle.rounding.proofs.exponent_bounds.Goals as goal
use Rattle.rounding.proofs.UnitInLastPlace.{exponent_bounds_lem}

pub returns : goal.returns
returns c = exponent_bounds_lem
