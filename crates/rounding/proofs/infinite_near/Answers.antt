-- Proved in `Errors`.
use Rattle.rounding.proofs.infinite_near.Goals as goal
use Rattle.rounding.proofs.Errors.{infinite_near_lem}

pub returns : goal.returns
returns c = infinite_near_lem
