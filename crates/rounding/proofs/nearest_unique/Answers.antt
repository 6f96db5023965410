-- Proved in `NearestResult`.
use Rattle.rounding.proofs.nearest_unique.Goals as goal
use Rattle.rounding.proofs.NearestResult.{nearest_unique_lem}

pub returns : goal.returns
returns c = nearest_unique_lem
