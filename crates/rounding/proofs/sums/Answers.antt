-- Proved in `Operations`.
use Rattle.rounding.proofs.sums.Goals as goal
use Rattle.rounding.proofs.Operations.{sums}

pub returns : goal.returns
returns c = sums
