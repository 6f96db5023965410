-- Proved in `Operations`.
use Rattle.rounding.proofs.conversions.Goals as goal
use Rattle.rounding.proofs.Operations.{conversions}

pub returns : goal.returns
returns c = conversions
