-- Proved in `Operations`.
use Rattle.rounding.proofs.multiply_adds.Goals as goal
use Rattle.rounding.proofs.Operations.{multiply_adds_lem}

pub returns : goal.returns
returns c = multiply_adds_lem
