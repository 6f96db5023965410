-- Proved in `Multiply`.
use Rattle.exact.proofs.exponents_add.Goals as goal
use Rattle.exact.proofs.Multiply.{multiplies}

pub returns : goal.returns
returns c = multiplies
