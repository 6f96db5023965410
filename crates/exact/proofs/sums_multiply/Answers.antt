-- Proved in `Theorems`.
use Rattle.exact.proofs.sums_multiply.Goals as goal
use Rattle.exact.proofs.Theorems.{product}

pub returns : goal.returns
returns c = product
