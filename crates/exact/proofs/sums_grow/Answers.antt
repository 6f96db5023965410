-- Proved in `Theorems`.
use Rattle.exact.proofs.sums_grow.Goals as goal
use Rattle.exact.proofs.Theorems.{grows}

pub returns : goal.returns
returns c = grows
