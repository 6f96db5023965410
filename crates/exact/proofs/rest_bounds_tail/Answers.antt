-- Proved in `Theorems`.
use Rattle.exact.proofs.rest_bounds_tail.Goals as goal
use Rattle.exact.proofs.Theorems.{tail}

pub returns : goal.returns
returns c = tail
