-- Proved in `Theorems`.
use Rattle.exact.proofs.opposite_is_inverse.Goals as goal
use Rattle.exact.proofs.Theorems.{inverse}

pub returns : goal.returns
returns c = inverse
