-- Proved in `Theorems`.
use Rattle.exact.proofs.one_sum_decides.Goals as goal
use Rattle.exact.proofs.Theorems.{decides}

pub returns : goal.returns
returns c = decides
