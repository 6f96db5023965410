-- Proved in `Expm1`.
use Rattle.accuracy.proofs.expm1_asks_within_the_law.Goals as goal
use Rattle.accuracy.proofs.Expm1.{expm1_arguments}

pub returns : goal.returns
returns c = expm1_arguments
