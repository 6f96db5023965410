-- Proved in `Inner`.
use Rattle.accuracy.proofs.expm1_is_near_before_narrowing.Goals as goal
use Rattle.accuracy.proofs.Inner.{expm1_inner}

pub returns : goal.returns
returns c = expm1_inner
