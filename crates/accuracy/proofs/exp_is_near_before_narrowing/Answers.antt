-- Proved in `Inner`.
use Rattle.accuracy.proofs.exp_is_near_before_narrowing.Goals as goal
use Rattle.accuracy.proofs.Inner.{exp_inner}

pub returns : goal.returns
returns c = exp_inner
