use Rattle.accuracy.proofs.PowerBounds.{exp2_inner}
use Rattle.accuracy.proofs.powers.exp2_is_near_before_narrowing.Goals as goal

pub returns : goal.returns
returns c = exp2_inner
