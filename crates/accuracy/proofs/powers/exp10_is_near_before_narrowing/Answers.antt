use Rattle.accuracy.proofs.PowerBounds.{exp10_inner}
use Rattle.accuracy.proofs.powers.exp10_is_near_before_narrowing.Goals as goal

pub returns : goal.returns
returns c = exp10_inner
