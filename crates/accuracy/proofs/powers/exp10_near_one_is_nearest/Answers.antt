use Rattle.accuracy.proofs.NearOne.{near_one_nearest}
use Rattle.accuracy.proofs.powers.exp10_near_one_is_nearest.Goals as goal

pub returns : goal.returns
returns c = near_one_nearest
