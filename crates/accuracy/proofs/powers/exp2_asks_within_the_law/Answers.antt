use Rattle.accuracy.proofs.PowerArguments.{exp2_arguments}
use Rattle.accuracy.proofs.powers.exp2_asks_within_the_law.Goals as goal

pub returns : goal.returns
returns c = exp2_arguments
