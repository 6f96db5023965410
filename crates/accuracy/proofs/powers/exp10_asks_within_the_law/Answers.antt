use Rattle.accuracy.proofs.PowerArguments.{exp10_arguments}
use Rattle.accuracy.proofs.powers.exp10_asks_within_the_law.Goals as goal

pub returns : goal.returns
returns c = exp10_arguments
