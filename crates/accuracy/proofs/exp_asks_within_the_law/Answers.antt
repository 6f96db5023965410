-- Proved in `ExpSplit`.
use Rattle.accuracy.proofs.exp_asks_within_the_law.Goals as goal
use Rattle.accuracy.proofs.ExpSplit.{table_arguments}

pub returns : goal.returns
returns c = table_arguments
