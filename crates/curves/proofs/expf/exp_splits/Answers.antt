use Rattle.curves.proofs.Natural.{exp_splits_lem}
use Rattle.curves.proofs.expf.exp_splits.Goals as goal

pub returns : goal.returns
returns c = exp_splits_lem
