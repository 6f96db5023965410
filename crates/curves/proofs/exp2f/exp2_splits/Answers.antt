use Rattle.curves.proofs.Binary.{exp2_splits_lem}
use Rattle.curves.proofs.exp2f.exp2_splits.Goals as goal

pub returns : goal.returns
returns c = exp2_splits_lem
