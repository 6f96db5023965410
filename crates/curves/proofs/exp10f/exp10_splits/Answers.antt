use Rattle.curves.proofs.Decimal.{exp10_splits_lem}
use Rattle.curves.proofs.exp10f.exp10_splits.Goals as goal

pub returns : goal.returns
returns c = exp10_splits_lem
