-- Proved in `WholeNearest`.
use Rattle.rounding.proofs.whole_numbers.Goals as goal
use Rattle.rounding.proofs.WholeNearest.{whole_numbers}

pub returns : goal.returns
returns c = whole_numbers
