-- Proved in `UnitInLastPlace`.
use Rattle.rounding.proofs.unit_examples.Goals as goal
use Rattle.rounding.proofs.UnitInLastPlace.{unit_examples_lem}

pub returns : goal.returns
returns c = unit_examples_lem
