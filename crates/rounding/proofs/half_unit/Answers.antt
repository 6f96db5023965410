-- Proved in `Errors`.
use Rattle.rounding.proofs.half_unit.Goals as goal
use Rattle.rounding.proofs.Errors.{half_unit_lem}

pub returns : goal.returns
returns c = half_unit_lem
