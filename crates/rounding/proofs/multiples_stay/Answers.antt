-- Proved in `Errors`.
use Rattle.rounding.proofs.multiples_stay.Goals as goal
use Rattle.rounding.proofs.Errors.{multiples_stay_lem}

pub returns : goal.returns
returns c = multiples_stay_lem
