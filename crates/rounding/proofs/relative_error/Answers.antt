-- Proved in `Errors`.
use Rattle.rounding.proofs.relative_error.Goals as goal
use Rattle.rounding.proofs.Errors.{relative_error_lem}

pub returns : goal.returns
returns c = relative_error_lem
