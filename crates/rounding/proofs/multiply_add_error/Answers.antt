-- Proved in `Errors`.
use Rattle.rounding.proofs.multiply_add_error.Goals as goal
use Rattle.rounding.proofs.Errors.{multiply_add_error_lem}

pub returns : goal.returns
returns c = multiply_add_error_lem
