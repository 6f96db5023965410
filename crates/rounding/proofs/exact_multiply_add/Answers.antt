-- Proved in `Errors`.
use Rattle.rounding.proofs.exact_multiply_add.Goals as goal
use Rattle.rounding.proofs.Errors.{exact_multiply_add_lem}

pub returns : goal.returns
returns c = exact_multiply_add_lem
