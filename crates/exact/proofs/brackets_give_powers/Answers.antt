-- Proved in `Theorems`.
use Rattle.exact.proofs.brackets_give_powers.Goals as goal
use Rattle.exact.proofs.Theorems.{whole_powers}

pub returns : goal.returns
returns c = whole_powers
