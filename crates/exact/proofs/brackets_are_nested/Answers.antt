-- Proved in `Theorems`.
use Rattle.exact.proofs.brackets_are_nested.Goals as goal
use Rattle.exact.proofs.Theorems.{nested}

pub returns : goal.returns
returns c = nested
