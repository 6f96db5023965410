-- Proved in `Theorems`.
use Rattle.exact.proofs.rest_vanishes.Goals as goal
use Rattle.exact.proofs.Theorems.{vanish}

pub returns : goal.returns
returns c = vanish
