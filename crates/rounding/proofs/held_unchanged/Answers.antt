-- Proved in `NearestResult`.
use Rattle.rounding.proofs.held_unchanged.Goals as goal
use Rattle.rounding.proofs.NearestResult.{held_unchanged_lem}

pub returns : goal.returns
returns c = held_unchanged_lem
