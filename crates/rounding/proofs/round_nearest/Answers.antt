-- Proved in `Operations`.
use Rattle.rounding.proofs.round_nearest.Goals as goal
use Rattle.rounding.proofs.Operations.{round_stands}

pub returns : goal.returns
returns c = round_stands
