-- Proved in `Errors`.
use Rattle.rounding.proofs.multiples_away.Goals as goal
use Rattle.rounding.proofs.Errors.{multiples_away_lem}

pub returns : goal.returns
returns c = multiples_away_lem
