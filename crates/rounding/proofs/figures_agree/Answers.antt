-- Proved in `Agreement`.
use Rattle.rounding.proofs.figures_agree.Goals as goal
use Rattle.rounding.proofs.Agreement.{figures_agree_lem}

pub returns : goal.returns
returns c = figures_agree_lem
