-- Proved in `TwoFigures`.
use Rattle.rounding.proofs.two_figures.Goals as goal
use Rattle.rounding.proofs.TwoFigures.{two_figures_lem}

pub returns : goal.returns
returns c = two_figures_lem
