-- Proved in `Errors`.
use Rattle.rounding.proofs.near_figure.Goals as goal
use Rattle.rounding.proofs.Errors.{near_figure_lem}

pub returns : goal.returns
returns c = near_figure_lem
