-- Proved in `Laws`.
use Rattle.exact.proofs.values_have_sides.Goals as goal
use Rattle.exact.proofs.Laws.{sides}

pub returns : goal.returns
returns c = sides
