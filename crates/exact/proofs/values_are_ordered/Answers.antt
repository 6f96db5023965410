-- Proved in `Laws`.
use Rattle.exact.proofs.values_are_ordered.Goals as goal
use Rattle.exact.proofs.Laws.{ordered}

pub returns : goal.returns
returns c = ordered
