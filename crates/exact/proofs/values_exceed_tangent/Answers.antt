-- Proved in `Laws`.
use Rattle.exact.proofs.values_exceed_tangent.Goals as goal
use Rattle.exact.proofs.Laws.{tangent}

pub returns : goal.returns
returns c = tangent
