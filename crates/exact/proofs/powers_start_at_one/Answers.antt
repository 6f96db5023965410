-- Proved in `Laws`.
use Rattle.exact.proofs.powers_start_at_one.Goals as goal
use Rattle.exact.proofs.Laws.{starts}

pub returns : goal.returns
returns c = starts
