-- Proved in `Laws`.
use Rattle.exact.proofs.values_agree.Goals as goal
use Rattle.exact.proofs.Laws.{agree}

pub returns : goal.returns
returns c = agree
