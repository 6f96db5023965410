use Rattle.cards.proofs.Counting.{runs_add_up_lem}
use Rattle.cards.proofs.run.runs_add_up.Goals as goal

pub returns : goal.returns
returns c = runs_add_up_lem
