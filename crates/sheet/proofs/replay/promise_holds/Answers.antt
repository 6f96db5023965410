use Rattle.sheet.proofs.Promised.{promise}
use Rattle.sheet.proofs.replay.promise_holds.Goals as goal

pub returns : goal.returns
returns c = promise
