-- Proved in `Proved`.
use Rattle.accuracy.proofs.Proved.{proved}
use Rattle.accuracy.proofs.functions_are_accurate.Goals as goal

pub returns : goal.returns
returns c = proved
