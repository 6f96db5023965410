use lib.Ieee.{binary32}
use Rattle.arithmetic.proofs.Standard.{two_operations}
use Rattle.arithmetic.proofs.GenericExpfBackendExpfBackend.fmaf.Goals as goal

pub returns-clause-ieee : goal.returns-clause-ieee
returns-clause-ieee c = rw c.two_step.ensures (two_operations binary32 c.args.x c.args.y c.args.z)
