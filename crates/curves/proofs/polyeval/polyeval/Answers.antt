use Rattle.std.proofs.Common.{rules}
use Rattle.curves.proofs.Horner.{from_the_top}
use Rattle.curves.proofs.polyeval.polyeval.Goals as goal

pub returns : goal.returns
returns g c = rw (← from_the_top (g.B.ExpfBackend.meaning c.args.arith.now).fma c.args.x c.args.a) (search rules)
