use Rattle.std.proofs.Common.{refl}
use Rattle.arithmetic.specs.Arithmetic.{within}
use Rattle.arithmetic.proofs.Orders.{le_is}
use Rattle.arithmetic.proofs.within.Goals as goal

pub returns : goal.returns
unfolding within
returns g c =
    let f = g.met.T.Float in
    let r = g.met.T.Ranged in
    rw (c.eq.ensures, c.le.ensures, c.le-2.ensures, f.float_eq_law, f.float_order_law c.LOW.result c.abs-a.result, le_is, f.float_order_law c.abs-a.result c.HIGH.result, le_is, c.abs-a.ensures, c.zero.ensures, f.float_zero_law, c.LOW.ensures, r.low_law, c.HIGH.ensures, r.high_law) (refl {a = within g.T.Ranged.range (g.T.Float.float c.args.x)})
