use Rattle.arithmetic.proofs.Orders.{lt_is}
use Rattle.foreign.proofs.Lawful.{rounded_is, left_is}
use Rattle.foreign.proofs.plain.Goals as goal

pub returns-then-lt : goal.returns-then-lt
returns-then-lt g c =
    let f = g.met.T.Float in
    let other = rw (c.eq.ensures, f.float_eq_law, c.zero.ensures, f.float_zero_law) at c.if-eq.false in
    let below = rw (c.lt.ensures, f.float_order_law, lt_is, c.LIMIT.ensures, g.met.T.Limited.limit_law) at c.if-lt.true in
    rounded_is _ _ _ _ other c.abs.ensures below c.round.ensures

pub returns-else-lt : goal.returns-else-lt
returns-else-lt g c =
    let f = g.met.T.Float in
    let other = rw (c.eq.ensures, f.float_eq_law, c.zero.ensures, f.float_zero_law) at c.if-eq.false in
    let above = rw (c.lt.ensures, f.float_order_law, lt_is, c.LIMIT.ensures, g.met.T.Limited.limit_law) at c.if-lt.false in
    left_is _ _ _ other c.abs.ensures above
