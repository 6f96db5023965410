-- Our operations are those of IEEE 754-2019: the product and then the sum, the fused multiply-add, and rounding to a whole number.
use Rattle.std.proofs.Common.{ℕ, Bool, true, false, cond, ◌&&◌, MatchBool}
use lib.Ieee.{Float, Format, mul}
use Rattle.std.specs.Float.{float_mul_add, float_round}
use Rattle.rounding.specs.Operations.{MultiplyAdd, TiesToAway}
use Rattle.rounding.proofs.Operations.{products, sums, multiply_adds_lem}
use Rattle.rounding.proofs.WholeNearest.{whole_numbers}
use Rattle.arithmetic.specs.Arithmetic.{TwoOperations, FusedInside, two_step, fused_within, within}

pub two_operations : (f : Format) (x y z : Float) → TwoOperations f x y z (two_step f x y z)
two_operations f x y z = (mul f x y, products f x y, sums f (mul f x y) z)

pub fused_inside : (f : Format) (n : ℕ) (x y z : Float) → FusedInside f n x y z (fused_within f n x y z)
fused_inside f n x y z = go (within n x && (within n y && within n z))
  where
    go : (b : Bool) → MatchBool b (MultiplyAdd f x y z (cond b (float_mul_add f x y z) (two_step f x y z))) (TwoOperations f x y z (cond b (float_mul_add f x y z) (two_step f x y z)))
    go true = multiply_adds_lem f x y z
    go false = two_operations f x y z

pub ties_to_away : (f : Format) (x : Float) → TiesToAway f x (float_round f x)
ties_to_away = whole_numbers
