use Rattle.std.proofs.Common.{refl}
use lib.Ieee.{of_bits, to_bits, is_nan, mul, add, neg, round, to_signed, size, units, odd, sum, lt, le, eq}
use Rattle.std.specs.Float.{float_mul_add, round_with, float_with_sign}
use Rattle.arithmetic.specs.Arithmetic.{within}
use Rattle.curves.specs.Exp2.{is_whole}
use Rattle.curves.proofs.examples_hold.Goals as goal

pub returns : goal.returns
unfolding of_bits to_bits is_nan is_whole mul add neg round to_signed size units odd sum lt le eq float_mul_add round_with float_with_sign within
returns c =
    (((refl, refl, refl, refl, refl, refl), (refl, refl), (refl, refl), (refl, refl), (refl, refl, refl, refl)), ((refl, refl, refl, refl, refl, refl), (refl, refl), (refl, refl), (refl, refl), (refl, refl, refl, refl)))
