-- Before the narrowing: the f64 whose rounding to f32 is the figure of exp or expm1, and how near it is to the exact value, relative to its own size.
use Rattle.std.specs.Prelude.{◌≡◌, ◌<◌, ◌≤◌, T, pos, Float}
use Rattle.std.specs.Float.Ieee.{mul, neg, fits}
use Rattle.std.specs.Float.Ieee.Scale.{finite}
use Rattle.std.specs.Float.{round_to_format, binary32, binary64}
use Rattle.exact.specs.Fraction.{Fraction, dyadic, times, absolute}
use Rattle.exact.specs.Exact.{Function, exp, expm1, Within}
use Rattle.rounding.specs.Values.{value}
use Rattle.arithmetic.specs.Arithmetic.{Arithmetic, Lawful}
use Rattle.curves.specs.Tables.{table_exp_m1, table_exp_m2}
use Rattle.curves.specs.Steps.{magnitude, double, row, poly7}
use Rattle.curves.specs.Exp.{k, row_of_whole, row_of_rest, exp_poly, exp_tables_value, ExpReaches}
use Rattle.curves.specs.Expm1.{expm1_small_value, expm1_tables_value}
use Rattle.accuracy.specs.Arguments.{Expm1Reaches}

-- z is finite, and within e of its own size of the exact value of f at x
pub record NearBy (f : Function) (e : Fraction) (x z : Float) : Type 0 where
  pub is_finite : T (finite z)
  pub near : Within (value z) (times e (absolute (value z))) f (value x)

-- exp by its tables: 2 ^ -45
abbrev pub exp_wide : Arithmetic → Float → Float
exp_wide a x = mul binary64 (mul binary64 (exp_poly a x) (row table_exp_m1 (row_of_whole (k a x)))) (row table_exp_m2 (row_of_rest (k a x)))

abbrev pub ExpInner : Type 0
ExpInner = (a : Arithmetic) → Lawful a → (x : Float) → T (fits binary32 x) → ExpReaches x → (exp_tables_value a x ≡ round_to_format binary32 (exp_wide a x)) × NearBy exp (dyadic (pos 1) 45) x (exp_wide a x)

-- expm1 by its polynomial: 17 * 2 ^ -52
abbrev pub expm1_near : Arithmetic → Float → Float
expm1_near a x =
    a.fma
    (poly7 a.fma x (double 0x3fe0_0000_0000_0000) (double 0x3fc5_5555_5555_57dd) (double 0x3fa5_5555_5555_52fa) (double 0x3f81_1111_0fcd_58b7) (double 0x3f56_c16c_1717_660b)
    (double 0x3f2a_0241_f000_6d62) (double 0x3efa_01e3_f8d3_c060))
    (mul binary64 x x) x

-- expm1 by its tables: 125 * 2 ^ -48
abbrev pub expm1_wide : Arithmetic → Float → Float
expm1_wide a x = a.fma (mul binary64 (exp_poly a x) (row table_exp_m1 (row_of_whole (k a x)))) (row table_exp_m2 (row_of_rest (k a x))) (neg (double 0x3ff0_0000_0000_0000))

abbrev pub Expm1Inner : Type 0
Expm1Inner =
    (a : Arithmetic) → Lawful a → (x : Float) → T (fits binary32 x) → Expm1Reaches x
    → (magnitude x < 0x3d80_0000 → (expm1_small_value a x ≡ round_to_format binary32 (expm1_near a x)) × NearBy expm1 (dyadic (pos 17) 52) x (expm1_near a x))
    × (0x3d80_0000 ≤ magnitude x → (expm1_tables_value a x ≡ round_to_format binary32 (expm1_wide a x)) × NearBy expm1 (dyadic (pos 125) 48) x (expm1_wide a x))
