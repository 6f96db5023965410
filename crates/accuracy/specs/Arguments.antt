-- The arguments that the steps of exp and expm1 hand to an arithmetic: all of them lie in the ranges of its law.
use Rattle.std.specs.Prelude.{ℕ, ◌<◌, ◌≤◌, not, T, ◌⊎◌, is_nan, Float}
use Rattle.std.specs.Float.{Format, binary32, binary64}
use Rattle.std.specs.Float.Ieee.{mul, neg, fits}
use Rattle.arithmetic.specs.Arithmetic.{Arithmetic, Lawful, within, small}
use Rattle.curves.specs.Tables.{table_exp_m1, table_exp_m2}
use Rattle.curves.specs.Steps.{pattern, magnitude, single, double, row}
use Rattle.curves.specs.Exp.{kf, k, lo, row_of_whole, row_of_rest, exp_poly, ExpReaches}

-- a multiply-add of x, y and z is asked for within its law: each is a value of the format, and in the range n
pub record Asked (f : Format) (n : ℕ) (x y z : Float) : Type 0 where
  pub of_x : T (fits f x) × T (within n x)
  pub of_y : T (fits f y) × T (within n y)
  pub of_z : T (fits f z) × T (within n z)

-- a rounding of x to a whole number is asked for within its law
pub record AskedWhole (f : Format) (x : Float) : Type 0 where
  pub fit : T (fits f x)
  pub below : T (small x)

-- the steps of the polynomial that exp and expm1 share, before the last
abbrev pub third : Arithmetic → Float → Float
third a x = a.fma (lo a x) (double 0x3fa5_5555_555e_f243) (double 0x3fc5_5556_6668_e5e7)

abbrev pub second : Arithmetic → Float → Float
second a x = a.fma (lo a x) (third a x) (double 0x3fe0_0000_0000_071c)

abbrev pub first : Arithmetic → Float → Float
first a x = a.fma (lo a x) (second a x) (double 0x3fef_ffff_ffff_f777)

-- what the split and these steps ask for
pub record TableArguments (a : Arithmetic) (x : Float) : Type 0 where
  pub for_kf : AskedWhole binary32 (mul binary32 x (single 0x4300_0000))
  pub for_lo : Asked binary32 60 (kf a x) (neg (single 0x3c00_0000)) x
  pub for_third : Asked binary64 400 (lo a x) (double 0x3fa5_5555_555e_f243) (double 0x3fc5_5556_6668_e5e7)
  pub for_second : Asked binary64 400 (lo a x) (third a x) (double 0x3fe0_0000_0000_071c)
  pub for_first : Asked binary64 400 (lo a x) (second a x) (double 0x3fef_ffff_ffff_f777)
  pub for_poly : Asked binary64 400 (lo a x) (first a x) (double 0x3ff0_0000_0000_0000)

-- exp: every x that reaches the tables
abbrev pub ExpArguments : Type 0
ExpArguments = (a : Arithmetic) → Lawful a → (x : Float) → T (fits binary32 x) → ExpReaches x → TableArguments a x

-- expm1: x is no NaN, no band before the polynomial and the tables holds it, and it is small or not
pub record Expm1Reaches (x : Float) : Type 0 where
  pub number : T (not (is_nan x))
  pub past_self : 0x3300_0000 ≤ magnitude x
  pub limits : (pattern x < 0x42b2_0000) ⊎ ((0x8000_0000 ≤ pattern x) × (pattern x < 0xc18a_a123))

-- the steps of its polynomial
abbrev pub small5 : Arithmetic → Float → Float
small5 a x = a.fma x (double 0x3efa_01e3_f8d3_c060) (double 0x3f2a_0241_f000_6d62)

abbrev pub small4 : Arithmetic → Float → Float
small4 a x = a.fma x (small5 a x) (double 0x3f56_c16c_1717_660b)

abbrev pub small3 : Arithmetic → Float → Float
small3 a x = a.fma x (small4 a x) (double 0x3f81_1111_0fcd_58b7)

abbrev pub small2 : Arithmetic → Float → Float
small2 a x = a.fma x (small3 a x) (double 0x3fa5_5555_5555_52fa)

abbrev pub small1 : Arithmetic → Float → Float
small1 a x = a.fma x (small2 a x) (double 0x3fc5_5555_5555_57dd)

abbrev pub small0 : Arithmetic → Float → Float
small0 a x = a.fma x (small1 a x) (double 0x3fe0_0000_0000_0000)

-- what they ask for, and the last step
pub record SmallArguments (a : Arithmetic) (x : Float) : Type 0 where
  pub for_5 : Asked binary64 400 x (double 0x3efa_01e3_f8d3_c060) (double 0x3f2a_0241_f000_6d62)
  pub for_4 : Asked binary64 400 x (small5 a x) (double 0x3f56_c16c_1717_660b)
  pub for_3 : Asked binary64 400 x (small4 a x) (double 0x3f81_1111_0fcd_58b7)
  pub for_2 : Asked binary64 400 x (small3 a x) (double 0x3fa5_5555_5555_52fa)
  pub for_1 : Asked binary64 400 x (small2 a x) (double 0x3fc5_5555_5555_57dd)
  pub for_0 : Asked binary64 400 x (small1 a x) (double 0x3fe0_0000_0000_0000)
  pub for_sum : Asked binary64 400 (small0 a x) (mul binary64 x x) x

-- the last step of the tables
abbrev pub LastArguments : Arithmetic → Float → Type 0
LastArguments a x = Asked binary64 400 (mul binary64 (exp_poly a x) (row table_exp_m1 (row_of_whole (k a x)))) (row table_exp_m2 (row_of_rest (k a x))) (neg (double 0x3ff0_0000_0000_0000))

abbrev pub Expm1Arguments : Type 0
Expm1Arguments = (a : Arithmetic) → Lawful a → (x : Float) → T (fits binary32 x) → Expm1Reaches x → (magnitude x < 0x3d80_0000 → SmallArguments a x) × (0x3d80_0000 ≤ magnitude x → TableArguments a x × LastArguments a x)
