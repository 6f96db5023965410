-- exp10 under an arithmetic: its bands in order, its reduction, its table rows and its polynomials.
use Rattle.std.specs.Prelude.{◌<◌, ◌≤◌, cond, not, ◌&&◌, T, ◌⊎◌, ℤ, is_nan, nat_le, nat_lt, Float}
use Rattle.std.specs.Float.Ieee.{mul, to_signed}
use Rattle.std.specs.Float.{round_to_format, binary32, binary64}
use Rattle.arithmetic.specs.Arithmetic.{Arithmetic}
use Rattle.curves.specs.Tables.{table_exp2_mid}
use Rattle.curves.specs.Steps.{pattern, magnitude, single, double, poly7, scaled_row, times_power_value}

-- 32 log2 10 in f64, and -log10 2 / 32 as the sum of two
abbrev pub log2_ten : Float
log2_ten = double 0x405a_934f_0979_a371

abbrev pub minus_log_hi : Float
minus_log_hi = double 0xbf83_4413_509f_8000

abbrev pub minus_log_lo : Float
minus_log_lo = double 0x3ce8_0433_b83b_532a

-- the rounded product 32 log2 10 x rounded to a whole number by the arithmetic, and that number
abbrev pub kd : Arithmetic → Float → Float
kd a x = a.round (mul binary64 log2_ten x)

abbrev pub k : Arithmetic → Float → ℤ
k a x = to_signed 31 (kd a x)

-- x - k log10 2 / 32 in two steps
abbrev pub first : Arithmetic → Float → Float
first a x = a.fma (kd a x) minus_log_hi x

abbrev pub lo : Arithmetic → Float → Float
lo a x = a.fma (kd a x) minus_log_lo (first a x)

-- 2 ^ (k / 32): a row of 32, and a whole power of two
abbrev pub hi : Arithmetic → Float → Float
hi a x = double (scaled_row table_exp2_mid 32 (k a x))

-- near one: the f32 nearest to 10 ^ x
abbrev pub exp10_near_one : Float → Float
exp10_near_one x = cond (nat_le 0xb25e_5bd9 (pattern x) && nat_le (pattern x) 0xb280_0000) (single 0x3f7f_ffff) (single 0x3f80_0000)

-- near zero: 1 + x times a polynomial of seven terms
abbrev pub exp10_small_value : Arithmetic → Float → Float
exp10_small_value a x =
    round_to_format binary32
    (a.fma
    (poly7 a.fma x (double 0x4002_6bb1_bbb5_5516) (double 0x4005_3524_c73c_fbf6) (double 0x4000_4705_91de_0b07) (double 0x3ff2_bd76_0599_f3a5) (double 0x3fe1_42a0_0151_1a6f)
    (double 0x3fca_7fef_fa78_1d53) (double 0x3fb1_6e53_492c_0f0e))
    x (double 0x3ff0_0000_0000_0000))

abbrev pub exp10_table_value : Arithmetic → Float → Float
exp10_table_value a x =
    round_to_format binary32
    (times_power_value a.fma (lo a x) (hi a x) (double 0x4002_6bb1_bbb5_5515) (double 0x4005_3524_c73b_d3ea) (double 0x4000_4705_91df_f149) (double 0x3ff2_bd7c_0a9f_bc4d)
    (double 0x3fe1_429e_74a9_8f43))

-- the bands, tested downwards
abbrev pub exp10_value : Arithmetic → Float → Float
exp10_value a x =
    cond (is_nan x) (single 0x7fc0_0000)
    (cond (nat_lt (pattern x) 0x8000_0000 && nat_le 0x421a_209b (pattern x)) (single 0x7f80_0000)
    (cond (nat_le 0xc234_9e36 (pattern x)) (single 0x0000_0000)
    (cond (nat_le (magnitude x) 0x3280_0000) (exp10_near_one x)
    (cond (nat_le (magnitude x) 0x3d00_0000) (exp10_small_value a x)
    (exp10_table_value a x)))))

-- x is no NaN, and none of the bands before the table holds it
pub record Exp10Reaches (x : Float) : Type 0 where
  pub number : T (not (is_nan x))
  pub past_small : 0x3d00_0000 < magnitude x
  pub limits : (pattern x < 0x421a_209b) ⊎ ((0x8000_0000 ≤ pattern x) × (pattern x < 0xc234_9e36))
