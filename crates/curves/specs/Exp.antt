-- exp under an arithmetic: its bands in order, its split, its table rows and its polynomial.
use Rattle.std.specs.Prelude.{ℕ, ◌+◌, ◌-◌, ◌/◌, ◌%◌, ◌<◌, ◌≤◌, cond, not, ◌&&◌, T, ◌⊎◌, ℤ, pos, negsuc, is_nan, nat_le, nat_lt, Float}
use Rattle.std.specs.Float.Ieee.{mul, neg, to_signed}
use Rattle.std.specs.Float.{round_to_format, binary32, binary64}
use Rattle.arithmetic.specs.Arithmetic.{Arithmetic}
use Rattle.curves.specs.Tables.{table_exp_m1, table_exp_m2}
use Rattle.curves.specs.Steps.{pattern, magnitude, single, double, row, poly5}

-- 128 x rounded to a whole number by the arithmetic, and that number
abbrev pub kf : Arithmetic → Float → Float
kf a x = a.roundf (mul binary32 x (single 0x4300_0000))

abbrev pub k : Arithmetic → Float → ℤ
k a x = to_signed 31 (kf a x)

-- x - k / 128 by one multiply-add
abbrev pub lo : Arithmetic → Float → Float
lo a x = a.fmaf (kf a x) (neg (single 0x3c00_0000)) x

-- k + 104 * 128, which is not negative where a row is read
abbrev pub shifted : ℤ → ℕ
shifted (pos n) = n + 13312
shifted (negsuc n) = 13311 - n

-- the rows of the two tables: the whole part and the remainder of (k + 104 * 128) / 128
abbrev pub row_of_whole : ℤ → ℕ
row_of_whole z = shifted z / 128

abbrev pub row_of_rest : ℤ → ℕ
row_of_rest z = shifted z % 128

-- e ^ lo by a polynomial of five terms
abbrev pub exp_poly : Arithmetic → Float → Float
exp_poly a x =
    poly5 a.fma (lo a x) (double 0x3ff0_0000_0000_0000) (double 0x3fef_ffff_ffff_f777) (double 0x3fe0_0000_0000_071c) (double 0x3fc5_5556_6668_e5e7)
    (double 0x3fa5_5555_555e_f243)

-- the polynomial times the two rows, narrowed to f32
abbrev pub exp_tables_value : Arithmetic → Float → Float
exp_tables_value a x =
    round_to_format binary32 (mul binary64 (mul binary64 (exp_poly a x) (row table_exp_m1 (row_of_whole (k a x)))) (row table_exp_m2 (row_of_rest (k a x))))

-- the bands, tested downwards
abbrev pub exp_value : Arithmetic → Float → Float
exp_value a x =
    cond (is_nan x) (single 0x7fc0_0000)
    (cond (nat_le (magnitude x) 0x3280_0000) (single 0x3f80_0000)
    (cond (nat_le 0xc2cf_f1b5 (pattern x)) (single 0x0000_0000)
    (cond (nat_lt (pattern x) 0x8000_0000 && nat_le 0x42b2_0000 (pattern x)) (single 0x7f80_0000)
    (exp_tables_value a x))))

-- x is no NaN, and none of the bands before the tables holds it
pub record ExpReaches (x : Float) : Type 0 where
  pub number : T (not (is_nan x))
  pub past_one : 0x3280_0000 < magnitude x
  pub limits : (pattern x < 0x42b2_0000) ⊎ ((0x8000_0000 ≤ pattern x) × (pattern x < 0xc2cf_f1b5))
