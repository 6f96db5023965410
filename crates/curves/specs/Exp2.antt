-- exp2 under an arithmetic: its bands in order, its split, its table rows and its polynomials.
use Rattle.std.specs.Prelude.{◌≡◌, ℕ, ◌-◌, ◌*◌, ◌%◌, ◌^◌, ◌<◌, ◌≤◌, Bool, false, cond, not, ◌&&◌, T, ◌⊎◌, ℤ, pos, negsuc, ◌==◌, int_le, is_nan, nat_le, nat_lt, Float}
use Rattle.std.specs.Float.Ieee.{up, down, mul, neg, to_signed}
use Rattle.std.specs.Float.{round_to_format, nan, inf, fin, binary32, binary64}
use Rattle.arithmetic.specs.Arithmetic.{Arithmetic}
use Rattle.curves.specs.Tables.{table_exp2f}
use Rattle.curves.specs.Steps.{pattern, magnitude, single, double, poly6, scaled_row, times_power_value}

-- x has no fraction
unfoldable pub is_whole : Float → Bool
is_whole nan = false
is_whole (inf s) = false
is_whole (fin s m e) = m * up e % down e == 0

-- x is a whole number from -149 to 127
abbrev pub in_powers : Float → Bool
in_powers x = is_whole x && (int_le (negsuc 148) (to_signed 31 x) && int_le (to_signed 31 x) (pos 127))

-- the pattern of 2 ^ (j - 149), for a j below 277
abbrev pub bits_of_power : ℕ → ℕ
bits_of_power j = cond (nat_lt j 23) (2 ^ j) ((j - 22) * 2 ^ 23)

-- 64 x rounded to a whole number by the arithmetic, and that number
abbrev pub kd : Arithmetic → Float → Float
kd a x = a.round (mul binary64 x (double 0x4050_0000_0000_0000))

abbrev pub k : Arithmetic → Float → ℤ
k a x = to_signed 31 (kd a x)

-- x - k / 64 by one multiply-add
abbrev pub lo : Arithmetic → Float → Float
lo a x = a.fma (neg (double 0x3f90_0000_0000_0000)) (kd a x) x

-- 2 ^ (k / 64): a row of 64, and a whole power of two
abbrev pub hi : Arithmetic → Float → Float
hi a x = double (scaled_row table_exp2f 64 (k a x))

-- near zero: 1 + x times a polynomial of six terms
abbrev pub exp2_small_value : Arithmetic → Float → Float
exp2_small_value a x =
    round_to_format binary32
    (a.fma
    (poly6 a.fma x (double 0x3fe6_2e42_fefa_39f3) (double 0x3fce_bfbd_ff82_c57b) (double 0x3fac_6b08_d6f2_d7aa) (double 0x3f83_b2ab_6fc9_2f5d) (double 0x3f55_d897_cfe2_7125)
    (double 0x3f24_3090_e61e_6af1))
    x (double 0x3ff0_0000_0000_0000))

abbrev pub exp2_table_value : Arithmetic → Float → Float
exp2_table_value a x =
    round_to_format binary32
    (times_power_value a.fma (lo a x) (hi a x) (double 0x3fe6_2e42_fefa_39ef) (double 0x3fce_bfbd_ff81_31c4) (double 0x3fac_6b08_d706_1695) (double 0x3f83_b2b1_bee7_4b2a)
    (double 0x3f55_d880_9119_8529))

-- the bands, tested downwards
abbrev pub exp2_value : Arithmetic → Float → Float
exp2_value a x =
    cond (is_nan x) (single 0x7fc0_0000)
    (cond (in_powers x) (fin false 1 (to_signed 31 x))
    (cond (nat_lt (magnitude x) 0x3280_0000) (single 0x3f80_0000)
    (cond (nat_lt 0xc315_0000 (pattern x) && nat_lt (pattern x) 0xc316_0000) (single 0x0000_0001)
    (cond (nat_le 0xc316_0000 (pattern x)) (single 0x0000_0000)
    (cond (nat_lt (pattern x) 0x8000_0000 && nat_le 0x4300_0000 (pattern x)) (single 0x7f80_0000)
    (cond (nat_le (magnitude x) 0x3d00_0000) (exp2_small_value a x)
    (exp2_table_value a x)))))))

-- x is no NaN and no whole number from -149 to 127, and none of the bands before the table holds it
pub record Exp2Reaches (x : Float) : Type 0 where
  pub number : T (not (is_nan x))
  pub broken : in_powers x ≡ false
  pub past_small : 0x3d00_0000 < magnitude x
  pub limits : (pattern x < 0x4300_0000) ⊎ ((0x8000_0000 ≤ pattern x) × (pattern x ≤ 0xc315_0000))
