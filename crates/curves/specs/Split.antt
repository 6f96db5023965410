-- What is promised of a split x = k / 2 ^ j + lo.
use Rattle.std.specs.Prelude.{◌≡◌, ℕ, ◌+◌, ◌^◌, ◌<◌, ◌≤◌, T, ℤ, pos, ◌+ℤ◌, neg_ℤ, ◌≤ℤ◌, Float}
use Rattle.std.proofs.Common.{zero-lt-suc}
use Rattle.std.specs.Int.Signed.{shr_z}
use Rattle.std.specs.Float.Ieee.{fits, mul}
use Rattle.std.specs.Float.{float_is_finite, binary32, binary64}
use Rattle.exact.specs.Fraction.{whole, integer, fraction, dyadic, plus, times, difference, absolute, apart, Same, ◌≼◌}
use Rattle.rounding.specs.Units.{power}
use Rattle.rounding.specs.Values.{value}
use Rattle.rounding.specs.Whole.{NearestAway}
use Rattle.arithmetic.specs.Arithmetic.{Arithmetic, Lawful}
use Rattle.curves.specs.Tables.{table_exp2_mid}
use Rattle.curves.specs.Steps.{row, row_of}
use Rattle.curves.specs.Exp as Exp
use Rattle.curves.specs.Exp2 as Exp2
use Rattle.curves.specs.Exp10 as Exp10
use Rattle.curves.specs.Exp.{ExpReaches, shifted, row_of_whole, row_of_rest}
use Rattle.curves.specs.Exp2.{Exp2Reaches}
use Rattle.curves.specs.Exp10.{Exp10Reaches}

pub record Splits (j : ℕ) (x kf : Float) (k : ℤ) (lo : Float) : Type 0 where
  -- k is the whole number nearest to 2 ^ j x, halves away from zero
  pub nearest : NearestAway (times (whole (2 ^ j)) (value x)) k
  -- kf is that number: its conversion to an integer loses nothing
  pub whole_kf : T (float_is_finite kf)
  pub kept : Same (value kf) (integer k)
  -- lo is x - k / 2 ^ j, with no rounding
  pub finite_lo : T (float_is_finite lo)
  pub exact : Same (value lo) (difference (value x) (dyadic k j))
  -- and at most half of 1 / 2 ^ j
  pub small : absolute (value lo) ≼ dyadic (pos 1) (j + 1)

-- the rows that k gives lie within the tables
pub record InRows (k : ℤ) : Type 0 where
  pub moved : pos (shifted k) ≡ k +ℤ pos 13312
  pub whole_row : row_of_whole k ≤ 193
  pub rest_row : row_of_rest k ≤ 127

-- for every lawful arithmetic and every x that reaches the tables: the split of exp is exact, and the same under any other lawful arithmetic
abbrev pub ExpSplits : Type 0
ExpSplits =
    (a : Arithmetic) → Lawful a → (x : Float) → T (fits binary32 x) → ExpReaches x
    → Splits 7 x (Exp.kf a x) (Exp.k a x) (Exp.lo a x) × InRows (Exp.k a x)
    × ((b : Arithmetic) → Lawful b → (Exp.k a x ≡ Exp.k b x) × (Exp.lo a x ≡ Exp.lo b x))

-- k among n rows: the row is from 0, and the whole power of two lies from -least to most
pub record InPowers (n least most : ℕ) (k : ℤ) : Type 0 where
  pub row : row_of n k < n
  pub low : neg_ℤ (pos least) ≤ℤ shr_z k n
  pub high : shr_z k n ≤ℤ pos most

-- for every lawful arithmetic and every x that reaches the table: the split of exp2 is exact, and the same under any other lawful arithmetic
abbrev pub Exp2Splits : Type 0
Exp2Splits =
    (a : Arithmetic) → Lawful a → (x : Float) → T (fits binary32 x) → Exp2Reaches x
    → Splits 6 x (Exp2.kd a x) (Exp2.k a x) (Exp2.lo a x) × InPowers 64 149 128 (Exp2.k a x)
    × ((b : Arithmetic) → Lawful b → (Exp2.k a x ≡ Exp2.k b x) × (Exp2.lo a x ≡ Exp2.lo b x))

-- what is promised of exp10's reduction of x to lo by k multiples of log10 2 / 32
pub record Reduces (a : Arithmetic) (x : Float) : Type 0 where
  -- k is the whole number nearest to the rounded product 32 log2 10 x, halves away from zero
  pub nearest : NearestAway (value (mul binary64 Exp10.log2_ten x)) (Exp10.k a x)
  -- kd is that number: its conversion to an integer loses nothing
  pub whole_kd : T (float_is_finite (Exp10.kd a x))
  pub kept : Same (value (Exp10.kd a x)) (integer (Exp10.k a x))
  -- the first step is x + k minus_log_hi, with no rounding
  pub finite_first : T (float_is_finite (Exp10.first a x))
  pub exact : Same (value (Exp10.first a x)) (plus (value x) (times (integer (Exp10.k a x)) (value Exp10.minus_log_hi)))
  -- lo is the first step and k minus_log_lo, within 2 ^ -60, and at most 1 / 212
  pub finite_lo : T (float_is_finite (Exp10.lo a x))
  pub near : apart (value (Exp10.lo a x)) (plus (value (Exp10.first a x)) (times (integer (Exp10.k a x)) (value Exp10.minus_log_lo))) ≼ dyadic (pos 1) 60
  pub small : absolute (value (Exp10.lo a x)) ≼ fraction (pos 1) 212 (zero-lt-suc 211)
  -- hi is a row of the table times a whole power of two
  pub finite_hi : T (float_is_finite (Exp10.hi a x))
  pub scaled : Same (value (Exp10.hi a x)) (times (value (row table_exp2_mid (row_of 32 (Exp10.k a x)))) (power (shr_z (Exp10.k a x) 32)))

-- for every lawful arithmetic and every x that reaches the table: exp10's reduction does that, and k and the first step are the same under any other lawful arithmetic
abbrev pub Exp10Splits : Type 0
Exp10Splits =
    (a : Arithmetic) → Lawful a → (x : Float) → T (fits binary32 x) → Exp10Reaches x
    → Reduces a x × InPowers 32 150 128 (Exp10.k a x)
    × ((b : Arithmetic) → Lawful b → (Exp10.k a x ≡ Exp10.k b x) × (Exp10.first a x ≡ Exp10.first b x))
