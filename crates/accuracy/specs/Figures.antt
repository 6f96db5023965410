-- What is promised of a figure: y is the f32 that a curve gives for x.
use Rattle.std.specs.Prelude.{◌≡◌, ℕ, ◌^◌, ◌≤◌, true, false, T, ℤ, pos, negsuc, ◌≤ℤ◌, Float}
use Rattle.std.proofs.Common.{zero-lt-suc}
use Rattle.std.specs.Float.{nan, inf, fin, binary32}
use Rattle.std.specs.Float.Ieee.Scale.{finite}
use Rattle.exact.specs.Fraction.{Fraction, Same, fraction, integer, whole, times}
use Rattle.exact.specs.Exact.{Function, exp, exp2, exp10, expm1, Within, AtLeast, AtMost}
use Rattle.rounding.specs.Values.{value, is_zero, ◌≺◌}
use Rattle.rounding.specs.Units.{unit}
use Rattle.rounding.specs.Nearest.{Held, Neighbouring, limit}
use Rattle.rounding.specs.Errors.{middle, nearer_zero}
use Rattle.arithmetic.specs.Arithmetic.{Arithmetic}
use Rattle.curves.specs.Exp.{exp_value}
use Rattle.curves.specs.Exp2.{exp2_value}
use Rattle.curves.specs.Exp10.{exp10_value}
use Rattle.curves.specs.Expm1.{expm1_value}

-- the figure of a curve by its bands, split and steps under an arithmetic
abbrev pub figure : Function → Arithmetic → Float → Float
figure exp = exp_value
figure exp2 = exp2_value
figure exp10 = exp10_value
figure expm1 = expm1_value

-- 1 / 4096, and a half and that
abbrev pub small_part : Fraction
small_part = fraction (pos 1) 4096 (zero-lt-suc 4095)

abbrev pub half_and_part : Fraction
half_and_part = fraction (pos 2049) 4096 (zero-lt-suc 4095)

-- right: plus infinity where the exact value is at least 2 ^ 128 - 2 ^ 103, and only there; else finite and within half a unit and 1 / 4096 of one
pub data Right (f : Function) (x y : Float) : Type 0 where
  overflows : y ≡ inf false → AtLeast f (value x) (limit binary32) → Right f x y
  stays : T (finite y) → (AtLeast f (value x) (limit binary32) → ⊥) → Within (value y) (times half_and_part (unit binary32 y)) f (value x) → Right f x y

-- exact: exp of a zero is 1; exp2 of a whole number from -149 to 127 is that power of two; exp10 of one from 0 to 10 that power of ten; expm1 of a zero that zero
abbrev pub Exactly : Function → Float → Float → Type 0
Exactly exp x y = T (is_zero x) → y ≡ fin false 1 (pos 0)
Exactly exp2 x y = (k : ℤ) → negsuc 148 ≤ℤ k → k ≤ℤ pos 127 → T (finite x) → Same (value x) (integer k) → y ≡ fin false 1 k
Exactly exp10 x y = (n : ℕ) → n ≤ 10 → T (finite x) → Same (value x) (whole n) → T (finite y) × Same (value y) (whole (10 ^ n))
Exactly expm1 x y = T (is_zero x) → y ≡ x

-- y is the f32 nearest to the exact value: that lies on y's side of the midpoint of y and any other
pub record NearestTo (f : Function) (x y : Float) : Type 0 where
  pub held : Held binary32 y
  pub above : (w : Float) → Held binary32 w → value y ≺ value w → AtMost f (value x) (middle y w)
  pub below : (w : Float) → Held binary32 w → value w ≺ value y → AtLeast f (value x) (middle y w)

-- two figures of one input: equal, or neighbouring with the exact value within 1 / 4096 unit, of the figure nearer to zero, of their midpoint
pub data Agree (f : Function) (x y z : Float) : Type 0 where
  equal : y ≡ z → Agree f x y z
  beside : Neighbouring binary32 y z → Within (middle y z) (times small_part (unit binary32 (nearer_zero y z))) f (value x) → Agree f x y z

-- the lowest value: +0, and -1 for expm1
abbrev pub lowest : Function → Float
lowest exp = fin false 0 (pos 0)
lowest exp2 = fin false 0 (pos 0)
lowest exp10 = fin false 0 (pos 0)
lowest expm1 = fin true 1 (pos 0)

-- the value at a zero: 1, and that zero for expm1
abbrev pub figure_at_zero : Function → Float → Float
figure_at_zero exp x = fin false 1 (pos 0)
figure_at_zero exp2 x = fin false 1 (pos 0)
figure_at_zero exp10 x = fin false 1 (pos 0)
figure_at_zero expm1 x = x

-- the special values of IEEE 754-2019: NaN, both infinities, both zeros
pub record Special (f : Function) (x y : Float) : Type 0 where
  pub of_nan : x ≡ nan → y ≡ nan
  pub of_infinity : x ≡ inf false → y ≡ inf false
  pub of_minus_infinity : x ≡ inf true → y ≡ lowest f
  pub of_zero : T (is_zero x) → y ≡ figure_at_zero f x
