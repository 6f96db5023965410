-- The operations as IEEE 754-2019 has them: the exact result rounded once, with the signs of zero, the infinities and NaN.
use Rattle.std.specs.Prelude.{◌≡◌, ℕ, ◌<◌, Bool, true, false, not, ◌&&◌, ◌||◌, T, ℤ, pos, ◌==◌, is_nan, Float}
use Rattle.std.specs.Float.Ieee.{unlike, round, add, mul}
use Rattle.std.specs.Float.Ieee.Scale.{finite}
use Rattle.std.specs.Float.{float_mul_add, round_to_format, float_round, Format, nan, inf, fin}
use Rattle.exact.specs.Fraction.{Fraction, Same, integer, whole, plus, times, absolute, apart, ◌≼◌}
use Rattle.rounding.specs.Values.{signed, value, sign, infinite, is_zero}
use Rattle.rounding.specs.Nearest.{Held, Nearest}

-- not a zero and not a NaN
abbrev pub nonzero : Float → Bool
nonzero nan = false
nonzero (inf s) = true
nonzero (fin s m e) = not (m == 0)

-- r is the exact result q rounded once; where q is zero, r is the zero with the sign s
pub record Rounded (f : Format) (s : Bool) (q : Fraction) (r : Float) : Type 0 where
  pub nearest : Nearest f q r
  pub zero : Same q (whole 0) → r ≡ fin s 0 (pos 0)

-- r is x * y
pub record Product (f : Format) (x y r : Float) : Type 0 where
  pub nan_in : T (is_nan x || is_nan y) → r ≡ nan
  pub invalid : T (infinite x && is_zero y || is_zero x && infinite y) → r ≡ nan
  pub infinite_factor : T (infinite x || infinite y) → T (nonzero x && nonzero y) → r ≡ inf (unlike (sign x) (sign y))
  pub finite_factors : T (finite x && finite y) → Rounded f (unlike (sign x) (sign y)) (times (value x) (value y)) r

-- r is x + y; a sum that is exactly zero is -0 where both are negative, and +0 otherwise
pub record Sum (f : Format) (x y r : Float) : Type 0 where
  pub nan_in : T (is_nan x || is_nan y) → r ≡ nan
  pub infinities_differ : T (infinite x && infinite y) → T (unlike (sign x) (sign y)) → r ≡ nan
  pub infinities_agree : T (infinite x && infinite y) → sign x ≡ sign y → r ≡ x
  pub infinite_left : T (infinite x && finite y) → r ≡ x
  pub infinite_right : T (finite x && infinite y) → r ≡ y
  pub finite_terms : T (finite x && finite y) → Rounded f (sign x && sign y) (plus (value x) (value y)) r

-- r is x * y + z, rounded once
pub record MultiplyAdd (f : Format) (x y z r : Float) : Type 0 where
  pub nan_in : T (is_nan x || is_nan y || is_nan z) → r ≡ nan
  pub invalid : T (infinite x && is_zero y || is_zero x && infinite y) → r ≡ nan
  pub infinite_product : T (infinite x || infinite y) → T (nonzero x && nonzero y) → Sum f (inf (unlike (sign x) (sign y))) z r
  pub infinite_addend : T (finite x && finite y && infinite z) → r ≡ z
  pub all_finite : T (finite x && finite y && finite z) → Rounded f (unlike (sign x) (sign y) && sign z) (plus (times (value x) (value y)) (value z)) r

-- r is x in the format f
pub record Conversion (f : Format) (x r : Float) : Type 0 where
  pub nan_in : T (is_nan x) → r ≡ nan
  pub infinite_in : T (infinite x) → r ≡ x
  pub finite_in : T (finite x) → Rounded f (sign x) (value x) r

-- r is a whole number with the sign of x, none is nearer to x, and of two that are equally near r is the one away from zero
pub record WholeNearest (f : Format) (x r : Float) : Type 0 where
  pub held : Held f r
  pub sign_kept : sign r ≡ sign x
  pub is_whole : (z : ℤ) × Same (value r) (integer z)
  pub none_nearer : (z : ℤ) → apart (value r) (value x) ≼ apart (integer z) (value x)
  pub halves_away : (z : ℤ) → apart (integer z) (value x) ≼ apart (value r) (value x) → absolute (integer z) ≼ absolute (value r)

-- r is roundToIntegralTiesToAway of x, a value of the format f
pub record TiesToAway (f : Format) (x r : Float) : Type 0 where
  pub nan_in : T (is_nan x) → r ≡ nan
  pub infinite_in : T (infinite x) → r ≡ x
  pub finite_in : Held f x → WholeNearest f x r

-- ---- what is proved of the operations of `lib.Ieee` and of std
abbrev pub RoundNearest : Type 0
RoundNearest = (f : Format) (s : Bool) (a c : ℕ) (C : 0 < c) → Rounded f s record { num = signed s a; den = c; ok = C } (round f s a c)

abbrev pub Products : Type 0
Products = (f : Format) (x y : Float) → Product f x y (mul f x y)

abbrev pub Sums : Type 0
Sums = (f : Format) (x y : Float) → Sum f x y (add f x y)

abbrev pub MultiplyAdds : Type 0
MultiplyAdds = (f : Format) (x y z : Float) → MultiplyAdd f x y z (float_mul_add f x y z)

abbrev pub Conversions : Type 0
Conversions = (f : Format) (x : Float) → Conversion f x (round_to_format f x)

abbrev pub WholeNumbers : Type 0
WholeNumbers = (f : Format) (x : Float) → TiesToAway f x (float_round f x)
