-- Values of a format, neighbouring values, and rounding to nearest, ties to even.
use Rattle.std.specs.Prelude.{◌≡◌, suc, ◌-◌, ◌%◌, ◌^◌, not, T, ◌⊎◌, to_bits, Float}
use Rattle.std.specs.Float.{Format, binary32, binary64}
use Rattle.std.specs.Float.Ieee.{prec, emax, fits}
use Rattle.std.specs.Float.Ieee.Scale.{finite}
use Rattle.exact.specs.Fraction.{Fraction, Same, whole, absolute, apart, ◌≼◌}
use Rattle.rounding.specs.Values.{value, sign, infinite, ◌≺◌}

-- x is a value of the format f: finite, and held by it
pub record Held (f : Format) (x : Float) : Type 0 where
  pub is_finite : T (finite x)
  pub is_held : T (fits f x)

-- y is the next value of the format above x: none lies between them
pub record Next (f : Format) (x y : Float) : Type 0 where
  pub lower : Held f x
  pub upper : Held f y
  pub below : value x ≺ value y
  pub none : (w : Float) → Held f w → value x ≺ value w → value w ≺ value y → ⊥

-- x and y are neighbouring values of the format
abbrev pub Neighbouring : Format → Float → Float → Type 0
Neighbouring f x y = Next f x y ⊎ Next f y x

-- the significand of x is even: its last binary digit is the last of the bit pattern
abbrev pub Even : Format → Float → Type 0
Even f x = to_bits f x % 2 ≡ 0

-- x is a value of the format, none is nearer to q, and where another is equally near x is even
pub record Best (f : Format) (q : Fraction) (x : Float) : Type 0 where
  pub held : Held f x
  pub best : (w : Float) → Held f w → apart (value x) q ≼ apart (value w) q
  pub even : (w : Float) → Held f w → apart (value w) q ≼ apart (value x) q → (Same (value w) (value x) → ⊥) → Even f x

-- from here on a number rounds to an infinity: 2 ^ (emax + 1) less half a unit of the largest values
abbrev pub limit : Format → Fraction
limit f = whole (2 ^ suc (emax f) - 2 ^ (emax f - prec f))

-- in binary32 and in binary64
abbrev pub Limits : Type 0
Limits = (limit binary32 ≡ whole (2 ^ 128 - 2 ^ 103)) × (limit binary64 ≡ whole (2 ^ 1024 - 2 ^ 970))

-- x is q rounded to nearest, ties to even; what is not zero keeps its sign
pub record Nearest (f : Format) (q : Fraction) (x : Float) : Type 0 where
  pub overflows : limit f ≼ absolute q → T (infinite x)
  pub otherwise : (limit f ≼ absolute q → ⊥) → Best f q x
  pub below_zero : q ≺ whole 0 → T (sign x)
  pub above_zero : whole 0 ≺ q → T (not (sign x))
