-- The unit in the last place of a figure.
use Rattle.std.specs.Prelude.{ℕ, zero, suc, ◌-◌, ◌<◌, Bool, cond, ℤ, pos, negsuc, ◌+ℤ◌, ◌-ℤ◌, neg_ℤ, from_bits, int_le, Float}
use Rattle.std.specs.Float.{nan, inf, fin, Format, binary32, binary64}
use Rattle.std.specs.Float.Ieee.{prec, low, up, down, size}
use Rattle.std.specs.Float.Ieee.Fits.{down_pos}
use Rattle.exact.specs.Fraction.{Fraction, Same, whole, absolute, ◌≼◌}
use Rattle.rounding.specs.Values.{value, ◌≺◌}

-- 2 ^ e
abbrev pub power : ℤ → Fraction
power e = record { num = pos (up e); den = down e; ok = down_pos e }

-- the larger of two whole numbers
abbrev pub larger : ℤ → ℤ → ℤ
larger a b = cond (int_le a b) b a

-- the E with 2 ^ E ≤ m * 2 ^ e < 2 ^ (E + 1), for an m above 0, which has `size m` binary digits
abbrev pub exponent : ℕ → ℤ → ℤ
exponent m e = e +ℤ pos (size m) -ℤ pos 1

-- the unit of a finite figure in the format f: 2 ^ (E - prec + 1), and never less than the format's smallest value, 2 ^ -low, which is the unit of zero
unfoldable pub unit : Format → Float → Fraction
unit f nan = whole 0
unit f (inf s) = whole 0
unit f (fin s zero e) = power (neg_ℤ (pos (low f)))
unit f (fin s (suc m) e) = power (larger (exponent (suc m) e -ℤ pos (prec f - 1)) (neg_ℤ (pos (low f))))

-- the exponent is what it is called
abbrev pub ExponentBounds : Type 0
ExponentBounds = (s : Bool) (m : ℕ) (e : ℤ) → 0 < m → (power (exponent m e) ≼ absolute (value (fin s m e))) × (absolute (value (fin s m e)) ≺ power (exponent m e +ℤ pos 1))

-- the units of 1, of 0, of the smallest normal value and of the largest value in binary32, and of 1 in binary64
abbrev pub UnitExamples : Type 0
UnitExamples =
    Same (unit binary32 (from_bits binary32 0x3f800000)) (power (negsuc 22))
    × Same (unit binary32 (from_bits binary32 0)) (power (negsuc 148))
    × Same (unit binary32 (from_bits binary32 0x00800000)) (power (negsuc 148))
    × Same (unit binary32 (from_bits binary32 0x7f7fffff)) (power (pos 104))
    × Same (unit binary64 (from_bits binary64 0x3ff0000000000000)) (power (negsuc 51))
