-- The rule of a table: each entry is within one unit of the number that it stands for.
use Rattle.std.specs.Prelude.{ℕ, T, pos, ◌-ℤ◌, Float}
use Rattle.std.proofs.Common.{zero-lt-suc}
use Rattle.std.specs.Float.{binary64}
use Rattle.std.specs.Float.Ieee.Scale.{finite}
use Rattle.exact.specs.Fraction.{Fraction, fraction, integer}
use Rattle.exact.specs.Exact.{Function, exp, exp2, Within}
use Rattle.rounding.specs.Values.{value}
use Rattle.rounding.specs.Units.{unit}

-- y is finite and within one f64 unit of f at x
pub record Entry (f : Function) (x : Fraction) (y : Float) : Type 0 where
  pub number : T (finite y)
  pub near : Within (value y) (unit binary64 y) f x

-- e ^ (i - 104)
abbrev pub M1Entry : ℕ → Float → Type 0
M1Entry i = Entry exp (integer (pos i -ℤ pos 104))

-- e ^ (i / 128)
abbrev pub M2Entry : ℕ → Float → Type 0
M2Entry i = Entry exp (fraction (pos i) 128 (zero-lt-suc 127))

-- 2 ^ (i / 64)
abbrev pub Exp2fEntry : ℕ → Float → Type 0
Exp2fEntry i = Entry exp2 (fraction (pos i) 64 (zero-lt-suc 63))

-- 2 ^ (i / 32)
abbrev pub MidEntry : ℕ → Float → Type 0
MidEntry i = Entry exp2 (fraction (pos i) 32 (zero-lt-suc 31))
