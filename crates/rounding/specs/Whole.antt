-- The whole number nearest to a fraction.
use Rattle.std.specs.Prelude.{ℤ}
use Rattle.exact.specs.Fraction.{Fraction, whole, integer, times, absolute, apart, Same, ◌≼◌}

-- z is at most a half away from q
abbrev pub NearWhole : Fraction → ℤ → Type 0
NearWhole q z = times (whole 2) (apart q (integer z)) ≼ whole 1

-- z is exactly a half away from q
abbrev pub AtHalf : Fraction → ℤ → Type 0
AtHalf q z = Same (times (whole 2) (apart q (integer z))) (whole 1)

-- z is the whole number nearest to q, and at a half the one farther from zero
pub record NearestAway (q : Fraction) (z : ℤ) : Type 0 where
  pub near : NearWhole q z
  pub away : AtHalf q z → absolute q ≼ absolute (integer z)
