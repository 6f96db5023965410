-- ln 2 and ln 10 in fractions alone: for every m a bracket that holds the number, narrower as m grows.
use Rattle.std.specs.Prelude.{ℕ, zero, suc}
use Rattle.exact.specs.Fraction.{Fraction, whole, part, plus, times, ◌≼◌}

-- q ^ k
unfoldable pub power : Fraction → ℕ → Fraction
power q zero = whole 1
power q (suc k) = times (power q k) q

-- the sum of q ^ k / k for k from 1 to m
unfoldable pub log_sum : Fraction → ℕ → Fraction
unfolding power
log_sum q zero = whole 0
log_sum q (suc m) = plus (log_sum q m) (times (part m) (power q (suc m)))

-- A_m: the sum of 1 / (k 2 ^ k) for k from 1 to m
abbrev pub halves : ℕ → Fraction
halves m = log_sum (part 1) m

-- C_m: the sum of 1 / (k 5 ^ k) for k from 1 to m
abbrev pub fifths : ℕ → Fraction
fifths m = log_sum (part 4) m

-- 1 / ((m + 1) 2 ^ m)
abbrev pub step : ℕ → Fraction
step m = times (part m) (power (part 1) m)

-- the two bases
pub data Base : Type 0 where
  binary decimal : Base

-- the base itself
abbrev pub radix : Base → ℕ
radix binary = 2
radix decimal = 10

-- where the bracket begins: that of ln 2 at A_m, that of ln 10 at 3 A_m + C_m
abbrev pub lowest : Base → ℕ → Fraction
lowest binary m = halves m
lowest decimal m = plus (times (whole 3) (halves m)) (fifths m)

-- how far up it runs: that of ln 2 by 1 / ((m + 1) 2 ^ m), that of ln 10 by 4 / ((m + 1) 2 ^ m)
abbrev pub width : Base → ℕ → Fraction
width binary m = step m
width decimal m = times (whole 4) (step m)

-- l lies in the bracket of m
pub record InBracket (b : Base) (m : ℕ) (l : Fraction) : Type 0 where
  pub above : lowest b m ≼ l
  pub below : l ≼ plus (lowest b m) (width b m)
