-- e ^ t in fractions alone: the sums of its series, a bound of what each sum leaves out, and what a sum allows to be said of e ^ t.
use Rattle.std.specs.Prelude.{ℕ, zero, suc}
use Rattle.exact.specs.Fraction.{Fraction, whole, part, plus, times, absolute, difference, apart, ◌≼◌}

-- t ^ k / k!, where t ^ 0 is 1 for every t
unfoldable pub term : Fraction → ℕ → Fraction
term t zero = whole 1
term t (suc k) = times (times (term t k) t) (part k)

-- S_n(t): the sum of t ^ k / k! for k from 0 to n
unfoldable pub series : Fraction → ℕ → Fraction
unfolding term
series t zero = whole 1
series t (suc n) = plus (series t n) (term t (suc n))

-- R_n(t): 2 |t| ^ (n + 1) / (n + 1)!
unfoldable pub rest : Fraction → ℕ → Fraction
unfolding term
rest t n = times (whole 2) (term (absolute t) (suc n))

-- n is at least 2 |t|: from there on R_n(t) bounds what S_n(t) leaves out
abbrev pub Far : Fraction → ℕ → Type 0
Far t n = times (whole 2) (absolute t) ≼ whole n

-- what can be said of a number: it is within d of y, at least r, at most r
pub data Claim : Type 0 where
  within : (y d : Fraction) → Claim
  at_least : (r : Fraction) → Claim
  at_most : (r : Fraction) → Claim

-- S_n(t), give or take R_n(t), allows the claim to be made of e ^ t
abbrev pub Allowed : Claim → Fraction → ℕ → Type 0
Allowed (within y d) t n = apart y (series t n) ≼ plus d (rest t n)
Allowed (at_least r) t n = r ≼ plus (series t n) (rest t n)
Allowed (at_most r) t n = difference (series t n) (rest t n) ≼ r
