-- The exact value of e ^ x, 2 ^ x, 10 ^ x and e ^ x - 1 at a fraction x: which claims hold of it.
use Rattle.std.specs.Prelude.{ℕ, ◌≤◌}
use Rattle.exact.specs.Fraction.{Fraction, whole, plus, times, absolute, ◌≼◌}
use Rattle.exact.specs.Exponential.{Far, Claim, within, at_least, at_most, Allowed}
use Rattle.exact.specs.Logarithm.{Base, binary, decimal, InBracket}

-- the claim holds of e ^ t: every S_n(t) with n at least 2 |t| allows it
abbrev pub OfExp : Fraction → Claim → Type 0
OfExp t c = (n : ℕ) → Far t n → Allowed c t n

-- the claim holds of 2 ^ x or 10 ^ x: for every m from 1 and every n of at least 6 |x| there is some l in the bracket of the base's
-- logarithm such that S_n(x l) allows it
abbrev pub OfPower : Base → Fraction → Claim → Type 0
OfPower b x c = (m n : ℕ) → 1 ≤ m → times (whole 6) (absolute x) ≼ whole n → (l : Fraction) × InBracket b m l × Allowed c (times x l) n

-- the claim of v that says what c says of v - 1
abbrev pub raised : Claim → Claim
raised (within y d) = within (plus y (whole 1)) d
raised (at_least r) = at_least (plus r (whole 1))
raised (at_most r) = at_most (plus r (whole 1))

-- the four functions: e ^ x, 2 ^ x, 10 ^ x and e ^ x - 1
pub data Function : Type 0 where
  exp exp2 exp10 expm1 : Function

-- the claim holds of the exact value of f at x
abbrev pub Exact : Function → Fraction → Claim → Type 0
Exact exp x c = OfExp x c
Exact exp2 x c = OfPower binary x c
Exact exp10 x c = OfPower decimal x c
Exact expm1 x c = OfExp x (raised c)

-- y is within d of f at x
abbrev pub Within : Fraction → Fraction → Function → Fraction → Type 0
Within y d f x = Exact f x (within y d)

-- f at x is at least r
abbrev pub AtLeast : Function → Fraction → Fraction → Type 0
AtLeast f x r = Exact f x (at_least r)

-- f at x is at most r
abbrev pub AtMost : Function → Fraction → Fraction → Type 0
AtMost f x r = Exact f x (at_most r)
