-- What is proved of the definitions: laws that a wrong definition would break, and the theorems on sums that the rest is built on.
use Rattle.std.specs.Prelude.{ℕ, suc, ◌-◌, ◌≤◌, ℤ, pos, negsuc, nat_abs}
use Rattle.exact.specs.Fraction.{Fraction, integer, whole, part, plus, times, opposite, absolute, difference, apart, ◌≼◌}
use Rattle.exact.specs.Exponential.{series, rest, Far}
use Rattle.exact.specs.Logarithm.{power, Base, binary, decimal, radix, lowest, width}
use Rattle.exact.specs.Exact.{Function, exp, exp2, exp10, expm1, Within, AtLeast, AtMost}

-- ---- laws of the exact value
-- two fractions within d and d' of one value are within d + d' of each other
abbrev pub Agree : Type 0
Agree = (f : Function) (x y d y' d' : Fraction) → Within y d f x → Within y' d' f x → apart y y' ≼ plus d d'

-- if a value is at least r and at most s, then r is at most s
abbrev pub Ordered : Type 0
Ordered = (f : Function) (x r s : Fraction) → AtLeast f x r → AtMost f x s → r ≼ s

-- what is within d of y is at least y - d and at most y + d
abbrev pub Sides : Type 0
Sides = (f : Function) (x y d : Fraction) → Within y d f x → AtLeast f x (difference y d) × AtMost f x (plus y d)

-- the value at 0
abbrev pub at_zero : Function → ℕ
at_zero exp = 1
at_zero exp2 = 1
at_zero exp10 = 1
at_zero expm1 = 0

-- e ^ 0, 2 ^ 0 and 10 ^ 0 are 1, and e ^ 0 - 1 is 0
abbrev pub Starts : Type 0
Starts = (f : Function) → Within (whole (at_zero f)) (whole 0) f (whole 0)

-- the power of a base
abbrev pub of_base : Base → Function
of_base binary = exp2
of_base decimal = exp10

-- for x from 0 up, e ^ x is at least 1 + x, e ^ x - 1 at least x, and b ^ x at least 1 + x l, where l is the lower end of a bracket of ln b
abbrev pub Tangent : Type 0
Tangent = (x : Fraction) → whole 0 ≼ x → AtLeast exp x (plus (whole 1) x) × AtLeast expm1 x x × ((b : Base) (m : ℕ) → AtLeast (of_base b) x (plus (whole 1) (times x (lowest b m))))

-- e ^ (a + b) is e ^ a times e ^ b: if y is within d of e ^ a and z within e of e ^ b, then y z is within |y| e + |z| d + d e of e ^ (a + b)
abbrev pub Multiplies : Type 0
Multiplies = (a b y d z e : Fraction) → Within y d exp a → Within z e exp b → Within (times y z) (plus (plus (times (absolute y) e) (times (absolute z) d)) (times d e)) exp (plus a b)

-- ---- the sums
-- from n of at least 2 |t| on, no sum is further than R_n(t) from S_n(t)
abbrev pub Tail : Type 0
Tail = (t : Fraction) (n k : ℕ) → Far t n → n ≤ k → apart (series t k) (series t n) ≼ rest t n

-- S_n(a) S_n(b) is S_n(a + b), up to R_n(|a| + |b|)
abbrev pub Product : Type 0
Product = (a b : Fraction) (n : ℕ) → Far (plus (absolute a) (absolute b)) n → apart (times (series a n) (series b n)) (series (plus a b) n) ≼ rest (plus (absolute a) (absolute b)) n

-- R_n(t) gets below every fraction above 0
abbrev pub Vanishes : Type 0
Vanishes = (t e : Fraction) → (e ≼ whole 0 → ⊥) → (k : ℕ) × ((n : ℕ) → k ≤ n → rest t n ≼ e)

-- from 0 up, the sums grow with the argument
abbrev pub Grows : Type 0
Grows = (a b : Fraction) (n : ℕ) → whole 0 ≼ a → a ≼ b → series a n ≼ series b n

-- for t from 0 up and c at most S_n(t), S_n(-t) is at most 1 / c in size, up to the rest
abbrev pub Inverse : Type 0
Inverse = (t c : Fraction) (n : ℕ) → whole 0 ≼ t → whole 0 ≼ c → c ≼ series t n → Far (plus t t) n → absolute (times (series (opposite t) n) c) ≼ plus (whole 1) (rest (plus t t) n)

-- one sum that is within d of y with room for its rest decides: y is within d of e ^ t
abbrev pub Decides : Type 0
Decides = (y d t : Fraction) (n : ℕ) → Far t n → plus (apart y (series t n)) (rest t n) ≼ d → Within y d exp t

-- ---- the logarithms
-- the bracket of m holds those of every later k
abbrev pub Nested : Type 0
Nested = (b : Base) (m k : ℕ) → m ≤ k → (lowest b m ≼ lowest b k) × (plus (lowest b k) (width b k) ≼ plus (lowest b m) (width b m))

-- b ^ h for a whole number h
abbrev pub power_of_whole : Base → ℤ → Fraction
power_of_whole b (pos k) = power (whole (radix b)) k
power_of_whole b (negsuc k) = power (part (radix b - 1)) (suc k)

-- how far h may go, either way, in the law below
abbrev pub furthest : Base → ℕ
furthest binary = 200
furthest decimal = 60

-- the definition of 2 ^ x and 10 ^ x by brackets gives the whole powers, as near as 2 ^ -70 of themselves
abbrev pub Powers : Type 0
Powers = (b : Base) (h : ℤ) → nat_abs h ≤ furthest b → Within (power_of_whole b h) (times (power (part 1) 70) (power_of_whole b h)) (of_base b) (integer h)
