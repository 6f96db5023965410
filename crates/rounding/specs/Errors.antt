-- What follows for a number q and its rounded value x: how far x is off, where it overflows, and how two results compare.
use Rattle.std.specs.Prelude.{◌≡◌, ℕ, suc, ◌-◌, ◌^◌, ◌<◌, ◌≤◌, false, cond, T, ◌⊎◌, ℤ, pos, ◌*ℤ◌, int_le, Float}
use Rattle.std.proofs.Common.{pow_pos}
use Rattle.std.specs.Float.Ieee.{prec, emax, low}
use Rattle.std.specs.Float.Ieee.Scale.{finite}
use Rattle.std.specs.Float.{round_to_format, Format, inf}
use Rattle.exact.specs.Fraction.{Fraction, Same, part, whole, plus, times, absolute, apart, ◌≼◌}
use Rattle.rounding.specs.Values.{value, sign, infinite, is_zero, ◌≺◌}
use Rattle.rounding.specs.Ranges.{Permitted}
use Rattle.rounding.specs.Units.{unit}
use Rattle.rounding.specs.Nearest.{Held, Neighbouring, limit, Nearest}

-- n / 2 ^ k, a half of a, and the midpoint of two values
abbrev pub dyadic : ℕ → ℕ → Fraction
dyadic n k = record { num = pos n; den = 2 ^ k; ok = pow_pos k }

abbrev pub half : Fraction → Fraction
half a = times (part 1) a

abbrev pub middle : Float → Float → Fraction
middle x y = half (plus (value x) (value y))

-- ---- one value is nearest, but for the sign of a zero
abbrev pub NearestUnique : Type 0
NearestUnique = (f : Format) (q : Fraction) (x y : Float) → Nearest f q x → Nearest f q y → sign x ≡ sign y → x ≡ y

-- a number that the format holds is not changed
abbrev pub HeldUnchanged : Type 0
HeldUnchanged = (f : Format) (q : Fraction) (x w : Float) → Nearest f q x → Held f w → Same q (value w) → Same (value x) q

-- ---- overflow: infinite exactly from the limit on
abbrev pub InfiniteExactly : Type 0
InfiniteExactly = (f : Format) (q : Fraction) (x : Float) → Nearest f q x → (T (infinite x) → limit f ≼ absolute q) × (limit f ≼ absolute q → T (infinite x))

-- so for a v within e of q: by e above the limit plus infinity, by e below it in size finite
abbrev pub InfiniteNear : Type 0
InfiniteNear = (f : Format) (q v e : Fraction) (x : Float) → Nearest f q x → apart q v ≼ e → (plus (limit f) e ≼ v → x ≡ inf false) × (plus (absolute v) e ≺ limit f → T (finite x))

-- ---- a result is off by half its unit at most, and in the normal range by 2 ^ -prec of the number
abbrev pub HalfUnit : Type 0
HalfUnit = (f : Format) (q : Fraction) (x : Float) → Nearest f q x → T (finite x) → apart (value x) q ≼ half (unit f x)

abbrev pub RelativeError : Type 0
RelativeError = (f : Format) (q : Fraction) (x : Float) → Nearest f q x → T (finite x) → dyadic 1 (emax f - 1) ≼ absolute q → apart (value x) q ≼ times (absolute q) (dyadic 1 (prec f))

-- with q within e of v: half a unit and e
abbrev pub NearFigure : Type 0
NearFigure = (f : Format) (q v e : Fraction) (x : Float) → Nearest f q x → T (finite x) → apart q v ≼ e → apart (value x) v ≼ plus (half (unit f x)) e

-- ---- a multiply-add, rounded once or twice: the error of a product of size P at most, and of a sum of size M at most
abbrev pub slip : Format → Fraction → Fraction
slip f P = plus (times P (dyadic 1 (prec f))) (dyadic 1 (suc (low f)))

abbrev pub MultiplyAddError : Type 0
MultiplyAddError = (f : Format) (x y z r : Float) (P M : Fraction) (t : ℕ) → T (finite x) → T (finite y) → T (finite z) → Permitted f x y z r
    → absolute (times (value x) (value y)) ≼ P → absolute (plus (times (value x) (value y)) (value z)) ≼ M → P ≼ whole (2 ^ t) → plus M (slip f P) ≼ whole (2 ^ t) → t < emax f
    → T (finite r) × (apart (value r) (plus (times (value x) (value y)) (value z)) ≼ plus (slip f P) (slip f (plus M (slip f P))))

-- where the format holds the product and the sum, both ways are exact
abbrev pub ExactMultiplyAdd : Type 0
ExactMultiplyAdd = (f : Format) (x y z r w v : Float) → T (finite x) → T (finite y) → T (finite z) → Permitted f x y z r → Held f w → Same (times (value x) (value y)) (value w)
    → Held f v → Same (plus (times (value x) (value y)) (value z)) (value v) → T (finite r) × Same (value r) (plus (times (value x) (value y)) (value z))

-- ---- multiples of 2 ^ -k, and what is 0 or at least 2 ^ -k in size, stay so
abbrev pub Multiple : ℕ → Fraction → Type 0
Multiple k q = (z : ℤ) × Same q record { num = z; den = 2 ^ k; ok = pow_pos k }

abbrev pub Away : ℕ → Fraction → Type 0
Away k q = Same q (whole 0) ⊎ (dyadic 1 k ≼ absolute q)

abbrev pub MultiplesStay : Type 0
MultiplesStay = (f : Format) (q : Fraction) (x : Float) (k : ℕ) → k ≤ low f → Nearest f q x → T (finite x) → (Multiple k q → Multiple k (value x)) × (Away k q → Away k (value x))

-- a multiple is 0 or at least 2 ^ -k in size
abbrev pub MultiplesAway : Type 0
MultiplesAway = (q : Fraction) (k : ℕ) → Multiple k q → Away k q

-- ---- two results of numbers that are both within e of v: equal, or two zeros, or neighbouring with v within e of their midpoint
pub data Pair (f : Format) (v e : Fraction) (x y : Float) : Type 0 where
  equal : x ≡ y → Pair f v e x y
  zeros : T (is_zero x) → T (is_zero y) → Pair f v e x y
  beside : Neighbouring f x y → apart v (middle x y) ≼ e → Pair f v e x y

-- where twice e is less than a unit of each
abbrev pub TwoFigures : Type 0
TwoFigures = (f : Format) (q p v e : Fraction) (x y : Float) → Nearest f q x → Nearest f p y → T (finite x) → T (finite y) → apart q v ≼ e → apart p v ≼ e
    → plus e e ≺ unit f x → plus e e ≺ unit f y → Pair f v e x y

-- ---- z and w, floats within k of their own sizes of v, rounded to figures

-- the figure that is nearer to zero
abbrev pub nearer_zero : Float → Float → Float
nearer_zero x y = cond (int_le ((absolute (value x)).num *ℤ pos (absolute (value y)).den) ((absolute (value y)).num *ℤ pos (absolute (value x)).den)) x y

-- then they agree to d units of that figure, where k is small: 2 k (1 + k) (2 ^ prec + 1/2) is at most d, and d is less than a half
abbrev pub FiguresAgree : Type 0
FiguresAgree = (f : Format) (z w : Float) (v k d : Fraction) → T (finite z) → T (finite w) → T (finite (round_to_format f z)) → T (finite (round_to_format f w))
    → apart (value z) v ≼ times k (absolute (value z)) → apart (value w) v ≼ times k (absolute (value w))
    → whole 0 ≼ k → k ≼ part 1 → times (times (times (whole 2) k) (plus (whole 1) k)) (plus (whole (2 ^ prec f)) (part 1)) ≼ d → plus d d ≺ whole 1
    → Pair f v (times d (unit f (nearer_zero (round_to_format f z) (round_to_format f w)))) (round_to_format f z) (round_to_format f w)
