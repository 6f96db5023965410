-- The law of an arithmetic as the crate rounding has it: on numbers in its range, a multiply-add is permitted and a rounding gives a whole number within a half.
use Rattle.std.proofs.Common.{◌≡◌, ℕ, suc, ◌*◌, ◌^◌, ◌<◌, ◌≤◌, T, ℤ, pos, sym, refl, ap, ◌∙◌, subst, inl, inr, zero-lt-suc, arith}
use lib.Ieee.{Float, nan, inf, fin, Format, binary32, binary64, up, down, fits}
use lib.Ieee.Fits.{down_pos}
use lib.Ieee.Scale.{finite}
use borrow.Author.Differences.{ints}
use std.Quotient.{cls}
use Rattle.std.proofs.Math.Nat.{zero-mul}
use Rattle.std.specs.Float as Floats
use Rattle.exact.specs.Fraction.{Fraction, integer, dyadic, apart, ◌≼◌}
use Rattle.exact.proofs.Rational.{ℚ, is, ◌-q◌, ofℤ}
use Rattle.exact.proofs.Bound.{ofℕ, Bound}
use Rattle.exact.proofs.Compare.{integer_cls}
use Rattle.rounding.specs.Values.{value}
use Rattle.rounding.specs.Whole.{NearWhole}
use Rattle.rounding.specs.Ranges.{Ranged, Permitted, once, twice}
use Rattle.rounding.proofs.Fractions.{dy, frac_le_out, size_under}
use Rattle.rounding.proofs.Value.{val, val_value}
use Rattle.rounding.proofs.Distance.{within_out}
use Rattle.rounding.proofs.Range.{FmaLaw}
use Rattle.rounding.proofs.WholeNumber as WholeNumber
use Rattle.arithmetic.specs.Arithmetic.{Arithmetic, Lawful, RoundsAway, Nearest, OneOrTwo, MulAdd, within, small}
use Rattle.arithmetic.proofs.Digits.{within_zero, within_range, small_in}

-- ---- two names of one test
pub finite_in : (x : Float) → T (finite x) → T (Floats.float_is_finite x)
unfolding Floats.float_is_finite
finite_in nan t = absurd t
finite_in (inf s) t = absurd t
finite_in (fin s m e) t = tt

pub finite_out : (x : Float) → T (Floats.float_is_finite x) → T (finite x)
unfolding Floats.float_is_finite
finite_out nan t = absurd t
finite_out (inf s) t = absurd t
finite_out (fin s m e) t = tt

-- ---- multiply-adds
pub ranged_in : (f : Format) (n : ℕ) (x : Float) → Ranged f (suc n) x → T (fits f x) × T (within (suc n) x)
ranged_in f n nan r = absurd r
ranged_in f n (inf s) r = absurd r
ranged_in f n (fin s m e) r = (
  r.0,
  elim r.1 [
    | inl z ↦ within_zero (suc n) s m e (ap (λ (k : ℕ). k * up e) z ∙ zero-mul (up e))
    | inr w ↦ within_range n s m e w.0 w.1
  ],
)

permitted : {f : Format} {x y z r : Float} → OneOrTwo f x y z r → Permitted f x y z r
permitted (inl e) = once e
permitted (inr e) = twice e

multiply_add : (f : Format) (n : ℕ) (fma : Float → Float → Float → Float) → ((x y z : Float) → MulAdd f (suc n) x y z (fma x y z)) → FmaLaw f (suc n) fma
multiply_add f n fma law x y z a b c =
    let p = ranged_in f n x a in
    let q = ranged_in f n y b in
    let r = ranged_in f n z c in
    permitted (law x y z p.0 q.0 r.0 p.1 q.1 r.1)

pub fma_law : (a : Arithmetic) → Lawful a → FmaLaw binary64 400 a.fma
fma_law a v = multiply_add binary64 399 a.fma v.fma_law

pub fmaf_law : (a : Arithmetic) → Lawful a → FmaLaw binary32 60 a.fmaf
fmaf_law a v = multiply_add binary32 59 a.fmaf v.fmaf_law

-- ---- roundings to a whole number
pub small_in_range : (p : Float) → T (finite p) → Bound (val p) (ofℕ (2 ^ 21)) → T (small p)
unfolding val ofℕ ofℤ
small_in_range nan t b = absurd t
small_in_range (inf s) t b = absurd t
small_in_range (fin s m e) t b =
    let u : m * up e * 1 ≤ 2 ^ 21 * down e = frac_le_out (m * up e) (down e) (2 ^ 21) 1 (down_pos e) (zero-lt-suc 0) (size_under s (m * up e) (down e) (down_pos e) _ b) in
    small_in (fin s m e) s (m * up e) (down e) (down_pos e) (refl, refl) (less (m * up e) (down e) (down_pos e) u)
  where
    less : (a d : ℕ) → 0 < d → a * 1 ≤ 2 ^ 21 * d → a < 4194304 * d
    less a d p h = omega arith

pub in_range : (f : Format) (p r : Float) → T (fits f p) → T (finite p) → Bound (val p) (ofℕ (2 ^ 21)) → Nearest f p r → RoundsAway f p r
in_range f p r w t b law = law w (small_in_range p t b)

half_away : (q : Fraction) (z : ℤ) → NearWhole q z → apart q (integer z) ≼ dyadic (pos 1) 1
half_away q z h = omega (arith, ints, h)

pub near_whole : {f : Format} (p : Float) {r : Float} → RoundsAway f p r → WholeNumber.NearWhole f p r
near_whole p {r} h =
    let v : val r ≡ ofℤ h.z = val_value r ∙ is h.is ∙ integer_cls h.z in
    record {
      num = h.z;
      is_finite = finite_out r h.number;
      is_fit = h.fit;
      value_of = v;
      off = subst (λ (u : ℚ). Bound (val p -q u) (dy 1 1)) (sym v)
          (subst (λ (u : ℚ). Bound (val p -q u) (dy 1 1)) (integer_cls h.z)
          (subst (λ (u : ℚ). Bound (u -q cls (integer h.z)) (dy 1 1)) (sym (val_value p)) (within_out (value p) (integer h.z) (dyadic (pos 1) 1) (half_away (value p) h.z h.nearest.near))));
    }
