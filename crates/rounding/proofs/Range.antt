-- Into the range of a law: zero, or of magnitude 2 ^ -k to 2 ^ k.
use Rattle.std.proofs.Common.{◌≡◌, ℕ, suc, ◌+◌, ◌-◌, ◌*◌, ◌^◌, ◌<◌, ◌≤◌, Bool, cond, ◌&&◌, T, ltb, ℤ, sym, refl, subst, inl, inr, zero-lt-suc, eq-zero-or-pos, mul-pos, arith}
use Rattle.std.specs.Float.{Float, nan, inf, fin, Format, float_mul_add}
use Rattle.std.specs.Float.Ieee.{emax, up, down, unlike, round, sum, mul, fits}
use Rattle.std.specs.Float.Ieee.Fits.{up_pos, down_pos, round-fits, cond-fits, add-fits}
use Rattle.std.specs.Float.Ieee.Scale.{finite}
use Rattle.std.proofs.Math.Bool.{beq}
use Rattle.exact.proofs.Rational.{ℚ, ◌*q◌, ofℤ}
use Rattle.exact.proofs.Order.{◌≤q◌}
use Rattle.exact.proofs.Bound.{bound_more, ofℕ, Bound}
use Rattle.rounding.specs.Ranges.{Ranged, Permitted, once, twice}
use Rattle.exact.proofs.Compare.{dy}
use Rattle.rounding.proofs.Fractions.{frac_le_out, size_under}
use Rattle.rounding.proofs.Value.{val, mul_rounds}
use Rattle.rounding.proofs.Error.{round_err}
use Rattle.rounding.proofs.Multiple.{away_above, Away, away_at}

-- ---- what fits
sum_fits : (f : Format) (s : Bool) (a : ℕ) (t : Bool) (b c : ℕ) → T (fits f (sum f s a t b c))
unfolding sum
sum_fits f s a t b c =
    cond-fits f (beq s t) (round f s (a + b) c) (cond (ltb a b) (round f t (b - a) c) (round f (s && ltb b a) (a - b) c)) (round-fits f s (a + b) c)
    (cond-fits f (ltb a b) (round f t (b - a) c) (round f (s && ltb b a) (a - b) c) (round-fits f t (b - a) c) (round-fits f (s && ltb b a) (a - b) c))

pub fused_fits : (f : Format) (x y z : Float) → T (finite x) → T (finite y) → T (finite z) → T (fits f (float_mul_add f x y z))
unfolding float_mul_add
fused_fits f (fin s m e) nan z h k l = absurd k
fused_fits f (fin s m e) (inf t) z h k l = absurd k
fused_fits f (fin s m e) (fin t n d) nan h k l = absurd l
fused_fits f (fin s m e) (fin t n d) (inf u) h k l = absurd l
fused_fits f (fin s m e) (fin t n d) (fin u i g) h k l = sum_fits f (unlike s t) (m * up e * (n * up d) * down g) u (i * up g * (down e * down d)) (down e * down d * down g)
fused_fits _ _ _ _ h _ _ = absurd h

pub permitted_fits : (f : Format) (x y z r : Float) → T (finite x) → T (finite y) → T (finite z) → Permitted f x y z r → T (fits f r)
permitted_fits f x y z r h k l (once e) = subst (λ (u : Float). T (fits f u)) (sym e) (fused_fits f x y z h k l)
permitted_fits f x y z r h k l (twice e) = subst (λ (u : Float). T (fits f u)) (sym e) (add-fits f (mul f x y) z)

-- ---- into the range
up_zero : (m : ℕ) (e : ℤ) → m * up e ≡ 0 → m ≡ 0
up_zero m e z = elim (eq-zero-or-pos m) [
  | inl h ↦ h
  | inr p ↦ let u : 0 < m * up e = mul-pos p (up_pos e) in absurd (omega arith)
]

pub ranged : (f : Format) (k : ℕ) (x : Float) → T (fits f x) → T (finite x) → Away k (val x) → Bound (val x) (ofℕ (2 ^ k)) → Ranged f k x
unfolding val ofℕ ofℤ
ranged f k (fin s m e) h t w b =
    let u : m * up e * 1 ≤ 2 ^ k * down e = frac_le_out (m * up e) (down e) (2 ^ k) 1 (down_pos e) (zero-lt-suc 0) (size_under s (m * up e) (down e) (down_pos e) _ b) in (
      h,
      elim (away_at w s (m * up e) (down e) (down_pos e) refl) [
        | inl z ↦ inl (up_zero m e z)
        | inr l ↦ inr (l, (omega arith))
      ],
    )
ranged _ _ _ _ t _ _ = absurd t

-- what is at least 2 ^ -k
pub ranged_above : (f : Format) (k : ℕ) (x : Float) (B : ℚ) → T (fits f x) → T (finite x) → dy 1 k ≤q val x → Bound (val x) B → B ≤q ofℕ (2 ^ k) → Ranged f k x
ranged_above f k x B h t l b m = ranged f k x h t (away_above k x t l) (bound_more b m)

pub ranged_finite : (f : Format) (k : ℕ) (x : Float) → Ranged f k x → T (finite x)
ranged_finite f k (fin s m e) h = tt
ranged_finite _ _ _ h = absurd h

-- a multiply-add that is lawful on its range
abbrev pub FmaLaw : Format → ℕ → (Float → Float → Float → Float) → Type 0
FmaLaw f k fma = (x y z : Float) → Ranged f k x → Ranged f k y → Ranged f k z → Permitted f x y z (fma x y z)

pub mul_finite : (f : Format) (x y : Float) (P : ℚ) (t : ℕ) → T (finite x) → T (finite y) → Bound (val x *q val y) P → P ≤q ofℕ (2 ^ t) → suc t ≤ emax f → T (finite (mul f x y))
mul_finite f x y P t fx fy b p h = (round_err f (mul f x y) (val x *q val y) P t (mul_rounds f x y fx fy) b p h).is_finite
