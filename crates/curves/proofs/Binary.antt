-- The split of exp2: every x that reaches the table is split exactly, in f64.
use Rattle.std.proofs.Common.{◌≡◌, ℕ, zero, suc, ◌+◌, ◌*◌, ◌/◌, ◌^◌, ◌<◌, ◌≤◌, Bool, true, false, cond, T, ◌⊎◌, ℤ, sym, refl, ap, ◌∙◌, subst, inl, inr, ⊎_elim, le_trans, mul-le-mul_right, mul_assoc, mul-le-mul_left, mul-lt-mul_of_pos_right, le_of_mul-le-mul_right, arith, lit≤, pow_pos, pow_mono, pow-add}
use native.Mathlib.Nat.{eq_of_mul-eq-mul_right}
use lib.Ieee.{Float, nan, inf, fin, binary32, binary64, up, down, fits, mul, neg, of_bits, to_bits, is_nan, lt, le, eq}
use lib.Ieee.Fits.{down_pos, fits_widens}
use borrow.Author.Differences.{ints}
use Rattle.std.specs.Float.{float_with_sign}
use Rattle.rounding.specs.Values.{signed}
use Rattle.arithmetic.specs.Arithmetic.{Arithmetic, Lawful, Nearest, RoundsAway, OneOrTwo, within}
use Rattle.arithmetic.proofs.Digits.{units, within_range}
use Rattle.arithmetic.specs.Whole.{halves}
use Rattle.curves.specs.Steps.{double}
use Rattle.curves.specs.Exp2.{kd, k, lo, Exp2Reaches}
use Rattle.curves.specs.Split.{Splits, InPowers, Exp2Splits}
use Rattle.curves.proofs.Reduction.{Input, scaled, scaled_small, rounded, k_is, k_below, lo_is_turned, left_over, splits, step}
use Rattle.curves.proofs.Sizes.{pattern_of, under, below, above, pattern_lt, pattern_is, magnitude_is}
use Rattle.curves.proofs.Natural.{kf_within}

-- an f32 by its size in smallest values: above 1 / 32, and 64 times it below b + 1/2
pub record Wide (b m : ℕ) (e : ℤ) : Type 0 where
  pub X : ℕ
  pub is : m * up e * 2 ^ 149 ≡ X * down e
  pub least : 2 ^ 144 ≤ X
  pub most : 128 * X < (2 * b + 1) * 2 ^ 149

-- the same number in the smallest values of f64
widened : (m : ℕ) (e : ℤ) (X n : ℕ) → m * up e * 2 ^ 149 ≡ X * down e → m * up e * 2 ^ 1074 ≡ n * down e → n ≡ X * 2 ^ 925
widened m e X n a b =
    eq_of_mul-eq-mul_right (down e) (down_pos e) n (X * 2 ^ 925)
    (sym b ∙ ap (λ (z : ℕ). m * up e * z) (pow-add 2 149 925) ∙ sym (mul_assoc (m * up e) (2 ^ 149) (2 ^ 925)) ∙ ap (λ (z : ℕ). z * 2 ^ 925) a ∙ turn X (down e) (2 ^ 925))
  where
    turn : (a b c : ℕ) → a * b * c ≡ a * c * b
    turn a b c = omega arith

input : (b : ℕ) (s : Bool) (m : ℕ) (e : ℤ) → T (fits binary32 (fin s m e)) → b < 2 ^ 20 → Wide b m e → Input binary64 6 b m e
input b s m e f c w =
    let u = units binary64 s m e (fits_widens (fin s m e) f) in
    let x = widened m e w.X u.n w.is u.is in
    record {
      X = u.n;
      is = u.is;
      holds = u.holds;
      some = subst (λ (z : ℕ). 0 < z) (sym x) (some w.X (2 ^ 925) w.least (pow_pos 925));
      up_to = subst (λ (z : ℕ). 2 * (z * 2 ^ 6) < (2 * b + 1) * 2 ^ 1074) (sym x) (top w.X (2 ^ 149) (2 ^ 925) (2 ^ 1074) (pow-add 2 149 925) w.most (pow_pos 925));
      few = c;
      room = lit≤ tt;
    }
  where
    some : (x p : ℕ) → 2 ^ 144 ≤ x → 0 < p → 0 < x * p
    some x p h q = let k : 1 * p ≤ x * p = mul-le-mul_right p (omega arith) in omega arith

    top : (x u v l : ℕ) → l ≡ u * v → 128 * x < (2 * b + 1) * u → 0 < v → 2 * (x * v * 2 ^ 6) < (2 * b + 1) * l
    top x u v l e g p =
        let k : 128 * x * v < (2 * b + 1) * u * v = mul-lt-mul_of_pos_right g p in
        let n : (2 * b + 1) * l ≡ (2 * b + 1) * (u * v) = ap (λ (z : ℕ). (2 * b + 1) * z) e in
        omega arith

x_within : (b : ℕ) (s : Bool) (m : ℕ) (e : ℤ) → b < 2 ^ 20 → Wide b m e → T (within 400 (fin s m e))
x_within b s m e h w =
    within_range 399 s m e
    (le_trans (le_of_mul-le-mul_right {m = down e} {n = m * up e * 2 ^ 5} {k = 2 ^ 149} (low_end (m * up e) w.X (down e) w.is w.least) (pow_pos 149)) (mul-le-mul_left (m * up e) (pow_mono {i = 5} {j = 400} (lit≤ tt))))
    (le_trans (le_of_mul-le-mul_right {m = m * up e} {n = 2 ^ 21 * down e} {k = 2 ^ 149} (high_end (m * up e) w.X (down e) w.is w.most h) (pow_pos 149)) (mul-le-mul_right (down e) (pow_mono {i = 21} {j = 400} (lit≤ tt))))
  where
    low_end : (a x d : ℕ) → a * 2 ^ 149 ≡ x * d → 2 ^ 144 ≤ x → d * 2 ^ 149 ≤ a * 2 ^ 5 * 2 ^ 149
    low_end a x d e l = let k : 2 ^ 144 * d ≤ x * d = mul-le-mul_right d l in omega arith

    high_end : (a x d : ℕ) → a * 2 ^ 149 ≡ x * d → 128 * x < (2 * b + 1) * 2 ^ 149 → b < 2 ^ 20 → a * 2 ^ 149 ≤ 2 ^ 21 * d * 2 ^ 149
    high_end a x d e l h = let k : x * d ≤ 2 ^ 170 * d = mul-le-mul_right d (omega arith) in omega arith

abbrev minus_64th : Float
minus_64th = neg (double 0x3f90_0000_0000_0000)

step_is : minus_64th ≡ step 5
unfolding neg of_bits
step_is = refl

step_within : T (within 400 (step 5))
unfolding within float_with_sign eq le lt
step_within = tt

step_fits : T (fits binary64 (step 5))
unfolding fits
step_fits = tt

scaled_is : (s : Bool) (m : ℕ) (e : ℤ) → mul binary64 (fin s m e) (double 0x4050_0000_0000_0000) ≡ scaled binary64 6 s m e
unfolding of_bits
scaled_is s m e = refl

-- what a lawful arithmetic makes of such an x; X is its size in the smallest values of f64
record Made (b : ℕ) (a : Arithmetic) (s : Bool) (m : ℕ) (e : ℤ) (X : ℕ) : Type 0 where
  splits : Splits 6 (fin s m e) (kd a (fin s m e)) (k a (fin s m e)) (lo a (fin s m e))
  k_value : k a (fin s m e) ≡ signed s (halves (X * 2 ^ 6) (2 ^ 1074))
  k_size : halves (X * 2 ^ 6) (2 ^ 1074) ≤ b
  lo_value : lo a (fin s m e) ≡ left_over binary64 6 s X

made : (b : ℕ) → b < 2 ^ 20 → (a : Arithmetic) → Lawful a → (s : Bool) (m : ℕ) (e : ℤ) (f : T (fits binary32 (fin s m e))) (w : Wide b m e)
    → Made b a s m e (units binary64 s m e (fits_widens (fin s m e) f)).n
unfolding input
made b c a v s m e f w =
    let i = input b s m e f c w in
    let x = fin s m e in
    let r : RoundsAway binary64 (scaled binary64 6 s m e) (kd a x) = scaled_small binary64 6 b s m e i (kd a x) (subst (λ (y : Float). Nearest binary64 y (kd a x)) (scaled_is s m e) (v.round_law (mul binary64 x (double 0x4050_0000_0000_0000)))) in
    let d = rounded binary64 6 b s m e i (kd a x) r in
    let size = k_below binary64 6 b m e i in
    let one : OneOrTwo binary64 (step 5) (kd a x) x (lo a x) =
    subst (λ (y : Float). OneOrTwo binary64 y (kd a x) x (lo a x)) step_is
    (v.fma_law minus_64th (kd a x) x (subst (λ (y : Float). T (fits binary64 y)) (sym step_is) step_fits) r.fit (fits_widens x f)
    (subst (λ (y : Float). T (within 400 y)) (sym step_is) step_within)
    (kf_within binary64 6 s i.X b (kd a x) 399 d size (le_trans (let l : b ≤ 2 ^ 20 = omega arith in l) (lit≤ tt))) (x_within b s m e c w)) in
    let l = lo_is_turned binary64 5 b s m e i (kd a x) (lo a x) d one in
    record { splits = splits binary64 6 b s m e i (kd a x) (lo a x) r l; k_value = k_is binary64 6 b s m e i (kd a x) d; k_size = size; lo_value = l }

-- the limits of exp2 by the sign of x: below 128, and from -149 on
abbrev most_k : Bool → ℕ
most_k false = 8192
most_k true = 9536

exp2_wide_lem : (s : Bool) (m : ℕ) (e : ℤ) → T (fits binary32 (fin s m e)) → Exp2Reaches (fin s m e) → Wide (most_k s) m e
exp2_wide_lem s m e f t =
    let u = units binary32 s m e f in
    let p = pattern_is s m e u.n u.is in
    let q = magnitude_is s m e u.n u.is u.holds in
    let l = pattern_lt u.n u.holds in
    let past : 0x3d00_0000 < pattern_of u.n = subst (λ (n : ℕ). 0x3d00_0000 < n) q t.past_small in
    record {
      X = u.n;
      is = u.is;
      least = le_trans (lit≤ {m = 2 ^ 144} {n = 8388608 * 2 ^ 121} tt) (above u.n 121 8388608 (lit≤ tt) (lit≤ tt) (omega arith));
      most = limit s u.n (under s (pattern_of u.n) 0x4300_0000 0xc315_0001 l (lit≤ tt) (⊎_elim inl (λ h. inr (h.0, omega (arith, h.1))) (subst (λ (n : ℕ). (n < 0x4300_0000) ⊎ ((0x8000_0000 ≤ n) × (n ≤ 0xc315_0000))) p t.limits)));
    }
  where
    limit : (s : Bool) (n : ℕ) → pattern_of n < cond s 0x4315_0001 0x4300_0000 → 128 * n < (2 * most_k s + 1) * 2 ^ 149
    limit false n l = let b = below n 133 8388608 (lit≤ tt) (lit≤ tt) l in omega arith
    limit true n l = let b = below n 133 9764865 (lit≤ tt) (lit≤ tt) l in omega arith

exp2_made : (a : Arithmetic) → Lawful a → (s : Bool) (m : ℕ) (e : ℤ) (f : T (fits binary32 (fin s m e))) (w : Wide (most_k s) m e) → Made (most_k s) a s m e (units binary64 s m e (fits_widens (fin s m e) f)).n
exp2_made a v false m e f w = made 8192 (lit≤ tt) a v false m e f w
exp2_made a v true m e f w = made 9536 (lit≤ tt) a v true m e f w

powers_in : (s : Bool) (n : ℕ) → n ≤ most_k s → InPowers 64 149 128 (signed s n)
powers_in false n h = record { row = omega arith; low = omega (arith, ints); high = (let q : n / 64 ≤ 128 = omega arith in omega (arith, ints, q)) }
powers_in true zero h = record { row = lit≤ tt; low = omega (arith, ints); high = omega (arith, ints) }
powers_in true (suc n) h = record { row = omega arith; low = (let q : n / 64 ≤ 148 = omega arith in omega (arith, ints, q)); high = omega (arith, ints) }

pub exp2_splits_lem : Exp2Splits
unfolding is_nan to_bits
exp2_splits_lem a v nan f t = absurd t.number
exp2_splits_lem a v (inf false) f t = ⊎_elim (λ l. absurd (omega (arith, l))) (λ l. absurd (omega (arith, l.0))) t.limits
exp2_splits_lem a v (inf true) f t = ⊎_elim (λ l. absurd (omega (arith, l))) (λ l. absurd (omega (arith, l.1))) t.limits
exp2_splits_lem a v (fin s m e) f t =
    let w = exp2_wide_lem s m e f t in
    let r = exp2_made a v s m e f w in (
      r.splits,
      subst (InPowers 64 149 128) (sym r.k_value) (powers_in s _ r.k_size),
      λ b u. let q = exp2_made b u s m e f w in (r.k_value ∙ sym q.k_value, r.lo_value ∙ sym q.lo_value),
    )
