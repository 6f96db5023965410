-- The split of exp: every x that reaches the tables is split exactly, and its rows lie within the tables.
use Rattle.std.proofs.Common.{◌≡◌, ℕ, zero, suc, ◌+◌, ◌-◌, ◌*◌, ◌/◌, ◌^◌, ◌<◌, ◌≤◌, Bool, true, false, cond, T, ◌⊎◌, ℤ, pos, negsuc, ◌+ℤ◌, neg_ℤ, sym, refl, ap, ◌∙◌, subst, inl, inr, ⊎_elim, le_trans, mul-le-mul_right, eq-zero-or-pos, mul-le-mul_left, le_of_mul-le-mul_right, arith, lit≤, pow_pos}
use lib.Ieee.{Float, nan, inf, fin, Format, binary32, low, up, down, fits, mul, neg, of_bits, to_bits, is_nan, lt, le, eq}
use borrow.Author.Differences.{ints}
use Rattle.std.proofs.Math.Nat.{zero-mul}
use Rattle.std.specs.Float.{float_with_sign}
use Rattle.rounding.specs.Values.{signed}
use Rattle.arithmetic.specs.Arithmetic.{Arithmetic, Lawful, Nearest, RoundsAway, OneOrTwo, within}
use Rattle.arithmetic.specs.Unrounded.{Holds}
use Rattle.arithmetic.proofs.Digits.{Units, units, within_zero, within_range}
use Rattle.arithmetic.specs.Whole.{halves}
use Rattle.curves.specs.Steps.{single}
use Rattle.curves.specs.Exp.{kf, k, lo, ExpReaches}
use Rattle.curves.specs.Split.{Splits, InRows, ExpSplits}
use Rattle.curves.proofs.Reduction.{Input, Rounded, scaled, scaled_small, rounded, k_is, k_below, lo_is, left_over, splits, step}
use Rattle.curves.proofs.Sizes.{pattern_of, under, below, above, pattern_lt, pattern_is, magnitude_is}

-- an f32 by its size in smallest values: from 2 ^ -60 up, and below q / 2 ^ 17
pub record Sized (q m : ℕ) (e : ℤ) : Type 0 where
  pub X : ℕ
  pub is : m * up e * 2 ^ 149 ≡ X * down e
  pub holds : Holds binary32 X
  pub least : 2 ^ 89 ≤ X
  pub most : X < q * 2 ^ 132

-- from the limits of a pattern with no sign
pub sized : (q : ℕ) → 8388608 ≤ q → q ≤ 16777216 → (s : Bool) (m : ℕ) (e : ℤ) (u : Units binary32 m e) → 0x3280_0000 < pattern_of u.n → pattern_of u.n < 1107296256 + q → Sized q m e
sized q h1 h2 s m e u a b = record {
  X = u.n;
  is = u.is;
  holds = u.holds;
  least = le_trans (lit≤ {m = 2 ^ 89} {n = 8388608 * 2 ^ 100} tt) (above u.n 100 8388608 (lit≤ tt) (lit≤ tt) (omega arith));
  most = below u.n 132 q h1 h2 b;
}

pub input : (q b m : ℕ) (e : ℤ) → q ≤ 512 * (2 * b + 1) → b < 2 ^ 20 → Sized q m e → Input binary32 7 b m e
input q b m e h c z = record {
  X = z.X;
  is = z.is;
  holds = z.holds;
  some = let l = z.least in omega arith;
  up_to = top z.X q b z.most h;
  few = c;
  room = lit≤ tt;
}
  where
    top : (x q b : ℕ) → x < q * 2 ^ 132 → q ≤ 512 * (2 * b + 1) → 2 * (x * 2 ^ 7) < (2 * b + 1) * 2 ^ 149
    top x q b l h = omega arith

-- such an x lies in the range of fmaf's law
pub x_within : (q m : ℕ) (e : ℤ) (s : Bool) → q ≤ 16777216 → Sized q m e → T (within 60 (fin s m e))
x_within q m e s h z =
    within_range 59 s m e (le_of_mul-le-mul_right {m = down e} {n = m * up e * 2 ^ 60} {k = 2 ^ 149} (low_end (m * up e) z.X (down e) z.is z.least) (pow_pos 149))
    (le_of_mul-le-mul_right {m = m * up e} {n = 2 ^ 60 * down e} {k = 2 ^ 149} (high_end (m * up e) z.X (down e) q z.is z.most h) (pow_pos 149))
  where
    low_end : (a x d : ℕ) → a * 2 ^ 149 ≡ x * d → 2 ^ 89 ≤ x → d * 2 ^ 149 ≤ a * 2 ^ 60 * 2 ^ 149
    low_end a x d e l = let k : 2 ^ 89 * d ≤ x * d = mul-le-mul_right d l in omega arith

    high_end : (a x d q : ℕ) → a * 2 ^ 149 ≡ x * d → x < q * 2 ^ 132 → q ≤ 16777216 → a * 2 ^ 149 ≤ 2 ^ 60 * d * 2 ^ 149
    high_end a x d q e l h = let k : x * d ≤ 2 ^ 209 * d = mul-le-mul_right d (omega arith) in omega arith

-- and so does kf
pub kf_within : (f : Format) (j : ℕ) (s : Bool) (X b : ℕ) (kd : Float) (n : ℕ) → Rounded f j s X kd → halves (X * 2 ^ j) (2 ^ low f) ≤ b → b ≤ 2 ^ suc n → T (within (suc n) kd)
kf_within f j s X b kd n r l h =
    let K = halves (X * 2 ^ j) (2 ^ low f) in
    subst (λ (y : Float). T (within (suc n) y)) (sym r.is) (elim (eq-zero-or-pos K) [
      | inl z ↦ within_zero (suc n) r.sign r.m r.e (r.size ∙ ap (λ (x : ℕ). x * down r.e) z ∙ zero-mul (down r.e))
      | inr p ↦
          within_range n r.sign r.m r.e (low_end (r.m * up r.e) K (down r.e) (2 ^ suc n) r.size p (pow_pos (suc n)))
          (high_end (r.m * up r.e) K (down r.e) (2 ^ suc n) r.size (le_trans l h))
    ])
  where
    low_end : (a k d p : ℕ) → a ≡ k * d → 0 < k → 0 < p → d ≤ a * p
    low_end a k d p e q r =
        let g : 1 * d ≤ k * d = mul-le-mul_right d q in
        let h : a * 1 ≤ a * p = mul-le-mul_left a r in
        omega arith

    high_end : (a k d p : ℕ) → a ≡ k * d → k ≤ p → a ≤ p * d
    high_end a k d p e l = let g : k * d ≤ p * d = mul-le-mul_right d l in omega arith

abbrev minus_128th : Float
minus_128th = neg (single 0x3c00_0000)

step_is : minus_128th ≡ step 6
unfolding neg of_bits
step_is = refl

step_within : T (within 60 (step 6))
unfolding within float_with_sign eq le lt
step_within = tt

step_fits : T (fits binary32 (step 6))
unfolding fits
step_fits = tt

scaled_is : (s : Bool) (m : ℕ) (e : ℤ) → mul binary32 (fin s m e) (single 0x4300_0000) ≡ scaled binary32 7 s m e
unfolding of_bits
scaled_is s m e = refl

-- what a lawful arithmetic makes of a sized x
pub record Made (q b : ℕ) (a : Arithmetic) (s : Bool) (m : ℕ) (e : ℤ) (z : Sized q m e) : Type 0 where
  pub splits : Splits 7 (fin s m e) (kf a (fin s m e)) (k a (fin s m e)) (lo a (fin s m e))
  pub k_value : k a (fin s m e) ≡ signed s (halves (z.X * 2 ^ 7) (2 ^ 149))
  pub k_size : halves (z.X * 2 ^ 7) (2 ^ 149) ≤ b
  pub lo_value : lo a (fin s m e) ≡ left_over binary32 7 s z.X

pub made : (q b : ℕ) → q ≤ 512 * (2 * b + 1) → b < 2 ^ 20 → q ≤ 16777216 → (a : Arithmetic) → Lawful a → (s : Bool) (m : ℕ) (e : ℤ) → T (fits binary32 (fin s m e)) → (z : Sized q m e) → Made q b a s m e z
unfolding input
made q b h c g a w s m e f z =
    let i = input q b m e h c z in
    let x = fin s m e in
    let r : RoundsAway binary32 (scaled binary32 7 s m e) (kf a x) = scaled_small binary32 7 b s m e i (kf a x) (subst (λ (y : Float). Nearest binary32 y (kf a x)) (scaled_is s m e) (w.roundf_law (mul binary32 x (single 0x4300_0000)))) in
    let t = rounded binary32 7 b s m e i (kf a x) r in
    let size = k_below binary32 7 b m e i in
    let one : OneOrTwo binary32 (kf a x) (step 6) x (lo a x) =
    subst (λ (y : Float). OneOrTwo binary32 (kf a x) y x (lo a x)) step_is
    (w.fmaf_law (kf a x) minus_128th x r.fit (subst (λ (y : Float). T (fits binary32 y)) (sym step_is) step_fits) f
    (kf_within binary32 7 s z.X b (kf a x) 59 t size (le_trans (let l : b ≤ 2 ^ 20 = omega arith in l) (lit≤ tt))) (subst (λ (y : Float). T (within 60 y)) (sym step_is) step_within) (x_within q m e s g z)) in
    let l = lo_is binary32 6 b s m e i (kf a x) (lo a x) t one in
    record { splits = splits binary32 7 b s m e i (kf a x) (lo a x) r l; k_value = k_is binary32 7 b s m e i (kf a x) t; k_size = size; lo_value = l }

-- ---- exp
row_top : (n : ℕ) → n ≤ 11392 → (n + 13312) / 128 ≤ 193
row_top n h = omega arith

pub rows_pos : (n : ℕ) → n ≤ 11392 → InRows (pos n)
rows_pos n h = record { moved = refl; whole_row = row_top n h; rest_row = omega arith }

pub rows_neg : (n : ℕ) → n ≤ 13308 → InRows (neg_ℤ (pos n))
rows_neg zero h = record { moved = refl; whole_row = lit≤ tt; rest_row = lit≤ tt }
rows_neg (suc n) h = record { moved = moved n h; whole_row = top n h; rest_row = omega arith }
  where
    moved : (n : ℕ) → suc n ≤ 13308 → pos (13311 - n) ≡ negsuc n +ℤ pos 13312
    moved n h = omega (arith, ints)

    top : (n : ℕ) → suc n ≤ 13308 → (13311 - n) / 128 ≤ 193
    top n h = omega arith

-- the limits of exp by the sign of x
abbrev pub top_of : Bool → ℕ
top_of false = 11665408
top_of true = 13627829

abbrev pub most_k : Bool → ℕ
most_k false = 11392
most_k true = 13308

exp_sized : (s : Bool) (m : ℕ) (e : ℤ) → T (fits binary32 (fin s m e)) → ExpReaches (fin s m e) → Sized (top_of s) m e
exp_sized s m e f t =
    let u = units binary32 s m e f in
    let p = pattern_is s m e u.n u.is in
    let q = magnitude_is s m e u.n u.is u.holds in
    let l = pattern_lt u.n u.holds in
    let past : 0x3280_0000 < pattern_of u.n = subst (λ (n : ℕ). 0x3280_0000 < n) q t.past_one in
    go s u past (under s (pattern_of u.n) 0x42b2_0000 0xc2cf_f1b5 l (lit≤ tt) (subst (λ (n : ℕ). (n < 0x42b2_0000) ⊎ ((0x8000_0000 ≤ n) × (n < 0xc2cf_f1b5))) p t.limits))
  where
    go : (s : Bool) (u : Units binary32 m e) → 0x3280_0000 < pattern_of u.n → pattern_of u.n < cond s 0x42cf_f1b5 0x42b2_0000 → Sized (top_of s) m e
    go false u a b = sized 11665408 (lit≤ tt) (lit≤ tt) false m e u a b
    go true u a b = sized 13627829 (lit≤ tt) (lit≤ tt) true m e u a b

exp_made : (a : Arithmetic) → Lawful a → (s : Bool) (m : ℕ) (e : ℤ) → T (fits binary32 (fin s m e)) → (z : Sized (top_of s) m e) → Made (top_of s) (most_k s) a s m e z
exp_made a w false m e f z = made 11665408 11392 (lit≤ tt) (lit≤ tt) (lit≤ tt) a w false m e f z
exp_made a w true m e f z = made 13627829 13308 (lit≤ tt) (lit≤ tt) (lit≤ tt) a w true m e f z

exp_rows : (s : Bool) (n : ℕ) → n ≤ most_k s → InRows (signed s n)
exp_rows false n h = rows_pos n h
exp_rows true n h = rows_neg n h

pub exp_splits_lem : ExpSplits
unfolding is_nan to_bits
exp_splits_lem a w nan f t = absurd t.number
exp_splits_lem a w (inf false) f t = ⊎_elim (λ l. absurd (omega (arith, l))) (λ l. absurd (omega (arith, l.0))) t.limits
exp_splits_lem a w (inf true) f t = ⊎_elim (λ l. absurd (omega (arith, l))) (λ l. absurd (omega (arith, l.1))) t.limits
exp_splits_lem a w (fin s m e) f t =
    let z = exp_sized s m e f t in
    let r = exp_made a w s m e f z in (
      r.splits,
      subst InRows (sym r.k_value) (exp_rows s _ r.k_size),
      λ b v. let q = exp_made b v s m e f z in (r.k_value ∙ sym q.k_value, r.lo_value ∙ sym q.lo_value),
    )
