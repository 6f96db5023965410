-- Fractions ±a / c as rationals: products, sums, order and distance, each as a fact about whole numbers, multiplied out.
use Rattle.std.proofs.Common.{◌≡◌, ℕ, suc, ◌+◌, ◌-◌, ◌*◌, ◌<◌, ◌≤◌, Bool, true, false, T, [], ◌∷◌, ℤ, pos, negsuc, ◌+ℤ◌, ◌*ℤ◌, neg_ℤ, sym, refl, ap, ◌∙◌, subst, mul-pos, arith, le→leb, leb→le}
use Rattle.std.specs.Int.Signed.{le_z}
use Rattle.std.specs.Float.Ieee.{unlike}
use Rattle.std.proofs.lemmas.Int.{ints}
use std.Quotient.{cls}
use Rattle.exact.proofs.Ring.{con, ◌⊕◌, ◌⊖◌, ◌⊗◌, ⊝, norm}
use Rattle.exact.proofs.Integer.{zring, x₀, x₁, x₂}
use Rattle.exact.proofs.Rational.{ℚ, is, ◌+q◌, ◌*q◌, -q◌, ◌-q◌, ofℤ, qring}
use Rattle.exact.proofs.Order.{nn, ◌≤q◌, le_by, q_refl, q_trans, q_neg}
use Rattle.exact.proofs.Bound.{nn_le, Bound, bound_more, bound_neg, bound_self}
use Rattle.exact.proofs.Compare.{leq_in, leq_out}
use Rattle.rounding.specs.Values.{signed}
pub use Rattle.exact.proofs.Compare.{dy}

-- ±a / c
abbrev pub frac : Bool → ℕ → (c : ℕ) → 0 < c → ℚ
frac s a c h = cls record { num = signed s a; den = c; ok = h }

-- ---- products and sums
pub signed_mul : (s t : Bool) (a b : ℕ) → signed s a *ℤ signed t b ≡ signed (unlike s t) (a * b)
unfolding norm
signed_mul false false a b = refl
signed_mul false true a b = zring (x₀ ⊗ ⊝ x₁) (⊝ (x₀ ⊗ x₁)) refl (pos a ∷ pos b ∷ [])
signed_mul true false a b = zring (⊝ x₀ ⊗ x₁) (⊝ (x₀ ⊗ x₁)) refl (pos a ∷ pos b ∷ [])
signed_mul true true a b = zring (⊝ x₀ ⊗ ⊝ x₁) (x₀ ⊗ x₁) refl (pos a ∷ pos b ∷ [])

pub frac_mul : (s t : Bool) (a b c d : ℕ) (C : 0 < c) (D : 0 < d) → frac s a c C *q frac t b d D ≡ frac (unlike s t) (a * b) (c * d) (mul-pos C D)
unfolding ◌*q◌
frac_mul s t a b c d C D = is (ap (λ (z : ℤ). z *ℤ pos (c * d)) (signed_mul s t a b))

-- ±a / c + ±b / c
pub frac_over : (s t : Bool) (a b c : ℕ) (C : 0 < c) → frac s a c C +q frac t b c C ≡ cls record { num = signed s a +ℤ signed t b; den = c; ok = C }
unfolding ◌+q◌ norm
frac_over s t a b c C = is (zring ((x₀ ⊗ x₂ ⊕ x₁ ⊗ x₂) ⊗ x₂) ((x₀ ⊕ x₁) ⊗ (x₂ ⊗ x₂)) refl (signed s a ∷ signed t b ∷ pos c ∷ []))

pub minus_pos : (a b : ℕ) → a ≤ b → pos b +ℤ neg_ℤ (pos a) ≡ pos (b - a)
minus_pos a b h = omega (arith, ints)

pub minus_neg : (a b : ℕ) → b ≤ a → pos b +ℤ neg_ℤ (pos a) ≡ neg_ℤ (pos (a - b))
minus_neg a b h = omega (arith, ints)

pub same_num : (x y : ℤ) (c : ℕ) (C : 0 < c) → x ≡ y → ◌≡◌ {A = ℚ} (cls record { num = x; den = c; ok = C }) (cls record { num = y; den = c; ok = C })
same_num x y c C e = λ i. cls record { num = e i; den = c; ok = C }

pub signed_scale : (s : Bool) (a c : ℕ) → signed s a *ℤ pos c ≡ signed s (a * c)
unfolding norm
signed_scale false a c = refl
signed_scale true a c = zring (⊝ x₀ ⊗ x₁) (⊝ (x₀ ⊗ x₁)) refl (pos a ∷ pos c ∷ [])

-- ±a / c and ±b / d are one number where a d is b c
pub frac_same : (s : Bool) (a c b d : ℕ) (C : 0 < c) (D : 0 < d) → a * d ≡ b * c → frac s a c C ≡ frac s b d D
frac_same s a c b d C D e = is (signed_scale s a d ∙ ap (signed s) e ∙ sym (signed_scale s b c))

-- ---- an order of fractions is an order of whole numbers, multiplied out
pub frac_le : (a c b d : ℕ) (C : 0 < c) (D : 0 < d) → a * d ≤ b * c → frac false a c C ≤q frac false b d D
frac_le a c b d C D h = leq_in _ _ (le→leb (a * d) (b * c) h)

pub frac_le_out : (a c b d : ℕ) (C : 0 < c) (D : 0 < d) → frac false a c C ≤q frac false b d D → a * d ≤ b * c
frac_le_out a c b d C D h = leb→le (a * d) (b * c) (leq_out _ _ h)

-- a / c is within w / v of b / d
pub frac_near : (a c b d w v : ℕ) (C : 0 < c) (D : 0 < d) (V : 0 < v) → a * (d * v) ≤ (b * v + w * d) * c → b * (c * v) ≤ (a * v + w * c) * d
    → Bound (frac false a c C -q frac false b d D) (frac false w v V)
unfolding norm ◌-q◌ ◌+q◌
frac_near a c b d w v C D V h k =
    let x = frac false a c C in
    let y = frac false b d D in
    let e = frac false w v V in
    let p : x ≤q y +q e = leq_in _ _ (le→leb (a * (d * v)) ((b * v + w * d) * c) h) in
    let q : y ≤q x +q e = leq_in _ _ (le→leb (b * (c * v)) ((a * v + w * c) * d) k) in
    record {
      hi = le_by (y +q e -q x) p.le (qring (x₂ ⊖ (x₀ ⊖ x₁)) (x₁ ⊕ x₂ ⊖ x₀) refl (x ∷ y ∷ e ∷ []));
      lo = le_by (x +q e -q y) q.le (qring (x₀ ⊖ x₁ ⊖ ⊝ x₂) (x₀ ⊕ x₂ ⊖ x₁) refl (x ∷ y ∷ e ∷ []));
    }

-- with one sign s, the same
pub frac_neg : (a c : ℕ) (C : 0 < c) → -q◌ (frac false a c C) ≡ frac true a c C
unfolding -q◌
frac_neg a c C = refl

pub frac_near_signed : (s : Bool) (a c b d w v : ℕ) (C : 0 < c) (D : 0 < d) (V : 0 < v) → a * (d * v) ≤ (b * v + w * d) * c → b * (c * v) ≤ (a * v + w * c) * d
    → Bound (frac s a c C -q frac s b d D) (frac false w v V)
unfolding norm ◌-q◌
frac_near_signed false a c b d w v C D V h k = frac_near a c b d w v C D V h k
frac_near_signed true a c b d w v C D V h k =
    subst (λ (x : ℚ). Bound (x -q frac true b d D) (frac false w v V)) (frac_neg a c C)
    (subst (λ (y : ℚ). Bound (-q◌ (frac false a c C) -q y) (frac false w v V)) (frac_neg b d D)
    (subst (λ (z : ℚ). Bound z (frac false w v V)) (qring (⊝ (x₀ ⊖ x₁)) (⊝ x₀ ⊖ ⊝ x₁) refl (frac false a c C ∷ frac false b d D ∷ []))
    (bound_neg (frac_near a c b d w v C D V h k))))

pub nn_frac : (a c : ℕ) (C : 0 < c) → T (nn (frac false a c C))
unfolding nn
nn_frac a c C = tt

-- |q| is at most what bounds q
pub size_under : (s : Bool) (a c : ℕ) (C : 0 < c) (M : ℚ) → Bound (frac s a c C) M → frac false a c C ≤q M
unfolding norm
size_under false a c C M h = h.hi
size_under true a c C M h =
    subst (λ (x : ℚ). x ≤q M) (ap -q◌ (sym (frac_neg a c C)) ∙ qring (⊝ (⊝ x₀)) x₀ refl (frac false a c C ∷ []))
    (subst (λ (x : ℚ). -q◌ (frac true a c C) ≤q x) (qring (⊝ (⊝ x₀)) x₀ refl (M ∷ [])) (q_neg h.lo))

pub signed_size : (s : Bool) (a c : ℕ) (C : 0 < c) (M : ℚ) → frac false a c C ≤q M → Bound (frac s a c C) M
signed_size false a c C M h = bound_more (bound_self (nn_frac a c C)) h
signed_size true a c C M h = bound_more (subst (λ (x : ℚ). Bound x (frac false a c C)) (frac_neg a c C) (bound_neg (bound_self (nn_frac a c C)))) h

-- a negative fraction is at most what is not negative
pub not_above : (a c : ℕ) (C : 0 < c) (M : ℚ) → T (nn M) → frac true a c C ≤q M
unfolding norm
not_above a c C M t = q_trans (subst (λ (x : ℚ). x ≤q ofℤ (pos 0)) (frac_neg a c C) (subst (λ (x : ℚ). -q◌ (frac false a c C) ≤q x) (qring (⊝ (con (pos 0))) (con (pos 0)) refl []) (q_neg (nn_le (nn_frac a c C))))) (nn_le t)

-- ---- z as a sign and a size
pub record SignSize (z : ℤ) : Type 0 where
  pub s : Bool
  pub n : ℕ
  pub how : z ≡ signed s n

pub sign_size : (z : ℤ) → SignSize z
sign_size (pos n) = record { s = false; n = n; how = refl }
sign_size (negsuc n) = record { s = true; n = suc n; how = refl }

-- ---- and back: one number has one size
abs_eq : (s t : Bool) (a b : ℕ) → T (le_z (signed s a) (signed t b)) → T (le_z (signed t b) (signed s a)) → a ≡ b
abs_eq false false a b h k = omega (arith, ints)
abs_eq false true a b h k = omega (arith, ints)
abs_eq true false a b h k = omega (arith, ints)
abs_eq true true a b h k = omega (arith, ints)

pub size_out : (s t : Bool) (a c b d : ℕ) (C : 0 < c) (E : 0 < d) → frac s a c C ≡ frac t b d E → a * d ≡ b * c
size_out s t a c b d C E e =
    let h = leq_out _ _ (subst (λ (x : ℚ). frac s a c C ≤q x) e (q_refl (frac s a c C))) in
    let k = leq_out _ _ (subst (λ (x : ℚ). x ≤q frac s a c C) e (q_refl (frac s a c C))) in
    abs_eq s t (a * d) (b * c)
    (subst (λ (x : ℤ). T (le_z x (signed t (b * c)))) (signed_scale s a d) (subst (λ (x : ℤ). T (le_z (signed s a *ℤ pos d) x)) (signed_scale t b c) h))
    (subst (λ (x : ℤ). T (le_z x (signed s (a * d)))) (signed_scale t b c) (subst (λ (x : ℤ). T (le_z (signed t b *ℤ pos c) x)) (signed_scale s a d) k))
