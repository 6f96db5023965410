-- Distances of fractions, as whole numbers and as rationals.
use Rattle.std.proofs.Common.{◌≡◌, ℕ, zero, suc, ◌+◌, ◌*◌, ◌<◌, ◌≤◌, Bool, true, false, T, [], ◌∷◌, ℤ, pos, negsuc, ◌+ℤ◌, ◌*ℤ◌, neg_ℤ, nat_abs, sym, refl, ap, ◌∙◌, subst, ap₂, le_trans, le_of_eq, mul-le-mul_right, mul-pos, le_of_mul-le-mul_right, arith, le→leb, leb→le}
use Rattle.std.specs.Int.Signed.{non_neg, le_z, le_z_yes}
use Rattle.std.specs.Float.Ieee.Bits.{is_true}
use Rattle.std.proofs.lemmas.Int.{ints}
use std.Quotient.{cls}
use Rattle.exact.specs.Fraction.{Fraction, Same, absolute, difference, apart, ◌≼◌}
use Rattle.exact.proofs.Ring.{◌⊕◌, ◌⊖◌, ◌⊗◌, ⊝, norm}
use Rattle.exact.proofs.Integer.{zring, x₀, x₁}
use Rattle.exact.proofs.Rational.{ℚ, ◌+q◌, -q◌, ◌-q◌, qring}
use Rattle.exact.proofs.Order.{nn, nn_add, ◌≤q◌, le_by, q_refl, q_neg, q_antisym}
use Rattle.exact.proofs.Bound.{Bound, bound_add, bound_neg, absq, bound_abs, pick}
use Rattle.rounding.specs.Values.{signed}
use Rattle.exact.proofs.Compare.{fr, leq_in, leq_out, abs_out, abs_in}
pub use Rattle.exact.proofs.Compare.{sum_cls as plus_cls}
use Rattle.rounding.proofs.Fractions.{frac, signed_scale}
use Rattle.rounding.proofs.Best.{dist}

-- ---- from fractions to rationals and back
pub at_most_in : (a b : Fraction) → cls a ≤q cls b → a ≼ b
at_most_in a b h = le_z_yes (leq_out a b h)

pub at_most_out : (a b : Fraction) → a ≼ b → cls a ≤q cls b
at_most_out a b h = leq_in a b h.le

pub same_number : (a b : Fraction) → ◌≡◌ {A = ℚ} (cls a) (cls b) → Same a b
same_number a b e =
    let x = a.num *ℤ pos b.den in
    let y = b.num *ℤ pos a.den in
    let h : T (le_z x y) = leq_out a b (subst (λ (q : ℚ). cls a ≤q q) e (q_refl (cls a))) in
    let k : T (le_z y x) = leq_out b a (subst (λ (q : ℚ). q ≤q cls a) e (q_refl (cls a))) in
    omega (arith, ints)

-- ---- the absolute value, and distances
abs_of : (z : ℤ) (d : ℕ) (D : 0 < d) → fr (pos (nat_abs z)) d D ≡ pick (non_neg z) (fr z d D)
unfolding -q◌
abs_of (pos n) d D = refl
abs_of (negsuc n) d D = refl

pub abs_cls : (a : Fraction) → cls (absolute a) ≡ absq (cls a)
unfolding absq nn
abs_cls a = abs_of a.num a.den a.ok

pub apart_cls : (a b : Fraction) → cls (apart a b) ≡ absq (cls a -q cls b)
unfolding ◌-q◌ ◌+q◌ -q◌
apart_cls a b = abs_cls (difference a b)

pub signed_abs : (s : Bool) (n : ℕ) → nat_abs (signed s n) ≡ n
signed_abs false n = refl
signed_abs true zero = refl
signed_abs true (suc n) = refl

pub abs_frac : (s : Bool) (a c : ℕ) (C : 0 < c) → absq (frac s a c C) ≡ frac false a c C
abs_frac s a c C = sym (abs_cls record { num = signed s a; den = c; ok = C }) ∙ ap (λ (n : ℕ). frac false n c C) (signed_abs s a)

pub abs_least : (x e : ℚ) → Bound x e → absq x ≤q e
unfolding absq
abs_least x e b = go (nn x)
  where
    go : (p : Bool) → pick p x ≤q e
    go true = b.hi
    go false = (bound_neg b).hi

pub abs_nn : (a : ℚ) → T (nn a) → absq a ≡ a
unfolding absq
abs_nn a t = ap (λ (b : Bool). pick b a) (is_true (nn a) t)

pub abs_neg : (a : ℚ) → T (nn (-q◌ a)) → absq a ≡ -q◌ a
unfolding norm ◌-q◌
abs_neg a t =
    q_antisym
    (abs_least a (-q◌ a) (record { hi = le_by (-q◌ a +q (-q◌ a)) (nn_add (-q◌ a) (-q◌ a) t t) (qring (⊝ x₀ ⊖ x₀) (⊝ x₀ ⊕ ⊝ x₀) refl (a ∷ [])); lo = subst (λ (u : ℚ). u ≤q a) (qring x₀ (⊝ (⊝ x₀)) refl (a ∷ [])) (q_refl a) }))
    (subst (λ (u : ℚ). -q◌ a ≤q u) (qring (⊝ (⊝ x₀)) x₀ refl (absq a ∷ [])) (q_neg (bound_abs a).lo))

-- what is within D of b is not smaller than b by more than D
pub abs_above : (a b D : ℚ) → Bound (a -q b) D → absq b ≤q absq a +q D
unfolding norm ◌-q◌
abs_above a b D h = abs_least b (absq a +q D) (subst (λ (u : ℚ). Bound u (absq a +q D)) (qring (x₀ ⊕ ⊝ (x₀ ⊖ x₁)) x₁ refl (a ∷ b ∷ [])) (bound_add (bound_abs a) (bound_neg h)))

pub within_in : (a b e : Fraction) → Bound (cls a -q cls b) (cls e) → apart a b ≼ e
unfolding ◌-q◌ ◌+q◌ -q◌
within_in a b e h = abs_out (difference a b) e h

pub within_out : (a b e : Fraction) → apart a b ≼ e → Bound (cls a -q cls b) (cls e)
unfolding ◌-q◌ ◌+q◌ -q◌
within_out a b e h = abs_in (difference a b) e h

-- distances see the numbers alone
pub apart_le : {a b c d a' b' c' d' : Fraction} → ◌≡◌ {A = ℚ} (cls a) (cls a') → ◌≡◌ {A = ℚ} (cls b) (cls b') → ◌≡◌ {A = ℚ} (cls c) (cls c') → ◌≡◌ {A = ℚ} (cls d) (cls d') → apart a' b' ≼ apart c' d' → apart a b ≼ apart c d
apart_le {a} {b} {c} {d} {a'} {b'} {c'} {d'} ea eb ec ed h =
    at_most_in (apart a b) (apart c d)
    (subst (λ (x : ℚ). x ≤q cls (apart c d)) (apart_cls a' b' ∙ ap₂ (λ (x y : ℚ). absq (x -q y)) (sym ea) (sym eb) ∙ sym (apart_cls a b))
    (subst (λ (x : ℚ). cls (apart a' b') ≤q x) (apart_cls c' d' ∙ ap₂ (λ (x y : ℚ). absq (x -q y)) (sym ec) (sym ed) ∙ sym (apart_cls c d)) (at_most_out (apart a' b') (apart c' d') h)))

-- ---- ±h / l and ±a / c: their distance over l c
abbrev pub gap : Bool → Bool → ℕ → ℕ → ℕ
gap false false x y = dist x y
gap false true x y = x + y
gap true false x y = x + y
gap true true x y = dist x y

gap_is : (t s : Bool) (x y : ℕ) → nat_abs (signed t x +ℤ neg_ℤ (signed s y)) ≡ gap t s x y
gap_is false false x y = omega (arith, ints)
gap_is false true x y = omega (arith, ints)
gap_is true false x y = omega (arith, ints)
gap_is true true x y = omega (arith, ints)

abbrev pub sfrac : Bool → ℕ → (c : ℕ) → 0 < c → Fraction
sfrac s a c C = record { num = signed s a; den = c; ok = C }

negate_scale : (z w : ℤ) → neg_ℤ z *ℤ w ≡ neg_ℤ (z *ℤ w)
unfolding norm
negate_scale z w = zring (⊝ x₀ ⊗ x₁) (⊝ (x₀ ⊗ x₁)) refl (z ∷ w ∷ [])

apart_num : (t s : Bool) (h l a c : ℕ) → nat_abs (signed t h *ℤ pos c +ℤ neg_ℤ (signed s a) *ℤ pos l) ≡ gap t s (h * c) (a * l)
apart_num t s h l a c = ap₂ (λ (x y : ℤ). nat_abs (x +ℤ y)) (signed_scale t h c) (negate_scale (signed s a) (pos l) ∙ ap neg_ℤ (signed_scale s a l)) ∙ gap_is t s (h * c) (a * l)

module _ (s : Bool) (a c l : ℕ) (C : 0 < c) (L : 0 < l) (t t' : Bool) (h h' : ℕ) where
  pub nearer_in : gap t s (h * c) (a * l) ≤ gap t' s (h' * c) (a * l) → apart (sfrac t h l L) (sfrac s a c C) ≼ apart (sfrac t' h' l L) (sfrac s a c C)
  nearer_in k = le_z_yes (le→leb _ _ (mul-le-mul_right (l * c) (le_trans (le_of_eq (apart_num t s h l a c)) (le_trans k (le_of_eq (sym (apart_num t' s h' l a c)))))))

  pub nearer_out : apart (sfrac t h l L) (sfrac s a c C) ≼ apart (sfrac t' h' l L) (sfrac s a c C) → gap t s (h * c) (a * l) ≤ gap t' s (h' * c) (a * l)
  nearer_out k = le_trans (le_of_eq (sym (apart_num t s h l a c))) (le_trans (le_of_mul-le-mul_right (leb→le _ _ k.le) (mul-pos L C)) (le_of_eq (apart_num t' s h' l a c)))
