-- |x| ≤ d for rationals, as two orders; how bounds go through sums and products; whole numbers and 1 / (k + 1) among the rationals.
use Rattle.std.proofs.Common.{◌≡◌, refl, ap, ◌∙◌, subst, Bool, true, false, not, [], ◌∷◌, ℕ, suc, ◌+◌, ◌-◌, ◌≤◌, zero-lt-suc, arith, T, pos, negsuc}
use std.Quotient.{cls}
use Rattle.exact.proofs.Ring.{con, ◌⊕◌, ◌⊖◌, ◌⊗◌, ⊝, norm}
use Rattle.exact.proofs.Integer.{zring, x₀, x₁, x₂, x₃}
use Rattle.exact.proofs.Rational.{ℚ, is, ◌+q◌, ◌*q◌, -q◌, ◌-q◌, ofℤ, qring, of_addq}
use Rattle.exact.proofs.Order.{nn, nn_add, nn_mul, nn_total, ◌≤q◌, le_by, q_refl, q_trans, q_add, q_neg, q_mul}

-- n
unfoldable pub ofℕ : ℕ → ℚ
ofℕ n = ofℤ (pos n)

-- 1 / (k + 1)
unfoldable pub inv : ℕ → ℚ
inv k = cls record { num = pos 1; den = suc k; ok = zero-lt-suc k }

pub inv_mul : (k : ℕ) → ofℕ (suc k) *q inv k ≡ ofℕ 1
unfolding ofℕ inv ofℤ ◌*q◌ norm
inv_mul k = is (zring ((x₀ ⊗ con (pos 1)) ⊗ con (pos 1)) (con (pos 1) ⊗ (con (pos 1) ⊗ x₀)) refl (pos (suc k) ∷ []))

pub nn_inv : (k : ℕ) → T (nn (inv k))
unfolding inv nn
nn_inv k = tt

pub nn_ofℕ : (n : ℕ) → T (nn (ofℕ n))
unfolding ofℕ ofℤ nn
nn_ofℕ n = tt

pub ofℕ_add : (a b : ℕ) → ofℕ (a + b) ≡ ofℕ a +q ofℕ b
unfolding ofℕ
ofℕ_add a b = of_addq (pos a) (pos b)

pub ofℕ_mono : (a b : ℕ) → a ≤ b → ofℕ a ≤q ofℕ b
unfolding norm ◌-q◌
ofℕ_mono a b h =
    let e : b ≡ a + (b - a) = omega arith in
    le_by (ofℕ (b - a)) (nn_ofℕ (b - a)) (ap (λ (x : ℚ). x -q ofℕ a) (ap ofℕ e ∙ ofℕ_add a (b - a)) ∙ qring (x₀ ⊕ x₁ ⊖ x₀) x₁ refl (ofℕ a ∷ ofℕ (b - a) ∷ []))

pub nn_le : {a : ℚ} → T (nn a) → ofℤ (pos 0) ≤q a
unfolding norm ◌-q◌
nn_le {a} t = le_by a t (qring (x₀ ⊖ con (pos 0)) x₀ refl (a ∷ []))

pub le_nn : {a : ℚ} → ofℤ (pos 0) ≤q a → T (nn a)
unfolding norm ◌-q◌
le_nn {a} h = subst (λ (x : ℚ). T (nn x)) (qring (x₀ ⊖ con (pos 0)) x₀ refl (a ∷ [])) h.le

-- a half of what is not negative is not negative
pub nn_half : (a : ℚ) → T (nn (a +q a)) → T (nn a)
unfolding norm ofℕ
nn_half a t =
    subst (λ (x : ℚ). T (nn x))
    (qring (x₁ ⊗ (x₀ ⊕ x₀)) ((con (pos 2) ⊗ x₁) ⊗ x₀) refl (a ∷ inv 1 ∷ []) ∙ ap (λ (x : ℚ). x *q a) (inv_mul 1) ∙ qring (con (pos 1) ⊗ x₀) x₀ refl (a ∷ []))
    (nn_mul (inv 1) (a +q a) (nn_inv 1) t)

-- ---- |x| ≤ d
pub record Bound (x d : ℚ) : Type 0 where
  pub hi : x ≤q d
  pub lo : -q◌ d ≤q x

-- of known numbers, where both sides compute
pub bound_is : {a b : ℚ} → T (nn (b -q a)) → T (nn (a -q (-q◌ b))) → Bound a b
bound_is h l = record { hi = record { le = h }; lo = record { le = l } }

pub bound_nn : {x d : ℚ} → Bound x d → T (nn d)
unfolding norm ◌-q◌
bound_nn {x} {d} h = nn_half d (subst (λ (z : ℚ). T (nn z)) (qring (x₁ ⊖ x₀ ⊕ (x₀ ⊖ ⊝ x₁)) (x₁ ⊕ x₁) refl (x ∷ d ∷ [])) (nn_add (d -q x) (x -q (-q◌ d)) h.hi.le h.lo.le))

pub bound_more : {x d e : ℚ} → Bound x d → d ≤q e → Bound x e
bound_more h k = record { hi = q_trans h.hi k; lo = q_trans (q_neg k) h.lo }

pub bound_add : {x y d e : ℚ} → Bound x d → Bound y e → Bound (x +q y) (d +q e)
unfolding norm
bound_add {x} {y} {d} {e} h k = record {
  hi = q_add h.hi k.hi;
  lo = subst (λ (z : ℚ). z ≤q x +q y) (qring (⊝ x₀ ⊕ ⊝ x₁) (⊝ (x₀ ⊕ x₁)) refl (d ∷ e ∷ [])) (q_add h.lo k.lo);
}

pub bound_neg : {x d : ℚ} → Bound x d → Bound (-q◌ x) d
unfolding norm
bound_neg {x} {d} h = record {
  hi = subst (λ (z : ℚ). -q◌ x ≤q z) (qring (⊝ (⊝ x₀)) x₀ refl (d ∷ [])) (q_neg h.lo);
  lo = q_neg h.hi;
}

-- 2 (de - xy) is (d - x)(e + y) + (d + x)(e - y), and 2 (de + xy) is (d + x)(e + y) + (d - x)(e - y)
pub bound_mul : {x y d e : ℚ} → Bound x d → Bound y e → Bound (x *q y) (d *q e)
unfolding norm ◌-q◌
bound_mul {x} {y} {d} {e} h k =
    let dx = d -q x in
    let xd = x -q (-q◌ d) in
    let ey = e -q y in
    let ye = y -q (-q◌ e) in
    let ρ = x ∷ y ∷ d ∷ e ∷ [] in
    record {
      hi = record {
        le = nn_half _ (subst (λ (z : ℚ). T (nn z))
            (qring ((x₂ ⊖ x₀) ⊗ (x₁ ⊖ ⊝ x₃) ⊕ (x₀ ⊖ ⊝ x₂) ⊗ (x₃ ⊖ x₁)) ((x₂ ⊗ x₃ ⊖ x₀ ⊗ x₁) ⊕ (x₂ ⊗ x₃ ⊖ x₀ ⊗ x₁)) refl ρ)
            (nn_add (dx *q ye) (xd *q ey) (nn_mul dx ye h.hi.le k.lo.le) (nn_mul xd ey h.lo.le k.hi.le)));
      };
      lo = record {
        le = nn_half _ (subst (λ (z : ℚ). T (nn z))
            (qring ((x₀ ⊖ ⊝ x₂) ⊗ (x₁ ⊖ ⊝ x₃) ⊕ (x₂ ⊖ x₀) ⊗ (x₃ ⊖ x₁)) ((x₀ ⊗ x₁ ⊖ ⊝ (x₂ ⊗ x₃)) ⊕ (x₀ ⊗ x₁ ⊖ ⊝ (x₂ ⊗ x₃))) refl ρ)
            (nn_add (xd *q ye) (dx *q ey) (nn_mul xd ye h.lo.le k.lo.le) (nn_mul dx ey h.hi.le k.hi.le)));
      };
    }

pub bound_self : {a : ℚ} → T (nn a) → Bound a a
unfolding norm ◌-q◌
bound_self {a} t = record { hi = q_refl a; lo = le_by (a +q a) (nn_add a a t t) (qring (x₀ ⊖ ⊝ x₀) (x₀ ⊕ x₀) refl (a ∷ [])) }

-- either way round
pub bound_turn : (a b : ℚ) {d : ℚ} → Bound (a -q b) d → Bound (b -q a) d
unfolding norm ◌-q◌
bound_turn a b {d} h = subst (λ (x : ℚ). Bound x d) (qring (⊝ (x₀ ⊖ x₁)) (x₁ ⊖ x₀) refl (a ∷ b ∷ [])) (bound_neg h)

-- from a to c by way of b
pub bound_via : (a b c : ℚ) {d e : ℚ} → Bound (a -q b) d → Bound (b -q c) e → Bound (a -q c) (d +q e)
unfolding norm ◌-q◌
bound_via a b c {d} {e} h k = subst (λ (x : ℚ). Bound x (d +q e)) (qring (x₀ ⊖ x₁ ⊕ (x₁ ⊖ x₂)) (x₀ ⊖ x₂) refl (a ∷ b ∷ c ∷ [])) (bound_add h k)

-- a is at most b + d, and at least b - d
pub bound_above : (a b d : ℚ) → Bound (a -q b) d → a ≤q b +q d
unfolding norm ◌-q◌
bound_above a b d h = le_by (d -q (a -q b)) h.hi.le (qring (x₁ ⊕ x₂ ⊖ x₀) (x₂ ⊖ (x₀ ⊖ x₁)) refl (a ∷ b ∷ d ∷ []))

pub bound_below : (a b d : ℚ) → Bound (a -q b) d → b -q d ≤q a
unfolding norm ◌-q◌
bound_below a b d h = le_by (a -q b -q (-q◌ d)) h.lo.le (qring (x₀ ⊖ (x₁ ⊖ x₂)) (x₀ ⊖ x₁ ⊖ ⊝ x₂) refl (a ∷ b ∷ d ∷ []))

pub bound_both : (a b d : ℚ) → a ≤q b +q d → b -q d ≤q a → Bound (a -q b) d
unfolding norm ◌-q◌
bound_both a b d h k = record {
  hi = le_by (b +q d -q a) h.le (qring (x₂ ⊖ (x₀ ⊖ x₁)) (x₁ ⊕ x₂ ⊖ x₀) refl (a ∷ b ∷ d ∷ []));
  lo = le_by (a -q (b -q d)) k.le (qring (x₀ ⊖ x₁ ⊖ ⊝ x₂) (x₀ ⊖ (x₁ ⊖ x₂)) refl (a ∷ b ∷ d ∷ []));
}

-- ---- factors
pub mul_right : {a b : ℚ} (c : ℚ) → T (nn c) → a ≤q b → a *q c ≤q b *q c
unfolding norm ◌-q◌
mul_right {a} {b} c t h = le_by (c *q (b -q a)) (nn_mul c (b -q a) t h.le) (qring (x₁ ⊗ x₂ ⊖ x₀ ⊗ x₂) (x₂ ⊗ (x₁ ⊖ x₀)) refl (a ∷ b ∷ c ∷ []))

pub mul_mono : {a b c d : ℚ} → T (nn a) → T (nn c) → a ≤q b → c ≤q d → a *q c ≤q b *q d
mul_mono {a} {b} {c} {d} na nc h k = q_trans (mul_right c nc h) (q_mul b (le_nn (q_trans (nn_le na) h)) k)

-- what is added on the right
pub le_plus : (a b : ℚ) → T (nn b) → a ≤q a +q b
unfolding norm ◌-q◌
le_plus a b t = le_by b t (qring (x₀ ⊕ x₁ ⊖ x₀) x₁ refl (a ∷ b ∷ []))

pub mul_one : (a : ℚ) → a *q ofℕ 1 ≡ a
unfolding norm ofℕ
mul_one a = qring (x₀ ⊗ con (pos 1)) x₀ refl (a ∷ [])

-- a number plus 1 is not at most itself
pub less_than_itself : (x : ℚ) → x +q ofℕ 1 ≤q x → ⊥
unfolding norm nn ◌-q◌ ofℕ ofℤ
less_than_itself x h = subst (λ (y : ℚ). T (nn y)) (qring (x₀ ⊖ (x₀ ⊕ con (pos 1))) (con (negsuc 0)) refl (x ∷ [])) h.le

-- ---- the absolute value
abbrev pub pick : Bool → ℚ → ℚ
pick true a = a
pick false a = -q◌ a

unfoldable pub absq : ℚ → ℚ
absq a = pick (nn a) a

pub bound_abs : (a : ℚ) → Bound a (absq a)
unfolding absq norm
bound_abs a = go (nn a) (λ t. t) (nn_total a)
  where
    go : (b : Bool) → (T b → T (nn a)) → (T (not b) → T (nn (-q◌ a))) → Bound a (pick b a)
    go true f g = bound_self (f tt)
    go false f g = subst (λ (x : ℚ). Bound x (-q◌ a)) (qring (⊝ (⊝ x₀)) x₀ refl (a ∷ [])) (bound_neg (bound_self (g tt)))
