-- Fractions and rationals: the operations and the order of the definitions are those of the rationals; a / c as a rational, and n / 2 ^ k.
use Rattle.std.proofs.Common.{◌≡◌, refl, sym, ap, ap₂, subst, [], ◌∷◌, ℕ, suc, ◌+◌, ◌*◌, ◌^◌, ◌≤◌, ◌<◌, mul-le-mul_right, arith, T, le→leb, pow_pos, pow-add, pow_mono, ℤ, pos, negsuc, ◌+ℤ◌, ◌*ℤ◌, neg_ℤ, nat_abs}
use Rattle.std.specs.Int.Signed.{le_z, non_neg}
use Rattle.std.proofs.lemmas.Int.{ints}
use borrow.Author.Differences.{le_in, le_T, product_is, neg_is}
use std.Quotient.{cls}
use Rattle.exact.specs.Fraction.{Fraction, fraction, integer, whole, part, plus, times, opposite, absolute, difference, ◌≼◌}
use Rattle.exact.proofs.Ring.{◌⊕◌, ◌⊗◌, ⊝, norm}
use Rattle.exact.proofs.Integer.{zring, x₀, x₁, x₂, x₃}
use Rattle.exact.proofs.Rational.{ℚ, is, ◌+q◌, ◌*q◌, -q◌, ◌-q◌, ofℤ}
use Rattle.exact.proofs.Order.{nn, ◌≤q◌}
use Rattle.exact.proofs.Bound.{ofℕ, inv, le_nn, Bound, bound_more}

-- ---- the operations
pub sum_cls : (a b : Fraction) → cls (plus a b) ≡ cls a +q cls b
unfolding ◌+q◌
sum_cls a b = refl

pub diff_cls : (a b : Fraction) → cls (difference a b) ≡ cls a -q cls b
unfolding ◌-q◌ ◌+q◌ -q◌
diff_cls a b = refl

pub product_cls : (a b : Fraction) → cls (times a b) ≡ cls a *q cls b
unfolding ◌*q◌
product_cls a b = refl

pub neg_cls : (a : Fraction) → cls (opposite a) ≡ -q◌ (cls a)
unfolding -q◌
neg_cls a = refl

pub integer_cls : (z : ℤ) → cls (integer z) ≡ ofℤ z
unfolding ofℤ
integer_cls z = refl

pub whole_cls : (n : ℕ) → cls (whole n) ≡ ofℕ n
unfolding ofℕ ofℤ
whole_cls n = refl

pub part_cls : (k : ℕ) → cls (part k) ≡ inv k
unfolding inv
part_cls k = refl

-- ---- the order
minus_of : (a b : Fraction) → b.num *ℤ pos a.den +ℤ neg_ℤ a.num *ℤ pos b.den ≡ b.num *ℤ pos a.den +ℤ neg_ℤ (a.num *ℤ pos b.den)
unfolding norm
minus_of a b = zring (x₂ ⊗ x₁ ⊕ ⊝ x₀ ⊗ x₃) (x₂ ⊗ x₁ ⊕ ⊝ (x₀ ⊗ x₃)) refl (a.num ∷ pos a.den ∷ b.num ∷ pos b.den ∷ [])

pub leq_in : (a b : Fraction) → T (le_z (a.num *ℤ pos b.den) (b.num *ℤ pos a.den)) → cls a ≤q cls b
unfolding nn ◌-q◌ ◌+q◌ -q◌
leq_in a b t =
    let x = a.num *ℤ pos b.den in
    let y = b.num *ℤ pos a.den in
    record { le = subst (λ (z : ℤ). T (non_neg z)) (sym (minus_of a b)) (omega (arith, ints)) }

pub leq_out : (a b : Fraction) → cls a ≤q cls b → T (le_z (a.num *ℤ pos b.den) (b.num *ℤ pos a.den))
unfolding nn ◌-q◌ ◌+q◌ -q◌
leq_out a b h =
    let x = a.num *ℤ pos b.den in
    let y = b.num *ℤ pos a.den in
    omega (arith, ints, subst (λ (z : ℤ). T (non_neg z)) (minus_of a b) h.le)

pub below_in : {a b : Fraction} {x y : ℚ} → cls a ≡ x → cls b ≡ y → a ≼ b → x ≤q y
below_in {a} {b} {x} {y} e f h = subst (λ (u : ℚ). u ≤q y) e (subst (λ (v : ℚ). cls a ≤q v) f (leq_in a b h.le))

pub below_out : (a b : Fraction) {x y : ℚ} → cls a ≡ x → cls b ≡ y → x ≤q y → a ≼ b
below_out a b {x} {y} e f h = record { le = leq_out a b (subst (λ (u : ℚ). u ≤q cls b) (sym e) (subst (λ (v : ℚ). x ≤q v) (sym f) h)) }

-- ---- |z| at most w
scale_le : (a b : ℤ) (k : ℕ) → T (le_z a b) → T (le_z (a *ℤ pos k) (b *ℤ pos k))
scale_le a b k t = le_in (a *ℤ pos k) (b *ℤ pos k) (let h = mul-le-mul_right k (le_T a b t) in omega (arith, h, product_is a (pos k), product_is b (pos k)))

pub bound_abs : (z : Fraction) → Bound (cls z) (cls (absolute z))
unfolding -q◌
bound_abs z =
    let p = z.num in
    record {
      hi = leq_in _ _ (scale_le p (pos (nat_abs p)) z.den (omega (arith, ints)));
      lo = leq_in _ _ (scale_le (neg_ℤ (pos (nat_abs p))) p z.den (omega (arith, ints)));
    }

pub abs_nn : (z : Fraction) → T (nn (cls (absolute z)))
unfolding nn
abs_nn z = tt

pub abs_out : (z w : Fraction) → Bound (cls z) (cls w) → absolute z ≼ w
unfolding -q◌
abs_out z w b = record { le = go z.num (leq_out z w b.hi) (leq_out (opposite w) z b.lo) }
  where
    go : (n : ℤ) → T (le_z (n *ℤ pos w.den) (w.num *ℤ pos z.den)) → T (le_z (neg_ℤ w.num *ℤ pos z.den) (n *ℤ pos w.den)) → T (le_z (pos (nat_abs n) *ℤ pos w.den) (w.num *ℤ pos z.den))
    go (pos n) h k = h
    go (negsuc n) h k =
        le_in (pos (suc n) *ℤ pos w.den) (w.num *ℤ pos z.den)
        (omega (
          arith,
          le_T (neg_ℤ w.num *ℤ pos z.den) (negsuc n *ℤ pos w.den) k,
          product_is (neg_ℤ w.num) (pos z.den),
          product_is (negsuc n) (pos w.den),
          product_is (pos (suc n)) (pos w.den),
          product_is w.num (pos z.den),
          neg_is w.num,
          ap (λ (m : ℕ). m * z.den) (neg_is w.num).0,
          ap (λ (m : ℕ). m * z.den) (neg_is w.num).1,
        ))

pub abs_in : (z w : Fraction) → absolute z ≼ w → Bound (cls z) (cls w)
abs_in z w h = bound_more (bound_abs z) (leq_in (absolute z) w h.le)

-- a bound of |z| bounds the absolute value
pub abs_least : (z w : Fraction) → Bound (cls z) (cls w) → cls (absolute z) ≤q cls w
abs_least z w b = leq_in (absolute z) w (abs_out z w b).le

-- a bound of a rational is a bound of the fraction that stands for it
pub abs_is : (z w : Fraction) {x y : ℚ} → cls z ≡ x → cls w ≡ y → Bound x y → absolute z ≼ w
abs_is z w {x} {y} e f b = abs_out z w (subst (λ (u : ℚ). Bound u (cls w)) (sym e) (subst (λ (v : ℚ). Bound x v) (sym f) b))

-- what is not negative is its own absolute value
pub not_negative : (x : Fraction) → whole 0 ≼ x → T (nn (cls x))
not_negative x h = le_nn (below_in {a = whole 0} {b = x} (integer_cls (pos 0)) refl h)

pub own_size : (z : Fraction) → T (nn (cls z)) → ◌≡◌ {A = ℚ} (cls (absolute z)) (cls z)
unfolding nn
own_size z t = go z.num z.den z.ok t
  where
    go : (n : ℤ) (d : ℕ) (D : 0 < d) → T (non_neg n) → ◌≡◌ {A = ℚ} (cls record { num = pos (nat_abs n); den = d; ok = D }) (cls record { num = n; den = d; ok = D })
    go (pos n) d D t = refl
    go (negsuc n) d D t = absurd t

-- ---- z / c
abbrev pub fr : ℤ → (c : ℕ) → 0 < c → ℚ
fr z c C = cls (fraction z c C)

-- one number, whatever shows that its lower part is not 0
pub fr_den : (z w : ℤ) (c d : ℕ) (C : 0 < c) (D : 0 < d) → z ≡ w → c ≡ d → fr z c C ≡ fr w d D
fr_den z w c d C D e f = is (ap₂ (λ (x : ℤ) (k : ℕ). x *ℤ pos k) e (sym f))

pub fr_le : (a c b d : ℕ) (C : 0 < c) (D : 0 < d) → a * d ≤ b * c → fr (pos a) c C ≤q fr (pos b) d D
fr_le a c b d C D h = leq_in _ _ (le→leb (a * d) (b * c) h)

pub nn_fr : (a c : ℕ) (C : 0 < c) → T (nn (fr (pos a) c C))
unfolding nn
nn_fr a c C = tt

-- sums over two denominators, compared over the common one
pub fr_sum_le : (a b c d : ℤ) (l k : ℕ) (L : 0 < l) (K : 0 < k) → T (le_z (a *ℤ pos k +ℤ b *ℤ pos l) (c *ℤ pos k +ℤ d *ℤ pos l)) → fr a l L +q fr b k K ≤q fr c l L +q fr d k K
unfolding ◌+q◌
fr_sum_le a b c d l k L K t = leq_in _ _ (scale_le (a *ℤ pos k +ℤ b *ℤ pos l) (c *ℤ pos k +ℤ d *ℤ pos l) (l * k) t)

-- ---- n / 2 ^ k
abbrev pub dy : ℕ → ℕ → ℚ
dy n k = fr (pos n) (2 ^ k) (pow_pos k)

pub nn_dy : (n k : ℕ) → T (nn (dy n k))
unfolding nn
nn_dy n k = tt

pub dy_mono : (k m : ℕ) → k ≤ m → dy 1 m ≤q dy 1 k
dy_mono k m h = fr_le 1 (2 ^ m) 1 (2 ^ k) (pow_pos m) (pow_pos k) (omega (arith, pow_mono h))

pub dy_add : (a b : ℕ) → dy 1 (a + b) ≡ dy 1 a *q dy 1 b
unfolding ◌*q◌
dy_add a b = is (ap pos (omega (arith, pow-add 2 a b)))

-- ---- 1 / (k + 1)
pub inv_mono : (m k : ℕ) → m ≤ k → inv k ≤q inv m
unfolding inv
inv_mono m k h = leq_in _ _ (le→leb (1 * suc m) (1 * suc k) (omega arith))
