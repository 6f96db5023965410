-- A row with a power of two times the polynomial is within 2 ^ -43 of e ^ t, relative to it, where t is within 2 ^ -58 of the sum of the three logarithms: what exp2 and exp10 share.
use Rattle.std.proofs.Common.{◌≡◌, ℕ, suc, ◌^◌, ◌<◌, ◌≤◌, T, [], ◌∷◌, ℤ, pos, negsuc, ◌+ℤ◌, ◌*ℤ◌, nat_abs, sym, refl, ap, ◌∙◌, subst, le_trans, arith, lit≤, pow_pos, pow_mono}
use Rattle.std.specs.Float.{Float, binary64}
use Rattle.std.specs.Float.Ieee.{of_bits}
use Rattle.std.specs.Float.Ieee.Scale.{finite}
use Rattle.std.proofs.lemmas.Int.{ints}
use std.Quotient.{cls}
use Rattle.exact.specs.Logarithm.{Base, binary}
use Rattle.exact.proofs.Ring.{con, ◌⊕◌, ◌⊖◌, ◌⊗◌, ⊝, norm}
use Rattle.exact.proofs.Integer.{zring, x₀, x₁, x₂, x₃, x₄, x₅, x₆}
use Rattle.exact.proofs.Rational.{ℚ, is, ◌+q◌, ◌*q◌, -q◌, ◌-q◌, ofℤ, qring}
use Rattle.exact.proofs.Order.{nn, nn_mul, ◌≤q◌, le_by, q_trans, q_add, q_mul}
use Rattle.exact.proofs.Bound.{ofℕ, inv, nn_ofℕ, ofℕ_mono, nn_le, le_nn, Bound, bound_more, bound_add, bound_mul, bound_self, bound_neg, mul_right, mul_mono, bound_is}
use Rattle.exact.proofs.Compare.{fr, nn_dy, dy_mono, leq_in, dy}
use Rattle.exact.proofs.Relative.{Rel, rel_mul}
use Rattle.exact.proofs.Series.{term, S, R, from, later, tail}
use Rattle.exact.proofs.Product.{mult₃}
use Rattle.exact.proofs.Shift.{shifted}
use Rattle.exact.proofs.Logarithm.{root, low}
use Rattle.exact.proofs.Powers.{raise, raised, rest_small, pow_whole, pow_half}
use Rattle.exact.proofs.Table.{root_bound}
use Rattle.rounding.specs.Units.{power}
use Rattle.rounding.proofs.Value.{val, val_value}
use Rattle.rounding.proofs.Range.{FmaLaw}
use Rattle.curves.specs.Steps.{times_power_value}
use Rattle.curves.proofs.Decimal.{Ready}
use Rattle.accuracy.proofs.PowerProduct.{unit, Coefficients, poly, product_near, poly_range}
use Rattle.exact.specs.Laws.{of_base}
use Rattle.rounding.specs.Values.{value}
use Rattle.accuracy.proofs.Outcome.{Near, near_positive, nearer, close, Wide}
use Rattle.accuracy.proofs.PowerLimits.{sum_is}

-- ---- the polynomial against the series
-- the coefficients are near those of b ^ t, for a t of size E at most
pub record Approximates (b : Base) (E : ℚ) (k₀ k₁ k₂ k₃ k₄ : Float) : Type 0 where
  pub M : ℚ
  pub D₀ : ℚ
  pub D₁ : ℚ
  pub D₂ : ℚ
  pub D₃ : ℚ
  pub D₄ : ℚ
  pub root_size : Bound (root b) M
  pub near₀ : Bound (val k₀ -q root b *q inv 0) D₀
  pub near₁ : Bound (val k₁ -q root b *q inv 0 *q root b *q inv 1) D₁
  pub near₂ : Bound (val k₂ -q root b *q inv 0 *q root b *q inv 1 *q root b *q inv 2) D₂
  pub near₃ : Bound (val k₃ -q root b *q inv 0 *q root b *q inv 1 *q root b *q inv 2 *q root b *q inv 3) D₃
  pub near₄ : Bound (val k₄ -q root b *q inv 0 *q root b *q inv 1 *q root b *q inv 2 *q root b *q inv 3 *q root b *q inv 4) D₄
  pub all : E *q (E *q (E *q (E *q (E *q D₄ +q D₃) +q D₂) +q D₁) +q D₀) +q dy 1 60 ≤q dy 1 47
  pub far : E *q M +q E *q M ≤q ofℕ 5
  pub rest : R (E *q M) 5 ≤q dy 1 47

-- the same polynomial by Horner's scheme
horner : (t a b c d e o : ℚ) → (t *q t *q (t *q e +q d) +q (t *q c +q b)) *q (t *q t) +q (t *q a +q o) ≡ t *q (t *q (t *q (t *q (t *q e +q d) +q c) +q b) +q a) +q o
unfolding norm
horner t a b c d e o = qring ((x₀ ⊗ x₀ ⊗ (x₀ ⊗ x₅ ⊕ x₄) ⊕ (x₀ ⊗ x₃ ⊕ x₂)) ⊗ (x₀ ⊗ x₀) ⊕ (x₀ ⊗ x₁ ⊕ x₆)) (x₀ ⊗ (x₀ ⊗ (x₀ ⊗ (x₀ ⊗ (x₀ ⊗ x₅ ⊕ x₄) ⊕ x₃) ⊕ x₂) ⊕ x₁) ⊕ x₆) refl (t ∷ a ∷ b ∷ c ∷ d ∷ e ∷ o ∷ [])

pub five_terms : (t l : ℚ) → S (t *q l) 5 ≡ t *q (t *q (t *q (t *q (t *q (l *q inv 0 *q l *q inv 1 *q l *q inv 2 *q l *q inv 3 *q l *q inv 4) +q l *q inv 0 *q l *q inv 1 *q l *q inv 2 *q l *q inv 3) +q l *q inv 0 *q l *q inv 1 *q l *q inv 2) +q l *q inv 0 *q l *q inv 1) +q l *q inv 0) +q ofℕ 1
unfolding S term norm ofℕ
five_terms t l =
    let u = x₀ ⊗ x₁ in
    let w₁ = con (pos 1) ⊗ u ⊗ x₂ in
    let w₂ = w₁ ⊗ u ⊗ x₃ in
    let w₃ = w₂ ⊗ u ⊗ x₄ in
    let w₄ = w₃ ⊗ u ⊗ x₅ in
    let w₅ = w₄ ⊗ u ⊗ x₆ in
    let v₁ = x₁ ⊗ x₂ in
    let v₂ = v₁ ⊗ x₁ ⊗ x₃ in
    let v₃ = v₂ ⊗ x₁ ⊗ x₄ in
    let v₄ = v₃ ⊗ x₁ ⊗ x₅ in
    let v₅ = v₄ ⊗ x₁ ⊗ x₆ in
    qring (con (pos 1) ⊕ w₁ ⊕ w₂ ⊕ w₃ ⊕ w₄ ⊕ w₅) (x₀ ⊗ (x₀ ⊗ (x₀ ⊗ (x₀ ⊗ (x₀ ⊗ v₅ ⊕ v₄) ⊕ v₃) ⊕ v₂) ⊕ v₁) ⊕ con (pos 1)) refl (t ∷ l ∷ inv 0 ∷ inv 1 ∷ inv 2 ∷ inv 3 ∷ inv 4 ∷ [])

-- one more factor t and one more coefficient
pub lift : (t u w c d X F G : ℚ) → Bound t X → Bound (u -q w) F → Bound (c -q d) G → Bound (t *q u +q c -q (t *q w +q d)) (X *q F +q G)
unfolding norm ◌-q◌
lift t u w c d X F G bt b k = subst (λ (z : ℚ). Bound z (X *q F +q G)) (qring (x₀ ⊗ (x₁ ⊖ x₂) ⊕ (x₃ ⊖ x₄)) (x₀ ⊗ x₁ ⊕ x₃ ⊖ (x₀ ⊗ x₂ ⊕ x₄)) refl (t ∷ u ∷ w ∷ c ∷ d ∷ [])) (bound_add (bound_mul bt b) k)

unit_near : Bound (val unit -q ofℕ 1) (dy 1 60)
unfolding nn ◌-q◌ ◌+q◌ -q◌ val of_bits ofℕ ofℤ
unit_near = bound_is tt tt

series_nums : dy 1 47 +q dy 1 47 ≤q dy 1 46
unfolding nn ◌-q◌ ◌+q◌ -q◌
series_nums = record { le = tt }

module _ (b : Base) (E : ℚ) (k₀ k₁ k₂ k₃ k₄ : Float) (a : Approximates b E k₀ k₁ k₂ k₃ k₄) (t : ℚ) (bt : Bound t E) where
  five_near : Bound (poly k₀ k₁ k₂ k₃ k₄ t -q S (t *q root b) 5) (dy 1 47)
  five_near =
      subst (λ (z : ℚ). Bound (poly k₀ k₁ k₂ k₃ k₄ t -q z) (dy 1 47)) (sym (five_terms t (root b)))
      (subst (λ (y : ℚ). Bound (y -q (t *q (t *q (t *q (t *q (t *q (root b *q inv 0 *q root b *q inv 1 *q root b *q inv 2 *q root b *q inv 3 *q root b *q inv 4) +q root b *q inv 0 *q root b *q inv 1 *q root b *q inv 2 *q root b *q inv 3) +q root b *q inv 0 *q root b *q inv 1 *q root b *q inv 2) +q root b *q inv 0 *q root b *q inv 1) +q root b *q inv 0) +q ofℕ 1)) (dy 1 47)) (sym (horner t (val k₀) (val k₁) (val k₂) (val k₃) (val k₄) (val unit)))
      (bound_more
      (lift t _ _ (val unit) (ofℕ 1) E _ (dy 1 60) bt
      (lift t _ _ (val k₀) _ E _ a.D₀ bt
      (lift t _ _ (val k₁) _ E _ a.D₁ bt
      (lift t _ _ (val k₂) _ E _ a.D₂ bt
      (lift t (val k₄) _ (val k₃) _ E a.D₄ a.D₃ bt a.near₄ a.near₃) a.near₂) a.near₁) a.near₀) unit_near) a.all))

  pub poly_series : (n : ℕ) → 5 ≤ n → Bound (S (t *q root b) n -q poly k₀ k₁ k₂ k₃ k₄ t) (dy 1 46)
  unfolding norm ◌-q◌
  poly_series n h =
      bound_more (subst (λ (z : ℚ). Bound z (dy 1 47 +q dy 1 47)) (qring (⊝ (x₀ ⊖ x₁) ⊕ (x₂ ⊖ x₁)) (x₂ ⊖ x₀) refl (poly k₀ k₁ k₂ k₃ k₄ t ∷ S (t *q root b) 5 ∷ S (t *q root b) n ∷ []))
      (bound_add (bound_neg five_near) (later (λ m. Bound (S (t *q root b) m -q S (t *q root b) 5) (dy 1 47)) 5 (λ j. bound_more (tail (t *q root b) (E *q a.M) (bound_mul bt a.root_size) 5 a.far j) a.rest) n h))) series_nums

-- ---- whole powers of two
power_up : (k : ℕ) → cls (power (pos k)) ≡ ofℕ (2 ^ k)
unfolding ofℕ ofℤ
power_up k = is refl

power_down : (k : ℕ) → ◌≡◌ {A = ℚ} (cls (power (negsuc k))) (dy 1 (suc k))
power_down k = is refl

pub power_is : (h : ℤ) → cls (power h) ≡ raise binary h
power_is (pos k) = power_up k ∙ sym (pow_whole 2 k)
power_is (negsuc k) = power_down k ∙ sym (pow_half (suc k))

range_nums : (dy 1 0 ≤q ofℕ 1) × (dy 1 0 ≤q ofℕ (2 ^ 159))
unfolding nn ◌-q◌ ◌+q◌ -q◌ ofℕ ofℤ
range_nums = (record { le = tt }, record { le = tt })

pub power_range : (h : ℤ) → nat_abs h ≤ 159 → (dy 1 159 ≤q cls (power h)) × (cls (power h) ≤q ofℕ (2 ^ 159))
power_range (pos h) s = (
  subst (λ (u : ℚ). dy 1 159 ≤q u) (sym (power_up h)) (q_trans (dy_mono 0 159 (omega arith)) (q_trans range_nums.0 (ofℕ_mono 1 (2 ^ h) (pow_pos h)))),
  subst (λ (u : ℚ). u ≤q ofℕ (2 ^ 159)) (sym (power_up h)) (ofℕ_mono (2 ^ h) (2 ^ 159) (pow_mono s)),
)
power_range (negsuc h) s = (
  subst (λ (u : ℚ). dy 1 159 ≤q u) (sym (power_down h)) (dy_mono (suc h) 159 (omega arith)),
  subst (λ (u : ℚ). u ≤q ofℕ (2 ^ 159)) (sym (power_down h)) (q_trans (dy_mono 0 (suc h) (omega arith)) range_nums.1),
)

whole_size : (h : ℤ) → nat_abs h ≤ 159 → Bound (ofℤ h) (ofℕ 160)
unfolding ofℤ ofℕ -q◌
whole_size h s = record { hi = leq_in _ _ (omega (arith, ints)); lo = leq_in _ _ (omega (arith, ints)) }

-- a whole number over c, in whole parts and a rest
pub part_split : (c : ℕ) (C : 0 < c) (h : ℤ) (i : ℕ) → fr (pos c *ℤ h +ℤ pos i) c C ≡ ofℤ h +q fr (pos i) c C
unfolding ◌+q◌ ofℤ norm
part_split c C h i = is (zring ((x₂ ⊗ x₀ ⊕ x₁) ⊗ (con (pos 1) ⊗ x₂)) ((x₀ ⊗ x₂ ⊕ x₁ ⊗ con (pos 1)) ⊗ x₂) refl (h ∷ pos i ∷ pos c ∷ []))

-- ---- a row of a table: from 1 to 2, and within 2 ^ -52 of e ^ r
pub record RowRule (y : Float) (r : ℚ) : Type 0 where
  pub near : (n : ℕ) → 1000 ≤ n → Rel (S r n) (val y) (dy 1 52)
  pub above : ofℕ 1 ≤q val y
  pub below : val y ≤q ofℕ 2
  pub argument : Bound r (ofℕ 1)

-- the value z of a row mh at x: the row's size, and how near z is to b ^ x
pub record FromRow (b : Base) (x mh z : Float) : Type 0 where
  pub row_low : dy 1 160 ≤q val mh
  pub row_high : val mh ≤q ofℕ (2 ^ 160)
  pub near : Near (of_base b) (value x) (dy 1 43) z
  pub wide : Wide (of_base b) (value x) 162 z

abbrev err₁ : ℚ
err₁ = dy 1 80 +q dy 1 52 +q dy 1 80 *q dy 1 52

abbrev err₂ : ℚ
err₂ = err₁ +q dy 1 45 +q err₁ *q dy 1 45

abbrev err₃ : ℚ
err₃ = err₂ +q dy 1 60

abbrev err₄ : ℚ
err₄ = err₃ +q (dy 1 58 +q dy 1 58) +q err₃ *q (dy 1 58 +q dy 1 58) +q dy 1 60

err_nums : (dy 1 49 +q err₄ ≤q dy 1 44) × (dy 1 44 ≤q dy 1 43 *q (ofℤ (pos 1) -q dy 1 49)) × (dy 1 50 ≤q dy 1 49 *q dy 31 5) × (dy 1 1 ≤q ofℤ (pos 1) -q dy 1 49) × (dy 1 162 ≤q dy 1 1 *q (dy 1 160 *q dy 31 5)) × (dy 1 46 ≤q dy 1 45 *q dy 31 5) × (dy 1 43 ≤q close)
unfolding nn ◌-q◌ ◌+q◌ -q◌ ◌*q◌ ofℕ ofℤ
err_nums = (record { le = tt }, record { le = tt }, record { le = tt }, record { le = tt }, record { le = tt }, record { le = tt }, record { le = tt })

abbrev H : ℚ
H = ofℕ 160 *q ofℕ 1

abbrev A : ℚ
A = H +q ofℕ 1 +q ofℕ 1

size_nums : (A ≤q ofℕ 201) × (H +q ofℕ 1 ≤q ofℕ 201) × (A +q dy 1 58 ≤q ofℕ 201) × (dy 33 5 +q dy 1 46 ≤q ofℕ 2) × (dy 1 500 *q ofℕ 2 +q dy 1 500 ≤q dy 1 60 *q (dy 1 160 *q dy 31 5)) × (dy 1 500 ≤q dy 1 60 *q (dy 1 160 *q dy 31 5))
    × (dy 1 160 ≤q ofℕ 1 *q dy 1 159) × (ofℕ 2 *q ofℕ (2 ^ 159) ≤q ofℕ (2 ^ 160)) × (dy 1 7 *q ofℕ 3 ≤q ofℕ 1) × (ofℕ 201 +q ofℕ 201 ≤q ofℕ 1000) × (dy 1 58 ≤q inv 1) × Bound (root binary) (ofℕ 1)
unfolding nn ◌-q◌ ◌+q◌ -q◌ ◌*q◌ ofℕ ofℤ inv
size_nums = (record { le = tt }, record { le = tt }, record { le = tt }, record { le = tt }, record { le = tt }, record { le = tt }, record { le = tt }, record { le = tt }, record { le = tt }, record { le = tt }, record { le = tt }, bound_is tt tt)

nn_sizes : T (nn A) × T (nn (H +q ofℕ 1)) × T (nn (A +q dy 1 58))
unfolding nn ◌+q◌ ◌*q◌ ofℕ ofℤ
nn_sizes = (tt, tt, tt)

-- a bound in parts of W, two of them together
two_parts : {a b : ℚ} (W c d : ℚ) → Bound a (c *q W) → Bound b (d *q W) → Bound (a +q b) ((c +q d) *q W)
unfolding norm
two_parts {a} {b} W c d h k = subst (λ (u : ℚ). Bound (a +q b) u) (qring (x₀ ⊗ x₂ ⊕ x₁ ⊗ x₂) ((x₀ ⊕ x₁) ⊗ x₂) refl (c ∷ d ∷ W ∷ [])) (bound_add h k)

module _ (b : Base) (E : ℚ) (small-E : E ≤q dy 1 7) (k₀ k₁ k₂ k₃ k₄ : Float) (co : Coefficients k₀ k₁ k₂ k₃ k₄) (ap-co : Approximates b E k₀ k₁ k₂ k₃ k₄)
    (fma : Float → Float → Float → Float) (law : FmaLaw binary64 400 fma) (lo mh : Float) (rl : Ready 100 lo) (bl : Bound (val lo) E)
    (h : ℤ) (hs : nat_abs h ≤ 159) (y : Float) (r : ℚ) (rule : RowRule y r) (fm : T (finite mh)) (vm : val mh ≡ val y *q cls (power h)) where
  abbrev z : Float
  z = times_power_value fma lo mh k₀ k₁ k₂ k₃ k₄

  lo_wide : Bound (val lo) (dy 1 7)
  lo_wide = bound_more bl small-E

  nn_y : T (nn (val y))
  nn_y = le_nn (q_trans (nn_le (nn_ofℕ 1)) rule.above)

  nn_p : T (nn (cls (power h)))
  nn_p = le_nn (q_trans (nn_le (nn_dy 1 159)) (power_range h hs).0)

  pub mh_low : dy 1 160 ≤q val mh
  mh_low = subst (λ (u : ℚ). dy 1 160 ≤q u) (sym vm) (q_trans size_nums.6 (mul_mono (nn_ofℕ 1) (nn_dy 1 159) rule.above (power_range h hs).0))

  pub mh_high : val mh ≤q ofℕ (2 ^ 160)
  mh_high = subst (λ (u : ℚ). u ≤q ofℕ (2 ^ 160)) (sym vm) (q_trans (mul_mono nn_y nn_p rule.below (power_range h hs).1) size_nums.7)

  mh_nn : T (nn (val mh))
  mh_nn = le_nn (q_trans (nn_le (nn_dy 1 160)) mh_low)

  computed : T (finite z) × Bound (val z -q poly k₀ k₁ k₂ k₃ k₄ (val lo) *q val mh) (dy 1 50 *q val mh)
  computed = product_near fma law k₀ k₁ k₂ k₃ k₄ co lo mh rl lo_wide fm mh_low mh_high

  pv : ℚ
  pv = poly k₀ k₁ k₂ k₃ k₄ (val lo)

  W : ℚ
  unfolding pv
  W = val mh *q pv

  pv_low : dy 31 5 ≤q pv
  unfolding pv
  pv_low = (poly_range fma law k₀ k₁ k₂ k₃ k₄ co lo mh rl lo_wide fm mh_low mh_high).0

  pv_high : pv ≤q dy 33 5
  unfolding pv
  pv_high = (poly_range fma law k₀ k₁ k₂ k₃ k₄ co lo mh rl lo_wide fm mh_low mh_high).1

  pv_nn : T (nn pv)
  pv_nn = le_nn (q_trans (nn_le (nn_dy 31 5)) pv_low)

  W_nn : T (nn W)
  unfolding W
  W_nn = nn_mul (val mh) pv mh_nn pv_nn

  W_low : dy 1 160 *q dy 31 5 ≤q W
  unfolding W
  W_low = mul_mono (nn_dy 1 160) (nn_dy 31 5) mh_low pv_low

  z_part : Bound (val z -q W) (dy 1 49 *q W)
  unfolding W pv norm ◌-q◌
  z_part =
      bound_more (subst (λ (u : ℚ). Bound (val z -q u) (dy 1 50 *q val mh)) (qring (x₀ ⊗ x₁) (x₁ ⊗ x₀) refl (poly k₀ k₁ k₂ k₃ k₄ (val lo) ∷ val mh ∷ [])) computed.1)
      (q_trans (mul_right (val mh) mh_nn err_nums.2)
      (subst (λ (u : ℚ). u ≤q dy 1 49 *q (val mh *q poly k₀ k₁ k₂ k₃ k₄ (val lo))) (qring (x₀ ⊗ (x₂ ⊗ x₁)) (x₀ ⊗ x₁ ⊗ x₂) refl (dy 1 49 ∷ dy 31 5 ∷ val mh ∷ [])) (q_mul (dy 1 49) (nn_dy 1 49) (q_mul (val mh) mh_nn pv_low))))

  -- ---- the three logarithms
  abbrev pub logs : ℚ
  logs = ofℤ h *q root binary +q r +q val lo *q root b

  size_h : Bound (ofℤ h *q root binary) H
  size_h = bound_mul (whole_size h hs) size_nums.11

  size_u : Bound (val lo *q root b) (ofℕ 1)
  size_u = bound_more (bound_mul lo_wide (root_bound b)) size_nums.8

  size_3 : Bound (ofℤ h *q root binary +q r +q val lo *q root b) A
  size_3 = bound_add (bound_add size_h rule.argument) size_u

  module _ (n : ℕ) (far : 1000 ≤ n) where
    room : {B : ℚ} → B ≤q ofℕ 201 → B +q B ≤q ofℕ n
    room a = q_trans (q_add a a) (q_trans size_nums.9 (ofℕ_mono 1000 n far))

    s₁ : Rel (S (ofℤ h *q root binary) n) (cls (power h)) (dy 1 80)
    s₁ = subst (λ (u : ℚ). Rel (S (ofℤ h *q root binary) n) u (dy 1 80)) (sym (power_is h)) ((raised binary h (le_trans hs (lit≤ tt))).near n far)

    s₃_off : Bound (S (val lo *q root b) n -q pv) (dy 1 46)
    unfolding pv
    s₃_off = poly_series b E k₀ k₁ k₂ k₃ k₄ ap-co (val lo) bl n (le_trans (lit≤ tt) far)

    s₃ : Rel (S (val lo *q root b) n) pv (dy 1 45)
    s₃ = record { off = bound_more s₃_off (q_trans err_nums.5 (q_mul (dy 1 45) (nn_dy 1 45) pv_low)) }

    size_s₃ : Bound (S (val lo *q root b) n) (ofℕ 2)
    unfolding norm ◌-q◌
    size_s₃ = bound_more (subst (λ (u : ℚ). Bound u (dy 33 5 +q dy 1 46)) (qring (x₀ ⊕ (x₁ ⊖ x₀)) x₁ refl (pv ∷ S (val lo *q root b) n ∷ [])) (bound_add (bound_more (bound_self pv_nn) pv_high) s₃_off)) size_nums.3

    abbrev prod : ℚ
    prod = S (ofℤ h *q root binary) n *q S r n *q S (val lo *q root b) n

    factors : Rel prod W err₂
    unfolding W norm
    factors =
        let q = rel_mul (nn_mul (cls (power h)) (val y) nn_p nn_y) pv_nn (rel_mul nn_p nn_y s₁ (rule.near n far)) s₃ in
        subst (λ (u : ℚ). Rel prod u err₂) (qring (x₀ ⊗ x₁ ⊗ x₂) (x₁ ⊗ x₀ ⊗ x₂) refl (cls (power h) ∷ val y ∷ pv ∷ []) ∙ ap (λ (u : ℚ). u *q pv) (sym vm)) q

    together : Bound (prod -q S (ofℤ h *q root binary +q r +q val lo *q root b) n) (dy 1 60 *q W)
    together =
        bound_more (mult₃ (ofℤ h *q root binary) r (val lo *q root b) H (ofℕ 1) (ofℕ 1) size_h rule.argument size_u n (room size_nums.0) (room size_nums.1) (ofℕ 2) size_s₃)
        (q_trans (q_add (mul_right (ofℕ 2) (nn_ofℕ 2) (rest_small (H +q ofℕ 1) nn_sizes.1 size_nums.1 n far)) (rest_small A nn_sizes.0 size_nums.0 n far)) (q_trans size_nums.4 (q_mul (dy 1 60) (nn_dy 1 60) W_low)))

    at_logs : Rel (S (ofℤ h *q root binary +q r +q val lo *q root b) n) W err₃
    unfolding norm ◌-q◌
    at_logs = record { off = subst (λ (u : ℚ). Bound u ((err₂ +q dy 1 60) *q W)) (qring (x₀ ⊖ x₁ ⊕ ⊝ (x₀ ⊖ x₂)) (x₂ ⊖ x₁) refl (prod ∷ W ∷ S (ofℤ h *q root binary +q r +q val lo *q root b) n ∷ [])) (two_parts W err₂ (dy 1 60) factors.off (bound_neg together)) }

    at_argument : (t : ℚ) → Bound (t -q (ofℤ h *q root binary +q r +q val lo *q root b)) (dy 1 58) → Rel (S t n) W err₄
    unfolding norm ◌-q◌
    at_argument t bt =
        let s = ofℤ h *q root binary +q r +q val lo *q root b in
        subst (λ (u : ℚ). Rel (S u n) W err₄) (qring (x₀ ⊕ (x₁ ⊖ x₀)) x₁ refl (s ∷ t ∷ []))
        (shifted s (t -q s) A (dy 1 58) W err₃ (dy 1 60) n (le_trans (lit≤ tt) far) size_3 bt size_nums.10 W_nn (room size_nums.2) (q_trans (rest_small (A +q dy 1 58) nn_sizes.2 size_nums.2 n far) (q_trans size_nums.5 (q_mul (dy 1 60) (nn_dy 1 60) W_low))) at_logs)

    z_over : (ofℤ (pos 1) -q dy 1 49) *q W ≤q val z
    unfolding norm ◌-q◌
    z_over = le_by (val z -q W -q (-q◌ (dy 1 49 *q W))) z_part.lo.le (qring (x₀ ⊖ (con (pos 1) ⊖ x₂) ⊗ x₁) (x₀ ⊖ x₁ ⊖ ⊝ (x₂ ⊗ x₁)) refl (val z ∷ W ∷ dy 1 49 ∷ []))

    -- z is within 2 ^ -43 of itself of every sum at t
    pub table_near : (t : ℚ) → Bound (t -q (ofℤ h *q root binary +q r +q val lo *q root b)) (dy 1 58) → Bound (val z -q S t n) (dy 1 43 *q val z)
    unfolding norm ◌-q◌
    table_near t bt =
        let v = S t n in
        let q : Bound (val z -q v) ((dy 1 49 +q err₄) *q W) = subst (λ (u : ℚ). Bound u ((dy 1 49 +q err₄) *q W)) (qring (x₀ ⊖ x₁ ⊕ ⊝ (x₂ ⊖ x₁)) (x₀ ⊖ x₂) refl (val z ∷ W ∷ v ∷ [])) (two_parts W (dy 1 49) err₄ z_part (bound_neg (at_argument t bt).off)) in
        bound_more q
        (q_trans (mul_right W W_nn err_nums.0)
        (q_trans (mul_right W W_nn err_nums.1)
        (subst (λ (u : ℚ). u ≤q dy 1 43 *q val z) (qring (x₀ ⊗ (x₁ ⊗ x₂)) (x₀ ⊗ x₁ ⊗ x₂) refl (dy 1 43 ∷ (ofℤ (pos 1) -q dy 1 49) ∷ W ∷ [])) (q_mul (dy 1 43) (nn_dy 1 43) z_over))))

  pub table_low : dy 1 162 ≤q val z
  table_low = q_trans err_nums.4 (q_trans (q_mul (dy 1 1) (nn_dy 1 1) W_low) (q_trans (mul_right W W_nn err_nums.3) (z_over 1000 (lit≤ tt))))

  -- for the x of which lo is the rest
  pub from_row : (x : Float) → ((j : ℕ) → Bound (val x *q low b (from 80 j) -q (ofℤ h *q root binary +q r +q val lo *q root b)) (dy 1 58)) → FromRow b x mh z
  from_row x split = record { row_low = mh_low; row_high = mh_high; near = near; wide = record { above = table_low; near = nearer close err_nums.6 near } }
    where
      near : Near (of_base b) (value x) (dy 1 43) z
      near = near_positive (of_base b) (value x) (dy 1 43) z computed.0 (le_nn (q_trans (nn_le (nn_dy 1 162)) table_low)) (λ j. 1000) (λ j n l.
          subst (λ (u : ℚ). Bound (val z -q u) (dy 1 43 *q val z)) (ap (λ (u : ℚ). S (u *q low b (from 80 j)) n) (val_value x) ∙ sym (sum_is b (value x) j n)) (table_near n l (val x *q low b (from 80 j)) (split j)))
