-- The brackets of ln 2 and ln 10: each holds the later ones, all lie between 0 and 3, and those from 80 on are near one fraction of 96 binary places.
use Rattle.std.proofs.Common.{◌≡◌, refl, ap, ap₂, ◌∙◌, subst, [], ◌∷◌, ℕ, zero, suc, ◌^◌, ◌≤◌, le_trans, T, lit≤, pow_pos, pos}
use Rattle.std.proofs.Math.Nat.{le-suc}
use std.Quotient.{cls}
use Rattle.exact.specs.Fraction.{Fraction, whole, part, plus, times}
use Rattle.exact.proofs.Ring.{con, ◌⊕◌, ◌⊗◌, norm}
use Rattle.exact.proofs.Integer.{x₀, x₁, x₂, x₃}
use Rattle.exact.proofs.Rational.{ℚ, is, ◌+q◌, ◌*q◌, -q◌, ◌-q◌, ofℤ, qring}
use Rattle.exact.proofs.Order.{nn, nn_mul, ◌≤q◌, q_refl, q_trans, q_add, q_mul}
use Rattle.exact.proofs.Bound.{ofℕ, inv, nn_inv, nn_ofℕ, le_nn, Bound, bound_more, bound_self, bound_both, mul_right, mul_mono, le_plus, mul_one}
use Rattle.exact.proofs.Compare.{sum_cls, product_cls, integer_cls, whole_cls, part_cls, leq_in, below_out, fr, dy, inv_mono}
use Rattle.exact.specs.Logarithm.{power, log_sum, halves, fifths, step, Base, binary, decimal, lowest, width, InBracket}
use Rattle.exact.proofs.Series.{from, from_le, later}

-- ---- the sum of q ^ k / k, for q from 0 to 1/2
unfoldable pub pow : ℚ → ℕ → ℚ
pow q zero = ofℕ 1
pow q (suc k) = pow q k *q q

unfoldable pub L : ℚ → ℕ → ℚ
L q zero = ofℤ (pos 0)
L q (suc m) = L q m +q inv m *q pow q (suc m)

pub pow_nn : (q : ℚ) → T (nn q) → (k : ℕ) → T (nn (pow q k))
unfolding pow
pow_nn q t zero = nn_ofℕ 1
pow_nn q t (suc k) = nn_mul (pow q k) q (pow_nn q t k) t

pub pow_mono : (q p : ℚ) → T (nn q) → q ≤q p → (k : ℕ) → pow q k ≤q pow p k
unfolding pow
pow_mono q p t h zero = q_refl (ofℕ 1)
pow_mono q p t h (suc k) = mul_mono (pow_nn q t k) t (pow_mono q p t h k) h

-- 1 / ((m + 1) 2 ^ m)
abbrev pub gap : ℕ → ℚ
gap m = inv m *q pow (inv 1) m

module _ (q : ℚ) (t : T (nn q)) (h : q ≤q inv 1) where
  L_step : (m : ℕ) → (L q m ≤q L q (suc m)) × (L q (suc m) +q gap (suc m) ≤q L q m +q gap m)
  unfolding norm L pow
  L_step m =
      let e = inv m *q pow q (suc m) in
      let p = pow (inv 1) (suc m) in
      let np = pow_nn (inv 1) (nn_inv 1) (suc m) in
      let a : e ≤q inv m *q p = q_mul (inv m) (nn_inv m) (pow_mono q (inv 1) t h (suc m)) in
      let b : gap (suc m) ≤q inv m *q p = mul_right p np (inv_mono m (suc m) (le-suc m)) in (
        le_plus (L q m) e (nn_mul (inv m) (pow q (suc m)) (nn_inv m) (pow_nn q t (suc m))),
        subst (λ (x : ℚ). L q m +q e +q gap (suc m) ≤q x)
            (qring (x₀ ⊕ x₁ ⊗ (x₂ ⊗ x₃) ⊕ x₁ ⊗ (x₂ ⊗ x₃)) (x₀ ⊕ x₁ ⊗ x₂ ⊗ (x₃ ⊕ x₃)) refl (L q m ∷ inv m ∷ pow (inv 1) m ∷ inv 1 ∷ []) ∙ ap (λ (x : ℚ). L q m +q inv m *q pow (inv 1) m *q x) halves_one ∙ ap (λ (x : ℚ). L q m +q x) (mul_one (gap m)))
            (q_add (q_add (q_refl (L q m)) a) b),
      )
    where
      halves_one : inv 1 +q inv 1 ≡ ofℕ 1
      halves_one = unfold inv ofℕ ofℤ ◌+q◌ in is refl

  L_nested : (m j : ℕ) → (L q m ≤q L q (from m j)) × (L q (from m j) +q gap (from m j) ≤q L q m +q gap m)
  L_nested m zero = (q_refl (L q m), q_refl (L q m +q gap m))
  L_nested m (suc j) =
      let s = L_step (from m j) in
      let ih = L_nested m j in
      (q_trans ih.0 s.0, q_trans s.1 ih.1)

-- ---- the brackets
abbrev pub low : Base → ℕ → ℚ
low binary m = L (inv 1) m
low decimal m = ofℕ 3 *q L (inv 1) m +q L (inv 4) m

abbrev pub wide : Base → ℕ → ℚ
wide binary m = gap m
wide decimal m = ofℕ 4 *q gap m

fifth_half : inv 4 ≤q inv 1
fifth_half = inv_mono 1 4 (lit≤ tt)

-- the bracket of m holds those that come later
pub nested : (b : Base) (m j : ℕ) → (low b m ≤q low b (from m j)) × (low b (from m j) +q wide b (from m j) ≤q low b m +q wide b m)
unfolding norm ofℕ
nested binary m j = L_nested (inv 1) (nn_inv 1) (q_refl (inv 1)) m j
nested decimal m j =
    let a = L_nested (inv 1) (nn_inv 1) (q_refl (inv 1)) m j in
    let c = L_nested (inv 4) (nn_inv 4) fifth_half m j in
    let k = from m j in
    let e = λ (x y z : ℚ). qring (con (pos 3) ⊗ (x₀ ⊕ x₂) ⊕ (x₁ ⊕ x₂)) (con (pos 3) ⊗ x₀ ⊕ x₁ ⊕ con (pos 4) ⊗ x₂) refl (x ∷ y ∷ z ∷ []) in (
      q_add (q_mul (ofℕ 3) (nn_ofℕ 3) a.0) c.0,
      subst (λ (x : ℚ). x ≤q low decimal m +q wide decimal m) (e (L (inv 1) k) (L (inv 4) k) (gap k))
          (subst (λ (x : ℚ). ofℕ 3 *q (L (inv 1) k +q gap k) +q (L (inv 4) k +q gap k) ≤q x) (e (L (inv 1) m) (L (inv 4) m) (gap m))
          (q_add (q_mul (ofℕ 3) (nn_ofℕ 3) a.1) c.1)),
    )

gap_nn : (m : ℕ) → T (nn (gap m))
gap_nn m = nn_mul (inv m) (pow (inv 1) m) (nn_inv m) (pow_nn (inv 1) (nn_inv 1) m)

pub wide_nn : (b : Base) (m : ℕ) → T (nn (wide b m))
wide_nn binary m = gap_nn m
wide_nn decimal m = nn_mul (ofℕ 4) (gap m) (nn_ofℕ 4) (gap_nn m)

-- and is at most 4 / (m + 1) wide
half_le : inv 1 ≤q ofℕ 1
unfolding nn ◌-q◌ ◌+q◌ -q◌ ofℕ ofℤ inv
half_le = record { le = tt }

one_pow : (m : ℕ) → pow (ofℕ 1) m ≡ ofℕ 1
unfolding pow
one_pow zero = refl
one_pow (suc m) = mul_one (pow (ofℕ 1) m) ∙ one_pow m

gap_le : (m : ℕ) → gap m ≤q inv m
gap_le m =
    subst (λ (x : ℚ). gap m ≤q x) (mul_one (inv m))
    (q_mul (inv m) (nn_inv m) (subst (λ (x : ℚ). pow (inv 1) m ≤q x) (one_pow m) (pow_mono (inv 1) (ofℕ 1) (nn_inv 1) half_le m)))

pub wide_le : (b : Base) (m : ℕ) → wide b m ≤q ofℕ 4 *q inv m
unfolding norm ofℕ
wide_le binary m =
    q_trans (gap_le m)
    (subst (λ (x : ℚ). inv m ≤q x) (qring (x₀ ⊕ con (pos 3) ⊗ x₀) (con (pos 4) ⊗ x₀) refl (inv m ∷ [])) (le_plus (inv m) (ofℕ 3 *q inv m) (nn_mul (ofℕ 3) (inv m) (nn_ofℕ 3) (nn_inv m))))
wide_le decimal m = q_mul (ofℕ 4) (nn_ofℕ 4) (gap_le m)

-- ---- the brackets of the definitions
pub power_cls : (q : Fraction) (k : ℕ) → cls (power q k) ≡ pow (cls q) k
unfolding power pow
power_cls q zero = whole_cls 1
power_cls q (suc k) = product_cls (power q k) q ∙ ap (λ (x : ℚ). x *q cls q) (power_cls q k)

log_cls : (q : Fraction) (m : ℕ) → cls (log_sum q m) ≡ L (cls q) m
unfolding log_sum L
log_cls q zero = integer_cls (pos 0)
log_cls q (suc m) = sum_cls (log_sum q m) (times (part m) (power q (suc m))) ∙ ap₂ (λ (x y : ℚ). x +q y) (log_cls q m) (product_cls (part m) (power q (suc m)) ∙ ap₂ (λ (x y : ℚ). x *q y) (part_cls m) (power_cls q (suc m)))

log_part : (k m : ℕ) → cls (log_sum (part k) m) ≡ L (inv k) m
log_part k m = log_cls (part k) m ∙ ap (λ (x : ℚ). L x m) (part_cls k)

step_cls : (m : ℕ) → cls (step m) ≡ gap m
step_cls m = product_cls (part m) (power (part 1) m) ∙ ap₂ (λ (x y : ℚ). x *q y) (part_cls m) (power_cls (part 1) m ∙ ap (λ (x : ℚ). pow x m) (part_cls 1))

pub lowest_cls : (b : Base) (m : ℕ) → cls (lowest b m) ≡ low b m
lowest_cls binary m = log_part 1 m
lowest_cls decimal m =
    sum_cls (times (whole 3) (halves m)) (fifths m)
    ∙ ap₂ (λ (x y : ℚ). x +q y) (product_cls (whole 3) (halves m) ∙ ap₂ (λ (x y : ℚ). x *q y) (whole_cls 3) (log_part 1 m)) (log_part 4 m)

pub width_cls : (b : Base) (m : ℕ) → cls (width b m) ≡ wide b m
width_cls binary m = step_cls m
width_cls decimal m = product_cls (whole 4) (step m) ∙ ap₂ (λ (x y : ℚ). x *q y) (whole_cls 4) (step_cls m)

pub top_cls : (b : Base) (m : ℕ) → cls (plus (lowest b m) (width b m)) ≡ low b m +q wide b m
top_cls b m = sum_cls (lowest b m) (width b m) ∙ ap₂ (λ (x y : ℚ). x +q y) (lowest_cls b m) (width_cls b m)

pub bracket_in : (b : Base) (m : ℕ) (l : Fraction) → InBracket b m l → (low b m ≤q cls l) × (cls l ≤q low b m +q wide b m)
bracket_in b m l i = (
  subst (λ (x : ℚ). x ≤q cls l) (lowest_cls b m) (leq_in (lowest b m) l i.above.le),
  subst (λ (x : ℚ). cls l ≤q x) (top_cls b m) (leq_in l (plus (lowest b m) (width b m)) i.below.le),
)

pub bracket_out : (b : Base) (m : ℕ) (l : Fraction) {x : ℚ} → cls l ≡ x → low b m ≤q x → x ≤q low b m +q wide b m → InBracket b m l
bracket_out b m l e h k = record {
  above = below_out (lowest b m) l (lowest_cls b m) e h;
  below = below_out l (plus (lowest b m) (width b m)) e (top_cls b m) k;
}

-- the lower end of a later bracket
pub later_in : (b : Base) (m j : ℕ) → InBracket b m (lowest b (from m j))
later_in b m j =
    let n = nested b m j in
    let k = from m j in
    bracket_out b m (lowest b k) (lowest_cls b k) n.0 (q_trans (le_plus (low b k) (wide b k) (wide_nn b k)) n.1)

-- ---- all of it lies between 0 and 3
first_nums : (b : Base) → (ofℤ (pos 0) ≤q low b 1) × (low b 1 +q wide b 1 ≤q ofℕ 3)
unfolding nn ◌-q◌ ◌+q◌ -q◌ ◌*q◌ ofℕ ofℤ inv L pow
first_nums binary = (record { le = tt }, record { le = tt })
first_nums decimal = (record { le = tt }, record { le = tt })

pub between : (b : Base) (m : ℕ) → 1 ≤ m → (l : ℚ) → low b m ≤q l → l ≤q low b m +q wide b m → T (nn l) × (l ≤q ofℕ 3)
between b m h l lo hi =
    let n = later (λ k. (low b 1 ≤q low b k) × (low b k +q wide b k ≤q low b 1 +q wide b 1)) 1 (nested b 1) m h in
    (le_nn (q_trans (first_nums b).0 (q_trans n.0 lo)), q_trans hi (q_trans n.1 (first_nums b).1))

-- ---- from 80 on: ln 2 and ln 10 to 96 binary places, cut
abbrev pub cut : Base → ℕ
cut binary = 54916777467707473351141471128
cut decimal = 182429585950654714090129938606

abbrev pub root : Base → ℚ
root b = fr (pos (cut b)) (2 ^ 96) (pow_pos 96)

root_nums : (b : Base) → (root b -q dy 1 84 ≤q low b 80) × (low b 80 +q wide b 80 ≤q root b +q dy 1 84)
unfolding nn ◌-q◌ ◌+q◌ -q◌ ◌*q◌ ofℕ ofℤ inv L pow
root_nums binary = (record { le = tt }, record { le = tt })
root_nums decimal = (record { le = tt }, record { le = tt })

pub near_root : (b : Base) (l : ℚ) → low b 80 ≤q l → l ≤q low b 80 +q wide b 80 → Bound (l -q root b) (dy 1 84)
near_root b l lo hi = bound_both l (root b) (dy 1 84) (q_trans hi (root_nums b).1) (q_trans (root_nums b).0 lo)

pub low_near_root : (b : Base) (j : ℕ) → Bound (low b (from 80 j) -q root b) (dy 1 84)
low_near_root b j = let n = nested b 80 j in near_root b (low b (from 80 j)) n.0 (q_trans (le_plus (low b (from 80 j)) (wide b (from 80 j)) (wide_nn b (from 80 j))) n.1)

low_between : (b : Base) (j : ℕ) → T (nn (low b (from 80 j))) × (low b (from 80 j) ≤q ofℕ 3)
low_between b j = let k = from 80 j in between b k (le_trans (lit≤ tt) (from_le 80 j)) (low b k) (q_refl (low b k)) (le_plus (low b k) (wide b k) (wide_nn b k))

pub low_nn : (b : Base) (j : ℕ) → T (nn (low b (from 80 j)))
low_nn b j = (low_between b j).0

pub low_bound : (b : Base) (j : ℕ) → Bound (low b (from 80 j)) (ofℕ 3)
low_bound b j = bound_more (bound_self (low_nn b j)) (low_between b j).1
