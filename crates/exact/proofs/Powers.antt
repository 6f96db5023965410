-- Whole powers by the series: where the sums at b are near β, those at k b are near β ^ k. With ln 2 and ln 10 for b, of either sign, β is 2 and 10, 1/2 and 1/10.
use Rattle.std.proofs.Common.{◌≡◌, refl, sym, ap, ap₂, ◌∙◌, subst, [], ◌∷◌, ℕ, zero, suc, ◌+◌, ◌-◌, ◌*◌, ◌^◌, ◌≤◌, ◌<◌, le_trans, pow-suc, arith, T, lit≤, pow_pos, pow-add, pow_mono, ℤ, pos, negsuc, neg_ℤ, nat_abs, zero-mul}
use Rattle.std.proofs.Math.Nat.{le_of_suc-le, pow-zero}
use Rattle.exact.specs.Fraction.{integer}
use Rattle.exact.proofs.Ring.{con, ◌⊕◌, ◌⊖◌, ◌⊗◌, ⊝, norm}
use Rattle.exact.proofs.Integer.{x₀, x₁, x₂, x₃}
use Rattle.exact.proofs.Rational.{ℚ, is, ◌+q◌, ◌*q◌, -q◌, ◌-q◌, ofℤ, qring}
use Rattle.exact.proofs.Order.{nn, nn_add, nn_mul, ◌≤q◌, q_refl, q_trans, q_add, q_mul}
use Rattle.exact.proofs.Bound.{ofℕ, inv, nn_ofℕ, ofℕ_add, ofℕ_mono, nn_le, le_nn, Bound, bound_more, bound_add, bound_neg, bound_mul, bound_self, bound_turn, mul_right, mul_mono, bound_is}
use Rattle.exact.proofs.Compare.{bound_abs, fr, dy, nn_dy, dy_mono, dy_add}
use Rattle.exact.specs.Logarithm.{Base, binary, decimal, radix}
use Rattle.exact.proofs.Relative.{Rel, rel_mul, rel_more}
use Rattle.exact.proofs.Series.{term, S, R, from, later}
use Rattle.exact.proofs.Product.{mult}
use Rattle.exact.proofs.Vanish.{R_later}
use Rattle.exact.proofs.Growth.{S_zero, R_mono}
use Rattle.exact.proofs.Shift.{shifted}
use Rattle.exact.proofs.Compute.{run, test, held}
use Rattle.exact.proofs.Logarithm.{pow, pow_nn, cut, root}

pub ofℕ_mul : (u v : ℕ) → ofℕ u *q ofℕ v ≡ ofℕ (u * v)
unfolding ofℕ ofℤ ◌*q◌
ofℕ_mul u v = is refl

-- ---- the size of a power
module _ (β : ℚ) (w : ℕ) where
  pow_low : dy 1 w ≤q β → (k : ℕ) → dy 1 (k * w) ≤q pow β k
  unfolding pow
  pow_low h zero = subst (λ (m : ℕ). dy 1 m ≤q ofℕ 1) (sym (zero-mul w)) unit
    where
      unit : dy 1 0 ≤q ofℕ 1
      unit = unfold nn ◌-q◌ ◌+q◌ -q◌ ofℕ ofℤ in record { le = tt }
  pow_low h (suc k) = subst (λ (x : ℚ). x ≤q pow β k *q β) (sym (ap (λ (m : ℕ). dy 1 m) (omega arith) ∙ dy_add (k * w) w)) (mul_mono (nn_dy 1 (k * w)) (nn_dy 1 w) (pow_low h k) h)

  pow_high : T (nn β) → β ≤q ofℕ (2 ^ w) → (k : ℕ) → pow β k ≤q ofℕ (2 ^ (k * w))
  unfolding pow
  pow_high n h zero = subst (λ (m : ℕ). ofℕ 1 ≤q ofℕ (2 ^ m)) (sym (zero-mul w)) (q_refl (ofℕ 1))
  pow_high n h (suc k) = subst (λ (x : ℚ). pow β k *q β ≤q x) (ofℕ_mul (2 ^ (k * w)) (2 ^ w) ∙ ap ofℕ (sym (pow-add 2 (k * w) w) ∙ ap (λ (m : ℕ). 2 ^ m) (sym (omega arith)))) (mul_mono (pow_nn β n k) n (pow_high n h k) h)

-- ---- k times the argument
ofℕ_suc : (k : ℕ) → ofℕ (suc k) ≡ ofℕ k +q ofℕ 1
ofℕ_suc k = ap ofℕ {x = suc k} {y = k + 1} (omega arith) ∙ ofℕ_add k 1

times_suc : (k : ℕ) (b : ℚ) → ofℕ (suc k) *q b ≡ ofℕ k *q b +q b
unfolding norm ofℕ
times_suc k b = ap (λ (x : ℚ). x *q b) (ofℕ_suc k) ∙ qring ((x₀ ⊕ con (pos 1)) ⊗ x₁) (x₀ ⊗ x₁ ⊕ x₁) refl (ofℕ k ∷ b ∷ [])

times_bound : (k B : ℕ) (b : ℚ) → Bound b (ofℕ B) → Bound (ofℕ k *q b) (ofℕ (k * B))
times_bound k B b h = subst (λ (x : ℚ). Bound (ofℕ k *q b) x) (ofℕ_mul k B) (bound_mul (bound_self (nn_ofℕ k)) h)

rest_nums : (ofℕ 201 +q ofℕ 201 ≤q ofℕ 1000) × (R (ofℕ 201) 1000 ≤q dy 1 500)
unfolding nn ◌-q◌ ◌+q◌ -q◌ ◌*q◌ ofℕ ofℤ term inv
rest_nums = (record { le = tt }, record { le = tt })

far_enough : (A : ℚ) → A ≤q ofℕ 201 → (n : ℕ) → 1000 ≤ n → A +q A ≤q ofℕ n
far_enough A h n far = q_trans (q_add h h) (q_trans rest_nums.0 (ofℕ_mono 1000 n far))

pub rest_small : (A : ℚ) → T (nn A) → A ≤q ofℕ 201 → (n : ℕ) → 1000 ≤ n → R A n ≤q dy 1 500
rest_small A t h n far = q_trans (R_mono A (ofℕ 201) t h n) (later (λ m. R (ofℕ 201) m ≤q dy 1 500) 1000 (λ j. q_trans (R_later (ofℕ 201) 1000 (nn_ofℕ 201) rest_nums.0 j) rest_nums.1) n far)

step_nums : (dy 1 500 ≤q dy 1 100 *q dy 1 240) × (ofℕ 200 *q dy 1 88 ≤q ofℕ 1) × (dy 1 90 +q dy 1 90 +q dy 1 100 ≤q dy 1 88) × (ofℕ 200 *q dy 1 88 ≤q dy 1 80)
unfolding nn ◌-q◌ ◌+q◌ -q◌ ◌*q◌ ofℕ ofℤ
step_nums = (record { le = tt }, record { le = tt }, record { le = tt }, record { le = tt })

module _ (b β : ℚ) (B w : ℕ) (bb : Bound b (ofℕ B)) (lβ : dy 1 w ≤q β) (n : ℕ) (far : 1000 ≤ n) (base : Rel (S b n) β (dy 1 90)) where
  nβ : T (nn β)
  nβ = le_nn (q_trans (nn_le (nn_dy 1 w)) lβ)

  powers : (k : ℕ) → k ≤ 200 → k * w ≤ 240 → k * B ≤ 200 → Rel (S (ofℕ k *q b) n) (pow β k) (ofℕ k *q dy 1 88)
  unfolding norm ◌-q◌ ofℕ pow
  powers zero h hw hB = record {
    off = subst (λ (x : ℚ). Bound (x -q ofℕ 1) (ofℕ 0 *q dy 1 88 *q ofℕ 1)) (sym (ap (λ (x : ℚ). S x n) (qring (con (pos 0) ⊗ x₀) (con (pos 0)) refl (b ∷ [])) ∙ S_zero n))
        (subst (λ (x : ℚ). Bound x (ofℕ 0 *q dy 1 88 *q ofℕ 1)) (qring (con (pos 0)) (con (pos 1) ⊖ con (pos 1)) refl []) (subst (λ (x : ℚ). Bound (ofℤ (pos 0)) x) (qring (con (pos 0)) (con (pos 0) ⊗ x₀ ⊗ con (pos 1)) refl (dy 1 88 ∷ [])) (bound_self (nn_ofℕ 0))));
  }
  powers (suc k) h hw hB =
      let ih = powers k (le_of_suc-le h) (omega arith) (omega arith) in
      let e = ofℕ k *q dy 1 88 in
      let P = pow β k *q β in
      let a = ofℕ k *q b in
      let x = S a n *q S b n in
      let nP : T (nn P) = nn_mul (pow β k) β (pow_nn β nβ k) nβ in
      let pr : Rel x P (e +q dy 1 90 +q e *q dy 1 90) = rel_mul (pow_nn β nβ k) nβ ih base in
      let A = ofℕ (k * B) +q ofℕ B in
      let small : A ≤q ofℕ 201 = subst (λ (u : ℚ). u ≤q ofℕ 201) (ofℕ_add (k * B) B) (ofℕ_mono (k * B + B) 201 (omega arith)) in
      let m = mult a b (ofℕ (k * B)) (ofℕ B) (times_bound k B b bb) bb n (far_enough A small n far) in
      let rm : R A n ≤q dy 1 100 *q P =
      q_trans (rest_small A (nn_add (ofℕ (k * B)) (ofℕ B) (nn_ofℕ (k * B)) (nn_ofℕ B)) small n far)
      (q_trans step_nums.0 (q_mul (dy 1 100) (nn_dy 1 100) (q_trans (dy_mono (suc k * w) 240 hw) (pow_low β w lβ (suc k))))) in
      let one : e ≤q ofℕ 1 = q_trans (mul_right (dy 1 88) (nn_dy 1 88) (ofℕ_mono k 200 (le_of_suc-le h))) step_nums.1 in
      let c : e +q dy 1 90 +q e *q dy 1 90 +q dy 1 100 ≤q ofℕ (suc k) *q dy 1 88 =
      subst (λ (u : ℚ). e +q dy 1 90 +q e *q dy 1 90 +q dy 1 100 ≤q u) (sym (times_suc k (dy 1 88)))
      (subst (λ (u : ℚ). u ≤q e +q dy 1 88) (qring (x₀ ⊕ (x₁ ⊕ x₂ ⊕ x₃)) (x₀ ⊕ x₁ ⊕ x₂ ⊕ x₃) refl (e ∷ dy 1 90 ∷ e *q dy 1 90 ∷ dy 1 100 ∷ []))
      (q_add (q_refl e) (q_trans (q_add (q_add (q_refl (dy 1 90)) (subst (λ (u : ℚ). e *q dy 1 90 ≤q u) (qring (con (pos 1) ⊗ x₀) x₀ refl (dy 1 90 ∷ [])) (mul_right (dy 1 90) (nn_dy 1 90) one))) (q_refl (dy 1 100))) step_nums.2))) in
      record {
        off =
            subst (λ (t : ℚ). Bound (S t n -q P) (ofℕ (suc k) *q dy 1 88 *q P)) (sym (times_suc k b))
            (bound_more (subst (λ (u : ℚ). Bound u ((e +q dy 1 90 +q e *q dy 1 90) *q P +q dy 1 100 *q P)) (qring (x₀ ⊖ x₁ ⊕ ⊝ (x₀ ⊖ x₂)) (x₂ ⊖ x₁) refl (x ∷ P ∷ S (a +q b) n ∷ [])) (bound_add pr.off (bound_neg (bound_more m rm))))
            (subst (λ (u : ℚ). u ≤q ofℕ (suc k) *q dy 1 88 *q P) (qring ((x₀ ⊕ x₁) ⊗ x₂) (x₀ ⊗ x₂ ⊕ x₁ ⊗ x₂) refl ((e +q dy 1 90 +q e *q dy 1 90) ∷ dy 1 100 ∷ P ∷ [])) (mul_right P nP c)));
      }

-- ---- the sums at ln 2 and ln 10, and at their opposites
test_up : (b : Base) → T (test (2 ^ 100) (radix b * 2 ^ 100) (2 ^ 10) (run (pos (cut b)) (2 ^ 96) 60)) × (2 * cut b ≤ 60 * 2 ^ 96)
unfolding test run
test_up binary = (tt, lit≤ tt)
test_up decimal = (tt, lit≤ tt)

test_down : (b : Base) → T (test (radix b * 2 ^ 100) (2 ^ 100) (2 ^ 10) (run (neg_ℤ (pos (cut b))) (2 ^ 96) 60)) × (2 * nat_abs (neg_ℤ (pos (cut b))) ≤ 60 * 2 ^ 96)
unfolding test run
test_down binary = (tt, lit≤ tt)
test_down decimal = (tt, lit≤ tt)

radix_pos : (b : Base) → 0 < radix b * 2 ^ 100
radix_pos binary = lit≤ tt
radix_pos decimal = lit≤ tt

-- 1 / 2 and 1 / 10
abbrev pub inverse : Base → ℚ
inverse b = inv (radix b - 1)

up_nums : (b : Base) → (fr (pos (radix b * 2 ^ 100)) (2 ^ 100) (pow_pos 100) ≡ ofℕ (radix b)) × (dy (2 ^ 10) 100 ≤q dy 1 90 *q ofℕ (radix b))
unfolding nn ◌-q◌ ◌+q◌ -q◌ ◌*q◌ ofℕ ofℤ
up_nums binary = (is refl, record { le = tt })
up_nums decimal = (is refl, record { le = tt })

down_nums : (b : Base) → (fr (pos (2 ^ 100)) (radix b * 2 ^ 100) (radix_pos b) ≡ inverse b) × (fr (pos (2 ^ 10)) (radix b * 2 ^ 100) (radix_pos b) ≤q dy 1 90 *q inverse b)
unfolding nn ◌-q◌ ◌+q◌ -q◌ ◌*q◌ inv
down_nums binary = (is refl, record { le = tt })
down_nums decimal = (is refl, record { le = tt })

-- what a test says, as a relative error
from_test : (p : ℤ) (l y : ℕ) (L : 0 < l) (β : ℚ) → 2 * nat_abs p ≤ 60 * 2 ^ 96 → T (test l y (2 ^ 10) (run p (2 ^ 96) 60)) → fr (pos y) l L ≡ β → fr (pos (2 ^ 10)) l L ≤q dy 1 90 *q β
    → (n : ℕ) → 1000 ≤ n → Rel (S (fr p (2 ^ 96) (pow_pos 96)) n) β (dy 1 90)
from_test p l y L β h t e k n far = later (λ m. Rel (S (fr p (2 ^ 96) (pow_pos 96)) m) β (dy 1 90)) 60 (λ j.
    let s = S (fr p (2 ^ 96) (pow_pos 96)) (from 60 j) in
    record { off = bound_more (bound_turn β s (subst (λ (x : ℚ). Bound (x -q s) (fr (pos (2 ^ 10)) l L)) e (held p (2 ^ 96) (pow_pos 96) 60 l y (2 ^ 10) L h t j))) k }) n (le_trans (lit≤ tt) far)

base_up : (b : Base) (n : ℕ) → 1000 ≤ n → Rel (S (root b) n) (ofℕ (radix b)) (dy 1 90)
base_up b = from_test (pos (cut b)) (2 ^ 100) (radix b * 2 ^ 100) (pow_pos 100) (ofℕ (radix b)) (test_up b).1 (test_up b).0 (up_nums b).0 (up_nums b).1

base_down : (b : Base) (n : ℕ) → 1000 ≤ n → Rel (S (-q◌ (root b)) n) (inverse b) (dy 1 90)
unfolding -q◌
base_down b = from_test (neg_ℤ (pos (cut b))) (radix b * 2 ^ 100) (2 ^ 100) (radix_pos b) (inverse b) (test_down b).1 (test_down b).0 (down_nums b).0 (down_nums b).1

-- ---- b ^ h for a whole number h of either sign
abbrev pub raise : Base → ℤ → ℚ
raise b (pos k) = pow (ofℕ (radix b)) k
raise b (negsuc k) = pow (inverse b) (suc k)

-- how far h may go, and bounds of ln b and of b
abbrev pub most : Base → ℕ
most binary = 200
most decimal = 60

abbrev high : Base → ℕ
high binary = 1
high decimal = 3

abbrev bits : Base → ℕ
bits binary = 1
bits decimal = 4

size_nums : (b : Base) → Bound (root b) (ofℕ (high b)) × (dy 1 (bits b) ≤q ofℕ (radix b)) × (dy 1 (bits b) ≤q inverse b) × (ofℕ (radix b) ≤q ofℕ (2 ^ bits b)) × (inverse b ≤q ofℕ (2 ^ bits b))
unfolding nn ◌-q◌ ◌+q◌ -q◌ ofℕ ofℤ inv
size_nums binary = (bound_is tt tt, record { le = tt }, record { le = tt }, record { le = tt }, record { le = tt })
size_nums decimal = (bound_is tt tt, record { le = tt }, record { le = tt }, record { le = tt }, record { le = tt })

fits : (b : Base) (k : ℕ) → k ≤ most b → (k ≤ 200) × (k * bits b ≤ 240) × (k * high b ≤ 200)
fits binary k h = (h, omega arith, omega arith)
fits decimal k h = (omega arith, omega arith, omega arith)

-- W is the power of which H is the argument
pub record Power (H W : ℚ) : Type 0 where
  pub near : (n : ℕ) → 1000 ≤ n → Rel (S H n) W (dy 1 80)
  pub above : dy 1 240 ≤q W
  pub below : W ≤q ofℕ (2 ^ 240)
  pub argument : Bound H (ofℕ 200)

power_of_lem : (b : Base) (r β : ℚ) → Bound r (ofℕ (high b)) → dy 1 (bits b) ≤q β → β ≤q ofℕ (2 ^ bits b) → ((n : ℕ) → 1000 ≤ n → Rel (S r n) β (dy 1 90)) → (k : ℕ) → k ≤ most b → Power (ofℕ k *q r) (pow β k)
power_of_lem b r β br lo hi base k h =
    let f = fits b k h in
    let nβ = le_nn (q_trans (nn_le (nn_dy 1 (bits b))) lo) in
    record {
      near = λ n far. rel_more (dy 1 80) (pow_nn β nβ k) (powers r β (high b) (bits b) br lo n far (base n far) k f.0 f.1 f.2) (q_trans (mul_right (dy 1 88) (nn_dy 1 88) (ofℕ_mono k 200 f.0)) step_nums.3);
      above = q_trans (dy_mono (k * bits b) 240 f.1) (pow_low β (bits b) lo k);
      below = q_trans (pow_high β (bits b) nβ hi k) (ofℕ_mono (2 ^ (k * bits b)) (2 ^ 240) (pow_mono f.1));
      argument = bound_more (times_bound k (high b) r br) (ofℕ_mono (k * high b) 200 f.2);
    }

pub raised : (b : Base) (h : ℤ) → nat_abs h ≤ most b → Power (ofℤ h *q root b) (raise b h)
unfolding norm ofℕ
raised b (pos k) h = let s = size_nums b in power_of_lem b (root b) (ofℕ (radix b)) s.0 s.1 s.3 (base_up b) k h
raised b (negsuc k) h =
    let s = size_nums b in
    subst (λ (x : ℚ). Power x (pow (inverse b) (suc k))) (qring (x₀ ⊗ ⊝ x₁) (⊝ x₀ ⊗ x₁) refl (ofℕ (suc k) ∷ root b ∷ []) ∙ ap (λ (x : ℚ). x *q root b) opposite)
    (power_of_lem b (-q◌ (root b)) (inverse b) (bound_neg s.0) s.2 s.4 (base_down b) (suc k) h)
  where
    opposite : -q◌ (ofℕ (suc k)) ≡ ofℤ (negsuc k)
    opposite = unfold -q◌ ofℕ ofℤ in refl

-- ---- at whatever is near ln b
at_nums : (ofℕ 200 *q dy 1 84 ≤q dy 1 76) × (dy 1 76 ≤q inv 1) × (ofℕ 200 +q dy 1 76 ≤q ofℕ 201) × (dy 1 80 +q (dy 1 76 +q dy 1 76) +q dy 1 80 *q (dy 1 76 +q dy 1 76) +q dy 1 100 ≤q dy 1 74)
unfolding nn ◌-q◌ ◌+q◌ -q◌ ◌*q◌ ofℕ ofℤ inv
at_nums = (record { le = tt }, record { le = tt }, record { le = tt }, record { le = tt })

bound_whole : (h : ℤ) → Bound (ofℤ h) (ofℕ (nat_abs h))
unfolding ofℕ ofℤ
bound_whole h = bound_abs (integer h)

most_le : (b : Base) → most b ≤ 200
most_le binary = lit≤ tt
most_le decimal = lit≤ tt

pub raised_at : (b : Base) (h : ℤ) → nat_abs h ≤ most b → (l : ℚ) → Bound (l -q root b) (dy 1 84) → (n : ℕ) → 1000 ≤ n → Rel (S (ofℤ h *q l) n) (raise b h) (dy 1 74)
unfolding norm ◌-q◌
raised_at b h k l near n far =
    let P = raised b h k in
    let W = raise b h in
    let nW = le_nn (q_trans (nn_le (nn_dy 1 240)) P.above) in
    let d = ofℤ h *q (l -q root b) in
    let bd : Bound d (dy 1 76) = bound_more (bound_mul (bound_more (bound_whole h) (ofℕ_mono (nat_abs h) 200 (le_trans k (most_le b)))) near) at_nums.0 in
    let A = ofℕ 200 +q dy 1 76 in
    let r : R A n ≤q dy 1 100 *q W = q_trans (rest_small A (nn_add (ofℕ 200) (dy 1 76) (nn_ofℕ 200) (nn_dy 1 76)) at_nums.2 n far) (q_trans step_nums.0 (q_mul (dy 1 100) (nn_dy 1 100) P.above)) in
    subst (λ (x : ℚ). Rel (S x n) W (dy 1 74)) (qring (x₀ ⊗ x₁ ⊕ x₀ ⊗ (x₂ ⊖ x₁)) (x₀ ⊗ x₂) refl (ofℤ h ∷ root b ∷ l ∷ []))
    (rel_more (dy 1 74) nW (shifted (ofℤ h *q root b) d (ofℕ 200) (dy 1 76) W (dy 1 80) (dy 1 100) n (le_trans (lit≤ tt) far) P.argument bd at_nums.1 nW (far_enough A at_nums.2 n far) r (P.near n far)) at_nums.3)

-- ---- powers as whole numbers and as 1 / 2 ^ k
pub pow_whole : (r k : ℕ) → pow (ofℕ r) k ≡ ofℕ (r ^ k)
unfolding pow
pow_whole r zero = ap ofℕ (sym (pow-zero r))
pow_whole r (suc k) = ap (λ (x : ℚ). x *q ofℕ r) (pow_whole r k) ∙ ofℕ_mul (r ^ k) r ∙ ap ofℕ (sym (pow-suc r k))

pub pow_half : (k : ℕ) → pow (inv 1) k ≡ dy 1 k
unfolding pow
pow_half zero = unit
  where
    unit : ofℕ 1 ≡ dy 1 0
    unit = unfold ofℕ ofℤ in is refl
pow_half (suc k) = ap₂ (λ (x y : ℚ). x *q y) (pow_half k) half ∙ sym (ap (λ (m : ℕ). dy 1 m) (omega arith) ∙ dy_add k 1)
  where
    half : inv 1 ≡ dy 1 1
    half = unfold inv in is refl
