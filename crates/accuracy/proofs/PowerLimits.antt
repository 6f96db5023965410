-- Where 2 ^ x and 10 ^ x lie against the limit 2 ^ 128 - 2 ^ 103: at and below 0, up to the last input below it, and from the first input above it.
use Rattle.std.proofs.Common.{◌≡◌, ℕ, ◌+◌, ◌-◌, ◌*◌, ◌^◌, ◌≤◌, T, [], ◌∷◌, pos, sym, refl, ap, ◌∙◌, subst, inl, inr, zero-lt-suc, lit≤, pow_pos}
use std.Quotient.{cls}
use Rattle.exact.specs.Fraction.{Fraction, whole, times, absolute}
use Rattle.exact.specs.Logarithm.{Base, binary, decimal}
use Rattle.exact.specs.Laws.{of_base}
use Rattle.exact.proofs.Ring.{con, ◌⊕◌, ◌⊖◌, ◌⊗◌, ⊝, norm}
use Rattle.exact.proofs.Integer.{x₀, x₁, x₂}
use Rattle.exact.proofs.Rational.{ℚ, ◌+q◌, ◌*q◌, -q◌, ◌-q◌, ofℤ, qring}
use Rattle.exact.proofs.Order.{nn, nn_add, nn_mul, ◌≤q◌, le_by, q_refl, q_trans, q_add, q_neg, q_mul, q_total}
use Rattle.exact.proofs.Bound.{ofℕ, inv, nn_ofℕ, ofℕ_mono, nn_le, le_nn, Bound, bound_more, bound_turn, bound_above, bound_below, mul_right}
use Rattle.exact.proofs.Compare.{product_cls, whole_cls, fr, nn_fr, abs_nn, bound_abs, dy}
use Rattle.exact.proofs.Series.{S, R, from, later}
use Rattle.exact.proofs.Vanish.{Place, vanishes}
use Rattle.exact.proofs.Growth.{S_mono, R_mono}
use Rattle.exact.proofs.Negative.{S_negative}
use Rattle.exact.proofs.Compute.{run, test, held}
use Rattle.exact.proofs.Logarithm.{low, cut, root, low_near_root, low_nn, low_bound}
use Rattle.accuracy.proofs.Outcome.{sum, Under}

-- the sums of b ^ x are those of e ^ (x l), for l the lower end of a bracket of ln b
pub sum_is : (b : Base) (x : Fraction) (j n : ℕ) → sum (of_base b) x j n ≡ S (cls x *q low b (from 80 j)) n
sum_is binary x j n = refl
sum_is decimal x j n = refl

-- ---- the ends of a bracket
pub low_above : (b : Base) (j : ℕ) → root b -q dy 1 84 ≤q low b (from 80 j)
unfolding norm ◌-q◌
low_above b j = le_by (low b (from 80 j) -q root b -q (-q◌ (dy 1 84))) (low_near_root b j).lo.le (qring (x₀ ⊖ (x₁ ⊖ x₂)) (x₀ ⊖ x₁ ⊖ ⊝ x₂) refl (low b (from 80 j) ∷ root b ∷ dy 1 84 ∷ []))

pub low_below : (b : Base) (j : ℕ) → low b (from 80 j) ≤q root b +q dy 1 84
unfolding norm ◌-q◌
low_below b j = le_by (dy 1 84 -q (low b (from 80 j) -q root b)) (low_near_root b j).hi.le (qring (x₁ ⊕ x₂ ⊖ x₀) (x₂ ⊖ (x₀ ⊖ x₁)) refl (low b (from 80 j) ∷ root b ∷ dy 1 84 ∷ []))

-- ---- at and below 0
two_nums : ofℕ 1 +q inv 0 ≤q ofℕ (2 ^ 128 - 2 ^ 103 - 2 ^ 104)
unfolding nn ◌-q◌ ◌+q◌ -q◌ ofℕ ofℤ inv
two_nums = record { le = tt }

pub six_times : Fraction → Fraction
six_times x = times (whole 6) (absolute x)

six_is : (x : Fraction) → cls (six_times x) ≡ ofℕ 6 *q cls (absolute x)
unfolding six_times
six_is x = product_cls (whole 6) (absolute x) ∙ ap (λ (u : ℚ). u *q cls (absolute x)) (whole_cls 6)

pub place : (x : Fraction) (d : ℕ) → Place (cls (six_times x)) d
place x d = vanishes (six_times x) (subst (λ (u : ℚ). T (nn u)) (sym (six_is x)) (nn_mul (ofℕ 6) (cls (absolute x)) (nn_ofℕ 6) (abs_nn x))) d

module _ (b : Base) (x : Fraction) (h : cls x ≤q ofℤ (pos 0)) where
  nn_X : T (nn (-q◌ (cls x)))
  unfolding norm ◌-q◌
  nn_X = subst (λ (u : ℚ). T (nn u)) (qring (con (pos 0) ⊖ x₀) (⊝ x₀) refl (cls x ∷ [])) h.le

  X_size : -q◌ (cls x) ≤q cls (absolute x)
  unfolding norm
  X_size = subst (λ (u : ℚ). -q◌ (cls x) ≤q u) (qring (⊝ (⊝ x₀)) x₀ refl (cls (absolute x) ∷ [])) (q_neg (bound_abs x).lo)

  -- the sums are at most 1 and what is left out
  pub negative_sums : (d j n : ℕ) → (place x d).start ≤ n → Bound (S (cls x *q low b (from 80 j)) n) (ofℕ 1 +q inv d)
  unfolding norm ofℕ
  negative_sums d j n l =
      let p = place x d in
      let L = low b (from 80 j) in
      let A = (-q◌ (cls x)) *q L in
      let W = cls (six_times x) in
      let n_a : T (nn A) = nn_mul (-q◌ (cls x)) L nn_X (low_nn b j) in
      let a3 : A ≤q cls (absolute x) *q ofℕ 3 = q_trans (mul_right L (low_nn b j) X_size) (q_mul (cls (absolute x)) (abs_nn x) (low_bound b j).hi) in
      let a2 : A +q A ≤q W = subst (λ (u : ℚ). A +q A ≤q u) (qring (x₀ ⊗ con (pos 3) ⊕ x₀ ⊗ con (pos 3)) (con (pos 6) ⊗ x₀) refl (cls (absolute x) ∷ []) ∙ sym (six_is x)) (q_add a3 a3) in
      let far : (A +q A) +q (A +q A) ≤q ofℕ n = q_trans (q_add a2 a2) (q_trans p.far (ofℕ_mono p.start n l)) in
      let r : R (A +q A) n ≤q inv d = q_trans (R_mono (A +q A) W (nn_add A A n_a n_a) a2 n) (p.small n l) in
      subst (λ (u : ℚ). Bound (S u n) (ofℕ 1 +q inv d)) (qring (⊝ (⊝ x₀ ⊗ x₁)) (x₀ ⊗ x₁) refl (cls x ∷ L ∷ [])) (bound_more (S_negative A n_a n far) (q_add (q_refl (ofℕ 1)) r))

  pub negative_under : Under (of_base b) x
  negative_under = record { start = λ j. (place x 0).start; below = λ j n l. subst (λ (u : ℚ). u ≤q ofℕ (2 ^ 128 - 2 ^ 103 - 2 ^ 104)) (sym (sum_is b x j n)) (q_trans (negative_sums 0 j n l).hi two_nums) }

-- ---- the last input below the limit, and the first above it, as m / 2 ^ k
abbrev pub last : Base → ℚ
last binary = dy 0xffffff 17
last decimal = dy 0x9a209a 18

abbrev pub first : Base → ℚ
first binary = dy 128 0
first decimal = dy 0x9a209b 18

abbrev last_num : Base → ℕ
last_num binary = 0xffffff * (cut binary + 4096)
last_num decimal = 0x9a209a * (cut decimal + 4096)

abbrev first_num : Base → ℕ
first_num binary = 128 * (cut binary - 4096)
first_num decimal = 0x9a209b * (cut decimal - 4096)

abbrev last_den : Base → ℕ
last_den binary = 113
last_den decimal = 114

abbrev first_den : Base → ℕ
first_den binary = 96
first_den decimal = 114

-- in units of 2 ^ 104 below it and halves of them above it
abbrev last_gap : Base → ℕ
last_gap binary = 88
last_gap decimal = 76

abbrev first_gap : Base → ℕ
first_gap binary = 1
first_gap decimal = 143

last_test : (b : Base) → T (test 1 (2 ^ 128 - 2 ^ 103 - last_gap b * 2 ^ 104) (2 ^ 104) (run (pos (last_num b)) (2 ^ last_den b) 250)) × (2 * last_num b ≤ 250 * 2 ^ last_den b)
unfolding test run
last_test binary = (tt, lit≤ tt)
last_test decimal = (tt, lit≤ tt)

first_test : (b : Base) → T (test 1 (2 ^ 128 - 2 ^ 103 + first_gap b * 2 ^ 103) (2 ^ 102) (run (pos (first_num b)) (2 ^ first_den b) 250)) × (2 * first_num b ≤ 250 * 2 ^ first_den b)
unfolding test run
first_test binary = (tt, lit≤ tt)
first_test decimal = (tt, lit≤ tt)

last_nums : (b : Base) → (last b *q (root b +q dy 1 84) ≤q fr (pos (last_num b)) (2 ^ last_den b) (pow_pos (last_den b))) × (fr (pos (2 ^ 128 - 2 ^ 103 - last_gap b * 2 ^ 104)) 1 (zero-lt-suc 0) +q fr (pos (2 ^ 104)) 1 (zero-lt-suc 0) ≤q ofℕ (2 ^ 128 - 2 ^ 103 - 2 ^ 104)) × T (nn (root b +q dy 1 84))
unfolding nn ◌-q◌ ◌+q◌ -q◌ ◌*q◌ ofℕ ofℤ
last_nums binary = (record { le = tt }, record { le = tt }, tt)
last_nums decimal = (record { le = tt }, record { le = tt }, tt)

first_nums : (b : Base) → (fr (pos (first_num b)) (2 ^ first_den b) (pow_pos (first_den b)) ≤q first b *q (root b -q dy 1 84)) × (ofℕ (2 ^ 128 - 2 ^ 103) ≤q fr (pos (2 ^ 128 - 2 ^ 103 + first_gap b * 2 ^ 103)) 1 (zero-lt-suc 0) -q fr (pos (2 ^ 102)) 1 (zero-lt-suc 0)) × T (nn (root b -q dy 1 84)) × T (nn (first b))
unfolding nn ◌-q◌ ◌+q◌ -q◌ ◌*q◌ ofℕ ofℤ
first_nums binary = (record { le = tt }, record { le = tt }, tt, tt)
first_nums decimal = (record { le = tt }, record { le = tt }, tt, tt)

last_sums : (b : Base) (n : ℕ) → 250 ≤ n → S (fr (pos (last_num b)) (2 ^ last_den b) (pow_pos (last_den b))) n ≤q ofℕ (2 ^ 128 - 2 ^ 103 - 2 ^ 104)
last_sums b n h = later (λ m. S (fr (pos (last_num b)) (2 ^ last_den b) (pow_pos (last_den b))) m ≤q ofℕ (2 ^ 128 - 2 ^ 103 - 2 ^ 104)) 250 (λ j.
    q_trans (bound_above (S (fr (pos (last_num b)) (2 ^ last_den b) (pow_pos (last_den b))) (from 250 j)) (fr (pos (2 ^ 128 - 2 ^ 103 - last_gap b * 2 ^ 104)) 1 (zero-lt-suc 0)) (fr (pos (2 ^ 104)) 1 (zero-lt-suc 0))
    (bound_turn (fr (pos (2 ^ 128 - 2 ^ 103 - last_gap b * 2 ^ 104)) 1 (zero-lt-suc 0)) (S (fr (pos (last_num b)) (2 ^ last_den b) (pow_pos (last_den b))) (from 250 j))
    (held (pos (last_num b)) (2 ^ last_den b) (pow_pos (last_den b)) 250 1 (2 ^ 128 - 2 ^ 103 - last_gap b * 2 ^ 104) (2 ^ 104) (zero-lt-suc 0) (last_test b).1 (last_test b).0 j))) (last_nums b).1) n h

first_sums : (b : Base) (n : ℕ) → 250 ≤ n → ofℕ (2 ^ 128 - 2 ^ 103) ≤q S (fr (pos (first_num b)) (2 ^ first_den b) (pow_pos (first_den b))) n
first_sums b n h = later (λ m. ofℕ (2 ^ 128 - 2 ^ 103) ≤q S (fr (pos (first_num b)) (2 ^ first_den b) (pow_pos (first_den b))) m) 250 (λ j.
    q_trans (first_nums b).1 (bound_below (S (fr (pos (first_num b)) (2 ^ first_den b) (pow_pos (first_den b))) (from 250 j)) (fr (pos (2 ^ 128 - 2 ^ 103 + first_gap b * 2 ^ 103)) 1 (zero-lt-suc 0)) (fr (pos (2 ^ 102)) 1 (zero-lt-suc 0))
    (bound_turn (fr (pos (2 ^ 128 - 2 ^ 103 + first_gap b * 2 ^ 103)) 1 (zero-lt-suc 0)) (S (fr (pos (first_num b)) (2 ^ first_den b) (pow_pos (first_den b))) (from 250 j))
    (held (pos (first_num b)) (2 ^ first_den b) (pow_pos (first_den b)) 250 1 (2 ^ 128 - 2 ^ 103 + first_gap b * 2 ^ 103) (2 ^ 102) (zero-lt-suc 0) (first_test b).1 (first_test b).0 j)))) n h

pub last_under : (b : Base) (x : Fraction) → T (nn (cls x)) → cls x ≤q last b → Under (of_base b) x
last_under b x t h = record {
  start = λ j. 250;
  below = λ j n l.
      let L = low b (from 80 j) in
      let a : cls x *q L ≤q fr (pos (last_num b)) (2 ^ last_den b) (pow_pos (last_den b)) = q_trans (q_mul (cls x) t (low_below b j)) (q_trans (mul_right (root b +q dy 1 84) (last_nums b).2 h) (last_nums b).0) in
      subst (λ (u : ℚ). u ≤q ofℕ (2 ^ 128 - 2 ^ 103 - 2 ^ 104)) (sym (sum_is b x j n)) (q_trans (S_mono (cls x *q L) _ (nn_mul (cls x) L t (low_nn b j)) a n).1 (last_sums b n l));
}

pub under : (b : Base) (x : Fraction) → cls x ≤q last b → Under (of_base b) x
under b x h = elim (q_total (cls x) (ofℤ (pos 0))) [
  | inl l ↦ negative_under b x l
  | inr g ↦ last_under b x (le_nn g) h
]

pub from_first : (b : Base) (x : Fraction) → first b ≤q cls x → (j n : ℕ) → 250 ≤ n → ofℕ (2 ^ 128 - 2 ^ 103) ≤q sum (of_base b) x j n
from_first b x h j n l =
    let L = low b (from 80 j) in
    let t : T (nn (cls x)) = le_nn (q_trans (nn_le (first_nums b).3) h) in
    let a : fr (pos (first_num b)) (2 ^ first_den b) (pow_pos (first_den b)) ≤q cls x *q L = q_trans (first_nums b).0 (q_trans (mul_right (root b -q dy 1 84) (first_nums b).2 h) (q_mul (cls x) t (low_above b j))) in
    subst (λ (u : ℚ). ofℕ (2 ^ 128 - 2 ^ 103) ≤q u) (sym (sum_is b x j n)) (q_trans (first_sums b n l) (S_mono _ (cls x *q L) (nn_fr (first_num b) (2 ^ first_den b) (pow_pos (first_den b))) a n).1)
