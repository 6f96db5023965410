-- exp where no table is read: 1 near zero, and +0 far below it.
use Rattle.std.proofs.Common.{◌≡◌, ℕ, suc, ◌+◌, ◌-◌, ◌*◌, ◌^◌, ◌≤◌, T, [], ◌∷◌, pos, sym, refl, ap, ◌∙◌, subst, zero-lt-suc, lit≤, pow_pos}
use Rattle.std.specs.Float.{Float, binary32}
use Rattle.std.specs.Float.Ieee.{of_bits, size}
use Rattle.std.specs.Float.Ieee.Scale.{finite}
use std.Quotient.{cls}
use Rattle.exact.specs.Fraction.{opposite, times}
use Rattle.exact.specs.Exact.{exp}
use Rattle.exact.proofs.Ring.{con, ◌⊕◌, ◌⊖◌, ⊝, norm}
use Rattle.exact.proofs.Integer.{x₀, x₁, x₂}
use Rattle.exact.proofs.Rational.{ℚ, is, ◌+q◌, ◌*q◌, -q◌, ◌-q◌, ofℤ, qring}
use Rattle.exact.proofs.Order.{nn, ◌≤q◌, q_refl, q_trans, q_add}
use Rattle.exact.proofs.Bound.{ofℕ, inv, Bound, bound_more, bound_add, bound_neg, bound_above}
use Rattle.exact.proofs.Compare.{fr, dy, neg_cls}
use Rattle.exact.proofs.Series.{S, from, later}
use Rattle.exact.proofs.Compute.{run, test, held}
use Rattle.exact.proofs.Shift.{first_two}
use Rattle.exact.proofs.Negative.{far_below}
use Rattle.rounding.specs.Values.{value}
use Rattle.rounding.specs.Units.{unit}
use Rattle.rounding.proofs.Value.{val, val_value}
use Rattle.curves.specs.Steps.{single}
use Rattle.accuracy.specs.Figures.{Right, half_and_part}
use Rattle.accuracy.proofs.Outcome.{right_finite}
use Rattle.accuracy.proofs.ExpLimit.{sum_bottom}

-- ---- 1 for |x| up to 2 ^ -26
one_numbers : (dy 1 25 ≤q inv 1) × (dy 1 25 *q dy 1 25 +q dy 1 25 ≤q cls (times half_and_part (unit binary32 (single 0x3f80_0000)))) × (ofℕ 1 +q dy 1 25 +q dy 1 25 *q dy 1 25 ≤q ofℕ (2 ^ 128 - 2 ^ 103 - 2 ^ 104)) × (val (single 0x3f80_0000) ≡ ofℕ 1) × T (finite (single 0x3f80_0000))
unfolding nn ◌-q◌ ◌+q◌ -q◌ ◌*q◌ inv ofℕ ofℤ val of_bits unit size
one_numbers = (record { le = tt }, record { le = tt }, record { le = tt }, is refl, tt)

pub near_one : (x : Float) → Bound (val x) (dy 1 25) → Right exp x (single 0x3f80_0000)
near_one x b = right_finite exp x (single 0x3f80_0000) one_numbers.4 record { start = λ _. 1; below = λ j n h. q_trans (top n h) one_numbers.2 } (λ _. 1) (λ j n h.
    subst (λ (u : ℚ). Bound (u -q S t n) (cls (times half_and_part (unit binary32 (single 0x3f80_0000))))) (sym one_numbers.3) (bound_more (off n h) one_numbers.1))
  where
    t : ℚ
    t = cls (value x)

    bt : Bound (cls (value x)) (dy 1 25)
    bt = subst (λ (u : ℚ). Bound u (dy 1 25)) (val_value x) b

    two : (n : ℕ) → 1 ≤ n → Bound (S (cls (value x)) n -q (ofℕ 1 +q cls (value x))) (dy 1 25 *q dy 1 25)
    two n h = first_two (cls (value x)) (dy 1 25) bt one_numbers.0 n h

    off : (n : ℕ) → 1 ≤ n → Bound (ofℕ 1 -q S (cls (value x)) n) (dy 1 25 *q dy 1 25 +q dy 1 25)
    off n h = unfold norm ◌-q◌ in subst (λ (u : ℚ). Bound u (dy 1 25 *q dy 1 25 +q dy 1 25)) (qring (⊝ (x₂ ⊖ (x₀ ⊕ x₁)) ⊕ ⊝ x₁) (x₀ ⊖ x₂) refl (ofℕ 1 ∷ cls (value x) ∷ S (cls (value x)) n ∷ [])) (bound_add (bound_neg (two n h)) (bound_neg bt))

    top : (n : ℕ) → 1 ≤ n → S (cls (value x)) n ≤q ofℕ 1 +q dy 1 25 +q dy 1 25 *q dy 1 25
    top n h = q_trans (bound_above (S (cls (value x)) n) (ofℕ 1 +q cls (value x)) (dy 1 25 *q dy 1 25) (two n h)) (q_add (q_add (q_refl (ofℕ 1)) bt.hi) (q_refl (dy 1 25 *q dy 1 25)))

-- ---- +0 for x from -0xcff1b5 * 2 ^ -17 down: e ^ x is at most 2 ^ -150 there, half a unit
abbrev pub zero_from : ℚ
zero_from = fr (pos 0xcff1b5) (2 ^ 17) (pow_pos 17)

unfoldable zero_test : T (test 1 (2 ^ 150 + 7 * 2 ^ 130) (2 ^ 130) (run (pos 0xcff1b5) (2 ^ 17) 300))
unfolding test run
zero_test = tt

abbrev zero_least : ℕ
zero_least = 2 ^ 150 + 6 * 2 ^ 130 - 1

abbrev zero_bound : ℚ
zero_bound = (ofℕ 1 +q inv (2 ^ 19)) *q inv zero_least

zero_numbers : (ofℕ (suc zero_least) ≤q fr (pos (2 ^ 150 + 7 * 2 ^ 130)) 1 (zero-lt-suc 0) -q fr (pos (2 ^ 130)) 1 (zero-lt-suc 0)) × (zero_bound ≤q dy 1 150) × (dy 1 150 ≤q cls (times half_and_part (unit binary32 (single 0)))) × (zero_bound ≤q ofℕ (2 ^ 128 - 2 ^ 103 - 2 ^ 104)) × T (nn zero_from) × (val (single 0) ≡ ofℤ (pos 0)) × T (finite (single 0))
unfolding nn ◌-q◌ ◌+q◌ -q◌ ◌*q◌ ofℕ ofℤ inv val of_bits unit size
zero_numbers = (record { le = tt }, record { le = tt }, record { le = tt }, record { le = tt }, tt, is refl, tt)

zero_sums : (n : ℕ) → 300 ≤ n → ofℕ (suc zero_least) ≤q S zero_from n
zero_sums n h = later (λ i. ofℕ (suc zero_least) ≤q S zero_from i) 300 (λ j.
    q_trans zero_numbers.0 (sum_bottom (fr (pos (2 ^ 150 + 7 * 2 ^ 130)) 1 (zero-lt-suc 0)) (S zero_from (from 300 j)) (fr (pos (2 ^ 130)) 1 (zero-lt-suc 0)) (held (pos 0xcff1b5) (2 ^ 17) (pow_pos 17) 300 1 (2 ^ 150 + 7 * 2 ^ 130) (2 ^ 130) (zero-lt-suc 0) (lit≤ tt) zero_test j))) n h

-- far below 0 the sums vanish: where those at a₀ are at least m + 1, those at an x from -a₀ down are at most (1 + 1 / (e + 1)) / (m + 1) in size, from some place on
pub vanishing : (x : Float) (a₀ : ℚ) (m e n₁ : ℕ) → T (nn a₀) → a₀ ≤q -q◌ (val x) → ((n : ℕ) → n₁ ≤ n → ofℕ (suc m) ≤q S a₀ n)
    → (k : ℕ) × ((n : ℕ) → k ≤ n → Bound (S (cls (value x)) n) ((ofℕ 1 +q inv e) *q inv m))
unfolding norm
vanishing x a₀ m e n₁ t h s =
    let w = opposite (value x) in
    let c : cls w ≡ -q◌ (val x) = neg_cls (value x) ∙ ap -q◌ (sym (val_value x)) in
    let r = far_below w a₀ m e n₁ t (subst (λ (u : ℚ). a₀ ≤q u) (sym c) h) s in
    (r.0, λ n k. subst (λ (u : ℚ). Bound (S u n) ((ofℕ 1 +q inv e) *q inv m)) (ap -q◌ c ∙ qring (⊝ (⊝ x₀)) x₀ refl (val x ∷ []) ∙ val_value x) (r.1 n k))

pub lowest : (x : Float) → zero_from ≤q -q◌ (val x) → Right exp x (single 0)
unfolding norm ◌-q◌
lowest x h =
    let r = vanishing x zero_from zero_least (2 ^ 19) 300 zero_numbers.4 h zero_sums in
    right_finite exp x (single 0) zero_numbers.6 record { start = λ _. r.0; below = λ j n k. q_trans (r.1 n k).hi zero_numbers.3 } (λ _. r.0) (λ j n k.
    subst (λ (u : ℚ). Bound (u -q S (cls (value x)) n) (cls (times half_and_part (unit binary32 (single 0))))) (sym zero_numbers.5)
    (subst (λ (u : ℚ). Bound u (cls (times half_and_part (unit binary32 (single 0))))) (qring (⊝ x₀) (con (pos 0) ⊖ x₀) refl (S (cls (value x)) n ∷ [])) (bound_more (bound_neg (r.1 n k)) (q_trans zero_numbers.1 zero_numbers.2))))
