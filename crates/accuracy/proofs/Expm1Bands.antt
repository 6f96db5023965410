-- expm1 where nothing is computed: x itself near zero, the smallest values included, and -1 far below it.
use Rattle.std.proofs.Common.{◌≡◌, ℕ, suc, ◌-◌, ◌^◌, ◌≤◌, T, [], ◌∷◌, pos, sym, refl, ap, ◌∙◌, subst, zero-lt-suc, lit≤}
use Rattle.std.specs.Float.{Float, binary32}
use Rattle.std.specs.Float.Ieee.{fits, of_bits, size}
use Rattle.std.specs.Float.Ieee.Scale.{finite}
use std.Quotient.{cls}
use Rattle.exact.specs.Fraction.{Fraction, times}
use Rattle.exact.specs.Exact.{expm1}
use Rattle.exact.proofs.Ring.{con, ◌⊕◌, ◌⊖◌, ◌⊗◌, ⊝, norm}
use Rattle.exact.proofs.Integer.{x₀, x₁, x₂}
use Rattle.exact.proofs.Rational.{ℚ, is, ◌+q◌, ◌*q◌, -q◌, ◌-q◌, ofℤ, qring}
use Rattle.exact.proofs.Order.{nn, nn_mul, ◌≤q◌, le_by, q_trans, q_mul}
use Rattle.exact.proofs.Bound.{ofℕ, inv, absq, bound_abs, nn_le, le_nn, Bound, bound_nn, bound_more, bound_neg, mul_right}
use Rattle.exact.proofs.Compare.{fr, dy, nn_dy, product_cls}
use Rattle.exact.proofs.Series.{S, from, later}
use Rattle.exact.proofs.Compute.{run, test, held}
use Rattle.exact.proofs.Shift.{first_two}
use Rattle.rounding.specs.Values.{value}
use Rattle.rounding.specs.Units.{unit}
use Rattle.rounding.proofs.Value.{val, val_value}
use Rattle.rounding.proofs.Distance.{abs_least}
use Rattle.rounding.proofs.Figure.{held_units}
use Rattle.curves.specs.Steps.{single}
use Rattle.accuracy.specs.Figures.{Right, half_and_part}
use Rattle.accuracy.proofs.Outcome.{right_finite}
use Rattle.accuracy.proofs.ExpLimit.{last_under, sum_bottom, expm1_under}
use Rattle.accuracy.proofs.ExpBands.{vanishing}

-- ---- x itself, for |x| at most 2 ^ -25: e ^ x - 1 - x is within x ^ 2 of 0, which is at most half a unit
self_numbers : (dy 1 25 ≤q inv 1) × (dy 1 25 *q ofℕ (2 ^ 24) ≤q cls half_and_part) × (dy 1 25 ≤q ofℕ 106) × (dy 1 25 ≤q last_under) × T (nn (ofℕ (2 ^ 24)))
unfolding nn ◌-q◌ ◌+q◌ -q◌ ◌*q◌ inv ofℕ ofℤ
self_numbers = (record { le = tt }, record { le = tt }, record { le = tt }, record { le = tt }, tt)

-- a unit is not negative: a size is at most 2 ^ 24 of them
least_unit : (A U : ℚ) → T (nn A) → A ≤q ofℕ (2 ^ 24) *q U → T (nn U)
unfolding norm
least_unit A U n_a h = subst (λ (u : ℚ). T (nn u)) (qring (x₀ ⊗ (x₁ ⊗ x₂)) (x₀ ⊗ x₁ ⊗ x₂) refl (dy 1 24 ∷ ofℕ (2 ^ 24) ∷ U ∷ []) ∙ ap (λ (u : ℚ). u *q U) whole ∙ qring (con (pos 1) ⊗ x₀) x₀ refl (U ∷ []))
    (nn_mul (dy 1 24) (ofℕ (2 ^ 24) *q U) (nn_dy 1 24) (le_nn (q_trans (nn_le n_a) h)))
  where
    whole : dy 1 24 *q ofℕ (2 ^ 24) ≡ ofℤ (pos 1)
    whole = unfold ◌*q◌ ofℕ ofℤ in is refl

pub itself : (x : Float) → T (finite x) → T (fits binary32 x) → Bound (val x) (dy 1 25) → Right expm1 x x
itself x fx wx b = right_finite expm1 x x fx (expm1_under (value x) (bound_more bt self_numbers.2) (q_trans bt.hi self_numbers.3)) (λ _. 1) off
  where
    A : ℚ
    A = absq (val x)

    n_a : T (nn (absq (val x)))
    n_a = bound_nn (bound_abs (val x))

    U : Fraction
    U = unit binary32 x

    bt : Bound (cls (value x)) (dy 1 25)
    bt = subst (λ (u : ℚ). Bound u (dy 1 25)) (val_value x) b

    small : absq (val x) ≤q dy 1 25
    small = abs_least (val x) (dy 1 25) b

    units : absq (val x) ≤q ofℕ (2 ^ 24) *q cls (unit binary32 x)
    units = held_units binary32 x fx wx

    slack : absq (val x) *q absq (val x) ≤q cls (times half_and_part (unit binary32 x))
    slack = unfold norm in q_trans (mul_right (absq (val x)) n_a small) (q_trans (q_mul (dy 1 25) (nn_dy 1 25) units)
        (subst (λ (u : ℚ). u ≤q cls (times half_and_part (unit binary32 x))) (qring (x₀ ⊗ x₁ ⊗ x₂) (x₀ ⊗ (x₁ ⊗ x₂)) refl (dy 1 25 ∷ ofℕ (2 ^ 24) ∷ cls (unit binary32 x) ∷ []))
        (subst (λ (u : ℚ). dy 1 25 *q ofℕ (2 ^ 24) *q cls (unit binary32 x) ≤q u) (sym (product_cls half_and_part (unit binary32 x))) (mul_right (cls (unit binary32 x)) (least_unit (absq (val x)) (cls (unit binary32 x)) n_a units) self_numbers.1))))

    off : (j n : ℕ) → 1 ≤ n → Bound (val x -q (S (cls (value x)) n -q ofℕ 1)) (cls (times half_and_part (unit binary32 x)))
    off j n h = unfold norm ◌-q◌ in subst (λ (u : ℚ). Bound (u -q (S (cls (value x)) n -q ofℕ 1)) (cls (times half_and_part (unit binary32 x)))) (sym (val_value x))
        (subst (λ (u : ℚ). Bound u (cls (times half_and_part (unit binary32 x)))) (qring (⊝ (x₀ ⊖ (x₁ ⊕ x₂))) (x₂ ⊖ (x₀ ⊖ x₁)) refl (S (cls (value x)) n ∷ ofℕ 1 ∷ cls (value x) ∷ []))
        (bound_neg (bound_more (first_two (cls (value x)) (absq (val x)) (subst (λ (u : ℚ). Bound u (absq (val x))) (val_value x) (bound_abs (val x))) (q_trans small self_numbers.0) n h) slack)))

-- ---- -1 for x at most -17
abbrev pub seventeen : ℚ
seventeen = fr (pos 17) 1 (zero-lt-suc 0)

unfoldable minus_test : T (test 1 24154952 1000 (run (pos 17) 1 60))
unfolding test run
minus_test = tt

abbrev minus_bound : ℚ
minus_bound = (ofℕ 1 +q inv 7) *q inv 23999999

minus_numbers : (ofℕ (suc 23999999) ≤q fr (pos 24154952) 1 (zero-lt-suc 0) -q fr (pos 1000) 1 (zero-lt-suc 0)) × (minus_bound ≤q cls (times half_and_part (unit binary32 (single 0xbf80_0000)))) × (minus_bound ≤q ofℕ (2 ^ 128 - 2 ^ 103 - 2 ^ 104) +q ofℕ 1) × T (nn seventeen) × (val (single 0xbf80_0000) ≡ -q◌ (ofℕ 1)) × T (finite (single 0xbf80_0000))
unfolding nn ◌-q◌ ◌+q◌ -q◌ ◌*q◌ ofℕ ofℤ inv val of_bits unit size
minus_numbers = (record { le = tt }, record { le = tt }, record { le = tt }, tt, is refl, tt)

minus_sums : (n : ℕ) → 60 ≤ n → ofℕ (suc 23999999) ≤q S seventeen n
minus_sums n h = later (λ i. ofℕ (suc 23999999) ≤q S seventeen i) 60 (λ j.
    q_trans minus_numbers.0 (sum_bottom (fr (pos 24154952) 1 (zero-lt-suc 0)) (S seventeen (from 60 j)) (fr (pos 1000) 1 (zero-lt-suc 0)) (held (pos 17) 1 (zero-lt-suc 0) 60 1 24154952 1000 (zero-lt-suc 0) (lit≤ tt) minus_test j))) n h

pub lowest : (x : Float) → seventeen ≤q -q◌ (val x) → Right expm1 x (single 0xbf80_0000)
unfolding norm ◌-q◌
lowest x h =
    let r = vanishing x seventeen 23999999 7 60 minus_numbers.3 h minus_sums in
    right_finite expm1 x (single 0xbf80_0000) minus_numbers.5 record { start = λ _. r.0; below = λ j n k. less (S (cls (value x)) n) (q_trans (r.1 n k).hi minus_numbers.2) } (λ _. r.0) (λ j n k.
    subst (λ (u : ℚ). Bound (u -q (S (cls (value x)) n -q ofℕ 1)) (cls (times half_and_part (unit binary32 (single 0xbf80_0000))))) (sym minus_numbers.4)
    (subst (λ (u : ℚ). Bound u (cls (times half_and_part (unit binary32 (single 0xbf80_0000))))) (qring (⊝ x₀) (⊝ x₁ ⊖ (x₀ ⊖ x₁)) refl (S (cls (value x)) n ∷ ofℕ 1 ∷ [])) (bound_more (bound_neg (r.1 n k)) minus_numbers.1)))
  where
    less : (s : ℚ) → s ≤q ofℕ (2 ^ 128 - 2 ^ 103 - 2 ^ 104) +q ofℕ 1 → s -q ofℕ 1 ≤q ofℕ (2 ^ 128 - 2 ^ 103 - 2 ^ 104)
    less s p = unfold norm ◌-q◌ in le_by (ofℕ (2 ^ 128 - 2 ^ 103 - 2 ^ 104) +q ofℕ 1 -q s) p.le (qring (x₀ ⊖ (x₂ ⊖ x₁)) (x₀ ⊕ x₁ ⊖ x₂) refl (ofℕ (2 ^ 128 - 2 ^ 103 - 2 ^ 104) ∷ ofℕ 1 ∷ s ∷ []))
