-- expm1 by its tables: the f64 before the narrowing is within 125 * 2 ^ -48 of the exact value, relative to its own size.
use Rattle.std.proofs.Common.{◌≡◌, ℕ, ◌^◌, ◌≤◌, T, ◌⊎◌, [], ◌∷◌, pos, sym, refl, ◌∙◌, subst, inl, inr, le_refl, zero-lt-suc, lit≤, pow_pos}
use Rattle.std.specs.Float.{Float, binary32, binary64}
use Rattle.std.specs.Float.Ieee.{mul, neg, fits, of_bits}
use Rattle.std.specs.Float.Ieee.Fits.{mul-fits}
use Rattle.std.specs.Float.Ieee.Scale.{finite}
use std.Quotient.{cls}
use Rattle.exact.specs.Exact.{expm1}
use Rattle.exact.proofs.Ring.{con, ◌⊕◌, ◌⊖◌, ◌⊗◌, ⊝, norm}
use Rattle.exact.proofs.Integer.{x₀, x₁, x₂, x₃, x₄, x₅}
use Rattle.exact.proofs.Rational.{ℚ, is, ◌+q◌, ◌*q◌, -q◌, ◌-q◌, ofℤ, qring}
use Rattle.exact.proofs.Order.{nn, nn_add, nn_mul, ◌≤q◌, le_by, q_refl, q_trans, q_add, q_neg, q_mul, q_total}
use Rattle.exact.proofs.Bound.{ofℕ, absq, inv, nn_le, le_nn, Bound, bound_more, bound_add, bound_neg, bound_turn, bound_self, mul_right}
use Rattle.exact.proofs.Compare.{fr, dy, nn_dy}
use Rattle.exact.proofs.Series.{term, S, R, from, later}
use Rattle.exact.proofs.Compute.{run, test, held}
use Rattle.exact.proofs.Growth.{S_mono, R_mono}
use Rattle.exact.proofs.Negative.{S_below}
use Rattle.rounding.specs.Values.{value}
use Rattle.rounding.specs.Ranges.{Ranged, Permitted}
use Rattle.rounding.proofs.Value.{val, val_value}
use Rattle.rounding.proofs.Distance.{abs_neg}
use Rattle.rounding.proofs.Error.{eps, tiny, nn_eps}
use Rattle.rounding.proofs.MultiplyAdd.{slip₂, fma_err}
use Rattle.rounding.proofs.Range.{ranged_above}
use Rattle.rounding.proofs.Limit.{limitℕ}
use Rattle.arithmetic.specs.Arithmetic.{Arithmetic, Lawful}
use Rattle.curves.specs.Tables.{table_exp_m1, table_exp_m2}
use Rattle.curves.specs.Steps.{double, row}
use Rattle.curves.specs.Exp.{k, row_of_whole, row_of_rest, exp_poly, ExpReaches}
use Rattle.curves.specs.Expm1.{expm1_tables_value}
use Rattle.accuracy.specs.Figures.{Right, Agree}
use Rattle.accuracy.specs.Inner.{expm1_wide}
use Rattle.accuracy.specs.Arguments.{LastArguments}
use Rattle.curves.proofs.Law.{fma_law}
use Rattle.accuracy.proofs.Law.{asked}
use Rattle.accuracy.proofs.Rows.{part_factor}
use Rattle.accuracy.proofs.TableProduct.{Product}
use Rattle.accuracy.proofs.ExpSplit.{split, reaches_size}
use Rattle.accuracy.proofs.ExpTables.{exp_product}
use Rattle.accuracy.proofs.ExpLimit.{last_under, Beside, sum_bottom, expm1_under, expm1_placed}
use Rattle.accuracy.proofs.Outcome as Outcome
use Rattle.accuracy.proofs.Outcome.{close, Near, nearer, right, agree, right_near, agree_near, minus_sign}

abbrev one : ℚ
one = ofℤ (pos 1)

-- the error of the last multiply-add, that of the product, that of the figure's f64, and how near to 1 the product comes
abbrev f : ℚ
f = dy 9 55

abbrev m : ℚ
m = dy 231 53

abbrev pub near_by : ℚ
near_by = dy 125 48

abbrev high : ℚ
high = dy 1089 10

abbrev low : ℚ
low = dy 966 10

-- ---- the error of q - 1, from that of q and one multiply-add
line_numbers : T (nn (near_by -q near_by *q f -q m -q f)) × T (nn ((near_by -q near_by *q f -q m -q f) *q high -q near_by -q near_by *q f -q f)) × T (nn (near_by +q near_by *q f +q m +q f)) × T (nn (near_by -q near_by *q f -q f -q (near_by +q near_by *q f +q m +q f) *q low)) × T (nn near_by)
unfolding nn ◌-q◌ ◌+q◌ -q◌ ◌*q◌ ofℤ
line_numbers = (tt, tt, tt, tt, tt)

error_sum : (z q s : ℚ) → Bound (q -q s) (m *q q) → Bound (z -q (q -q one)) (f *q (q +q one)) → Bound (z -q (s -q one)) (m *q q +q f *q (q +q one))
unfolding norm ◌-q◌
error_sum z q s b c = subst (λ (x : ℚ). Bound x (m *q q +q f *q (q +q one))) (qring (x₁ ⊖ x₂ ⊕ (x₀ ⊖ (x₁ ⊖ con (pos 1)))) (x₀ ⊖ (x₂ ⊖ con (pos 1))) refl (z ∷ q ∷ s ∷ [])) (bound_add b c)

above_one : (z q s : ℚ) → Bound (q -q s) (m *q q) → Bound (z -q (q -q one)) (f *q (q +q one)) → high ≤q q → Bound (z -q (s -q one)) (near_by *q z)
unfolding norm ◌-q◌
above_one z q s b c h =
    let a = near_by -q near_by *q f -q m -q f in
    bound_more (error_sum z q s b c)
    (le_by (a *q (q -q high) +q (a *q high -q near_by -q near_by *q f -q f) +q near_by *q (z -q (q -q one) -q (-q◌ (f *q (q +q one))))) (nn_add _ _ (nn_add _ _ (nn_mul a (q -q high) line_numbers.0 h.le) line_numbers.1) (nn_mul near_by (z -q (q -q one) -q (-q◌ (f *q (q +q one)))) line_numbers.4 c.lo.le))
    (qring (x₅ ⊗ x₀ ⊖ (x₃ ⊗ x₁ ⊕ x₂ ⊗ (x₁ ⊕ con (pos 1))))
    ((x₅ ⊖ x₅ ⊗ x₂ ⊖ x₃ ⊖ x₂) ⊗ (x₁ ⊖ x₄) ⊕ ((x₅ ⊖ x₅ ⊗ x₂ ⊖ x₃ ⊖ x₂) ⊗ x₄ ⊖ x₅ ⊖ x₅ ⊗ x₂ ⊖ x₂) ⊕ x₅ ⊗ (x₀ ⊖ (x₁ ⊖ con (pos 1)) ⊖ ⊝ (x₂ ⊗ (x₁ ⊕ con (pos 1))))) refl (z ∷ q ∷ f ∷ m ∷ high ∷ near_by ∷ [])))

below_one : (z q s : ℚ) → Bound (q -q s) (m *q q) → Bound (z -q (q -q one)) (f *q (q +q one)) → q ≤q low → Bound (z -q (s -q one)) (near_by *q (-q◌ z))
unfolding norm ◌-q◌
below_one z q s b c h =
    let a = near_by +q near_by *q f +q m +q f in
    bound_more (error_sum z q s b c)
    (le_by (a *q (low -q q) +q (near_by -q near_by *q f -q f -q a *q low) +q near_by *q (f *q (q +q one) -q (z -q (q -q one)))) (nn_add _ _ (nn_add _ _ (nn_mul a (low -q q) line_numbers.2 h.le) line_numbers.3) (nn_mul near_by (f *q (q +q one) -q (z -q (q -q one))) line_numbers.4 c.hi.le))
    (qring (x₅ ⊗ (⊝ x₀) ⊖ (x₃ ⊗ x₁ ⊕ x₂ ⊗ (x₁ ⊕ con (pos 1))))
    ((x₅ ⊕ x₅ ⊗ x₂ ⊕ x₃ ⊕ x₂) ⊗ (x₄ ⊖ x₁) ⊕ (x₅ ⊖ x₅ ⊗ x₂ ⊖ x₂ ⊖ (x₅ ⊕ x₅ ⊗ x₂ ⊕ x₃ ⊕ x₂) ⊗ x₄) ⊕ x₅ ⊗ (x₂ ⊗ (x₁ ⊕ con (pos 1)) ⊖ (x₀ ⊖ (x₁ ⊖ con (pos 1))))) refl (z ∷ q ∷ f ∷ m ∷ low ∷ near_by ∷ [])))

-- the sign and the size of z
size_numbers : (dy 1 5 +q f *q (high +q one) ≤q high -q one) × T (nn (one -q f)) × T (nn (one +q f)) × (low -q one +q f *q (low +q one) ≤q -q◌ (dy 1 5)) × T (nn f) × (dy 1 400 ≤q dy 1 5) × (one +q f *q (low +q one) ≤q ofℕ 2) × (-q◌ (dy 1 5) ≤q -q◌ (dy 1 400))
unfolding nn ◌-q◌ ◌+q◌ -q◌ ◌*q◌ ofℤ ofℕ
size_numbers = (record { le = tt }, tt, tt, record { le = tt }, tt, record { le = tt }, record { le = tt }, record { le = tt })

z_high : (z q : ℚ) → Bound (z -q (q -q one)) (f *q (q +q one)) → high ≤q q → dy 1 5 ≤q z
unfolding norm ◌-q◌
z_high z q c h =
    le_by (z -q (q -q one) -q (-q◌ (f *q (q +q one))) +q (one -q f) *q (q -q high) +q (high -q one -q (dy 1 5 +q f *q (high +q one)))) (nn_add _ _ (nn_add _ _ c.lo.le (nn_mul (one -q f) (q -q high) size_numbers.1 h.le)) size_numbers.0.le)
    (qring (x₀ ⊖ x₄) (x₀ ⊖ (x₁ ⊖ con (pos 1)) ⊖ ⊝ (x₂ ⊗ (x₁ ⊕ con (pos 1))) ⊕ (con (pos 1) ⊖ x₂) ⊗ (x₁ ⊖ x₃) ⊕ (x₃ ⊖ con (pos 1) ⊖ (x₄ ⊕ x₂ ⊗ (x₃ ⊕ con (pos 1))))) refl (z ∷ q ∷ f ∷ high ∷ dy 1 5 ∷ []))

z_low : (z q : ℚ) → Bound (z -q (q -q one)) (f *q (q +q one)) → q ≤q low → z ≤q -q◌ (dy 1 5)
unfolding norm ◌-q◌
z_low z q c h =
    le_by (f *q (q +q one) -q (z -q (q -q one)) +q (one +q f) *q (low -q q) +q (-q◌ (dy 1 5) -q (low -q one +q f *q (low +q one)))) (nn_add _ _ (nn_add _ _ c.hi.le (nn_mul (one +q f) (low -q q) size_numbers.2 h.le)) size_numbers.3.le)
    (qring (⊝ x₄ ⊖ x₀) (x₂ ⊗ (x₁ ⊕ con (pos 1)) ⊖ (x₀ ⊖ (x₁ ⊖ con (pos 1))) ⊕ (con (pos 1) ⊕ x₂) ⊗ (x₃ ⊖ x₁) ⊕ (⊝ x₄ ⊖ (x₃ ⊖ con (pos 1) ⊕ x₂ ⊗ (x₃ ⊕ con (pos 1))))) refl (z ∷ q ∷ f ∷ low ∷ dy 1 5 ∷ []))

z_bottom : (z q : ℚ) → T (nn q) → Bound (z -q (q -q one)) (f *q (q +q one)) → q ≤q low → -q◌ z ≤q ofℕ 2
unfolding norm ◌-q◌
z_bottom z q nq c h =
    le_by (z -q (q -q one) -q (-q◌ (f *q (q +q one))) +q q +q f *q (low -q q) +q (ofℕ 2 -q (one +q f *q (low +q one)))) (nn_add _ _ (nn_add _ _ (nn_add _ _ c.lo.le nq) (nn_mul f (low -q q) size_numbers.4 h.le)) size_numbers.6.le)
    (qring (x₄ ⊖ ⊝ x₀) (x₀ ⊖ (x₁ ⊖ con (pos 1)) ⊖ ⊝ (x₂ ⊗ (x₁ ⊕ con (pos 1))) ⊕ x₁ ⊕ x₂ ⊗ (x₃ ⊖ x₁) ⊕ (x₄ ⊖ (con (pos 1) ⊕ x₂ ⊗ (x₃ ⊕ con (pos 1))))) refl (z ∷ q ∷ f ∷ low ∷ ofℕ 2 ∷ []))

-- ---- the multiply-add with -1
abbrev minus_one : Float
minus_one = neg (double 0x3ff0_0000_0000_0000)

minus_value : (val minus_one ≡ -q◌ one) × T (finite minus_one)
unfolding val -q◌ ofℤ neg of_bits
minus_value = (is refl, tt)

minus_range : Ranged binary64 400 minus_one
unfolding neg of_bits fits
minus_range = (tt, inr (lit≤ tt, lit≤ tt))

fma_numbers : (ofℕ (2 ^ 323) ≤q ofℕ (2 ^ 402)) × (ofℕ (2 ^ 323) +q one +q (ofℕ (2 ^ 323) *q eps binary64 +q tiny binary64) ≤q ofℕ (2 ^ 402)) × T (nn (f -q eps binary64 -q eps binary64 -q eps binary64 *q eps binary64)) × T (nn (f -q eps binary64 -q tiny binary64 -q tiny binary64 -q tiny binary64 *q eps binary64)) × T (nn one)
unfolding nn ◌-q◌ ◌+q◌ -q◌ ◌*q◌ ofℤ ofℕ
fma_numbers = (record { le = tt }, record { le = tt }, tt, tt, tt)

slip_above : (q : ℚ) → T (nn q) → slip₂ binary64 q (q +q one) ≤q f *q (q +q one)
unfolding norm ◌-q◌
slip_above q nq =
    let e = eps binary64 in
    let t = tiny binary64 in
    le_by {a = slip₂ binary64 q (q +q one)} ((f -q e -q e -q e *q e) *q q +q (f -q e -q t -q t -q t *q e)) (nn_add _ _ (nn_mul (f -q e -q e -q e *q e) q fma_numbers.2 nq) fma_numbers.3)
    (qring (x₀ ⊗ (x₁ ⊕ con (pos 1)) ⊖ (x₁ ⊗ x₂ ⊕ x₃ ⊕ ((x₁ ⊕ con (pos 1) ⊕ (x₁ ⊗ x₂ ⊕ x₃)) ⊗ x₂ ⊕ x₃))) ((x₀ ⊖ x₂ ⊖ x₂ ⊖ x₂ ⊗ x₂) ⊗ x₁ ⊕ (x₀ ⊖ x₂ ⊖ x₃ ⊖ x₃ ⊖ x₃ ⊗ x₂)) refl (f ∷ q ∷ e ∷ t ∷ []))

less_one : (z₁ t₂ z : Float) → T (finite z₁) → T (finite t₂) → Permitted binary64 z₁ t₂ minus_one z → T (nn (val z₁ *q val t₂)) → val z₁ *q val t₂ ≤q ofℕ (2 ^ 323) → T (finite z) × Bound (val z -q (val z₁ *q val t₂ -q one)) (f *q (val z₁ *q val t₂ +q one))
unfolding norm ◌-q◌
less_one z₁ t₂ z f₁ f₂ law nq most =
    let q = val z₁ *q val t₂ in
    let b : Bound (val minus_one) one = subst (λ (x : ℚ). Bound x one) (sym minus_value.0) (bound_neg (bound_self fma_numbers.4)) in
    let w = fma_err binary64 z₁ t₂ minus_one z q (q +q one) 402 f₁ f₂ minus_value.1 law (bound_self nq) (bound_add (bound_self nq) b) (q_trans most fma_numbers.0)
    (q_trans (q_add (q_add most (q_refl one)) (q_add (mul_right (eps binary64) (nn_eps binary64) most) (q_refl (tiny binary64)))) fma_numbers.1) (lit≤ tt) in
    (w.is_finite, bound_more (subst (λ (x : ℚ). Bound (val z -q (q +q x)) (slip₂ binary64 q (q +q one))) minus_value.0 w.off) (slip_above q nq))

-- ---- the product is away from 1 where x is away from 0
abbrev pub sixteenth : ℚ
sixteenth = fr (pos 1) 16 (zero-lt-suc 15)

unfoldable sixteenth_test : T (test (2 ^ 20) 1116203 1 (run (pos 1) 16 40))
unfolding test run
sixteenth_test = tt

abbrev bottom : ℚ
bottom = dy 1090 10

abbrev gap : ℚ
gap = dy 1 11

away_numbers : (bottom ≤q fr (pos 1116203) (2 ^ 20) (pow_pos 20) -q fr (pos 1) (2 ^ 20) (pow_pos 20)) × T (nn sixteenth) × T (nn bottom) × (ofℕ 106 +q ofℕ 106 +q (ofℕ 106 +q ofℕ 106) ≤q ofℕ 700) × (R (ofℕ 106 +q ofℕ 106) 700 ≤q dy 1 20) × (high +q m *q high ≤q bottom -q gap) × T (nn m) × T (nn (one -q m)) × (ofℕ 1 +q dy 1 20 +q gap ≤q (one -q m) *q low *q bottom)
unfolding nn ◌-q◌ ◌+q◌ -q◌ ◌*q◌ ofℤ ofℕ term inv
away_numbers = (record { le = tt }, tt, tt, record { le = tt }, record { le = tt }, record { le = tt }, tt, tt, record { le = tt })

sixteenth_sum : bottom ≤q S sixteenth 700
sixteenth_sum = later (λ i. bottom ≤q S sixteenth i) 40 (λ j.
    q_trans away_numbers.0 (sum_bottom (fr (pos 1116203) (2 ^ 20) (pow_pos 20)) (S sixteenth (from 40 j)) (fr (pos 1) (2 ^ 20) (pow_pos 20)) (held (pos 1) 16 (zero-lt-suc 15) 40 (2 ^ 20) 1116203 1 (pow_pos 20) (lit≤ tt) sixteenth_test j))) 700 (lit≤ tt)

below_zero : gap ≤q ofℤ (pos 0) → ⊥
unfolding nn ◌-q◌ ◌+q◌ -q◌ ofℤ
below_zero h = h.le

no_gap : (x : ℚ) → x +q gap ≤q x → ⊥
unfolding norm ◌-q◌
no_gap x h = below_zero (le_by (x -q (x +q gap)) h.le (qring (con (pos 0) ⊖ x₁) (x₀ ⊖ (x₀ ⊕ x₁)) refl (x ∷ gap ∷ [])))

away_high : (t q : ℚ) → sixteenth ≤q t → Bound (q -q S t 700) (m *q q) → high ≤q q
unfolding norm ◌-q◌
away_high t q h b = elim (q_total high q) [
  | inl g ↦ g
  | inr g ↦
      let s : bottom ≤q S t 700 = q_trans sixteenth_sum (S_mono sixteenth t away_numbers.1 h 700).1 in
      let u : S t 700 ≤q bottom -q gap = q_trans (le_by (q -q S t 700 -q (-q◌ (m *q q))) b.lo.le (qring (x₀ ⊕ x₂ ⊖ x₁) (x₀ ⊖ x₁ ⊖ ⊝ x₂) refl (q ∷ S t 700 ∷ m *q q ∷ []))) (q_trans (q_add g (q_mul m away_numbers.6 g)) away_numbers.5) in
      absurd (no_gap (bottom -q gap) (subst (λ (v : ℚ). v ≤q bottom -q gap) (qring x₀ (x₀ ⊖ x₁ ⊕ x₁) refl (bottom ∷ gap ∷ [])) (q_trans s u)))
]

away_low : (A q : ℚ) → A ≤q ofℕ 106 → sixteenth ≤q A → Bound (q -q S (-q◌ A) 700) (m *q q) → q ≤q low
unfolding norm ◌-q◌
away_low A q most h b = elim (q_total low q) [
  | inr g ↦ g
  | inl g ↦
      let n_a : T (nn A) = le_nn (q_trans (nn_le away_numbers.1) h) in
      let s : bottom ≤q S A 700 = q_trans sixteenth_sum (S_mono sixteenth A away_numbers.1 h 700).1 in
      let t2 = q_add most most in
      let r : R (A +q A) 700 ≤q dy 1 20 = q_trans (R_mono (A +q A) (ofℕ 106 +q ofℕ 106) (nn_add A A n_a n_a) t2 700) away_numbers.4 in
      let e : S (-q◌ A) 700 *q bottom ≤q ofℕ 1 +q dy 1 20 = q_trans (S_below A bottom n_a 700 (q_trans (q_add t2 t2) away_numbers.3) away_numbers.2 s).hi (q_add (q_refl (ofℕ 1)) r) in
      let v : (one -q m) *q q ≤q S (-q◌ A) 700 = le_by (m *q q -q (q -q S (-q◌ A) 700)) b.hi.le (qring (x₁ ⊖ (con (pos 1) ⊖ x₂) ⊗ x₀) (x₂ ⊗ x₀ ⊖ (x₀ ⊖ x₁)) refl (q ∷ S (-q◌ A) 700 ∷ m ∷ [])) in
      absurd (no_gap (ofℕ 1 +q dy 1 20) (q_trans away_numbers.8 (q_trans (mul_right bottom away_numbers.2 (q_trans (q_mul (one -q m) away_numbers.7 g) v)) e)))
]

-- ---- the f64 that is narrowed: its arguments
range_numbers : (dy 1 400 ≤q dy 1 162) × (ofℕ (2 ^ 163) ≤q ofℕ (2 ^ 400)) × (dy 1 400 ≤q dy 1 160) × (ofℕ (2 ^ 160) ≤q ofℕ (2 ^ 400)) × (ofℕ 105 ≤q ofℕ 106) × (near_by ≤q close) × (-q◌ sixteenth ≤q last_under)
unfolding nn ◌-q◌ ◌+q◌ -q◌ ofℕ ofℤ
range_numbers = (record { le = tt }, record { le = tt }, record { le = tt }, record { le = tt }, record { le = tt }, record { le = tt }, record { le = tt })

pub record LastRanges (a : Arithmetic) (x : Float) : Type 0 where
  pub first : Ranged binary64 400 (mul binary64 (exp_poly a x) (row table_exp_m1 (row_of_whole (k a x))))
  pub second : Ranged binary64 400 (row table_exp_m2 (row_of_rest (k a x)))

last_ranges : (a : Arithmetic) → Lawful a → (x : Float) → T (fits binary32 x) → ExpReaches x → LastRanges a x
last_ranges a w x fx t =
    let p = exp_product a w x fx t in
    let f₂ = part_factor (row_of_rest (k a x)) (split a w x fx t).rest_row in
    let z₁ = mul binary64 (exp_poly a x) (row table_exp_m1 (row_of_whole (k a x))) in
    let t₂ = row table_exp_m2 (row_of_rest (k a x)) in
    record {
      first = ranged_above binary64 400 z₁ (ofℕ (2 ^ 163)) (mul-fits binary64 (exp_poly a x) (row table_exp_m1 (row_of_whole (k a x)))) p.finite_first (q_trans range_numbers.0 p.low_first) (bound_more (bound_self (le_nn (q_trans (nn_le (nn_dy 1 162)) p.low_first))) p.high_first) range_numbers.1;
      second = ranged_above binary64 400 t₂ (ofℕ (2 ^ 160)) f₂.is_fit f₂.is_finite (q_trans range_numbers.2 f₂.low) (bound_more (bound_self (le_nn (q_trans (nn_le (nn_dy 1 160)) f₂.low))) f₂.high) range_numbers.3;
    }

pub last_arguments : (a : Arithmetic) → Lawful a → (x : Float) → T (fits binary32 x) → ExpReaches x → LastArguments a x
last_arguments a w x fx t = let r = last_ranges a w x fx t in asked r.first r.second minus_range

-- what is known of it, with the inner statement, on either side of 0
pub record Positive (a : Arithmetic) (x : Float) : Type 0 where
  pub near : Near expm1 (value x) near_by (expm1_wide a x)
  pub above : dy 1 5 ≤q val (expm1_wide a x)

pub record Negative (a : Arithmetic) (x : Float) : Type 0 where
  pub near : Near expm1 (value x) near_by (expm1_wide a x)
  pub below : val (expm1_wide a x) ≤q -q◌ (dy 1 5)
  pub bottom : -q◌ (val (expm1_wide a x)) ≤q ofℕ 2

module _ (a : Arithmetic) (w : Lawful a) (x : Float) (fx : T (fits binary32 x)) (t : ExpReaches x) where
  abbrev z : Float
  z = expm1_wide a x

  abbrev q : ℚ
  q = val (mul binary64 (exp_poly a x) (row table_exp_m1 (row_of_whole (k a x)))) *q val (row table_exp_m2 (row_of_rest (k a x)))

  product : Product (mul binary64 (exp_poly a x) (row table_exp_m1 (row_of_whole (k a x)))) (row table_exp_m2 (row_of_rest (k a x))) (val x)
  product = exp_product a w x fx t

  last : T (finite (expm1_wide a x)) × Bound (val (expm1_wide a x) -q (q -q one)) (f *q (q +q one))
  last =
      let r = last_ranges a w x fx t in
      let f₂ = part_factor (row_of_rest (k a x)) (split a w x fx t).rest_row in
      less_one _ _ (expm1_wide a x) product.finite_first f₂.is_finite (fma_law a w _ _ minus_one r.first r.second minus_range) product.not_negative product.high

  off : (n : ℕ) → 700 ≤ n → Bound (q -q S (val x) n) (m *q q)
  off n h = bound_turn (S (val x) n) q (product.near n h).off

  pub positive : sixteenth ≤q val x → Positive a x
  unfolding ofℕ
  positive h =
      let g = away_high (val x) q h (off 700 (le_refl 700)) in
      let l = z_high (val z) q last.1 g in
      record {
        near = Outcome.near_positive expm1 (value x) near_by z last.0 (le_nn (q_trans (nn_le (nn_dy 1 5)) l)) (λ _. 700) (λ j n i. subst (λ (u : ℚ). Bound (val z -q (S u n -q one)) (near_by *q val z)) (val_value x) (above_one (val z) q (S (val x) n) (off n i) last.1 g));
        above = l;
      }

  pub negative : val x ≤q -q◌ sixteenth → Negative a x
  unfolding ofℕ norm
  negative h =
      let A = -q◌ (val x) in
      let back : val x ≡ -q◌ A = qring x₀ (⊝ (⊝ x₀)) refl (val x ∷ []) in
      let hA : sixteenth ≤q A = subst (λ (u : ℚ). u ≤q A) (qring (⊝ (⊝ x₀)) x₀ refl (sixteenth ∷ [])) (q_neg h) in
      let top : A ≤q ofℕ 106 = q_trans (bound_neg (reaches_size x fx t).1).hi range_numbers.4 in
      let g = away_low A q top hA (subst (λ (u : ℚ). Bound (q -q S u 700) (m *q q)) back (off 700 (le_refl 700))) in
      let l = z_low (val z) q last.1 g in
      let nl : dy 1 5 ≤q -q◌ (val z) = subst (λ (u : ℚ). u ≤q -q◌ (val z)) (qring (⊝ (⊝ x₀)) x₀ refl (dy 1 5 ∷ [])) (q_neg l) in
      record {
        near = record {
          is_finite = last.0;
          start = λ _. 700;
          off = λ j n i. subst (λ (u : ℚ). Bound (val z -q (S (cls (value x)) n -q one)) (near_by *q u)) (sym (abs_neg (val z) (le_nn (q_trans (nn_le (nn_dy 1 5)) nl))))
              (subst (λ (u : ℚ). Bound (val z -q (S u n -q one)) (near_by *q (-q◌ (val z)))) (val_value x) (below_one (val z) q (S (val x) n) (off n i) last.1 g));
        };
        below = l;
        bottom = z_bottom (val z) q product.not_negative last.1 g;
      }

-- ---- the figure
not_two : ofℕ (limitℕ binary32) ≤q ofℕ 2 → ⊥
unfolding nn ◌-q◌ ◌+q◌ -q◌ ofℕ ofℤ
not_two h = h.le

not_limit : (z : Float) → val z ≤q -q◌ (dy 1 5) → -q◌ (val z) ≤q ofℕ 2 → ofℕ (limitℕ binary32) ≤q absq (val z) → ⊥
unfolding norm
not_limit z l h g = not_two (q_trans (subst (λ (u : ℚ). ofℕ (limitℕ binary32) ≤q u) (abs_neg (val z) (le_nn (q_trans (nn_le (nn_dy 1 5)) (subst (λ (u : ℚ). u ≤q -q◌ (val z)) (qring (⊝ (⊝ x₀)) x₀ refl (dy 1 5 ∷ [])) (q_neg l))))) g) h)

size : (x : Float) → T (fits binary32 x) → ExpReaches x → Bound (cls (value x)) (ofℕ 106)
size x fx t = subst (λ (u : ℚ). Bound u (ofℕ 106)) (val_value x) (bound_more (reaches_size x fx t).1 range_numbers.4)

narrowable : (a : Arithmetic) (x : Float) → Positive a x → Outcome.Wide expm1 (value x) 5 (expm1_wide a x)
narrowable a x v = record { above = v.above; near = nearer close range_numbers.5 v.near }

placed : (x : Float) → T (fits binary32 x) → ExpReaches x → Beside (val x) → Outcome.Placed expm1 (value x)
placed x fx t h = expm1_placed (value x) (size x fx t) (subst (λ (u : ℚ). Beside u) (val_value x) h)

-- from 1 / 16 up, or from -1 / 16 down
abbrev pub AwayFromZero : ℚ → Type 0
AwayFromZero t = (sixteenth ≤q t) ⊎ (t ≤q -q◌ sixteenth)

pub tables_right : (a : Arithmetic) → Lawful a → (x : Float) → T (fits binary32 x) → ExpReaches x → Beside (val x) → AwayFromZero (val x) → Right expm1 x (expm1_tables_value a x)
tables_right a w x fx t h (inl g) = right expm1 x (expm1_wide a x) 5 (placed x fx t h) (narrowable a x (positive a w x fx t g))
tables_right a w x fx t h (inr g) =
    let v = negative a w x fx t g in
    right_near expm1 x (expm1_wide a x) (nearer close range_numbers.5 v.near) (not_limit (expm1_wide a x) v.below v.bottom) (expm1_under (value x) (size x fx t) (subst (λ (y : ℚ). y ≤q last_under) (val_value x) (q_trans g range_numbers.6)))

pub tables_agree : (a b : Arithmetic) → Lawful a → Lawful b → (x : Float) → T (fits binary32 x) → ExpReaches x → Beside (val x) → AwayFromZero (val x) → Agree expm1 x (expm1_tables_value a x) (expm1_tables_value b x)
tables_agree a b w u x fx t h (inl g) = agree expm1 x (expm1_wide a x) (expm1_wide b x) 5 (placed x fx t h) (narrowable a x (positive a w x fx t g)) (narrowable b x (positive b u x fx t g))
tables_agree a b w u x fx t h (inr g) =
    let v = negative a w x fx t g in
    let y = negative b u x fx t g in
    agree_near expm1 x (expm1_wide a x) (expm1_wide b x) (nearer close range_numbers.5 v.near) (nearer close range_numbers.5 y.near) (not_limit (expm1_wide a x) v.below v.bottom) (not_limit (expm1_wide b x) y.below y.bottom)
    (minus_sign (expm1_wide a x) 5 v.near.is_finite v.below ∙ sym (minus_sign (expm1_wide b x) 5 y.near.is_finite y.below))
