-- exp10 near zero: 1 + x p(x), p of seven terms by Horner's scheme, is within 2 ^ -43 of 10 ^ x, relative to it, before the narrowing.
use Rattle.std.proofs.Common.{◌≡◌, ℕ, ◌≤◌, T, [], ◌∷◌, pos, sym, refl, subst, inr, le_trans, lit≤}
use Rattle.std.specs.Float.{Float, binary32, binary64}
use Rattle.std.specs.Float.Ieee.{of_bits, fits}
use Rattle.std.specs.Float.Ieee.Scale.{finite}
use Rattle.exact.specs.Logarithm.{decimal}
use Rattle.exact.specs.Exact.{exp10}
use Rattle.exact.proofs.Ring.{con, ◌⊕◌, ◌⊖◌, ◌⊗◌, ⊝, norm}
use Rattle.exact.proofs.Integer.{x₀, x₁, x₂, x₃, x₄, x₅, x₆, x₇, x₈}
use Rattle.exact.proofs.Rational.{ℚ, ◌+q◌, ◌*q◌, -q◌, ◌-q◌, ofℤ, qring}
use Rattle.exact.proofs.Order.{nn, ◌≤q◌, q_trans}
use Rattle.exact.proofs.Bound.{ofℕ, inv, Bound, bound_more, bound_add, bound_mul, bound_neg, bound_is}
use Rattle.exact.proofs.Compare.{nn_dy, dy}
use Rattle.exact.proofs.Series.{term, S, R, later, tail}
use Rattle.exact.proofs.Logarithm.{root}
use Rattle.rounding.specs.Values.{value}
use Rattle.rounding.specs.Ranges.{Ranged}
use Rattle.rounding.proofs.Value.{val}
use Rattle.rounding.proofs.Range.{FmaLaw}
use Rattle.curves.specs.Steps.{double, poly7}
use Rattle.accuracy.proofs.Horner.{f32_range, Stage, Numbers, horner}
use Rattle.accuracy.proofs.NearZero.{wide, last_low, zero_near}
use Rattle.accuracy.proofs.Outcome.{Near, nearer, close, Wide}
use Rattle.accuracy.proofs.PowerProduct.{unit, start}
use Rattle.accuracy.proofs.PowerTable.{lift}

abbrev pub s₀ : Float
s₀ = double 0x4002_6bb1_bbb5_5516

abbrev pub s₁ : Float
s₁ = double 0x4005_3524_c73c_fbf6

abbrev pub s₂ : Float
s₂ = double 0x4000_4705_91de_0b07

abbrev pub s₃ : Float
s₃ = double 0x3ff2_bd76_0599_f3a5

abbrev pub s₄ : Float
s₄ = double 0x3fe1_42a0_0151_1a6f

abbrev pub s₅ : Float
s₅ = double 0x3fca_7fef_fa78_1d53

abbrev pub s₆ : Float
s₆ = double 0x3fb1_6e53_492c_0f0e

abbrev X : ℚ
X = dy 1 5

-- ---- the numbers
pub ranges : Ranged binary64 400 s₀ × Ranged binary64 400 s₁ × Ranged binary64 400 s₂ × Ranged binary64 400 s₃ × Ranged binary64 400 s₄ × Ranged binary64 400 s₅ × Ranged binary64 400 s₆
unfolding of_bits fits
ranges = ((tt, inr (lit≤ tt, lit≤ tt)), (tt, inr (lit≤ tt, lit≤ tt)), (tt, inr (lit≤ tt, lit≤ tt)), (tt, inr (lit≤ tt, lit≤ tt)), (tt, inr (lit≤ tt, lit≤ tt)), (tt, inr (lit≤ tt, lit≤ tt)), (tt, inr (lit≤ tt, lit≤ tt)))

sizes : Bound (val s₀) (dy 11 2) × Bound (val s₁) (dy 11 2) × Bound (val s₂) (dy 11 2) × Bound (val s₃) (dy 11 2) × Bound (val s₄) (dy 11 2) × Bound (val s₅) (dy 11 2) × Bound (val s₆) (dy 3 0)
unfolding nn ◌-q◌ ◌+q◌ -q◌ val of_bits
sizes = (bound_is tt tt, bound_is tt tt, bound_is tt tt, bound_is tt tt, bound_is tt tt, bound_is tt tt, bound_is tt tt)

-- each step asks the same of its coefficient
steps : Numbers X (dy 3 0) (dy 1 60) (dy 11 2) (dy 3 0) (dy 1 50) s₅ × Numbers X (dy 3 0) (dy 1 50) (dy 11 2) (dy 3 0) (dy 1 50) s₄ × Numbers X (dy 3 0) (dy 1 50) (dy 11 2) (dy 3 0) (dy 1 50) s₃ × Numbers X (dy 3 0) (dy 1 50) (dy 11 2) (dy 3 0) (dy 1 50) s₂ × Numbers X (dy 3 0) (dy 1 50) (dy 11 2) (dy 3 0) (dy 1 50) s₁ × Numbers X (dy 3 0) (dy 1 50) (dy 11 2) (dy 3 0) (dy 1 50) s₀
unfolding nn ◌-q◌ ◌+q◌ -q◌ ◌*q◌ ofℕ ofℤ val of_bits
steps = (
  record { errors = (record { le = tt }, record { le = tt }, record { le = tt }, record { le = tt }); most = record { le = tt }; least = record { le = tt } },
  record { errors = (record { le = tt }, record { le = tt }, record { le = tt }, record { le = tt }); most = record { le = tt }; least = record { le = tt } },
  record { errors = (record { le = tt }, record { le = tt }, record { le = tt }, record { le = tt }); most = record { le = tt }; least = record { le = tt } },
  record { errors = (record { le = tt }, record { le = tt }, record { le = tt }, record { le = tt }); most = record { le = tt }; least = record { le = tt } },
  record { errors = (record { le = tt }, record { le = tt }, record { le = tt }, record { le = tt }); most = record { le = tt }; least = record { le = tt } },
  record { errors = (record { le = tt }, record { le = tt }, record { le = tt }, record { le = tt }); most = record { le = tt }; least = record { le = tt } },
)

abbrev pub seven : ℚ → ℚ
seven t = t *q (t *q (t *q (t *q (t *q (t *q val s₆ +q val s₅) +q val s₄) +q val s₃) +q val s₂) +q val s₁) +q val s₀

module _ (fma : Float → Float → Float → Float) (law : FmaLaw binary64 400 fma) (x : Float) (fx : T (finite x)) (wx : T (fits binary32 x)) (bx : Bound (val x) (dy 1 5)) where
  step : (acc a : Float) (v e : ℚ) → Ranged binary64 400 a → Bound (val a) (dy 11 2) → Stage acc v (dy 3 0) e → Numbers X (dy 3 0) e (dy 11 2) (dy 3 0) (dy 1 50) a → Stage (fma x acc a) (val x *q v +q val a) (dy 3 0) (dy 1 50)
  step acc a v e r b s c = horner fma law x acc a v X (dy 3 0) e (dy 11 2) (dy 3 0) (dy 1 50) (f32_range x (dy 1 5) fx wx bx wide) bx r b s c

  pub stage₁ : Stage (fma x s₆ s₅) (val x *q val s₆ +q val s₅) (dy 3 0) (dy 1 50)
  stage₁ = step s₆ s₅ (val s₆) (dy 1 60) ranges.5 sizes.5 (start s₆ (dy 3 0) ranges.6 sizes.6) steps.0

  pub stage₂ : Stage (fma x (fma x s₆ s₅) s₄) (val x *q (val x *q val s₆ +q val s₅) +q val s₄) (dy 3 0) (dy 1 50)
  stage₂ = step _ s₄ _ (dy 1 50) ranges.4 sizes.4 stage₁ steps.1

  pub stage₃ : Stage (fma x (fma x (fma x s₆ s₅) s₄) s₃) (val x *q (val x *q (val x *q val s₆ +q val s₅) +q val s₄) +q val s₃) (dy 3 0) (dy 1 50)
  stage₃ = step _ s₃ _ (dy 1 50) ranges.3 sizes.3 stage₂ steps.2

  pub stage₄ : Stage (fma x (fma x (fma x (fma x s₆ s₅) s₄) s₃) s₂) (val x *q (val x *q (val x *q (val x *q val s₆ +q val s₅) +q val s₄) +q val s₃) +q val s₂) (dy 3 0) (dy 1 50)
  stage₄ = step _ s₂ _ (dy 1 50) ranges.2 sizes.2 stage₃ steps.3

  pub stage₅ : Stage (fma x (fma x (fma x (fma x (fma x s₆ s₅) s₄) s₃) s₂) s₁) (val x *q (val x *q (val x *q (val x *q (val x *q val s₆ +q val s₅) +q val s₄) +q val s₃) +q val s₂) +q val s₁) (dy 3 0) (dy 1 50)
  stage₅ = step _ s₁ _ (dy 1 50) ranges.1 sizes.1 stage₄ steps.4

  pub stage : Stage (poly7 fma x s₀ s₁ s₂ s₃ s₄ s₅ s₆) (seven (val x)) (dy 3 0) (dy 1 50)
  stage = step _ s₀ _ (dy 1 50) ranges.0 sizes.0 stage₅ steps.5

-- ---- against the series
abbrev q₁ : ℚ
q₁ = root decimal *q inv 0

abbrev q₂ : ℚ
q₂ = q₁ *q root decimal *q inv 1

abbrev q₃ : ℚ
q₃ = q₂ *q root decimal *q inv 2

abbrev q₄ : ℚ
q₄ = q₃ *q root decimal *q inv 3

abbrev q₅ : ℚ
q₅ = q₄ *q root decimal *q inv 4

abbrev q₆ : ℚ
q₆ = q₅ *q root decimal *q inv 5

abbrev q₇ : ℚ
q₇ = q₆ *q root decimal *q inv 6

seven_terms : (t l : ℚ) → S (t *q l) 7 ≡ t *q (t *q (t *q (t *q (t *q (t *q (t *q (l *q inv 0 *q l *q inv 1 *q l *q inv 2 *q l *q inv 3 *q l *q inv 4 *q l *q inv 5 *q l *q inv 6) +q l *q inv 0 *q l *q inv 1 *q l *q inv 2 *q l *q inv 3 *q l *q inv 4 *q l *q inv 5) +q l *q inv 0 *q l *q inv 1 *q l *q inv 2 *q l *q inv 3 *q l *q inv 4) +q l *q inv 0 *q l *q inv 1 *q l *q inv 2 *q l *q inv 3) +q l *q inv 0 *q l *q inv 1 *q l *q inv 2) +q l *q inv 0 *q l *q inv 1) +q l *q inv 0) +q ofℕ 1
unfolding S term norm ofℕ
seven_terms t l =
    let u = x₀ ⊗ x₁ in
    let w₁ = con (pos 1) ⊗ u ⊗ x₂ in
    let w₂ = w₁ ⊗ u ⊗ x₃ in
    let w₃ = w₂ ⊗ u ⊗ x₄ in
    let w₄ = w₃ ⊗ u ⊗ x₅ in
    let w₅ = w₄ ⊗ u ⊗ x₆ in
    let w₆ = w₅ ⊗ u ⊗ x₇ in
    let w₇ = w₆ ⊗ u ⊗ x₈ in
    let v₁ = x₁ ⊗ x₂ in
    let v₂ = v₁ ⊗ x₁ ⊗ x₃ in
    let v₃ = v₂ ⊗ x₁ ⊗ x₄ in
    let v₄ = v₃ ⊗ x₁ ⊗ x₅ in
    let v₅ = v₄ ⊗ x₁ ⊗ x₆ in
    let v₆ = v₅ ⊗ x₁ ⊗ x₇ in
    let v₇ = v₆ ⊗ x₁ ⊗ x₈ in
    qring (con (pos 1) ⊕ w₁ ⊕ w₂ ⊕ w₃ ⊕ w₄ ⊕ w₅ ⊕ w₆ ⊕ w₇) (x₀ ⊗ (x₀ ⊗ (x₀ ⊗ (x₀ ⊗ (x₀ ⊗ (x₀ ⊗ (x₀ ⊗ v₇ ⊕ v₆) ⊕ v₅) ⊕ v₄) ⊕ v₃) ⊕ v₂) ⊕ v₁) ⊕ con (pos 1)) refl (t ∷ l ∷ inv 0 ∷ inv 1 ∷ inv 2 ∷ inv 3 ∷ inv 4 ∷ inv 5 ∷ inv 6 ∷ [])

diff : Bound (val unit -q ofℕ 1) (dy 1 60) × Bound (val s₀ -q q₁) (dy 1 51) × Bound (val s₁ -q q₂) (dy 1 38) × Bound (val s₂ -q q₃) (dy 1 37) × Bound (val s₃ -q q₄) (dy 9 29) × Bound (val s₄ -q q₅) (dy 1 26) × Bound (val s₅ -q q₆) (dy 9 18) × Bound (val s₆ -q q₇) (dy 1 21)
unfolding nn ◌-q◌ ◌+q◌ -q◌ ◌*q◌ ofℕ ofℤ val of_bits inv
diff = (bound_is tt tt, bound_is tt tt, bound_is tt tt, bound_is tt tt, bound_is tt tt, bound_is tt tt, bound_is tt tt, bound_is tt tt)

series_nums : (X *q (X *q (X *q (X *q (X *q (X *q (X *q dy 1 21 +q dy 9 18) +q dy 1 26) +q dy 9 29) +q dy 1 37) +q dy 1 38) +q dy 1 51) +q dy 1 60 ≤q dy 61 50) × (X *q dy 2359 10 +q X *q dy 2359 10 ≤q ofℕ 7) × (R (X *q dy 2359 10) 7 ≤q dy 41 50) × Bound (root decimal) (dy 2359 10)
    × (dy 61 50 +q dy 41 50 +q dy 1 51 ≤q dy 120 50 *q dy 28 5) × (dy 120 50 +q (dy 1 84 +q dy 1 84) +q dy 120 50 *q (dy 1 84 +q dy 1 84) +q dy 1 90 ≤q dy 1 43) × (dy 1 43 ≤q close) × (dy 1 1 ≤q dy 28 5)
unfolding nn ◌-q◌ ◌+q◌ -q◌ ◌*q◌ ofℕ ofℤ term inv
series_nums = (record { le = tt }, record { le = tt }, record { le = tt }, bound_is tt tt, record { le = tt }, record { le = tt }, record { le = tt }, record { le = tt })

module _ (t : ℚ) (bt : Bound t (dy 1 5)) where
  seven_near : Bound (seven t *q t +q val unit -q S (t *q root decimal) 7) (dy 61 50)
  unfolding norm
  seven_near =
      subst (λ (z : ℚ). Bound (seven t *q t +q val unit -q z) (dy 61 50)) (sym (seven_terms t (root decimal)))
      (subst (λ (y : ℚ). Bound (y -q (t *q (t *q (t *q (t *q (t *q (t *q (t *q q₇ +q q₆) +q q₅) +q q₄) +q q₃) +q q₂) +q q₁) +q ofℕ 1)) (dy 61 50)) (qring (x₀ ⊗ x₁ ⊕ x₂) (x₁ ⊗ x₀ ⊕ x₂) refl (t ∷ seven t ∷ val unit ∷ []))
      (bound_more
      (lift t _ _ (val unit) (ofℕ 1) X _ (dy 1 60) bt
      (lift t _ _ (val s₀) q₁ X _ (dy 1 51) bt
      (lift t _ _ (val s₁) q₂ X _ (dy 1 38) bt
      (lift t _ _ (val s₂) q₃ X _ (dy 1 37) bt
      (lift t _ _ (val s₃) q₄ X _ (dy 9 29) bt
      (lift t _ _ (val s₄) q₅ X _ (dy 1 26) bt
      (lift t (val s₆) q₇ (val s₅) q₆ X (dy 1 21) (dy 9 18) bt diff.7 diff.6) diff.5) diff.4) diff.3) diff.2) diff.1) diff.0) series_nums.0))

  seven_series : (n : ℕ) → 8 ≤ n → Bound (seven t *q t +q val unit -q S (t *q root decimal) n) (dy 61 50 +q dy 41 50)
  unfolding norm ◌-q◌
  seven_series n k =
      let tl = later (λ i. Bound (S (t *q root decimal) i -q S (t *q root decimal) 7) (dy 41 50)) 7 (λ j. bound_more (tail (t *q root decimal) (X *q dy 2359 10) (bound_mul bt series_nums.3) 7 series_nums.1 j) series_nums.2) n (le_trans (lit≤ tt) k) in
      subst (λ (u : ℚ). Bound u (dy 61 50 +q dy 41 50)) (qring (x₀ ⊖ x₁ ⊕ ⊝ (x₂ ⊖ x₁)) (x₀ ⊖ x₂) refl ((seven t *q t +q val unit) ∷ S (t *q root decimal) 7 ∷ S (t *q root decimal) n ∷ [])) (bound_add seven_near (bound_neg tl))

-- ---- the f64 before the narrowing
module _ (fma : Float → Float → Float → Float) (law : FmaLaw binary64 400 fma) (x : Float) (fx : T (finite x)) (wx : T (fits binary32 x)) (bx : Bound (val x) (dy 1 5)) where
  abbrev pub small : Float
  small = fma (poly7 fma x s₀ s₁ s₂ s₃ s₄ s₅ s₆) x unit

  pub small_is_near : Near exp10 (value x) (dy 1 43) small
  small_is_near = zero_near fma law x (poly7 fma x s₀ s₁ s₂ s₃ s₄ s₅ s₆) (seven (val x)) fx wx bx (stage fma law x fx wx bx) decimal (dy 61 50 +q dy 41 50) (dy 120 50) (dy 1 43) (nn_dy 120 50) (seven_series (val x) bx) series_nums.4 series_nums.5

  pub small_wide : Wide exp10 (value x) 1 small
  small_wide = record { above = q_trans series_nums.7 (last_low fma law x (poly7 fma x s₀ s₁ s₂ s₃ s₄ s₅ s₆) (seven (val x)) fx wx bx (stage fma law x fx wx bx)); near = nearer close series_nums.6 small_is_near }
