-- exp2 near zero: 1 + x p(x), p of six terms in pairs, is within 2 ^ -47 of 2 ^ x, relative to it, before the narrowing.
use Rattle.std.proofs.Common.{◌≡◌, ℕ, ◌^◌, ◌≤◌, T, [], ◌∷◌, pos, sym, refl, subst, inr, le_trans, lit≤}
use Rattle.std.specs.Float.{Float, binary32, binary64}
use Rattle.std.specs.Float.Ieee.{mul, of_bits, fits}
use Rattle.std.specs.Float.Ieee.Scale.{finite}
use Rattle.exact.specs.Logarithm.{binary}
use Rattle.exact.specs.Exact.{exp2}
use Rattle.exact.proofs.Ring.{con, ◌⊕◌, ◌⊖◌, ◌⊗◌, ⊝, norm}
use Rattle.exact.proofs.Integer.{x₀, x₁, x₂, x₃, x₄, x₅, x₆, x₇}
use Rattle.exact.proofs.Rational.{ℚ, ◌+q◌, ◌*q◌, -q◌, ◌-q◌, ofℤ, qring}
use Rattle.exact.proofs.Order.{nn, ◌≤q◌, q_trans}
use Rattle.exact.proofs.Bound.{ofℕ, inv, Bound, bound_more, bound_add, bound_mul, bound_neg, bound_is}
use Rattle.exact.proofs.Compare.{nn_dy, dy}
use Rattle.exact.proofs.Series.{term, S, R, later, tail}
use Rattle.exact.proofs.Logarithm.{root}
use Rattle.rounding.specs.Values.{value}
use Rattle.rounding.specs.Ranges.{Ranged}
use Rattle.rounding.proofs.Value.{val}
use Rattle.rounding.proofs.Horner.{ball_size, Step}
use Rattle.rounding.proofs.Range.{FmaLaw}
use Rattle.rounding.proofs.Scaled.{above}
use Rattle.curves.specs.Steps.{double, poly6}
use Rattle.accuracy.proofs.Horner.{f32_range, Stage, Numbers, horner}
use Rattle.accuracy.proofs.NearZero.{wide, last_low, zero_near, square_step, square_off, square_size, square_exact, square_range}
use Rattle.accuracy.proofs.Outcome.{Near, nearer, close, Wide}
use Rattle.accuracy.proofs.PowerProduct.{unit, start}
use Rattle.accuracy.proofs.PowerTable.{lift}

abbrev pub h₀ : Float
h₀ = double 0x3fe6_2e42_fefa_39f3

abbrev pub h₁ : Float
h₁ = double 0x3fce_bfbd_ff82_c57b

abbrev pub h₂ : Float
h₂ = double 0x3fac_6b08_d6f2_d7aa

abbrev pub h₃ : Float
h₃ = double 0x3f83_b2ab_6fc9_2f5d

abbrev pub h₄ : Float
h₄ = double 0x3f55_d897_cfe2_7125

abbrev pub h₅ : Float
h₅ = double 0x3f24_3090_e61e_6af1

-- ---- the numbers
pub ranges : Ranged binary64 400 h₀ × Ranged binary64 400 h₁ × Ranged binary64 400 h₂ × Ranged binary64 400 h₃ × Ranged binary64 400 h₄ × Ranged binary64 400 h₅
unfolding of_bits fits
ranges = ((tt, inr (lit≤ tt, lit≤ tt)), (tt, inr (lit≤ tt, lit≤ tt)), (tt, inr (lit≤ tt, lit≤ tt)), (tt, inr (lit≤ tt, lit≤ tt)), (tt, inr (lit≤ tt, lit≤ tt)), (tt, inr (lit≤ tt, lit≤ tt)))

sizes : Bound (val h₀) (dy 3 2) × Bound (val h₁) (dy 1 2) × Bound (val h₂) (dy 1 4) × Bound (val h₃) (dy 1 6) × Bound (val h₄) (dy 1 9) × Bound (val h₅) (dy 1 12)
unfolding nn ◌-q◌ ◌+q◌ -q◌ val of_bits
sizes = (bound_is tt tt, bound_is tt tt, bound_is tt tt, bound_is tt tt, bound_is tt tt, bound_is tt tt)

first_nums : Numbers (dy 1 5) (dy 1 12) (dy 1 60) (dy 1 9) (dy 1 8) (dy 1 55) h₄ × Numbers (dy 1 5) (dy 1 6) (dy 1 60) (dy 1 4) (dy 1 3) (dy 1 55) h₂ × Numbers (dy 1 5) (dy 1 2) (dy 1 60) (dy 3 2) (dy 25 5) (dy 1 52) h₀
unfolding nn ◌-q◌ ◌+q◌ -q◌ ◌*q◌ ofℕ ofℤ val of_bits
first_nums = (
  record { errors = (record { le = tt }, record { le = tt }, record { le = tt }, record { le = tt }); most = record { le = tt }; least = record { le = tt } },
  record { errors = (record { le = tt }, record { le = tt }, record { le = tt }, record { le = tt }); most = record { le = tt }; least = record { le = tt } },
  record { errors = (record { le = tt }, record { le = tt }, record { le = tt }, record { le = tt }); most = record { le = tt }; least = record { le = tt } },
)

low_nums : (dy 1 5 +q (dy 1 5 *q dy 1 6 +q dy 1 55) ≤q val h₂) × (dy 1 1 +q (dy 1 5 *q dy 1 2 +q dy 1 52) ≤q val h₀) × (dy 1 400 +q (dy 1 9 *q dy 1 8 +q dy 1 54) ≤q dy 1 5) × (dy 1 400 +q (dy 1 9 *q dy 1 1 +q dy 1 52) ≤q dy 1 1) × (dy 1 3 +q dy 1 55 ≤q dy 1 2) × (dy 25 5 +q dy 1 52 ≤q dy 1 0)
unfolding nn ◌-q◌ ◌+q◌ -q◌ ◌*q◌ val of_bits
low_nums = (record { le = tt }, record { le = tt }, record { le = tt }, record { le = tt }, record { le = tt }, record { le = tt })

second_steps : Step binary64 200 (dy 1 9) (dy 1 8) (dy 1 55) (dy 1 2) (dy 1 1) (dy 1 54) × (dy 1 1 +q dy 1 54 ≤q ofℕ (2 ^ 400)) × (dy 1 54 +q (dy 1 62 *q dy 1 8 +q dy 1 55) ≤q dy 1 53) × (dy 1 10 *q dy 1 8 +q dy 1 2 ≤q dy 1 1)
    × Step binary64 200 (dy 1 9) (dy 1 1) (dy 1 53) (dy 1 0) (dy 2 0) (dy 1 52) × (dy 2 0 +q dy 1 52 ≤q ofℕ (2 ^ 400)) × (dy 1 52 +q (dy 1 62 *q dy 1 1 +q dy 1 52) ≤q dy 1 50) × (dy 1 10 *q dy 1 1 +q dy 1 0 ≤q dy 3 0)
unfolding nn ◌-q◌ ◌+q◌ -q◌ ◌*q◌ ofℕ ofℤ
second_steps = ((record { le = tt }, record { le = tt }, record { le = tt }, record { le = tt }), record { le = tt }, record { le = tt }, record { le = tt }, (record { le = tt }, record { le = tt }, record { le = tt }, record { le = tt }), record { le = tt }, record { le = tt }, record { le = tt })

-- p(t) as the steps have it
abbrev pub six : ℚ → ℚ
six t = t *q t *q (t *q t *q (t *q val h₅ +q val h₄) +q (t *q val h₃ +q val h₂)) +q (t *q val h₁ +q val h₀)

module _ (fma : Float → Float → Float → Float) (law : FmaLaw binary64 400 fma) (x : Float) (fx : T (finite x)) (wx : T (fits binary32 x)) (bx : Bound (val x) (dy 1 5)) where
  abbrev u₀ : Float
  u₀ = fma x h₅ h₄

  abbrev u₁ : Float
  u₁ = fma x h₃ h₂

  abbrev u₂ : Float
  u₂ = fma x h₁ h₀

  abbrev sq : Float
  sq = mul binary64 x x

  pub stage₀ : Stage u₀ (val x *q val h₅ +q val h₄) (dy 1 8) (dy 1 55)
  stage₀ = horner fma law x h₅ h₄ (val h₅) (dy 1 5) (dy 1 12) (dy 1 60) (dy 1 9) (dy 1 8) (dy 1 55) (f32_range x (dy 1 5) fx wx bx wide) bx ranges.4 sizes.4 (start h₅ (dy 1 12) ranges.5 sizes.5) first_nums.0

  narrow₁ : Stage u₁ (val x *q val h₃ +q val h₂) (dy 1 3) (dy 1 55)
  narrow₁ = horner fma law x h₃ h₂ (val h₃) (dy 1 5) (dy 1 6) (dy 1 60) (dy 1 4) (dy 1 3) (dy 1 55) (f32_range x (dy 1 5) fx wx bx wide) bx ranges.2 sizes.2 (start h₃ (dy 1 6) ranges.3 sizes.3) first_nums.1

  narrow₂ : Stage u₂ (val x *q val h₁ +q val h₀) (dy 25 5) (dy 1 52)
  narrow₂ = horner fma law x h₁ h₀ (val h₁) (dy 1 5) (dy 1 2) (dy 1 60) (dy 3 2) (dy 25 5) (dy 1 52) (f32_range x (dy 1 5) fx wx bx wide) bx ranges.0 sizes.0 (start h₁ (dy 1 2) ranges.1 sizes.1) first_nums.2

  -- with room for the error
  pub stage₁ : Stage u₁ (val x *q val h₃ +q val h₂) (dy 1 2) (dy 1 55)
  stage₁ = record { ball = record { is_finite = narrow₁.ball.is_finite; off = narrow₁.ball.off; size = bound_more narrow₁.ball.size wider }; range = narrow₁.range }
    where
      wider : dy 1 3 ≤q dy 1 2
      wider = unfold nn ◌-q◌ ◌+q◌ -q◌ in record { le = tt }

  pub stage₂ : Stage u₂ (val x *q val h₁ +q val h₀) (dy 1 0) (dy 1 52)
  stage₂ = record { ball = record { is_finite = narrow₂.ball.is_finite; off = narrow₂.ball.off; size = bound_more narrow₂.ball.size wider }; range = narrow₂.range }
    where
      wider : dy 25 5 ≤q dy 1 0
      wider = unfold nn ◌-q◌ ◌+q◌ -q◌ in record { le = tt }

  u₁_low : dy 1 5 ≤q val u₁
  u₁_low = above {r = val u₁} {y = val x *q val h₃} {a = val h₂} narrow₁.ball.off (bound_mul bx sizes.3) low_nums.0

  u₂_low : dy 1 1 ≤q val u₂
  u₂_low = above {r = val u₂} {y = val x *q val h₁} {a = val h₀} narrow₂.ball.off (bound_mul bx sizes.1) low_nums.1

  pub stage₃ : Stage (fma sq u₀ u₁) (val x *q val x *q (val x *q val h₅ +q val h₄) +q (val x *q val h₃ +q val h₂)) (dy 1 1) (dy 1 53)
  stage₃ = square_step fma law sq u₀ u₁ (val x *q val x) (val x *q val h₅ +q val h₄) (val x *q val h₃ +q val h₂) (dy 1 8) (dy 1 55) (dy 1 2) (dy 1 55) (dy 1 1) (dy 1 54) (dy 1 1) (dy 1 53)
      (square_range x fx wx bx) (square_size x fx wx bx) (square_off x fx wx bx) (square_exact x fx wx bx) stage₀ stage₁ (bound_more (ball_size narrow₁.ball) low_nums.4)
      (record { numbers = record { errors = second_steps.0; most = second_steps.1; least = q_trans low_nums.2 u₁_low }; off = second_steps.2; size = second_steps.3 })

  pub stage : Stage (poly6 fma x h₀ h₁ h₂ h₃ h₄ h₅) (six (val x)) (dy 3 0) (dy 1 50)
  stage = square_step fma law sq (fma sq u₀ u₁) u₂ (val x *q val x) (val x *q val x *q (val x *q val h₅ +q val h₄) +q (val x *q val h₃ +q val h₂)) (val x *q val h₁ +q val h₀) (dy 1 1) (dy 1 53) (dy 1 0) (dy 1 52) (dy 2 0) (dy 1 52) (dy 3 0) (dy 1 50)
      (square_range x fx wx bx) (square_size x fx wx bx) (square_off x fx wx bx) (square_exact x fx wx bx) stage₃ stage₂ (bound_more (ball_size narrow₂.ball) low_nums.5)
      (record { numbers = record { errors = second_steps.4; most = second_steps.5; least = q_trans low_nums.3 u₂_low }; off = second_steps.6; size = second_steps.7 })

-- ---- against the series
abbrev d₁ : ℚ
d₁ = root binary *q inv 0

abbrev d₂ : ℚ
d₂ = d₁ *q root binary *q inv 1

abbrev d₃ : ℚ
d₃ = d₂ *q root binary *q inv 2

abbrev d₄ : ℚ
d₄ = d₃ *q root binary *q inv 3

abbrev d₅ : ℚ
d₅ = d₄ *q root binary *q inv 4

abbrev d₆ : ℚ
d₆ = d₅ *q root binary *q inv 5

six_terms : (t l : ℚ) → S (t *q l) 6 ≡ t *q (t *q (t *q (t *q (t *q (t *q (l *q inv 0 *q l *q inv 1 *q l *q inv 2 *q l *q inv 3 *q l *q inv 4 *q l *q inv 5) +q l *q inv 0 *q l *q inv 1 *q l *q inv 2 *q l *q inv 3 *q l *q inv 4) +q l *q inv 0 *q l *q inv 1 *q l *q inv 2 *q l *q inv 3) +q l *q inv 0 *q l *q inv 1 *q l *q inv 2) +q l *q inv 0 *q l *q inv 1) +q l *q inv 0) +q ofℕ 1
unfolding S term norm ofℕ
six_terms t l =
    let u = x₀ ⊗ x₁ in
    let w₁ = con (pos 1) ⊗ u ⊗ x₂ in
    let w₂ = w₁ ⊗ u ⊗ x₃ in
    let w₃ = w₂ ⊗ u ⊗ x₄ in
    let w₄ = w₃ ⊗ u ⊗ x₅ in
    let w₅ = w₄ ⊗ u ⊗ x₆ in
    let w₆ = w₅ ⊗ u ⊗ x₇ in
    let v₁ = x₁ ⊗ x₂ in
    let v₂ = v₁ ⊗ x₁ ⊗ x₃ in
    let v₃ = v₂ ⊗ x₁ ⊗ x₄ in
    let v₄ = v₃ ⊗ x₁ ⊗ x₅ in
    let v₅ = v₄ ⊗ x₁ ⊗ x₆ in
    let v₆ = v₅ ⊗ x₁ ⊗ x₇ in
    qring (con (pos 1) ⊕ w₁ ⊕ w₂ ⊕ w₃ ⊕ w₄ ⊕ w₅ ⊕ w₆) (x₀ ⊗ (x₀ ⊗ (x₀ ⊗ (x₀ ⊗ (x₀ ⊗ (x₀ ⊗ v₆ ⊕ v₅) ⊕ v₄) ⊕ v₃) ⊕ v₂) ⊕ v₁) ⊕ con (pos 1)) refl (t ∷ l ∷ inv 0 ∷ inv 1 ∷ inv 2 ∷ inv 3 ∷ inv 4 ∷ inv 5 ∷ [])

diff : Bound (val unit -q ofℕ 1) (dy 1 60) × Bound (val h₀ -q d₁) (dy 1 51) × Bound (val h₁ -q d₂) (dy 1 50) × Bound (val h₂ -q d₃) (dy 1 36) × Bound (val h₃ -q d₄) (dy 1 39) × Bound (val h₄ -q d₅) (dy 1 25) × Bound (val h₅ -q d₆) (dy 1 34)
unfolding nn ◌-q◌ ◌+q◌ -q◌ ◌*q◌ val of_bits inv ofℕ ofℤ
diff = (bound_is tt tt, bound_is tt tt, bound_is tt tt, bound_is tt tt, bound_is tt tt, bound_is tt tt, bound_is tt tt)

abbrev X : ℚ
X = dy 1 5

series_nums : (X *q (X *q (X *q (X *q (X *q (X *q dy 1 34 +q dy 1 25) +q dy 1 39) +q dy 1 36) +q dy 1 50) +q dy 1 51) +q dy 1 60 ≤q dy 13 53) × (X *q dy 711 10 +q X *q dy 711 10 ≤q ofℕ 6) × (R (X *q dy 711 10) 6 ≤q dy 9 53) × Bound (root binary) (dy 711 10)
    × (dy 13 53 +q dy 9 53 +q dy 1 51 ≤q dy 1 48 *q dy 28 5) × (dy 1 48 +q (dy 1 84 +q dy 1 84) +q dy 1 48 *q (dy 1 84 +q dy 1 84) +q dy 1 90 ≤q dy 1 47) × (dy 1 47 ≤q close) × (dy 1 1 ≤q dy 28 5)
unfolding nn ◌-q◌ ◌+q◌ -q◌ ◌*q◌ term inv ofℕ ofℤ
series_nums = (record { le = tt }, record { le = tt }, record { le = tt }, bound_is tt tt, record { le = tt }, record { le = tt }, record { le = tt }, record { le = tt })

module _ (t : ℚ) (bt : Bound t (dy 1 5)) where
  six_near : Bound (six t *q t +q val unit -q S (t *q root binary) 6) (dy 13 53)
  unfolding norm
  six_near =
      subst (λ (z : ℚ). Bound (six t *q t +q val unit -q z) (dy 13 53)) (sym (six_terms t (root binary)))
      (subst (λ (y : ℚ). Bound (y -q (t *q (t *q (t *q (t *q (t *q (t *q d₆ +q d₅) +q d₄) +q d₃) +q d₂) +q d₁) +q ofℕ 1)) (dy 13 53))
      (qring (x₀ ⊗ (x₀ ⊗ (x₀ ⊗ (x₀ ⊗ (x₀ ⊗ (x₀ ⊗ x₆ ⊕ x₅) ⊕ x₄) ⊕ x₃) ⊕ x₂) ⊕ x₁) ⊕ x₇) ((x₀ ⊗ x₀ ⊗ (x₀ ⊗ x₀ ⊗ (x₀ ⊗ x₆ ⊕ x₅) ⊕ (x₀ ⊗ x₄ ⊕ x₃)) ⊕ (x₀ ⊗ x₂ ⊕ x₁)) ⊗ x₀ ⊕ x₇) refl (t ∷ val h₀ ∷ val h₁ ∷ val h₂ ∷ val h₃ ∷ val h₄ ∷ val h₅ ∷ val unit ∷ []))
      (bound_more
      (lift t _ _ (val unit) (ofℕ 1) X _ (dy 1 60) bt
      (lift t _ _ (val h₀) d₁ X _ (dy 1 51) bt
      (lift t _ _ (val h₁) d₂ X _ (dy 1 50) bt
      (lift t _ _ (val h₂) d₃ X _ (dy 1 36) bt
      (lift t _ _ (val h₃) d₄ X _ (dy 1 39) bt
      (lift t (val h₅) d₆ (val h₄) d₅ X (dy 1 34) (dy 1 25) bt diff.6 diff.5) diff.4) diff.3) diff.2) diff.1) diff.0) series_nums.0))

  six_series : (n : ℕ) → 8 ≤ n → Bound (six t *q t +q val unit -q S (t *q root binary) n) (dy 13 53 +q dy 9 53)
  unfolding norm ◌-q◌
  six_series n k =
      let tl = later (λ i. Bound (S (t *q root binary) i -q S (t *q root binary) 6) (dy 9 53)) 6 (λ j. bound_more (tail (t *q root binary) (X *q dy 711 10) (bound_mul bt series_nums.3) 6 series_nums.1 j) series_nums.2) n (le_trans (lit≤ tt) k) in
      subst (λ (u : ℚ). Bound u (dy 13 53 +q dy 9 53)) (qring (x₀ ⊖ x₁ ⊕ ⊝ (x₂ ⊖ x₁)) (x₀ ⊖ x₂) refl ((six t *q t +q val unit) ∷ S (t *q root binary) 6 ∷ S (t *q root binary) n ∷ [])) (bound_add six_near (bound_neg tl))

-- ---- the f64 before the narrowing
module _ (fma : Float → Float → Float → Float) (law : FmaLaw binary64 400 fma) (x : Float) (fx : T (finite x)) (wx : T (fits binary32 x)) (bx : Bound (val x) (dy 1 5)) where
  abbrev pub small : Float
  small = fma (poly6 fma x h₀ h₁ h₂ h₃ h₄ h₅) x unit

  pub small_is_near : Near exp2 (value x) (dy 1 47) small
  small_is_near = zero_near fma law x (poly6 fma x h₀ h₁ h₂ h₃ h₄ h₅) (six (val x)) fx wx bx (stage fma law x fx wx bx) binary (dy 13 53 +q dy 9 53) (dy 1 48) (dy 1 47) (nn_dy 1 48) (six_series (val x) bx) series_nums.4 series_nums.5

  pub small_wide : Wide exp2 (value x) 1 small
  small_wide = record { above = q_trans series_nums.7 (last_low fma law x (poly6 fma x h₀ h₁ h₂ h₃ h₄ h₅) (six (val x)) fx wx bx (stage fma law x fx wx bx)); near = nearer close series_nums.6 small_is_near }
