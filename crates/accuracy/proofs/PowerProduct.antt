-- The steps that exp2 and exp10 share past their splits: mh, a row with a power of two, times the polynomial at lo. What is computed is within 2 ^ -50 of it, in parts of mh, and every argument lies in the range of the law.
use Rattle.std.proofs.Common.{◌≡◌, ◌^◌, T, [], ◌∷◌, pos, refl, subst, inr, lit≤}
use Rattle.std.specs.Float.{Float, binary64}
use Rattle.std.specs.Float.Ieee.{mul, of_bits, fits}
use Rattle.std.specs.Float.Ieee.Fits.{mul-fits}
use Rattle.std.specs.Float.Ieee.Scale.{finite}
use Rattle.exact.proofs.Ring.{con, ◌⊕◌, ◌⊖◌, ◌⊗◌, ⊝, norm}
use Rattle.exact.proofs.Integer.{x₀, x₁, x₂, x₃, x₄, x₅, x₆, x₇}
use Rattle.exact.proofs.Rational.{ℚ, ◌+q◌, ◌*q◌, -q◌, ◌-q◌, ofℤ, qring}
use Rattle.exact.proofs.Order.{nn, nn_add, ◌≤q◌, le_by, q_trans, q_mul}
use Rattle.exact.proofs.Bound.{ofℕ, nn_le, le_nn, Bound, bound_more, bound_add, bound_mul, bound_self, mul_right, bound_is}
use Rattle.exact.proofs.Compare.{nn_dy, dy}
use Rattle.rounding.specs.Ranges.{Ranged, Permitted}
use Rattle.rounding.proofs.Value.{val, mul_rounds}
use Rattle.rounding.proofs.Error.{eps, tiny, round_err}
use Rattle.rounding.proofs.Horner.{ball_size, Step}
use Rattle.rounding.proofs.Multiple.{mult_mul, mult_away, away_more, away_mul, away_above, Away, round_mult, round_away}
use Rattle.rounding.proofs.Range.{FmaLaw, ranged, ranged_finite}
use Rattle.rounding.proofs.Scaled.{part, part₂, above, mul_part, fma_part}
use Rattle.curves.specs.Steps.{double, times_power_value}
use Rattle.curves.proofs.Decimal.{Ready, ready_range}
use Rattle.accuracy.specs.PowerArguments.{ProductArguments}
use Rattle.accuracy.proofs.Law.{asked}
use Rattle.accuracy.proofs.Horner.{Stage, horner}

-- ---- five coefficients, and 1
abbrev pub unit : Float
unit = double 0x3ff0_0000_0000_0000

pub unit_range : Ranged binary64 400 unit
unfolding of_bits fits
unit_range = (tt, inr (lit≤ tt, lit≤ tt))

-- what is asked of the coefficients: their range, their sizes, and that two of them are not small
pub record Coefficients (k₀ k₁ k₂ k₃ k₄ : Float) : Type 0 where
  pub in₀ : Ranged binary64 400 k₀
  pub in₁ : Ranged binary64 400 k₁
  pub in₂ : Ranged binary64 400 k₂
  pub in₃ : Ranged binary64 400 k₃
  pub in₄ : Ranged binary64 400 k₄
  pub size₀ : Bound (val k₀) (dy 5 1)
  pub size₁ : Bound (val k₁) (dy 3 0)
  pub size₂ : Bound (val k₂) (dy 3 0)
  pub size₃ : Bound (val k₃) (dy 2 0)
  pub size₄ : Bound (val k₄) (dy 1 0)
  pub low₁ : dy 1 3 +q (dy 1 7 *q dy 3 0 +q dy 1 51) ≤q val k₁
  pub low₃ : dy 1 400 +q (dy 1 7 *q dy 1 0 +q dy 1 51) ≤q val k₃

-- the pairs of coefficients at t, and the polynomial as the steps have it
abbrev pub pair : Float → Float → ℚ → ℚ
pair a b t = t *q val b +q val a

abbrev pub inner : Float → Float → Float → Float → ℚ → ℚ
inner k₁ k₂ k₃ k₄ t = t *q t *q pair k₃ k₄ t +q pair k₁ k₂ t

abbrev pub poly : Float → Float → Float → Float → Float → ℚ → ℚ
poly k₀ k₁ k₂ k₃ k₄ t = inner k₁ k₂ k₃ k₄ t *q (t *q t) +q pair unit k₀ t

-- ---- the numbers
step_nums : Step binary64 200 (dy 1 7) (dy 5 1) (dy 1 60) (dy 1 0) (dy 66 6) (dy 1 52) × Step binary64 200 (dy 1 7) (dy 3 0) (dy 1 60) (dy 3 0) (dy 4 0) (dy 1 51)
    × Step binary64 200 (dy 1 7) (dy 1 0) (dy 1 60) (dy 2 0) (dy 3 0) (dy 1 51) × Step binary64 200 (dy 1 13) (dy 3 0) (dy 1 51) (dy 5 0) (dy 6 0) (dy 1 50)
unfolding nn ◌-q◌ ◌+q◌ -q◌ ◌*q◌ ofℕ ofℤ
step_nums = ((record { le = tt }, record { le = tt }, record { le = tt }, record { le = tt }), (record { le = tt }, record { le = tt }, record { le = tt }, record { le = tt }), (record { le = tt }, record { le = tt }, record { le = tt }, record { le = tt }), (record { le = tt }, record { le = tt }, record { le = tt }, record { le = tt }))

most_nums : (dy 66 6 +q dy 1 52 ≤q ofℕ (2 ^ 400)) × (dy 4 0 +q dy 1 51 ≤q ofℕ (2 ^ 400)) × (dy 3 0 +q dy 1 51 ≤q ofℕ (2 ^ 400)) × (dy 6 0 +q dy 1 50 ≤q ofℕ (2 ^ 400)) × (dy 1 7 ≤q ofℕ (2 ^ 400)) × (dy 1 13 ≤q ofℕ (2 ^ 400)) × (dy 1 12 *q ofℕ (2 ^ 160) ≤q ofℕ (2 ^ 400)) × (dy 68 6 *q ofℕ (2 ^ 160) ≤q ofℕ (2 ^ 400))
unfolding nn ◌-q◌ ◌+q◌ -q◌ ◌*q◌ ofℕ ofℤ
most_nums = (record { le = tt }, record { le = tt }, record { le = tt }, record { le = tt }, record { le = tt }, record { le = tt }, record { le = tt }, record { le = tt })

low_nums : (dy 1 400 +q (dy 1 7 *q dy 5 1 +q dy 1 52) ≤q val unit) × (dy 1 1 +q (dy 1 7 *q dy 5 1 +q dy 1 52) ≤q val unit) × (dy 1 400 +q (dy 1 7 *q dy 3 0 +q dy 1 51) ≤q dy 1 3 +q (dy 1 7 *q dy 3 0 +q dy 1 51)) × (dy 1 400 +q (dy 1 13 *q dy 3 0 +q dy 1 50) ≤q dy 1 3) × Bound (val unit) (dy 1 0)
unfolding nn ◌-q◌ ◌+q◌ -q◌ ◌*q◌ val of_bits
low_nums = (record { le = tt }, record { le = tt }, record { le = tt }, record { le = tt }, bound_is tt tt)

square_nums : (dy 1 7 *q dy 1 7 ≤q ofℕ (2 ^ 100)) × (dy 1 7 *q dy 1 7 *q eps binary64 +q tiny binary64 ≤q dy 1 66) × (dy 1 7 *q dy 1 7 +q dy 1 66 ≤q dy 1 13) × (dy 1 50 +q (dy 1 66 *q (dy 1 7 *q dy 1 0 +q dy 2 0) +q dy 1 51) ≤q dy 1 49) × (dy 4 0 +q dy 1 51 ≤q dy 5 0) × (dy 66 6 +q dy 1 52 ≤q dy 67 6) × (dy 5 0 +q dy 1 49 ≤q dy 6 0)
    × (dy 1 7 *q dy 1 7 *q (dy 1 7 *q dy 1 0 +q dy 2 0) +q (dy 1 7 *q dy 3 0 +q dy 3 0) ≤q dy 5 0)
unfolding nn ◌-q◌ ◌+q◌ -q◌ ◌*q◌ ofℕ ofℤ
square_nums = (record { le = tt }, record { le = tt }, record { le = tt }, record { le = tt }, record { le = tt }, record { le = tt }, record { le = tt }, record { le = tt })

part_nums : (dy 1 13 *q ofℕ (2 ^ 160) ≤q ofℕ (2 ^ 200)) × (part (dy 1 13) ≤q dy 1 65) × (dy 1 65 +q dy 1 66 ≤q dy 1 64) × (dy 67 6 *q ofℕ (2 ^ 160) ≤q ofℕ (2 ^ 200)) × (part (dy 67 6) ≤q dy 9 55) × (dy 9 55 +q dy 1 52 ≤q dy 17 55)
    × (dy 1 13 +q dy 1 65 ≤q dy 1 12) × (dy 67 6 +q dy 9 55 ≤q dy 68 6) × (dy 6 0 *q dy 1 12 +q dy 68 6 ≤q dy 69 6) × (dy 6 0 *q dy 1 12 *q ofℕ (2 ^ 160) ≤q ofℕ (2 ^ 200)) × ((dy 69 6 +q part (dy 6 0 *q dy 1 12)) *q ofℕ (2 ^ 160) ≤q ofℕ (2 ^ 200)) × (part₂ (dy 6 0 *q dy 1 12) (dy 69 6) ≤q dy 9 55)
    × (dy 9 55 +q (dy 6 0 *q dy 1 64 +q (dy 1 49 *q (dy 1 7 *q dy 1 7) +q dy 17 55)) ≤q dy 1 50)
unfolding nn ◌-q◌ ◌+q◌ -q◌ ◌*q◌ ofℕ ofℤ
part_nums = (record { le = tt }, record { le = tt }, record { le = tt }, record { le = tt }, record { le = tt }, record { le = tt }, record { le = tt }, record { le = tt }, record { le = tt }, record { le = tt }, record { le = tt }, record { le = tt }, record { le = tt })

nn_sums : T (nn (dy 6 0 *q dy 1 12)) × T (nn (dy 69 6 +q part (dy 6 0 *q dy 1 12)))
unfolding nn ◌+q◌ ◌*q◌
nn_sums = (tt, tt)

-- a coefficient as a start
same : (a : ℚ) → Bound (a -q a) (dy 1 60)
unfolding norm ◌-q◌
same a = subst (λ (u : ℚ). Bound u (dy 1 60)) (qring (con (pos 0)) (x₀ ⊖ x₀) refl (a ∷ [])) none
  where
    none : Bound (ofℤ (pos 0)) (dy 1 60)
    none = unfold nn ◌-q◌ ◌+q◌ -q◌ ofℤ in bound_is tt tt

pub start : (k : Float) (V : ℚ) → Ranged binary64 400 k → Bound (val k) V → Stage k (val k) V (dy 1 60)
start k V r b = record { ball = record { is_finite = ranged_finite binary64 400 k r; off = same (val k); size = b }; range = r }

module _ (fma : Float → Float → Float → Float) (law : FmaLaw binary64 400 fma) (k₀ k₁ k₂ k₃ k₄ : Float) (c : Coefficients k₀ k₁ k₂ k₃ k₄) (lo mh : Float) (rl : Ready 100 lo) (bl : Bound (val lo) (dy 1 7))
    (fm : T (finite mh)) (low-m : dy 1 160 ≤q val mh) (high-m : val mh ≤q ofℕ (2 ^ 160)) where
  abbrev fl : T (finite lo)
  fl = rl.is_finite

  pub lo_range : Ranged binary64 400 lo
  lo_range = ready_range lo (dy 1 7) (lit≤ tt) rl bl most_nums.4

  nm : T (nn (val mh))
  nm = le_nn (q_trans (nn_le (nn_dy 1 160)) low-m)

  -- ---- the three pairs
  abbrev c₀ : Float
  c₀ = fma lo k₀ unit

  abbrev c₁ : Float
  c₁ = fma lo k₂ k₁

  abbrev c₂ : Float
  c₂ = fma lo k₄ k₃

  stage₀ : Stage c₀ (pair unit k₀ (val lo)) (dy 66 6) (dy 1 52)
  stage₀ = horner fma law lo k₀ unit (val k₀) (dy 1 7) (dy 5 1) (dy 1 60) (dy 1 0) (dy 66 6) (dy 1 52) lo_range bl unit_range low_nums.4 (start k₀ (dy 5 1) c.in₀ c.size₀) (record { errors = step_nums.0; most = most_nums.0; least = low_nums.0 })

  stage₁ : Stage c₁ (pair k₁ k₂ (val lo)) (dy 4 0) (dy 1 51)
  stage₁ = horner fma law lo k₂ k₁ (val k₂) (dy 1 7) (dy 3 0) (dy 1 60) (dy 3 0) (dy 4 0) (dy 1 51) lo_range bl c.in₁ c.size₁ (start k₂ (dy 3 0) c.in₂ c.size₂) (record { errors = step_nums.1; most = most_nums.1; least = q_trans low_nums.2 c.low₁ })

  stage₂ : Stage c₂ (pair k₃ k₄ (val lo)) (dy 3 0) (dy 1 51)
  stage₂ = horner fma law lo k₄ k₃ (val k₄) (dy 1 7) (dy 1 0) (dy 1 60) (dy 2 0) (dy 3 0) (dy 1 51) lo_range bl c.in₃ c.size₃ (start k₄ (dy 1 0) c.in₄ c.size₄) (record { errors = step_nums.2; most = most_nums.2; least = c.low₃ })

  c₀_low : dy 1 1 ≤q val c₀
  c₀_low = above stage₀.ball.off (bound_mul bl c.size₀) low_nums.1

  c₁_low : dy 1 3 ≤q val c₁
  c₁_low = above {r = val c₁} {y = val lo *q val k₂} {a = val k₁} stage₁.ball.off (bound_mul bl c.size₂) c.low₁

  -- ---- lo squared
  abbrev lo2 : Float
  lo2 = mul binary64 lo lo

  sq_off : T (finite lo2) × Bound (val lo2 -q val lo *q val lo) (dy 1 66)
  sq_off = let w = round_err binary64 lo2 (val lo *q val lo) (dy 1 7 *q dy 1 7) 100 (mul_rounds binary64 lo lo fl fl) (bound_mul bl bl) square_nums.0 (lit≤ tt) in (w.is_finite, bound_more w.off square_nums.1)

  sq_size : Bound (val lo2) (dy 1 13)
  unfolding norm ◌-q◌
  sq_size = bound_more (subst (λ (u : ℚ). Bound u (dy 1 7 *q dy 1 7 +q dy 1 66)) (qring (x₀ ⊕ (x₁ ⊖ x₀)) x₁ refl (val lo *q val lo ∷ val lo2 ∷ [])) (bound_add (bound_mul bl bl) sq_off.1)) square_nums.2

  sq_ready : Ready 200 lo2
  sq_ready = record { is_finite = sq_off.0; is_fit = mul-fits binary64 lo lo; is_mult = round_mult binary64 lo2 (val lo *q val lo) 200 (lit≤ tt) (mul_rounds binary64 lo lo fl fl) sq_off.0 (mult_mul rl.is_mult rl.is_mult) }

  pub sq_range : Ranged binary64 400 lo2
  sq_range = ready_range lo2 (dy 1 13) (lit≤ tt) sq_ready sq_size most_nums.5

  -- ---- p
  abbrev p : Float
  p = fma lo2 c₂ c₁

  c₁_size : Bound (val c₁) (dy 5 0)
  c₁_size = bound_more (ball_size stage₁.ball) square_nums.4

  stage_p : Stage p (val lo2 *q pair k₃ k₄ (val lo) +q val c₁) (dy 6 0) (dy 1 50)
  stage_p = horner fma law lo2 c₂ c₁ (pair k₃ k₄ (val lo)) (dy 1 13) (dy 3 0) (dy 1 51) (dy 5 0) (dy 6 0) (dy 1 50) sq_range sq_size stage₁.range c₁_size stage₂ (record { errors = step_nums.3; most = most_nums.3; least = q_trans low_nums.3 c₁_low })

  p_off : Bound (val p -q inner k₁ k₂ k₃ k₄ (val lo)) (dy 1 49)
  unfolding norm ◌-q◌
  p_off =
      let t = val lo in
      bound_more (subst (λ (u : ℚ). Bound u (dy 1 50 +q (dy 1 66 *q (dy 1 7 *q dy 1 0 +q dy 2 0) +q dy 1 51)))
      (qring (x₀ ⊖ (x₁ ⊗ x₂ ⊕ x₃) ⊕ ((x₁ ⊖ x₄) ⊗ x₂ ⊕ (x₃ ⊖ x₅))) (x₀ ⊖ (x₄ ⊗ x₂ ⊕ x₅)) refl (val p ∷ val lo2 ∷ pair k₃ k₄ t ∷ val c₁ ∷ t *q t ∷ pair k₁ k₂ t ∷ []))
      (bound_add stage_p.ball.off (bound_add (bound_mul sq_off.1 (bound_add (bound_mul bl c.size₄) c.size₃)) stage₁.ball.off))) square_nums.3

  inner_size : Bound (inner k₁ k₂ k₃ k₄ (val lo)) (dy 5 0)
  inner_size = bound_more (bound_add (bound_mul (bound_mul bl bl) (bound_add (bound_mul bl c.size₄) c.size₃)) (bound_add (bound_mul bl c.size₂) c.size₁)) square_nums.7

  p_size : Bound (val p) (dy 6 0)
  unfolding norm ◌-q◌
  p_size = bound_more (subst (λ (u : ℚ). Bound u (dy 5 0 +q dy 1 49)) (qring (x₀ ⊕ (x₁ ⊖ x₀)) x₁ refl (inner k₁ k₂ k₃ k₄ (val lo) ∷ val p ∷ [])) (bound_add inner_size p_off)) square_nums.6

  -- ---- the products with mh
  abbrev h : ℚ
  h = val mh

  abbrev q₁ : Float
  q₁ = mul binary64 lo2 mh

  abbrev q₀ : Float
  q₀ = mul binary64 c₀ mh

  q₁_part : T (finite q₁) × Bound (val q₁ -q val lo2 *q h) (dy 1 65 *q h)
  q₁_part = let w = mul_part h nm low-m high-m lo2 mh (dy 1 13) (nn_dy 1 13) part_nums.0 sq_off.0 fm (bound_mul sq_size (bound_self nm)) in (w.0, bound_more w.1 (mul_right h nm part_nums.1))

  q₁_off : Bound (val q₁ -q val lo *q val lo *q h) (dy 1 64 *q h)
  unfolding norm ◌-q◌
  q₁_off =
      bound_more (subst (λ (u : ℚ). Bound u (dy 1 65 *q h +q dy 1 66 *q h)) (qring (x₀ ⊖ x₁ ⊗ x₃ ⊕ (x₁ ⊖ x₂) ⊗ x₃) (x₀ ⊖ x₂ ⊗ x₃) refl (val q₁ ∷ val lo2 ∷ val lo *q val lo ∷ h ∷ []))
      (bound_add q₁_part.1 (bound_mul sq_off.1 (bound_self nm))))
      (subst (λ (u : ℚ). u ≤q dy 1 64 *q h) (qring ((x₀ ⊕ x₁) ⊗ x₂) (x₀ ⊗ x₂ ⊕ x₁ ⊗ x₂) refl (dy 1 65 ∷ dy 1 66 ∷ h ∷ [])) (mul_right h nm part_nums.2))

  q₁_size : Bound (val q₁) (dy 1 12 *q h)
  unfolding norm ◌-q◌
  q₁_size =
      bound_more (subst (λ (u : ℚ). Bound u (dy 1 13 *q h +q dy 1 65 *q h)) (qring (x₁ ⊗ x₂ ⊕ (x₀ ⊖ x₁ ⊗ x₂)) x₀ refl (val q₁ ∷ val lo2 ∷ h ∷ [])) (bound_add (bound_mul sq_size (bound_self nm)) q₁_part.1))
      (subst (λ (u : ℚ). u ≤q dy 1 12 *q h) (qring ((x₀ ⊕ x₁) ⊗ x₂) (x₀ ⊗ x₂ ⊕ x₁ ⊗ x₂) refl (dy 1 13 ∷ dy 1 65 ∷ h ∷ [])) (mul_right h nm part_nums.6))

  c₀_size : Bound (val c₀) (dy 67 6)
  c₀_size = bound_more (ball_size stage₀.ball) square_nums.5

  q₀_part : T (finite q₀) × Bound (val q₀ -q val c₀ *q h) (dy 9 55 *q h)
  q₀_part = let w = mul_part h nm low-m high-m c₀ mh (dy 67 6) (nn_dy 67 6) part_nums.3 stage₀.ball.is_finite fm (bound_mul c₀_size (bound_self nm)) in (w.0, bound_more w.1 (mul_right h nm part_nums.4))

  q₀_off : Bound (val q₀ -q pair unit k₀ (val lo) *q h) (dy 17 55 *q h)
  unfolding norm ◌-q◌
  q₀_off =
      bound_more (subst (λ (u : ℚ). Bound u (dy 9 55 *q h +q dy 1 52 *q h)) (qring (x₀ ⊖ x₁ ⊗ x₃ ⊕ (x₁ ⊖ x₂) ⊗ x₃) (x₀ ⊖ x₂ ⊗ x₃) refl (val q₀ ∷ val c₀ ∷ pair unit k₀ (val lo) ∷ h ∷ []))
      (bound_add q₀_part.1 (bound_mul stage₀.ball.off (bound_self nm))))
      (subst (λ (u : ℚ). u ≤q dy 17 55 *q h) (qring ((x₀ ⊕ x₁) ⊗ x₂) (x₀ ⊗ x₂ ⊕ x₁ ⊗ x₂) refl (dy 9 55 ∷ dy 1 52 ∷ h ∷ [])) (mul_right h nm part_nums.5))

  q₀_size : Bound (val q₀) (dy 68 6 *q h)
  unfolding norm ◌-q◌
  q₀_size =
      bound_more (subst (λ (u : ℚ). Bound u (dy 67 6 *q h +q dy 9 55 *q h)) (qring (x₁ ⊗ x₂ ⊕ (x₀ ⊖ x₁ ⊗ x₂)) x₀ refl (val q₀ ∷ val c₀ ∷ h ∷ [])) (bound_add (bound_mul c₀_size (bound_self nm)) q₀_part.1))
      (subst (λ (u : ℚ). u ≤q dy 68 6 *q h) (qring ((x₀ ⊕ x₁) ⊗ x₂) (x₀ ⊗ x₂ ⊕ x₁ ⊗ x₂) refl (dy 67 6 ∷ dy 9 55 ∷ h ∷ [])) (mul_right h nm part_nums.7))

  -- ---- the last step: its arguments are in range
  mh_away : Away 160 h
  mh_away = away_above 160 mh fm low-m

  pub q₁_range : Ranged binary64 400 q₁
  q₁_range = ranged binary64 400 q₁ (mul-fits binary64 lo2 mh) q₁_part.0
      (away_more {k = 360} 400 (lit≤ tt) (round_away binary64 q₁ (val lo2 *q h) 360 (lit≤ tt) (mul_rounds binary64 lo2 mh sq_off.0 fm) q₁_part.0 (away_mul (mult_away sq_ready.is_mult) mh_away)))
      (bound_more q₁_size (q_trans (q_mul (dy 1 12) (nn_dy 1 12) high-m) most_nums.6))

  pub q₀_range : Ranged binary64 400 q₀
  q₀_range = ranged binary64 400 q₀ (mul-fits binary64 c₀ mh) q₀_part.0
      (away_more {k = 161} 400 (lit≤ tt) (round_away binary64 q₀ (val c₀ *q h) 161 (lit≤ tt) (mul_rounds binary64 c₀ mh stage₀.ball.is_finite fm) q₀_part.0 (away_mul (away_above 1 c₀ stage₀.ball.is_finite c₀_low) mh_away)))
      (bound_more q₀_size (q_trans (q_mul (dy 68 6) (nn_dy 68 6) high-m) most_nums.7))

  abbrev z : Float
  z = times_power_value fma lo mh k₀ k₁ k₂ k₃ k₄

  z_permitted : Permitted binary64 p q₁ q₀ z
  z_permitted = law p q₁ q₀ stage_p.range q₁_range q₀_range

  pq_size : Bound (val p *q val q₁) (dy 6 0 *q dy 1 12 *q h)
  unfolding norm
  pq_size = subst (λ (u : ℚ). Bound (val p *q val q₁) u) (qring (x₀ ⊗ (x₁ ⊗ x₂)) (x₀ ⊗ x₁ ⊗ x₂) refl (dy 6 0 ∷ dy 1 12 ∷ h ∷ [])) (bound_mul p_size q₁_size)

  z_part : T (finite z) × Bound (val z -q (val p *q val q₁ +q val q₀)) (dy 9 55 *q h)
  unfolding norm
  z_part =
      let m : Bound (val p *q val q₁ +q val q₀) (dy 69 6 *q h) =
      bound_more (bound_add pq_size q₀_size) (subst (λ (u : ℚ). u ≤q dy 69 6 *q h) (qring ((x₀ ⊕ x₁) ⊗ x₂) (x₀ ⊗ x₂ ⊕ x₁ ⊗ x₂) refl (dy 6 0 *q dy 1 12 ∷ dy 68 6 ∷ h ∷ [])) (mul_right h nm part_nums.8)) in
      let w = fma_part h nm low-m high-m p q₁ q₀ z (dy 6 0 *q dy 1 12) (dy 69 6) nn_sums.0 nn_sums.1 part_nums.9 part_nums.10 stage_p.ball.is_finite q₁_part.0 q₀_part.0 z_permitted pq_size m in
      (w.0, bound_more w.1 (mul_right h nm part_nums.11))

  -- what is computed is within 2 ^ -50 of mh times the polynomial, in parts of mh
  pub product_near : T (finite z) × Bound (val z -q poly k₀ k₁ k₂ k₃ k₄ (val lo) *q val mh) (dy 1 50 *q val mh)
  unfolding norm ◌-q◌
  product_near =
      let t = val lo in
      let a : Bound (val p *q (val q₁ -q t *q t *q h)) (dy 6 0 *q (dy 1 64 *q h)) = bound_mul p_size q₁_off in
      let b : Bound ((val p -q inner k₁ k₂ k₃ k₄ t) *q (t *q t) *q h) (dy 1 49 *q (dy 1 7 *q dy 1 7) *q h) = bound_mul (bound_mul p_off (bound_mul bl bl)) (bound_self nm) in
      let s = bound_add z_part.1 (bound_add a (bound_add b q₀_off)) in (
        z_part.0,
        bound_more (subst (λ (u : ℚ). Bound u (dy 9 55 *q h +q (dy 6 0 *q (dy 1 64 *q h) +q (dy 1 49 *q (dy 1 7 *q dy 1 7) *q h +q dy 17 55 *q h)))) (together (val z) (val p) (val q₁) (val q₀) (inner k₁ k₂ k₃ k₄ t) (pair unit k₀ t) (t *q t) h) s)
            (subst (λ (u : ℚ). u ≤q dy 1 50 *q h) (qring ((x₀ ⊕ (x₁ ⊗ x₂ ⊕ (x₃ ⊕ x₄))) ⊗ x₅) (x₀ ⊗ x₅ ⊕ (x₁ ⊗ (x₂ ⊗ x₅) ⊕ (x₃ ⊗ x₅ ⊕ x₄ ⊗ x₅))) refl (dy 9 55 ∷ dy 6 0 ∷ dy 1 64 ∷ dy 1 49 *q (dy 1 7 *q dy 1 7) ∷ dy 17 55 ∷ h ∷ [])) (mul_right h nm part_nums.12)),
      )
    where
      together : (z p q r a c s h : ℚ) → z -q (p *q q +q r) +q (p *q (q -q s *q h) +q ((p -q a) *q s *q h +q (r -q c *q h))) ≡ z -q (a *q s +q c) *q h
      together z p q r a c s h = unfold norm ◌-q◌ in qring (x₀ ⊖ (x₁ ⊗ x₂ ⊕ x₃) ⊕ (x₁ ⊗ (x₂ ⊖ x₆ ⊗ x₇) ⊕ ((x₁ ⊖ x₄) ⊗ x₆ ⊗ x₇ ⊕ (x₃ ⊖ x₅ ⊗ x₇)))) (x₀ ⊖ (x₄ ⊗ x₆ ⊕ x₅) ⊗ x₇) refl (z ∷ p ∷ q ∷ r ∷ a ∷ c ∷ s ∷ h ∷ [])

  -- the polynomial is within 1 / 32 of 1
  pub poly_range : (dy 31 5 ≤q poly k₀ k₁ k₂ k₃ k₄ (val lo)) × (poly k₀ k₁ k₂ k₃ k₄ (val lo) ≤q dy 33 5)
  unfolding norm ◌-q◌
  poly_range =
      let t = val lo in
      let w = inner k₁ k₂ k₃ k₄ t *q (t *q t) +q t *q val k₀ in
      let bw : Bound w (dy 1 5) = bound_more (bound_add (bound_mul inner_size (bound_mul bl bl)) (bound_mul bl c.size₀)) range_nums.0 in
      let ρ = w ∷ dy 1 5 ∷ val unit ∷ dy 31 5 ∷ dy 33 5 ∷ [] in
      let e : w +q val unit ≡ poly k₀ k₁ k₂ k₃ k₄ t = qring (x₀ ⊕ x₁ ⊕ x₂) (x₀ ⊕ (x₁ ⊕ x₂)) refl (inner k₁ k₂ k₃ k₄ t *q (t *q t) ∷ t *q val k₀ ∷ val unit ∷ []) in (
        subst (λ (u : ℚ). dy 31 5 ≤q u) e (le_by (w -q (-q◌ (dy 1 5)) +q (val unit -q (dy 31 5 +q dy 1 5))) (nn_add _ _ bw.lo.le range_nums.1.le) (qring (x₀ ⊕ x₂ ⊖ x₃) (x₀ ⊖ ⊝ x₁ ⊕ (x₂ ⊖ (x₃ ⊕ x₁))) refl ρ)),
        subst (λ (u : ℚ). u ≤q dy 33 5) e (le_by (dy 1 5 -q w +q (dy 33 5 -q (dy 1 5 +q val unit))) (nn_add _ _ bw.hi.le range_nums.2.le) (qring (x₄ ⊖ (x₀ ⊕ x₂)) (x₁ ⊖ x₀ ⊕ (x₄ ⊖ (x₁ ⊕ x₂))) refl ρ)),
      )
    where
      range_nums : (dy 5 0 *q (dy 1 7 *q dy 1 7) +q dy 1 7 *q dy 5 1 ≤q dy 1 5) × (dy 31 5 +q dy 1 5 ≤q val unit) × (dy 1 5 +q val unit ≤q dy 33 5)
      range_nums = unfold nn ◌-q◌ ◌+q◌ -q◌ ◌*q◌ val of_bits in (record { le = tt }, record { le = tt }, record { le = tt })

  -- ---- every argument of the steps
  pub product_arguments : ProductArguments fma lo mh k₀ k₁ k₂ k₃ k₄
  product_arguments = record {
    constant = asked lo_range c.in₀ unit_range;
    second = asked lo_range c.in₂ c.in₁;
    fourth = asked lo_range c.in₄ c.in₃;
    inner = asked sq_range stage₂.range stage₁.range;
    last = asked stage_p.range q₁_range q₀_range;
  }
