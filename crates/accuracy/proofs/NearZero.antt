-- Near zero exp2 and exp10 are 1 + x p(x): the last step and the way to the exact value, once for both; and p by its steps for each.
use Rattle.std.proofs.Common.{ℕ, ◌^◌, ◌≤◌, T, [], ◌∷◌, sym, refl, ap, ◌∙◌, subst, le_trans, lit≤}
use Rattle.std.specs.Float.{Float, binary32, binary64}
use Rattle.std.specs.Float.Ieee.{mul, of_bits, fits}
use Rattle.std.specs.Float.Ieee.Fits.{mul-fits}
use Rattle.std.specs.Float.Ieee.Scale.{finite}
use Rattle.exact.specs.Logarithm.{Base}
use Rattle.exact.specs.Laws.{of_base}
use Rattle.exact.proofs.Ring.{◌⊕◌, ◌⊖◌, ◌⊗◌, ⊝, norm}
use Rattle.exact.proofs.Integer.{x₀, x₁, x₂, x₃, x₄, x₅}
use Rattle.exact.proofs.Rational.{ℚ, ◌+q◌, ◌*q◌, -q◌, ◌-q◌, ofℤ, qring}
use Rattle.exact.proofs.Order.{nn, ◌≤q◌, q_trans, q_add, q_mul}
use Rattle.exact.proofs.Bound.{ofℕ, inv, ofℕ_mono, nn_le, le_nn, Bound, bound_more, bound_add, bound_mul, bound_neg, bound_turn, mul_right, bound_is}
use Rattle.exact.proofs.Compare.{nn_dy, dy}
use Rattle.exact.proofs.Relative.{Rel}
use Rattle.exact.proofs.Series.{S, from}
use Rattle.exact.proofs.Shift.{shifted}
use Rattle.exact.proofs.Logarithm.{root, low, low_near_root}
use Rattle.exact.proofs.Powers.{rest_small}
use Rattle.exact.proofs.Table.{root_bound}
use Rattle.rounding.specs.Values.{value}
use Rattle.rounding.specs.Ranges.{Ranged}
use Rattle.rounding.proofs.Value.{val, val_value, mul_rounds}
use Rattle.rounding.proofs.Error.{eps, tiny, round_err}
use Rattle.rounding.proofs.MultiplyAdd.{slip, slip₂, fma_err}
use Rattle.rounding.proofs.Multiple.{mult_mul, mult_away, away_more, round_mult}
use Rattle.rounding.proofs.Held.{finest}
use Rattle.rounding.proofs.Horner.{ball_size}
use Rattle.rounding.proofs.Range.{FmaLaw, ranged, ranged_finite}
use Rattle.rounding.proofs.Scaled.{above}
use Rattle.accuracy.proofs.Horner.{f32_range, Stage, Numbers, horner}
use Rattle.accuracy.proofs.Outcome.{Near, near_positive}
use Rattle.accuracy.proofs.PowerLimits.{sum_is}
use Rattle.accuracy.proofs.PowerProduct.{unit, unit_range}

-- ---- x is at most 1 / 32
pub wide : dy 1 5 ≤q ofℕ (2 ^ 400)
unfolding nn ◌-q◌ ◌+q◌ -q◌ ofℕ ofℤ
wide = record { le = tt }

-- ---- the last step
last_nums : ((dy 3 0 +q dy 1 50) *q dy 1 5 ≤q ofℕ (2 ^ 100)) × ((dy 3 0 +q dy 1 50) *q dy 1 5 +q dy 1 0 +q slip binary64 ((dy 3 0 +q dy 1 50) *q dy 1 5) ≤q ofℕ (2 ^ 100))
    × (slip₂ binary64 ((dy 3 0 +q dy 1 50) *q dy 1 5) ((dy 3 0 +q dy 1 50) *q dy 1 5 +q dy 1 0) +q dy 1 50 *q dy 1 5 ≤q dy 1 51) × Bound (val unit) (dy 1 0) × (dy 28 5 +q (dy 3 0 *q dy 1 5 +q dy 1 51) ≤q val unit)
unfolding nn ◌-q◌ ◌+q◌ -q◌ ◌*q◌ ofℕ ofℤ val of_bits
last_nums = (record { le = tt }, record { le = tt }, record { le = tt }, bound_is tt tt, record { le = tt })

module _ (fma : Float → Float → Float → Float) (law : FmaLaw binary64 400 fma) (x p : Float) (P : ℚ) (fx : T (finite x)) (wx : T (fits binary32 x)) (bx : Bound (val x) (dy 1 5)) (sp : Stage p P (dy 3 0) (dy 1 50)) where
  abbrev z : Float
  z = fma p x unit

  pub last_near : T (finite z) × Bound (val z -q (P *q val x +q val unit)) (dy 1 51)
  unfolding norm ◌-q◌
  last_near =
      let Q = (dy 3 0 +q dy 1 50) *q dy 1 5 in
      let q : Bound (val p *q val x) Q = bound_mul (ball_size sp.ball) bx in
      let w = fma_err binary64 p x unit z Q (Q +q dy 1 0) 100 sp.ball.is_finite fx (ranged_finite binary64 400 unit unit_range) (law p x unit sp.range (f32_range x (dy 1 5) fx wx bx wide) unit_range) q (bound_add q last_nums.3) last_nums.0 last_nums.1 (lit≤ tt) in (
        w.is_finite,
        bound_more (subst (λ (u : ℚ). Bound u (slip₂ binary64 Q (Q +q dy 1 0) +q dy 1 50 *q dy 1 5))
            (qring (x₀ ⊖ (x₁ ⊗ x₂ ⊕ x₃) ⊕ (x₁ ⊖ x₄) ⊗ x₂) (x₀ ⊖ (x₄ ⊗ x₂ ⊕ x₃)) refl (val z ∷ val p ∷ val x ∷ val unit ∷ P ∷ []))
            (bound_add w.off (bound_mul sp.ball.off bx))) last_nums.2,
      )

  -- z is at least 28 / 32
  pub last_low : dy 28 5 ≤q val z
  last_low = above last_near.1 (bound_mul sp.ball.size bx) last_nums.4

  nz : T (nn (val z))
  nz = le_nn (q_trans (nn_le (nn_dy 28 5)) last_low)

  shift_nums : (dy 1 5 *q dy 1 84 ≤q dy 1 84) × (dy 1 5 *q ofℕ 3 ≤q ofℕ 1) × (ofℕ 1 +q dy 1 84 ≤q ofℕ 201) × (ofℕ 201 +q ofℕ 201 ≤q ofℕ 1000) × (dy 1 84 ≤q inv 1) × (dy 1 500 ≤q dy 1 90 *q dy 28 5) × T (nn (ofℕ 1 +q dy 1 84))
  unfolding nn ◌-q◌ ◌+q◌ -q◌ ◌*q◌ ofℕ ofℤ inv
  shift_nums = (record { le = tt }, record { le = tt }, record { le = tt }, record { le = tt }, record { le = tt }, record { le = tt }, tt)

  -- 1 + x p(x) is within d of the sums at x ln b, and so z is within E of its own size of b ^ x
  pub zero_near : (b : Base) (d e E : ℚ) → T (nn e) → ((n : ℕ) → 8 ≤ n → Bound (P *q val x +q val unit -q S (val x *q root b) n) d) → d +q dy 1 51 ≤q e *q dy 28 5 → e +q (dy 1 84 +q dy 1 84) +q e *q (dy 1 84 +q dy 1 84) +q dy 1 90 ≤q E
      → Near (of_base b) (value x) E z
  unfolding norm ◌-q◌
  zero_near b d e E ne h c₁ c₂ =
      near_positive (of_base b) (value x) E z last_near.0 nz (λ j. 1000) (λ j n l.
      let l' = low b (from 80 j) in
      let a = val x *q root b in
      let D = val x *q (l' -q root b) in
      let bd : Bound D (dy 1 84) = bound_more (bound_mul bx (low_near_root b j)) shift_nums.0 in
      let at : Rel (S a n) (val z) e = record {
        off = bound_more (subst (λ (u : ℚ). Bound u (d +q dy 1 51)) (qring (⊝ (x₁ ⊖ x₂) ⊕ ⊝ (x₀ ⊖ x₁)) (x₂ ⊖ x₀) refl (val z ∷ (P *q val x +q val unit) ∷ S a n ∷ [])) (bound_add (bound_neg (h n (le_trans (lit≤ tt) l))) (bound_neg last_near.1))) (q_trans c₁ (q_mul e ne last_low));
      } in
      let s = shifted a D (ofℕ 1) (dy 1 84) (val z) e (dy 1 90) n (le_trans (lit≤ tt) l) (bound_more (bound_mul bx (root_bound b)) shift_nums.1) bd shift_nums.4 nz (q_trans (q_add shift_nums.2 shift_nums.2) (q_trans shift_nums.3 (ofℕ_mono 1000 n l)))
      (q_trans (rest_small (ofℕ 1 +q dy 1 84) shift_nums.6 shift_nums.2 n l) (q_trans shift_nums.5 (q_mul (dy 1 90) (nn_dy 1 90) last_low))) at in
      subst (λ (u : ℚ). Bound (val z -q u) (E *q val z)) (ap (λ (u : ℚ). S u n) (qring (x₀ ⊗ x₂ ⊕ x₀ ⊗ (x₁ ⊖ x₂)) (x₀ ⊗ x₁) refl (val x ∷ l' ∷ root b ∷ []) ∙ ap (λ (u : ℚ). u *q l') (val_value x)) ∙ sym (sum_is b (value x) j n))
      (bound_turn (S (a +q D) n) (val z) (bound_more s.off (mul_right (val z) nz c₂))))

-- ---- a step by the square: sq u + v, with sq near t2
pub record SquareNumbers (V e A a V' e' U E : ℚ) (v : Float) : Type 0 where
  pub numbers : Numbers (dy 1 9) V e A V' e' v
  pub off : e' +q (dy 1 62 *q V +q a) ≤q E
  pub size : dy 1 10 *q V +q A ≤q U

pub square_step : (fma : Float → Float → Float → Float) → FmaLaw binary64 400 fma → (sq u v : Float) (t2 us vs V e A a V' e' U E : ℚ) → Ranged binary64 400 sq → Bound (val sq) (dy 1 9) → Bound (val sq -q t2) (dy 1 62) → Bound t2 (dy 1 10)
    → Stage u us V e → Stage v vs A a → Bound (val v) A → SquareNumbers V e A a V' e' U E v → Stage (fma sq u v) (t2 *q us +q vs) U E
unfolding norm ◌-q◌
square_step fma law sq u v t2 us vs V e A a V' e' U E rs bs os bt su sv bv c =
    let s = horner fma law sq u v us (dy 1 9) V e A V' e' rs bs sv.range bv su c.numbers in
    let r = fma sq u v in
    record {
      ball = record {
        is_finite = s.ball.is_finite;
        off = bound_more (subst (λ (y : ℚ). Bound y (e' +q (dy 1 62 *q V +q a))) (qring (x₀ ⊖ (x₁ ⊗ x₂ ⊕ x₃) ⊕ ((x₁ ⊖ x₄) ⊗ x₂ ⊕ (x₃ ⊖ x₅))) (x₀ ⊖ (x₄ ⊗ x₂ ⊕ x₅)) refl (val r ∷ val sq ∷ us ∷ val v ∷ t2 ∷ vs ∷ []))
            (bound_add s.ball.off (bound_add (bound_mul os su.ball.size) sv.ball.off))) c.off;
        size = bound_more (bound_add (bound_mul bt su.ball.size) sv.ball.size) c.size;
      };
      range = s.range;
    }

-- x squared
square_nums : (dy 1 5 *q dy 1 5 ≤q ofℕ (2 ^ 100)) × (dy 1 5 *q dy 1 5 *q eps binary64 +q tiny binary64 ≤q dy 1 62) × (dy 1 5 *q dy 1 5 +q dy 1 62 ≤q dy 1 9) × (dy 1 9 ≤q ofℕ (2 ^ 400)) × (dy 1 5 *q dy 1 5 ≤q dy 1 10)
unfolding nn ◌-q◌ ◌+q◌ -q◌ ◌*q◌ ofℕ ofℤ
square_nums = (record { le = tt }, record { le = tt }, record { le = tt }, record { le = tt }, record { le = tt })

module _ (x : Float) (fx : T (finite x)) (wx : T (fits binary32 x)) (bx : Bound (val x) (dy 1 5)) where
  square_err : T (finite (mul binary64 x x)) × Bound (val (mul binary64 x x) -q val x *q val x) (dy 1 62)
  square_err = let w = round_err binary64 (mul binary64 x x) (val x *q val x) (dy 1 5 *q dy 1 5) 100 (mul_rounds binary64 x x fx fx) (bound_mul bx bx) square_nums.0 (lit≤ tt) in (w.is_finite, bound_more w.off square_nums.1)

  pub square_off : Bound (val (mul binary64 x x) -q val x *q val x) (dy 1 62)
  square_off = square_err.1

  pub square_size : Bound (val (mul binary64 x x)) (dy 1 9)
  unfolding norm ◌-q◌
  square_size = bound_more (subst (λ (u : ℚ). Bound u (dy 1 5 *q dy 1 5 +q dy 1 62)) (qring (x₀ ⊕ (x₁ ⊖ x₀)) x₁ refl (val x *q val x ∷ val (mul binary64 x x) ∷ [])) (bound_add (bound_mul bx bx) square_off)) square_nums.2

  pub square_exact : Bound (val x *q val x) (dy 1 10)
  square_exact = bound_more (bound_mul bx bx) square_nums.4

  pub square_range : Ranged binary64 400 (mul binary64 x x)
  square_range =
      ranged binary64 400 (mul binary64 x x) (mul-fits binary64 x x) square_err.0
      (away_more {k = 298} 400 (lit≤ tt) (mult_away (round_mult binary64 (mul binary64 x x) (val x *q val x) 298 (lit≤ tt) (mul_rounds binary64 x x fx fx) square_err.0 (mult_mul (finest binary32 x fx wx) (finest binary32 x fx wx)))))
      (bound_more square_size square_nums.3)
