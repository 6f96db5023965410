-- expm1 near zero, for 2 ^ -25 ≤ |x| ≤ 1/16: x + x ^ 2 times a polynomial of seven terms is within 17 * 2 ^ -52 of the exact value, relative to its own size.
use Rattle.std.proofs.Common.{◌≡◌, ℕ, ◌^◌, ◌≤◌, Bool, true, false, not, T, ◌⊎◌, [], ◌∷◌, pos, sym, refl, ap, ◌∙◌, subst, ap₂, inl, inr, lit≤}
use Rattle.std.specs.Float.{Float, binary32, binary64, round_to_format}
use Rattle.std.specs.Float.Ieee.{mul, fits, of_bits}
use Rattle.std.specs.Float.Ieee.Fits.{mul-fits}
use Rattle.std.specs.Float.Ieee.Scale.{finite}
use std.Quotient.{cls}
use Rattle.exact.specs.Exact.{expm1}
use Rattle.exact.proofs.Ring.{con, ◌⊕◌, ◌⊖◌, ◌⊗◌, ⊝, norm}
use Rattle.exact.proofs.Integer.{x₀, x₁, x₂, x₃, x₄, x₅, x₆, x₇, x₈}
use Rattle.exact.proofs.Rational.{ℚ, is, ◌+q◌, ◌*q◌, -q◌, ◌-q◌, ofℤ, qring}
use Rattle.exact.proofs.Order.{nn, nn_add, nn_mul, nn_total, ◌≤q◌, le_by, q_refl, q_trans, q_add, q_neg, q_mul}
use Rattle.exact.proofs.Bound.{ofℕ, inv, nn_inv, absq, bound_abs, nn_le, le_nn, Bound, bound_nn, bound_more, bound_add, bound_neg, bound_mul, bound_self, mul_right, bound_is}
use Rattle.exact.proofs.Compare.{dy, nn_dy}
use Rattle.exact.proofs.Relative.{Rel}
use Rattle.exact.proofs.Series.{term, S, R, from, later, tail}
use Rattle.exact.proofs.Growth.{S_mono}
use Rattle.rounding.specs.Values.{value, sign}
use Rattle.rounding.specs.Ranges.{Ranged, Permitted}
use Rattle.rounding.proofs.Value.{val, val_value}
use Rattle.rounding.proofs.Distance.{abs_nn, abs_neg, abs_least, abs_above}
use Rattle.rounding.proofs.Error.{eps, tiny, nn_eps}
use Rattle.rounding.proofs.MultiplyAdd.{slip₂, fma_err}
use Rattle.rounding.proofs.Horner.{Ball, ball_size}
use Rattle.rounding.proofs.Range.{FmaLaw, ranged_above}
use Rattle.rounding.proofs.Limit.{limitℕ}
use Rattle.arithmetic.specs.Arithmetic.{Arithmetic, Lawful}
use Rattle.curves.specs.Steps.{double, poly7}
use Rattle.curves.specs.Expm1.{expm1_small_value}
use Rattle.accuracy.specs.Figures.{Right, Agree}
use Rattle.accuracy.specs.Arguments.{SmallArguments}
use Rattle.curves.proofs.Law.{fma_law}
use Rattle.accuracy.proofs.Horner.{f32_range, Stage, Numbers, horner}
use Rattle.accuracy.proofs.ExpPolynomial.{lift}
use Rattle.accuracy.proofs.TableProduct.{mul_rel, halves}
use Rattle.accuracy.proofs.Law.{asked}
use Rattle.accuracy.proofs.ExpLimit.{last_under, expm1_under}
use Rattle.accuracy.proofs.Outcome.{close, Near, nearer, Under, right_near, agree_near, plus_sign, minus_sign}

abbrev a₀ : Float
a₀ = double 0x3fe0_0000_0000_0000

abbrev a₁ : Float
a₁ = double 0x3fc5_5555_5555_57dd

abbrev a₂ : Float
a₂ = double 0x3fa5_5555_5555_52fa

abbrev a₃ : Float
a₃ = double 0x3f81_1111_0fcd_58b7

abbrev a₄ : Float
a₄ = double 0x3f56_c16c_1717_660b

abbrev a₅ : Float
a₅ = double 0x3f2a_0241_f000_6d62

abbrev a₆ : Float
a₆ = double 0x3efa_01e3_f8d3_c060

in_range : Ranged binary64 400 a₀ × Ranged binary64 400 a₁ × Ranged binary64 400 a₂ × Ranged binary64 400 a₃ × Ranged binary64 400 a₄ × Ranged binary64 400 a₅ × Ranged binary64 400 a₆
unfolding of_bits fits
in_range = ((tt, inr (lit≤ tt, lit≤ tt)), (tt, inr (lit≤ tt, lit≤ tt)), (tt, inr (lit≤ tt, lit≤ tt)), (tt, inr (lit≤ tt, lit≤ tt)), (tt, inr (lit≤ tt, lit≤ tt)), (tt, inr (lit≤ tt, lit≤ tt)), (tt, inr (lit≤ tt, lit≤ tt)))

sizes : Bound (val a₀) (dy 1 1) × Bound (val a₁) (dy 1 2) × Bound (val a₂) (dy 1 4) × Bound (val a₃) (dy 1 6) × Bound (val a₄) (dy 1 9) × Bound (val a₅) (dy 1 12) × Bound (val a₆) (dy 1 15)
unfolding nn ◌-q◌ ◌+q◌ -q◌ val of_bits
sizes = (bound_is tt tt, bound_is tt tt, bound_is tt tt, bound_is tt tt, bound_is tt tt, bound_is tt tt, bound_is tt tt)

-- the error of each step, and |x|
abbrev e : ℚ
e = dy 1 53

abbrev X : ℚ
X = dy 1 4

start : Stage a₆ (val a₆) (dy 1 15) e
unfolding nn ◌-q◌ ◌+q◌ -q◌ val of_bits
start = record { ball = record { is_finite = tt; off = bound_is tt tt; size = sizes.6 }; range = in_range.6 }

fine : Numbers X (dy 1 1) e (dy 1 1) (dy 17 5) e a₀ × Numbers X (dy 1 3) e (dy 1 2) (dy 1 1) e a₁ × Numbers X (dy 1 5) e (dy 1 4) (dy 1 3) e a₂ × Numbers X (dy 1 8) e (dy 1 6) (dy 1 5) e a₃ × Numbers X (dy 1 11) e (dy 1 9) (dy 1 8) e a₄ × Numbers X (dy 1 15) e (dy 1 12) (dy 1 11) e a₅
unfolding nn ◌-q◌ ◌+q◌ -q◌ ◌*q◌ ofℕ ofℤ val of_bits
fine = (
  record { errors = (record { le = tt }, record { le = tt }, record { le = tt }, record { le = tt }); most = record { le = tt }; least = record { le = tt } },
  record { errors = (record { le = tt }, record { le = tt }, record { le = tt }, record { le = tt }); most = record { le = tt }; least = record { le = tt } },
  record { errors = (record { le = tt }, record { le = tt }, record { le = tt }, record { le = tt }); most = record { le = tt }; least = record { le = tt } },
  record { errors = (record { le = tt }, record { le = tt }, record { le = tt }, record { le = tt }); most = record { le = tt }; least = record { le = tt } },
  record { errors = (record { le = tt }, record { le = tt }, record { le = tt }, record { le = tt }); most = record { le = tt }; least = record { le = tt } },
  record { errors = (record { le = tt }, record { le = tt }, record { le = tt }, record { le = tt }); most = record { le = tt }; least = record { le = tt } },
)

-- (e ^ t - 1 - t) / t ^ 2 by the seven coefficients, and by the series
abbrev seven : ℚ → ℚ
seven t = t *q (t *q (t *q (t *q (t *q (t *q val a₆ +q val a₅) +q val a₄) +q val a₃) +q val a₂) +q val a₁) +q val a₀

pub record Stages (fma : Float → Float → Float → Float) (x : Float) : Type 0 where
  pub fifth : Stage (fma x a₆ a₅) (val x *q val a₆ +q val a₅) (dy 1 11) e
  pub fourth : Stage (fma x (fma x a₆ a₅) a₄) (val x *q (val x *q val a₆ +q val a₅) +q val a₄) (dy 1 8) e
  pub third : Stage (fma x (fma x (fma x a₆ a₅) a₄) a₃) (val x *q (val x *q (val x *q val a₆ +q val a₅) +q val a₄) +q val a₃) (dy 1 5) e
  pub second : Stage (fma x (fma x (fma x (fma x a₆ a₅) a₄) a₃) a₂) (val x *q (val x *q (val x *q (val x *q val a₆ +q val a₅) +q val a₄) +q val a₃) +q val a₂) (dy 1 3) e
  pub first : Stage (fma x (fma x (fma x (fma x (fma x a₆ a₅) a₄) a₃) a₂) a₁) (val x *q (val x *q (val x *q (val x *q (val x *q val a₆ +q val a₅) +q val a₄) +q val a₃) +q val a₂) +q val a₁) (dy 1 1) e
  pub last : Stage (poly7 fma x a₀ a₁ a₂ a₃ a₄ a₅ a₆) (seven (val x)) (dy 17 5) e

pub stages : (fma : Float → Float → Float → Float) → FmaLaw binary64 400 fma → (x : Float) → Ranged binary64 400 x → Bound (val x) X → Stages fma x
stages fma law x rx bx =
    let s₅ = horner fma law x a₆ a₅ (val a₆) X (dy 1 15) e (dy 1 12) (dy 1 11) e rx bx in_range.5 sizes.5 start fine.5 in
    let s₄ = horner fma law x _ a₄ _ X (dy 1 11) e (dy 1 9) (dy 1 8) e rx bx in_range.4 sizes.4 s₅ fine.4 in
    let s₃ = horner fma law x _ a₃ _ X (dy 1 8) e (dy 1 6) (dy 1 5) e rx bx in_range.3 sizes.3 s₄ fine.3 in
    let s₂ = horner fma law x _ a₂ _ X (dy 1 5) e (dy 1 4) (dy 1 3) e rx bx in_range.2 sizes.2 s₃ fine.2 in
    let s₁ = horner fma law x _ a₁ _ X (dy 1 3) e (dy 1 2) (dy 1 1) e rx bx in_range.1 sizes.1 s₂ fine.1 in
    record { fifth = s₅; fourth = s₄; third = s₃; second = s₂; first = s₁; last = horner fma law x _ a₀ _ X (dy 1 1) e (dy 1 1) (dy 17 5) e rx bx in_range.0 sizes.0 s₁ fine.0 }

-- ---- against the series
abbrev b₀ : ℚ
b₀ = inv 0 *q inv 1

abbrev b₁ : ℚ
b₁ = inv 0 *q inv 1 *q inv 2

abbrev b₂ : ℚ
b₂ = inv 0 *q inv 1 *q inv 2 *q inv 3

abbrev b₃ : ℚ
b₃ = inv 0 *q inv 1 *q inv 2 *q inv 3 *q inv 4

abbrev b₄ : ℚ
b₄ = inv 0 *q inv 1 *q inv 2 *q inv 3 *q inv 4 *q inv 5

abbrev b₅ : ℚ
b₅ = inv 0 *q inv 1 *q inv 2 *q inv 3 *q inv 4 *q inv 5 *q inv 6

abbrev b₆ : ℚ
b₆ = inv 0 *q inv 1 *q inv 2 *q inv 3 *q inv 4 *q inv 5 *q inv 6 *q inv 7

abbrev exact_seven : ℚ → ℚ
exact_seven t = t *q (t *q (t *q (t *q (t *q (t *q b₆ +q b₅) +q b₄) +q b₃) +q b₂) +q b₁) +q b₀

-- how far each coefficient is from 1 / (k + 2)!
coefficients : Bound (val a₀ -q b₀) (dy 1 80) × Bound (val a₁ -q b₁) (dy 41 51) × Bound (val a₂ -q b₂) (dy 38 53) × Bound (val a₃ -q b₃) (dy 41 40) × Bound (val a₄ -q b₄) (dy 43 45) × Bound (val a₅ -q b₅) (dy 41 31) × Bound (val a₆ -q b₆) (dy 34 35)
unfolding nn ◌-q◌ ◌+q◌ -q◌ ◌*q◌ val of_bits inv
coefficients = (bound_is tt tt, bound_is tt tt, bound_is tt tt, bound_is tt tt, bound_is tt tt, bound_is tt tt, bound_is tt tt)

S_eight : (t : ℚ) → S t 8 ≡ ofℕ 1 +q t +q t *q t *q exact_seven t
unfolding S term norm ofℕ
S_eight t =
    qring (con (pos 1) ⊕ con (pos 1) ⊗ x₀ ⊗ x₁ ⊕ con (pos 1) ⊗ x₀ ⊗ x₁ ⊗ x₀ ⊗ x₂ ⊕ con (pos 1) ⊗ x₀ ⊗ x₁ ⊗ x₀ ⊗ x₂ ⊗ x₀ ⊗ x₃ ⊕ con (pos 1) ⊗ x₀ ⊗ x₁ ⊗ x₀ ⊗ x₂ ⊗ x₀ ⊗ x₃ ⊗ x₀ ⊗ x₄ ⊕ con (pos 1) ⊗ x₀ ⊗ x₁ ⊗ x₀ ⊗ x₂ ⊗ x₀ ⊗ x₃ ⊗ x₀ ⊗ x₄ ⊗ x₀ ⊗ x₅ ⊕ con (pos 1) ⊗ x₀ ⊗ x₁ ⊗ x₀ ⊗ x₂ ⊗ x₀ ⊗ x₃ ⊗ x₀ ⊗ x₄ ⊗ x₀ ⊗ x₅ ⊗ x₀ ⊗ x₆ ⊕ con (pos 1) ⊗ x₀ ⊗ x₁ ⊗ x₀ ⊗ x₂ ⊗ x₀ ⊗ x₃ ⊗ x₀ ⊗ x₄ ⊗ x₀ ⊗ x₅ ⊗ x₀ ⊗ x₆ ⊗ x₀ ⊗ x₇ ⊕ con (pos 1) ⊗ x₀ ⊗ x₁ ⊗ x₀ ⊗ x₂ ⊗ x₀ ⊗ x₃ ⊗ x₀ ⊗ x₄ ⊗ x₀ ⊗ x₅ ⊗ x₀ ⊗ x₆ ⊗ x₀ ⊗ x₇ ⊗ x₀ ⊗ x₈)
    (con (pos 1) ⊕ x₀ ⊗ x₁ ⊕ x₀ ⊗ x₀ ⊗ (x₀ ⊗ (x₀ ⊗ (x₀ ⊗ (x₀ ⊗ (x₀ ⊗ (x₀ ⊗ (x₁ ⊗ x₂ ⊗ x₃ ⊗ x₄ ⊗ x₅ ⊗ x₆ ⊗ x₇ ⊗ x₈) ⊕ x₁ ⊗ x₂ ⊗ x₃ ⊗ x₄ ⊗ x₅ ⊗ x₆ ⊗ x₇) ⊕ x₁ ⊗ x₂ ⊗ x₃ ⊗ x₄ ⊗ x₅ ⊗ x₆) ⊕ x₁ ⊗ x₂ ⊗ x₃ ⊗ x₄ ⊗ x₅) ⊕ x₁ ⊗ x₂ ⊗ x₃ ⊗ x₄) ⊕ x₁ ⊗ x₂ ⊗ x₃) ⊕ x₁ ⊗ x₂)) refl (t ∷ inv 0 ∷ inv 1 ∷ inv 2 ∷ inv 3 ∷ inv 4 ∷ inv 5 ∷ inv 6 ∷ inv 7 ∷ [])
    ∙ ap (λ (x : ℚ). ofℤ (pos 1) +q t *q x +q t *q t *q exact_seven t) inv_zero ∙ qring (con (pos 1) ⊕ x₀ ⊗ con (pos 1) ⊕ x₁) (con (pos 1) ⊕ x₀ ⊕ x₁) refl (t ∷ t *q t *q exact_seven t ∷ [])
  where
    inv_zero : inv 0 ≡ ofℤ (pos 1)
    inv_zero = unfold inv ofℤ in refl

lifts : (X *q dy 35 46 +q dy 1 80 ≤q dy 36 50) × (X *q dy 33 42 +q dy 41 51 ≤q dy 35 46) × (X *q dy 64 39 +q dy 38 53 ≤q dy 33 42) × (X *q dy 43 35 +q dy 41 40 ≤q dy 64 39) × (X *q dy 42 31 +q dy 43 45 ≤q dy 43 35) × (X *q dy 34 35 +q dy 41 31 ≤q dy 42 31)
unfolding nn ◌-q◌ ◌+q◌ -q◌ ◌*q◌
lifts = (record { le = tt }, record { le = tt }, record { le = tt }, record { le = tt }, record { le = tt }, record { le = tt })

seven_near : (t : ℚ) → Bound t X → Bound (seven t -q exact_seven t) (dy 36 50)
seven_near t b =
    lift t _ _ (val a₀) b₀ X (dy 35 46) (dy 1 80) (dy 36 50) b
    (lift t _ _ (val a₁) b₁ X (dy 33 42) (dy 41 51) (dy 35 46) b
    (lift t _ _ (val a₂) b₂ X (dy 64 39) (dy 38 53) (dy 33 42) b
    (lift t _ _ (val a₃) b₃ X (dy 43 35) (dy 41 40) (dy 64 39) b
    (lift t _ _ (val a₄) b₄ X (dy 42 31) (dy 43 45) (dy 43 35) b
    (lift t (val a₆) b₆ (val a₅) b₅ X (dy 34 35) (dy 41 31) (dy 42 31) b coefficients.6 coefficients.5 lifts.5) coefficients.4 lifts.4) coefficients.3 lifts.3) coefficients.2 lifts.2) coefficients.1 lifts.1) coefficients.0 lifts.0

-- the rest after eight terms, relative to t
rest_numbers : (term X 8 *q inv 8 +q term X 8 *q inv 8 ≤q dy 47 55) × (X +q X ≤q ofℕ 8)
unfolding nn ◌-q◌ ◌+q◌ -q◌ ◌*q◌ term inv ofℕ ofℤ
rest_numbers = (record { le = tt }, record { le = tt })

rest_rel : (A : ℚ) → T (nn A) → A ≤q X → R A 8 ≤q dy 47 55 *q A
unfolding norm
rest_rel A t h =
    let s : term A 8 *q inv 8 ≤q term X 8 *q inv 8 = mul_right (inv 8) (nn_inv 8) (S_mono A X t h 8).0 in
    subst (λ (x : ℚ). x ≤q dy 47 55 *q A) (sym last) (mul_right A t (q_trans (q_add s s) rest_numbers.0))
  where
    last : R A 8 ≡ (term A 8 *q inv 8 +q term A 8 *q inv 8) *q A
    last = unfold term in again (term A 8) (inv 8)
      where
        again : (u v : ℚ) → u *q A *q v +q u *q A *q v ≡ (u *q v +q u *q v) *q A
        again u v = unfold norm in qring (x₀ ⊗ x₁ ⊗ x₂ ⊕ x₀ ⊗ x₁ ⊗ x₂) ((x₀ ⊗ x₂ ⊕ x₀ ⊗ x₂) ⊗ x₁) refl (u ∷ A ∷ v ∷ [])

-- t + t ^ 2 seven(t) against every sum less 1
series_numbers : (X *q dy 36 50 +q dy 47 55 ≤q dy 238 56) × T (nn (dy 36 50))
unfolding nn ◌-q◌ ◌+q◌ -q◌ ◌*q◌
series_numbers = (record { le = tt }, tt)

seven_series : (t A : ℚ) → Bound t A → A ≤q X → (n : ℕ) → 8 ≤ n → Bound (t *q t *q seven t +q t -q (S t n -q ofℕ 1)) (dy 238 56 *q A)
unfolding norm ◌-q◌ ofℕ
seven_series t A b h n k =
    let n_a = bound_nn b in
    let far : A +q A ≤q ofℕ 8 = q_trans (q_add h h) rest_numbers.1 in
    let tl : Bound (S t n -q (ofℕ 1 +q t +q t *q t *q exact_seven t)) (dy 47 55 *q A) =
    bound_more (later (λ i. Bound (S t i -q (ofℕ 1 +q t +q t *q t *q exact_seven t)) (R A 8)) 8 (λ j. subst (λ (x : ℚ). Bound (S t (from 8 j) -q x) (R A 8)) (S_eight t) (tail t A b 8 far j)) n k) (rest_rel A n_a h) in
    let sq : Bound (t *q t) (X *q A) = bound_more (bound_mul b b) (mul_right A n_a h) in
    let d : Bound (t *q t *q (seven t -q exact_seven t)) (X *q A *q dy 36 50) = bound_mul sq (seven_near t (bound_more b h)) in
    bound_more (subst (λ (x : ℚ). Bound x (X *q A *q dy 36 50 +q dy 47 55 *q A)) (qring (x₀ ⊗ x₀ ⊗ (x₁ ⊖ x₂) ⊕ ⊝ (x₃ ⊖ (con (pos 1) ⊕ x₀ ⊕ x₀ ⊗ x₀ ⊗ x₂))) (x₀ ⊗ x₀ ⊗ x₁ ⊕ x₀ ⊖ (x₃ ⊖ con (pos 1))) refl (t ∷ seven t ∷ exact_seven t ∷ S t n ∷ [])) (bound_add d (bound_neg tl)))
    (subst (λ (x : ℚ). x ≤q dy 238 56 *q A) (qring ((x₀ ⊗ x₁ ⊕ x₂) ⊗ x₃) (x₀ ⊗ x₃ ⊗ x₁ ⊕ x₂ ⊗ x₃) refl (X ∷ dy 36 50 ∷ dy 47 55 ∷ A ∷ [])) (mul_right A n_a series_numbers.0))

-- ---- the steps in f64
abbrev ep : ℚ
ep = eps binary64

abbrev tn : ℚ
tn = tiny binary64

abbrev pub small_by : ℚ
small_by = dy 17 52

float_numbers : (dy 1 1022 ≤q dy 1 25 *q dy 1 25) × (X *q X ≤q ofℕ (2 ^ 1)) × (dy 17 5 +q dy 1 53 ≤q dy 35 6) × (ofℤ (pos 1) +q dy 1 53 ≤q dy 33 5) × (dy 35 6 *q dy 33 5 *q X ≤q dy 5 7) × ((dy 35 6 *q dy 1 53 +q dy 1 53) *q X ≤q dy 1 56) × (tn ≤q dy 1 60 *q dy 1 25) × (dy 1 400 ≤q dy 1 1 *q (dy 1 25 *q dy 1 25)) × (ofℕ 2 *q (X *q X) ≤q ofℕ (2 ^ 400)) × (X ≤q ofℕ (2 ^ 400)) × T (nn (dy 35 6 *q dy 33 5)) × T (nn (dy 35 6 *q dy 1 53 +q dy 1 53))
unfolding nn ◌-q◌ ◌+q◌ -q◌ ◌*q◌ ofℕ ofℤ
float_numbers = (record { le = tt }, record { le = tt }, record { le = tt }, record { le = tt }, record { le = tt }, record { le = tt }, record { le = tt }, record { le = tt }, record { le = tt }, record { le = tt }, tt, tt)

fma_numbers : (dy 5 7 *q X ≤q ofℕ (2 ^ 100)) × (dy 5 7 *q X +q X +q (dy 5 7 *q X *q ep +q tn) ≤q ofℕ (2 ^ 100)) × (dy 5 7 *q ep +q dy 1 60 +q ((dy 5 7 +q ofℤ (pos 1) +q (dy 5 7 *q ep +q dy 1 60)) *q ep +q dy 1 60) ≤q dy 9 56) × (dy 9 56 +q dy 1 56 +q dy 238 56 ≤q dy 31 53) × (dy 9 56 +q dy 5 7 ≤q X) × (dy 31 53 ≤q small_by *q dy 15 4) × T (nn small_by) × (small_by ≤q close)
unfolding nn ◌-q◌ ◌+q◌ -q◌ ◌*q◌ ofℕ ofℤ
fma_numbers = (record { le = tt }, record { le = tt }, record { le = tt }, record { le = tt }, record { le = tt }, record { le = tt }, tt, record { le = tt })

end_numbers : (X *q X +q X ≤q ofℕ 1) × (dy 1 26 ≤q dy 15 4 *q dy 1 25) × (X ≤q ofℕ 106) × (X ≤q last_under) × (ofℤ (pos 1) -q X ≡ dy 15 4) × T (nn (dy 15 4))
unfolding nn ◌-q◌ ◌+q◌ -q◌ ◌*q◌ ofℕ ofℤ
end_numbers = (record { le = tt }, record { le = tt }, record { le = tt }, record { le = tt }, is refl, tt)

not_one : ofℕ (limitℕ binary32) ≤q ofℕ 1 → ⊥
unfolding nn ◌-q◌ ◌+q◌ -q◌ ofℕ ofℤ
not_one h = h.le

-- the slips of the last multiply-add, relative to A
slip_rel : (A : ℚ) → T (nn A) → tn ≤q dy 1 60 *q A → slip₂ binary64 (dy 5 7 *q A) (dy 5 7 *q A +q A) ≤q dy 9 56 *q A
unfolding norm ◌-q◌
slip_rel A n_a h =
    q_trans {b = (dy 5 7 *q ep +q dy 1 60 +q ((dy 5 7 +q ofℤ (pos 1) +q (dy 5 7 *q ep +q dy 1 60)) *q ep +q dy 1 60)) *q A}
    (le_by ((ofℤ (pos 2) +q ep) *q (dy 1 60 *q A -q tn)) (nn_mul (ofℤ (pos 2) +q ep) (dy 1 60 *q A -q tn) (nn_add (ofℤ (pos 2)) ep two (nn_eps binary64)) h.le)
    (qring ((x₁ ⊗ x₂ ⊕ x₃ ⊕ ((x₁ ⊕ con (pos 1) ⊕ (x₁ ⊗ x₂ ⊕ x₃)) ⊗ x₂ ⊕ x₃)) ⊗ x₀ ⊖ (x₁ ⊗ x₀ ⊗ x₂ ⊕ x₄ ⊕ ((x₁ ⊗ x₀ ⊕ x₀ ⊕ (x₁ ⊗ x₀ ⊗ x₂ ⊕ x₄)) ⊗ x₂ ⊕ x₄))) ((con (pos 2) ⊕ x₂) ⊗ (x₃ ⊗ x₀ ⊖ x₄)) refl (A ∷ dy 5 7 ∷ ep ∷ dy 1 60 ∷ tn ∷ [])))
    (mul_right A n_a fma_numbers.2)
  where
    two : T (nn (ofℤ (pos 2)))
    two = unfold nn ofℤ in tt

-- the size of a number is the number or its opposite
signs : (v : ℚ) → (T (nn v) × (absq v ≡ v)) ⊎ (T (nn (-q◌ v)) × (absq v ≡ -q◌ v))
signs v = go (nn v) (λ t. t) (nn_total v)
  where
    go : (b : Bool) → (T b → T (nn v)) → (T (not b) → T (nn (-q◌ v))) → (T (nn v) × (absq v ≡ v)) ⊎ (T (nn (-q◌ v)) × (absq v ≡ -q◌ v))
    go true p n = inl (p tt, abs_nn v (p tt))
    go false p n = inr (n tt, abs_neg v (n tt))

-- from 2 ^ -25 to 1/16 in size
pub record Small (x : Float) : Type 0 where
  pub is_finite : T (finite x)
  pub is_fit : T (fits binary32 x)
  pub least : dy 1 25 ≤q absq (val x)
  pub most : absq (val x) ≤q X

module _ (a : Arithmetic) (w : Lawful a) (x : Float) (c : Small x) where
  abbrev A : ℚ
  A = absq (val x)

  abbrev s₀ : Float
  s₀ = poly7 a.fma x a₀ a₁ a₂ a₃ a₄ a₅ a₆

  abbrev sq : Float
  sq = mul binary64 x x

  abbrev z : Float
  z = a.fma (poly7 a.fma x a₀ a₁ a₂ a₃ a₄ a₅ a₆) (mul binary64 x x) x

  bt : Bound (val x) A
  bt = bound_abs (val x)

  n_a : T (nn A)
  n_a = bound_nn bt

  range : Ranged binary64 400 x
  range = f32_range x X c.is_finite c.is_fit (bound_more bt c.most) float_numbers.9

  scheme : Stages a.fma x
  scheme = stages a.fma (fma_law a w) x range (bound_more bt c.most)

  ball : Ball s₀ (seven (val x)) (dy 17 5) e
  ball = scheme.last.ball

  square_is : val x *q val x ≡ A *q A
  square_is = elim (signs (val x)) [
    | inl p ↦ sym (ap₂ (λ (u v : ℚ). u *q v) p.1 p.1)
    | inr p ↦ sym (ap₂ (λ (u v : ℚ). u *q v) p.1 p.1 ∙ minus (val x))
  ]
    where
      minus : (u : ℚ) → (-q◌ u) *q (-q◌ u) ≡ u *q u
      minus u = unfold norm in qring (⊝ x₀ ⊗ ⊝ x₀) (x₀ ⊗ x₀) refl (u ∷ [])

  n_b : T (nn (A *q A))
  n_b = nn_mul A A n_a n_a

  low_B : dy 1 25 *q dy 1 25 ≤q A *q A
  low_B = q_trans (mul_right (dy 1 25) (nn_dy 1 25) c.least) (q_mul A n_a c.least)

  high_B : A *q A ≤q X *q X
  high_B = q_trans (mul_right A n_a c.most) (q_mul X (nn_dy 1 4) c.most)

  -- at most A / 16
  B_small : A *q A ≤q X *q A
  B_small = mul_right A n_a c.most

  square : T (finite sq) × Rel (val sq) (A *q A) (dy 1 53)
  square = subst (λ (u : ℚ). T (finite sq) × Rel (val sq) u (dy 1 53)) square_is
      (mul_rel x x 1 c.is_finite c.is_finite (subst (λ (u : ℚ). T (nn u)) (sym square_is) n_b) (subst (λ (u : ℚ). dy 1 1022 ≤q u) (sym square_is) (q_trans float_numbers.0 low_B)) (subst (λ (u : ℚ). u ≤q ofℕ (2 ^ 1)) (sym square_is) (q_trans high_B float_numbers.1)) (lit≤ tt))

  sq_low : dy 1 400 ≤q val sq
  sq_low = q_trans float_numbers.7 (q_trans (q_mul (dy 1 1) (nn_dy 1 1) low_B) (halves (val sq) (A *q A) n_b square.1).0)

  sq_range : Ranged binary64 400 sq
  sq_range = ranged_above binary64 400 sq (ofℕ 2 *q (X *q X)) (mul-fits binary64 x x) square.0 sq_low (bound_more (bound_self (le_nn (q_trans (nn_le (nn_dy 1 400)) sq_low))) (q_trans (halves (val sq) (A *q A) n_b square.1).1 (q_mul (ofℕ 2) two high_B))) float_numbers.8
    where
      two : T (nn (ofℕ 2))
      two = unfold nn ofℕ ofℤ in tt

  law : Permitted binary64 s₀ sq x z
  law = fma_law a w s₀ sq x scheme.last.range sq_range range

  pub small_arguments : SmallArguments a x
  small_arguments = record {
    for_5 = asked range in_range.6 in_range.5;
    for_4 = asked range scheme.fifth.range in_range.4;
    for_3 = asked range scheme.fourth.range in_range.3;
    for_2 = asked range scheme.third.range in_range.2;
    for_1 = asked range scheme.second.range in_range.1;
    for_0 = asked range scheme.first.range in_range.0;
    for_sum = asked scheme.last.range sq_range range;
  }

  p_high : Bound (val s₀) (dy 35 6)
  p_high = bound_more (ball_size ball) float_numbers.2

  sq_size : Bound (val sq) (dy 33 5 *q (A *q A))
  unfolding norm ◌-q◌
  sq_size = bound_more (subst (λ (u : ℚ). Bound u (A *q A +q dy 1 53 *q (A *q A))) (qring (x₀ ⊕ (x₁ ⊖ x₀)) x₁ refl (A *q A ∷ val sq ∷ [])) (bound_add (bound_self n_b) square.1.off))
      (subst (λ (u : ℚ). u ≤q dy 33 5 *q (A *q A)) (qring ((con (pos 1) ⊕ x₀) ⊗ x₁) (x₁ ⊕ x₀ ⊗ x₁) refl (dy 1 53 ∷ A *q A ∷ [])) (mul_right (A *q A) n_b float_numbers.3))

  p_size : Bound (val s₀ *q val sq) (dy 5 7 *q A)
  unfolding norm
  p_size = bound_more (bound_mul p_high sq_size)
      (q_trans (subst (λ (u : ℚ). u ≤q dy 35 6 *q dy 33 5 *q (X *q A)) (qring (x₀ ⊗ x₁ ⊗ x₂) (x₀ ⊗ (x₁ ⊗ x₂)) refl (dy 35 6 ∷ dy 33 5 ∷ A *q A ∷ [])) (q_mul (dy 35 6 *q dy 33 5) float_numbers.10 B_small))
      (subst (λ (u : ℚ). u ≤q dy 5 7 *q A) (qring (x₀ ⊗ x₁ ⊗ x₂) (x₀ ⊗ (x₁ ⊗ x₂)) refl (dy 35 6 *q dy 33 5 ∷ X ∷ A ∷ [])) (mul_right A n_a float_numbers.4)))

  p_off : Bound (val s₀ *q val sq -q val x *q val x *q seven (val x)) (dy 1 56 *q A)
  unfolding norm ◌-q◌
  p_off = bound_more
      (subst (λ (u : ℚ). Bound u (dy 35 6 *q (dy 1 53 *q (A *q A)) +q dy 1 53 *q (A *q A)))
      (qring (x₀ ⊗ (x₁ ⊖ x₂) ⊕ (x₀ ⊖ x₃) ⊗ x₂) (x₀ ⊗ x₁ ⊖ x₂ ⊗ x₃) refl (val s₀ ∷ val sq ∷ A *q A ∷ seven (val x) ∷ []) ∙ ap (λ (u : ℚ). val s₀ *q val sq -q u *q seven (val x)) (sym square_is))
      (bound_add (bound_mul p_high square.1.off) (bound_mul ball.off (bound_self n_b))))
      (q_trans (subst (λ (u : ℚ). u ≤q (dy 35 6 *q dy 1 53 +q dy 1 53) *q (X *q A)) (qring ((x₀ ⊗ x₁ ⊕ x₁) ⊗ x₂) (x₀ ⊗ (x₁ ⊗ x₂) ⊕ x₁ ⊗ x₂) refl (dy 35 6 ∷ dy 1 53 ∷ A *q A ∷ [])) (q_mul (dy 35 6 *q dy 1 53 +q dy 1 53) float_numbers.11 B_small))
      (subst (λ (u : ℚ). u ≤q dy 1 56 *q A) (qring (x₀ ⊗ x₁ ⊗ x₂) (x₀ ⊗ (x₁ ⊗ x₂)) refl ((dy 35 6 *q dy 1 53 +q dy 1 53) ∷ X ∷ A ∷ [])) (mul_right A n_a float_numbers.5)))

  last : T (finite z) × Bound (val z -q (val s₀ *q val sq +q val x)) (dy 9 56 *q A)
  last =
      let P = dy 5 7 *q A in
      let top : P ≤q dy 5 7 *q X = q_mul (dy 5 7) (nn_dy 5 7) c.most in
      let v = fma_err binary64 s₀ sq x z P (P +q A) 100 ball.is_finite square.0 c.is_finite law p_size (bound_add p_size bt) (q_trans top fma_numbers.0)
      (q_trans (q_add (q_add top c.most) (q_add (mul_right ep (nn_eps binary64) top) (q_refl tn))) fma_numbers.1) (lit≤ tt) in
      (v.is_finite, bound_more v.off (slip_rel A n_a (q_trans float_numbers.6 (q_mul (dy 1 60) (nn_dy 1 60) c.least))))

  -- ---- near every sum less 1
  off_sum : (n : ℕ) → 8 ≤ n → Bound (val z -q (S (val x) n -q ofℕ 1)) (dy 31 53 *q A)
  unfolding norm ◌-q◌
  off_sum n h = bound_more
      (subst (λ (u : ℚ). Bound u (dy 9 56 *q A +q dy 1 56 *q A +q dy 238 56 *q A))
      (qring (x₀ ⊖ (x₁ ⊕ x₂) ⊕ (x₁ ⊖ x₃) ⊕ (x₃ ⊕ x₂ ⊖ x₄)) (x₀ ⊖ x₄) refl (val z ∷ val s₀ *q val sq ∷ val x ∷ val x *q val x *q seven (val x) ∷ (S (val x) n -q ofℕ 1) ∷ []))
      (bound_add (bound_add last.1 p_off) (seven_series (val x) A bt c.most n h)))
      (subst (λ (u : ℚ). u ≤q dy 31 53 *q A) (qring ((x₀ ⊕ x₁ ⊕ x₂) ⊗ x₃) (x₀ ⊗ x₃ ⊕ x₁ ⊗ x₃ ⊕ x₂ ⊗ x₃) refl (dy 9 56 ∷ dy 1 56 ∷ dy 238 56 ∷ A ∷ [])) (mul_right A n_a fma_numbers.3))

  -- and near x
  off_x : Bound (val z -q val x) (X *q A)
  unfolding norm ◌-q◌
  off_x = bound_more (subst (λ (u : ℚ). Bound u (dy 9 56 *q A +q dy 5 7 *q A)) (qring (x₀ ⊖ (x₁ ⊕ x₂) ⊕ x₁) (x₀ ⊖ x₂) refl (val z ∷ val s₀ *q val sq ∷ val x ∷ [])) (bound_add last.1 p_size))
      (subst (λ (u : ℚ). u ≤q X *q A) (qring ((x₀ ⊕ x₁) ⊗ x₂) (x₀ ⊗ x₂ ⊕ x₁ ⊗ x₂) refl (dy 9 56 ∷ dy 5 7 ∷ A ∷ [])) (mul_right A n_a fma_numbers.4))

  large : dy 15 4 *q A ≤q absq (val z)
  unfolding norm ◌-q◌
  large = le_by (absq (val z) +q X *q A -q A) (abs_above (val z) (val x) (X *q A) off_x).le (ap (λ (u : ℚ). absq (val z) -q u *q A) (sym end_numbers.4) ∙ qring (x₀ ⊖ (con (pos 1) ⊖ x₁) ⊗ x₂) (x₀ ⊕ x₁ ⊗ x₂ ⊖ x₂) refl (absq (val z) ∷ X ∷ A ∷ []))

  -- the inner statement
  pub small_near : Near expm1 (value x) small_by z
  unfolding norm
  small_near = record {
    is_finite = last.0;
    start = λ _. 8;
    off = λ j n h. subst (λ (u : ℚ). Bound (val z -q (S u n -q ofℕ 1)) (small_by *q absq (val z))) (val_value x)
        (bound_more (off_sum n h) (q_trans (mul_right A n_a fma_numbers.5) (subst (λ (u : ℚ). u ≤q small_by *q absq (val z)) (qring (x₀ ⊗ (x₁ ⊗ x₂)) (x₀ ⊗ x₁ ⊗ x₂) refl (small_by ∷ dy 15 4 ∷ A ∷ [])) (q_mul small_by fma_numbers.6 large))));
  }

  pub not_limit : ofℕ (limitℕ binary32) ≤q absq (val z) → ⊥
  unfolding norm ◌-q◌
  not_limit h = not_one (q_trans h (abs_least (val z) (ofℕ 1) (bound_more (subst (λ (u : ℚ). Bound u (X *q A +q A)) (qring (x₀ ⊖ x₁ ⊕ x₁) x₀ refl (val z ∷ val x ∷ [])) (bound_add off_x bt)) (q_trans (q_add (q_mul X (nn_dy 1 4) c.most) c.most) end_numbers.0))))

  z_least : dy 1 26 ≤q dy 15 4 *q A
  z_least = q_trans end_numbers.1 (q_mul (dy 15 4) end_numbers.5 c.least)

  -- the figure has the sign of x
  pub sign_positive : T (nn (val x)) × (absq (val x) ≡ val x) → sign (round_to_format binary32 z) ≡ false
  unfolding norm ◌-q◌
  sign_positive p = plus_sign z 26 last.0 (q_trans z_least (le_by (val z -q val x -q (-q◌ (X *q A))) off_x.lo.le (ap (λ (u : ℚ). val z -q u *q A) (sym end_numbers.4) ∙ qring (x₀ ⊖ (con (pos 1) ⊖ x₁) ⊗ x₂) (x₀ ⊖ x₂ ⊖ ⊝ (x₁ ⊗ x₂)) refl (val z ∷ X ∷ A ∷ []) ∙ ap (λ (u : ℚ). val z -q u -q (-q◌ (X *q A))) p.1)))

  pub sign_negative : T (nn (-q◌ (val x))) × (absq (val x) ≡ -q◌ (val x)) → sign (round_to_format binary32 z) ≡ true
  unfolding norm ◌-q◌
  sign_negative p = minus_sign z 26 last.0 (q_trans (le_by (X *q A -q (val z -q val x)) off_x.hi.le (ap (λ (u : ℚ). -q◌ (u *q A) -q val z) (sym end_numbers.4) ∙ qring (⊝ ((con (pos 1) ⊖ x₁) ⊗ x₂) ⊖ x₀) (x₁ ⊗ x₂ ⊖ (x₀ ⊖ ⊝ x₂)) refl (val z ∷ X ∷ A ∷ []) ∙ ap (λ (u : ℚ). X *q A -q (val z -q u)) (ap -q◌ p.1 ∙ qring (⊝ (⊝ x₀)) x₀ refl (val x ∷ [])))) (q_neg z_least))

-- ---- the figure
under_limit : (x : Float) → Small x → Under expm1 (value x)
under_limit x c = let b : Bound (cls (value x)) X = subst (λ (u : ℚ). Bound u X) (val_value x) (bound_more (bound_abs (val x)) c.most) in expm1_under (value x) (bound_more b end_numbers.2) (q_trans b.hi end_numbers.3)

pub small_right : (a : Arithmetic) → Lawful a → (x : Float) → Small x → Right expm1 x (expm1_small_value a x)
small_right a w x c = right_near expm1 x (z a w x c) (nearer close fma_numbers.7 (small_near a w x c)) (not_limit a w x c) (under_limit x c)

pub small_agree : (a b : Arithmetic) → Lawful a → Lawful b → (x : Float) → Small x → Agree expm1 x (expm1_small_value a x) (expm1_small_value b x)
small_agree a b w u x c =
    agree_near expm1 x (z a w x c) (z b u x c) (nearer close fma_numbers.7 (small_near a w x c)) (nearer close fma_numbers.7 (small_near b u x c)) (not_limit a w x c) (not_limit b u x c)
    (elim (signs (val x)) [
      | inl p ↦ sign_positive a w x c p ∙ sym (sign_positive b u x c p)
      | inr p ↦ sign_negative a w x c p ∙ sym (sign_negative b u x c p)
    ])
