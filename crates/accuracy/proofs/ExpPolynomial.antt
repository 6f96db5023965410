-- The polynomial of exp and expm1 beside their table rows, for |t| at most 1/256: five coefficients, near the series.
use Rattle.std.proofs.Common.{◌≡◌, ℕ, ◌^◌, ◌≤◌, T, [], ◌∷◌, pos, sym, refl, subst, inr, lit≤}
use Rattle.std.specs.Float.{Float, binary32, binary64}
use Rattle.std.specs.Float.Ieee.{fits, of_bits}
use Rattle.std.specs.Float.Ieee.Scale.{finite}
use Rattle.exact.proofs.Ring.{con, ◌⊕◌, ◌⊖◌, ◌⊗◌, ⊝, norm}
use Rattle.exact.proofs.Integer.{x₀, x₁, x₂, x₃, x₄}
use Rattle.exact.proofs.Rational.{ℚ, ◌+q◌, ◌*q◌, -q◌, ◌-q◌, ofℤ, qring}
use Rattle.exact.proofs.Order.{nn, nn_add, ◌≤q◌, le_by, q_trans, q_mul}
use Rattle.exact.proofs.Bound.{ofℕ, inv, Bound, bound_more, bound_add, bound_mul, bound_turn, bound_via, bound_is}
use Rattle.exact.proofs.Relative.{Rel}
use Rattle.exact.proofs.Series.{term, S, R, from, later, tail}
use Rattle.rounding.specs.Ranges.{Ranged}
use Rattle.exact.proofs.Compare.{dy}
use Rattle.rounding.proofs.Value.{val}
use Rattle.rounding.proofs.Horner.{Ball, ball_size}
use Rattle.rounding.proofs.Range.{FmaLaw}
use Rattle.curves.specs.Steps.{double, poly5}
use Rattle.accuracy.proofs.Horner.{f32_range, Stage, Numbers, horner}

abbrev pub c₀ : Float
c₀ = double 0x3ff0_0000_0000_0000

abbrev pub c₁ : Float
c₁ = double 0x3fef_ffff_ffff_f777

abbrev pub c₂ : Float
c₂ = double 0x3fe0_0000_0000_071c

abbrev pub c₃ : Float
c₃ = double 0x3fc5_5556_6668_e5e7

abbrev pub c₄ : Float
c₄ = double 0x3fa5_5555_555e_f243

pub in_range : Ranged binary64 400 c₀ × Ranged binary64 400 c₁ × Ranged binary64 400 c₂ × Ranged binary64 400 c₃ × Ranged binary64 400 c₄
unfolding of_bits fits
in_range = ((tt, inr (lit≤ tt, lit≤ tt)), (tt, inr (lit≤ tt, lit≤ tt)), (tt, inr (lit≤ tt, lit≤ tt)), (tt, inr (lit≤ tt, lit≤ tt)), (tt, inr (lit≤ tt, lit≤ tt)))

sizes : Bound (val c₀) (dy 1 0) × Bound (val c₁) (dy 1 0) × Bound (val c₂) (dy 1 0) × Bound (val c₃) (dy 1 0) × Bound (val c₄) (dy 2 0)
unfolding nn ◌-q◌ ◌+q◌ -q◌ val of_bits
sizes = (
  bound_is tt tt,
  bound_is tt tt,
  bound_is tt tt,
  bound_is tt tt,
  bound_is tt tt,
)

start : Stage c₄ (val c₄) (dy 2 0) (dy 1 52)
unfolding nn ◌-q◌ ◌+q◌ -q◌ val of_bits
start = record { ball = record { is_finite = tt; off = bound_is tt tt; size = sizes.4 }; range = in_range.4 }

abbrev Fine : Float → Type 0
Fine a = Numbers (dy 1 8) (dy 2 0) (dy 1 52) (dy 1 0) (dy 2 0) (dy 1 52) a

fine : Fine c₀ × Fine c₁ × Fine c₂ × Fine c₃
unfolding nn ◌-q◌ ◌+q◌ -q◌ ◌*q◌ ofℕ ofℤ val of_bits
fine = (
  record { errors = (record { le = tt }, record { le = tt }, record { le = tt }, record { le = tt }); most = record { le = tt }; least = record { le = tt } },
  record { errors = (record { le = tt }, record { le = tt }, record { le = tt }, record { le = tt }); most = record { le = tt }; least = record { le = tt } },
  record { errors = (record { le = tt }, record { le = tt }, record { le = tt }, record { le = tt }); most = record { le = tt }; least = record { le = tt } },
  record { errors = (record { le = tt }, record { le = tt }, record { le = tt }, record { le = tt }); most = record { le = tt }; least = record { le = tt } },
)

top : dy 1 8 ≤q ofℕ (2 ^ 400)
unfolding nn ◌-q◌ ◌+q◌ -q◌ ofℕ ofℤ
top = record { le = tt }

-- the polynomial, exactly
abbrev pub poly : ℚ → ℚ
poly t = t *q (t *q (t *q (t *q val c₄ +q val c₃) +q val c₂) +q val c₁) +q val c₀

pub lo_range : (lo : Float) → T (finite lo) → T (fits binary32 lo) → Bound (val lo) (dy 1 8) → Ranged binary64 400 lo
lo_range lo fl wl bl = f32_range lo (dy 1 8) fl wl bl top

-- each stage of the scheme
pub record Stages (fma : Float → Float → Float → Float) (lo : Float) : Type 0 where
  pub third : Stage (fma lo c₄ c₃) (val lo *q val c₄ +q val c₃) (dy 2 0) (dy 1 52)
  pub second : Stage (fma lo (fma lo c₄ c₃) c₂) (val lo *q (val lo *q val c₄ +q val c₃) +q val c₂) (dy 2 0) (dy 1 52)
  pub first : Stage (fma lo (fma lo (fma lo c₄ c₃) c₂) c₁) (val lo *q (val lo *q (val lo *q val c₄ +q val c₃) +q val c₂) +q val c₁) (dy 2 0) (dy 1 52)
  pub last : Stage (poly5 fma lo c₀ c₁ c₂ c₃ c₄) (poly (val lo)) (dy 2 0) (dy 1 52)

pub stages : (fma : Float → Float → Float → Float) → FmaLaw binary64 400 fma → (lo : Float) → Ranged binary64 400 lo → Bound (val lo) (dy 1 8) → Stages fma lo
stages fma law lo rl bl =
    let s₃ = horner fma law lo c₄ c₃ (val c₄) (dy 1 8) (dy 2 0) (dy 1 52) (dy 1 0) (dy 2 0) (dy 1 52) rl bl in_range.3 sizes.3 start fine.3 in
    let s₂ = horner fma law lo _ c₂ _ (dy 1 8) (dy 2 0) (dy 1 52) (dy 1 0) (dy 2 0) (dy 1 52) rl bl in_range.2 sizes.2 s₃ fine.2 in
    let s₁ = horner fma law lo _ c₁ _ (dy 1 8) (dy 2 0) (dy 1 52) (dy 1 0) (dy 2 0) (dy 1 52) rl bl in_range.1 sizes.1 s₂ fine.1 in
    record { third = s₃; second = s₂; first = s₁; last = horner fma law lo _ c₀ _ (dy 1 8) (dy 2 0) (dy 1 52) (dy 1 0) (dy 2 0) (dy 1 52) rl bl in_range.0 sizes.0 s₁ fine.0 }

-- ---- the polynomial against the series
abbrev q₁ : ℚ
q₁ = inv 0

abbrev q₂ : ℚ
q₂ = inv 0 *q inv 1

abbrev q₃ : ℚ
q₃ = inv 0 *q inv 1 *q inv 2

abbrev q₄ : ℚ
q₄ = inv 0 *q inv 1 *q inv 2 *q inv 3

-- how far each coefficient is from 1 / k!
coefficients : (Bound (val c₀ -q ofℕ 1) (dy 1 60)) × (Bound (val c₁ -q q₁) (dy 9 45)) × (Bound (val c₂ -q q₂) (dy 1 42)) × (Bound (val c₃ -q q₃) (dy 137 30)) × (Bound (val c₄ -q q₄) (dy 1 37))
unfolding nn ◌-q◌ ◌+q◌ -q◌ ◌*q◌ ofℕ ofℤ val of_bits inv
coefficients = (
  bound_is tt tt,
  bound_is tt tt,
  bound_is tt tt,
  bound_is tt tt,
  bound_is tt tt,
)

S_four : (t : ℚ) → S t 4 ≡ t *q (t *q (t *q (t *q q₄ +q q₃) +q q₂) +q q₁) +q ofℕ 1
unfolding S term norm ofℕ
S_four t =
    qring (con (pos 1) ⊕ con (pos 1) ⊗ x₀ ⊗ x₁ ⊕ con (pos 1) ⊗ x₀ ⊗ x₁ ⊗ x₀ ⊗ x₂ ⊕ con (pos 1) ⊗ x₀ ⊗ x₁ ⊗ x₀ ⊗ x₂ ⊗ x₀ ⊗ x₃ ⊕ con (pos 1) ⊗ x₀ ⊗ x₁ ⊗ x₀ ⊗ x₂ ⊗ x₀ ⊗ x₃ ⊗ x₀ ⊗ x₄)
    (x₀ ⊗ (x₀ ⊗ (x₀ ⊗ (x₀ ⊗ (x₁ ⊗ x₂ ⊗ x₃ ⊗ x₄) ⊕ x₁ ⊗ x₂ ⊗ x₃) ⊕ x₁ ⊗ x₂) ⊕ x₁) ⊕ con (pos 1)) refl (t ∷ inv 0 ∷ inv 1 ∷ inv 2 ∷ inv 3 ∷ [])

-- one more factor t and one more coefficient
pub lift : (t u w c d X E D F : ℚ) → Bound t X → Bound (u -q w) E → Bound (c -q d) D → X *q E +q D ≤q F → Bound (t *q u +q c -q (t *q w +q d)) F
unfolding norm ◌-q◌
lift t u w c d X E D F bt b k h =
    bound_more (subst (λ (z : ℚ). Bound z (X *q E +q D)) (qring (x₀ ⊗ (x₁ ⊖ x₂) ⊕ (x₃ ⊖ x₄)) (x₀ ⊗ x₁ ⊕ x₃ ⊖ (x₀ ⊗ x₂ ⊕ x₄)) refl (t ∷ u ∷ w ∷ c ∷ d ∷ [])) (bound_add (bound_mul bt b) k)) h

lifts : (dy 1 8 *q dy 1 37 +q dy 137 30 ≤q dy 138 30) × (dy 1 8 *q dy 138 30 +q dy 1 42 ≤q dy 139 38) × (dy 1 8 *q dy 139 38 +q dy 9 45 ≤q dy 158 46) × (dy 1 8 *q dy 158 46 +q dy 1 60 ≤q dy 159 54)
unfolding nn ◌-q◌ ◌+q◌ -q◌ ◌*q◌
lifts = (record { le = tt }, record { le = tt }, record { le = tt }, record { le = tt })

four_terms : (t : ℚ) → Bound t (dy 1 8) → Bound (poly t -q S t 4) (dy 159 54)
four_terms t b =
    subst (λ (z : ℚ). Bound (poly t -q z) (dy 159 54)) (sym (S_four t))
    (lift t _ _ (val c₀) (ofℕ 1) (dy 1 8) (dy 158 46) (dy 1 60) (dy 159 54) b
    (lift t _ _ (val c₁) q₁ (dy 1 8) (dy 139 38) (dy 9 45) (dy 158 46) b
    (lift t _ _ (val c₂) q₂ (dy 1 8) (dy 138 30) (dy 1 42) (dy 139 38) b
    (lift t (val c₄) q₄ (val c₃) q₃ (dy 1 8) (dy 1 37) (dy 137 30) (dy 138 30) b coefficients.4 coefficients.3 lifts.0) coefficients.2 lifts.1) coefficients.1 lifts.2) coefficients.0 lifts.3)

tail_numbers : (R (dy 1 8) 4 ≤q dy 274 54) × (dy 1 8 +q dy 1 8 ≤q ofℕ 4)
unfolding nn ◌-q◌ ◌+q◌ -q◌ ◌*q◌ term inv ofℕ ofℤ
tail_numbers = (record { le = tt }, record { le = tt })

pub poly_series : (t : ℚ) → Bound t (dy 1 8) → (n : ℕ) → 4 ≤ n → Bound (poly t -q S t n) (dy 159 54 +q dy 274 54)
poly_series t b n h =
    later (λ m. Bound (poly t -q S t m) (dy 159 54 +q dy 274 54)) 4
    (λ j. bound_via (poly t) (S t 4) (S t (from 4 j)) (four_terms t b) (bound_turn (S t (from 4 j)) (S t 4) (bound_more (tail t (dy 1 8) b 4 tail_numbers.1 j) tail_numbers.0))) n h

-- ---- what the scheme gives, near 1
inner : (t : ℚ) → Bound t (dy 1 8) → Bound (t *q (t *q (t *q val c₄ +q val c₃) +q val c₂) +q val c₁) (dy 1 8 *q (dy 1 8 *q (dy 1 8 *q dy 2 0 +q dy 1 0) +q dy 1 0) +q dy 1 0)
inner t b = bound_add (bound_mul b (bound_add (bound_mul b (bound_add (bound_mul b sizes.4) sizes.3)) sizes.2)) sizes.1

near_one_numbers : (dy 1 8 *q (dy 1 8 *q (dy 1 8 *q (dy 1 8 *q dy 2 0 +q dy 1 0) +q dy 1 0) +q dy 1 0) ≤q dy 1 7) × (dy 63 6 +q (dy 1 7 +q dy 1 52) ≤q val c₀) × (dy 1 1 ≤q dy 63 6) × (dy 2 0 +q dy 1 52 ≤q ofℕ 3) × (dy 1 52 +q (dy 159 54 +q dy 274 54) ≤q dy 7 48 *q dy 63 6) × T (nn (dy 7 48)) × (dy 2 0 +q (dy 159 54 +q dy 274 54) ≤q ofℕ 3)
unfolding nn ◌-q◌ ◌+q◌ -q◌ ◌*q◌ ofℕ ofℤ val of_bits
near_one_numbers = (record { le = tt }, record { le = tt }, record { le = tt }, record { le = tt }, record { le = tt }, tt, record { le = tt })

near_one : (t p : ℚ) → Bound t (dy 1 8) → Bound (p -q poly t) (dy 1 52) → dy 63 6 ≤q p
unfolding norm ◌-q◌
near_one t p b h =
    let w = t *q (t *q (t *q (t *q val c₄ +q val c₃) +q val c₂) +q val c₁) in
    let i : Bound w (dy 1 7) = bound_more (bound_mul b (inner t b)) near_one_numbers.0 in
    q_trans (le_by (val c₀ -q (dy 63 6 +q (dy 1 7 +q dy 1 52))) near_one_numbers.1.le (qring (x₀ ⊖ x₂ ⊖ x₃ ⊖ x₁) (x₀ ⊖ (x₁ ⊕ (x₂ ⊕ x₃))) refl (val c₀ ∷ dy 63 6 ∷ dy 1 7 ∷ dy 1 52 ∷ [])))
    (le_by (w -q (-q◌ (dy 1 7)) +q (p -q (w +q val c₀) -q (-q◌ (dy 1 52)))) (nn_add _ _ i.lo.le h.lo.le) (qring (x₁ ⊖ (x₀ ⊖ x₂ ⊖ x₃)) (x₄ ⊖ ⊝ x₂ ⊕ (x₁ ⊖ (x₄ ⊕ x₀) ⊖ ⊝ x₃)) refl (val c₀ ∷ p ∷ dy 1 7 ∷ dy 1 52 ∷ w ∷ [])))

-- what is known of the polynomial's f64 at lo: at least 1/2, at most 3, and the series is within 7 * 2 ^ -48 of it, relative to it
pub record NearSeries (lo p : Float) : Type 0 where
  pub is_finite : T (finite p)
  pub low : dy 1 1 ≤q val p
  pub high : Bound (val p) (ofℕ 3)
  pub near : (n : ℕ) → 4 ≤ n → Rel (S (val lo) n) (val p) (dy 7 48)
  pub sum : (n : ℕ) → 4 ≤ n → Bound (S (val lo) n) (ofℕ 3)

pub poly_near : (lo p : Float) → Bound (val lo) (dy 1 8) → Ball p (poly (val lo)) (dy 2 0) (dy 1 52) → NearSeries lo p
unfolding norm ◌-q◌
poly_near lo p b s = record {
  is_finite = s.is_finite;
  low = q_trans near_one_numbers.2 (near_one (val lo) (val p) b s.off);
  high = bound_more (ball_size s) near_one_numbers.3;
  near = λ n h. record { off = bound_more (bound_via (S (val lo) n) (poly (val lo)) (val p) (bound_turn (poly (val lo)) (S (val lo) n) (poly_series (val lo) b n h)) (bound_turn (val p) (poly (val lo)) s.off)) (rest b s.off) };
  sum = λ n h. bound_more (subst (λ (u : ℚ). Bound u (dy 2 0 +q (dy 159 54 +q dy 274 54))) (qring (x₀ ⊕ (x₁ ⊖ x₀)) x₁ refl (poly (val lo) ∷ S (val lo) n ∷ [])) (bound_add s.size (bound_turn (poly (val lo)) (S (val lo) n) (poly_series (val lo) b n h)))) near_one_numbers.6;
}
  where
    rest : Bound (val lo) (dy 1 8) → Bound (val p -q poly (val lo)) (dy 1 52) → dy 159 54 +q dy 274 54 +q dy 1 52 ≤q dy 7 48 *q val p
    rest b s = q_trans (subst (λ (u : ℚ). u ≤q dy 7 48 *q dy 63 6) (unfold norm in qring (x₀ ⊕ (x₁ ⊕ x₂)) (x₁ ⊕ x₂ ⊕ x₀) refl (dy 1 52 ∷ dy 159 54 ∷ dy 274 54 ∷ [])) near_one_numbers.4) (q_mul (dy 7 48) near_one_numbers.5 (near_one (val lo) (val p) b s))
