-- The last rounding of a float z to a figure: infinite from the limit on, otherwise within half a unit of z, and so of what z is near.
use Rattle.std.proofs.Common.{◌≡◌, ℕ, ◌+◌, ◌-◌, ◌*◌, ◌^◌, ◌≤◌, Bool, false, T, [], ◌∷◌, pos, sym, refl, ap, ◌∙◌, subst, le_trans, le_of_eq, le_of_lt, mul-le-mul_right, arith, le→leb, pow_pos, pow_mono, pow-add}
use Rattle.std.specs.Float.{Float, inf, Format, round_to_format}
use Rattle.std.specs.Float.Ieee.{prec, low, size, fits}
use Rattle.std.specs.Float.Ieee.Digits.{size-lt}
use Rattle.std.specs.Float.Ieee.Scale.{grid, finite}
use Rattle.std.specs.Float.Ieee.Exact.{HasValue}
use std.Quotient.{cls}
use Rattle.exact.specs.Fraction.{Fraction, whole, plus, absolute}
use Rattle.exact.proofs.Ring.{con, ◌⊕◌, ◌⊖◌, ◌⊗◌, ⊝, norm}
use Rattle.exact.proofs.Integer.{zring, x₀, x₁, x₂, x₃}
use Rattle.exact.proofs.Rational.{ℚ, is, ◌+q◌, ◌*q◌, -q◌, ◌-q◌, ofℤ, qring}
use Rattle.exact.proofs.Order.{nn, nn_add, ◌≤q◌, le_by, q_refl, q_trans, q_add, q_mul}
use Rattle.exact.proofs.Bound.{ofℕ, nn_le, Bound, bound_more, bound_add, bound_neg, bound_self, absq, mul_right}
use Rattle.rounding.specs.Values.{value}
use Rattle.rounding.specs.Units.{unit}
use Rattle.rounding.specs.Nearest.{limit, Nearest}
use Rattle.rounding.specs.Errors.{half}
use Rattle.exact.proofs.Compare.{dy, leq_in}
use Rattle.rounding.proofs.Fractions.{frac, nn_frac}
use Rattle.rounding.proofs.Value.{val, val_value, value_is}
use Rattle.rounding.proofs.Narrow.{unit_of}
use Rattle.rounding.proofs.Limit.{limitℕ}
use Rattle.rounding.proofs.Distance.{at_most_in, at_most_out, abs_cls, abs_frac, abs_above, within_in}
use Rattle.rounding.proofs.UnitInLastPlace.{unit_is}
use Rattle.rounding.proofs.NearestResult.{nearest_result}
use Rattle.rounding.proofs.Operations.{conversions}
use Rattle.rounding.proofs.Errors.{near_value, infinite_near_lem}
use Rattle.rounding.proofs.Held.{digits}

-- ---- a value is at most 2 ^ prec of its units
few_units : (f : Format) (g : ℕ) → frac false g (2 ^ low f) (pow_pos (low f)) ≤q ofℕ (2 ^ prec f) *q frac false (unit_of f g) (2 ^ low f) (pow_pos (low f))
unfolding ofℕ ofℤ ◌*q◌
few_units f g = leq_in _ _ (le→leb (g * (1 * 2 ^ low f)) (2 ^ prec f * unit_of f g * 2 ^ low f) (go g (2 ^ prec f * unit_of f g) (2 ^ low f) digits_under))
  where
    digits_under : g ≤ 2 ^ prec f * unit_of f g
    digits_under = le_trans (le_of_lt (size-lt g)) (le_trans (pow_mono {i = size g} {j = prec f + (size g - prec f)} (omega arith)) (le_of_eq (pow-add 2 (prec f) (size g - prec f))))

    go : (g h l : ℕ) → g ≤ h → g * (1 * l) ≤ h * l
    go g h l k = let m : g * l ≤ h * l = mul-le-mul_right l k in omega arith

value_units : (f : Format) (y : Float) (t : Bool) (g : ℕ) → HasValue y t g (2 ^ low f) → absq (val y) ≤q ofℕ (2 ^ prec f) *q cls (unit f y)
value_units f y t g h =
    subst (λ (u : ℚ). absq (val y) ≤q ofℕ (2 ^ prec f) *q u) (sym (unit_is f y t g h))
    (subst (λ (u : ℚ). u ≤q ofℕ (2 ^ prec f) *q frac false (unit_of f g) (2 ^ low f) (pow_pos (low f))) (sym (ap absq (value_is y t g (2 ^ low f) (pow_pos (low f)) h) ∙ abs_frac t g (2 ^ low f) (pow_pos (low f)))) (few_units f g))

pub held_units : (f : Format) (y : Float) → T (finite y) → T (fits f y) → absq (val y) ≤q ofℕ (2 ^ prec f) *q cls (unit f y)
held_units f y t w = let d = digits f y t w in value_units f y d.s (d.q * 2 ^ d.j) d.how

-- two numbers near v, relative to their own sizes, are nearly of one size
pub other_size : (z z' v k : ℚ) → Bound (z -q v) (k *q absq z) → Bound (z' -q v) (k *q absq z') → (ofℤ (pos 1) -q k) *q absq z' ≤q (ofℤ (pos 1) +q k) *q absq z
unfolding norm ◌-q◌
other_size z z' v k h h' =
    let a = abs_above v z' (k *q absq z') (turn z' v (k *q absq z') h') in
    let b = abs_above z v (k *q absq z) h in
    le_by ((absq v +q k *q absq z' -q absq z') +q (absq z +q k *q absq z -q absq v)) (nn_add _ _ a.le b.le)
    (qring ((con (pos 1) ⊕ x₃) ⊗ x₀ ⊖ (con (pos 1) ⊖ x₃) ⊗ x₁) ((x₂ ⊕ x₃ ⊗ x₁ ⊖ x₁) ⊕ (x₀ ⊕ x₃ ⊗ x₀ ⊖ x₂)) refl (absq z ∷ absq z' ∷ absq v ∷ k ∷ []))
  where
    turn : (a b D : ℚ) → Bound (a -q b) D → Bound (b -q a) D
    turn a b D h = unfold norm ◌-q◌ in subst (λ (u : ℚ). Bound u D) (qring (⊝ (x₀ ⊖ x₁)) (x₁ ⊖ x₀) refl (a ∷ b ∷ [])) (bound_neg h)

-- ---- z in the format f
module _ (f : Format) (z : Float) (fz : T (finite z)) where
  abbrev y : Float
  y = round_to_format f z

  pub figure_nearest : Nearest f (value z) (round_to_format f z)
  figure_nearest = ((conversions f z).finite_in fz).nearest

  limit_is : cls (limit f) ≡ ofℕ (limitℕ f)
  unfolding ofℕ ofℤ
  limit_is = refl

  size_is : cls (absolute (value z)) ≡ absq (val z)
  size_is = abs_cls (value z) ∙ ap absq (sym (val_value z))

  pub figure_infinite : ofℕ (limitℕ f) ≤q val z → round_to_format f z ≡ inf false
  unfolding norm ◌-q◌
  figure_infinite h =
      (infinite_near_lem f (value z) (value z) (whole 0) y figure_nearest (within_in (value z) (value z) (whole 0) (nothing (cls (value z)) (cls (whole 0)) none))).0
      (at_most_in (plus (limit f) (whole 0)) (value z) (subst (λ (u : ℚ). u ≤q cls (value z)) (sym (nought (limit f) ∙ limit_is)) (subst (λ (u : ℚ). ofℕ (limitℕ f) ≤q u) (val_value z) h)))
    where
      none : T (nn (cls (whole 0)))
      none = unfold nn in tt

      nothing : (a b : ℚ) → T (nn b) → Bound (a -q a) b
      nothing a b t = unfold norm ◌-q◌ in bound_more (subst (λ (u : ℚ). Bound u (ofℤ (pos 0))) (qring (con (pos 0)) (x₀ ⊖ x₀) refl (a ∷ [])) (bound_self (zero_nn))) (nn_le t)
        where
          zero_nn : T (nn (ofℤ (pos 0)))
          zero_nn = unfold nn ofℤ in tt

      nought : (a : Fraction) → ◌≡◌ {A = ℚ} (cls (plus a (whole 0))) (cls a)
      nought a = unfold norm in is (zring ((x₀ ⊗ con (pos 1) ⊕ con (pos 0) ⊗ x₁) ⊗ x₁) (x₀ ⊗ (x₁ ⊗ con (pos 1))) refl (a.num ∷ pos a.den ∷ []))

  pub figure_finite : (ofℕ (limitℕ f) ≤q absq (val z) → ⊥) → T (finite (round_to_format f z))
  figure_finite h = (figure_nearest.otherwise (λ k. h (subst (λ (u : ℚ). u ≤q absq (val z)) limit_is (subst (λ (u : ℚ). cls (limit f) ≤q u) size_is (at_most_out (limit f) (absolute (value z)) k))))).held.is_finite

  module _ (fy : T (finite (round_to_format f z))) where
    pub figure_half : Bound (val (round_to_format f z) -q val z) (cls (half (unit f (round_to_format f z))))
    figure_half = subst (λ (u : ℚ). Bound (val y -q u) (cls (half (unit f y)))) (sym (val_value z)) (near_value f (value z) y (nearest_result f (value z) y figure_nearest fy))

    -- within half a unit and e of v
    pub figure_near : (v e : ℚ) → Bound (val z -q v) e → Bound (val (round_to_format f z) -q v) (cls (half (unit f (round_to_format f z))) +q e)
    unfolding norm ◌-q◌
    figure_near v e b = subst (λ (u : ℚ). Bound u (cls (half (unit f y)) +q e)) (qring (x₀ ⊖ x₁ ⊕ (x₁ ⊖ x₂)) (x₀ ⊖ x₂) refl (val y ∷ val z ∷ v ∷ [])) (bound_add figure_half b)

    -- the number is at most 2 ^ prec and a half units of what it rounds to
    pub figure_units : absq (val z) ≤q (ofℕ (2 ^ prec f) +q dy 1 1) *q cls (unit f (round_to_format f z))
    unfolding norm ◌-q◌
    figure_units =
        let r = nearest_result f (value z) y figure_nearest fy in
        let U = cls (unit f y) in
        let w : absq (val y) ≤q ofℕ (2 ^ prec f) *q U = value_units f y r.t (grid f r.a (value z).den) r.has in
        q_trans (abs_above (val y) (val z) (cls (half (unit f y))) figure_half)
        (subst (λ (u : ℚ). absq (val y) +q cls (half (unit f y)) ≤q u) (ap (λ (u : ℚ). ofℕ (2 ^ prec f) *q U +q u) (half_is (unit f y)) ∙ qring (x₀ ⊗ x₂ ⊕ x₁ ⊗ x₂) ((x₀ ⊕ x₁) ⊗ x₂) refl (ofℕ (2 ^ prec f) ∷ dy 1 1 ∷ U ∷ [])) (q_add w (q_refl (cls (half (unit f y))))))
      where
        half_is : (u : Fraction) → cls (half u) ≡ dy 1 1 *q cls u
        half_is u = unfold ◌*q◌ in is refl

    -- an error of k times the number is d units, where k (2 ^ prec + 1/2) is at most d
    pub figure_relative : (k d : ℚ) → T (nn k) → k *q (ofℕ (2 ^ prec f) +q dy 1 1) ≤q d → k *q absq (val z) ≤q d *q cls (unit f (round_to_format f z))
    unfolding norm
    figure_relative k d nk h =
        let U = cls (unit f y) in
        let r = nearest_result f (value z) y figure_nearest fy in
        q_trans (q_mul k nk figure_units)
        (subst (λ (u : ℚ). u ≤q d *q U) (qring (x₀ ⊗ x₁ ⊗ x₂) (x₀ ⊗ (x₁ ⊗ x₂)) refl (k ∷ (ofℕ (2 ^ prec f) +q dy 1 1) ∷ U ∷ []))
        (mul_right U (subst (λ (u : ℚ). T (nn u)) (sym (unit_is f y r.t (grid f r.a (value z).den) r.has)) (nn_frac (unit_of f (grid f r.a (value z).den)) (2 ^ low f) (pow_pos (low f)))) h))
