-- exp10's reduction: k is nearest to the rounded product, the first step is exact, the second within 2 ^ -60; lo is small and a multiple of 2 ^ -100; hi is a row with a power of two.
use Rattle.std.proofs.Common.{◌≡◌, ℕ, zero, suc, ◌+◌, ◌*◌, ◌/◌, ◌^◌, ◌<◌, ◌≤◌, Bool, true, false, cond, not, T, ◌⊎◌, [], ◌∷◌, ℤ, pos, negsuc, neg_ℤ, nat_abs, ◌≤ℤ◌, sym, refl, ap, ◌∙◌, subst, ap₂, inl, inr, ⊎_elim, le_trans, zero-lt-suc, mul-pos, arith, lit≤, pow_pos}
use lib.Signed.{shr_z}
use lib.Ieee.{Float, nan, inf, fin, Format, binary32, binary64, low, up, down, unlike, round, sum, mul, of_bits, to_bits, is_nan, fits}
use lib.Ieee.Exact.{HasValue}
use lib.Ieee.Fits.{down_pos, mul-fits, fits_widens}
use lib.Ieee.Scale.{finite, grid}
use borrow.Author.Differences.{ints}
use std.Quotient.{cls}
use Rattle.std.specs.Float.{float_mul_add}
use Rattle.exact.specs.Fraction.{Same, integer, fraction, dyadic, plus, times}
use Rattle.exact.proofs.Ring.{con, ◌⊕◌, ◌⊖◌, ◌⊗◌, ⊝, norm}
use Rattle.exact.proofs.Integer.{mul_oneℤ, x₀, x₁, x₂, x₃, x₄, x₅}
use Rattle.exact.proofs.Rational.{ℚ, is, ◌+q◌, ◌*q◌, -q◌, ◌-q◌, ofℤ, qring}
use Rattle.exact.proofs.Order.{nn, nn_add, nn_mul, ◌≤q◌, le_by, q_trans}
use Rattle.exact.proofs.Bound.{ofℕ, Bound, bound_more, bound_add, bound_mul, bound_neg}
use Rattle.exact.proofs.Compare.{sum_cls, product_cls, integer_cls, abs_out}
use Rattle.rounding.specs.Values.{signed, value}
use Rattle.rounding.specs.Whole.{NearestAway}
use Rattle.rounding.specs.Units.{power}
use Rattle.rounding.specs.Ranges.{Ranged, Permitted, once, twice}
use Rattle.rounding.proofs.Fractions.{dy, frac, frac_same, frac_mul, frac_le, frac_le_out, signed_size, size_under, size_out, sign_size}
use Rattle.rounding.proofs.Value.{val, val_value, value_is, mul_rounds}
use Rattle.rounding.proofs.HalfUnit.{round_value}
use Rattle.rounding.proofs.Error.{eps, tiny, round_err}
use Rattle.rounding.proofs.MultiplyAdd.{slip, slip₂, fma_err}
use Rattle.rounding.proofs.Multiple.{Mult, mult_more, mult_mul, mult_add, mult_whole, mult_away, Away, away_more, finite_under, permitted_mult}
use Rattle.rounding.proofs.Held.{coarse}
use Rattle.rounding.proofs.Exact.{exact_small, exact_permitted}
use Rattle.rounding.proofs.Range.{FmaLaw, ranged, permitted_fits, mul_finite}
use Rattle.rounding.proofs.WholeNumber.{NearWhole}
use Rattle.rounding.proofs.Cast.{cast_value}
use Rattle.rounding.proofs.Distance.{same_number, within_in}
use Rattle.rounding.proofs.NearestResult.{one_float}
use Rattle.arithmetic.specs.Arithmetic.{Arithmetic, Lawful, RoundsAway, OneOrTwo}
use Rattle.arithmetic.specs.Signs as Signs
use Rattle.arithmetic.specs.Signs.{order, signed_mul}
use Rattle.arithmetic.specs.Unrounded.{mul_add_sum}
use Rattle.arithmetic.proofs.Digits.{units}
use Rattle.arithmetic.specs.Whole.{nearest_is}
use Rattle.curves.specs.Tables.{table_exp2_mid}
use Rattle.curves.specs.Steps.{row, row_of}
use Rattle.curves.specs.Exp10.{log2_ten, minus_log_hi, minus_log_lo, kd, k, first, lo, hi, Exp10Reaches}
use Rattle.curves.specs.Split.{InPowers, Reduces, Exp10Splits}
use Rattle.curves.proofs.Law.{finite_in, fma_law, in_range, near_whole}
use Rattle.curves.proofs.PowerRow.{mid_from_one, scaled_row_lem}
use Rattle.curves.proofs.Reduction.{sign_of}
use Rattle.curves.proofs.Sizes.{pattern_of, under, below, above, pattern_lt, pattern_is, magnitude_is}

-- ---- the constants
constants_finite : T (finite log2_ten) × T (finite minus_log_hi) × T (finite minus_log_lo)
unfolding of_bits
constants_finite = (tt, tt, tt)

pub constants_ranged : Ranged binary64 400 minus_log_hi × Ranged binary64 400 minus_log_lo
unfolding of_bits fits
constants_ranged = ((tt, inr (lit≤ tt, lit≤ tt)), (tt, inr (lit≤ tt, lit≤ tt)))

-- the two parts of - log10 2 / 32 together
abbrev pub step : ℚ
step = val minus_log_hi +q val minus_log_lo

-- half of it and a little: bounds of lo before and after its last rounding
abbrev pub before_lo : ℚ
before_lo = dy 78916 24

abbrev pub most_lo : ℚ
most_lo = dy 78917 24

hi_multiple : Mult 44 (val minus_log_hi)
unfolding val of_bits
hi_multiple = record { num = negsuc 165492990270; how = is refl }

lo_multiple : Mult 100 (val minus_log_lo)
unfolding val of_bits
lo_multiple = record { num = pos 3380009810897301; how = is refl }

sizes : Bound (val log2_ten) (dy 111465411 20) × Bound (val minus_log_hi) (dy 1 6) × Bound (val minus_log_lo) (dy 1 48) × Bound (ofℤ (pos 1) +q val log2_ten *q step) (dy 1 53) × Bound step (dy 157827 24)
unfolding nn ◌-q◌ ◌+q◌ -q◌ ◌*q◌ val of_bits ofℕ ofℤ
sizes = (
  record { hi = record { le = tt }; lo = record { le = tt } },
  record { hi = record { le = tt }; lo = record { le = tt } },
  record { hi = record { le = tt }; lo = record { le = tt } },
  record { hi = record { le = tt }; lo = record { le = tt } },
  record { hi = record { le = tt }; lo = record { le = tt } },
)

nums : (dy 111465411 20 *q ofℕ 46 ≤q ofℕ (2 ^ 20)) × (dy 111465411 20 *q ofℕ 46 *q eps binary64 +q tiny binary64 ≤q dy 1 40) × (dy 111465411 20 *q ofℕ 46 +q dy 1 40 +q dy 1 1 ≤q ofℕ 4923)
    × (ofℕ 4923 *q dy 1 6 ≤q ofℕ 256) × (ofℕ 256 ≤q ofℕ 511) × (ofℕ 256 +q ofℕ 46 ≤q ofℕ 511)
    × (ofℕ 46 *q dy 1 53 +q (dy 1 40 +q dy 1 1) *q dy 157827 24 ≤q before_lo) × (ofℕ 4923 *q dy 1 48 ≤q dy 1 35) × (dy 1 35 ≤q ofℕ (2 ^ 100)) × (before_lo +q slip binary64 (dy 1 35) ≤q ofℕ (2 ^ 100)) × (slip₂ binary64 (dy 1 35) before_lo ≤q dy 1 60) × (before_lo +q dy 1 60 ≤q most_lo)
    × (ofℕ 46 ≤q ofℕ (2 ^ 400)) × (ofℕ 4923 ≤q ofℕ (2 ^ 400)) × (ofℕ 511 ≤q ofℕ (2 ^ 400)) × (dy 111465411 20 *q ofℕ 46 +q dy 1 40 ≤q ofℕ (2 ^ 21))
unfolding nn ◌-q◌ ◌+q◌ -q◌ ◌*q◌ ofℕ ofℤ
nums = (record { le = tt }, record { le = tt }, record { le = tt }, record { le = tt }, record { le = tt }, record { le = tt }, record { le = tt }, record { le = tt }, record { le = tt }, record { le = tt }, record { le = tt }, record { le = tt }, record { le = tt }, record { le = tt }, record { le = tt }, record { le = tt })

-- ---- a float that is ready for a law: it fits, is finite, and is a multiple of 2 ^ -k
pub record Ready (k : ℕ) (x : Float) : Type 0 where
  pub is_finite : T (finite x)
  pub is_fit : T (fits binary64 x)
  pub is_mult : Mult k (val x)

pub ready_range : {k : ℕ} (x : Float) (B : ℚ) → k ≤ 400 → Ready k x → Bound (val x) B → B ≤q ofℕ (2 ^ 400) → Ranged binary64 400 x
ready_range x B h r b l = ranged binary64 400 x r.is_fit r.is_finite (away_more 400 h (mult_away r.is_mult)) (bound_more b l)

-- ---- the rounded product
module _ (x : Float) (fx : T (finite x)) (bx : Bound (val x) (ofℕ 46)) where
  pub product_err : T (finite (mul binary64 log2_ten x)) × Bound (val (mul binary64 log2_ten x) -q val log2_ten *q val x) (dy 1 40)
  product_err =
      let w = round_err binary64 (mul binary64 log2_ten x) (val log2_ten *q val x) (dy 111465411 20 *q ofℕ 46) 20 (mul_rounds binary64 log2_ten x constants_finite.0 fx) (bound_mul sizes.0 bx) nums.0 (lit≤ tt) in
      (w.is_finite, bound_more w.off nums.1)

  pub product_size : Bound (val (mul binary64 log2_ten x)) (ofℕ (2 ^ 21))
  unfolding norm ◌-q◌
  product_size =
      bound_more (subst (λ (u : ℚ). Bound u (dy 111465411 20 *q ofℕ 46 +q dy 1 40)) (qring (x₀ ⊕ (x₁ ⊖ x₀)) x₁ refl (val log2_ten *q val x ∷ val (mul binary64 log2_ten x) ∷ []))
      (bound_add (bound_mul sizes.0 bx) product_err.1)) nums.15

-- ---- x is the input, z a nearest whole number to the rounded product
module _ (fma : Float → Float → Float → Float) (law : FmaLaw binary64 400 fma) (x z : Float) (k : ℤ) (rx : Ready 44 x) (bx : Bound (val x) (ofℕ 46))
    (fk : T (finite z)) (wk : T (fits binary64 z)) (vk : val z ≡ ofℤ k) (near : Bound (val (mul binary64 log2_ten x) -q val z) (dy 1 1)) where
  -- with a bound of x comes one of k
  pub k_bound : (B : ℚ) → Bound (val x) B → Bound (val z) (dy 111465411 20 *q B +q dy 1 40 +q dy 1 1)
  unfolding norm ◌-q◌
  k_bound B b =
      let p = val (mul binary64 log2_ten x) in
      subst (λ (u : ℚ). Bound u (dy 111465411 20 *q B +q dy 1 40 +q dy 1 1)) (qring (x₀ ⊕ (x₁ ⊖ x₀) ⊕ ⊝ (x₁ ⊖ x₂)) x₂ refl ((val log2_ten *q val x) ∷ p ∷ val z ∷ []))
      (bound_add (bound_add (bound_mul sizes.0 b) (product_err x rx.is_finite bx).1) (bound_neg near))

  pub k_size : Bound (val z) (ofℕ 4923)
  k_size = bound_more (k_bound (ofℕ 46) bx) nums.2

  k_ready : Ready 0 z
  k_ready = record { is_finite = fk; is_fit = wk; is_mult = subst (λ (u : ℚ). Mult 0 u) (sym vk) (mult_whole k) }

  pub k_range : Ranged binary64 400 z
  k_range = ready_range z (ofℕ 4923) (lit≤ tt) k_ready k_size nums.13

  pub x_range : Ranged binary64 400 x
  x_range = ready_range x (ofℕ 46) (lit≤ tt) rx bx nums.12

  abbrev one : Float
  one = fma z minus_log_hi x

  one_permitted : Permitted binary64 z minus_log_hi x one
  one_permitted = law z minus_log_hi x k_range constants_ranged.0 x_range

  product_small : Bound (val z *q val minus_log_hi) (ofℕ 256)
  product_small = bound_more (bound_mul k_size sizes.1) nums.3

  -- the product of the first step is exact
  pub first_product : T (finite (mul binary64 z minus_log_hi)) × (val (mul binary64 z minus_log_hi) ≡ val z *q val minus_log_hi)
  unfolding ofℕ ofℤ
  first_product = exact_small binary64 (mul binary64 z minus_log_hi) (val z *q val minus_log_hi) 44 511 1 (zero-lt-suc 0) (lit≤ tt) (lit≤ tt) (mul_rounds binary64 z minus_log_hi fk constants_finite.1) (mult_mul k_ready.is_mult hi_multiple) (bound_more product_small nums.4)

  -- and so is the sum
  pub first_exact : T (finite one) × (val one ≡ val z *q val minus_log_hi +q val x)
  unfolding ofℕ ofℤ
  first_exact =
      exact_permitted binary64 z minus_log_hi x one 44 511 1 (zero-lt-suc 0) 44 511 1 (zero-lt-suc 0) (lit≤ tt) (lit≤ tt) (lit≤ tt) (lit≤ tt) fk constants_finite.1 rx.is_finite one_permitted
      (mult_mul k_ready.is_mult hi_multiple) (bound_more product_small nums.4) (mult_add (mult_mul k_ready.is_mult hi_multiple) rx.is_mult) (bound_more (bound_add product_small bx) nums.5)

  pub first_ready : Ready 44 one
  first_ready = record {
    is_finite = first_exact.0;
    is_fit = permitted_fits binary64 z minus_log_hi x one fk constants_finite.1 rx.is_finite one_permitted;
    is_mult = subst (λ (u : ℚ). Mult 44 u) (sym first_exact.1) (mult_add (mult_mul k_ready.is_mult hi_multiple) rx.is_mult);
  }

  -- x + k step is within half a step and a little of 0
  pub lo_exact : Bound (val z *q val minus_log_lo +q val one) before_lo
  unfolding norm ◌-q◌
  lo_exact =
      let p = val (mul binary64 log2_ten x) in
      let L = val log2_ten in
      let a : Bound (val x *q (ofℤ (pos 1) +q L *q step)) (ofℕ 46 *q dy 1 53) = bound_mul bx sizes.3 in
      let b : Bound ((p -q L *q val x +q -q◌ (p -q val z)) *q step) ((dy 1 40 +q dy 1 1) *q dy 157827 24) = bound_mul (bound_add (product_err x rx.is_finite bx).1 (bound_neg near)) sizes.4 in
      subst (λ (u : ℚ). Bound u before_lo) (together (val x) L (val minus_log_hi) (val minus_log_lo) p (val z) ∙ ap (λ (u : ℚ). val z *q val minus_log_lo +q u) (sym first_exact.1))
      (bound_more (bound_add a b) nums.6)
    where
      together : (x L h l p k : ℚ) → x *q (ofℤ (pos 1) +q L *q (h +q l)) +q (p -q L *q x +q -q◌ (p -q k)) *q (h +q l) ≡ k *q l +q (k *q h +q x)
      together x L h l p k = unfold norm ◌-q◌ in qring (x₀ ⊗ (con (pos 1) ⊕ x₁ ⊗ (x₂ ⊕ x₃)) ⊕ (x₄ ⊖ x₁ ⊗ x₀ ⊕ ⊝ (x₄ ⊖ x₅)) ⊗ (x₂ ⊕ x₃)) (x₅ ⊗ x₃ ⊕ (x₅ ⊗ x₂ ⊕ x₀)) refl (x ∷ L ∷ h ∷ l ∷ p ∷ k ∷ [])

  abbrev two : Float
  two = fma z minus_log_lo one

  first_size : Bound (val one) (ofℕ 511)
  first_size = subst (λ (u : ℚ). Bound u (ofℕ 511)) (sym first_exact.1) (bound_more (bound_add product_small bx) nums.5)

  pub first_range : Ranged binary64 400 one
  first_range = ready_range one (ofℕ 511) (lit≤ tt) first_ready first_size nums.14

  two_permitted : Permitted binary64 z minus_log_lo one two
  two_permitted = law z minus_log_lo one k_range constants_ranged.1 first_range

  second : T (finite two) × Bound (val two -q (val z *q val minus_log_lo +q val one)) (dy 1 60)
  second =
      let w = fma_err binary64 z minus_log_lo one two (dy 1 35) before_lo 100 fk constants_finite.2 first_exact.0 two_permitted (bound_more (bound_mul k_size sizes.2) nums.7) lo_exact nums.8 nums.9 (lit≤ tt) in
      (w.is_finite, bound_more w.off nums.10)

  pub second_off : Bound (val two -q (val one +q ofℤ k *q val minus_log_lo)) (dy 1 60)
  unfolding norm
  second_off = subst (λ (u : ℚ). Bound (val two -q u) (dy 1 60)) (qring (x₀ ⊗ x₁ ⊕ x₂) (x₂ ⊕ x₀ ⊗ x₁) refl (val z ∷ val minus_log_lo ∷ val one ∷ []) ∙ ap (λ (u : ℚ). val one +q u *q val minus_log_lo) vk) second.1

  -- lo is within 2 ^ -60 of x + k step
  pub lo_off : Bound (val two -q (val x +q ofℤ k *q step)) (dy 1 60)
  unfolding norm ◌-q◌
  lo_off = subst (λ (u : ℚ). Bound (val two -q u) (dy 1 60)) (ap (λ (u : ℚ). val z *q val minus_log_lo +q u) first_exact.1 ∙ qring (x₀ ⊗ x₂ ⊕ (x₀ ⊗ x₁ ⊕ x₃)) (x₃ ⊕ x₀ ⊗ (x₁ ⊕ x₂)) refl (val z ∷ val minus_log_hi ∷ val minus_log_lo ∷ val x ∷ []) ∙ ap (λ (u : ℚ). val x +q u *q step) vk) second.1

  pub lo_size : Bound (val two) most_lo
  unfolding norm ◌-q◌
  lo_size = bound_more (subst (λ (u : ℚ). Bound u (before_lo +q dy 1 60)) (qring (x₀ ⊕ (x₁ ⊖ x₀)) x₁ refl ((val z *q val minus_log_lo +q val one) ∷ val two ∷ [])) (bound_add lo_exact second.1)) nums.11

  pub lo_ready : Ready 100 two
  lo_ready = record {
    is_finite = second.0;
    is_fit = permitted_fits binary64 z minus_log_lo one two fk constants_finite.2 first_exact.0 two_permitted;
    is_mult = permitted_mult binary64 z minus_log_lo one two 100 (lit≤ tt) fk constants_finite.2 first_exact.0 (mul_finite binary64 z minus_log_lo (dy 1 35) 100 fk constants_finite.2 (bound_more (bound_mul k_size sizes.2) nums.7) nums.8 (lit≤ tt)) second.0 two_permitted (mult_mul k_ready.is_mult lo_multiple) (mult_more 100 (lit≤ tt) first_ready.is_mult);
  }

  -- of an x that is not above 0 k is below 1
  pub k_below : T (nn (-q◌ (val x))) → val z ≤q dy 3 2
  unfolding norm ◌-q◌
  k_below t =
      let p = val (mul binary64 log2_ten x) in
      let L = val log2_ten in
      let a : T (nn (L *q (-q◌ (val x)))) = nn_mul L (-q◌ (val x)) sign_nums (t) in
      q_trans (le_by (L *q (-q◌ (val x)) +q (dy 1 40 -q (p -q L *q val x)) +q (p -q val z -q (-q◌ (dy 1 1)))) (nn_add _ _ (nn_add _ _ a (product_err x rx.is_finite bx).1.hi.le) near.lo.le)
      (qring (x₃ ⊕ x₄ ⊖ x₁) (x₂ ⊗ ⊝ x₅ ⊕ (x₃ ⊖ (x₀ ⊖ x₂ ⊗ x₅)) ⊕ (x₀ ⊖ x₁ ⊖ ⊝ x₄)) refl (p ∷ val z ∷ L ∷ dy 1 40 ∷ dy 1 1 ∷ val x ∷ []))) three_quarters
    where
      sign_nums : T (nn (val log2_ten))
      sign_nums = unfold nn val of_bits in tt

      three_quarters : dy 1 40 +q dy 1 1 ≤q dy 3 2
      three_quarters = unfold nn ◌-q◌ ◌+q◌ -q◌ in record { le = tt }

  -- k is not 0: then x itself, at least 1 / 32 in size, would be as small as lo
  pub k_some : (s : Bool) (a c : ℕ) (C : 0 < c) → val x ≡ frac s a c C → c ≤ a * 2 ^ 5 → k ≡ pos 0 → ⊥
  unfolding ofℤ norm
  k_some s a c C how far e =
      let v : val z ≡ ofℤ (pos 0) = vk ∙ ap ofℤ e in
      let b : Bound (val x) before_lo = subst (λ (u : ℚ). Bound u before_lo) (ap₂ (λ (u w : ℚ). u *q val minus_log_lo +q w) v (first_exact.1 ∙ ap (λ (u : ℚ). u *q val minus_log_hi +q val x) v) ∙ qring (con (pos 0) ⊗ x₀ ⊕ (con (pos 0) ⊗ x₁ ⊕ x₂)) x₂ refl (val minus_log_lo ∷ val minus_log_hi ∷ val x ∷ [])) lo_exact in
      let l : a * 2 ^ 24 ≤ 78916 * c = frac_le_out a c 78916 (2 ^ 24) C (pow_pos 24) (size_under s a c C before_lo (subst (λ (u : ℚ). Bound u before_lo) how b)) in
      absurd (omega arith)

-- ---- one and the same under every lawful arithmetic
nearest_unique_lem : (p : Float) (z w : ℤ) → NearestAway (value p) z → NearestAway (value p) w → z ≡ w
nearest_unique_lem nan z w h g = nearest_is false 0 1 (zero-lt-suc 0) z h ∙ sym (nearest_is false 0 1 (zero-lt-suc 0) w g)
nearest_unique_lem (inf s) z w h g = nearest_is false 0 1 (zero-lt-suc 0) z h ∙ sym (nearest_is false 0 1 (zero-lt-suc 0) w g)
nearest_unique_lem (fin s m e) z w h g = nearest_is s (m * up e) (down e) (down_pos e) z h ∙ sym (nearest_is s (m * up e) (down e) (down_pos e) w g)

whole_has : (f : Format) (y : Float) (s : Bool) (n : ℕ) → T (finite y) → Same (value y) (integer (signed s n)) → (n ≡ 0 → ⊥) → HasValue y s (n * 2 ^ low f) (2 ^ low f)
whole_has f nan s n t h p = absurd t
whole_has f (inf u) s n t h p = absurd t
whole_has f (fin u m e) s n t h p =
    let same : signed u (m * up e * 1) ≡ signed s (n * down e) = sym (signed_mul u (m * up e) 1) ∙ h ∙ signed_mul s n (down e) in (
      elim (sign_of u s (m * up e * 1) (n * down e) same) [
        | inl q ↦ q
        | inr z ↦ absurd (p (no_factor n (down e) (down_pos e) z))
      ],
      wide (m * up e) (down e) n (2 ^ low f) (sym (Signs.signed_size u (m * up e * 1)) ∙ ap nat_abs same ∙ Signs.signed_size s (n * down e)),
    )
  where
    no_factor : (k d : ℕ) → 0 < d → k * d ≡ 0 → k ≡ 0
    no_factor k d p z = elim (order 0 k) [
      | inl l ↦ let h = mul-pos l p in absurd (omega arith)
      | inr g ↦ omega arith
    ]

    wide : (a d n u : ℕ) → a * 1 ≡ n * d → a * u ≡ n * u * d
    wide a d n u e = let h : a * 1 * u ≡ n * d * u = ap (λ (x : ℕ). x * u) e in omega arith

-- two values of a format that are one whole number, and not 0, are one float
same_whole : (f : Format) (y y' : Float) (z : ℤ) → T (fits f y) → T (fits f y') → T (finite y) → T (finite y') → Same (value y) (integer z) → Same (value y') (integer z) → (z ≡ pos 0 → ⊥) → y ≡ y'
same_whole f y y' z w w' t t' h h' some =
    let d = sign_size z in
    let not-zero : d.n ≡ 0 → ⊥ = λ e. some (d.how ∙ ap (signed d.s) e ∙ nil d.s) in
    one_float f y y' d.s (d.n * 2 ^ low f) w w' (whole_has f y d.s d.n t (subst (λ (u : ℤ). Same (value y) (integer u)) d.how h) not-zero)
    (whole_has f y' d.s d.n t' (subst (λ (u : ℤ). Same (value y') (integer u)) d.how h') not-zero)
  where
    nil : (s : Bool) → signed s 0 ≡ pos 0
    nil false = refl
    nil true = refl

-- where the product is exact, one and two roundings give one float
one_sum : (f : Format) (x y z r : Float) → T (finite x) → T (finite y) → T (finite z) → T (fits f z) → T (finite (mul f x y)) → val (mul f x y) ≡ val x *q val y → OneOrTwo f x y z r → r ≡ float_mul_add f x y z
unfolding val mul
one_sum f nan y z r fx fy fz wz fp e law = absurd fx
one_sum f (inf s) y z r fx fy fz wz fp e law = absurd fx
one_sum f (fin s m d) nan z r fx fy fz wz fp e law = absurd fy
one_sum f (fin s m d) (inf t) z r fx fy fz wz fp e law = absurd fy
one_sum f (fin s m d) (fin t n g) nan r fx fy fz wz fp e law = absurd fz
one_sum f (fin s m d) (fin t n g) (inf u) r fx fy fz wz fp e law = absurd fz
one_sum f (fin s m d) (fin t n g) (fin u i h) r fx fy fz wz fp e law =
    let a = m * up d * (n * up g) in
    let c = down d * down g in
    let C = mul-pos (down_pos d) (down_pos g) in
    let o = finite_under f (unlike s t) a c fp in
    let v = round_value f (unlike s t) a c o in
    let P = grid f a c in
    let q : a * 2 ^ low f ≡ P * c = size_out (unlike s t) (unlike s t) a c P (2 ^ low f) C (pow_pos (low f))
    (sym (frac_mul s t (m * up d) (n * up g) (down d) (down g) (down_pos d) (down_pos g)) ∙ sym e ∙ value_is (round f (unlike s t) a c) (unlike s t) P (2 ^ low f) (pow_pos (low f)) v) in
    let w = units f u i h wz in
    let to : (r : Float) → OneOrTwo f (fin s m d) (fin t n g) (fin u i h) r → r ≡ sum f (unlike s t) P u w.n (2 ^ low f) = λ r l. mul_add_sum f s m d t n g u i h r P w.n (2 ^ low f) (pow_pos (low f)) q v w.is l in
    to r law ∙ sym (to (float_mul_add f (fin s m d) (fin t n g) (fin u i h)) (inl refl))

-- ---- the inputs that reach the table
-- below 0x421a209b and 0xc2349e36, in parts of 2 ^ -18
abbrev limit : Bool → ℕ
limit false = 10100891
limit true = 11836982

-- k then stays below these
abbrev most_k : Bool → ℕ
most_k false = 4096
most_k true = 4800

pub record Input (x : Float) : Type 0 where
  pub s : Bool
  pub n : ℕ
  pub how : val x ≡ frac s n (2 ^ 149) (pow_pos 149)
  pub is_finite : T (finite x)
  pub least : 2 ^ 144 ≤ n
  pub most : n < limit s * 2 ^ 131

number_of : (s : Bool) (m : ℕ) (e : ℤ) (n : ℕ) → m * up e * 2 ^ 149 ≡ n * down e → val (fin s m e) ≡ frac s n (2 ^ 149) (pow_pos 149)
unfolding val
number_of s m e n h = frac_same s (m * up e) (down e) n (2 ^ 149) (down_pos e) (pow_pos 149) h

pub input : (x : Float) → T (fits binary32 x) → Exp10Reaches x → Input x
unfolding is_nan to_bits
input nan f t = absurd t.number
input (inf false) f t = ⊎_elim (λ l. absurd (omega (arith, l))) (λ l. absurd (omega (arith, l.0))) t.limits
input (inf true) f t = ⊎_elim (λ l. absurd (omega (arith, l))) (λ l. absurd (omega (arith, l.1))) t.limits
input (fin s m e) f t =
    let u = units binary32 s m e f in
    let p = pattern_is s m e u.n u.is in
    let q = magnitude_is s m e u.n u.is u.holds in
    let l = pattern_lt u.n u.holds in
    let past : 0x3d00_0000 < pattern_of u.n = subst (λ (n : ℕ). 0x3d00_0000 < n) q t.past_small in
    record {
      s = s;
      n = u.n;
      how = number_of s m e u.n u.is;
      is_finite = tt;
      least = le_trans (lit≤ {m = 2 ^ 144} {n = 8388608 * 2 ^ 121} tt) (above u.n 121 8388608 (lit≤ tt) (lit≤ tt) (omega arith));
      most = top s u.n (under s (pattern_of u.n) 0x421a_209b 0xc234_9e36 l (lit≤ tt) (subst (λ (n : ℕ). (n < 0x421a_209b) ⊎ ((0x8000_0000 ≤ n) × (n < 0xc234_9e36))) p t.limits));
    }
  where
    top : (s : Bool) (n : ℕ) → pattern_of n < cond s 0x4234_9e36 0x421a_209b → n < limit s * 2 ^ 131
    top false n l = below n 131 10100891 (lit≤ tt) (lit≤ tt) l
    top true n l = below n 131 11836982 (lit≤ tt) (lit≤ tt) l

module _ (x : Float) (i : Input x) where
  pub input_away : Away 5 (val x)
  input_away = record { s = i.s; a = i.n; c = 2 ^ 149; ok = pow_pos 149; how = i.how; far = inr (let l = i.least in omega arith) }

  pub input_below : Bound (val x) (dy (limit i.s) 18)
  input_below = subst (λ (u : ℚ). Bound u (dy (limit i.s) 18)) (sym i.how) (signed_size i.s i.n (2 ^ 149) (pow_pos 149) _ (frac_le i.n (2 ^ 149) (limit i.s) (2 ^ 18) (pow_pos 149) (pow_pos 18) (let l = i.most in omega arith)))

  pub input_size : Bound (val x) (ofℕ 46)
  unfolding ofℕ ofℤ
  input_size = bound_more input_below (small i.s)
    where
      small : (s : Bool) → dy (limit s) 18 ≤q ofℕ 46
      small false = unfold nn ◌-q◌ ◌+q◌ -q◌ ofℕ ofℤ in record { le = tt }
      small true = unfold nn ◌-q◌ ◌+q◌ -q◌ ofℕ ofℤ in record { le = tt }

  pub input_ready : T (fits binary32 x) → Ready 44 x
  input_ready w = record { is_finite = i.is_finite; is_fit = fits_widens x w; is_mult = mult_more {k = 28} 44 (lit≤ tt) (coarse binary32 5 x i.is_finite w input_away) }

  -- what a lawful rounding makes of the product
  pub input_round : (a : Arithmetic) → Lawful a → RoundsAway binary64 (mul binary64 log2_ten x) (kd a x)
  input_round a v = in_range binary64 (mul binary64 log2_ten x) (kd a x) (mul-fits binary64 log2_ten x) (product_err x i.is_finite input_size).0 (product_size x i.is_finite input_size) (v.round_law (mul binary64 log2_ten x))

  -- kd is k
  pub k_value : (a : Arithmetic) → Lawful a → T (fits binary32 x) → val (kd a x) ≡ ofℤ (k a x)
  k_value a v w =
      let r = near_whole (mul binary64 log2_ten x) (input_round a v) in
      cast_value 31 (kd a x) 4923 (lit≤ tt) r.is_finite (subst (λ (u : ℚ). Mult 0 u) (sym r.value_of) (mult_whole r.num))
      (k_size a.fma (fma_law a v) x (kd a x) r.num (input_ready w) input_size r.is_finite r.is_fit r.value_of r.off)

pub same_integer : (z w : ℤ) → ofℤ z ≡ ofℤ w → z ≡ w
unfolding ofℤ
same_integer z w e = sym (mul_oneℤ z) ∙ same_number (integer z) (integer w) e ∙ mul_oneℤ w

k_parts : (t : Bool) (n : ℕ) → n ≤ most_k t → InPowers 32 150 128 (signed t n)
k_parts false n h = record { row = omega arith; low = omega (arith, ints); high = (let q : n / 32 ≤ 128 = omega arith in omega (arith, ints, q)) }
k_parts true zero h = record { row = lit≤ tt; low = omega (arith, ints); high = omega (arith, ints) }
k_parts true (suc n) h = record { row = omega arith; low = (let q : n / 32 ≤ 149 = omega arith in omega (arith, ints, q)); high = omega (arith, ints) }

-- the bound of k by the limits of x, and 3 / 4 more than the most that it can be
k_most : (s : Bool) → dy 111465411 20 *q dy (limit s) 18 +q dy 1 40 +q dy 1 1 ≤q dy (4 * most_k s + 3) 2
unfolding nn ◌-q◌ ◌+q◌ -q◌ ◌*q◌
k_most false = record { le = tt }
k_most true = record { le = tt }

whole_out : (t : Bool) (n B : ℕ) → Bound (ofℤ (signed t n)) (dy (4 * B + 3) 2) → n ≤ B
unfolding ofℤ
whole_out t n B b = let l : n * 4 ≤ (4 * B + 3) * 1 = frac_le_out n 1 (4 * B + 3) (2 ^ 2) (zero-lt-suc 0) (pow_pos 2) (size_under t n 1 (zero-lt-suc 0) _ b) in omega arith

below_one : (n : ℕ) → ofℤ (pos n) ≤q dy 3 2 → n ≡ 0
unfolding ofℤ
below_one n h = let l : n * 4 ≤ 3 * 1 = frac_le_out n 1 3 (2 ^ 2) (zero-lt-suc 0) (pow_pos 2) h in omega arith

sign_fits : (s t : Bool) (n : ℕ) → n ≤ most_k s → (T s → T (not t) → n ≡ 0) → n ≤ most_k t
sign_fits false false n h z = h
sign_fits false true n h z = omega arith
sign_fits true false n h z = let e = z tt tt in omega arith
sign_fits true true n h z = h

not_above : (s : Bool) (n c : ℕ) (C : 0 < c) → T s → T (nn (-q◌ (frac s n c C)))
unfolding nn -q◌
not_above false n c C t = absurd t
not_above true zero c C t = tt
not_above true (suc n) c C t = tt

power_small : (n : ℕ) (z : ℤ) → InPowers n 150 128 z → nat_abs (shr_z z n) ≤ 200
power_small n z h = go (shr_z z n) h.low h.high
  where
    go : (w : ℤ) → neg_ℤ (pos 150) ≤ℤ w → w ≤ℤ pos 128 → nat_abs w ≤ 200
    go (pos a) l m = omega (arith, ints, m)
    go (negsuc a) l m = let b : a ≤ 149 = omega (arith, ints, l) in omega arith

-- ---- for every lawful arithmetic
lo_clean : most_lo ≤q cls (fraction (pos 1) 212 (zero-lt-suc 211))
unfolding nn ◌-q◌ ◌+q◌ -q◌
lo_clean = record { le = tt }

module _ (x : Float) (i : Input x) (w : T (fits binary32 x)) (a : Arithmetic) (v : Lawful a) where
  whole_near : NearWhole binary64 (mul binary64 log2_ten x) (kd a x)
  whole_near = near_whole (mul binary64 log2_ten x) (input_round x i a v)

  -- k is that whole number
  num_is : (input_round x i a v).z ≡ k a x
  num_is = let r = input_round x i a v in same_integer r.z (k a x) (sym (val_value (kd a x) ∙ is r.is ∙ integer_cls r.z) ∙ k_value x i a v w)

  pub k_nearest : NearestAway (value (mul binary64 log2_ten x)) (k a x)
  k_nearest = subst (NearestAway (value (mul binary64 log2_ten x))) num_is (input_round x i a v).nearest

  pub k_kept : Same (value (kd a x)) (integer (k a x))
  k_kept = same_number (value (kd a x)) (integer (k a x)) (sym (val_value (kd a x)) ∙ k_value x i a v w ∙ sym (integer_cls (k a x)))

  pub k_powers : InPowers 32 150 128 (k a x)
  k_powers =
      let d = sign_size (k a x) in
      let r = whole_near in
      let vk : val (kd a x) ≡ ofℤ (signed d.s d.n) = k_value x i a v w ∙ ap ofℤ d.how in
      let b = k_bound a.fma (fma_law a v) x (kd a x) (k a x) (input_ready x i w) (input_size x i) r.is_finite r.is_fit (k_value x i a v w) r.off (dy (limit i.s) 18) (input_below x i) in
      let m : d.n ≤ most_k i.s = whole_out d.s d.n (most_k i.s) (subst (λ (u : ℚ). Bound u (dy (4 * most_k i.s + 3) 2)) vk (bound_more b (k_most i.s))) in
      let below : T i.s → T (not d.s) → d.n ≡ 0 = λ t u.
      below_one d.n (subst (λ (q : ℚ). q ≤q dy 3 2) (vk ∙ ap (λ (z : ℤ). ofℤ z) (plus_sign d.s d.n u))
      (k_below a.fma (fma_law a v) x (kd a x) (k a x) (input_ready x i w) (input_size x i) r.is_finite r.is_fit (k_value x i a v w) r.off (subst (λ (q : ℚ). T (nn (-q◌ q))) (sym i.how) (not_above i.s i.n (2 ^ 149) (pow_pos 149) t)))) in
      subst (InPowers 32 150 128) (sym d.how) (k_parts d.s d.n (sign_fits i.s d.s d.n m below))
    where
      plus_sign : (t : Bool) (n : ℕ) → T (not t) → signed t n ≡ pos n
      plus_sign false n u = refl
      plus_sign true n u = absurd u

  pub hi_scaled : T (finite (hi a x)) × (val (hi a x) ≡ val (row table_exp2_mid (row_of 32 (k a x))) *q cls (power (shr_z (k a x) 32)))
  hi_scaled = scaled_row_lem table_exp2_mid 32 (k a x) (mid_from_one (row_of 32 (k a x)) k_powers.row) (power_small 32 (k a x) k_powers)

  pub reduces : Reduces a x
  unfolding norm
  reduces =
      let r = whole_near in
      let rx = input_ready x i w in
      let bx = input_size x i in
      let vk = k_value x i a v w in
      let f = fma_law a v in
      let one = first_exact a.fma f x (kd a x) (k a x) rx bx r.is_finite r.is_fit vk r.off in
      record {
        nearest = k_nearest;
        whole_kd = finite_in (kd a x) r.is_finite;
        kept = k_kept;
        finite_first = finite_in (first a x) one.0;
        exact = same_number (value (first a x)) (plus (value x) (times (integer (k a x)) (value minus_log_hi)))
            (sym (val_value (first a x)) ∙ one.1 ∙ qring (x₀ ⊗ x₁ ⊕ x₂) (x₂ ⊕ x₀ ⊗ x₁) refl (val (kd a x) ∷ val minus_log_hi ∷ val x ∷ []) ∙ sym (step_is x (k a x) (kd a x) minus_log_hi vk));
        finite_lo = finite_in (lo a x) (lo_ready a.fma f x (kd a x) (k a x) rx bx r.is_finite r.is_fit vk r.off).is_finite;
        near = within_in (value (lo a x)) (plus (value (first a x)) (times (integer (k a x)) (value minus_log_lo))) (dyadic (pos 1) 60)
            (subst (λ (u : ℚ). Bound (u -q cls (plus (value (first a x)) (times (integer (k a x)) (value minus_log_lo)))) (dy 1 60)) (val_value (lo a x))
            (subst (λ (u : ℚ). Bound (val (lo a x) -q u) (dy 1 60)) (ap (λ (u : ℚ). val (first a x) +q u *q val minus_log_lo) (sym vk) ∙ sym (step_is (first a x) (k a x) (kd a x) minus_log_lo vk))
            (second_off a.fma f x (kd a x) (k a x) rx bx r.is_finite r.is_fit vk r.off)));
        small = abs_out (value (lo a x)) (fraction (pos 1) 212 (zero-lt-suc 211))
            (subst (λ (u : ℚ). Bound u (cls (fraction (pos 1) 212 (zero-lt-suc 211)))) (val_value (lo a x)) (bound_more (lo_size a.fma f x (kd a x) (k a x) rx bx r.is_finite r.is_fit vk r.off) lo_clean));
        finite_hi = finite_in (hi a x) hi_scaled.0;
        scaled = same_number (value (hi a x)) (times (value (row table_exp2_mid (row_of 32 (k a x)))) (power (shr_z (k a x) 32)))
            (sym (val_value (hi a x)) ∙ hi_scaled.1 ∙ ap (λ (u : ℚ). u *q cls (power (shr_z (k a x) 32))) (val_value (row table_exp2_mid (row_of 32 (k a x)))) ∙ sym (product_cls (value (row table_exp2_mid (row_of 32 (k a x)))) (power (shr_z (k a x) 32))));
      }
    where
      step_is : (y : Float) (z : ℤ) (kf c : Float) → val kf ≡ ofℤ z → ◌≡◌ {A = ℚ} (cls (plus (value y) (times (integer z) (value c)))) (val y +q val kf *q val c)
      step_is y z kf c e =
          sum_cls (value y) (times (integer z) (value c))
          ∙ ap₂ ◌+q◌ (sym (val_value y)) (product_cls (integer z) (value c) ∙ ap₂ ◌*q◌ (integer_cls z ∙ sym e) (sym (val_value c)))

  -- kd is one float under every lawful arithmetic
  pub same_kd : (b : Arithmetic) (u : Lawful b) → k a x ≡ k b x → Same (value (kd b x)) (integer (k b x)) → kd a x ≡ kd b x
  same_kd b u e h =
      let r = whole_near in
      let q = near_whole (mul binary64 log2_ten x) (input_round x i b u) in
      same_whole binary64 (kd a x) (kd b x) (k a x) r.is_fit q.is_fit r.is_finite q.is_finite k_kept (subst (λ (z : ℤ). Same (value (kd b x)) (integer z)) (sym e) h)
      (k_some a.fma (fma_law a v) x (kd a x) (k a x) (input_ready x i w) (input_size x i) r.is_finite r.is_fit (k_value x i a v w) r.off i.s i.n (2 ^ 149) (pow_pos 149) i.how (let l = i.least in omega arith))

  first_sum : first a x ≡ float_mul_add binary64 (kd a x) minus_log_hi x
  first_sum =
      let r = whole_near in
      let rx = input_ready x i w in
      let bx = input_size x i in
      let vk = k_value x i a v w in
      let f = fma_law a v in
      let p = first_product a.fma f x (kd a x) (k a x) rx bx r.is_finite r.is_fit vk r.off in
      one_sum binary64 (kd a x) minus_log_hi x (first a x) r.is_finite constants_finite.1 i.is_finite (fits_widens x w) p.0 p.1
      (one_or_two (one_permitted a.fma f x (kd a x) (k a x) rx bx r.is_finite r.is_fit vk r.off))
    where
      one_or_two : {f : Format} {x y z r : Float} → Permitted f x y z r → OneOrTwo f x y z r
      one_or_two (once e) = inl e
      one_or_two (twice e) = inr e

pub exp10_splits_lem : Exp10Splits
exp10_splits_lem a v x w t =
    let i = input x w t in (
      reduces x i w a v,
      k_powers x i w a v,
      λ b u.
          let e : k a x ≡ k b x = nearest_unique_lem (mul binary64 log2_ten x) (k a x) (k b x) (k_nearest x i w a v) (k_nearest x i w b u) in
          let d = same_kd x i w a v b u e (k_kept x i w b u) in (e, first_sum x i w a v ∙ ap (λ (y : Float). float_mul_add binary64 y minus_log_hi x) d ∙ sym (first_sum x i w b u)),
    )
