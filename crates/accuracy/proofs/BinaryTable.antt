-- exp2 by its table: the f64 before the narrowing is within 2 ^ -43 of 2 ^ x, relative to it, under every lawful arithmetic.
use Rattle.std.proofs.Common.{◌≡◌, ℕ, ◌^◌, ◌≤◌, T, [], ◌∷◌, ℤ, pos, negsuc, ◌+ℤ◌, ◌*ℤ◌, neg_ℤ, nat_abs, ◌≤ℤ◌, sym, refl, ap, ◌∙◌, subst, inr, le_trans, zero-lt-suc, arith, lit≤}
use Rattle.std.specs.Int.Signed.{shr_z}
use Rattle.std.specs.Float.{Float, binary32, binary64}
use Rattle.std.specs.Float.Ieee.{mul, neg, of_bits, fits}
use Rattle.std.specs.Float.Ieee.Fits.{mul-fits, fits_widens}
use Rattle.std.specs.Float.Ieee.Scale.{finite}
use Rattle.std.proofs.lemmas.Int.{ints}
use std.Quotient.{cls}
use Rattle.exact.specs.Fraction.{dyadic}
use Rattle.exact.specs.Logarithm.{binary}
use Rattle.exact.proofs.Ring.{◌⊕◌, ◌⊖◌, ◌⊗◌, ⊝, norm}
use Rattle.exact.proofs.Integer.{x₀, x₁, x₂, x₃}
use Rattle.exact.proofs.Rational.{ℚ, is, ◌+q◌, ◌*q◌, -q◌, ◌-q◌, ofℤ, qring}
use Rattle.exact.proofs.Order.{nn, ◌≤q◌}
use Rattle.exact.proofs.Bound.{ofℕ, inv, Bound, bound_more, bound_add, bound_mul, bound_neg, bound_is}
use Rattle.exact.proofs.Compare.{diff_cls, integer_cls, abs_in, fr, dy}
use Rattle.exact.proofs.Series.{term, from}
use Rattle.exact.proofs.Logarithm.{root, low, low_near_root}
use Rattle.rounding.specs.Values.{value}
use Rattle.rounding.specs.Ranges.{Ranged, Permitted}
use Rattle.rounding.specs.Units.{power}
use Rattle.rounding.proofs.Value.{val, val_value, mul_rounds}
use Rattle.rounding.proofs.Error.{eps, tiny, round_err}
use Rattle.rounding.proofs.Multiple.{Mult, mult_more, mult_add, mult_whole}
use Rattle.rounding.proofs.Held.{coarse}
use Rattle.rounding.proofs.Range.{permitted_fits, ranged_finite}
use Rattle.rounding.proofs.WholeNumber.{NearWhole}
use Rattle.arithmetic.specs.Arithmetic.{Arithmetic, Lawful, RoundsAway}
use Rattle.curves.specs.Tables.{table_exp2f}
use Rattle.curves.specs.Steps.{double, row, row_of, times_power_value}
use Rattle.curves.specs.Exp2.{kd, k, lo, hi, Exp2Reaches}
use Rattle.curves.specs.Split.{Splits, InPowers}
use Rattle.curves.proofs.Binary.{exp2_splits_lem}
use Rattle.curves.proofs.Decimal.{Ready, ready_range}
use Rattle.curves.proofs.Law.{finite_out, fma_law, in_range, near_whole}
use Rattle.curves.proofs.PowerRow.{entry_from_one, scaled_row_lem}
use Rattle.accuracy.proofs.PowerInputs.{exp2_finite, exp2_size, exp2_away}
use Rattle.accuracy.proofs.PowerProduct.{Coefficients}
use Rattle.accuracy.proofs.PowerTable.{part_split, Approximates, FromRow, from_row}
use Rattle.accuracy.proofs.PowerRows.{entry_rule}

-- ---- the coefficients
abbrev pub k₀ : Float
k₀ = double 0x3fe6_2e42_fefa_39ef

abbrev pub k₁ : Float
k₁ = double 0x3fce_bfbd_ff81_31c4

abbrev pub k₂ : Float
k₂ = double 0x3fac_6b08_d706_1695

abbrev pub k₃ : Float
k₃ = double 0x3f83_b2b1_bee7_4b2a

abbrev pub k₄ : Float
k₄ = double 0x3f55_d880_9119_8529

pub coefficients : Coefficients k₀ k₁ k₂ k₃ k₄
unfolding nn ◌-q◌ ◌+q◌ -q◌ ◌*q◌ val of_bits fits ofℕ ofℤ
coefficients = record {
  in₀ = (tt, inr (lit≤ tt, lit≤ tt));
  in₁ = (tt, inr (lit≤ tt, lit≤ tt));
  in₂ = (tt, inr (lit≤ tt, lit≤ tt));
  in₃ = (tt, inr (lit≤ tt, lit≤ tt));
  in₄ = (tt, inr (lit≤ tt, lit≤ tt));
  size₀ = bound_is tt tt;
  size₁ = bound_is tt tt;
  size₂ = bound_is tt tt;
  size₃ = bound_is tt tt;
  size₄ = bound_is tt tt;
  low₁ = record { le = tt };
  low₃ = record { le = tt };
}

approximates : Approximates binary (dy 1 7) k₀ k₁ k₂ k₃ k₄
unfolding nn ◌-q◌ ◌+q◌ -q◌ ◌*q◌ val of_bits ofℕ ofℤ inv term
approximates = record {
  M = ofℕ 1;
  D₀ = dy 1 55;
  D₁ = dy 1 38;
  D₂ = dy 1 40;
  D₃ = dy 1 24;
  D₄ = dy 1 30;
  root_size = bound_is tt tt;
  near₀ = bound_is tt tt;
  near₁ = bound_is tt tt;
  near₂ = bound_is tt tt;
  near₃ = bound_is tt tt;
  near₄ = bound_is tt tt;
  all = record { le = tt };
  far = record { le = tt };
  rest = record { le = tt };
}

-- ---- k in pieces
pieces : (z : ℤ) → z ≡ pos 64 *ℤ shr_z z 64 +ℤ pos (row_of 64 z)
pieces (pos a) = omega (arith, ints)
pieces (negsuc a) = omega (arith, ints)

pub k_parts : (z : ℤ) → ◌≡◌ {A = ℚ} (cls (dyadic z 6)) (ofℤ (shr_z z 64) +q fr (pos (row_of 64 z)) 64 (zero-lt-suc 63))
k_parts z = same z ∙ ap (λ (w : ℤ). fr w 64 (zero-lt-suc 63)) (pieces z) ∙ part_split 64 (zero-lt-suc 63) (shr_z z 64) (row_of 64 z)
  where
    same : (z : ℤ) → ◌≡◌ {A = ℚ} (cls (dyadic z 6)) (fr z 64 (zero-lt-suc 63))
    same z = is refl

powers_small : (z : ℤ) → InPowers 64 149 128 z → nat_abs (shr_z z 64) ≤ 159
powers_small z h = go (shr_z z 64) h.low h.high
  where
    go : (w : ℤ) → neg_ℤ (pos 149) ≤ℤ w → w ≤ℤ pos 128 → nat_abs w ≤ 159
    go (pos a) l m = omega (arith, ints, m)
    go (negsuc a) l m = let b : a ≤ 148 = omega (arith, ints, l) in omega arith

-- ---- the numbers
abbrev sixty_four : Float
sixty_four = double 0x4050_0000_0000_0000

abbrev step : Float
step = neg (double 0x3f90_0000_0000_0000)

nums : T (finite sixty_four) × Bound (val sixty_four) (ofℕ 64) × (ofℕ 150 *q ofℕ 64 ≤q ofℕ (2 ^ 20)) × (ofℕ 150 *q ofℕ 64 +q (ofℕ 150 *q ofℕ 64 *q eps binary64 +q tiny binary64) ≤q ofℕ (2 ^ 21)) × (dy 1 1 +q ofℕ (2 ^ 21) ≤q ofℕ (2 ^ 22)) × (ofℕ (2 ^ 22) ≤q ofℕ (2 ^ 400)) × (ofℕ 150 ≤q ofℕ (2 ^ 400)) × (ofℕ 150 *q dy 1 84 ≤q dy 1 58) × (dy 1 7 ≤q dy 1 7)
unfolding nn ◌-q◌ ◌+q◌ -q◌ ◌*q◌ val of_bits ofℕ ofℤ
nums = (tt, bound_is tt tt, record { le = tt }, record { le = tt }, record { le = tt }, record { le = tt }, record { le = tt }, record { le = tt }, record { le = tt })

pub step_range : Ranged binary64 400 (neg (double 0x3f90_0000_0000_0000))
unfolding neg of_bits fits
step_range = (tt, inr (lit≤ tt, lit≤ tt))

module _ (a : Arithmetic) (v : Lawful a) (x : Float) (w : T (fits binary32 x)) (t : Exp2Reaches x) where
  fx : T (finite x)
  fx = exp2_finite x t

  abbrev product : Float
  product = mul binary64 x (double 0x4050_0000_0000_0000)

  pub product_small : T (finite product) × Bound (val product) (ofℕ (2 ^ 21))
  unfolding norm ◌-q◌
  product_small =
      let e = round_err binary64 product (val x *q val sixty_four) (ofℕ 150 *q ofℕ 64) 20 (mul_rounds binary64 x sixty_four fx nums.0) (bound_mul (exp2_size x w t) nums.1) nums.2 (lit≤ tt) in
      (e.is_finite, bound_more (subst (λ (u : ℚ). Bound u (ofℕ 150 *q ofℕ 64 +q (ofℕ 150 *q ofℕ 64 *q eps binary64 +q tiny binary64))) (qring (x₀ ⊕ (x₁ ⊖ x₀)) x₁ refl (val x *q val sixty_four ∷ val product ∷ [])) (bound_add (bound_mul (exp2_size x w t) nums.1) e.off)) nums.3)

  rounds : RoundsAway binary64 product (kd a x)
  rounds = in_range binary64 product (kd a x) (mul-fits binary64 x sixty_four) product_small.0 product_small.1 (v.round_law product)

  near_k : NearWhole binary64 product (kd a x)
  near_k = near_whole product rounds

  splits : Splits 6 x (kd a x) (k a x) (lo a x)
  splits = (exp2_splits_lem a v x w t).0

  pub powers : InPowers 64 149 128 (k a x)
  powers = (exp2_splits_lem a v x w t).1

  k_value : val (kd a x) ≡ ofℤ (k a x)
  k_value = val_value (kd a x) ∙ is splits.kept ∙ integer_cls (k a x)

  k_ready : Ready 0 (kd a x)
  k_ready = record { is_finite = near_k.is_finite; is_fit = near_k.is_fit; is_mult = subst (λ (u : ℚ). Mult 0 u) (sym k_value) (mult_whole (k a x)) }

  k_size : Bound (val (kd a x)) (ofℕ (2 ^ 22))
  unfolding norm ◌-q◌
  k_size = bound_more (subst (λ (u : ℚ). Bound u (dy 1 1 +q ofℕ (2 ^ 21))) (qring (⊝ (x₀ ⊖ x₁) ⊕ x₀) x₁ refl (val product ∷ val (kd a x) ∷ [])) (bound_add (bound_neg near_k.off) product_small.1)) nums.4

  pub k_range : Ranged binary64 400 (kd a x)
  k_range = ready_range (kd a x) (ofℕ (2 ^ 22)) (lit≤ tt) k_ready k_size nums.5

  x_ready : Ready 28 x
  x_ready = record { is_finite = fx; is_fit = fits_widens x w; is_mult = coarse binary32 5 x fx w (exp2_away x w t) }

  pub x_range : Ranged binary64 400 x
  x_range = ready_range x (ofℕ 150) (lit≤ tt) x_ready (exp2_size x w t) nums.6

  lo_permitted : Permitted binary64 step (kd a x) x (lo a x)
  lo_permitted = fma_law a v step (kd a x) x step_range k_range x_range

  lo_value : val (lo a x) ≡ val x -q cls (dyadic (k a x) 6)
  lo_value = val_value (lo a x) ∙ is splits.exact ∙ diff_cls (value x) (dyadic (k a x) 6) ∙ ap (λ (u : ℚ). u -q cls (dyadic (k a x) 6)) (sym (val_value x))

  pub lo_size : Bound (val (lo a x)) (dy 1 7)
  lo_size = subst (λ (u : ℚ). Bound u (dy 1 7)) (sym (val_value (lo a x))) (abs_in (value (lo a x)) (dyadic (pos 1) 7) splits.small)

  pub lo_ready : Ready 100 (lo a x)
  unfolding ◌-q◌
  lo_ready = record {
    is_finite = finite_out (lo a x) splits.finite_lo;
    is_fit = permitted_fits binary64 step (kd a x) x (lo a x) (ranged_finite binary64 400 step step_range) near_k.is_finite fx lo_permitted;
    is_mult = subst (λ (u : ℚ). Mult 100 u) (sym lo_value) (mult_add (mult_more {k = 28} 100 (lit≤ tt) x_ready.is_mult) (mult_more {k = 6} 100 (lit≤ tt) (minus_part (k a x))));
  }
    where
      minus_part : (z : ℤ) → Mult 6 (-q◌ (cls (dyadic z 6)))
      minus_part z = unfold -q◌ in record { num = neg_ℤ z; how = is refl }

  pub hi_scaled : T (finite (hi a x)) × (val (hi a x) ≡ val (row table_exp2f (row_of 64 (k a x))) *q cls (power (shr_z (k a x) 64)))
  hi_scaled = scaled_row_lem table_exp2f 64 (k a x) (entry_from_one (row_of 64 (k a x)) powers.row) (le_trans (powers_small (k a x) powers) (lit≤ tt))

  abbrev pub wide : Float
  wide = times_power_value a.fma (lo a x) (hi a x) k₀ k₁ k₂ k₃ k₄

  -- x ln 2 is the sum of the three logarithms, and so nearly is x l
  split : (j : ℕ) → Bound (val x *q low binary (from 80 j) -q (ofℤ (shr_z (k a x) 64) *q root binary +q fr (pos (row_of 64 (k a x))) 64 (zero-lt-suc 63) *q root binary +q val (lo a x) *q root binary)) (dy 1 58)
  unfolding norm ◌-q◌
  split j =
      let H = ofℤ (shr_z (k a x) 64) in
      let I = fr (pos (row_of 64 (k a x))) 64 (zero-lt-suc 63) in
      let L = root binary in
      let e : H *q L +q I *q L +q val (lo a x) *q L ≡ val x *q L =
      ap (λ (u : ℚ). H *q L +q I *q L +q u *q L) (lo_value ∙ ap (λ (u : ℚ). val x -q u) (k_parts (k a x))) ∙ qring (x₀ ⊗ x₂ ⊕ x₁ ⊗ x₂ ⊕ (x₃ ⊖ (x₀ ⊕ x₁)) ⊗ x₂) (x₃ ⊗ x₂) refl (H ∷ I ∷ L ∷ val x ∷ []) in
      subst (λ (u : ℚ). Bound (val x *q low binary (from 80 j) -q u) (dy 1 58)) (sym e)
      (subst (λ (u : ℚ). Bound u (dy 1 58)) (qring (x₀ ⊗ (x₁ ⊖ x₂)) (x₀ ⊗ x₁ ⊖ x₀ ⊗ x₂) refl (val x ∷ low binary (from 80 j) ∷ L ∷ []))
      (bound_more (bound_mul (exp2_size x w t) (low_near_root binary j)) nums.7))

  -- the f64 before the narrowing
  pub by_row : FromRow binary x (hi a x) wide
  by_row = from_row binary (dy 1 7) nums.8 k₀ k₁ k₂ k₃ k₄ coefficients approximates a.fma (fma_law a v) (lo a x) (hi a x) lo_ready lo_size (shr_z (k a x) 64) (powers_small (k a x) powers) (row table_exp2f (row_of 64 (k a x))) _ (entry_rule (row_of 64 (k a x)) powers.row) hi_scaled.0 hi_scaled.1 x split
