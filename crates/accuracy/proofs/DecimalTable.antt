-- exp10 by its table: the f64 before the narrowing is within 2 ^ -43 of 10 ^ x, relative to it, under every lawful arithmetic.
use Rattle.std.proofs.Common.{◌≡◌, ℕ, ◌≤◌, T, [], ◌∷◌, ℤ, pos, negsuc, ◌+ℤ◌, ◌*ℤ◌, neg_ℤ, nat_abs, ◌≤ℤ◌, refl, ap, ◌∙◌, subst, inr, zero-lt-suc, arith, lit≤}
use Rattle.std.specs.Int.Signed.{shr_z}
use Rattle.std.specs.Float.{Float, binary32, binary64}
use Rattle.std.specs.Float.Ieee.{mul, of_bits, fits}
use Rattle.std.specs.Float.Ieee.Scale.{finite}
use Rattle.std.proofs.lemmas.Int.{ints}
use std.Quotient.{cls}
use Rattle.exact.specs.Logarithm.{binary, decimal}
use Rattle.exact.proofs.Ring.{con, ◌⊕◌, ◌⊖◌, ◌⊗◌, ⊝, norm}
use Rattle.exact.proofs.Integer.{zring, x₀, x₁, x₂, x₃, x₄, x₅, x₆}
use Rattle.exact.proofs.Rational.{ℚ, is, ◌+q◌, ◌*q◌, -q◌, ◌-q◌, ofℤ, qring}
use Rattle.exact.proofs.Order.{nn, ◌≤q◌}
use Rattle.exact.proofs.Bound.{ofℕ, inv, Bound, bound_more, bound_add, bound_mul, bound_neg, bound_is}
use Rattle.exact.proofs.Compare.{fr, dy}
use Rattle.exact.proofs.Series.{term, from}
use Rattle.exact.proofs.Logarithm.{root, low, low_near_root}
use Rattle.rounding.specs.Units.{power}
use Rattle.rounding.proofs.Value.{val}
use Rattle.rounding.proofs.WholeNumber.{NearWhole}
use Rattle.arithmetic.specs.Arithmetic.{Arithmetic, Lawful}
use Rattle.curves.specs.Tables.{table_exp2_mid}
use Rattle.curves.specs.Steps.{double, row, row_of, times_power_value}
use Rattle.curves.specs.Exp10.{log2_ten, kd, k, lo, hi, Exp10Reaches}
use Rattle.curves.specs.Split.{InPowers}
use Rattle.curves.proofs.Decimal.{step, most_lo, Ready, input, input_size, input_ready, input_round, k_value, k_powers, k_size, lo_off, lo_size, lo_ready, hi_scaled}
use Rattle.curves.proofs.Law.{fma_law, near_whole}
use Rattle.accuracy.proofs.PowerProduct.{Coefficients}
use Rattle.accuracy.proofs.PowerTable.{part_split, Approximates, FromRow, from_row}
use Rattle.accuracy.proofs.PowerRows.{mid_rule}

-- ---- the coefficients
abbrev pub k₀ : Float
k₀ = double 0x4002_6bb1_bbb5_5515

abbrev pub k₁ : Float
k₁ = double 0x4005_3524_c73b_d3ea

abbrev pub k₂ : Float
k₂ = double 0x4000_4705_91df_f149

abbrev pub k₃ : Float
k₃ = double 0x3ff2_bd7c_0a9f_bc4d

abbrev pub k₄ : Float
k₄ = double 0x3fe1_429e_74a9_8f43

pub coefficients : Coefficients k₀ k₁ k₂ k₃ k₄
unfolding nn ◌-q◌ ◌+q◌ -q◌ ◌*q◌ val of_bits fits ofℕ ofℤ
coefficients = record {
  in₀ = (tt, inr (lit≤ tt, lit≤ tt));
  in₁ = (tt, inr (lit≤ tt, lit≤ tt));
  in₂ = (tt, inr (lit≤ tt, lit≤ tt));
  in₃ = (tt, inr (lit≤ tt, lit≤ tt));
  in₄ = (tt, inr (lit≤ tt, lit≤ tt));
  size₀ = bound_is tt tt;
  size₁ = bound_is tt tt;
  size₂ = bound_is tt tt;
  size₃ = bound_is tt tt;
  size₄ = bound_is tt tt;
  low₁ = record { le = tt };
  low₃ = record { le = tt };
}

approximates : Approximates decimal most_lo k₀ k₁ k₂ k₃ k₄
unfolding nn ◌-q◌ ◌+q◌ -q◌ ◌*q◌ val of_bits ofℕ ofℤ inv term
approximates = record {
  M = dy 2359 10;
  D₀ = dy 1 51;
  D₁ = dy 1 34;
  D₂ = dy 1 34;
  D₃ = dy 1 17;
  D₄ = dy 1 20;
  root_size = bound_is tt tt;
  near₀ = bound_is tt tt;
  near₁ = bound_is tt tt;
  near₂ = bound_is tt tt;
  near₃ = bound_is tt tt;
  near₄ = bound_is tt tt;
  all = record { le = tt };
  far = record { le = tt };
  rest = record { le = tt };
}

-- ---- k in pieces
pieces : (z : ℤ) → z ≡ pos 32 *ℤ shr_z z 32 +ℤ pos (row_of 32 z)
pieces (pos a) = omega (arith, ints)
pieces (negsuc a) = omega (arith, ints)

k_parts : (z : ℤ) (u : ℚ) → ofℤ z *q inv 31 *q u ≡ ofℤ (shr_z z 32) *q u +q fr (pos (row_of 32 z)) 32 (zero-lt-suc 31) *q u
unfolding norm
k_parts z u =
    ap (λ (q : ℚ). q *q u) (part z ∙ ap (λ (w : ℤ). fr w 32 (zero-lt-suc 31)) (pieces z) ∙ part_split 32 (zero-lt-suc 31) (shr_z z 32) (row_of 32 z))
    ∙ qring ((x₀ ⊕ x₁) ⊗ x₂) (x₀ ⊗ x₂ ⊕ x₁ ⊗ x₂) refl (ofℤ (shr_z z 32) ∷ fr (pos (row_of 32 z)) 32 (zero-lt-suc 31) ∷ u ∷ [])
  where
    part : (z : ℤ) → ofℤ z *q inv 31 ≡ fr z 32 (zero-lt-suc 31)
    part z = unfold ◌*q◌ ofℤ inv norm in is (zring (x₀ ⊗ con (pos 1) ⊗ con (pos 32)) (x₀ ⊗ con (pos 32)) refl (z ∷ []))

powers_small : (z : ℤ) → InPowers 32 150 128 z → nat_abs (shr_z z 32) ≤ 159
powers_small z h = go (shr_z z 32) h.low h.high
  where
    go : (w : ℤ) → neg_ℤ (pos 150) ≤ℤ w → w ≤ℤ pos 128 → nat_abs w ≤ 159
    go (pos a) l m = omega (arith, ints, m)
    go (negsuc a) l m = let b : a ≤ 149 = omega (arith, ints, l) in omega arith

-- ---- the numbers: 1 / 32 of ln 2 over ln 10 is the step of the reduction
step_near : Bound (step *q root decimal +q inv 31 *q root binary) (dy 1 90) × Bound (root decimal) (dy 2359 10)
unfolding nn ◌-q◌ ◌+q◌ -q◌ ◌*q◌ val of_bits ofℕ ofℤ inv
step_near = (bound_is tt tt, bound_is tt tt)

nums : (ofℕ 46 *q dy 1 84 +q (dy 1 60 *q dy 2359 10 +q ofℕ 4923 *q dy 1 90) ≤q dy 1 58) × (most_lo ≤q dy 1 7)
unfolding nn ◌-q◌ ◌+q◌ -q◌ ◌*q◌ ofℕ ofℤ
nums = (record { le = tt }, record { le = tt })

module _ (a : Arithmetic) (v : Lawful a) (x : Float) (w : T (fits binary32 x)) (t : Exp10Reaches x) where
  near_k : NearWhole binary64 (mul binary64 log2_ten x) (kd a x)
  near_k = near_whole (mul binary64 log2_ten x) (input_round x (input x w t) a v)

  vk : val (kd a x) ≡ ofℤ (k a x)
  vk = k_value x (input x w t) a v w

  pub powers : InPowers 32 150 128 (k a x)
  powers = k_powers x (input x w t) w a v

  pub lo_small : Bound (val (lo a x)) most_lo
  lo_small = lo_size a.fma (fma_law a v) x (kd a x) (k a x) (input_ready x (input x w t) w) (input_size x (input x w t)) near_k.is_finite near_k.is_fit vk near_k.off

  pub lo_fine : Ready 100 (lo a x)
  lo_fine = lo_ready a.fma (fma_law a v) x (kd a x) (k a x) (input_ready x (input x w t) w) (input_size x (input x w t)) near_k.is_finite near_k.is_fit vk near_k.off

  off : Bound (val (lo a x) -q (val x +q ofℤ (k a x) *q step)) (dy 1 60)
  off = lo_off a.fma (fma_law a v) x (kd a x) (k a x) (input_ready x (input x w t) w) (input_size x (input x w t)) near_k.is_finite near_k.is_fit vk near_k.off

  k_bound : Bound (ofℤ (k a x)) (ofℕ 4923)
  k_bound = subst (λ (u : ℚ). Bound u (ofℕ 4923)) vk (k_size a.fma (fma_law a v) x (kd a x) (k a x) (input_ready x (input x w t) w) (input_size x (input x w t)) near_k.is_finite near_k.is_fit vk near_k.off)

  pub row_scaled : T (finite (hi a x)) × (val (hi a x) ≡ val (row table_exp2_mid (row_of 32 (k a x))) *q cls (power (shr_z (k a x) 32)))
  row_scaled = hi_scaled x (input x w t) w a v

  abbrev pub wide : Float
  wide = times_power_value a.fma (lo a x) (hi a x) k₀ k₁ k₂ k₃ k₄

  split : (j : ℕ) → Bound (val x *q low decimal (from 80 j) -q (ofℤ (shr_z (k a x) 32) *q root binary +q fr (pos (row_of 32 (k a x))) 32 (zero-lt-suc 31) *q root binary +q val (lo a x) *q root decimal)) (dy 1 58)
  unfolding norm ◌-q◌
  split j =
      let l = low decimal (from 80 j) in
      bound_more
      (subst (λ (u : ℚ). Bound u (ofℕ 46 *q dy 1 84 +q (dy 1 60 *q dy 2359 10 +q ofℕ 4923 *q dy 1 90)))
      (ring (val x) l (root decimal) (val (lo a x)) (ofℤ (k a x)) step (inv 31 *q root binary) ∙ ap (λ (u : ℚ). val x *q l -q (u +q val (lo a x) *q root decimal)) (qring (x₀ ⊗ (x₁ ⊗ x₂)) (x₀ ⊗ x₁ ⊗ x₂) refl (ofℤ (k a x) ∷ inv 31 ∷ root binary ∷ []) ∙ k_parts (k a x) (root binary)))
      (bound_add (bound_mul (input_size x (input x w t)) (low_near_root decimal j)) (bound_add (bound_neg (bound_mul off step_near.1)) (bound_neg (bound_mul k_bound step_near.0)))))
      nums.0
    where
      ring : (x l e o k m v : ℚ) → x *q (l -q e) +q (-q◌ ((o -q (x +q k *q m)) *q e) +q -q◌ (k *q (m *q e +q v))) ≡ x *q l -q (k *q v +q o *q e)
      ring x l e o k m v = unfold norm ◌-q◌ in qring (x₀ ⊗ (x₁ ⊖ x₂) ⊕ (⊝ ((x₃ ⊖ (x₀ ⊕ x₄ ⊗ x₅)) ⊗ x₂) ⊕ ⊝ (x₄ ⊗ (x₅ ⊗ x₂ ⊕ x₆)))) (x₀ ⊗ x₁ ⊖ (x₄ ⊗ x₆ ⊕ x₃ ⊗ x₂)) refl (x ∷ l ∷ e ∷ o ∷ k ∷ m ∷ v ∷ [])

  -- the f64 before the narrowing
  pub by_row : FromRow decimal x (hi a x) wide
  by_row = from_row decimal most_lo nums.1 k₀ k₁ k₂ k₃ k₄ coefficients approximates a.fma (fma_law a v) (lo a x) (hi a x) lo_fine lo_small (shr_z (k a x) 32) (powers_small (k a x) powers) (row table_exp2_mid (row_of 32 (k a x))) _ (mid_rule (row_of 32 (k a x)) powers.row) row_scaled.0 row_scaled.1 x split
