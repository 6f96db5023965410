-- The split of exp and expm1 in rationals: x is the sum of the two rows' arguments and lo, and every argument of the split and of the polynomial lies in the law's ranges.
use Rattle.std.proofs.Common.{◌≡◌, ℕ, ◌+◌, ◌*◌, ◌/◌, ◌%◌, ◌^◌, ◌<◌, ◌≤◌, true, false, T, [], ◌∷◌, ℤ, pos, ◌+ℤ◌, ◌-ℤ◌, ◌*ℤ◌, sym, refl, ap, ◌∙◌, subst, ap₂, inl, inr, ⊎_elim, le_of_lt, arith, lit≤, pow_pos}
use Rattle.std.specs.Float.{Float, nan, inf, fin, binary32, binary64}
use Rattle.std.specs.Float.Ieee.{mul, neg, fits, is_nan, of_bits, to_bits}
use Rattle.std.specs.Float.Ieee.Fits.{mul-fits}
use Rattle.std.specs.Float.Ieee.Scale.{finite}
use Rattle.std.proofs.lemmas.Int.{ints}
use std.Quotient.{cls}
use Rattle.exact.specs.Fraction.{dyadic}
use Rattle.exact.proofs.Ring.{con, ◌⊕◌, ◌⊖◌, ◌⊗◌, ⊝, norm}
use Rattle.exact.proofs.Integer.{zring, x₀, x₁}
use Rattle.exact.proofs.Rational.{ℚ, is, ◌+q◌, ◌*q◌, -q◌, ◌-q◌, ofℤ, qring}
use Rattle.exact.proofs.Order.{nn, ◌≤q◌, q_refl, q_trans, q_neg}
use Rattle.exact.proofs.Bound.{ofℕ, Bound, bound_more, bound_add, bound_mul, bound_self, bound_neg, bound_is}
use Rattle.exact.proofs.Compare.{fr, abs_in, diff_cls, dy}
use Rattle.rounding.specs.Values.{value}
use Rattle.rounding.specs.Ranges.{Ranged, Permitted}
use Rattle.rounding.proofs.Fractions.{nn_frac}
use Rattle.rounding.proofs.Value.{val, val_value, mul_rounds}
use Rattle.rounding.proofs.Error.{eps, tiny, round_err}
use Rattle.rounding.proofs.Multiple.{Mult, Away, away_more, away_above, away_below, mult_away, mult_whole}
use Rattle.rounding.proofs.Range.{permitted_fits, ranged, ranged_finite}
use Rattle.rounding.proofs.Patterns.{sized, size_of, sized_mono}
use Rattle.arithmetic.specs.Arithmetic.{Arithmetic, Lawful}
use Rattle.curves.specs.Steps.{pattern, magnitude, single}
use Rattle.curves.specs.Exp.{kf, k, lo, shifted, row_of_whole, row_of_rest, ExpReaches}
use Rattle.curves.proofs.Natural.{exp_splits_lem}
use Rattle.accuracy.specs.Arguments.{Asked, AskedWhole, ExpArguments}
use Rattle.curves.proofs.Law.{finite_out, ranged_in, fma_law, small_in_range, near_whole}
use Rattle.curves.proofs.Law as Law
use Rattle.accuracy.proofs.Law.{fmaf_law, asked}
use Rattle.accuracy.proofs.Inputs.{Signed, positive, negative, signed_of}
use Rattle.accuracy.proofs.Rows.{whole_arg, part_arg}
use Rattle.accuracy.proofs.ExpPolynomial.{in_range, lo_range, stages}

-- ---- an x that reaches the tables, by its size
pub reaches_finite : (x : Float) → ExpReaches x → T (finite x)
unfolding is_nan to_bits
reaches_finite nan t = absurd t.number
reaches_finite (inf false) t = ⊎_elim (λ l. absurd (omega (arith, l))) (λ l. absurd (omega (arith, l.0))) t.limits
reaches_finite (inf true) t = ⊎_elim (λ l. absurd (omega (arith, l))) (λ l. absurd (omega (arith, l.1))) t.limits
reaches_finite (fin s m e) t = tt

size_numbers : (dy 1 60 ≤q sized 0x3280_0000) × (sized 0x42cf_f1b5 ≤q ofℕ 105) × T (nn (sized 0x42cf_f1b5))
unfolding nn ◌-q◌ ◌+q◌ -q◌ ofℕ ofℤ
size_numbers = (record { le = tt }, record { le = tt }, tt)

pub reaches_size : (x : Float) → T (fits binary32 x) → ExpReaches x → Away 60 (val x) × Bound (val x) (ofℕ 105)
reaches_size x w t = go (signed_of x w (reaches_finite x t))
  where
    f : T (finite x)
    f = reaches_finite x t

    past : 0x3280_0000 < magnitude x
    past = t.past_one

    under : magnitude x ≡ pattern x → pattern x < 2 ^ 31 → magnitude x ≤ 0x42cf_f1b5
    under e l = elim t.limits [
      | inl h ↦ (omega arith)
      | inr h ↦ let a = h.0 in absurd (omega arith)
    ]

    under_sign : pattern x ≡ 2 ^ 31 + magnitude x → magnitude x ≤ 0x42cf_f1b5
    under_sign e = elim t.limits [
      | inl h ↦ absurd (omega arith)
      | inr h ↦ let a = h.1 in omega arith
    ]

    nn_sized : (n : ℕ) → T (nn (sized n))
    nn_sized n = nn_frac (size_of n) (2 ^ 149) (pow_pos 149)

    low : dy 1 60 ≤q sized (magnitude x)
    low = q_trans size_numbers.0 (sized_mono 0x3280_0000 (magnitude x) (le_of_lt past))

    high : magnitude x ≤ 0x42cf_f1b5 → sized (magnitude x) ≤q ofℕ 105
    high h = q_trans (sized_mono (magnitude x) 0x42cf_f1b5 h) size_numbers.1

    go : Signed x → Away 60 (val x) × Bound (val x) (ofℕ 105)
    go (positive l m v) =
        let e : val x ≡ sized (magnitude x) = v ∙ ap (λ (n : ℕ). sized n) (sym m) in
        (away_above 60 x f (subst (λ (u : ℚ). dy 1 60 ≤q u) (sym e) low), subst (λ (u : ℚ). Bound u (ofℕ 105)) (sym e) (bound_more (bound_self (nn_sized (magnitude x))) (high (under m l))))
    go (negative l m v) =
        (away_below 60 x f (subst (λ (u : ℚ). u ≤q -q◌ (dy 1 60)) (sym v) (q_neg low)), subst (λ (u : ℚ). Bound u (ofℕ 105)) (sym v) (bound_neg (bound_more (bound_self (nn_sized (magnitude x))) (high (under_sign m)))))

-- ---- 128 x, rounded to a whole number
scale_numbers : T (finite (single 0x4300_0000)) × Bound (val (single 0x4300_0000)) (ofℕ 128) × (ofℕ 105 *q ofℕ 128 ≤q ofℕ (2 ^ 14)) × (ofℕ (2 ^ 14) +q (ofℕ (2 ^ 14) *q eps binary32 +q tiny binary32) ≤q ofℕ (2 ^ 15)) × (ofℕ (2 ^ 15) ≤q ofℕ (2 ^ 21)) × (ofℕ (2 ^ 15) +q dy 1 1 ≤q ofℕ (2 ^ 60)) × (ofℕ 105 ≤q ofℕ (2 ^ 60))
unfolding nn ◌-q◌ ◌+q◌ -q◌ ◌*q◌ ofℕ ofℤ val of_bits
scale_numbers = (tt, bound_is tt tt, record { le = tt }, record { le = tt }, record { le = tt }, record { le = tt }, record { le = tt })

scaled_size : (x : Float) → T (finite x) → Bound (val x) (ofℕ 105) → T (finite (mul binary32 x (single 0x4300_0000))) × Bound (val (mul binary32 x (single 0x4300_0000))) (ofℕ (2 ^ 15))
unfolding norm ◌-q◌
scaled_size x f b =
    let y = single 0x4300_0000 in
    let p = val x *q val y in
    let bp : Bound p (ofℕ (2 ^ 14)) = bound_more (bound_mul b scale_numbers.1) scale_numbers.2 in
    let r = round_err binary32 (mul binary32 x y) p (ofℕ (2 ^ 14)) 14 (mul_rounds binary32 x y f scale_numbers.0) bp (q_refl (ofℕ (2 ^ 14))) (lit≤ tt) in
    (r.is_finite, bound_more (subst (λ (u : ℚ). Bound u (ofℕ (2 ^ 14) +q (ofℕ (2 ^ 14) *q eps binary32 +q tiny binary32))) (qring (x₀ ⊕ (x₁ ⊖ x₀)) x₁ refl (p ∷ val (mul binary32 x y) ∷ [])) (bound_add bp r.off)) scale_numbers.3)

minus_part : Ranged binary32 60 (neg (single 0x3c00_0000))
unfolding neg of_bits fits
minus_part = (tt, inr (lit≤ tt, lit≤ tt))

-- the split of x, and what the rows' arguments and lo come to
pub record Split (a : Arithmetic) (x : Float) : Type 0 where
  pub whole_row : row_of_whole (k a x) < 207
  pub rest_row : row_of_rest (k a x) < 128
  pub finite_lo : T (finite (lo a x))
  pub fits_lo : T (fits binary32 (lo a x))
  pub small_lo : Bound (val (lo a x)) (dy 1 8)
  pub range_lo : Ranged binary64 400 (lo a x)
  pub sum : val x ≡ whole_arg (row_of_whole (k a x)) +q part_arg (row_of_rest (k a x)) +q val (lo a x)
  pub asked_whole : AskedWhole binary32 (mul binary32 x (single 0x4300_0000))
  pub asked_part : Asked binary32 60 (kf a x) (neg (single 0x3c00_0000)) x

-- the whole and the parts of k
parts : (z : ℤ) (n i h : ℕ) → pos n ≡ z +ℤ pos 13312 → i ≡ n / 128 → h ≡ n % 128 → z ≡ pos 128 *ℤ (pos i -ℤ pos 104) +ℤ pos h
parts z n i h e p q = let d : n ≡ 128 * i + h = omega arith in omega (arith, ints)

rows_sum : (z : ℤ) (i h : ℕ) → z ≡ pos 128 *ℤ (pos i -ℤ pos 104) +ℤ pos h → whole_arg i +q part_arg h ≡ fr z 128 (pow_pos 7)
unfolding ◌+q◌ norm
rows_sum z i h e =
    is (zring ((x₀ ⊗ con (pos 128) ⊕ x₁ ⊗ con (pos 1)) ⊗ con (pos 128)) ((con (pos 128) ⊗ x₀ ⊕ x₁) ⊗ (con (pos 1) ⊗ con (pos 128))) refl ((pos i -ℤ pos 104) ∷ pos h ∷ []))
    ∙ ap (λ (u : ℤ). cls record { num = u; den = 128; ok = pow_pos 7 }) (sym e)

pub split : (a : Arithmetic) → Lawful a → (x : Float) → T (fits binary32 x) → ExpReaches x → Split a x
unfolding norm ◌-q◌
split a w x fx t =
    let r = exp_splits_lem a w x fx t in
    let s = r.0 in
    let n = r.1 in
    let f = reaches_finite x t in
    let b = reaches_size x fx t in
    let m = scaled_size x f b.1 in
    let y = mul binary32 x (single 0x4300_0000) in
    let z = near_whole y (Law.in_range binary32 y (kf a x) (mul-fits binary32 x (single 0x4300_0000)) m.0 (bound_more m.1 scale_numbers.4) (w.roundf_law y)) in
    let rx : Ranged binary32 60 x = ranged binary32 60 x fx f b.0 (bound_more b.1 scale_numbers.6) in
    let ks : Bound (val (kf a x)) (ofℕ (2 ^ 15) +q dy 1 1) = subst (λ (u : ℚ). Bound u (ofℕ (2 ^ 15) +q dy 1 1)) (qring (x₀ ⊕ ⊝ (x₀ ⊖ x₁)) x₁ refl (val y ∷ val (kf a x) ∷ [])) (bound_add m.1 (bound_neg z.off)) in
    let rk : Ranged binary32 60 (kf a x) = ranged binary32 60 (kf a x) z.is_fit z.is_finite (away_more {k = 0} 60 (lit≤ tt) (mult_away (subst (λ (u : ℚ). Mult 0 u) (sym z.value_of) (mult_whole z.num)))) (bound_more ks scale_numbers.5) in
    let p : Permitted binary32 (kf a x) (neg (single 0x3c00_0000)) x (lo a x) = fmaf_law a w (kf a x) (neg (single 0x3c00_0000)) x rk minus_part rx in
    let fl = finite_out (lo a x) s.finite_lo in
    let wl = permitted_fits binary32 (kf a x) (neg (single 0x3c00_0000)) x (lo a x) z.is_finite (ranged_finite binary32 60 (neg (single 0x3c00_0000)) minus_part) f p in
    let bl : Bound (val (lo a x)) (dy 1 8) = subst (λ (u : ℚ). Bound u (dy 1 8)) (sym (val_value (lo a x))) (abs_in (value (lo a x)) (dyadic (pos 1) 8) s.small) in
    let e : val (lo a x) ≡ val x -q fr (k a x) 128 (pow_pos 7) = val_value (lo a x) ∙ is s.exact ∙ diff_cls (value x) (dyadic (k a x) 7) ∙ ap (λ (u : ℚ). u -q fr (k a x) 128 (pow_pos 7)) (sym (val_value x)) in
    let q = rows_sum (k a x) (row_of_whole (k a x)) (row_of_rest (k a x)) (parts (k a x) (shifted (k a x)) (row_of_whole (k a x)) (row_of_rest (k a x)) n.moved refl refl) in
    record {
      whole_row = let h = n.whole_row in omega arith;
      rest_row = let h = n.rest_row in omega arith;
      finite_lo = fl;
      fits_lo = wl;
      small_lo = bl;
      range_lo = lo_range (lo a x) fl wl bl;
      sum = sym (ap₂ (λ (u v : ℚ). u +q v) q e ∙ qring (x₀ ⊕ (x₁ ⊖ x₀)) x₁ refl (fr (k a x) 128 (pow_pos 7) ∷ val x ∷ []));
      asked_whole = record { fit = mul-fits binary32 x (single 0x4300_0000); below = small_in_range y m.0 (bound_more m.1 scale_numbers.4) };
      asked_part = record {
        of_x = ranged_in binary32 59 (kf a x) rk;
        of_y = ranged_in binary32 59 (neg (single 0x3c00_0000)) minus_part;
        of_z = ranged_in binary32 59 x rx;
      };
    }

-- ---- the arguments of the split and of the polynomial
pub table_arguments : ExpArguments
table_arguments a w x fx t =
    let s = split a w x fx t in
    let g = stages a.fma (fma_law a w) (lo a x) s.range_lo s.small_lo in
    record {
      for_kf = s.asked_whole;
      for_lo = s.asked_part;
      for_third = asked s.range_lo in_range.4 in_range.3;
      for_second = asked s.range_lo g.third.range in_range.2;
      for_first = asked s.range_lo g.second.range in_range.1;
      for_poly = asked s.range_lo g.first.range in_range.0;
    }
