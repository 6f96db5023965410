-- exp2 whole: every figure is right, exact at whole numbers, in agreement with any other lawful one, and as IEEE 754-2019 has it at the special values.
use Rattle.std.proofs.Common.{◌≡◌, ℕ, ◌*◌, ◌/◌, ◌%◌, ◌<◌, ◌≤◌, min, Bool, true, false, cond, not, ◌&&◌, T, ltb, leb, ℤ, pos, negsuc, ◌+ℤ◌, ◌*ℤ◌, neg_ℤ, nat_abs, ◌≤ℤ◌, sym, refl, ap, ◌∙◌, subst, inl, inr, zero-lt-suc, mul-one, arith, lit≤, eqb→eq, ltb-true, ltb-false, leb-true, leb-false}
use Rattle.std.specs.Int.Signed.{le_z, le_z_yes}
use Rattle.std.specs.Float.{Float, nan, inf, fin, binary32}
use Rattle.std.specs.Float.Ieee.{up, down, fits, is_nan, to_signed, of_bits, to_bits}
use Rattle.std.specs.Float.Ieee.Bits.{is_true, is_false, of_bits-fits}
use Rattle.std.specs.Float.Ieee.Fits.{down_pos, and_l, and_r, and_i, eq→eqb}
use Rattle.std.specs.Float.Ieee.Scale.{finite}
use Rattle.std.proofs.Math.Nat.{div-add-mod, mul-mod_left}
use Rattle.std.proofs.lemmas.Int.{ints}
use std.Quotient.{cls}
use Rattle.exact.specs.Fraction.{Same, integer}
use Rattle.exact.specs.Logarithm.{binary}
use Rattle.exact.specs.Exact.{exp2}
use Rattle.exact.proofs.Rational.{ℚ, is, ◌+q◌, ◌*q◌, -q◌, ◌-q◌, ofℤ}
use Rattle.exact.proofs.Order.{nn, ◌≤q◌, q_trans}
use Rattle.exact.proofs.Bound.{ofℕ, Bound, bound_more}
use Rattle.exact.proofs.Compare.{integer_cls, leq_in, dy}
use Rattle.exact.proofs.Integer.{mul_oneℤ}
use Rattle.rounding.specs.Values.{signed, value, is_zero}
use Rattle.rounding.proofs.Fractions.{frac_same}
use Rattle.rounding.proofs.Value.{val, val_value}
use Rattle.rounding.proofs.Multiple.{Mult, mult_whole}
use Rattle.rounding.proofs.Cast.{cast_value}
use Rattle.rounding.proofs.Patterns.{sized}
use Rattle.arithmetic.specs.Arithmetic.{Arithmetic, Lawful}
use Rattle.arithmetic.specs.Signs.{signed_mul, signed_size, size_mul}
use Rattle.curves.specs.Steps.{pattern, magnitude, single}
use Rattle.curves.specs.Exp2.{is_whole, in_powers, bits_of_power, exp2_small_value, exp2_table_value, exp2_value, Exp2Reaches}
use Rattle.curves.proofs.Decimal.{same_integer}
use Rattle.curves.proofs.Law.{fma_law}
use Rattle.curves.proofs.WholePower.{power_of_lem, in_range}
use Rattle.accuracy.specs.Figures.{Right, Agree, equal}
use Rattle.accuracy.specs.Theorems.{CurveRight, CurveExact, CurveAgrees, CurveSpecial, Proved}
use Rattle.accuracy.proofs.Inputs.{numberless}
use Rattle.accuracy.proofs.Outcome.{Placed, under, right, agree}
use Rattle.accuracy.proofs.PowerInputs.{near_zero, size_up_to, down_from, down_to, exp2_last, exp2_first}
use Rattle.accuracy.proofs.PowerLimits as Limits
use Rattle.accuracy.proofs.PowerLimits.{last}
use Rattle.accuracy.proofs.PowerBands.{infinite_right, one_right, zero_from, zero_right, least_right, whole_right}
use Rattle.accuracy.proofs.BinaryPolynomial.{small_wide}
use Rattle.accuracy.proofs.BinaryTable.{by_row}

-- ---- the band of a number, and its figure under every arithmetic
pub data Band (x : Float) : Type 0 where
  whole : T (in_powers x) → ((a : Arithmetic) → exp2_value a x ≡ fin false 1 (to_signed 31 x)) → Band x
  one : magnitude x < 0x3280_0000 → ((a : Arithmetic) → exp2_value a x ≡ single 0x3f80_0000) → Band x
  least : 0xc315_0000 < pattern x → pattern x < 0xc316_0000 → ((a : Arithmetic) → exp2_value a x ≡ single 0x0000_0001) → Band x
  zero_band : 0xc316_0000 ≤ pattern x → ((a : Arithmetic) → exp2_value a x ≡ single 0x0000_0000) → Band x
  infinite : pattern x < 0x8000_0000 → 0x4300_0000 ≤ pattern x → ((a : Arithmetic) → exp2_value a x ≡ single 0x7f80_0000) → Band x
  small : magnitude x ≤ 0x3d00_0000 → ((a : Arithmetic) → exp2_value a x ≡ exp2_small_value a x) → Band x
  table : Exp2Reaches x → ((a : Arithmetic) → exp2_value a x ≡ exp2_table_value a x) → Band x

pub band : (x : Float) → T (not (is_nan x)) → Band x
band x number =
    go (in_powers x) (ltb (magnitude x) 0x3280_0000) (ltb 0xc315_0000 (pattern x)) (ltb (pattern x) 0xc316_0000) (leb 0xc316_0000 (pattern x)) (ltb (pattern x) 0x8000_0000) (leb 0x4300_0000 (pattern x)) (leb (magnitude x) 0x3d00_0000)
    refl refl refl refl refl refl refl refl
  where
    n : is_nan x ≡ false
    n = is_false (is_nan x) number

    go : (b p q r z s u v : Bool) → in_powers x ≡ b → ltb (magnitude x) 0x3280_0000 ≡ p → ltb 0xc315_0000 (pattern x) ≡ q → ltb (pattern x) 0xc316_0000 ≡ r → leb 0xc316_0000 (pattern x) ≡ z → ltb (pattern x) 0x8000_0000 ≡ s → leb 0x4300_0000 (pattern x) ≡ u
        → leb (magnitude x) 0x3d00_0000 ≡ v → Band x
    go true p q r z s u v c d e f g h i k = whole (subst T (sym c) tt) (λ a. simp (n, c))
    go false true q r z s u v c d e f g h i k = one (ltb-true _ _ d) (λ a. simp (n, c, d))
    go false false true true z s u v c d e f g h i k = least (ltb-true _ _ e) (ltb-true _ _ f) (λ a. simp (n, c, d, e, f))
    go false false q r true s u v c d e f g h i k = zero_band (leb-true _ _ g) (λ a. simp (n, c, d, e, f, g))
    go false false true false false s u v c d e f g h i k = absurd (omega (arith, ltb-false _ _ f, leb-false _ _ g))
    go false false false r false true true v c d e f g h i k = infinite (ltb-true _ _ h) (leb-true _ _ i) (λ a. simp (n, c, d, e, f, g, h, i))
    go false false false r false s u true c d e f g h i k = small (leb-true _ _ k) (λ a. simp (n, c, d, e, f, g, h, i, k))
    go false false false r false true false false c d e f g h i k = table record { number = number; broken = c; past_small = leb-false _ _ k; limits = inl (leb-false _ _ i) } (λ a. simp (n, c, d, e, f, g, h, i, k))
    go false false false r false false u false c d e f g h i k = table record { number = number; broken = c; past_small = leb-false _ _ k; limits = inr (ltb-false _ _ h, ltb-false _ _ e) } (λ a. simp (n, c, d, e, f, g, h, i, k))

-- ---- whole numbers
-- what the test of a whole number says
whole_out : (x : Float) → T (in_powers x) → (val x ≡ ofℤ (to_signed 31 x)) × (negsuc 148 ≤ℤ to_signed 31 x) × (to_signed 31 x ≤ℤ pos 127)
unfolding is_whole to_signed val ofℤ
whole_out (fin s m e) t =
    let K = m * up e / down e in
    let z : ℤ = cond s (neg_ℤ (pos (min K 2147483648))) (pos (min K 2147483647)) in
    let w : m * up e % down e ≡ 0 = eqb→eq (m * up e % down e) 0 (and_l (is_whole (fin s m e)) (le_z (negsuc 148) z && le_z z (pos 127)) t) in
    let lh = and_r (is_whole (fin s m e)) (le_z (negsuc 148) z && le_z z (pos 127)) t in
    let l : negsuc 148 ≤ℤ z = le_z_yes (and_l (le_z (negsuc 148) z) (le_z z (pos 127)) lh) in
    let h : z ≤ℤ pos 127 = le_z_yes (and_r (le_z (negsuc 148) z) (le_z z (pos 127)) lh) in
    let r = in_range s K l h in
    (frac_same s (m * up e) (down e) K 1 (down_pos e) (zero-lt-suc 0) (omega (arith, div-add-mod (m * up e) (down e))) ∙ ap (λ (u : ℤ). cls (integer u)) (same_sign s K ∙ sym r.1), l, h)
  where
    same_sign : (s : Bool) (n : ℕ) → signed s n ≡ cond s (neg_ℤ (pos n)) (pos n)
    same_sign false n = refl
    same_sign true n = refl
whole_out _ t = absurd t

small_power : (k : ℤ) → negsuc 148 ≤ℤ k → k ≤ℤ pos 127 → nat_abs k ≤ 200
small_power (pos n) l h = omega (arith, ints, h)
small_power (negsuc n) l h = let b : n ≤ 148 = omega (arith, ints, l) in omega arith

power_fits : (k : ℤ) → negsuc 148 ≤ℤ k → k ≤ℤ pos 127 → T (fits binary32 (fin false 1 k))
power_fits k l h = subst (λ (y : Float). T (fits binary32 y)) (power_of_lem k l h) (of_bits-fits binary32 (bits_of_power (nat_abs (k +ℤ pos 149))))

below_last : (k : ℤ) → k ≤ℤ pos 127 → ofℤ k ≤q last binary
below_last k h = q_trans (whole_mono k h) last_nums
  where
    last_nums : ofℕ 127 ≤q last binary
    last_nums = unfold nn ◌-q◌ ◌+q◌ -q◌ ofℕ ofℤ in record { le = tt }

    whole_mono : (k : ℤ) → k ≤ℤ pos 127 → ofℤ k ≤q ofℕ 127
    whole_mono k h = unfold ofℤ ofℕ in leq_in (integer k) (integer (pos 127)) (subst (λ (u : ℤ). T (le_z u (pos 127 *ℤ pos 1))) (sym (mul_oneℤ k)) h.le)

-- and what finds it
pub whole_in : (x : Float) (k : ℤ) → negsuc 148 ≤ℤ k → k ≤ℤ pos 127 → T (finite x) → Same (value x) (integer k) → T (in_powers x) × (to_signed 31 x ≡ k)
whole_in x k l h t e =
    let v : val x ≡ ofℤ k = val_value x ∙ is e ∙ integer_cls k in
    let c : to_signed 31 x ≡ k = same_integer (to_signed 31 x) k (sym (cast_value 31 x 200 (lit≤ tt) t (subst (λ (u : ℚ). Mult 0 u) (sym v) (mult_whole k)) (subst (λ (u : ℚ). Bound u (ofℕ 200)) (sym v) (size k (small_power k l h)))) ∙ v) in
    (and_i (is_whole x) (le_z (negsuc 148) (to_signed 31 x) && le_z (to_signed 31 x) (pos 127)) (no_rest x k t e) (and_i (le_z (negsuc 148) (to_signed 31 x)) (le_z (to_signed 31 x) (pos 127)) (subst (λ (z : ℤ). T (le_z (negsuc 148) z)) (sym c) l.le) (subst (λ (z : ℤ). T (le_z z (pos 127))) (sym c) h.le)), c)
  where
    size : (k : ℤ) → nat_abs k ≤ 200 → Bound (ofℤ k) (ofℕ 200)
    size k s = unfold ofℤ ofℕ -q◌ in record { hi = leq_in (integer k) (integer (pos 200)) (omega (arith, ints)); lo = leq_in (integer (negsuc 199)) (integer k) (omega (arith, ints)) }

    no_rest : (x : Float) (k : ℤ) → T (finite x) → Same (value x) (integer k) → T (is_whole x)
    no_rest (fin s m d) k t e = unfold is_whole in eq→eqb (ap (λ (n : ℕ). n % down d) (sym (mul-one (m * up d)) ∙ sym (signed_size s (m * up d * 1)) ∙ ap nat_abs (sym (signed_mul s (m * up d) 1) ∙ e) ∙ size_mul k (down d)) ∙ mul-mod_left (nat_abs k) (down d))
    no_rest _ _ t _ = absurd t

-- ---- right
nums : (sized 0x3280_0000 ≤q dy 1 26) × (dy 1 5 ≤q last binary) × (-q◌ (ofℕ 150) ≤q -q◌ (sized 0x4316_0000)) × (-q◌ (sized 0x4315_0000) ≤q -q◌ (ofℕ 149)) × (-q◌ (sized 0x4316_0000) ≤q -q◌ (zero_from binary))
unfolding nn ◌-q◌ ◌+q◌ -q◌ ◌*q◌ ofℕ ofℤ
nums = (record { le = tt }, record { le = tt }, record { le = tt }, record { le = tt }, record { le = tt })

singles : (single 0x3f80_0000 ≡ fin false 1 (pos 0)) × (single 0x0000_0001 ≡ fin false 1 (negsuc 148)) × (single 0x0000_0000 ≡ fin false 0 (pos 0)) × (single 0x7f80_0000 ≡ inf false)
unfolding of_bits
singles = (refl, refl, refl, refl)

module _ (x : Float) (w : T (fits binary32 x)) (t : T (finite x)) where
  small_placed : magnitude x ≤ 0x3d00_0000 → Placed exp2 (value x)
  small_placed h = under (Limits.under binary (value x) (subst (λ (u : ℚ). u ≤q last binary) (val_value x) (q_trans (near_zero x w t h).hi nums.1)))

  table_placed : Exp2Reaches x → Placed exp2 (value x)
  table_placed r = under (Limits.under binary (value x) (subst (λ (u : ℚ). u ≤q last binary) (val_value x) (exp2_last x w r)))

  right_at : (a : Arithmetic) → Lawful a → Band x → Right exp2 x (exp2_value a x)
  right_at a v (whole q e) = let o = whole_out x q in whole_right x (exp2_value a x) (to_signed 31 x) (e a) (power_fits (to_signed 31 x) o.1 o.2) (small_power (to_signed 31 x) o.1 o.2) o.0 (subst (λ (u : ℚ). u ≤q last binary) (sym o.0) (below_last (to_signed 31 x) o.2))
  right_at a v (one h e) = one_right binary x (exp2_value a x) (e a ∙ singles.0) (bound_more (size_up_to x w t 0x3280_0000 (omega arith)) nums.0)
  right_at a v (least l h e) = least_right x (exp2_value a x) (e a ∙ singles.1) (q_trans nums.2 (down_to x w t 0x4316_0000 (λ s. omega arith))) (q_trans (down_from x w t 0x4315_0000 (omega arith)) nums.3)
  right_at a v (zero_band h e) = zero_right binary x (exp2_value a x) (e a ∙ singles.2) (q_trans (down_from x w t 0x4316_0000 (omega arith)) nums.4)
  right_at a v (infinite s h e) = infinite_right binary x (exp2_value a x) (e a ∙ singles.3) (exp2_first x w t s h)
  right_at a v (small h e) = subst (λ (y : Float). Right exp2 x y) (sym (e a)) (right exp2 x _ 1 (small_placed h) (small_wide a.fma (fma_law a v) x t w (near_zero x w t h)))
  right_at a v (table r e) = subst (λ (y : Float). Right exp2 x y) (sym (e a)) (right exp2 x _ 162 (table_placed r) (by_row a v x w r).wide)

  agree_at : (a b : Arithmetic) → Lawful a → Lawful b → Band x → Agree exp2 x (exp2_value a x) (exp2_value b x)
  agree_at a b v u (whole q e) = equal (e a ∙ sym (e b))
  agree_at a b v u (one h e) = equal (e a ∙ sym (e b))
  agree_at a b v u (least l h e) = equal (e a ∙ sym (e b))
  agree_at a b v u (zero_band h e) = equal (e a ∙ sym (e b))
  agree_at a b v u (infinite s h e) = equal (e a ∙ sym (e b))
  agree_at a b v u (small h e) = subst (λ (y : Float). Agree exp2 x y (exp2_value b x)) (sym (e a)) (subst (λ (y : Float). Agree exp2 x (exp2_small_value a x) y) (sym (e b)) (agree exp2 x _ _ 1 (small_placed h) (small_wide a.fma (fma_law a v) x t w (near_zero x w t h)) (small_wide b.fma (fma_law b u) x t w (near_zero x w t h))))
  agree_at a b v u (table r e) = subst (λ (y : Float). Agree exp2 x y (exp2_value b x)) (sym (e a)) (subst (λ (y : Float). Agree exp2 x (exp2_table_value a x) y) (sym (e b)) (agree exp2 x _ _ 162 (table_placed r) (by_row a v x w r).wide (by_row b u x w r).wide))

exp2_right : CurveRight exp2
exp2_right a v x w t = right_at x w t a v (band x (numberless x t))

exp2_agrees_lem : CurveAgrees exp2
exp2_agrees_lem a b v u x w t = agree_at x w t a b v u (band x (numberless x t))

-- ---- exact, and special values
exact_at : (a : Arithmetic) (x : Float) (k : ℤ) → negsuc 148 ≤ℤ k → k ≤ℤ pos 127 → T (finite x) → Same (value x) (integer k) → exp2_value a x ≡ fin false 1 k
exact_at a x k l h t e =
    let o = whole_in x k l h t e in
    simp (is_false (is_nan x) (numberless x t), is_true (in_powers x) o.0) (ap (fin false 1) o.1)

exp2_exact : CurveExact exp2
exp2_exact a v x w k l h t e = exact_at a x k l h t e

zero_value : (x : Float) → T (is_zero x) → T (finite x) × Same (value x) (integer (pos 0))
zero_value (fin s m e) t = (tt, ap (λ (n : ℕ). signed s (n * up e) *ℤ pos 1) (eqb→eq m 0 t) ∙ nil s (up e) (down e))
  where
    none : (u : ℕ) → 0 * u ≡ 0
    none u = omega arith

    nil : (s : Bool) (u d : ℕ) → signed s (0 * u) *ℤ pos 1 ≡ pos 0 *ℤ pos d
    nil false u d = ap (λ (n : ℕ). pos n *ℤ pos 1) (none u) ∙ sym (ap pos (none d))
    nil true u d = ap (λ (n : ℕ). neg_ℤ (pos n) *ℤ pos 1) (none u) ∙ sym (ap pos (none d))
zero_value _ t = absurd t

exp2_special : CurveSpecial exp2
exp2_special a x = record {
  of_nan = λ e. subst (λ (y : Float). exp2_value a y ≡ nan) (sym e) (nan_value a);
  of_infinity = λ e. subst (λ (y : Float). exp2_value a y ≡ inf false) (sym e) (infinity_value a);
  of_minus_infinity = λ e. subst (λ (y : Float). exp2_value a y ≡ fin false 0 (pos 0)) (sym e) (minus_infinity_value a);
  of_zero = λ t. let z = zero_value x t in exact_at a x (pos 0) (record { le = tt }) (record { le = tt }) z.0 z.1;
}
  where
    nan_value : (a : Arithmetic) → exp2_value a nan ≡ nan
    nan_value a = unfold is_nan of_bits in refl

    infinity_value : (a : Arithmetic) → exp2_value a (inf false) ≡ inf false
    infinity_value a = unfold is_nan is_whole to_bits of_bits in refl

    minus_infinity_value : (a : Arithmetic) → exp2_value a (inf true) ≡ fin false 0 (pos 0)
    minus_infinity_value a = unfold is_nan is_whole to_bits of_bits in refl

pub exp2_proved : Proved exp2
exp2_proved = record { right = exp2_right; exact = exp2_exact; agrees = exp2_agrees_lem; special = exp2_special }
