-- exp10 whole: every figure is right, exact at whole numbers from 0 to 10, in agreement with any other lawful one, and as IEEE 754-2019 has it at the special values.
use Rattle.std.proofs.Common.{◌≡◌, ℕ, zero, suc, ◌+◌, ◌*◌, ◌^◌, ◌<◌, ◌≤◌, Bool, true, false, cond, not, T, ltb, leb, [], ◌∷◌, ℤ, pos, sym, refl, ap, ◌∙◌, subst, inl, inr, le_trans, zero-lt-suc, arith, lit≤, eqb→eq, pow_pos, pow_mono, ltb-true, ltb-false, leb-true, leb-false}
use Rattle.std.specs.Float.{Float, nan, inf, fin, binary32}
use Rattle.std.specs.Float.Ieee.{up, fits, is_nan, of_bits, to_bits, size}
use Rattle.std.specs.Float.Ieee.Bits.{is_false}
use Rattle.std.specs.Float.Ieee.Scale.{finite}
use Rattle.exact.specs.Fraction.{Same, whole}
use Rattle.exact.specs.Logarithm.{decimal}
use Rattle.exact.specs.Exact.{exp10}
use Rattle.exact.proofs.Ring.{con, ◌⊕◌, ◌⊖◌, ◌⊗◌, norm}
use Rattle.exact.proofs.Integer.{x₀, x₁, x₂, x₃}
use Rattle.exact.proofs.Rational.{ℚ, is, ◌+q◌, ◌*q◌, -q◌, ◌-q◌, ofℤ, qring}
use Rattle.exact.proofs.Order.{nn, ◌≤q◌, le_by, q_refl, q_trans, q_add, q_mul}
use Rattle.exact.proofs.Bound.{ofℕ, nn_ofℕ, ofℕ_mono, nn_le, le_nn, Bound, bound_more, bound_via, mul_right}
use Rattle.exact.proofs.Compare.{whole_cls, nn_dy, dy}
use Rattle.exact.proofs.Series.{S, from}
use Rattle.exact.proofs.Logarithm.{low, low_near_root}
use Rattle.exact.proofs.Powers.{raised_at, pow_whole}
use Rattle.rounding.specs.Values.{value, is_zero}
use Rattle.rounding.proofs.Fractions.{frac_le_out}
use Rattle.rounding.proofs.Value.{val, val_value}
use Rattle.rounding.proofs.Distance.{abs_nn}
use Rattle.rounding.proofs.Patterns.{sized}
use Rattle.arithmetic.specs.Arithmetic.{Arithmetic, Lawful}
use Rattle.curves.specs.Steps.{pattern, magnitude, single}
use Rattle.curves.specs.Exp10.{exp10_near_one, exp10_small_value, exp10_table_value, exp10_value, Exp10Reaches}
use Rattle.curves.proofs.Law.{fma_law}
use Rattle.curves.proofs.Sizes.{pattern_of, pattern_is}
use Rattle.accuracy.specs.Figures.{Right, Agree, equal}
use Rattle.accuracy.specs.Theorems.{CurveRight, CurveExact, CurveAgrees, CurveSpecial, Proved}
use Rattle.accuracy.proofs.Inputs.{positive, negative, signed_of, numberless}
use Rattle.accuracy.proofs.Outcome.{sum, Under, Placed, under, right, agree, below_limit, plus_sign}
use Rattle.accuracy.proofs.PowerInputs.{near_zero, size_up_to, from_pattern, down_from, exp10_last, exp10_first}
use Rattle.accuracy.proofs.PowerLimits as Limits
use Rattle.accuracy.proofs.PowerLimits.{last, first}
use Rattle.accuracy.proofs.PowerBands.{infinite_right, zero_from, zero_right}
use Rattle.accuracy.proofs.DecimalPolynomial.{small_wide}
use Rattle.accuracy.proofs.DecimalTable.{wide, by_row}
use Rattle.accuracy.proofs.NearOne.{near_one_right, choice, stays_one, falls_below}
use Rattle.accuracy.proofs.TenPowers.{ten_figure}

-- ---- the band of a number, and its figure under every arithmetic
pub data Band (x : Float) : Type 0 where
  infinite : pattern x < 0x8000_0000 → 0x421a_209b ≤ pattern x → ((a : Arithmetic) → exp10_value a x ≡ single 0x7f80_0000) → Band x
  zero_band : 0xc234_9e36 ≤ pattern x → ((a : Arithmetic) → exp10_value a x ≡ single 0x0000_0000) → Band x
  one : magnitude x ≤ 0x3280_0000 → ((a : Arithmetic) → exp10_value a x ≡ exp10_near_one x) → Band x
  small : 0x3280_0000 < magnitude x → magnitude x ≤ 0x3d00_0000 → ((a : Arithmetic) → exp10_value a x ≡ exp10_small_value a x) → Band x
  table : Exp10Reaches x → ((a : Arithmetic) → exp10_value a x ≡ exp10_table_value a x) → Band x

pub band : (x : Float) → T (not (is_nan x)) → Band x
band x number = go (ltb (pattern x) 0x8000_0000) (leb 0x421a_209b (pattern x)) (leb 0xc234_9e36 (pattern x)) (leb (magnitude x) 0x3280_0000) (leb (magnitude x) 0x3d00_0000) refl refl refl refl refl
  where
    n : is_nan x ≡ false
    n = is_false (is_nan x) number

    go : (s u z p q : Bool) → ltb (pattern x) 0x8000_0000 ≡ s → leb 0x421a_209b (pattern x) ≡ u → leb 0xc234_9e36 (pattern x) ≡ z → leb (magnitude x) 0x3280_0000 ≡ p → leb (magnitude x) 0x3d00_0000 ≡ q → Band x
    go true true z p q c d e f g = infinite (ltb-true _ _ c) (leb-true _ _ d) (λ a. simp (n, c, d))
    go s u true p q c d e f g = zero_band (leb-true _ _ e) (λ a. simp (n, c, d, e))
    go s u false true q c d e f g = one (leb-true _ _ f) (λ a. simp (n, c, d, e, f))
    go s u false false true c d e f g = small (leb-false _ _ f) (leb-true _ _ g) (λ a. simp (n, c, d, e, f, g))
    go true false false false false c d e f g = table record { number = number; past_small = leb-false _ _ g; limits = inl (leb-false _ _ d) } (λ a. simp (n, c, d, e, f, g))
    go false u false false false c d e f g = table record { number = number; past_small = leb-false _ _ g; limits = inr (ltb-false _ _ c, leb-false _ _ e) } (λ a. simp (n, c, d, e, f, g))

-- ---- right, and in agreement
nums : (dy 1 5 ≤q last decimal) × (-q◌ (sized 0x4234_9e36) ≤q -q◌ (zero_from decimal))
unfolding nn ◌-q◌ ◌+q◌ -q◌ ◌*q◌ ofℕ ofℤ
nums = (record { le = tt }, record { le = tt })

singles : (single 0x0000_0000 ≡ fin false 0 (pos 0)) × (single 0x7f80_0000 ≡ inf false)
unfolding of_bits
singles = (refl, refl)

module _ (x : Float) (w : T (fits binary32 x)) (t : T (finite x)) where
  small_placed : magnitude x ≤ 0x3d00_0000 → Placed exp10 (value x)
  small_placed h = under (Limits.under decimal (value x) (subst (λ (u : ℚ). u ≤q last decimal) (val_value x) (q_trans (near_zero x w t h).hi nums.0)))

  table_under : Exp10Reaches x → Under exp10 (value x)
  table_under r = Limits.under decimal (value x) (subst (λ (u : ℚ). u ≤q last decimal) (val_value x) (exp10_last x w t (λ s. elim r.limits [ inl l ↦ l | inr l ↦ absurd (omega (arith, s, l.0)) ])))

  right_at : (a : Arithmetic) → Lawful a → Band x → Right exp10 x (exp10_value a x)
  right_at a v (infinite s h e) = infinite_right decimal x (exp10_value a x) (e a ∙ singles.1) (exp10_first x w t s h)
  right_at a v (zero_band h e) = zero_right decimal x (exp10_value a x) (e a ∙ singles.0) (q_trans (down_from x w t 0x4234_9e36 (omega arith)) nums.1)
  right_at a v (one h e) = subst (λ (y : Float). Right exp10 x y) (sym (e a)) (near_one_right x w t h)
  right_at a v (small g h e) = subst (λ (y : Float). Right exp10 x y) (sym (e a)) (right exp10 x _ 1 (small_placed h) (small_wide a.fma (fma_law a v) x t w (near_zero x w t h)))
  right_at a v (table r e) = subst (λ (y : Float). Right exp10 x y) (sym (e a)) (right exp10 x _ 162 (under (table_under r)) (by_row a v x w r).wide)

  agree_at : (a b : Arithmetic) → Lawful a → Lawful b → Band x → Agree exp10 x (exp10_value a x) (exp10_value b x)
  agree_at a b v u (infinite s h e) = equal (e a ∙ sym (e b))
  agree_at a b v u (zero_band h e) = equal (e a ∙ sym (e b))
  agree_at a b v u (one h e) = equal (e a ∙ sym (e b))
  agree_at a b v u (small g h e) = subst (λ (y : Float). Agree exp10 x y (exp10_value b x)) (sym (e a)) (subst (λ (y : Float). Agree exp10 x (exp10_small_value a x) y) (sym (e b)) (agree exp10 x _ _ 1 (small_placed h) (small_wide a.fma (fma_law a v) x t w (near_zero x w t h)) (small_wide b.fma (fma_law b u) x t w (near_zero x w t h))))
  agree_at a b v u (table r e) = subst (λ (y : Float). Agree exp10 x y (exp10_value b x)) (sym (e a)) (subst (λ (y : Float). Agree exp10 x (exp10_table_value a x) y) (sym (e b)) (agree exp10 x _ _ 162 (under (table_under r)) (by_row a v x w r).wide (by_row b u x w r).wide))

exp10_right : CurveRight exp10
exp10_right a v x w t = right_at x w t a v (band x (numberless x t))

exp10_agrees_lem : CurveAgrees exp10
exp10_agrees_lem a b v u x w t = agree_at x w t a b v u (band x (numberless x t))

-- ---- whole numbers from 0 to 10
too_far : first decimal ≤q ofℕ 10 → ⊥
unfolding nn ◌-q◌ ◌+q◌ -q◌ ofℕ ofℤ
too_far h = h.le

not_negative : (c : ℚ) → (ofℤ (pos 0) ≤q c → ⊥) → (n : ℕ) → ofℕ n ≤q c → ⊥
not_negative c never n h = never (q_trans (nn_le (nn_ofℕ n)) h)

below_zero : (ofℤ (pos 0) ≤q -q◌ (zero_from decimal) → ⊥) × (ofℤ (pos 0) ≤q -q◌ (dy 0xde5bd9 50) → ⊥) × (ofℤ (pos 0) ≤q -q◌ (sized 0x3280_0000) → ⊥) × (sized 0x3280_0000 ≤q ofℕ 0 → ⊥)
unfolding nn ◌-q◌ ◌+q◌ -q◌ ofℕ ofℤ
below_zero = (λ h. h.le, λ h. h.le, λ h. h.le, λ h. h.le)

no_whole : (n k : ℕ) → 1 ≤ k → ofℕ n ≤q dy 1 k → n ≡ 0
unfolding ofℕ ofℤ
no_whole n k p h = let l : n * 2 ^ k ≤ 1 * 1 = frac_le_out n 1 1 (2 ^ k) (zero-lt-suc 0) (pow_pos k) h in few n (2 ^ k) (le_trans (lit≤ {m = 2} {n = 2 ^ 1} tt) (pow_mono p)) l
  where
    few : (n u : ℕ) → 2 ≤ u → n * u ≤ 1 * 1 → n ≡ 0
    few zero u h k = refl
    few (suc n) u h k = absurd (omega arith)

exact_nums : (dy 1 43 ≤q dy 3 44 *q (ofℤ (pos 1) -q dy 1 43)) × (dy 3 44 *q (ofℤ (pos 1) +q dy 1 74) +q dy 1 74 ≤q dy 1 42) × (sized 0x3280_0000 ≤q dy 1 26)
unfolding nn ◌-q◌ ◌+q◌ -q◌ ◌*q◌ ofℕ ofℤ
exact_nums = (record { le = tt }, record { le = tt }, record { le = tt })

-- within 2 ^ -43 of itself of a number that is within 2 ^ -74 of N: within 2 ^ -42 of N
near_whole : (z v N : ℚ) → T (nn z) → T (nn N) → Bound (z -q v) (dy 1 43 *q z) → Bound (v -q N) (dy 1 74 *q N) → Bound (z -q N) (dy 1 42 *q N)
unfolding norm ◌-q◌
near_whole z v N nz nN a b =
    let c = dy 3 44 in
    let z-under : (ofℤ (pos 1) -q dy 1 43) *q z ≤q v = le_by (dy 1 43 *q z -q (z -q v)) a.hi.le (qring (x₁ ⊖ (con (pos 1) ⊖ x₂) ⊗ x₀) (x₂ ⊗ x₀ ⊖ (x₀ ⊖ x₁)) refl (z ∷ v ∷ dy 1 43 ∷ [])) in
    let v-under : v ≤q (ofℤ (pos 1) +q dy 1 74) *q N = le_by (dy 1 74 *q N -q (v -q N)) b.hi.le (qring ((con (pos 1) ⊕ x₂) ⊗ x₁ ⊖ x₀) (x₂ ⊗ x₁ ⊖ (x₀ ⊖ x₁)) refl (v ∷ N ∷ dy 1 74 ∷ [])) in
    let part : dy 1 43 *q z ≤q c *q ((ofℤ (pos 1) +q dy 1 74) *q N) =
    q_trans (mul_right z nz exact_nums.0) (q_trans (subst (λ (u : ℚ). u ≤q c *q v) (qring (x₀ ⊗ (x₁ ⊗ x₂)) (x₀ ⊗ x₁ ⊗ x₂) refl (c ∷ (ofℤ (pos 1) -q dy 1 43) ∷ z ∷ [])) (q_mul c (nn_dy 3 44) z-under)) (q_mul c (nn_dy 3 44) v-under)) in
    bound_more (bound_via z v N a b)
    (q_trans (q_add part (q_refl (dy 1 74 *q N))) (subst (λ (u : ℚ). u ≤q dy 1 42 *q N) (qring ((x₀ ⊗ x₁ ⊕ x₂) ⊗ x₃) (x₀ ⊗ (x₁ ⊗ x₃) ⊕ x₂ ⊗ x₃) refl (c ∷ (ofℤ (pos 1) +q dy 1 74) ∷ dy 1 74 ∷ N ∷ [])) (mul_right N nN exact_nums.1)))

module _ (x : Float) (w : T (fits binary32 x)) (t : T (finite x)) (n : ℕ) (h : n ≤ 10) (e : val x ≡ ofℕ n) where
  up_to_ten : val x ≤q ofℕ 10
  up_to_ten = subst (λ (u : ℚ). u ≤q ofℕ 10) (sym e) (ofℕ_mono n 10 h)

  not_low : (c : ℚ) → (ofℤ (pos 0) ≤q c → ⊥) → val x ≤q c → ⊥
  not_low c never l = not_negative c never n (subst (λ (u : ℚ). u ≤q c) e l)

  table_figure : (a : Arithmetic) (v : Lawful a) (r : Exp10Reaches x) → T (finite (exp10_table_value a x)) × Same (value (exp10_table_value a x)) (whole (10 ^ n))
  table_figure a v r =
      let z = wide a v x w r in
      let b = (by_row a v x w r).wide in
      let nz : T (nn (val z)) = le_nn (q_trans (nn_le (nn_dy 1 162)) b.above) in
      let k = (by_row a v x w r).near in
      let m = k.start 0 + 1000 in
      let s : Bound (sum exp10 (value x) 0 m -q ofℕ (10 ^ n)) (dy 1 74 *q ofℕ (10 ^ n)) = at_whole m (omega arith) in
      let q : Bound (val z -q sum exp10 (value x) 0 m) (dy 1 43 *q val z) = subst (λ (u : ℚ). Bound (val z -q sum exp10 (value x) 0 m) (dy 1 43 *q u)) (abs_nn (val z) nz) (k.off 0 m (omega arith)) in
      ten_figure n h z k.is_finite (below_limit exp10 (value x) z nz b.near (table_under x w t r)) (plus_sign z 162 k.is_finite b.above) (near_whole (val z) (sum exp10 (value x) 0 m) (ofℕ (10 ^ n)) nz (nn_ofℕ (10 ^ n)) q s)
    where
      at_whole : (m : ℕ) → 1000 ≤ m → Bound (sum exp10 (value x) 0 m -q ofℕ (10 ^ n)) (dy 1 74 *q ofℕ (10 ^ n))
      at_whole m l =
          let d = raised_at decimal (pos n) (le_trans h (lit≤ tt)) (low decimal (from 80 0)) (low_near_root decimal 0) m l in
          subst (λ (u : ℚ). Bound (S (u *q low decimal (from 80 0)) m -q ofℕ (10 ^ n)) (dy 1 74 *q ofℕ (10 ^ n))) (pos_is n ∙ sym e ∙ val_value x)
          (subst (λ (u : ℚ). Bound (S (ofℤ (pos n) *q low decimal (from 80 0)) m -q u) (dy 1 74 *q u)) (pow_whole 10 n) d.off)
        where
          pos_is : (n : ℕ) → ofℤ (pos n) ≡ ofℕ n
          pos_is n = unfold ofℕ in refl

  one_figure : magnitude x ≤ 0x3280_0000 → T (finite (exp10_near_one x)) × Same (value (exp10_near_one x)) (whole (10 ^ n))
  one_figure m = elim (choice x w t m) [
    | stays_one c q ↦
        let z : n ≡ 0 = no_whole n 26 (lit≤ tt) (subst (λ (u : ℚ). u ≤q dy 1 26) e (q_trans (size_up_to x w t 0x3280_0000 m).hi exact_nums.2)) in
        subst (λ (y : Float). T (finite y) × Same (value y) (whole (10 ^ n))) (sym q) (subst (λ (k : ℕ). T (finite (fin false 1 (pos 0))) × Same (value (fin false 1 (pos 0))) (whole (10 ^ k))) (sym z) (tt, refl))
    | falls_below c q ↦ absurd (not_low (-q◌ (dy 0xde5bd9 50)) below_zero.1 c)
  ]

  no_small : 0x3280_0000 < magnitude x → magnitude x ≤ 0x3d00_0000 → ⊥
  no_small g k =
      let z : n ≡ 0 = no_whole n 5 (lit≤ tt) (subst (λ (u : ℚ). u ≤q dy 1 5) e (near_zero x w t k).hi) in
      elim (signed_of x w t) [
        | positive l q v ↦ below_zero.3 (subst (λ (u : ℚ). sized 0x3280_0000 ≤q u) (e ∙ ap ofℕ z) (from_pattern x w t 0x3280_0000 l (omega (arith, q, g))))
        | negative l q v ↦ not_low (-q◌ (sized 0x3280_0000)) below_zero.2 (down_from x w t 0x3280_0000 (omega (arith, q, g)))
      ]

  exact_at : (a : Arithmetic) → Lawful a → Band x → T (finite (exp10_value a x)) × Same (value (exp10_value a x)) (whole (10 ^ n))
  exact_at a v (infinite s g q) = absurd (too_far (q_trans (exp10_first x w t s g) up_to_ten))
  exact_at a v (zero_band g q) = absurd (not_low (-q◌ (zero_from decimal)) below_zero.0 (q_trans (down_from x w t 0x4234_9e36 (omega arith)) nums.1))
  exact_at a v (one m q) = subst (λ (y : Float). T (finite y) × Same (value y) (whole (10 ^ n))) (sym (q a)) (one_figure m)
  exact_at a v (small g k q) = absurd (no_small g k)
  exact_at a v (table r q) = subst (λ (y : Float). T (finite y) × Same (value y) (whole (10 ^ n))) (sym (q a)) (table_figure a v r)

exp10_exact : CurveExact exp10
exp10_exact a v x w n h t e = exact_at x w t n h (val_value x ∙ is e ∙ whole_cls n) a v (band x (numberless x t))

-- ---- special values
zero_number : (s : Bool) (m : ℕ) (e : ℤ) → m ≡ 0 → pattern (fin s m e) ≡ cond s 2147483648 0
unfolding size
zero_number s m e z = pattern_is s m e 0 (ap (λ (n : ℕ). n * up e * 2 ^ 149) z ∙ omega arith) ∙ go s
  where
    go : (s : Bool) → cond s 2147483648 0 + pattern_of 0 ≡ cond s 2147483648 0
    go false = refl
    go true = refl

zero_at : (a : Arithmetic) (s : Bool) (m : ℕ) (e : ℤ) → m ≡ 0 → exp10_value a (fin s m e) ≡ fin false 1 (pos 0)
unfolding is_nan of_bits
zero_at a false m e z = simp (zero_number false m e z)
zero_at a true m e z = simp (zero_number true m e z)

zero_value : (a : Arithmetic) (x : Float) → T (is_zero x) → exp10_value a x ≡ fin false 1 (pos 0)
zero_value a (fin s m e) t = zero_at a s m e (eqb→eq m 0 t)
zero_value _ _ t = absurd t

exp10_special : CurveSpecial exp10
exp10_special a x = record {
  of_nan = λ e. subst (λ (y : Float). exp10_value a y ≡ nan) (sym e) (nan_value a);
  of_infinity = λ e. subst (λ (y : Float). exp10_value a y ≡ inf false) (sym e) (infinity_value a);
  of_minus_infinity = λ e. subst (λ (y : Float). exp10_value a y ≡ fin false 0 (pos 0)) (sym e) (minus_infinity_value a);
  of_zero = λ t. zero_value a x t;
}
  where
    nan_value : (a : Arithmetic) → exp10_value a nan ≡ nan
    nan_value a = unfold is_nan of_bits in refl

    infinity_value : (a : Arithmetic) → exp10_value a (inf false) ≡ inf false
    infinity_value a = unfold is_nan to_bits of_bits in refl

    minus_infinity_value : (a : Arithmetic) → exp10_value a (inf true) ≡ fin false 0 (pos 0)
    minus_infinity_value a = unfold is_nan to_bits of_bits in refl

pub exp10_proved : Proved exp10
exp10_proved = record { right = exp10_right; exact = exp10_exact; agrees = exp10_agrees_lem; special = exp10_special }
