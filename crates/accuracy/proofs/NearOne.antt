-- exp10 near one, up to 2 ^ -26: the f32 nearest to 10 ^ x is the one below 1 from 0xb25e5bd9 on, and 1 elsewhere.
use Rattle.std.proofs.Common.{◌≡◌, ℕ, ◌+◌, ◌-◌, ◌^◌, ◌≤◌, Bool, true, false, not, T, [], ◌∷◌, pos, negsuc, sym, refl, ap, ◌∙◌, subst, ap₂, inl, inr, arith, lit≤, lt-ltb, le-leb, le-ltb}
use Rattle.std.specs.Float.{Float, fin, binary32}
use Rattle.std.specs.Float.Ieee.{fits, is_nan, of_bits, size}
use Rattle.std.specs.Float.Ieee.Bits.{is_false}
use Rattle.std.specs.Float.Ieee.Scale.{finite}
use Rattle.std.proofs.lemmas.Bool.{cases_lt, lt-leb}
use std.Quotient.{cls}
use Rattle.exact.specs.Fraction.{Fraction, times}
use Rattle.exact.specs.Exponential.{at_least, at_most}
use Rattle.exact.specs.Logarithm.{decimal}
use Rattle.exact.specs.Exact.{exp10, AtLeast}
use Rattle.exact.proofs.Ring.{con, ◌⊕◌, ◌⊖◌, ◌⊗◌, ⊝, norm}
use Rattle.exact.proofs.Integer.{x₀, x₁, x₂, x₃, x₄}
use Rattle.exact.proofs.Rational.{ℚ, is, ◌+q◌, ◌*q◌, -q◌, ◌-q◌, ofℤ, qring}
use Rattle.exact.proofs.Order.{nn, nn_add, nn_mul, nn_total, ◌≤q◌, le_by, q_refl, q_trans, q_add, q_neg, q_mul}
use Rattle.exact.proofs.Bound.{ofℕ, inv, nn_inv, Bound, bound_more, bound_mul, bound_above, mul_right}
use Rattle.exact.proofs.Series.{term, S, R, from, later, tail}
use Rattle.exact.proofs.Claims.{holds}
use Rattle.exact.proofs.Logarithm.{low, root, low_nn}
use Rattle.rounding.specs.Values.{value}
use Rattle.rounding.specs.Units.{unit}
use Rattle.rounding.specs.Nearest.{Held}
use Rattle.rounding.specs.Errors.{middle}
use Rattle.exact.proofs.Compare.{dy}
use Rattle.rounding.proofs.Value.{val, val_value}
use Rattle.rounding.proofs.Narrow.{unit_of}
use Rattle.rounding.proofs.Gaps.{Value}
use Rattle.rounding.proofs.Patterns.{sized}
use Rattle.rounding.proofs.TwoFigures.{middle_is}
use Rattle.arithmetic.specs.Arithmetic.{Arithmetic}
use Rattle.curves.specs.Steps.{pattern, magnitude, single}
use Rattle.curves.specs.Exp10.{exp10_near_one, exp10_value}
use Rattle.accuracy.specs.Figures.{half_and_part, Right, NearestTo}
use Rattle.accuracy.specs.Theorems.{NearOneNearest}
use Rattle.accuracy.proofs.Inputs.{positive, negative, signed_of, numberless}
use Rattle.accuracy.proofs.Neighbours.{grains, gap_above, gap_below}
use Rattle.accuracy.proofs.Outcome.{sum, right_finite}
use Rattle.accuracy.proofs.PowerBands.{small_argument, one_right}
use Rattle.accuracy.proofs.PowerInputs.{size_up_to, down_from, down_to}
use Rattle.accuracy.proofs.PowerLimits.{last, under, low_above, low_below}

-- ---- the sums to the second term
second : (t : ℚ) → S t 2 ≡ ofℕ 1 +q t +q t *q t *q inv 1
unfolding S term norm ofℕ
second t = ap (λ (u : ℚ). ofℕ 1 +q ofℕ 1 *q t *q u +q ofℕ 1 *q t *q u *q t *q inv 1) first ∙ qring (con (pos 1) ⊕ con (pos 1) ⊗ x₀ ⊗ con (pos 1) ⊕ con (pos 1) ⊗ x₀ ⊗ con (pos 1) ⊗ x₀ ⊗ x₁) (con (pos 1) ⊕ x₀ ⊕ x₀ ⊗ x₀ ⊗ x₁) refl (t ∷ inv 1 ∷ [])
  where
    first : inv 0 ≡ ofℤ (pos 1)
    first = unfold inv ofℤ in refl

tail_nums : (dy 3 26 +q dy 3 26 ≤q ofℕ 2) × (R (dy 3 26) 2 ≤q dy 1 74)
unfolding nn ◌-q◌ ◌+q◌ -q◌ ◌*q◌ ofℕ ofℤ term inv
tail_nums = (record { le = tt }, record { le = tt })

near_second : (t : ℚ) → Bound t (dy 3 26) → (n : ℕ) → 2 ≤ n → Bound (S t n -q (ofℕ 1 +q t +q t *q t *q inv 1)) (dy 1 74)
near_second t b n h = later (λ m. Bound (S t m -q (ofℕ 1 +q t +q t *q t *q inv 1)) (dy 1 74)) 2 (λ j. subst (λ (u : ℚ). Bound (S t (from 2 j) -q u) (dy 1 74)) (second t) (bound_more (tail t (dy 3 26) b 2 tail_nums.0 j) tail_nums.1)) n h

square_nn : (t : ℚ) → Bound t (dy 3 26) → T (nn (t *q t *q inv 1))
unfolding norm
square_nn t b = nn_mul (t *q t) (inv 1) (go (nn t) (λ z. z) (nn_total t)) (nn_inv 1)
  where
    go : (v : Bool) → (T v → T (nn t)) → (T (not v) → T (nn (-q◌ t))) → T (nn (t *q t))
    go true f g = nn_mul t t (f tt) (f tt)
    go false f g = subst (λ (u : ℚ). T (nn u)) (unfold norm in qring (⊝ x₀ ⊗ ⊝ x₀) (x₀ ⊗ x₀) refl (t ∷ [])) (nn_mul (-q◌ t) (-q◌ t) (g tt) (g tt))

-- at least 1 + t, and a little less
sum_over : (t : ℚ) → Bound t (dy 3 26) → (n : ℕ) → 2 ≤ n → ofℕ 1 +q t -q dy 1 74 ≤q S t n
unfolding norm ◌-q◌
sum_over t b n h = le_by ((S t n -q (ofℕ 1 +q t +q t *q t *q inv 1) -q (-q◌ (dy 1 74))) +q t *q t *q inv 1) (nn_add _ _ (near_second t b n h).lo.le (square_nn t b)) (qring (x₀ ⊖ (x₁ ⊕ x₂ ⊖ x₃)) ((x₀ ⊖ (x₁ ⊕ x₂ ⊕ x₄) ⊖ ⊝ x₃) ⊕ x₄) refl (S t n ∷ ofℕ 1 ∷ t ∷ dy 1 74 ∷ t *q t *q inv 1 ∷ []))

-- for t of at most -a: at most what the two terms are at -a, and a little more
sum_under : (t a : ℚ) → Bound t (dy 3 26) → T (nn (ofℕ 1 -q (dy 3 26 +q a) *q inv 1)) → t ≤q -q◌ a → (n : ℕ) → 2 ≤ n → S t n ≤q ofℕ 1 -q a +q a *q a *q inv 1 +q dy 1 74
unfolding norm ◌-q◌ ofℕ
sum_under t a b na h n k =
    let s = S t n in
    let u : T (nn (ofℕ 1 +q (t -q a) *q inv 1)) = subst (λ (w : ℚ). T (nn w)) (qring (x₀ ⊖ (x₁ ⊕ x₂) ⊗ x₃ ⊕ (x₄ ⊖ ⊝ x₁) ⊗ x₃) (x₀ ⊕ (x₄ ⊖ x₂) ⊗ x₃) refl (ofℕ 1 ∷ dy 3 26 ∷ a ∷ inv 1 ∷ t ∷ [])) (nn_add (ofℕ 1 -q (dy 3 26 +q a) *q inv 1) ((t -q (-q◌ (dy 3 26))) *q inv 1) na (nn_mul (t -q (-q◌ (dy 3 26))) (inv 1) b.lo.le (nn_inv 1))) in
    le_by ((dy 1 74 -q (s -q (ofℕ 1 +q t +q t *q t *q inv 1))) +q (-q◌ a -q t) *q (ofℕ 1 +q (t -q a) *q inv 1)) (nn_add _ _ (near_second t b n k).hi.le (nn_mul (-q◌ a -q t) (ofℕ 1 +q (t -q a) *q inv 1) h.le u))
    (qring (con (pos 1) ⊖ x₂ ⊕ x₂ ⊗ x₂ ⊗ x₃ ⊕ x₄ ⊖ x₀) ((x₄ ⊖ (x₀ ⊖ (con (pos 1) ⊕ x₁ ⊕ x₁ ⊗ x₁ ⊗ x₃))) ⊕ (⊝ x₂ ⊖ x₁) ⊗ (con (pos 1) ⊕ (x₁ ⊖ x₂) ⊗ x₃)) refl (s ∷ t ∷ a ∷ inv 1 ∷ dy 1 74 ∷ []))

-- ---- the two figures, and the values beside them
abbrev one : Float
one = fin false 1 (pos 0)

abbrev below_one : Float
below_one = fin false 0xffffff (negsuc 23)

singles : (single 0x3f80_0000 ≡ fin false 1 (pos 0)) × (single 0x3f7f_ffff ≡ fin false 0xffffff (negsuc 23))
unfolding of_bits
singles = (refl, refl)

held_one : Held binary32 one × Held binary32 below_one
unfolding fits
held_one = (record { is_finite = tt; is_held = tt }, record { is_finite = tt; is_held = tt })

values : Value binary32 (2 ^ 149) × Value binary32 (2 ^ 149 - 2 ^ 125) × Value binary32 (2 ^ 149 - 2 ^ 126)
values = (record { q = 1; j = 149; few = lit≤ tt; is_value = refl }, record { q = 2 ^ 24 - 1; j = 125; few = lit≤ tt; is_value = refl }, record { q = 2 ^ 23 - 1; j = 126; few = lit≤ tt; is_value = refl })

grains_are : (val one ≡ grains false (2 ^ 149)) × (val one ≡ grains false (2 ^ 149 - 2 ^ 125 + unit_of binary32 (2 ^ 149 - 2 ^ 125))) × (val below_one ≡ grains false (2 ^ 149 - 2 ^ 125)) × (val below_one ≡ grains false (2 ^ 149 - 2 ^ 126 + unit_of binary32 (2 ^ 149 - 2 ^ 126)))
unfolding val size
grains_are = (is refl, is refl, is refl, is refl)

-- the ends: 0xb25e5bd8, and 0xb25e5bd9
abbrev stays_from : ℚ
stays_from = dy 0xde5bd8 50

abbrev falls_from : ℚ
falls_from = dy 0xde5bd9 50

abbrev fall : ℚ
fall = falls_from *q (root decimal -q dy 1 84)

-- the midpoints that 10 ^ x is held against
nums : (ofℕ 1 +q dy 1 26 *q (root decimal +q dy 1 84) +q (dy 3 26 *q dy 3 26 *q inv 1 +q dy 1 74) ≤q inv 1 *q (val one +q grains false (2 ^ 149 + unit_of binary32 (2 ^ 149))))
    × (inv 1 *q (val one +q grains false (2 ^ 149 - 2 ^ 125)) ≤q ofℕ 1 -q stays_from *q (root decimal +q dy 1 84) -q dy 1 74)
    × (ofℕ 1 -q fall +q fall *q fall *q inv 1 +q dy 1 74 ≤q inv 1 *q (val below_one +q grains false (2 ^ 149 - 2 ^ 125 + unit_of binary32 (2 ^ 149 - 2 ^ 125))))
    × (inv 1 *q (val below_one +q grains false (2 ^ 149 - 2 ^ 126)) ≤q ofℕ 1 -q dy 1 26 *q (root decimal +q dy 1 84) -q dy 1 74)
    × T (nn (ofℕ 1 -q (dy 3 26 +q fall) *q inv 1)) × T (nn (root decimal -q dy 1 84)) × T (nn (root decimal +q dy 1 84)) × T (nn falls_from)
unfolding nn ◌-q◌ ◌+q◌ -q◌ ◌*q◌ ofℕ ofℤ inv val size
nums = (record { le = tt }, record { le = tt }, record { le = tt }, record { le = tt }, tt, tt, tt, tt)

pattern_nums : (sized 0x3280_0000 ≤q dy 1 26) × (-q◌ (dy 1 26) ≤q -q◌ (sized 0x3280_0000)) × (-q◌ stays_from ≤q -q◌ (sized 0x325e_5bd8)) × (-q◌ (sized 0x325e_5bd9) ≤q -q◌ falls_from) × T (nn stays_from) × T (nn (dy 1 26)) × (dy 1 26 ≤q last decimal)
unfolding nn ◌-q◌ ◌+q◌ -q◌ ◌*q◌ ofℕ ofℤ
pattern_nums = (record { le = tt }, record { le = tt }, record { le = tt }, record { le = tt }, tt, tt, record { le = tt })

-- the midpoint grows with the other value
middle_above : (y w : Float) (W : ℚ) → W ≤q val w → inv 1 *q (val y +q W) ≤q cls (middle y w)
middle_above y w W h = subst (λ (u : ℚ). inv 1 *q (val y +q W) ≤q u) (ap (λ (u : ℚ). inv 1 *q u) (ap₂ ◌+q◌ (val_value y) (val_value w)) ∙ middle_is y w) (q_mul (inv 1) (nn_inv 1) (q_add (q_refl (val y)) h))

middle_below : (y w : Float) (W : ℚ) → val w ≤q W → cls (middle y w) ≤q inv 1 *q (val y +q W)
middle_below y w W h = subst (λ (u : ℚ). u ≤q inv 1 *q (val y +q W)) (ap (λ (u : ℚ). inv 1 *q u) (ap₂ ◌+q◌ (val_value y) (val_value w)) ∙ middle_is y w) (q_mul (inv 1) (nn_inv 1) (q_add (q_refl (val y)) h))

module _ (x : Float) (w : T (fits binary32 x)) (f : T (finite x)) (m : magnitude x ≤ 0x3280_0000) where
  bx : Bound (val x) (dy 1 26)
  bx = bound_more (size_up_to x w f 0x3280_0000 m) pattern_nums.0

  abbrev t : ℕ → ℚ
  t j = val x *q low decimal (from 80 j)

  bt : (j : ℕ) → Bound (val x *q low decimal (from 80 j)) (dy 3 26)
  bt j = small_argument decimal (val x) bx j

  sum_at : (j n : ℕ) → S (val x *q low decimal (from 80 j)) n ≡ sum exp10 (value x) j n
  sum_at j n = ap (λ (u : ℚ). S (u *q low decimal (from 80 j)) n) (val_value x)

  -- x of at least -c
  t_over : (c : ℚ) → T (nn c) → -q◌ c ≤q val x → (j : ℕ) → -q◌ (c *q (root decimal +q dy 1 84)) ≤q val x *q low decimal (from 80 j)
  unfolding norm
  t_over c nc h j =
      let l = low decimal (from 80 j) in
      q_trans (subst (λ (u : ℚ). -q◌ (c *q (root decimal +q dy 1 84)) ≤q u) (qring (⊝ (x₀ ⊗ x₁)) (⊝ x₀ ⊗ x₁) refl (c ∷ l ∷ [])) (q_neg (q_mul c nc (low_below decimal j)))) (mul_right l (low_nn decimal j) h)

  t_under : (j : ℕ) → val x *q low decimal (from 80 j) ≤q dy 1 26 *q (root decimal +q dy 1 84)
  t_under j = q_trans (mul_right (low decimal (from 80 j)) (low_nn decimal j) bx.hi) (q_mul (dy 1 26) pattern_nums.5 (low_below decimal j))

  over_at : (c : ℚ) → T (nn c) → -q◌ c ≤q val x → (j n : ℕ) → 2 ≤ n → ofℕ 1 -q c *q (root decimal +q dy 1 84) -q dy 1 74 ≤q S (val x *q low decimal (from 80 j)) n
  unfolding norm ◌-q◌
  over_at c nc h j n k = q_trans (q_add (q_add (q_refl (ofℕ 1)) (t_over c nc h j)) (q_refl (-q◌ (dy 1 74)))) (sum_over (t j) (bt j) n k)

  at_least_by : (r : Fraction) (c : ℚ) → T (nn c) → -q◌ c ≤q val x → cls r ≤q ofℕ 1 -q c *q (root decimal +q dy 1 84) -q dy 1 74 → AtLeast exp10 (value x) r
  at_least_by r c nc h k = holds exp10 (at_least r) (value x) (λ j. 2) (λ j n l. subst (λ (u : ℚ). cls r ≤q u) (sum_at j n) (q_trans k (over_at c nc h j n l)))

  -- 1
  one_nearest : -q◌ stays_from ≤q val x → NearestTo exp10 x one
  unfolding norm ◌-q◌
  one_nearest h = record {
    held = held_one.0;
    above = λ v hv l. holds exp10 (at_most (middle one v)) (value x) (λ j. 2) (λ j n k.
        subst (λ (u : ℚ). u ≤q cls (middle one v)) (sum_at j n)
        (q_trans (upper j n k) (q_trans nums.0 (middle_above one v _ (gap_above v hv one (2 ^ 149) values.0 grains_are.0 l)))));
    below = λ v hv l. at_least_by (middle one v) stays_from pattern_nums.4 h (q_trans (middle_below one v _ (gap_below v hv one (2 ^ 149 - 2 ^ 125) values.1 grains_are.1 l)) nums.1);
  }
    where
      upper : (j n : ℕ) → 2 ≤ n → S (val x *q low decimal (from 80 j)) n ≤q ofℕ 1 +q dy 1 26 *q (root decimal +q dy 1 84) +q (dy 3 26 *q dy 3 26 *q inv 1 +q dy 1 74)
      upper j n k = unfold norm ◌-q◌ in
          (let b = near_second (t j) (bt j) n k in
          q_trans (bound_above (S (t j) n) (ofℕ 1 +q t j +q t j *q t j *q inv 1) (dy 1 74) b)
          (subst (λ (u : ℚ). u ≤q ofℕ 1 +q dy 1 26 *q (root decimal +q dy 1 84) +q (dy 3 26 *q dy 3 26 *q inv 1 +q dy 1 74)) (qring (x₀ ⊕ x₁ ⊕ (x₂ ⊕ x₃)) (x₀ ⊕ x₁ ⊕ x₂ ⊕ x₃) refl (ofℕ 1 ∷ t j ∷ t j *q t j *q inv 1 ∷ dy 1 74 ∷ []))
          (q_add (q_add (q_refl (ofℕ 1)) (t_under j)) (q_add (mul_right (inv 1) (nn_inv 1) (bound_mul (bt j) (bt j)).hi) (q_refl (dy 1 74))))))

  -- the f32 below 1
  falls_at : val x ≤q -q◌ falls_from → (j : ℕ) → val x *q low decimal (from 80 j) ≤q -q◌ fall
  unfolding norm
  falls_at h j =
      let l = low decimal (from 80 j) in
      q_trans (mul_right l (low_nn decimal j) h) (subst (λ (u : ℚ). u ≤q -q◌ fall) (qring (⊝ (x₀ ⊗ x₁)) (⊝ x₀ ⊗ x₁) refl (falls_from ∷ l ∷ [])) (q_neg (q_mul falls_from nums.7 (low_above decimal j))))

  below_upper : val x ≤q -q◌ falls_from → (j n : ℕ) → 2 ≤ n → S (val x *q low decimal (from 80 j)) n ≤q ofℕ 1 -q fall +q fall *q fall *q inv 1 +q dy 1 74
  below_upper h j n k = sum_under (t j) fall (bt j) nums.4 (falls_at h j) n k

  below_nearest : val x ≤q -q◌ falls_from → NearestTo exp10 x below_one
  below_nearest h = record {
    held = held_one.1;
    above = λ v hv l. holds exp10 (at_most (middle below_one v)) (value x) (λ j. 2) (λ j n k.
        subst (λ (u : ℚ). u ≤q cls (middle below_one v)) (sum_at j n)
        (q_trans (below_upper h j n k) (q_trans nums.2 (middle_above below_one v _ (gap_above v hv below_one (2 ^ 149 - 2 ^ 125) values.1 grains_are.2 l)))));
    below = λ v hv l. at_least_by (middle below_one v) (dy 1 26) pattern_nums.5 bx.lo (q_trans (middle_below below_one v _ (gap_below v hv below_one (2 ^ 149 - 2 ^ 126) values.2 grains_are.3 l)) nums.3);
  }

  -- ---- which of the two it is
  pub near_one_at : (a : Arithmetic) → exp10_value a x ≡ exp10_near_one x
  near_one_at a =
      let n = is_false (is_nan x) (numberless x f) in
      elim (signed_of x w f) [
        | positive l q v ↦ simp (n, lt-ltb (pattern x) 0x8000_0000 l, lt-leb 0x421a_209b (pattern x) (omega (arith, q, m)), lt-leb 0xc234_9e36 (pattern x) (omega (arith, l)), le-leb (magnitude x) 0x3280_0000 m)
        | negative l q v ↦ simp (n, le-ltb (pattern x) 0x8000_0000 (omega (arith, l)), lt-leb 0xc234_9e36 (pattern x) (omega (arith, q, m)), le-leb (magnitude x) 0x3280_0000 m)
      ]

  -- the pattern goes no further than 0xb2800000
  no_further : pattern x ≤ 0xb280_0000
  no_further = elim (signed_of x w f) [
    | positive l q v ↦ omega (arith, l)
    | negative l q v ↦ omega (arith, q, m)
  ]

  pub data Choice : Type 0 where
    stays_one : -q◌ (dy 0xde5bd8 50) ≤q val x → exp10_near_one x ≡ fin false 1 (pos 0) → Choice
    falls_below : val x ≤q -q◌ (dy 0xde5bd9 50) → exp10_near_one x ≡ fin false 0xffffff (negsuc 23) → Choice

  pub choice : Choice
  choice = elim (cases_lt (pattern x) 0xb25e_5bd9) [
    | inl l ↦ stays_one (q_trans pattern_nums.2 (down_to x w f 0x325e_5bd8 (λ s. omega arith))) (simp (lt-leb 0xb25e_5bd9 (pattern x) l) singles.0)
    | inr l ↦ falls_below (q_trans (down_from x w f 0x325e_5bd9 (omega arith)) pattern_nums.3) (simp (le-leb 0xb25e_5bd9 (pattern x) l, le-leb (pattern x) 0xb280_0000 no_further) singles.1)
  ]

  pub nearest_at : NearestTo exp10 x (exp10_near_one x)
  nearest_at = elim choice [
    | stays_one h e ↦ subst (λ (y : Float). NearestTo exp10 x y) (sym e) (one_nearest h)
    | falls_below h e ↦ subst (λ (y : Float). NearestTo exp10 x y) (sym e) (below_nearest h)
  ]

  -- ---- right
  right_nums : (ofℕ 1 -q fall +q fall *q fall *q inv 1 +q dy 1 74 -q val below_one ≤q cls (times half_and_part (unit binary32 below_one))) × (val below_one -q (ofℕ 1 -q dy 1 26 *q (root decimal +q dy 1 84) -q dy 1 74) ≤q cls (times half_and_part (unit binary32 below_one)))
  unfolding nn ◌-q◌ ◌+q◌ -q◌ ◌*q◌ ofℕ ofℤ inv val unit size
  right_nums = (record { le = tt }, record { le = tt })

  below_right : val x ≤q -q◌ falls_from → Right exp10 x below_one
  unfolding norm ◌-q◌
  below_right h =
      right_finite exp10 x below_one tt (under decimal (value x) (subst (λ (u : ℚ). u ≤q last decimal) (val_value x) (q_trans bx.hi pattern_nums.6))) (λ j. 2) (λ j n k.
      subst (λ (u : ℚ). Bound (val below_one -q u) (cls (times half_and_part (unit binary32 below_one)))) (sum_at j n)
      (let s = S (t j) n in
      let hi-side = ofℕ 1 -q fall +q fall *q fall *q inv 1 +q dy 1 74 in
      let lo-side = ofℕ 1 -q dy 1 26 *q (root decimal +q dy 1 84) -q dy 1 74 in
      let V = val below_one in
      let a = over_at (dy 1 26) pattern_nums.5 bx.lo j n k in
      let c = below_upper h j n k in
      record {
        hi = q_trans (le_by (s -q lo-side) a.le (qring (x₀ ⊖ x₁ ⊖ (x₀ ⊖ x₂)) (x₂ ⊖ x₁) refl (V ∷ lo-side ∷ s ∷ []))) right_nums.1;
        lo = q_trans (q_neg right_nums.0) (le_by (hi-side -q s) c.le (qring (x₀ ⊖ x₂ ⊖ ⊝ (x₁ ⊖ x₀)) (x₁ ⊖ x₂) refl (V ∷ hi-side ∷ s ∷ [])));
      }))

  pub near_one_right : Right exp10 x (exp10_near_one x)
  near_one_right = elim choice [
    | stays_one h e ↦ one_right decimal x (exp10_near_one x) e bx
    | falls_below h e ↦ subst (λ (y : Float). Right exp10 x y) (sym e) (below_right h)
  ]

pub near_one_nearest : NearOneNearest
near_one_nearest a x w f m = subst (λ (y : Float). NearestTo exp10 x y) (sym (near_one_at x w f m a)) (nearest_at x w f m)
