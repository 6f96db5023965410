-- A power of ten up to 10 ^ 10 is an f32, and the figure of an f64 within 2 ^ -42 of it is that f32.
use Rattle.std.proofs.Common.{◌≡◌, ℕ, ◌+◌, ◌-◌, ◌*◌, ◌^◌, ◌<◌, ◌≤◌, Bool, false, T, eqb, ltb, [], ◌∷◌, replicate, pos, sym, refl, ap, ◌∙◌, subst, ap₂, inl, inr, le_trans, le_of_eq, le_of_lt, zero-lt-suc, arith, eqb→eq, ltb→lt, pow_pos, pow_mono, pow-add}
use Rattle.std.specs.Float.{Float, fin, binary32, round_to_format}
use Rattle.std.specs.Float.Ieee.{fits, size}
use Rattle.std.specs.Float.Ieee.Digits.{size-lt}
use Rattle.std.specs.Float.Ieee.Scale.{finite}
use Rattle.std.proofs.lemmas.Bool.{cases_lt}
use std.Quotient.{cls}
use Rattle.exact.specs.Fraction.{Same, whole, absolute, apart, ◌≼◌}
use Rattle.exact.proofs.Ring.{◌⊕◌, ◌⊗◌, norm}
use Rattle.exact.proofs.Integer.{x₀, x₁}
use Rattle.exact.proofs.Rational.{ℚ, is, ◌+q◌, ◌*q◌, -q◌, ◌-q◌, ofℤ, qring}
use Rattle.exact.proofs.Order.{nn, ◌≤q◌, q_trans}
use Rattle.exact.proofs.Bound.{ofℕ, nn_ofℕ, absq, bound_abs, Bound, bound_more, bound_turn, bound_via, bound_above, mul_right}
use Rattle.exact.proofs.Compare.{whole_cls, dy}
use Rattle.rounding.specs.Values.{value, sign}
use Rattle.rounding.specs.Nearest.{limit}
use Rattle.rounding.proofs.Fractions.{frac, frac_le_out}
use Rattle.rounding.proofs.Value.{val, val_value, value_is}
use Rattle.rounding.proofs.Narrow.{unit_of}
use Rattle.rounding.proofs.Limit.{limitℕ}
use Rattle.rounding.proofs.Distance.{same_number, apart_cls, abs_cls, abs_least, at_most_out}
use Rattle.rounding.proofs.Held.{digits}
use Rattle.rounding.proofs.Figure.{figure_nearest, figure_finite}
use Rattle.rounding.proofs.Gaps.{Value, next_value}
use Rattle.rounding.proofs.NearestValue.{sign_of_value}
use Rattle.arithmetic.specs.Signs.{dist}
use Rattle.curves.proofs.Checked as Checked

-- ---- 10 ^ n as an f32: 5 ^ n times 2 ^ n
abbrev pub ten : ℕ → Float
ten n = fin false (5 ^ n) (pos n)

test : ℕ → ℕ → Bool
test n b = Checked.both (fits binary32 (fin false (5 ^ n) (pos n))) (Checked.both (eqb (5 ^ n * 2 ^ n) (10 ^ n)) (ltb (5 ^ n) (2 ^ 24)))

tested : (n : ℕ) → n ≤ 10 → T (Checked.both (fits binary32 (fin false (5 ^ n) (pos n))) (Checked.both (eqb (5 ^ n * 2 ^ n) (10 ^ n)) (ltb (5 ^ n) (2 ^ 24))))
unfolding test fits
tested n h = Checked.at test (replicate 11 0) tt n (let k : n < 11 = omega arith in k)

ten_fits : (n : ℕ) → n ≤ 10 → T (fits binary32 (ten n))
ten_fits n h = Checked.both_left (fits binary32 (fin false (5 ^ n) (pos n))) _ (tested n h)

ten_is : (n : ℕ) → n ≤ 10 → 5 ^ n * 2 ^ n ≡ 10 ^ n
ten_is n h = eqb→eq (5 ^ n * 2 ^ n) (10 ^ n) (Checked.both_left (eqb (5 ^ n * 2 ^ n) (10 ^ n)) _ (Checked.both_right (fits binary32 (fin false (5 ^ n) (pos n))) _ (tested n h)))

five_lt : (n : ℕ) → n ≤ 10 → 5 ^ n < 2 ^ 24
five_lt n h = ltb→lt (5 ^ n) (2 ^ 24) (Checked.both_right (eqb (5 ^ n * 2 ^ n) (10 ^ n)) _ (Checked.both_right (fits binary32 (fin false (5 ^ n) (pos n))) _ (tested n h)))

ten_value : (n : ℕ) → n ≤ 10 → val (ten n) ≡ ofℕ (10 ^ n)
unfolding val ofℕ ofℤ
ten_value n h = is (ap (λ (m : ℕ). pos (m * 1)) (ten_is n h))

-- ---- two values that are this near are one
few_units : (g : ℕ) → g ≤ 2 ^ 24 * unit_of binary32 g
few_units g = le_trans (le_of_lt (size-lt g)) (le_trans (pow_mono {i = size g} {j = 24 + (size g - 24)} (omega arith)) (le_of_eq (pow-add 2 24 (size g - 24))))

pub one_value : (g T : ℕ) → Value binary32 g → Value binary32 T → dist g T * 2 ^ 40 ≤ T → g ≡ T
one_value g T vg vT h = elim (cases_lt g T) [
  | inl l ↦ absurd (below g T (unit_of binary32 g) (pow_pos (size g - 24)) (next_value binary32 g T vg vT l) (few_units g) h)
  | inr l ↦ elim (cases_lt T g) [
    | inl m ↦ absurd (above g T (unit_of binary32 T) (pow_pos (size T - 24)) (next_value binary32 T g vT vg m) (few_units T) h)
    | inr m ↦ omega arith
  ]
]
  where
    below : (g t u : ℕ) → 0 < u → g + u ≤ t → g ≤ 2 ^ 24 * u → dist g t * 2 ^ 40 ≤ t → ⊥
    below g t u p a b h = omega arith

    above : (g t u : ℕ) → 0 < u → t + u ≤ g → t ≤ 2 ^ 24 * u → dist g t * 2 ^ 40 ≤ t → ⊥
    above g t u p a b h = omega arith

-- a number of g smallest values within 2 ^ -40 of 10 ^ n
more_is : (N : ℕ) → ofℕ N +q dy 1 40 *q ofℕ N ≡ frac false (N * (2 ^ 40 + 1)) (2 ^ 40) (pow_pos 40)
unfolding ◌+q◌ ◌*q◌ ofℕ ofℤ
more_is N = is (ap pos (omega arith))

with_is : (g N : ℕ) → frac false g (2 ^ 149) (pow_pos 149) +q dy 1 40 *q ofℕ N ≡ frac false (g * 2 ^ 40 + N * 2 ^ 149) (2 ^ 189) (pow_pos 189)
unfolding ◌+q◌ ◌*q◌ ofℕ ofℤ
with_is g N = is (ap pos (omega arith))

near_out : (g N : ℕ) → Bound (frac false g (2 ^ 149) (pow_pos 149) -q ofℕ N) (dy 1 40 *q ofℕ N) → dist g (N * 2 ^ 149) * 2 ^ 40 ≤ N * 2 ^ 149
unfolding ofℕ ofℤ
near_out g N b =
    let G = frac false g (2 ^ 149) (pow_pos 149) in
    let up_side : g * 2 ^ 40 ≤ N * (2 ^ 40 + 1) * 2 ^ 149 = frac_le_out g (2 ^ 149) (N * (2 ^ 40 + 1)) (2 ^ 40) (pow_pos 149) (pow_pos 40) (subst (λ (u : ℚ). G ≤q u) (more_is N) (bound_above G (ofℕ N) (dy 1 40 *q ofℕ N) b)) in
    let down_side : N * 2 ^ 189 ≤ (g * 2 ^ 40 + N * 2 ^ 149) * 1 = frac_le_out N 1 (g * 2 ^ 40 + N * 2 ^ 149) (2 ^ 189) (zero-lt-suc 0) (pow_pos 189) (subst (λ (u : ℚ). ofℕ N ≤q u) (with_is g N) (bound_above (ofℕ N) G (dy 1 40 *q ofℕ N) (bound_turn G (ofℕ N) b))) in
    omega arith

-- ---- the figure of z
pub ten_figure : (n : ℕ) → n ≤ 10 → (z : Float) → T (finite z) → (ofℕ (limitℕ binary32) ≤q absq (val z) → ⊥) → sign (round_to_format binary32 z) ≡ false → Bound (val z -q ofℕ (10 ^ n)) (dy 1 42 *q ofℕ (10 ^ n)) → T (finite (round_to_format binary32 z)) × Same (value (round_to_format binary32 z)) (whole (10 ^ n))
unfolding norm ◌-q◌
ten_figure n h z fz low plus b =
    let y = round_to_format binary32 z in
    let N = 10 ^ n in
    let fy = figure_finite binary32 z fz low in
    let best = (figure_nearest binary32 z fz).otherwise (λ k. low (subst (λ (u : ℚ). u ≤q absq (val z)) limit_is (subst (λ (u : ℚ). cls (limit binary32) ≤q u) (abs_cls (value z) ∙ ap absq (sym (val_value z))) (at_most_out (limit binary32) (absolute (value z)) k)))) in
    let w = ten n in
    let d = digits binary32 y fy best.held.is_held in
    let g = d.q * 2 ^ d.j in
    let s : d.s ≡ false = sym (sign_of_value y d.s g (2 ^ 149) d.how) ∙ plus in
    let v : val y ≡ frac false g (2 ^ 149) (pow_pos 149) = value_is y d.s g (2 ^ 149) (pow_pos 149) d.how ∙ ap (λ (u : Bool). frac u g (2 ^ 149) (pow_pos 149)) s in
    let near : absq (val y -q val z) ≤q absq (val w -q val z) = nearer y w z (best.best w (record { is_finite = tt; is_held = ten_fits n h })) in
    let bw : Bound (val w -q val z) (dy 1 42 *q ofℕ N) = subst (λ (u : ℚ). Bound (u -q val z) (dy 1 42 *q ofℕ N)) (sym (ten_value n h)) (bound_turn (val z) (ofℕ N) b) in
    let by : Bound (val y -q val z) (dy 1 42 *q ofℕ N) = bound_more (bound_abs (val y -q val z)) (q_trans near (abs_least (val w -q val z) (dy 1 42 *q ofℕ N) bw)) in
    let off : Bound (val y -q ofℕ N) (dy 1 40 *q ofℕ N) = bound_more (bound_via (val y) (val z) (ofℕ N) by b) (room N) in
    let e : g ≡ N * 2 ^ 149 = one_value g (N * 2 ^ 149) (record { q = d.q; j = d.j; few = le_of_lt d.few; is_value = refl }) (ten_grains n h) (near_out g N (subst (λ (u : ℚ). Bound (u -q ofℕ N) (dy 1 40 *q ofℕ N)) v off)) in
    (fy, same_number (value y) (whole N) (sym (val_value y) ∙ v ∙ ap (λ (m : ℕ). frac false m (2 ^ 149) (pow_pos 149)) e ∙ down_to N ∙ sym (whole_cls N)))
  where
    limit_is : cls (limit binary32) ≡ ofℕ (limitℕ binary32)
    limit_is = unfold ofℕ ofℤ in refl

    nearer : (y w z : Float) → apart (value y) (value z) ≼ apart (value w) (value z) → absq (val y -q val z) ≤q absq (val w -q val z)
    nearer y w z l = subst (λ (u : ℚ). u ≤q absq (val w -q val z)) (apart_is y z) (subst (λ (u : ℚ). cls (apart (value y) (value z)) ≤q u) (apart_is w z) (at_most_out (apart (value y) (value z)) (apart (value w) (value z)) l))
      where
        apart_is : (a c : Float) → cls (apart (value a) (value c)) ≡ absq (val a -q val c)
        apart_is a c = apart_cls (value a) (value c) ∙ ap₂ (λ (u v : ℚ). absq (u -q v)) (sym (val_value a)) (sym (val_value c))

    room : (N : ℕ) → dy 1 42 *q ofℕ N +q dy 1 42 *q ofℕ N ≤q dy 1 40 *q ofℕ N
    room N = unfold norm in subst (λ (u : ℚ). u ≤q dy 1 40 *q ofℕ N) (qring ((x₀ ⊕ x₀) ⊗ x₁) (x₀ ⊗ x₁ ⊕ x₀ ⊗ x₁) refl (dy 1 42 ∷ ofℕ N ∷ [])) (mul_right (ofℕ N) (nn_ofℕ N) quarter)
      where
        quarter : dy 1 42 +q dy 1 42 ≤q dy 1 40
        quarter = unfold nn ◌-q◌ ◌+q◌ -q◌ in record { le = tt }

    down_to : (N : ℕ) → frac false (N * 2 ^ 149) (2 ^ 149) (pow_pos 149) ≡ ofℕ N
    down_to N = unfold ofℕ ofℤ in is (ap pos (omega arith))

    ten_grains : (n : ℕ) → n ≤ 10 → Value binary32 (10 ^ n * 2 ^ 149)
    ten_grains n h = record { q = 5 ^ n; j = n + 149; few = le_of_lt (five_lt n h); is_value = ap (λ (m : ℕ). m * 2 ^ 149) (sym (ten_is n h)) ∙ omega arith ∙ ap (λ (m : ℕ). 5 ^ n * m) (sym (pow-add 2 n 149)) }
