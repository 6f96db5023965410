-- The bands of exp2 and exp10 that need no table: infinity, 1 near one, +0; and exp2's 2 ^ -149 and whole numbers.
use Rattle.std.proofs.Common.{◌≡◌, ℕ, suc, ◌-◌, ◌*◌, ◌^◌, ◌≤◌, false, T, [], ◌∷◌, ℤ, pos, negsuc, nat_abs, sym, refl, ap, ◌∙◌, subst, ap₂, zero-lt-suc, arith, lit≤, pow_pos}
use Rattle.std.specs.Float.{Float, inf, fin, binary32}
use Rattle.std.specs.Float.Ieee.{fits, size}
use std.Quotient.{cls}
use Rattle.exact.specs.Fraction.{Fraction, times, opposite, Same}
use Rattle.exact.specs.Logarithm.{Base, binary, decimal, lowest}
use Rattle.exact.specs.Laws.{of_base}
use Rattle.exact.specs.Exact.{exp2}
use Rattle.exact.proofs.Ring.{con, ◌⊕◌, ◌⊖◌, ◌⊗◌, ⊝, norm}
use Rattle.exact.proofs.Integer.{x₀, x₁, x₂, x₃, x₄}
use Rattle.exact.proofs.Rational.{ℚ, is, ◌+q◌, ◌*q◌, -q◌, ◌-q◌, ofℤ, qring}
use Rattle.exact.proofs.Order.{nn, nn_add, nn_mul, ◌≤q◌, le_by, q_trans, q_add, q_neg, q_mul}
use Rattle.exact.proofs.Bound.{ofℕ, inv, nn_ofℕ, ofℕ_mono, nn_le, le_nn, Bound, bound_more, bound_add, bound_neg, bound_mul, bound_self, bound_turn, bound_above, bound_below, mul_right, bound_is}
use Rattle.exact.proofs.Compare.{product_cls, neg_cls, fr, nn_fr, nn_dy, dy}
use Rattle.exact.proofs.Relative.{Rel}
use Rattle.exact.proofs.Series.{S, from, later}
use Rattle.exact.proofs.Product.{mult}
use Rattle.exact.proofs.Growth.{S_zero, S_mono}
use Rattle.exact.proofs.Negative.{far_below}
use Rattle.exact.proofs.Shift.{first_two}
use Rattle.exact.proofs.Compute.{run, test, held}
use Rattle.exact.proofs.Logarithm.{low, cut, root, low_near_root, low_nn, low_bound, lowest_cls}
use Rattle.exact.proofs.Powers.{raise, raised_at, rest_small}
use Rattle.rounding.specs.Values.{value}
use Rattle.rounding.specs.Units.{unit, power}
use Rattle.rounding.proofs.Value.{val, val_value}
use Rattle.rounding.proofs.Distance.{abs_nn}
use Rattle.rounding.proofs.Figure.{held_units}
use Rattle.accuracy.specs.Figures.{half_and_part, Right}
use Rattle.accuracy.proofs.Outcome.{sum, right_finite, right_infinite}
use Rattle.accuracy.proofs.PowerLimits.{sum_is, low_above, low_below, negative_under, last, first, under, from_first}
use Rattle.accuracy.proofs.PowerTable.{power_is}

-- the sums at x, with x as the number of a float
at_value : (b : Base) (x : Float) (j n : ℕ) → sum (of_base b) (value x) j n ≡ S (val x *q low b (from 80 j)) n
at_value b x j n = sum_is b (value x) j n ∙ ap (λ (u : ℚ). S (u *q low b (from 80 j)) n) (sym (val_value x))

-- ---- infinity
pub infinite_right : (b : Base) (x y : Float) → y ≡ inf false → first b ≤q val x → Right (of_base b) x y
infinite_right b x y e h = right_infinite (of_base b) x y e (λ j. 250) (λ j n l. from_first b (value x) (subst (λ (u : ℚ). first b ≤q u) (val_value x) h) j n l)

-- ---- 1, for |x| up to 2 ^ -26
abbrev one : Float
one = fin false 1 (pos 0)

one_nums : (dy 3 26 ≤q inv 1) × (dy 3 26 *q dy 3 26 +q dy 3 26 ≤q cls (times half_and_part (unit binary32 one))) × (dy 1 26 *q ofℕ 3 ≤q dy 3 26) × (dy 1 26 ≤q last binary) × (dy 1 26 ≤q last decimal)
unfolding nn ◌-q◌ ◌+q◌ -q◌ ◌*q◌ ofℕ ofℤ inv unit size
one_nums = (record { le = tt }, record { le = tt }, record { le = tt }, record { le = tt }, record { le = tt })

one_last : (b : Base) → dy 1 26 ≤q last b
one_last binary = one_nums.3
one_last decimal = one_nums.4

one_value : val one ≡ ofℕ 1
unfolding val ofℕ ofℤ
one_value = is refl

pub small_argument : (b : Base) (x : ℚ) → Bound x (dy 1 26) → (j : ℕ) → Bound (x *q low b (from 80 j)) (dy 3 26)
small_argument b x h j = bound_more (bound_mul h (low_bound b j)) one_nums.2

pub near_one : (b : Base) (x : ℚ) → Bound x (dy 1 26) → (j n : ℕ) → 1 ≤ n → Bound (S (x *q low b (from 80 j)) n -q (ofℕ 1 +q x *q low b (from 80 j))) (dy 3 26 *q dy 3 26)
near_one b x h j n k = first_two (x *q low b (from 80 j)) (dy 3 26) (small_argument b x h j) one_nums.0 n k

pub one_right : (b : Base) (x y : Float) → y ≡ fin false 1 (pos 0) → Bound (val x) (dy 1 26) → Right (of_base b) x y
unfolding norm ◌-q◌
one_right b x y e h =
    subst (λ (u : Float). Right (of_base b) x u) (sym e)
    (right_finite (of_base b) x one tt (under b (value x) (subst (λ (u : ℚ). u ≤q last b) (val_value x) (q_trans h.hi (one_last b)))) (λ j. 1) (λ j n l.
    let t = val x *q low b (from 80 j) in
    let s = S t n in
    bound_more (subst (λ (u : ℚ). Bound u (dy 3 26 *q dy 3 26 +q dy 3 26)) (qring (⊝ (x₀ ⊖ (x₂ ⊕ x₁)) ⊕ ⊝ x₁) (x₂ ⊖ x₀) refl (s ∷ t ∷ ofℕ 1 ∷ []) ∙ ap₂ (λ (u v : ℚ). u -q v) (sym one_value) (sym (at_value b x j n)))
    (bound_add (bound_neg (near_one b (val x) h j n l)) (bound_neg (small_argument b (val x) h j)))) one_nums.1))

-- ---- +0
-- from here down b ^ x is at most 2 ^ -150, and a little
abbrev pub zero_from : Base → ℚ
zero_from binary = dy 150 0
zero_from decimal = dy 0xb49e36 18

abbrev zero_num : Base → ℕ
zero_num binary = 150 * (cut binary - 4096)
zero_num decimal = 0xb49e36 * (cut decimal - 4096)

abbrev zero_den : Base → ℕ
zero_den binary = 96
zero_den decimal = 114

abbrev nil : Float
nil = fin false 0 (pos 0)

zero_test : (b : Base) → T (test 1 (2 ^ 150) (2 ^ 137) (run (pos (zero_num b)) (2 ^ zero_den b) 300)) × (2 * zero_num b ≤ 300 * 2 ^ zero_den b)
unfolding test run
zero_test binary = (tt, lit≤ tt)
zero_test decimal = (tt, lit≤ tt)

zero_nums : (b : Base) → (fr (pos (zero_num b)) (2 ^ zero_den b) (pow_pos (zero_den b)) ≤q zero_from b *q (root b -q dy 1 84)) × T (nn (root b -q dy 1 84)) × T (nn (zero_from b)) × (-q◌ (zero_from b) ≤q ofℤ (pos 0))
unfolding nn ◌-q◌ ◌+q◌ -q◌ ◌*q◌ ofℕ ofℤ
zero_nums binary = (record { le = tt }, tt, tt, record { le = tt })
zero_nums decimal = (record { le = tt }, tt, tt, record { le = tt })

nil_nums : (ofℕ (suc (2 ^ 150 - 2 ^ 137 - 1)) ≤q fr (pos (2 ^ 150)) 1 (zero-lt-suc 0) -q fr (pos (2 ^ 137)) 1 (zero-lt-suc 0)) × ((ofℕ 1 +q inv (2 ^ 12)) *q inv (2 ^ 150 - 2 ^ 137 - 1) ≤q cls (times half_and_part (unit binary32 nil))) × (val nil ≡ ofℤ (pos 0))
unfolding nn ◌-q◌ ◌+q◌ -q◌ ◌*q◌ ofℕ ofℤ inv unit val
nil_nums = (record { le = tt }, record { le = tt }, is refl)

zero_sums : (b : Base) (n : ℕ) → 300 ≤ n → ofℕ (suc (2 ^ 150 - 2 ^ 137 - 1)) ≤q S (fr (pos (zero_num b)) (2 ^ zero_den b) (pow_pos (zero_den b))) n
zero_sums b n h = later (λ m. ofℕ (suc (2 ^ 150 - 2 ^ 137 - 1)) ≤q S (fr (pos (zero_num b)) (2 ^ zero_den b) (pow_pos (zero_den b))) m) 300 (λ j.
    q_trans nil_nums.0 (bound_below (S (fr (pos (zero_num b)) (2 ^ zero_den b) (pow_pos (zero_den b))) (from 300 j)) (fr (pos (2 ^ 150)) 1 (zero-lt-suc 0)) (fr (pos (2 ^ 137)) 1 (zero-lt-suc 0))
    (bound_turn (fr (pos (2 ^ 150)) 1 (zero-lt-suc 0)) (S (fr (pos (zero_num b)) (2 ^ zero_den b) (pow_pos (zero_den b))) (from 300 j))
    (held (pos (zero_num b)) (2 ^ zero_den b) (pow_pos (zero_den b)) 300 1 (2 ^ 150) (2 ^ 137) (zero-lt-suc 0) (zero_test b).1 (zero_test b).0 j)))) n h

module _ (b : Base) (x : Float) (h : val x ≤q -q◌ (zero_from b)) where
  far_out : zero_from b ≤q -q◌ (val x)
  unfolding norm
  far_out = subst (λ (u : ℚ). u ≤q -q◌ (val x)) (qring (⊝ (⊝ x₀)) x₀ refl (zero_from b ∷ [])) (q_neg h)

  nn_far : T (nn (-q◌ (val x)))
  nn_far = le_nn (q_trans (nn_le (zero_nums b).2) far_out)

  size_at : ℕ → Fraction
  size_at j = times (opposite (value x)) (lowest b (from 80 j))

  size_is : (j : ℕ) → cls (size_at j) ≡ (-q◌ (val x)) *q low b (from 80 j)
  unfolding size_at
  size_is j = product_cls (opposite (value x)) (lowest b (from 80 j)) ∙ ap₂ ◌*q◌ (neg_cls (value x) ∙ ap -q◌ (sym (val_value x))) (lowest_cls b (from 80 j))

  small_from : (j : ℕ) → (k : ℕ) × ((n : ℕ) → k ≤ n → Bound (S (-q◌ (cls (size_at j))) n) ((ofℕ 1 +q inv (2 ^ 12)) *q inv (2 ^ 150 - 2 ^ 137 - 1)))
  small_from j =
      far_below (size_at j) (fr (pos (zero_num b)) (2 ^ zero_den b) (pow_pos (zero_den b))) (2 ^ 150 - 2 ^ 137 - 1) (2 ^ 12) 300 (nn_fr (zero_num b) (2 ^ zero_den b) (pow_pos (zero_den b)))
      (subst (λ (u : ℚ). fr (pos (zero_num b)) (2 ^ zero_den b) (pow_pos (zero_den b)) ≤q u) (sym (size_is j)) (q_trans (zero_nums b).0 (q_trans (mul_right (root b -q dy 1 84) (zero_nums b).1 far_out) (q_mul (-q◌ (val x)) nn_far (low_above b j)))))
      (zero_sums b)

  zero_right_at : Right (of_base b) x (fin false 0 (pos 0))
  unfolding norm ◌-q◌
  zero_right_at =
      right_finite (of_base b) x nil tt (negative_under b (value x) (subst (λ (u : ℚ). u ≤q ofℤ (pos 0)) (val_value x) (q_trans h (zero_nums b).3))) (λ j. (small_from j).0) (λ j n l.
      let L = low b (from 80 j) in
      bound_more (subst (λ (u : ℚ). Bound u ((ofℕ 1 +q inv (2 ^ 12)) *q inv (2 ^ 150 - 2 ^ 137 - 1)))
      (ap (λ (u : ℚ). -q◌ (S u n)) (ap -q◌ (size_is j) ∙ qring (⊝ (⊝ x₀ ⊗ x₁)) (x₀ ⊗ x₁) refl (val x ∷ L ∷ [])) ∙ qring (⊝ x₀) (con (pos 0) ⊖ x₀) refl (S (val x *q L) n ∷ []) ∙ ap₂ (λ (u v : ℚ). u -q v) (sym nil_nums.2) (sym (at_value b x j n)))
      (bound_neg ((small_from j).1 n l))) nil_nums.1)

pub zero_right : (b : Base) (x y : Float) → y ≡ fin false 0 (pos 0) → val x ≤q -q◌ (zero_from b) → Right (of_base b) x y
zero_right b x y e h = subst (λ (u : Float). Right (of_base b) x u) (sym e) (zero_right_at b x h)

-- ---- 2 ^ -149, for x from -150 to -149
abbrev least : Float
least = fin false 1 (negsuc 148)

low_side : ℚ
low_side = (ofℤ (pos 1) -q dy 1 74) *q dy 1 150

high_side : ℚ
high_side = (ofℤ (pos 1) +q dy 1 74) *q dy 1 150 *q ((ofℤ (pos 1) +q dy 1 74) *q ofℕ 2)

least_nums : T (nn low_side) × T (nn ((ofℤ (pos 1) +q dy 1 74) *q dy 1 150)) × (val least -q low_side +q dy 1 500 ≤q cls (times half_and_part (unit binary32 least))) × (high_side +q dy 1 500 -q val least ≤q cls (times half_and_part (unit binary32 least))) × (ofℕ 150 *q ofℕ 1 +q ofℕ 1 ≤q ofℕ 201) × (ofℕ 201 +q ofℕ 201 ≤q ofℕ 1000)
    × T (nn (ofℕ 150 *q ofℕ 1 +q ofℕ 1)) × (root binary +q dy 1 84 ≤q ofℕ 1) × (-q◌ (ofℕ 149) ≤q ofℤ (pos 0)) × Bound (ofℤ (negsuc 149)) (ofℕ 150) × T (nn (ofℤ (pos 0)))
unfolding nn ◌-q◌ ◌+q◌ -q◌ ◌*q◌ ofℕ ofℤ unit size val low_side high_side
least_nums = (tt, tt, record { le = tt }, record { le = tt }, record { le = tt }, record { le = tt }, tt, record { le = tt }, record { le = tt }, bound_is tt tt, tt)

powers_are : (raise binary (negsuc 149) ≡ dy 1 150) × (raise binary (pos 1) ≡ ofℕ 2)
unfolding ofℕ ofℤ
powers_are = (sym (power_is (negsuc 149)) ∙ is refl, sym (power_is (pos 1)) ∙ is refl)

least_off : (x : ℚ) → -q◌ (ofℕ 150) ≤q x → x ≤q -q◌ (ofℕ 149) → (j n : ℕ) → 1000 ≤ n → Bound (val least -q S (x *q low binary (from 80 j)) n) (cls (times half_and_part (unit binary32 least)))
unfolding norm ◌-q◌ ofℕ low_side high_side
least_off x lo hi j n k =
    let l = low binary (from 80 j) in
    let u = x +q ofℕ 150 in
    let nu : T (nn u) = subst (λ (v : ℚ). T (nn v)) (qring (x₀ ⊖ ⊝ x₁) (x₀ ⊕ x₁) refl (x ∷ ofℕ 150 ∷ [])) lo.le in
    let u1 : u ≤q ofℕ 1 = le_by (-q◌ (ofℕ 149) -q x) hi.le (qring (con (pos 1) ⊖ (x₀ ⊕ con (pos 150))) (⊝ (con (pos 149)) ⊖ x₀) refl (x ∷ [])) in
    let nl = low_nn binary j in
    let l1 : l ≤q ofℕ 1 = q_trans (low_below binary j) least_nums.7 in
    let c = u *q l in
    let nc = nn_mul u l nu nl in
    let c1 : c ≤q l = subst (λ (w : ℚ). c ≤q w) (qring (con (pos 1) ⊗ x₀) x₀ refl (l ∷ [])) (mul_right l nl u1) in
    let bc : Bound c (ofℕ 1) = bound_more (bound_self nc) (q_trans c1 l1) in
    let a = ofℤ (negsuc 149) *q l in
    let ba : Bound a (ofℕ 150 *q ofℕ 1) = bound_mul least_nums.9 (bound_more (bound_self nl) l1) in
    let s = S a n in
    let r = S c n in
    let t = S (x *q l) n in
    let W = dy 1 150 in
    let rs : Rel s W (dy 1 74) = subst (λ (w : ℚ). Rel s w (dy 1 74)) powers_are.0 (raised_at binary (negsuc 149) (lit≤ tt) l (low_near_root binary j) n k) in
    let rr : Rel (S l n) (ofℕ 2) (dy 1 74) = subst (λ (w : ℚ). Rel (S w n) (ofℕ 2) (dy 1 74)) (qring (con (pos 1) ⊗ x₀) x₀ refl (l ∷ [])) (subst (λ (w : ℚ). Rel (S (ofℤ (pos 1) *q l) n) w (dy 1 74)) powers_are.1 (raised_at binary (pos 1) (lit≤ tt) l (low_near_root binary j) n k)) in
    let r1 : ofℕ 1 ≤q r = subst (λ (w : ℚ). w ≤q r) (S_zero n) (S_mono (ofℤ (pos 0)) c least_nums.10 (nn_le nc) n).1 in
    let r2 : r ≤q (ofℤ (pos 1) +q dy 1 74) *q ofℕ 2 = q_trans (S_mono c l nc c1 n).1 (subst (λ (w : ℚ). S l n ≤q w) (qring (x₀ ⊕ x₁ ⊗ x₀) ((con (pos 1) ⊕ x₁) ⊗ x₀) refl (ofℕ 2 ∷ dy 1 74 ∷ [])) (bound_above (S l n) (ofℕ 2) (dy 1 74 *q ofℕ 2) rr.off)) in
    let nr : T (nn r) = le_nn (q_trans (nn_le (nn_ofℕ 1)) r1) in
    let s1 : (ofℤ (pos 1) -q dy 1 74) *q W ≤q s = subst (λ (w : ℚ). w ≤q s) (qring (x₀ ⊖ x₁ ⊗ x₀) ((con (pos 1) ⊖ x₁) ⊗ x₀) refl (W ∷ dy 1 74 ∷ [])) (bound_below s W (dy 1 74 *q W) rs.off) in
    let s2 : s ≤q (ofℤ (pos 1) +q dy 1 74) *q W = subst (λ (w : ℚ). s ≤q w) (qring (x₀ ⊕ x₁ ⊗ x₀) ((con (pos 1) ⊕ x₁) ⊗ x₀) refl (W ∷ dy 1 74 ∷ [])) (bound_above s W (dy 1 74 *q W) rs.off) in
    let lows = (ofℤ (pos 1) -q dy 1 74) *q dy 1 150 in
    let highs = (ofℤ (pos 1) +q dy 1 74) *q dy 1 150 *q ((ofℤ (pos 1) +q dy 1 74) *q ofℕ 2) in
    let p1 : lows ≤q s *q r = q_trans (subst (λ (w : ℚ). w ≤q lows *q r) (qring (x₀ ⊗ con (pos 1)) x₀ refl (lows ∷ [])) (q_mul lows least_nums.0 r1)) (mul_right r nr s1) in
    let p2 : s *q r ≤q highs = q_trans (mul_right r nr s2) (q_mul ((ofℤ (pos 1) +q dy 1 74) *q W) least_nums.1 r2) in
    let mm = mult a c (ofℕ 150 *q ofℕ 1) (ofℕ 1) ba bc n (q_trans (q_add least_nums.4 least_nums.4) (q_trans least_nums.5 (ofℕ_mono 1000 n k))) in
    let e : a +q c ≡ x *q l = qring (con (negsuc 149) ⊗ x₁ ⊕ (x₀ ⊕ con (pos 150)) ⊗ x₁) (x₀ ⊗ x₁) refl (x ∷ l ∷ []) in
    let d : Bound (s *q r -q t) (dy 1 500) = subst (λ (w : ℚ). Bound (s *q r -q S w n) (dy 1 500)) e (bound_more mm (rest_small (ofℕ 150 *q ofℕ 1 +q ofℕ 1) least_nums.6 least_nums.4 n k)) in
    let V = val least in
    record {
      hi = q_trans (le_by ((dy 1 500 -q (s *q r -q t)) +q (s *q r -q lows)) (nn_add _ _ d.hi.le p1.le) (qring (x₀ ⊖ x₁ ⊕ x₂ ⊖ (x₀ ⊖ x₃)) ((x₂ ⊖ (x₄ ⊖ x₃)) ⊕ (x₄ ⊖ x₁)) refl (V ∷ lows ∷ dy 1 500 ∷ t ∷ s *q r ∷ []))) least_nums.2;
      lo = q_trans (q_neg least_nums.3) (le_by ((s *q r -q t -q (-q◌ (dy 1 500))) +q (highs -q s *q r)) (nn_add _ _ d.lo.le p2.le) (qring (x₀ ⊖ x₃ ⊖ ⊝ (x₁ ⊕ x₂ ⊖ x₀)) ((x₄ ⊖ x₃ ⊖ ⊝ x₂) ⊕ (x₁ ⊖ x₄)) refl (V ∷ highs ∷ dy 1 500 ∷ t ∷ s *q r ∷ [])));
    }

pub least_right : (x y : Float) → y ≡ fin false 1 (negsuc 148) → -q◌ (ofℕ 150) ≤q val x → val x ≤q -q◌ (ofℕ 149) → Right exp2 x y
least_right x y e lo hi =
    subst (λ (u : Float). Right exp2 x u) (sym e)
    (right_finite exp2 x least tt (negative_under binary (value x) (subst (λ (u : ℚ). u ≤q ofℤ (pos 0)) (val_value x) (q_trans hi least_nums.8))) (λ j. 1000) (λ j n l.
    subst (λ (u : ℚ). Bound (val least -q u) (cls (times half_and_part (unit binary32 least)))) (sym (at_value binary x j n)) (least_off (val x) lo hi j n l)))

-- ---- whole numbers
power_value : (k : ℤ) → val (fin false 1 k) ≡ cls (power k)
unfolding val
power_value k = is (same k)
  where
    same : (k : ℤ) → Same (value (fin false 1 k)) (power k)
    same (pos n) = ap pos (turn (2 ^ n))
      where
        turn : (u : ℕ) → 1 * u * 1 ≡ u * 1
        turn u = omega arith
    same (negsuc n) = ap pos (turn (2 ^ suc n))
      where
        turn : (u : ℕ) → 1 * 1 * u ≡ 1 * u
        turn u = omega arith

unit_nums : (u : Fraction) → T (nn (cls u)) → dy 1 74 *q (ofℕ (2 ^ 24) *q cls u) ≤q cls (times half_and_part u)
unfolding norm
unit_nums u t = subst (λ (v : ℚ). dy 1 74 *q (ofℕ (2 ^ 24) *q cls u) ≤q v) (sym (product_cls half_and_part u)) (subst (λ (v : ℚ). v ≤q cls half_and_part *q cls u) (qring (x₀ ⊗ x₁ ⊗ x₂) (x₀ ⊗ (x₁ ⊗ x₂)) refl (dy 1 74 ∷ ofℕ (2 ^ 24) ∷ cls u ∷ [])) (mul_right (cls u) t small))
  where
    small : dy 1 74 *q ofℕ (2 ^ 24) ≤q cls half_and_part
    small = unfold nn ◌-q◌ ◌+q◌ -q◌ ◌*q◌ ofℕ ofℤ in record { le = tt }

nn_unit : (k : ℤ) → T (nn (cls (unit binary32 (fin false 1 k))))
unfolding unit nn
nn_unit k = tt

pub whole_right : (x y : Float) (k : ℤ) → y ≡ fin false 1 k → T (fits binary32 (fin false 1 k)) → nat_abs k ≤ 200 → val x ≡ ofℤ k → val x ≤q last binary → Right exp2 x y
unfolding norm
whole_right x y k e ft s v h =
    let p = fin false 1 k in
    let W = raise binary k in
    let vp : val p ≡ W = power_value k ∙ power_is k in
    let np : T (nn (val p)) = subst (λ (u : ℚ). T (nn u)) (sym (power_value k)) (nn_power k) in
    subst (λ (u : Float). Right exp2 x u) (sym e)
    (right_finite exp2 x p tt (under binary (value x) (subst (λ (u : ℚ). u ≤q last binary) (val_value x) h)) (λ j. 1000) (λ j n l.
    let r = raised_at binary k s (low binary (from 80 j)) (low_near_root binary j) n l in
    let b : Bound (val p -q sum exp2 (value x) j n) (dy 1 74 *q val p) =
    subst (λ (u : ℚ). Bound (val p -q u) (dy 1 74 *q val p)) (ap (λ (u : ℚ). S (u *q low binary (from 80 j)) n) (sym v) ∙ sym (at_value binary x j n))
    (bound_turn (S (ofℤ k *q low binary (from 80 j)) n) (val p) (subst (λ (u : ℚ). Bound (S (ofℤ k *q low binary (from 80 j)) n -q u) (dy 1 74 *q u)) (sym vp) r.off)) in
    bound_more b (q_trans (q_mul (dy 1 74) (nn_dy 1 74) (subst (λ (u : ℚ). u ≤q ofℕ (2 ^ 24) *q cls (unit binary32 p)) (abs_nn (val p) np) (held_units binary32 p tt ft))) (unit_nums (unit binary32 p) (nn_unit k)))))
  where
    nn_power : (k : ℤ) → T (nn (cls (power k)))
    nn_power k = unfold nn in tt
