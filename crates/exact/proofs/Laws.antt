-- The laws of the exact value: what is said of one value fits together, for all four functions.
use Rattle.std.proofs.Common.{◌≡◌, refl, sym, ap, ap₂, ◌∙◌, subst, [], ◌∷◌, ℕ, suc, ◌*◌, ◌≤◌, zero-lt-suc, le_trans, le_refl, T, pos}
use Rattle.std.proofs.Math.Nat.{le-suc}
use std.Quotient.{cls}
use Rattle.exact.specs.Fraction.{Fraction, whole, plus, times, absolute, difference, ◌≼◌}
use Rattle.exact.proofs.Ring.{con, ◌⊕◌, ◌⊖◌, ◌⊗◌, ⊝, norm}
use Rattle.exact.proofs.Integer.{x₀, x₁, x₂, x₃, x₄, x₅, x₆}
use Rattle.exact.proofs.Rational.{ℚ, is, ◌+q◌, ◌*q◌, -q◌, ◌-q◌, ofℤ, qring, add_commq}
use Rattle.exact.proofs.Order.{nn, nn_add, nn_mul, ◌≤q◌, le_by, q_refl, q_trans, q_add, q_mul}
use Rattle.exact.proofs.Bound.{ofℕ, inv, nn_inv, Bound, bound_more, bound_mul, bound_self, bound_both, mul_right, le_plus}
use Rattle.exact.proofs.Compare.{sum_cls, diff_cls, product_cls, integer_cls, whole_cls, leq_out, below_in, bound_abs, abs_nn, abs_out, not_negative}
use Rattle.exact.specs.Exponential.{Claim, within, at_least, at_most, Allowed, series}
use Rattle.exact.specs.Logarithm.{Base, binary, decimal, lowest, InBracket}
use Rattle.exact.specs.Exact.{OfExp, OfPower, Function, exp, exp2, exp10, expm1, AtLeast, AtMost}
use Rattle.exact.specs.Laws.{Agree, Ordered, Sides, Starts, Tangent, of_base}
use Rattle.exact.proofs.Limit.{over, squeeze, size_of, size_above}
use Rattle.exact.proofs.Series.{S, R, from, from_le}
use Rattle.exact.proofs.Product.{S_nn}
use Rattle.exact.proofs.Sums.{series_cls, far_in}
use Rattle.exact.proofs.Vanish.{Place, vanishes}
use Rattle.exact.proofs.Growth.{S_zero, R_mono, S_tangent, S_steady}
use Rattle.exact.proofs.Logarithm.{low, wide, wide_nn, wide_le, lowest_cls, bracket_in, nested, between}
use Rattle.exact.proofs.Claims.{Loose, allowed_in, allowed_out, carry, carry_power, product_size, six_in}

-- ---- at least r and at most s
-- r is at most s, give or take i for each of: the rest of either sum, and the distance of the sums
gather : (r s u v p q i : ℚ) → r ≤q u +q p → v -q q ≤q s → p ≤q i → q ≤q i → u -q v ≤q i → r ≤q s +q ofℕ 3 *q i
unfolding norm ◌-q◌ ofℕ
gather r s u v p q i h k a b c =
    le_by ((u +q p -q r) +q (s -q (v -q q)) +q (i -q p) +q (i -q q) +q (i -q (u -q v))) (nn_add _ _ (nn_add _ _ (nn_add _ _ (nn_add _ _ h.le k.le) a.le) b.le) c.le)
    (qring (x₁ ⊕ con (pos 3) ⊗ x₆ ⊖ x₀) ((x₂ ⊕ x₄ ⊖ x₀) ⊕ (x₁ ⊖ (x₃ ⊖ x₅)) ⊕ (x₆ ⊖ x₄) ⊕ (x₆ ⊖ x₅) ⊕ (x₆ ⊖ (x₂ ⊖ x₃))) refl (r ∷ s ∷ u ∷ v ∷ p ∷ q ∷ i ∷ []))

itself : (u i : ℚ) → T (nn i) → u -q u ≤q i
unfolding norm ◌-q◌
itself u i t = le_by i t (qring (x₁ ⊖ (x₀ ⊖ x₀)) x₁ refl (u ∷ i ∷ []))

ordered_exp : (t r s : Fraction) → OfExp t (at_least r) → OfExp t (at_most s) → cls r ≤q cls s
ordered_exp t r s h k = squeeze 3 (cls r) (cls s) (λ d.
    let p = vanishes (absolute t) (abs_nn t) d in
    let n = p.start in
    let far = far_in t n p.far in
    let small = p.small n (le_refl n) in
    let u = S (cls t) n in
    gather (cls r) (cls s) u u _ _ (inv d) (allowed_out (at_least r) t n (h n far)) (allowed_out (at_most s) t n (k n far)) small small (itself u (inv d) (nn_inv d)))

-- two fractions of one bracket are no further apart than it is wide
spread : (b : Base) (m : ℕ) (l l' : Fraction) → InBracket b m l → InBracket b m l' → Bound (cls l -q cls l') (wide b m)
unfolding norm ◌-q◌
spread b m l l' i i' =
    let k = bracket_in b m l i in
    let k' = bracket_in b m l' i' in
    let lo = low b m in
    let w = wide b m in
    bound_both (cls l) (cls l') w
    (q_trans k.1 (q_add k'.0 (q_refl w)))
    (le_by ((lo +q w -q cls l') +q (cls l -q lo)) (nn_add _ _ k'.1.le k.0.le) (qring (x₀ ⊖ (x₁ ⊖ x₃)) ((x₂ ⊕ x₃ ⊖ x₁) ⊕ (x₀ ⊖ x₂)) refl (cls l ∷ cls l' ∷ lo ∷ w ∷ [])))

-- so the sums at two such fractions are near each other
close_sums : (b : Base) (x l l' : Fraction) (m n : ℕ) → 1 ≤ m → InBracket b m l → InBracket b m l' → (A : ℚ) → cls (absolute x) *q ofℕ 3 ≤q A
    → S (cls (times x l)) n -q S (cls (times x l')) n ≤q cls (absolute x) *q wide b m *q S A n
unfolding norm ◌-q◌
close_sums b x l l' m n one i i' A h =
    let X = cls (absolute x) in
    (S_steady (cls (times x l)) (cls (times x l')) A (X *q wide b m)
    (bound_more (bound_abs (times x l)) (q_trans (product_size b x l m one i) h)) (bound_more (bound_abs (times x l')) (q_trans (product_size b x l' m one i') h))
    (subst (λ (u : ℚ). Bound u (X *q wide b m)) (qring (x₀ ⊗ (x₁ ⊖ x₂)) (x₀ ⊗ x₁ ⊖ x₀ ⊗ x₂) refl (cls x ∷ cls l ∷ cls l' ∷ []) ∙ ap₂ (λ (u v : ℚ). u -q v) (sym (product_cls x l)) (sym (product_cls x l')))
    (bound_mul (bound_abs x) (spread b m l l' i i'))) n).hi

-- a bracket so narrow that they are within 1 / (d + 1)
narrow : (b : Base) (X Y : ℚ) (v : Fraction) (d : ℕ) → T (nn X) → T (nn Y) → X *q ofℕ 4 *q Y ≡ cls v → X *q wide b (suc (size_of v * suc d)) *q Y ≤q inv d
unfolding norm
narrow b X Y v d nX nY e =
    let K = size_of v in
    let m = suc (K * suc d) in
    q_trans (mul_right Y nY (q_mul X nX (wide_le b m)))
    (subst (λ (u : ℚ). u ≤q inv d) (ap (λ (u : ℚ). u *q inv m) (sym e) ∙ qring (x₀ ⊗ x₁ ⊗ x₃ ⊗ x₂) (x₀ ⊗ (x₁ ⊗ x₂) ⊗ x₃) refl (X ∷ ofℕ 4 ∷ inv m ∷ Y ∷ []))
    (q_trans (mul_right (inv m) (nn_inv m) (size_above v)) (over K m d (le_trans (le-suc (K * suc d)) (le-suc m)))))

ordered_power : (b : Base) (x r s : Fraction) → OfPower b x (at_least r) → OfPower b x (at_most s) → cls r ≤q cls s
ordered_power b x r s h k = squeeze 3 (cls r) (cls s) go
  where
    w : Fraction
    w = times (absolute x) (whole 3)

    X : ℚ
    X = cls (absolute x)

    e_a : X *q ofℕ 3 ≡ cls w
    e_a = ap (λ (u : ℚ). X *q u) (sym (whole_cls 3)) ∙ sym (product_cls (absolute x) (whole 3))

    nw : T (nn (cls w))
    nw = abs_nn w

    at_most_w : (u : ℚ) → u ≤q X *q ofℕ 3 → u ≤q cls w
    at_most_w u g = subst (λ (v : ℚ). u ≤q v) e_a g

    go : (d : ℕ) → cls r ≤q cls s +q ofℕ 3 *q inv d
    go d = meet (h m n one six) (k m n one six)
      where
        p : Place (cls w) d
        p = vanishes w nw d

        n : ℕ
        n = p.start

        v : Fraction
        v = times (times (absolute x) (whole 4)) (series w n)

        m : ℕ
        m = suc (size_of v * suc d)

        one : 1 ≤ m
        one = zero-lt-suc (size_of v * suc d)

        six : times (whole 6) (absolute x) ≼ whole n
        six = six_in x n (subst (λ (u : ℚ). u +q u ≤q ofℕ n) (sym e_a) p.far)

        ev : X *q ofℕ 4 *q S (cls w) n ≡ cls v
        ev = sym (product_cls (times (absolute x) (whole 4)) (series w n) ∙ ap₂ (λ (u y : ℚ). u *q y) (product_cls (absolute x) (whole 4) ∙ ap (λ (u : ℚ). X *q u) (whole_cls 4)) (series_cls w n))

        rest_small : (l : Fraction) → InBracket b m l → R (cls (absolute (times x l))) n ≤q inv d
        rest_small l i = q_trans (R_mono (cls (absolute (times x l))) (cls w) (abs_nn (times x l)) (at_most_w (cls (absolute (times x l))) (product_size b x l m one i)) n) (p.small n (le_refl n))

        meet : (l : Fraction) × InBracket b m l × Allowed (at_least r) (times x l) n → (l : Fraction) × InBracket b m l × Allowed (at_most s) (times x l) n → cls r ≤q cls s +q ofℕ 3 *q inv d
        meet f g =
            gather (cls r) (cls s) (S (cls (times x f.0)) n) (S (cls (times x g.0)) n) (R (cls (absolute (times x f.0))) n) (R (cls (absolute (times x g.0))) n) (inv d)
            (allowed_out (at_least r) (times x f.0) n f.2) (allowed_out (at_most s) (times x g.0) n g.2) (rest_small f.0 f.1) (rest_small g.0 g.1)
            (q_trans (close_sums b x f.0 g.0 m n one f.1 g.1 (cls w) (at_most_w (X *q ofℕ 3) (q_refl (X *q ofℕ 3)))) (narrow b X (S (cls w) n) v d (abs_nn x) (S_nn (cls w) nw n) ev))

cancel : (r s : Fraction) → cls (plus r (whole 1)) ≤q cls (plus s (whole 1)) → cls r ≤q cls s
unfolding norm ◌-q◌
cancel r s h =
    let o = cls (whole 1) in
    let k : cls r +q o ≤q cls s +q o = subst (λ (u : ℚ). u ≤q cls s +q o) (sum_cls r (whole 1)) (subst (λ (u : ℚ). cls (plus r (whole 1)) ≤q u) (sum_cls s (whole 1)) h) in
    le_by (cls s +q o -q (cls r +q o)) k.le (qring (x₁ ⊖ x₀) (x₁ ⊕ x₂ ⊖ (x₀ ⊕ x₂)) refl (cls r ∷ cls s ∷ o ∷ []))

ordered_q : (f : Function) (x r s : Fraction) → AtLeast f x r → AtMost f x s → cls r ≤q cls s
ordered_q exp x r s h k = ordered_exp x r s h k
ordered_q exp2 x r s h k = ordered_power binary x r s h k
ordered_q exp10 x r s h k = ordered_power decimal x r s h k
ordered_q expm1 x r s h k = cancel r s (ordered_exp x (plus r (whole 1)) (plus s (whole 1)) h k)

pub ordered : Ordered
ordered f x r s h k = record { le = leq_out r s (ordered_q f x r s h k) }

-- ---- within d of y
-- what one claim says of a number, another says too
abbrev Implies : Claim → Claim → Type 0
Implies c c' = (s e : ℚ) → Loose c s e → Loose c' s e

lower : (y d r : Fraction) → cls r ≡ cls y -q cls d → Implies (within y d) (at_least r)
unfolding norm ◌-q◌
lower y d r h s e b =
    subst (λ (u : ℚ). u ≤q s +q e) (sym h)
    (le_by (cls d +q e -q (cls y -q s)) b.hi.le (qring (x₂ ⊕ x₃ ⊖ (x₀ ⊖ x₁)) (x₁ ⊕ x₃ ⊖ (x₀ ⊖ x₂)) refl (cls y ∷ cls d ∷ s ∷ e ∷ [])))

upper : (y d r : Fraction) → cls r ≡ cls y +q cls d → Implies (within y d) (at_most r)
unfolding norm ◌-q◌
upper y d r h s e b =
    subst (λ (u : ℚ). s -q e ≤q u) (sym h)
    (le_by (cls y -q s -q (-q◌ (cls d +q e))) b.lo.le (qring (x₀ ⊕ x₁ ⊖ (x₂ ⊖ x₃)) (x₀ ⊖ x₂ ⊖ ⊝ (x₁ ⊕ x₃)) refl (cls y ∷ cls d ∷ s ∷ e ∷ [])))

pub weaken : (c c' : Claim) → Implies c c' → (t : Fraction) → OfExp t c → OfExp t c'
weaken c c' i t h n far = allowed_in c' t n (i (S (cls t) n) (R (cls (absolute t)) n) (allowed_out c t n (h n far)))

pub weaken_power : (c c' : Claim) → Implies c c' → (b : Base) (x : Fraction) → OfPower b x c → OfPower b x c'
weaken_power c c' i b x h m n one six = let f = h m n one six in let t = times x f.0 in (f.0, f.1, allowed_in c' t n (i (S (cls t) n) (R (cls (absolute t)) n) (allowed_out c t n f.2)))

less_up : (y d : Fraction) → cls (plus (difference y d) (whole 1)) ≡ cls (plus y (whole 1)) -q cls d
unfolding norm ◌-q◌
less_up y d = sum_cls (difference y d) (whole 1) ∙ ap (λ (u : ℚ). u +q cls (whole 1)) (diff_cls y d) ∙ qring (x₀ ⊖ x₁ ⊕ x₂) (x₀ ⊕ x₂ ⊖ x₁) refl (cls y ∷ cls d ∷ cls (whole 1) ∷ []) ∙ ap (λ (u : ℚ). u -q cls d) (sym (sum_cls y (whole 1)))

more_up : (y d : Fraction) → cls (plus (plus y d) (whole 1)) ≡ cls (plus y (whole 1)) +q cls d
unfolding norm
more_up y d = sum_cls (plus y d) (whole 1) ∙ ap (λ (u : ℚ). u +q cls (whole 1)) (sum_cls y d) ∙ qring (x₀ ⊕ x₁ ⊕ x₂) (x₀ ⊕ x₂ ⊕ x₁) refl (cls y ∷ cls d ∷ cls (whole 1) ∷ []) ∙ ap (λ (u : ℚ). u +q cls d) (sym (sum_cls y (whole 1)))

pub sides : Sides
sides exp x y d h = (weaken (within y d) (at_least (difference y d)) (lower y d (difference y d) (diff_cls y d)) x h, weaken (within y d) (at_most (plus y d)) (upper y d (plus y d) (sum_cls y d)) x h)
sides exp2 x y d h = (weaken_power (within y d) (at_least (difference y d)) (lower y d (difference y d) (diff_cls y d)) binary x h, weaken_power (within y d) (at_most (plus y d)) (upper y d (plus y d) (sum_cls y d)) binary x h)
sides exp10 x y d h = (weaken_power (within y d) (at_least (difference y d)) (lower y d (difference y d) (diff_cls y d)) decimal x h, weaken_power (within y d) (at_most (plus y d)) (upper y d (plus y d) (sum_cls y d)) decimal x h)
sides expm1 x y d h = (
  weaken (within (plus y (whole 1)) d) (at_least (plus (difference y d) (whole 1))) (lower (plus y (whole 1)) d (plus (difference y d) (whole 1)) (less_up y d)) x h,
  weaken (within (plus y (whole 1)) d) (at_most (plus (plus y d) (whole 1))) (upper (plus y (whole 1)) d (plus (plus y d) (whole 1)) (more_up y d)) x h,
)

pub agree : Agree
unfolding norm ◌-q◌
agree f x y d y' d' h h' =
    let a = sides f x y d h in
    let a' = sides f x y' d' h' in
    let lo : cls y -q cls d ≤q cls y' +q cls d' = below_in {a = difference y d} {b = plus y' d'} (diff_cls y d) (sum_cls y' d') (ordered f x (difference y d) (plus y' d') a.0 a'.1) in
    let hi : cls y' -q cls d' ≤q cls y +q cls d = below_in {a = difference y' d'} {b = plus y d} (diff_cls y' d') (sum_cls y d) (ordered f x (difference y' d') (plus y d) a'.0 a.1) in
    let ρ = cls y ∷ cls d ∷ cls y' ∷ cls d' ∷ [] in
    abs_out (difference y y') (plus d d')
    (subst (λ (u : ℚ). Bound (cls (difference y y')) u) (sym (sum_cls d d')) (subst (λ (u : ℚ). Bound u (cls d +q cls d')) (sym (diff_cls y y'))
    (bound_both (cls y) (cls y') (cls d +q cls d')
    (le_by (cls y' +q cls d' -q (cls y -q cls d)) lo.le (qring (x₂ ⊕ (x₁ ⊕ x₃) ⊖ x₀) (x₂ ⊕ x₃ ⊖ (x₀ ⊖ x₁)) refl ρ))
    (le_by (cls y +q cls d -q (cls y' -q cls d')) hi.le (qring (x₀ ⊖ (x₂ ⊖ (x₁ ⊕ x₃))) (x₀ ⊕ x₁ ⊖ (x₂ ⊖ x₃)) refl ρ)))))

-- ---- at 0
zero_sum : (t : ℚ) → t ≡ ofℤ (pos 0) → (n : ℕ) → Bound (cls (whole 1) -q S t n) (cls (whole 0))
unfolding norm ◌-q◌
zero_sum t e n =
    subst (λ (u : ℚ). Bound (cls (whole 1) -q S u n) (cls (whole 0))) (sym e)
    (subst (λ (u : ℚ). Bound (cls (whole 1) -q u) (cls (whole 0))) (whole_cls 1 ∙ sym (S_zero n))
    (subst (λ (u : ℚ). Bound u (cls (whole 0))) (integer_cls (pos 0) ∙ qring (con (pos 0)) (x₀ ⊖ x₀) refl (cls (whole 1) ∷ [])) (bound_self (abs_nn (whole 0)))))

zero_times : (l : ℚ) → cls (whole 0) *q l ≡ ofℤ (pos 0)
unfolding norm
zero_times l = ap (λ (u : ℚ). u *q l) (integer_cls (pos 0)) ∙ qring (con (pos 0) ⊗ x₀) (con (pos 0)) refl (l ∷ [])

pub starts : Starts
starts exp = carry (within (whole 1) (whole 0)) (whole 0) 0 (λ n h. zero_sum (cls (whole 0)) (integer_cls (pos 0)) n)
starts exp2 = carry_power binary (within (whole 1) (whole 0)) (whole 0) 1 (λ _. 0) (λ j n h. zero_sum (cls (whole 0) *q low binary (from 1 j)) (zero_times (low binary (from 1 j))) n)
starts exp10 = carry_power decimal (within (whole 1) (whole 0)) (whole 0) 1 (λ _. 0) (λ j n h. zero_sum (cls (whole 0) *q low decimal (from 1 j)) (zero_times (low decimal (from 1 j))) n)
starts expm1 = carry (within (plus (whole 0) (whole 1)) (whole 0)) (whole 0) 0 (λ n h. subst (λ (u : ℚ). Bound (u -q S (cls (whole 0)) n) (cls (whole 0))) zero_one (zero_sum (cls (whole 0)) (integer_cls (pos 0)) n))
  where
    zero_one : ◌≡◌ {A = ℚ} (cls (whole 1)) (cls (plus (whole 0) (whole 1)))
    zero_one = is refl

-- ---- above the tangent at 0
pub tangent : Tangent
tangent x h = (
  carry (at_least (plus (whole 1) x)) x 1 (λ n k. subst (λ (u : ℚ). u ≤q S (cls x) n) (one_plus x) (S_tangent (cls x) (not_negative x h) n k)),
  carry (at_least (plus x (whole 1))) x 1 (λ n k. subst (λ (u : ℚ). u ≤q S (cls x) n) (plus_one x) (S_tangent (cls x) (not_negative x h) n k)),
  based,
)
  where
    nx : T (nn (cls x))
    nx = not_negative x h

    one_plus : (x : Fraction) → ofℕ 1 +q cls x ≡ cls (plus (whole 1) x)
    one_plus x = ap (λ (u : ℚ). u +q cls x) (sym (whole_cls 1)) ∙ sym (sum_cls (whole 1) x)

    plus_one : (x : Fraction) → ofℕ 1 +q cls x ≡ cls (plus x (whole 1))
    plus_one x = ap (λ (u : ℚ). u +q cls x) (sym (whole_cls 1)) ∙ add_commq (cls (whole 1)) (cls x) ∙ sym (sum_cls x (whole 1))

    power : (b : Base) (m j n : ℕ) → 1 ≤ n → cls (plus (whole 1) (times x (lowest b m))) ≤q S (cls x *q low b (from (suc m) j)) n
    power b m j n k =
        let l = low b (from (suc m) j) in
        let up : low b m ≤q l = q_trans (nested b m 1).0 (nested b (suc m) j).0 in
        let nl : T (nn l) = (between b (from (suc m) j) (le_trans (zero-lt-suc m) (from_le (suc m) j)) l (q_refl l) (le_plus l (wide b (from (suc m) j)) (wide_nn b (from (suc m) j)))).0 in
        subst (λ (u : ℚ). u ≤q S (cls x *q l) n) (one_plus (times x (lowest b m)))
        (q_trans (q_add (q_refl (ofℕ 1)) (subst (λ (u : ℚ). u ≤q cls x *q l) (ap (λ (u : ℚ). cls x *q u) (sym (lowest_cls b m)) ∙ sym (product_cls x (lowest b m))) (q_mul (cls x) nx up)))
        (S_tangent (cls x *q l) (nn_mul (cls x) l nx nl) n k))

    based : (b : Base) (m : ℕ) → AtLeast (of_base b) x (plus (whole 1) (times x (lowest b m)))
    based binary m = carry_power binary (at_least (plus (whole 1) (times x (lowest binary m)))) x (suc m) (λ _. 1) (power binary m)
    based decimal m = carry_power decimal (at_least (plus (whole 1) (times x (lowest decimal m)))) x (suc m) (λ _. 1) (power decimal m)
