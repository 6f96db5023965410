-- From sums to claims: what every sum from some place on says firmly holds of e ^ t, and of 2 ^ x and 10 ^ x; and one sum may decide.
use Rattle.std.proofs.Common.{◌≡◌, refl, sym, ap, ap₂, ◌∙◌, subst, [], ◌∷◌, ℕ, ◌≤◌, T, pos}
use std.Quotient.{cls}
use Rattle.exact.specs.Fraction.{Fraction, whole, plus, times, absolute, difference, apart, ◌≼◌}
use Rattle.exact.proofs.Ring.{con, ◌⊕◌, ◌⊖◌, ◌⊗◌, norm}
use Rattle.exact.proofs.Integer.{x₀, x₁, x₂}
use Rattle.exact.proofs.Rational.{ℚ, ◌+q◌, ◌*q◌, -q◌, ◌-q◌, qring}
use Rattle.exact.proofs.Order.{nn, nn_mul, ◌≤q◌, le_by, q_refl, q_trans, q_add}
use Rattle.exact.proofs.Bound.{ofℕ, Bound, bound_more, bound_mul, bound_self, bound_turn, bound_via, bound_above, bound_below, mul_right}
use Rattle.exact.proofs.Compare.{sum_cls, diff_cls, product_cls, integer_cls, whole_cls, below_in, below_out, bound_abs, abs_out, abs_in, abs_least}
use Rattle.exact.proofs.Growth.{S_mono}
use Rattle.exact.specs.Exponential.{Claim, within, at_least, at_most, series, rest, Far, Allowed}
use Rattle.exact.specs.Logarithm.{Base, binary, decimal, lowest, InBracket}
use Rattle.exact.specs.Exact.{OfExp, OfPower, raised, Function, exp, exp2, exp10, expm1, Exact}
use Rattle.exact.proofs.Series.{S, R, from, reach, from_comm, later, tail}
use Rattle.exact.proofs.Sums.{series_cls, rest_cls, far_out, far_in}
use Rattle.exact.proofs.Logarithm.{low, lowest_cls, bracket_in, later_in, low_nn, between}

-- the claim about the number s itself, and give or take e
abbrev pub Firm : Claim → ℚ → Type 0
Firm (within y d) s = Bound (cls y -q s) (cls d)
Firm (at_least r) s = cls r ≤q s
Firm (at_most r) s = s ≤q cls r

abbrev pub Loose : Claim → ℚ → ℚ → Type 0
Loose (within y d) s e = Bound (cls y -q s) (cls d +q e)
Loose (at_least r) s e = cls r ≤q s +q e
Loose (at_most r) s e = s -q e ≤q cls r

pub loosen : (c : Claim) (s s' e : ℚ) → Firm c s → Bound (s -q s') e → Loose c s' e
loosen (within y d) s s' e f b = bound_via (cls y) s s' f b
loosen (at_least r) s s' e f b = q_trans f (bound_above s s' e b)
loosen (at_most r) s s' e f b = q_trans (bound_below s s' e b) f

-- ---- what a sum allows
sum_rest : (t : Fraction) (n : ℕ) → cls (plus (series t n) (rest t n)) ≡ S (cls t) n +q R (cls (absolute t)) n
sum_rest t n = sum_cls (series t n) (rest t n) ∙ ap₂ (λ (x y : ℚ). x +q y) (series_cls t n) (rest_cls t n)

less_rest : (t : Fraction) (n : ℕ) → cls (difference (series t n) (rest t n)) ≡ S (cls t) n -q R (cls (absolute t)) n
less_rest t n = diff_cls (series t n) (rest t n) ∙ ap₂ (λ (x y : ℚ). x -q y) (series_cls t n) (rest_cls t n)

off_sum : (y t : Fraction) (n : ℕ) → cls (difference y (series t n)) ≡ cls y -q S (cls t) n
off_sum y t n = diff_cls y (series t n) ∙ ap (λ (x : ℚ). cls y -q x) (series_cls t n)

with_rest : (d t : Fraction) (n : ℕ) → cls (plus d (rest t n)) ≡ cls d +q R (cls (absolute t)) n
with_rest d t n = sum_cls d (rest t n) ∙ ap (λ (x : ℚ). cls d +q x) (rest_cls t n)

pub allowed_in : (c : Claim) (t : Fraction) (n : ℕ) → Loose c (S (cls t) n) (R (cls (absolute t)) n) → Allowed c t n
allowed_in (within y d) t n h =
    abs_out (difference y (series t n)) (plus d (rest t n))
    (subst (λ (x : ℚ). Bound x (cls (plus d (rest t n)))) (sym (off_sum y t n)) (subst (λ (x : ℚ). Bound (cls y -q S (cls t) n) x) (sym (with_rest d t n)) h))
allowed_in (at_least r) t n h = below_out r (plus (series t n) (rest t n)) refl (sum_rest t n) h
allowed_in (at_most r) t n h = below_out (difference (series t n) (rest t n)) r (less_rest t n) refl h

pub allowed_out : (c : Claim) (t : Fraction) (n : ℕ) → Allowed c t n → Loose c (S (cls t) n) (R (cls (absolute t)) n)
allowed_out (within y d) t n h =
    subst (λ (x : ℚ). Bound (cls y -q S (cls t) n) x) (with_rest d t n)
    (subst (λ (x : ℚ). Bound x (cls (plus d (rest t n)))) (off_sum y t n) (abs_in (difference y (series t n)) (plus d (rest t n)) h))
allowed_out (at_least r) t n h = below_in {a = r} {b = plus (series t n) (rest t n)} refl (sum_rest t n) h
allowed_out (at_most r) t n h = below_in {a = difference (series t n) (rest t n)} {b = r} (less_rest t n) refl h

-- ---- e ^ t
-- what every sum from n₀ on says holds of e ^ t
pub carry : (c : Claim) (t : Fraction) (n₀ : ℕ) → ((n : ℕ) → n₀ ≤ n → Firm c (S (cls t) n)) → OfExp t c
carry c t n₀ h n far =
    let m = from n n₀ in
    allowed_in c t n (loosen c (S (cls t) m) (S (cls t) n) (R (cls (absolute t)) n) (h m (reach n n₀)) (tail (cls t) (cls (absolute t)) (bound_abs t) n (far_out t n far) n₀))

-- one sum with room for its rest decides
pub one_decides : (y d t : Fraction) (n : ℕ) → Far t n → plus (apart y (series t n)) (rest t n) ≼ d → OfExp t (within y d)
one_decides y d t n far h =
    let A = cls (absolute t) in
    let w = difference y (series t n) in
    let room : cls (absolute w) +q R A n ≤q cls d = below_in {a = plus (absolute w) (rest t n)} {b = d} (with_rest (absolute w) t n) refl h in
    let b : Bound (cls y -q S (cls t) n) (cls (absolute w)) = subst (λ (x : ℚ). Bound x (cls (absolute w))) (off_sum y t n) (bound_abs w) in
    carry (within y d) t n
    (later (λ k. Bound (cls y -q S (cls t) k) (cls d)) n
    (λ j. bound_more (bound_via (cls y) (S (cls t) n) (S (cls t) (from n j)) b (bound_turn (S (cls t) (from n j)) (S (cls t) n) (tail (cls t) A (bound_abs t) n (far_out t n far) j))) room))

-- ---- 2 ^ x and 10 ^ x
-- |x l| is at most 3 |x|
three : (x : Fraction) → cls (times (absolute x) (whole 3)) ≡ cls (absolute x) *q ofℕ 3
three x = product_cls (absolute x) (whole 3) ∙ ap (λ (u : ℚ). cls (absolute x) *q u) (whole_cls 3)

pub product_size : (b : Base) (x l : Fraction) (m : ℕ) → 1 ≤ m → InBracket b m l → cls (absolute (times x l)) ≤q cls (absolute x) *q ofℕ 3
product_size b x l m h i =
    let k = bracket_in b m l i in
    let u = between b m h (cls l) k.0 k.1 in
    subst (λ (v : ℚ). cls (absolute (times x l)) ≤q v) (three x)
    (abs_least (times x l) (times (absolute x) (whole 3))
    (subst (λ (v : ℚ). Bound v (cls (times (absolute x) (whole 3)))) (sym (product_cls x l)) (subst (λ (v : ℚ). Bound (cls x *q cls l) v) (sym (three x)) (bound_mul (bound_abs x) (bound_more (bound_self u.0) u.1)))))

-- n is at least 6 |x|
pub six_out : (x : Fraction) (n : ℕ) → times (whole 6) (absolute x) ≼ whole n → cls (absolute x) *q ofℕ 3 +q cls (absolute x) *q ofℕ 3 ≤q ofℕ n
unfolding norm ofℕ
six_out x n h =
    subst (λ (u : ℚ). u ≤q ofℕ n) (qring (con (pos 6) ⊗ x₀) (x₀ ⊗ con (pos 3) ⊕ x₀ ⊗ con (pos 3)) refl (cls (absolute x) ∷ []))
    (below_in {a = times (whole 6) (absolute x)} {b = whole n} (product_cls (whole 6) (absolute x) ∙ ap (λ (u : ℚ). u *q cls (absolute x)) (integer_cls (pos 6))) (whole_cls n) h)

pub six_in : (x : Fraction) (n : ℕ) → cls (absolute x) *q ofℕ 3 +q cls (absolute x) *q ofℕ 3 ≤q ofℕ n → times (whole 6) (absolute x) ≼ whole n
unfolding norm ofℕ
six_in x n h =
    below_out (times (whole 6) (absolute x)) (whole n) (product_cls (whole 6) (absolute x) ∙ ap (λ (u : ℚ). u *q cls (absolute x)) (integer_cls (pos 6))) (whole_cls n)
    (subst (λ (u : ℚ). u ≤q ofℕ n) (qring (x₀ ⊗ con (pos 3) ⊕ x₀ ⊗ con (pos 3)) (con (pos 6) ⊗ x₀) refl (cls (absolute x) ∷ [])) h)

pub six_far : (b : Base) (x l : Fraction) (m n : ℕ) → 1 ≤ m → InBracket b m l → times (whole 6) (absolute x) ≼ whole n → Far (times x l) n
six_far b x l m n h i k = let z = product_size b x l m h i in far_in (times x l) n (q_trans (q_add z z) (six_out x n k))

-- what the sums from n₀ j on say at the lower end of each bracket k + j holds of the power
pub carry_power : (b : Base) (c : Claim) (x : Fraction) (k : ℕ) (n₀ : ℕ → ℕ) → ((j n : ℕ) → n₀ j ≤ n → Firm c (S (cls x *q low b (from k j)) n)) → OfPower b x c
carry_power b c x k n₀ h m n one six =
    let l = lowest b (from m k) in
    let i = later_in b m k in
    let e : cls x *q low b (from k m) ≡ cls (times x l) = ap (λ (v : ℕ). cls x *q low b v) (from_comm k m) ∙ ap (λ (u : ℚ). cls x *q u) (sym (lowest_cls b (from m k))) ∙ sym (product_cls x l) in
    (l, i, carry c (times x l) (n₀ m) (λ v g. subst (λ (u : ℚ). Firm c (S u v)) e (h m v g)) n (six_far b x l m n one i six))

-- ---- all four functions at once
-- the n-th sum for f at x, at the lower end of the bracket 80 + j where f has a base
abbrev pub value : Function → ℚ → ℕ → ℕ → ℚ
value exp x j n = S x n
value exp2 x j n = S (x *q low binary (from 80 j)) n
value exp10 x j n = S (x *q low decimal (from 80 j)) n
value expm1 x j n = S x n -q ofℕ 1

up_one : (y : Fraction) → cls (plus y (whole 1)) ≡ cls y +q ofℕ 1
up_one y = sum_cls y (whole 1) ∙ ap (λ (u : ℚ). cls y +q u) (whole_cls 1)

raise_firm : (c : Claim) (s : ℚ) → Firm c (s -q ofℕ 1) → Firm (raised c) s
unfolding norm ◌-q◌
raise_firm (within y d) s h = subst (λ (u : ℚ). Bound u (cls d)) (qring (x₀ ⊖ (x₁ ⊖ x₂)) (x₀ ⊕ x₂ ⊖ x₁) refl (cls y ∷ s ∷ ofℕ 1 ∷ []) ∙ ap (λ (u : ℚ). u -q s) (sym (up_one y))) h
raise_firm (at_least r) s h = subst (λ (u : ℚ). u ≤q s) (sym (up_one r)) (le_by (s -q ofℕ 1 -q cls r) h.le (qring (x₀ ⊖ (x₁ ⊕ x₂)) (x₀ ⊖ x₂ ⊖ x₁) refl (s ∷ cls r ∷ ofℕ 1 ∷ [])))
raise_firm (at_most r) s h = subst (λ (u : ℚ). s ≤q u) (sym (up_one r)) (le_by (cls r -q (s -q ofℕ 1)) h.le (qring (x₁ ⊕ x₂ ⊖ x₀) (x₁ ⊖ (x₀ ⊖ x₂)) refl (s ∷ cls r ∷ ofℕ 1 ∷ [])))

-- what these sums say from some place on holds of the exact value of f at x
pub holds : (f : Function) (c : Claim) (x : Fraction) (n₀ : ℕ → ℕ) → ((j n : ℕ) → n₀ j ≤ n → Firm c (value f (cls x) j n)) → Exact f x c
holds exp c x n₀ h = carry c x (n₀ 0) (h 0)
holds exp2 c x n₀ h = carry_power binary c x 80 n₀ h
holds exp10 c x n₀ h = carry_power decimal c x 80 n₀ h
holds expm1 c x n₀ h = carry (raised c) x (n₀ 0) (λ n k. raise_firm c (S (cls x) n) (h 0 n k))

-- from 0 up, they grow with x
power_mono : (b : Base) (x x' : ℚ) → T (nn x) → x ≤q x' → (j n : ℕ) → S (x *q low b (from 80 j)) n ≤q S (x' *q low b (from 80 j)) n
power_mono b x x' t h j n =
    let l = low b (from 80 j) in
    (S_mono (x *q l) (x' *q l) (nn_mul x l t (low_nn b j)) (mul_right l (low_nn b j) h) n).1

pub value_mono : (f : Function) (x x' : ℚ) → T (nn x) → x ≤q x' → (j n : ℕ) → value f x j n ≤q value f x' j n
unfolding ◌-q◌
value_mono exp x x' t h j n = (S_mono x x' t h n).1
value_mono exp2 x x' t h j n = power_mono binary x x' t h j n
value_mono exp10 x x' t h j n = power_mono decimal x x' t h j n
value_mono expm1 x x' t h j n = q_add (S_mono x x' t h n).1 (q_refl (-q◌ (ofℕ 1)))
