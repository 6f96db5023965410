-- The theorems on sums and brackets, said over fractions as the definitions have them.
use Rattle.std.proofs.Common.{◌≡◌, refl, sym, ap, ap₂, ◌∙◌, subst, ℕ, suc, ◌-◌, ◌≤◌, T, lit≤, ℤ, pos, negsuc, nat_abs}
use std.Quotient.{cls}
use Rattle.exact.specs.Fraction.{Fraction, integer, whole, part, plus, times, opposite, absolute, difference}
use Rattle.exact.proofs.Rational.{ℚ, ◌+q◌, ◌*q◌, -q◌, ◌-q◌, ofℤ}
use Rattle.exact.proofs.Order.{nn, nn_add, ◌≤q◌, q_trans}
use Rattle.exact.proofs.Bound.{ofℕ, nn_le, le_nn, Bound, bound_turn}
use Rattle.exact.proofs.Compare.{sum_cls, diff_cls, product_cls, neg_cls, integer_cls, whole_cls, part_cls, leq_in, below_in, below_out, bound_abs, abs_nn, abs_is, not_negative, own_size, dy, nn_dy, dy_mono}
use Rattle.exact.specs.Exponential.{series, rest, within}
use Rattle.exact.specs.Logarithm.{power, Base, binary, decimal, radix, lowest, width}
use Rattle.exact.specs.Exact.{OfPower}
use Rattle.exact.specs.Laws.{Tail, Product, Vanishes, Grows, Inverse, Decides, Nested, power_of_whole, furthest, Powers}
use Rattle.exact.proofs.Limit.{some_part}
use Rattle.exact.proofs.Series.{S, R, from, later}
use Rattle.exact.proofs.Series as Sum
use Rattle.exact.proofs.Product.{mult}
use Rattle.exact.proofs.Sums.{series_cls, rest_cls, far_out}
use Rattle.exact.proofs.Vanish.{vanishes}
use Rattle.exact.proofs.Growth.{S_mono}
use Rattle.exact.proofs.Negative.{S_below}
use Rattle.exact.proofs.Logarithm as Log
use Rattle.exact.proofs.Logarithm.{low, wide, pow, power_cls, lowest_cls, low_near_root}
use Rattle.exact.proofs.Claims.{one_decides, carry_power}
use Rattle.exact.proofs.Relative.{rel_more}
use Rattle.exact.proofs.Powers.{raise, raised, raised_at, most, pow_half}

pub tail : Tail
tail t n k far h =
    abs_is (difference (series t k) (series t n)) (rest t n) (diff_cls (series t k) (series t n) ∙ ap₂ (λ (x y : ℚ). x -q y) (series_cls t k) (series_cls t n)) (rest_cls t n)
    (later (λ m. Bound (S (cls t) m -q S (cls t) n) (R (cls (absolute t)) n)) n (Sum.tail (cls t) (cls (absolute t)) (bound_abs t) n (far_out t n far)) k h)

-- |a| + |b| is its own absolute value
sizes : (a b : Fraction) → cls (absolute (plus (absolute a) (absolute b))) ≡ cls (absolute a) +q cls (absolute b)
sizes a b = sum_cls (absolute a) (absolute b)

pub product : Product
product a b n far =
    let A = cls (absolute a) in
    let B = cls (absolute b) in
    let w = plus (absolute a) (absolute b) in
    abs_is (difference (times (series a n) (series b n)) (series (plus a b) n)) (rest w n)
    (diff_cls (times (series a n) (series b n)) (series (plus a b) n) ∙ ap₂ (λ (x y : ℚ). x -q y) (product_cls (series a n) (series b n) ∙ ap₂ (λ (x y : ℚ). x *q y) (series_cls a n) (series_cls b n)) (series_cls (plus a b) n ∙ ap (λ (x : ℚ). S x n) (sum_cls a b)))
    (rest_cls w n ∙ ap (λ (x : ℚ). R x n) (sizes a b))
    (mult (cls a) (cls b) A B (bound_abs a) (bound_abs b) n (subst (λ (x : ℚ). x +q x ≤q ofℕ n) (sizes a b) (far_out w n far)))

pub vanish : Vanishes
vanish t e h =
    let p = vanishes (absolute t) (abs_nn t) e.den in
    (p.start, λ n k. below_out (rest t n) e (rest_cls t n) refl (q_trans (p.small n k) (some_part e h)))

pub grows : Grows
grows a b n h k = below_out (series a n) (series b n) (series_cls a n) (series_cls b n) (S_mono (cls a) (cls b) (not_negative a h) (leq_in a b k.le) n).1

pub inverse : Inverse
inverse t c n h hc k far =
    let A = cls t in
    let n_a = not_negative t h in
    let e_a : cls (absolute (plus t t)) ≡ A +q A = own_size (plus t t) (subst (λ (x : ℚ). T (nn x)) (sym (sum_cls t t)) (nn_add A A n_a n_a)) ∙ sum_cls t t in
    abs_is (times (series (opposite t) n) c) (plus (whole 1) (rest (plus t t) n))
    (product_cls (series (opposite t) n) c ∙ ap (λ (x : ℚ). x *q cls c) (series_cls (opposite t) n ∙ ap (λ (x : ℚ). S x n) (neg_cls t)))
    (sum_cls (whole 1) (rest (plus t t) n) ∙ ap₂ (λ (x y : ℚ). x +q y) (whole_cls 1) (rest_cls (plus t t) n ∙ ap (λ (x : ℚ). R x n) e_a))
    (S_below A (cls c) n_a n (subst (λ (x : ℚ). x +q x ≤q ofℕ n) e_a (far_out (plus t t) n far)) (not_negative c hc) (below_in {a = c} {b = series t n} refl (series_cls t n) k))

pub decides : Decides
decides = one_decides

pub nested : Nested
nested b m k h =
    let n = later (λ j. (low b m ≤q low b j) × (low b j +q wide b j ≤q low b m +q wide b m)) m (Log.nested b m) k h in
    (below_out (lowest b m) (lowest b k) (lowest_cls b m) (lowest_cls b k) n.0, below_out (plus (lowest b k) (width b k)) (plus (lowest b m) (width b m)) (Log.top_cls b k) (Log.top_cls b m) n.1)

-- ---- whole powers
whole_power_cls : (b : Base) (h : ℤ) → cls (power_of_whole b h) ≡ raise b h
whole_power_cls b (pos k) = power_cls (whole (radix b)) k ∙ ap (λ (x : ℚ). pow x k) (whole_cls (radix b))
whole_power_cls b (negsuc k) = power_cls (part (radix b - 1)) (suc k) ∙ ap (λ (x : ℚ). pow x (suc k)) (part_cls (radix b - 1))

most_is : (b : Base) (k : ℕ) → k ≤ furthest b → k ≤ most b
most_is binary k h = h
most_is decimal k h = h

powers_of : (b : Base) (h : ℤ) → nat_abs h ≤ furthest b → OfPower b (integer h) (within (power_of_whole b h) (times (power (part 1) 70) (power_of_whole b h)))
powers_of b h k =
    let W = power_of_whole b h in
    let d = times (power (part 1) 70) W in
    let ed : dy 1 70 *q raise b h ≡ cls d = sym (product_cls (power (part 1) 70) W ∙ ap₂ (λ (x y : ℚ). x *q y) (power_cls (part 1) 70 ∙ ap (λ (x : ℚ). pow x 70) (part_cls 1) ∙ pow_half 70) (whole_power_cls b h)) in
    let nW = le_nn (q_trans (nn_le (nn_dy 1 240)) (raised b h (most_is b (nat_abs h) k)).above) in
    carry_power b (within W d) (integer h) 80 (λ _. 1000) (λ j n far.
    let s = S (ofℤ h *q low b (from 80 j)) n in
    let r = rel_more (dy 1 70) nW (raised_at b h (most_is b (nat_abs h) k) (low b (from 80 j)) (low_near_root b j) n far) (dy_mono 70 74 (lit≤ tt)) in
    subst (λ (x : ℚ). Bound (cls W -q S (x *q low b (from 80 j)) n) (cls d)) (sym (integer_cls h))
    (subst (λ (x : ℚ). Bound (cls W -q s) x) ed (subst (λ (x : ℚ). Bound (x -q s) (dy 1 70 *q raise b h)) (sym (whole_power_cls b h)) (bound_turn s (raise b h) r.off))))

pub whole_powers : Powers
whole_powers binary h k = powers_of binary h k
whole_powers decimal h k = powers_of decimal h k
