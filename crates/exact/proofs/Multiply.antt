-- e ^ (a + b) is e ^ a times e ^ b: fractions near the two have their product near the third.
use Rattle.std.proofs.Common.{◌≡◌, refl, sym, ap, ap₂, ◌∙◌, subst, [], ◌∷◌, ℕ, ◌≤◌, le_trans, le_refl, arith, T, pos}
use std.Quotient.{cls}
use Rattle.exact.specs.Fraction.{Fraction, whole, plus, times, absolute}
use Rattle.exact.proofs.Ring.{con, ◌⊕◌, ◌⊖◌, ◌⊗◌, ⊝, norm}
use Rattle.exact.proofs.Integer.{x₀, x₁, x₂, x₃, x₄, x₅, x₆}
use Rattle.exact.proofs.Rational.{ℚ, ◌+q◌, ◌*q◌, -q◌, ◌-q◌, ofℤ, qring}
use Rattle.exact.proofs.Order.{nn, nn_add, ◌≤q◌, le_by, q_refl, q_trans, q_add, q_mul}
use Rattle.exact.proofs.Bound.{ofℕ, inv, nn_inv, ofℕ_mono, nn_le, le_nn, Bound, bound_nn, bound_more, bound_add, bound_neg, bound_mul, bound_via, mul_right, mul_mono}
use Rattle.exact.proofs.Compare.{sum_cls, product_cls, whole_cls, bound_abs, abs_nn, inv_mono}
use Rattle.exact.specs.Exponential.{within}
use Rattle.exact.specs.Exact.{OfExp}
use Rattle.exact.specs.Laws.{Multiplies}
use Rattle.exact.proofs.Limit.{squeeze, size_of, size_above}
use Rattle.exact.proofs.Series.{S, R, R_nn, from, from_le, reach, tail}
use Rattle.exact.proofs.Product.{mult}
use Rattle.exact.proofs.Sums.{far_out, far_in}
use Rattle.exact.proofs.Vanish.{Place, vanishes}
use Rattle.exact.proofs.Claims.{allowed_in, allowed_out}

-- ---- where the sums are within d of y up to an error that vanishes, y is within d of e ^ t
bound_limit : (K : ℕ) (x d : ℚ) → ((i : ℕ) → Bound x (d +q ofℕ K *q inv i)) → Bound x d
unfolding norm ◌-q◌
bound_limit K x d h = record {
  hi = squeeze K x d (λ i. (h i).hi);
  lo = squeeze K (-q◌ d) x (λ i. le_by (x -q (-q◌ (d +q ofℕ K *q inv i))) (h i).lo.le (qring (x₀ ⊕ x₂ ⊗ x₃ ⊖ ⊝ x₁) (x₀ ⊖ ⊝ (x₁ ⊕ x₂ ⊗ x₃)) refl (x ∷ d ∷ ofℕ K ∷ inv i ∷ [])));
}

in_limit : (K : ℕ) (y d t : Fraction) → ((i : ℕ) → (k : ℕ) × ((n : ℕ) → k ≤ n → Bound (cls y -q S (cls t) n) (cls d +q ofℕ K *q inv i))) → OfExp t (within y d)
unfolding norm ◌-q◌
in_limit K y d t h n far = allowed_in (within y d) t n (bound_limit K (cls y -q S (cls t) n) (cls d +q R A n) at)
  where
    A : ℚ
    A = cls (absolute t)

    at : (i : ℕ) → Bound (cls y -q S (cls t) n) (cls d +q R A n +q ofℕ K *q inv i)
    at i =
        let k = (h i).0 in
        let m = from n k in
        subst (λ (u : ℚ). Bound (cls y -q S (cls t) n) u) (unfold norm in qring (x₀ ⊕ x₁ ⊕ x₂) (x₀ ⊕ x₂ ⊕ x₁) refl (cls d ∷ ofℕ K *q inv i ∷ R A n ∷ []))
        (bound_via (cls y) (S (cls t) m) (S (cls t) n) ((h i).1 m (reach n k)) (tail (cls t) A (bound_abs t) n (far_out t n far) k))

-- ---- the product of two near fractions
-- y z - u v, from y - u and z - v
product_off : (y z u v Y Z d e : ℚ) → Bound y Y → Bound z Z → Bound (y -q u) d → Bound (z -q v) e → Bound (y *q z -q u *q v) (Y *q e +q Z *q d +q d *q e)
unfolding norm ◌-q◌
product_off y z u v Y Z d e by bz bd be =
    subst (λ (x : ℚ). Bound x (Y *q e +q Z *q d +q d *q e)) (qring (x₀ ⊗ (x₁ ⊖ x₃) ⊕ x₁ ⊗ (x₀ ⊖ x₂) ⊕ ⊝ ((x₀ ⊖ x₂) ⊗ (x₁ ⊖ x₃))) (x₀ ⊗ x₁ ⊖ x₂ ⊗ x₃) refl (y ∷ z ∷ u ∷ v ∷ []))
    (bound_add (bound_add (bound_mul by be) (bound_mul bz bd)) (bound_neg (bound_mul bd be)))

-- with d and e each enlarged by at most i, and i at most 1, it is enlarged by at most (Y + Z + d + e + 1) i
enlarged : (Y Z d e i : ℚ) → T (nn Y) → T (nn Z) → T (nn d) → T (nn e) → T (nn i) → i ≤q ofℕ 1 → (p q : ℚ) → T (nn p) → T (nn q) → p ≤q i → q ≤q i
    → Y *q (e +q q) +q Z *q (d +q p) +q (d +q p) *q (e +q q) ≤q Y *q e +q Z *q d +q d *q e +q (Y +q Z +q d +q e +q ofℕ 1) *q i
unfolding norm ◌-q◌ ofℕ
enlarged Y Z d e i nY nZ nd ne ni one p q np nq hp hq =
    let a = q_mul Y nY hq in
    let b = q_mul Z nZ hp in
    let c = q_mul d nd hq in
    let f = q_mul e ne hp in
    let g : p *q q ≤q ofℕ 1 *q i = mul_mono np nq (q_trans hp one) hq in
    le_by {a = Y *q (e +q q) +q Z *q (d +q p) +q (d +q p) *q (e +q q)} {b = Y *q e +q Z *q d +q d *q e +q (Y +q Z +q d +q e +q ofℕ 1) *q i}
    (Y *q i -q Y *q q +q (Z *q i -q Z *q p) +q (d *q i -q d *q q) +q (e *q i -q e *q p) +q (ofℕ 1 *q i -q p *q q)) (nn_add _ _ (nn_add _ _ (nn_add _ _ (nn_add _ _ a.le b.le) c.le) f.le) g.le)
    (qring ((x₀ ⊗ x₃ ⊕ x₁ ⊗ x₂ ⊕ x₂ ⊗ x₃ ⊕ (x₀ ⊕ x₁ ⊕ x₂ ⊕ x₃ ⊕ con (pos 1)) ⊗ x₄) ⊖ (x₀ ⊗ (x₃ ⊕ x₆) ⊕ x₁ ⊗ (x₂ ⊕ x₅) ⊕ (x₂ ⊕ x₅) ⊗ (x₃ ⊕ x₆)))
    (x₀ ⊗ x₄ ⊖ x₀ ⊗ x₆ ⊕ (x₁ ⊗ x₄ ⊖ x₁ ⊗ x₅) ⊕ (x₂ ⊗ x₄ ⊖ x₂ ⊗ x₆) ⊕ (x₃ ⊗ x₄ ⊖ x₃ ⊗ x₅) ⊕ (con (pos 1) ⊗ x₄ ⊖ x₅ ⊗ x₆)) refl (Y ∷ Z ∷ d ∷ e ∷ i ∷ p ∷ q ∷ []))

-- what a value is within is not negative
within_nn : (y d t : Fraction) → OfExp t (within y d) → T (nn (cls d))
unfolding norm
within_nn y d t h = le_nn (squeeze 1 (ofℤ (pos 0)) (cls d) (λ i.
    let p = vanishes (absolute t) (abs_nn t) i in
    let b = allowed_out (within y d) t p.start (h p.start (far_in t p.start p.far)) in
    q_trans (nn_le (bound_nn b)) (q_add (q_refl (cls d)) (subst (λ (u : ℚ). R (cls (absolute t)) p.start ≤q u) (one_times (inv i)) (p.small p.start (le_refl p.start))))))
  where
    one_times : (u : ℚ) → u ≡ ofℕ 1 *q u
    one_times u = unfold ofℕ in qring x₀ (con (pos 1) ⊗ x₀) refl (u ∷ [])

part_le : (i : ℕ) → inv i ≤q ofℕ 1
part_le i = subst (λ (u : ℚ). inv i ≤q u) one (inv_mono 0 i (omega arith))
  where
    one : inv 0 ≡ ofℕ 1
    one = unfold inv ofℕ ofℤ in refl

gathered : (W Y Z D E i : ℚ) → W +q (Y +q Z +q D +q E +q ofℕ 1) *q i +q i ≤q W +q (Y +q Z +q D +q E +q ofℕ 2) *q i
unfolding norm ofℕ
gathered W Y Z D E i =
    subst (λ (u : ℚ). W +q (Y +q Z +q D +q E +q ofℕ 1) *q i +q i ≤q u) (qring (x₀ ⊕ (x₁ ⊕ x₂ ⊕ x₃ ⊕ x₄ ⊕ con (pos 1)) ⊗ x₅ ⊕ x₅) (x₀ ⊕ (x₁ ⊕ x₂ ⊕ x₃ ⊕ x₄ ⊕ con (pos 2)) ⊗ x₅) refl (W ∷ Y ∷ Z ∷ D ∷ E ∷ i ∷ []))
    (q_refl (W +q (Y +q Z +q D +q E +q ofℕ 1) *q i +q i))

pub multiplies : Multiplies
unfolding norm ◌-q◌
multiplies a b y d z e h k = in_limit K (times y z) w (plus a b) (λ i. (start i, near i))
  where
    A : ℚ
    A = cls (absolute a)

    B : ℚ
    B = cls (absolute b)

    Y : ℚ
    Y = cls (absolute y)

    Z : ℚ
    Z = cls (absolute z)

    D : ℚ
    D = cls d

    E : ℚ
    E = cls e

    both : Fraction
    both = plus (absolute a) (absolute b)

    w : Fraction
    w = plus (plus (times (absolute y) e) (times (absolute z) d)) (times d e)

    W : ℚ
    W = Y *q E +q Z *q D +q D *q E

    v : Fraction
    v = plus (plus (plus (plus (absolute y) (absolute z)) d) e) (whole 2)

    K : ℕ
    K = size_of v

    w_is : W ≡ cls w
    w_is = sym (sum_cls (plus (times (absolute y) e) (times (absolute z) d)) (times d e) ∙ ap₂ (λ (p q : ℚ). p +q q) (sum_cls (times (absolute y) e) (times (absolute z) d) ∙ ap₂ (λ (p q : ℚ). p +q q) (product_cls (absolute y) e) (product_cls (absolute z) d)) (product_cls d e))

    v_is : cls v ≡ Y +q Z +q D +q E +q ofℕ 2
    v_is = sum_cls (plus (plus (plus (absolute y) (absolute z)) d) e) (whole 2) ∙ ap₂ (λ (p q : ℚ). p +q q) (sum_cls (plus (plus (absolute y) (absolute z)) d) e ∙ ap (λ (p : ℚ). p +q E) (sum_cls (plus (absolute y) (absolute z)) d ∙ ap (λ (p : ℚ). p +q D) (sum_cls (absolute y) (absolute z)))) (whole_cls 2)

    both_is : cls both ≡ A +q B
    both_is = sum_cls (absolute a) (absolute b)

    pa : (i : ℕ) → Place A i
    pa i = vanishes (absolute a) (abs_nn a) i

    pb : (i : ℕ) → Place B i
    pb i = vanishes (absolute b) (abs_nn b) i

    pw : (i : ℕ) → Place (cls both) i
    pw i = vanishes both (abs_nn both) i

    start : ℕ → ℕ
    start i = from (from (pa i).start (pb i).start) (pw i).start

    near : (i n : ℕ) → start i ≤ n → Bound (cls (times y z) -q S (cls (plus a b)) n) (cls w +q ofℕ K *q inv i)
    near i n g =
        let ga = le_trans (le_trans (from_le (pa i).start (pb i).start) (from_le (from (pa i).start (pb i).start) (pw i).start)) g in
        let gb = le_trans (le_trans (reach (pa i).start (pb i).start) (from_le (from (pa i).start (pb i).start) (pw i).start)) g in
        let gw = le_trans (reach (from (pa i).start (pb i).start) (pw i).start) g in
        let ra = (pa i).small n ga in
        let rb = (pb i).small n gb in
        let rw : R (A +q B) n ≤q inv i = subst (λ (u : ℚ). R u n ≤q inv i) both_is ((pw i).small n gw) in
        let far : (A +q B) +q (A +q B) ≤q ofℕ n = subst (λ (u : ℚ). u +q u ≤q ofℕ n) both_is (q_trans (pw i).far (ofℕ_mono (pw i).start n gw)) in
        let ba = allowed_out (within y d) a n (h n (far_in a n (q_trans (pa i).far (ofℕ_mono (pa i).start n ga)))) in
        let bb = allowed_out (within z e) b n (k n (far_in b n (q_trans (pb i).far (ofℕ_mono (pb i).start n gb)))) in
        let po = bound_more (product_off (cls y) (cls z) (S (cls a) n) (S (cls b) n) Y Z (D +q R A n) (E +q R B n) (bound_abs y) (bound_abs z) ba bb)
        (enlarged Y Z D E (inv i) (abs_nn y) (abs_nn z) (within_nn y d a h) (within_nn z e b k) (nn_inv i) (part_le i) (R A n) (R B n) (R_nn A (abs_nn a) n) (R_nn B (abs_nn b) n) ra rb) in
        let m = bound_more (mult (cls a) (cls b) A B (bound_abs a) (bound_abs b) n far) rw in
        let t = bound_via (cls y *q cls z) (S (cls a) n *q S (cls b) n) (S (cls a +q cls b) n) po m in
        subst (λ (u : ℚ). Bound (u -q S (cls (plus a b)) n) (cls w +q ofℕ K *q inv i)) (sym (product_cls y z))
        (subst (λ (u : ℚ). Bound (cls y *q cls z -q S u n) (cls w +q ofℕ K *q inv i)) (sym (sum_cls a b))
        (bound_more t (q_trans (subst (λ (u : ℚ). W +q (Y +q Z +q D +q E +q ofℕ 1) *q inv i +q inv i ≤q W +q u *q inv i) (sym v_is) (gathered W Y Z D E (inv i))) (q_add (subst (λ (u : ℚ). W ≤q u) w_is (q_refl W)) (mul_right (inv i) (nn_inv i) (size_above v))))))
