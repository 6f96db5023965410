-- The sums at a negative argument, against those at its opposite.
use Rattle.std.proofs.Common.{refl, sym, ap, ◌∙◌, subst, Bool, true, false, not, [], ◌∷◌, ℕ, suc, ◌≤◌, le_trans, T, pos}
use std.Quotient.{cls}
use Rattle.exact.specs.Fraction.{Fraction, plus}
use Rattle.exact.proofs.Ring.{con, ◌⊕◌, ◌⊖◌, ◌⊗◌, ⊝, norm}
use Rattle.exact.proofs.Integer.{x₀, x₁, x₂, x₃}
use Rattle.exact.proofs.Rational.{ℚ, ◌+q◌, ◌*q◌, -q◌, ◌-q◌, ofℤ, qring}
use Rattle.exact.proofs.Order.{nn, nn_add, nn_mul, nn_total, ◌≤q◌, le_by, q_refl, q_trans, q_add, q_mul}
use Rattle.exact.proofs.Bound.{ofℕ, inv, inv_mul, nn_inv, nn_ofℕ, ofℕ_mono, nn_le, le_nn, Bound, bound_nn, bound_more, bound_add, bound_neg, bound_mul, bound_self, mul_one}
use Rattle.exact.proofs.Compare.{sum_cls}
use Rattle.exact.proofs.Series.{S, R, from, from_le, reach}
use Rattle.exact.proofs.Vanish.{vanishes}
use Rattle.exact.proofs.Product.{mult}
use Rattle.exact.proofs.Growth.{S_zero, S_mono}

-- a smaller factor
shrink : (x u c d : ℚ) → T (nn c) → c ≤q u → Bound (x *q u) d → Bound (x *q c) d
unfolding norm ◌-q◌
shrink x u c d nc h b = go (nn x) (λ t. t) (nn_total x)
  where
    go : (v : Bool) → (T v → T (nn x)) → (T (not v) → T (nn (-q◌ x))) → Bound (x *q c) d
    go true f g =
        let t = f tt in
        record {
          hi = q_trans (q_mul x t h) b.hi;
          lo = le_by (d +q x *q c) (nn_add d (x *q c) (bound_nn b) (nn_mul x c t nc)) (qring (x₀ ⊖ ⊝ x₁) (x₁ ⊕ x₀) refl (x *q c ∷ d ∷ []));
        }
    go false f g =
        let t = g tt in
        record {
          hi = le_by (d +q (-q◌ x) *q c) (nn_add d ((-q◌ x) *q c) (bound_nn b) (nn_mul (-q◌ x) c t nc)) (qring (x₁ ⊖ x₀ ⊗ x₂) (x₁ ⊕ ⊝ x₀ ⊗ x₂) refl (x ∷ d ∷ c ∷ []));
          lo = le_by ((-q◌ x) *q (u -q c) +q (x *q u -q (-q◌ d))) (nn_add ((-q◌ x) *q (u -q c)) (x *q u -q (-q◌ d)) (nn_mul (-q◌ x) (u -q c) t h.le) b.lo.le) (qring (x₀ ⊗ x₂ ⊖ ⊝ x₁) (⊝ x₀ ⊗ (x₃ ⊖ x₂) ⊕ (x₀ ⊗ x₃ ⊖ ⊝ x₁)) refl (x ∷ d ∷ c ∷ u ∷ []));
        }

-- |S(-A)| c is at most 1 + R, for c at most S(A)
pub S_below : (A c : ℚ) → T (nn A) → (n : ℕ) → (A +q A) +q (A +q A) ≤q ofℕ n → T (nn c) → c ≤q S A n → Bound (S (-q◌ A) n *q c) (ofℕ 1 +q R (A +q A) n)
unfolding norm ◌-q◌ ofℕ
S_below A c t n h nc k =
    let m = mult (-q◌ A) A A A (bound_neg (bound_self t)) (bound_self t) n h in
    let m' : Bound (S (-q◌ A) n *q S A n -q ofℕ 1) (R (A +q A) n) =
    subst (λ (x : ℚ). Bound (S (-q◌ A) n *q S A n -q x) (R (A +q A) n)) (ap (λ (x : ℚ). S x n) (qring (⊝ x₀ ⊕ x₀) (con (pos 0)) refl (A ∷ [])) ∙ S_zero n) m in
    let b : Bound (S (-q◌ A) n *q S A n) (ofℕ 1 +q R (A +q A) n) =
    subst (λ (x : ℚ). Bound x (ofℕ 1 +q R (A +q A) n)) (qring (con (pos 1) ⊕ (x₀ ⊖ con (pos 1))) x₀ refl (S (-q◌ A) n *q S A n ∷ [])) (bound_add (bound_self (nn_ofℕ 1)) m') in
    shrink (S (-q◌ A) n) (S A n) c (ofℕ 1 +q R (A +q A) n) nc k b

nn_zero : T (nn (ofℤ (pos 0)))
unfolding nn ofℤ
nn_zero = tt

-- the sum at what is not positive is at most 1 and the rest
pub S_negative : (A : ℚ) → T (nn A) → (n : ℕ) → (A +q A) +q (A +q A) ≤q ofℕ n → Bound (S (-q◌ A) n) (ofℕ 1 +q R (A +q A) n)
unfolding norm ofℕ
S_negative A t n h =
    subst (λ (x : ℚ). Bound x (ofℕ 1 +q R (A +q A) n)) (qring (x₀ ⊗ con (pos 1)) x₀ refl (S (-q◌ A) n ∷ []))
    (S_below A (ofℕ 1) t n h (nn_ofℕ 1) (subst (λ (x : ℚ). x ≤q S A n) (S_zero n) (S_mono (ofℤ (pos 0)) A nn_zero (nn_le t) n).1))

-- ---- far below 0 the sums vanish, however far: where the sums at a₀ are at least m + 1, those from -a₀ down are at most (1 + 1 / (e + 1)) / (m + 1) in size, from some place on
pub far_below : (w : Fraction) (a₀ : ℚ) (m e n₁ : ℕ) → T (nn a₀) → a₀ ≤q cls w → ((n : ℕ) → n₁ ≤ n → ofℕ (suc m) ≤q S a₀ n)
    → (k : ℕ) × ((n : ℕ) → k ≤ n → Bound (S (-q◌ (cls w)) n) ((ofℕ 1 +q inv e) *q inv m))
unfolding norm
far_below w a₀ m e n₁ t h s =
    let A = cls w in
    let n_a = le_nn (q_trans (nn_le t) h) in
    let p = vanishes (plus w w) (subst (λ (x : ℚ). T (nn x)) (sym (sum_cls w w)) (nn_add A A n_a n_a)) e in
    let k = from p.start n₁ in (
      k,
      λ n g.
          let far : (A +q A) +q (A +q A) ≤q ofℕ n = subst (λ (x : ℚ). x +q x ≤q ofℕ n) (sum_cls w w) (q_trans p.far (ofℕ_mono p.start n (le_trans (from_le p.start n₁) g))) in
          let r : R (A +q A) n ≤q inv e = subst (λ (x : ℚ). R x n ≤q inv e) (sum_cls w w) (p.small n (le_trans (from_le p.start n₁) g)) in
          let b = S_below A (ofℕ (suc m)) n_a n far (nn_ofℕ (suc m)) (q_trans (s n (le_trans (reach p.start n₁) g)) (S_mono a₀ A t h n).1) in
          subst (λ (x : ℚ). Bound x ((ofℕ 1 +q inv e) *q inv m)) (qring (x₀ ⊗ x₁ ⊗ x₂) (x₀ ⊗ (x₁ ⊗ x₂)) refl (S (-q◌ A) n ∷ ofℕ (suc m) ∷ inv m ∷ []) ∙ ap (λ (z : ℚ). S (-q◌ A) n *q z) (inv_mul m) ∙ mul_one (S (-q◌ A) n))
          (bound_mul (bound_more b (q_add (q_refl (ofℕ 1)) r)) (bound_self (nn_inv m))),
    )
