-- A small change of the argument: the sum at a + d is near what the sum at a is near.
use Rattle.std.proofs.Common.{refl, sym, subst, [], ◌∷◌, ℕ, ◌≤◌, T, pos}
use Rattle.exact.proofs.Ring.{con, ◌⊕◌, ◌⊖◌, ◌⊗◌, ⊝, norm}
use Rattle.exact.proofs.Integer.{x₀, x₁, x₂}
use Rattle.exact.proofs.Rational.{ℚ, ◌+q◌, ◌*q◌, -q◌, ◌-q◌, ofℤ, qring}
use Rattle.exact.proofs.Order.{nn, ◌≤q◌, q_refl, q_trans, q_add, q_mul}
use Rattle.exact.proofs.Bound.{ofℕ, inv, nn_ofℕ, Bound, bound_nn, bound_more, bound_add, bound_neg, mul_one}
use Rattle.exact.proofs.Relative.{Rel, rel_mul}
use Rattle.exact.proofs.Series.{S, R, from, later, tail}
use Rattle.exact.proofs.Product.{mult}
use Rattle.exact.proofs.Growth.{S_one, R_one}

-- for |d| at most δ, and δ at most 1/2, the sums at d are within δ ^ 2 of 1 + d, and within 2 δ of 1
half_nums : (inv 1 +q inv 1 ≤q ofℕ 1) × (inv 1 ≤q ofℕ 1)
unfolding inv nn ◌-q◌ ◌+q◌ -q◌ ofℕ ofℤ
half_nums = (record { le = tt }, record { le = tt })

pub first_two : (d δ : ℚ) → Bound d δ → δ ≤q inv 1 → (n : ℕ) → 1 ≤ n → Bound (S d n -q (ofℕ 1 +q d)) (δ *q δ)
first_two d δ b h n k =
    later (λ m. Bound (S d m -q (ofℕ 1 +q d)) (δ *q δ)) 1
    (λ j. subst (λ (x : ℚ). Bound (S d (from 1 j) -q x) (δ *q δ)) (S_one d) (subst (λ (x : ℚ). Bound (S d (from 1 j) -q S d 1) x) (R_one δ) (tail d δ b 1 (q_trans (q_add h h) half_nums.0) j))) n k

pub near_one : (d δ : ℚ) → Bound d δ → δ ≤q inv 1 → (n : ℕ) → 1 ≤ n → Rel (S d n) (ofℕ 1) (δ +q δ)
unfolding norm ◌-q◌ ofℕ
near_one d δ b h n k =
    let square : δ *q δ ≤q δ = subst (λ (x : ℚ). δ *q δ ≤q x) (mul_one δ) (q_mul δ (bound_nn b) (q_trans h half_nums.1)) in
    record {
      off = subst (λ (x : ℚ). Bound (S d n -q ofℕ 1) x) (sym (mul_one (δ +q δ)))
          (bound_more (subst (λ (x : ℚ). Bound x (δ +q δ *q δ)) (qring (x₀ ⊕ (x₁ ⊖ (con (pos 1) ⊕ x₀))) (x₁ ⊖ con (pos 1)) refl (d ∷ S d n ∷ [])) (bound_add b (first_two d δ b h n k))) (q_add (q_refl δ) square));
    }

-- ρ bounds the rest, relative to W
pub shifted : (a d A δ W e ρ : ℚ) (n : ℕ) → 1 ≤ n → Bound a A → Bound d δ → δ ≤q inv 1 → T (nn W) → (A +q δ) +q (A +q δ) ≤q ofℕ n → R (A +q δ) n ≤q ρ *q W
    → Rel (S a n) W e → Rel (S (a +q d) n) W (e +q (δ +q δ) +q e *q (δ +q δ) +q ρ)
unfolding norm ◌-q◌ ofℕ
shifted a d A δ W e ρ n one ba bd h nw far r s =
    let D = δ +q δ in
    let pr = rel_mul nw (nn_ofℕ 1) s (near_one d δ bd h n one) in
    let m = mult a d A δ ba bd n far in
    let x = S a n *q S d n in
    record {
      off =
          subst (λ (u : ℚ). Bound u ((e +q D +q e *q D +q ρ) *q W)) (qring (x₀ ⊖ x₁ ⊗ con (pos 1) ⊕ ⊝ (x₀ ⊖ x₂)) (x₂ ⊖ x₁) refl (x ∷ W ∷ S (a +q d) n ∷ []))
          (subst (λ (u : ℚ). Bound (x -q W *q ofℕ 1 +q -q◌ (x -q S (a +q d) n)) u) (qring (x₀ ⊗ (x₁ ⊗ con (pos 1)) ⊕ x₂ ⊗ x₁) ((x₀ ⊕ x₂) ⊗ x₁) refl ((e +q D +q e *q D) ∷ W ∷ ρ ∷ []))
          (bound_add pr.off (bound_neg (bound_more m r))));
    }
