-- The rest of the series vanishes: from some place on it is below every positive fraction.
use Rattle.std.proofs.Common.{◌≡◌, refl, sym, ap, ◌∙◌, subst, [], ◌∷◌, ℕ, zero, suc, ◌+◌, ◌-◌, ◌*◌, ◌^◌, ◌≤◌, ◌<◌, le_trans, pow-suc, arith, T, lit≤, pow_pos, pos}
use Rattle.std.proofs.Math.Nat.{le-suc}
use std.Quotient.{cls}
use Rattle.exact.specs.Fraction.{Fraction}
use Rattle.exact.proofs.Ring.{con, ◌⊕◌, ◌⊗◌, norm}
use Rattle.exact.proofs.Integer.{x₀, x₁, x₂}
use Rattle.exact.proofs.Rational.{ℚ, ◌+q◌, ◌*q◌, qring}
use Rattle.exact.proofs.Order.{nn, ◌≤q◌, q_refl, q_trans, q_add, q_mul}
use Rattle.exact.proofs.Bound.{ofℕ, inv, inv_mul, nn_inv, nn_ofℕ, ofℕ_add, ofℕ_mono, mul_right, mul_one}
use Rattle.exact.proofs.Limit.{over, size_of, size_above}
use Rattle.exact.proofs.Series.{R, term_half, R_nn, from, from_le, later}
use Rattle.exact.proofs.Sums.{bound_of, bound_of_is}

-- from 2 A on each rest is at most half of the one before
R_half : (A : ℚ) (n : ℕ) → T (nn A) → A +q A ≤q ofℕ n → R A (suc n) +q R A (suc n) ≤q R A n
unfolding norm
R_half A n t h = q_add (term_half A (suc n) t k) (term_half A (suc n) t k)
  where
    k : A +q A ≤q ofℕ (suc (suc n))
    k = q_trans h (ofℕ_mono n (suc (suc n)) (le_trans (le-suc n) (le-suc (suc n))))

two_pow : (j : ℕ) → ofℕ (2 ^ suc j) ≡ ofℕ (2 ^ j) +q ofℕ (2 ^ j)
two_pow j = ap ofℕ (pow-suc 2 j ∙ omega arith) ∙ ofℕ_add (2 ^ j) (2 ^ j)

-- j steps further on the rest is 2 ^ j times smaller
pub R_pow : (A : ℚ) (n : ℕ) → T (nn A) → A +q A ≤q ofℕ n → (j : ℕ) → R A (from n j) *q ofℕ (2 ^ j) ≤q R A n
unfolding norm
R_pow A n t h zero = subst (λ (x : ℚ). x ≤q R A n) (one (R A n)) (q_refl (R A n))
  where
    one : (x : ℚ) → x ≡ x *q ofℕ 1
    one x = unfold ofℕ in qring x₀ (x₀ ⊗ con (pos 1)) refl (x ∷ [])
R_pow A n t h (suc j) =
    let m = from n j in
    subst (λ (x : ℚ). R A (suc m) *q x ≤q R A n) (sym (two_pow j))
    (subst (λ (x : ℚ). x ≤q R A n) (qring ((x₀ ⊕ x₀) ⊗ x₁) (x₀ ⊗ (x₁ ⊕ x₁)) refl (R A (suc m) ∷ ofℕ (2 ^ j) ∷ []))
    (q_trans (mul_right (ofℕ (2 ^ j)) (nn_ofℕ (2 ^ j)) (R_half A m t (q_trans h (ofℕ_mono n m (from_le n j))))) (R_pow A n t h j)))

-- and it only falls
pub R_later : (A : ℚ) (n : ℕ) → T (nn A) → A +q A ≤q ofℕ n → (j : ℕ) → R A (from n j) ≤q R A n
R_later A n t h j =
    let x = R A (from n j) in
    q_trans (subst (λ (z : ℚ). z ≤q x *q ofℕ (2 ^ j)) (mul_one x) (q_mul x (R_nn A t (from n j)) (ofℕ_mono 1 (2 ^ j) (pow_pos j)))) (R_pow A n t h j)

-- 2 ^ j is more than j, so 1 / 2 ^ j gets small
lt_pow : (j : ℕ) → j < 2 ^ j
lt_pow zero = lit≤ tt
lt_pow (suc j) = let h = lt_pow j in let e : 2 ^ suc j ≡ 2 ^ j * 2 = pow-suc 2 j in omega arith

divide : (P : ℕ) → 0 < P → (y : ℚ) (C : ℕ) → y *q ofℕ P ≤q ofℕ C → y ≤q ofℕ C *q inv (P - 1)
unfolding norm
divide P p y C m =
    let e : suc (P - 1) ≡ P = omega arith in
    subst (λ (z : ℚ). z ≤q ofℕ C *q inv (P - 1))
    (qring (x₀ ⊗ x₁ ⊗ x₂) (x₀ ⊗ (x₁ ⊗ x₂)) refl (y ∷ ofℕ P ∷ inv (P - 1) ∷ []) ∙ ap (λ (z : ℚ). y *q z) (ap (λ (z : ℕ). ofℕ z *q inv (P - 1)) (sym e) ∙ inv_mul (P - 1)) ∙ mul_one y)
    (mul_right (inv (P - 1)) (nn_inv (P - 1)) m)

-- so from some place on it is at most 1 / (d + 1)
pub R_vanish : (A : ℚ) (n B d : ℕ) → T (nn A) → A +q A ≤q ofℕ n → R A n ≤q ofℕ B → R A (from n (B * suc d)) ≤q inv d
R_vanish A n B d t h b =
    let j = B * suc d in
    q_trans (divide (2 ^ j) (pow_pos j) (R A (from n j)) B (q_trans (R_pow A n t h j) b)) (over B (2 ^ j - 1) d (omega (arith, lt_pow j)))

-- ---- from some place on the rest at a fraction is at most 1 / (d + 1)
pub record Place (A : ℚ) (d : ℕ) : Type 0 where
  pub start : ℕ
  pub far : A +q A ≤q ofℕ start
  pub small : (n : ℕ) → start ≤ n → R A n ≤q inv d

pub vanishes : (w : Fraction) → T (nn (cls w)) → (d : ℕ) → Place (cls w) d
vanishes w t d =
    let A = cls w in
    let n₀ = size_of w + size_of w in
    let far : A +q A ≤q ofℕ n₀ = subst (λ (x : ℚ). A +q A ≤q x) (sym (ofℕ_add (size_of w) (size_of w))) (q_add (size_above w) (size_above w)) in
    let B = size_of (bound_of w n₀) in
    let n₁ = from n₀ (B * suc d) in
    let far₁ : A +q A ≤q ofℕ n₁ = q_trans far (ofℕ_mono n₀ n₁ (from_le n₀ (B * suc d))) in
    let s : R A n₁ ≤q inv d = R_vanish A n₀ B d t far (subst (λ (x : ℚ). x ≤q ofℕ B) (bound_of_is w n₀) (size_above (bound_of w n₀))) in
    record { start = n₁; far = far₁; small = later (λ n. R A n ≤q inv d) n₁ (λ j. q_trans (R_later A n₁ t far₁ j) s) }
