-- The sums of the exponential series among the rationals, and their tails.
use Rattle.std.proofs.Common.{◌≡◌, refl, sym, ap, ◌∙◌, subst, [], ◌∷◌, ℕ, zero, suc, ◌+◌, ◌-◌, ◌≤◌, le_trans, le_refl, arith, T, pos}
use Rattle.std.proofs.Math.Nat.{le-suc}
use Rattle.exact.proofs.Ring.{con, ◌⊕◌, ◌⊖◌, ◌⊗◌, norm}
use Rattle.exact.proofs.Integer.{x₀, x₁, x₂, x₃}
use Rattle.exact.proofs.Rational.{ℚ, ◌+q◌, ◌*q◌, -q◌, ◌-q◌, ofℤ, qring}
use Rattle.exact.proofs.Order.{nn, nn_add, nn_mul, ◌≤q◌, le_by, q_refl, q_trans, q_add, q_mul}
use Rattle.exact.proofs.Bound.{ofℕ, inv, inv_mul, nn_inv, nn_ofℕ, ofℕ_mono, Bound, bound_nn, bound_more, bound_add, bound_mul, bound_self}

-- t ^ k / k!
unfoldable pub term : ℚ → ℕ → ℚ
term t zero = ofℕ 1
term t (suc k) = term t k *q t *q inv k

-- the sum of the terms from 0 to n
unfoldable pub S : ℚ → ℕ → ℚ
S t zero = ofℕ 1
S t (suc n) = S t n +q term t (suc n)

-- what bounds the rest, where A bounds |t|
abbrev pub R : ℚ → ℕ → ℚ
R A n = term A (suc n) +q term A (suc n)

pub term_nn : (A : ℚ) → T (nn A) → (k : ℕ) → T (nn (term A k))
unfolding term
term_nn A h zero = nn_ofℕ 1
term_nn A h (suc k) = nn_mul (term A k *q A) (inv k) (nn_mul (term A k) A (term_nn A h k) h) (nn_inv k)

pub term_bound : (t A : ℚ) → Bound t A → (k : ℕ) → Bound (term t k) (term A k)
unfolding term
term_bound t A h zero = bound_self (nn_ofℕ 1)
term_bound t A h (suc k) = bound_mul (bound_mul (term_bound t A h k) h) (bound_self (nn_inv k))

-- for k from 2A on a term is at most half of the one before
pub term_half : (A : ℚ) (k : ℕ) → T (nn A) → A +q A ≤q ofℕ (suc k) → term A (suc k) +q term A (suc k) ≤q term A k
unfolding term norm ofℕ
term_half A k n h =
    let a = q_mul (inv k) (nn_inv k) h in
    let b = q_mul (term A k) (term_nn A n k) a in
    subst (λ (x : ℚ). x ≤q term A k) (qring (x₀ ⊗ (x₂ ⊗ (x₁ ⊕ x₁))) (x₀ ⊗ x₁ ⊗ x₂ ⊕ x₀ ⊗ x₁ ⊗ x₂) refl (term A k ∷ A ∷ inv k ∷ []))
    (subst (λ (x : ℚ). term A k *q (inv k *q (A +q A)) ≤q x)
    (qring (x₀ ⊗ (x₁ ⊗ x₂)) (x₀ ⊗ (x₂ ⊗ x₁)) refl (term A k ∷ inv k ∷ ofℕ (suc k) ∷ []) ∙ ap (λ (x : ℚ). term A k *q x) (inv_mul k) ∙ qring (x₀ ⊗ con (pos 1)) x₀ refl (term A k ∷ []))
    b)

-- so the next term and what bounds the rest after it are within what bounds the rest before it
pub R_step : (A : ℚ) (k : ℕ) → T (nn A) → A +q A ≤q ofℕ (suc (suc k)) → term A (suc k) +q R A (suc k) ≤q R A k
R_step A k n h = q_add (q_refl (term A (suc k))) (term_half A (suc k) n h)

-- ---- counting on: n + j, counted up from n
abbrev pub from : ℕ → ℕ → ℕ
from n zero = n
from n (suc j) = suc (from n j)

pub from_le : (n j : ℕ) → n ≤ from n j
from_le n zero = le_refl n
from_le n (suc j) = le_trans (from_le n j) (le-suc (from n j))

pub reach : (n k : ℕ) → k ≤ from n k
reach n zero = omega arith
reach n (suc k) = let ih = reach n k in omega arith

pub from_plus : (a j : ℕ) → from a j ≡ a + j
from_plus a zero = omega arith
from_plus a (suc j) = let e = from_plus a j in omega arith

pub from_comm : (a b : ℕ) → from a b ≡ from b a
from_comm a b = from_plus a b ∙ omega arith ∙ sym (from_plus b a)

at_from : (a n : ℕ) → a ≤ n → from a (n - a) ≡ n
at_from a n h = from_plus a (n - a) ∙ back
  where
    back : a + (n - a) ≡ n
    back = omega arith

-- what holds from a on
pub later : (P : ℕ → Type 0) (a : ℕ) → ((j : ℕ) → P (from a j)) → (n : ℕ) → a ≤ n → P n
later P a f n h = subst P (at_from a n h) (f (n - a))

-- ---- tails
pub R_nn : (A : ℚ) → T (nn A) → (k : ℕ) → T (nn (R A k))
R_nn A n k = nn_add (term A (suc k)) (term A (suc k)) (term_nn A n (suc k)) (term_nn A n (suc k))

-- the sums from n on differ by no more than what R falls by
pub tail_strict : (t A : ℚ) → Bound t A → (n : ℕ) → A +q A ≤q ofℕ n → (j : ℕ) → Bound (S t (from n j) -q S t n) (R A n -q R A (from n j))
unfolding S norm ◌-q◌ ofℕ
tail_strict t A b n h zero = subst (λ (x : ℚ). Bound x (R A n -q R A n)) (qring (con (pos 0)) (x₀ ⊖ x₀) refl (S t n ∷ [])) (subst (λ (x : ℚ). Bound (ofℤ (pos 0)) x) (qring (con (pos 0)) (x₀ ⊖ x₀) refl (R A n ∷ [])) (bound_self (nn_ofℕ 0)))
tail_strict t A b n h (suc j) =
    let m = from n j in
    let ih = tail_strict t A b n h j in
    let s = bound_add ih (term_bound t A b (suc m)) in
    let r = R_step A m (bound_nn b) (q_trans h (ofℕ_mono n (suc (suc m)) (le_trans (from_le n j) (le_trans (le-suc m) (le-suc (suc m)))))) in
    subst (λ (x : ℚ). Bound x (R A n -q R A (suc m))) (qring (x₀ ⊖ x₁ ⊕ x₂) (x₀ ⊕ x₂ ⊖ x₁) refl (S t m ∷ S t n ∷ term t (suc m) ∷ []))
    (bound_more s
    (le_by (R A m -q (term A (suc m) +q R A (suc m))) r.le (qring (x₀ ⊖ x₁ ⊖ (x₀ ⊖ x₂ ⊕ x₃)) (x₂ ⊖ (x₃ ⊕ x₁)) refl (R A n ∷ R A (suc m) ∷ R A m ∷ term A (suc m) ∷ []))))

-- so they stay within R of the sum to n
pub tail : (t A : ℚ) → Bound t A → (n : ℕ) → A +q A ≤q ofℕ n → (j : ℕ) → Bound (S t (from n j) -q S t n) (R A n)
unfolding norm ◌-q◌
tail t A b n h j = bound_more (tail_strict t A b n h j) (le_by (R A (from n j)) (R_nn A (bound_nn b) (from n j)) (qring (x₀ ⊖ (x₀ ⊖ x₁)) x₁ refl (R A n ∷ R A (from n j) ∷ [])))
