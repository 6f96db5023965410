-- The product of two sums of the exponential series is the sum at the sum of the arguments, up to what R bounds.
use Rattle.std.proofs.Common.{◌≡◌, refl, sym, ap, ◌∙◌, subst, [], ◌∷◌, ℕ, zero, suc, one-add, T, pos}
use Rattle.exact.proofs.Ring.{Expr, con, ◌⊕◌, ◌⊖◌, ◌⊗◌, norm}
use Rattle.exact.proofs.Integer.{x₀, x₁, x₂, x₃, x₄, x₅, x₆, x₇, x₈}
use Rattle.exact.proofs.Rational.{ℚ, ◌+q◌, ◌*q◌, -q◌, ◌-q◌, ofℤ, qring}
use Rattle.exact.proofs.Order.{nn, nn_add, nn_mul, ◌≤q◌, q_refl, q_trans, q_add, q_mul}
use Rattle.exact.proofs.Bound.{ofℕ, inv, inv_mul, nn_ofℕ, ofℕ_add, Bound, bound_nn, bound_more, bound_add, bound_mul, bound_self, le_plus}
use Rattle.exact.proofs.Series.{term, S, R, term_nn, term_bound, from, tail}

-- the number 1
abbrev one : Expr
one = con (pos 1)

-- k, counted by ones
unfoldable pub cnt : ℕ → ℚ
cnt zero = ofℤ (pos 0)
cnt (suc k) = ofℤ (pos 1) +q cnt k

pub cnt_is : (k : ℕ) → ofℕ k ≡ cnt k
unfolding cnt ofℕ
cnt_is zero = refl
cnt_is (suc k) = ap (λ (n : ℕ). ofℕ n) (sym (one-add k)) ∙ ofℕ_add 1 k ∙ ap (λ (x : ℚ). ofℤ (pos 1) +q x) (cnt_is k)

-- (k + 1) t^(k+1)/(k+1)! is t * t^k/k!
pub term_suc : (t : ℚ) (k : ℕ) → (ofℤ (pos 1) +q cnt k) *q term t (suc k) ≡ t *q term t k
unfolding term norm cnt ofℕ
term_suc t k =
    qring ((one ⊕ x₀) ⊗ (x₁ ⊗ x₂ ⊗ x₃)) (((one ⊕ x₀) ⊗ x₃) ⊗ (x₂ ⊗ x₁)) refl (cnt k ∷ term t k ∷ t ∷ inv k ∷ [])
    ∙ ap (λ (x : ℚ). x *q inv k *q (t *q term t k)) (sym (cnt_is (suc k)))
    ∙ ap (λ (x : ℚ). x *q (t *q term t k)) (inv_mul k)
    ∙ qring (one ⊗ x₀) x₀ refl (t *q term t k ∷ [])

module _ (a b : ℚ) where
  -- the sum of a^i/i! b^j/j! over i + j = n + m with i at most n
  abbrev diagonal : ℕ → ℕ → ℚ
  diagonal zero m = term a zero *q term b m
  diagonal (suc n) m = diagonal n (suc m) +q term a (suc n) *q term b m

  diagonal_step : (n m : ℕ) → (ofℤ (pos 1) +q cnt n +q (ofℤ (pos 1) +q cnt m)) *q diagonal (suc n) (suc m) ≡ a *q diagonal n (suc m) +q b *q diagonal (suc n) m
  unfolding norm cnt
  diagonal_step zero m =
      let ρ = cnt m ∷ term a 0 ∷ term a 1 ∷ term b m ∷ term b (suc m) ∷ term b (suc (suc m)) ∷ a ∷ b ∷ [] in
      qring ((one ⊕ con (pos 0) ⊕ (one ⊕ x₀)) ⊗ (x₁ ⊗ x₅ ⊕ x₂ ⊗ x₄))
      (((one ⊕ (one ⊕ x₀)) ⊗ x₅) ⊗ x₁ ⊕ ((one ⊕ con (pos 0)) ⊗ x₂) ⊗ x₄ ⊕ ((one ⊕ x₀) ⊗ x₄) ⊗ x₂) refl ρ
      ∙ (λ i. term_suc b (suc m) i *q term a 0 +q term_suc a 0 i *q term b (suc m) +q term_suc b m i *q term a 1)
      ∙ qring ((x₇ ⊗ x₄) ⊗ x₁ ⊕ (x₆ ⊗ x₁) ⊗ x₄ ⊕ (x₇ ⊗ x₃) ⊗ x₂) (x₆ ⊗ (x₁ ⊗ x₄) ⊕ x₇ ⊗ (x₁ ⊗ x₄ ⊕ x₂ ⊗ x₃)) refl ρ
  diagonal_step (suc n) m =
      let ρ = cnt n ∷ cnt m ∷ diagonal (suc n) (suc (suc m)) ∷ term a (suc (suc n)) ∷ term b (suc m) ∷ diagonal n (suc (suc m)) ∷ diagonal (suc n) (suc m) ∷ a ∷ b ∷ [] in
      qring ((one ⊕ (one ⊕ x₀) ⊕ (one ⊕ x₁)) ⊗ (x₂ ⊕ x₃ ⊗ x₄))
      ((one ⊕ x₀ ⊕ (one ⊕ (one ⊕ x₁))) ⊗ x₂ ⊕ ((one ⊕ (one ⊕ x₀)) ⊗ x₃) ⊗ x₄ ⊕ ((one ⊕ x₁) ⊗ x₄) ⊗ x₃) refl ρ
      ∙ (λ i. diagonal_step n (suc m) i +q term_suc a (suc n) i *q term b (suc m) +q term_suc b m i *q term a (suc (suc n)))
      ∙ qring (x₇ ⊗ x₅ ⊕ x₈ ⊗ x₆ ⊕ (x₇ ⊗ x₀) ⊗ x₄ ⊕ (x₈ ⊗ x₁) ⊗ x₃) (x₇ ⊗ (x₅ ⊕ x₀ ⊗ x₄) ⊕ x₈ ⊗ (x₆ ⊕ x₃ ⊗ x₁)) refl
      (term a (suc n) ∷ term b m ∷ diagonal (suc n) (suc (suc m)) ∷ term a (suc (suc n)) ∷ term b (suc m) ∷ diagonal n (suc (suc m)) ∷ diagonal (suc n) (suc m) ∷ a ∷ b ∷ [])

  diagonal_last : (n : ℕ) → (ofℤ (pos 1) +q cnt n) *q diagonal (suc n) zero ≡ (a +q b) *q diagonal n zero
  unfolding norm cnt
  diagonal_last zero =
      let ρ = term a 0 ∷ term a 1 ∷ term b 0 ∷ term b 1 ∷ a ∷ b ∷ [] in
      qring ((one ⊕ con (pos 0)) ⊗ (x₀ ⊗ x₃ ⊕ x₁ ⊗ x₂)) (((one ⊕ con (pos 0)) ⊗ x₃) ⊗ x₀ ⊕ ((one ⊕ con (pos 0)) ⊗ x₁) ⊗ x₂) refl ρ
      ∙ (λ i. term_suc b 0 i *q term a 0 +q term_suc a 0 i *q term b 0)
      ∙ qring ((x₅ ⊗ x₂) ⊗ x₀ ⊕ (x₄ ⊗ x₀) ⊗ x₂) ((x₄ ⊕ x₅) ⊗ (x₀ ⊗ x₂)) refl ρ
  diagonal_last (suc n) =
      qring ((one ⊕ (one ⊕ x₀)) ⊗ (x₁ ⊕ x₂ ⊗ x₃)) ((one ⊕ x₀ ⊕ (one ⊕ con (pos 0))) ⊗ x₁ ⊕ ((one ⊕ (one ⊕ x₀)) ⊗ x₂) ⊗ x₃) refl (cnt n ∷ diagonal (suc n) 1 ∷ term a (suc (suc n)) ∷ term b 0 ∷ [])
      ∙ (λ i. diagonal_step n 0 i +q term_suc a (suc n) i *q term b 0)
      ∙ qring (x₀ ⊗ x₂ ⊕ x₁ ⊗ (x₂ ⊕ x₃ ⊗ x₄) ⊕ (x₀ ⊗ x₃) ⊗ x₄) ((x₀ ⊕ x₁) ⊗ (x₂ ⊕ x₃ ⊗ x₄)) refl (a ∷ b ∷ diagonal n 1 ∷ term a (suc n) ∷ term b 0 ∷ [])

  -- the terms of (a + b)
  diagonal_is : (n : ℕ) → diagonal n zero ≡ term (a +q b) n
  unfolding norm term ofℕ cnt
  diagonal_is zero = qring (one ⊗ one) one refl []
  diagonal_is (suc n) =
      qring x₀ (one ⊗ x₀) refl (diagonal (suc n) zero ∷ [])
      ∙ ap (λ (x : ℚ). x *q diagonal (suc n) zero) (sym (inv_mul n) ∙ ap (λ (x : ℚ). x *q inv n) (cnt_is (suc n)))
      ∙ qring ((one ⊕ x₀) ⊗ x₁ ⊗ x₂) (((one ⊕ x₀) ⊗ x₂) ⊗ x₁) refl (cnt n ∷ inv n ∷ diagonal (suc n) zero ∷ [])
      ∙ ap (λ (x : ℚ). x *q inv n) (diagonal_last n ∙ ap (λ (x : ℚ). (a +q b) *q x) (diagonal_is n))
      ∙ qring (x₀ ⊗ x₁ ⊗ x₂) (x₁ ⊗ x₀ ⊗ x₂) refl ((a +q b) ∷ term (a +q b) n ∷ inv n ∷ [])

  -- rows: the sum over i at most n of a^i/i! times S b (n - i + m)
  abbrev triangle : ℕ → ℕ → ℚ
  triangle zero m = term a zero *q S b m
  triangle (suc n) m = triangle n (suc m) +q term a (suc n) *q S b m

  triangle_suc : (n m : ℕ) → triangle n (suc m) ≡ triangle n m +q diagonal n (suc m)
  unfolding norm S
  triangle_suc zero m = qring (x₀ ⊗ (x₁ ⊕ x₂)) (x₀ ⊗ x₁ ⊕ x₀ ⊗ x₂) refl (term a 0 ∷ S b m ∷ term b (suc m) ∷ [])
  triangle_suc (suc n) m =
      ap (λ (x : ℚ). x +q term a (suc n) *q (S b m +q term b (suc m))) (triangle_suc n (suc m))
      ∙ qring (x₀ ⊕ x₁ ⊕ x₂ ⊗ (x₃ ⊕ x₄)) (x₀ ⊕ x₂ ⊗ x₃ ⊕ (x₁ ⊕ x₂ ⊗ x₄)) refl (triangle n (suc m) ∷ diagonal n (suc (suc m)) ∷ term a (suc n) ∷ S b m ∷ term b (suc m) ∷ [])

  pub triangle_is : (n : ℕ) → triangle n zero ≡ S (a +q b) n
  unfolding norm S term ofℕ
  triangle_is zero = qring (one ⊗ one) one refl []
  triangle_is (suc n) =
      ap (λ (x : ℚ). x +q term a (suc n) *q S b zero) (triangle_suc n zero ∙ ap (λ (x : ℚ). x +q diagonal n 1) (triangle_is n))
      ∙ qring (x₀ ⊕ x₁ ⊕ x₂) (x₀ ⊕ (x₁ ⊕ x₂)) refl (S (a +q b) n ∷ diagonal n 1 ∷ term a (suc n) *q S b zero ∷ [])
      ∙ ap (λ (x : ℚ). S (a +q b) n +q x) (diagonal_is (suc n))

from_suc : (m n : ℕ) → from (suc m) n ≡ suc (from m n)
from_suc m zero = refl
from_suc m (suc n) = ap suc (from_suc m n)

from_zero : (n : ℕ) → from zero n ≡ n
from_zero zero = refl
from_zero (suc n) = ap suc (from_zero n)

pub S_nn : (A : ℚ) → T (nn A) → (n : ℕ) → T (nn (S A n))
unfolding S
S_nn A h zero = nn_ofℕ 1
S_nn A h (suc n) = nn_add (S A n) (term A (suc n)) (S_nn A h n) (term_nn A h (suc n))

S_diff : (b B : ℚ) → Bound b B → (m j : ℕ) → Bound (S b (from m j) -q S b m) (S B (from m j) -q S B m)
unfolding S norm ◌-q◌ ofℕ
S_diff b B h m zero = subst (λ (x : ℚ). Bound x (S B m -q S B m)) (qring (con (pos 0)) (x₀ ⊖ x₀) refl (S b m ∷ [])) (subst (λ (x : ℚ). Bound (ofℤ (pos 0)) x) (qring (con (pos 0)) (x₀ ⊖ x₀) refl (S B m ∷ [])) (bound_self (nn_ofℕ 0)))
S_diff b B h m (suc j) =
    let k = from m j in
    subst (λ (x : ℚ). Bound x (S B k +q term B (suc k) -q S B m)) (qring (x₀ ⊖ x₁ ⊕ x₂) (x₀ ⊕ x₂ ⊖ x₁) refl (S b k ∷ S b m ∷ term b (suc k) ∷ []))
    (subst (λ (x : ℚ). Bound (S b k -q S b m +q term b (suc k)) x) (qring (x₀ ⊖ x₁ ⊕ x₂) (x₀ ⊕ x₂ ⊖ x₁) refl (S B k ∷ S B m ∷ term B (suc k) ∷ []))
    (bound_add (S_diff b B h m j) (term_bound b B h (suc k))))

module _ (a b A B : ℚ) (ha : Bound a A) (hb : Bound b B) where
  -- what the square has beyond the triangle
  square : (n m : ℕ) → Bound (S a n *q S b (from m n) -q triangle a b n m) (S A n *q S B (from m n) -q triangle A B n m)
  unfolding S norm ◌-q◌ ofℕ term
  square zero m =
      subst (λ (x : ℚ). Bound x (ofℕ 1 *q S B m -q ofℕ 1 *q S B m)) (qring (con (pos 0)) (one ⊗ x₀ ⊖ one ⊗ x₀) refl (S b m ∷ []))
      (subst (λ (x : ℚ). Bound (ofℤ (pos 0)) x) (qring (con (pos 0)) (one ⊗ x₀ ⊖ one ⊗ x₀) refl (S B m ∷ [])) (bound_self (nn_ofℕ 0)))
  square (suc n) m =
      let ih : Bound (S a n *q S b (suc (from m n)) -q triangle a b n (suc m)) (S A n *q S B (suc (from m n)) -q triangle A B n (suc m)) =
      subst (λ (k : ℕ). Bound (S a n *q S b k -q triangle a b n (suc m)) (S A n *q S B k -q triangle A B n (suc m))) (from_suc m n) (square n (suc m)) in
      let d = S_diff b B hb m (suc n) in
      let t = term_bound a A ha (suc n) in
      let e = λ (x X : ℚ) (u v w : ℚ). qring (x₀ ⊗ x₂ ⊖ x₃ ⊕ x₁ ⊗ (x₂ ⊖ x₄)) ((x₀ ⊕ x₁) ⊗ x₂ ⊖ (x₃ ⊕ x₁ ⊗ x₄)) refl (x ∷ X ∷ u ∷ v ∷ w ∷ []) in
      subst (λ (x : ℚ). Bound x (S A (suc n) *q S B (suc (from m n)) -q triangle A B (suc n) m)) (e (S a n) (term a (suc n)) (S b (suc (from m n))) (triangle a b n (suc m)) (S b m))
      (subst (λ (x : ℚ). Bound (S a n *q S b (suc (from m n)) -q triangle a b n (suc m) +q term a (suc n) *q (S b (suc (from m n)) -q S b m)) x) (e (S A n) (term A (suc n)) (S B (suc (from m n))) (triangle A B n (suc m)) (S B m))
      (bound_add ih (bound_mul t d)))

module _ (A B : ℚ) (na : T (nn A)) (nb : T (nn B)) where
  -- the triangle of side n holds the rectangle n by m, and longer ones hold more
  triangle_holds : (n m : ℕ) → S A n *q S B m ≤q triangle A B n m
  unfolding norm S term
  triangle_holds zero m = q_refl (ofℕ 1 *q S B m)
  triangle_holds (suc n) m =
      subst (λ (x : ℚ). x ≤q triangle A B n (suc m) +q term A (suc n) *q S B m) (qring (x₀ ⊗ x₂ ⊕ x₁ ⊗ x₂) ((x₀ ⊕ x₁) ⊗ x₂) refl (S A n ∷ term A (suc n) ∷ S B m ∷ []))
      (q_add (q_trans (q_mul (S A n) (S_nn A na n) (le_plus (S B m) (term B (suc m)) (term_nn B nb (suc m)))) (triangle_holds n (suc m))) (q_refl (term A (suc n) *q S B m)))

  triangle_holds_more : (n m j : ℕ) → S A n *q S B (from m j) ≤q triangle A B (from n j) m
  unfolding norm
  triangle_holds_more n m zero = triangle_holds n m
  triangle_holds_more n m (suc j) =
      q_trans (subst (λ (k : ℕ). S A n *q S B k ≤q triangle A B (from n j) (suc m)) (from_suc m j) (triangle_holds_more n (suc m) j))
      (le_plus (triangle A B (from n j) (suc m)) (term A (suc (from n j)) *q S B m) (nn_mul (term A (suc (from n j))) (S B m) (term_nn A na (suc (from n j))) (S_nn B nb m)))

-- the product of the sums at a and b is the sum at a + b, up to R
pub mult : (a b A B : ℚ) → Bound a A → Bound b B → (n : ℕ) → (A +q B) +q (A +q B) ≤q ofℕ n → Bound (S a n *q S b n -q S (a +q b) n) (R (A +q B) n)
unfolding norm ◌-q◌
mult a b A B ha hb n h =
    let na = bound_nn ha in
    let nb = bound_nn hb in
    let sq : Bound (S a n *q S b n -q S (a +q b) n) (S A n *q S B n -q S (A +q B) n) =
    subst (λ (k : ℕ). Bound (S a n *q S b k -q S (a +q b) n) (S A n *q S B k -q S (A +q B) n)) (from_zero n)
    (subst (λ (x : ℚ). Bound (S a n *q S b (from 0 n) -q S (a +q b) n) (S A n *q S B (from 0 n) -q x)) (triangle_is A B n)
    (subst (λ (x : ℚ). Bound (S a n *q S b (from 0 n) -q x) (S A n *q S B (from 0 n) -q triangle A B n 0)) (triangle_is a b n)
    (square a b A B ha hb n 0))) in
    let up : S A n *q S B n ≤q S (A +q B) (from n n) =
    subst (λ (k : ℕ). S A n *q S B k ≤q S (A +q B) (from n n)) (from_zero n)
    (subst (λ (x : ℚ). S A n *q S B (from 0 n) ≤q x) (triangle_is A B (from n n)) (triangle_holds_more A B na nb n 0 n)) in
    let tl = tail (A +q B) (A +q B) (bound_self (nn_add A B na nb)) n h n in
    bound_more sq (q_trans (q_add up (q_refl (-q◌ (S (A +q B) n)))) tl.hi)

-- three factors
pub mult₃ : (a b c A B C : ℚ) → Bound a A → Bound b B → Bound c C → (n : ℕ) → (A +q B +q C) +q (A +q B +q C) ≤q ofℕ n → (A +q B) +q (A +q B) ≤q ofℕ n → (V : ℚ) → Bound (S c n) V
    → Bound (S a n *q S b n *q S c n -q S (a +q b +q c) n) (R (A +q B) n *q V +q R (A +q B +q C) n)
unfolding norm ◌-q◌
mult₃ a b c A B C ba bb bc n h k V v =
    subst (λ (u : ℚ). Bound u (R (A +q B) n *q V +q R (A +q B +q C) n)) (qring ((x₀ ⊗ x₁ ⊖ x₂) ⊗ x₃ ⊕ (x₂ ⊗ x₃ ⊖ x₄)) (x₀ ⊗ x₁ ⊗ x₃ ⊖ x₄) refl (S a n ∷ S b n ∷ S (a +q b) n ∷ S c n ∷ S (a +q b +q c) n ∷ []))
    (bound_add (bound_mul (mult a b A B ba bb n k) v) (mult (a +q b) c (A +q B) C (bound_add ba bb) bc n h))
