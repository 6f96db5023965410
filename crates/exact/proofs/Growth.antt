-- The sums grow with an argument that is not negative, and change little where the argument does.
use Rattle.std.proofs.Common.{◌≡◌, refl, sym, ap, ap₂, ◌∙◌, subst, [], ◌∷◌, ℕ, zero, suc, ◌≤◌, T, pos}
use Rattle.exact.proofs.Ring.{con, ◌⊕◌, ◌⊖◌, ◌⊗◌, ⊝, norm}
use Rattle.exact.proofs.Integer.{x₀, x₁, x₂, x₃, x₄}
use Rattle.exact.proofs.Rational.{ℚ, is, ◌+q◌, ◌*q◌, -q◌, ◌-q◌, ofℤ, qring}
use Rattle.exact.proofs.Order.{nn, ◌≤q◌, q_refl, q_trans, q_add, q_neg, q_mul}
use Rattle.exact.proofs.Bound.{ofℕ, inv, inv_mul, nn_inv, nn_ofℕ, nn_le, le_nn, Bound, bound_nn, bound_more, bound_add, bound_mul, bound_self, mul_right, le_plus, mul_one}
use Rattle.exact.proofs.Compare.{dy}
use Rattle.exact.proofs.Series.{term, S, R, term_nn, term_bound, from, later}
use Rattle.exact.proofs.Product.{cnt, cnt_is, term_suc}

pub S_zero : (n : ℕ) → S (ofℤ (pos 0)) n ≡ ofℕ 1
unfolding S term norm ofℕ
S_zero zero = refl
S_zero (suc n) = qring (x₀ ⊕ x₁ ⊗ con (pos 0) ⊗ x₂) x₀ refl (S (ofℤ (pos 0)) n ∷ term (ofℤ (pos 0)) n ∷ inv n ∷ []) ∙ S_zero n

-- larger arguments have larger terms and sums
pub S_mono : (A B : ℚ) → T (nn A) → A ≤q B → (n : ℕ) → (term A n ≤q term B n) × (S A n ≤q S B n)
unfolding S term
S_mono A B t h zero = (q_refl (ofℕ 1), q_refl (ofℕ 1))
S_mono A B t h (suc n) =
    let ih = S_mono A B t h n in
    let n_b : T (nn B) = le_nn (q_trans (nn_le t) h) in
    let s : term A n *q A *q inv n ≤q term B n *q B *q inv n = mul_right (inv n) (nn_inv n) (q_trans (q_mul (term A n) (term_nn A t n) h) (mul_right B n_b ih.0)) in
    (s, q_add ih.1 s)

pub R_mono : (A B : ℚ) → T (nn A) → A ≤q B → (n : ℕ) → R A n ≤q R B n
R_mono A B t h n = let s = (S_mono A B t h (suc n)).0 in q_add s s

-- the first two terms
pub S_one : (t : ℚ) → S t 1 ≡ ofℕ 1 +q t
unfolding S term norm ofℕ
S_one t = ap (λ (x : ℚ). ofℕ 1 +q ofℕ 1 *q t *q x) inv_zero ∙ qring (con (pos 1) ⊕ con (pos 1) ⊗ x₀ ⊗ con (pos 1)) (con (pos 1) ⊕ x₀) refl (t ∷ [])
  where
    inv_zero : inv 0 ≡ ofℤ (pos 1)
    inv_zero = unfold inv ofℤ in refl

pub R_one : (t : ℚ) → R t 1 ≡ t *q t
unfolding term norm ofℕ
R_one t =
    ap₂ (λ (x y : ℚ). ofℕ 1 *q t *q x *q t *q y +q ofℕ 1 *q t *q x *q t *q y) inv_zero inv_one
    ∙ qring (con (pos 1) ⊗ x₀ ⊗ con (pos 1) ⊗ x₀ ⊗ x₁ ⊕ con (pos 1) ⊗ x₀ ⊗ con (pos 1) ⊗ x₀ ⊗ x₁) (x₀ ⊗ x₀ ⊗ (x₁ ⊕ x₁)) refl (t ∷ dy 1 1 ∷ [])
    ∙ ap (λ (x : ℚ). t *q t *q x) two_halves
    ∙ mul_one (t *q t)
  where
    inv_zero : inv 0 ≡ ofℤ (pos 1)
    inv_zero = unfold inv ofℤ in refl

    inv_one : inv 1 ≡ dy 1 1
    inv_one = unfold inv in is refl

    two_halves : dy 1 1 +q dy 1 1 ≡ ofℕ 1
    two_halves = unfold ofℕ ofℤ ◌+q◌ in is refl

-- the sums at what is not negative grow with n
pub S_more : (A : ℚ) → T (nn A) → (n j : ℕ) → S A n ≤q S A (from n j)
unfolding S
S_more A t n zero = q_refl (S A n)
S_more A t n (suc j) = q_trans (S_more A t n j) (le_plus (S A (from n j)) (term A (suc (from n j))) (term_nn A t (suc (from n j))))

pub S_tangent : (A : ℚ) → T (nn A) → (n : ℕ) → 1 ≤ n → ofℕ 1 +q A ≤q S A n
S_tangent A t n h = later (λ m. ofℕ 1 +q A ≤q S A m) 1 (λ j. subst (λ (x : ℚ). x ≤q S A (from 1 j)) (S_one A) (S_more A t 1 j)) n h

-- ---- near arguments have near sums: |S t - S u| is at most d S A, where A bounds |t| and |u|, and d bounds |t - u|
module _ (t u A d : ℚ) (bt : Bound t A) (bu : Bound u A) (bd : Bound (t -q u) d) where
  term_steady : (k : ℕ) → Bound (term t (suc k) -q term u (suc k)) (d *q term A k)
  unfolding norm ◌-q◌ term ofℕ cnt
  term_steady zero =
      subst (λ (x : ℚ). Bound x (d *q ofℕ 1)) (qring ((x₀ ⊖ x₁) ⊗ con (pos 1)) (con (pos 1) ⊗ x₀ ⊗ con (pos 1) ⊖ con (pos 1) ⊗ x₁ ⊗ con (pos 1)) refl (t ∷ u ∷ []) ∙ ap (λ (x : ℚ). ofℕ 1 *q t *q x -q ofℕ 1 *q u *q x) one)
      (bound_mul bd (bound_self (nn_ofℕ 1)))
    where
      one : ofℤ (pos 1) ≡ inv 0
      one = unfold inv ofℤ in refl
  term_steady (suc k) =
      let T₁ = term t (suc k) in
      let U₁ = term u (suc k) in
      let A₁ = term A (suc k) in
      let i = inv (suc k) in
      let c = cnt k in
      subst (λ (x : ℚ). Bound x (d *q A₁)) (qring ((x₀ ⊗ (x₂ ⊖ x₃) ⊕ (x₀ ⊖ x₁) ⊗ x₃) ⊗ x₄) (x₀ ⊗ x₂ ⊗ x₄ ⊖ x₁ ⊗ x₃ ⊗ x₄) refl (T₁ ∷ U₁ ∷ t ∷ u ∷ i ∷ []))
      (subst (λ (x : ℚ). Bound ((T₁ *q (t -q u) +q (T₁ -q U₁) *q u) *q i) x)
      (qring ((x₁ ⊗ x₀ ⊕ x₀ ⊗ x₂ ⊗ x₃) ⊗ x₄) (x₀ ⊗ (x₁ ⊕ x₃ ⊗ x₂) ⊗ x₄) refl (d ∷ A₁ ∷ term A k ∷ A ∷ i ∷ [])
      ∙ ap (λ (x : ℚ). d *q (A₁ +q x) *q i) (sym (term_suc A k))
      ∙ qring (x₀ ⊗ (x₁ ⊕ (con (pos 1) ⊕ x₂) ⊗ x₁) ⊗ x₃) (x₀ ⊗ x₁ ⊗ ((con (pos 1) ⊕ (con (pos 1) ⊕ x₂)) ⊗ x₃)) refl (d ∷ A₁ ∷ c ∷ i ∷ [])
      ∙ ap (λ (x : ℚ). d *q A₁ *q (x *q i)) (sym (cnt_is (suc (suc k))))
      ∙ ap (λ (x : ℚ). d *q A₁ *q x) (inv_mul (suc k))
      ∙ mul_one (d *q A₁))
      (bound_mul (bound_add (bound_mul (term_bound t A bt (suc k)) bd) (bound_mul (term_steady k) bu)) (bound_self (nn_inv (suc k)))))

  sum_steady : (n : ℕ) → Bound (S t (suc n) -q S u (suc n)) (d *q S A n)
  unfolding norm ◌-q◌ S term ofℕ
  sum_steady zero =
      subst (λ (x : ℚ). Bound x (d *q ofℕ 1)) (qring (x₀ ⊖ x₁) (con (pos 1) ⊕ x₀ ⊖ (con (pos 1) ⊕ x₁)) refl (term t 1 ∷ term u 1 ∷ [])) (term_steady zero)
  sum_steady (suc n) =
      subst (λ (x : ℚ). Bound x (d *q (S A n +q term A (suc n)))) (qring (x₀ ⊖ x₁ ⊕ (x₂ ⊖ x₃)) (x₀ ⊕ x₂ ⊖ (x₁ ⊕ x₃)) refl (S t (suc n) ∷ S u (suc n) ∷ term t (suc (suc n)) ∷ term u (suc (suc n)) ∷ []))
      (subst (λ (x : ℚ). Bound (S t (suc n) -q S u (suc n) +q (term t (suc (suc n)) -q term u (suc (suc n)))) x) (qring (x₀ ⊗ x₁ ⊕ x₀ ⊗ x₂) (x₀ ⊗ (x₁ ⊕ x₂)) refl (d ∷ S A n ∷ term A (suc n) ∷ []))
      (bound_add (sum_steady n) (term_steady (suc n))))

  pub S_steady : (n : ℕ) → Bound (S t n -q S u n) (d *q S A n)
  unfolding norm ◌-q◌ S ofℕ
  S_steady zero =
      subst (λ (x : ℚ). Bound x (d *q ofℕ 1)) (qring ((x₀ ⊖ x₀) ⊗ con (pos 1)) (con (pos 1) ⊖ con (pos 1)) refl (t ∷ []))
      (bound_mul (record { hi = subst (λ (x : ℚ). x ≤q d) (qring (con (pos 0)) (x₀ ⊖ x₀) refl (t ∷ [])) (nn_le nd); lo = subst (λ (x : ℚ). -q◌ d ≤q x) (qring (⊝ (con (pos 0))) (x₀ ⊖ x₀) refl (t ∷ [])) (q_neg (nn_le nd)) }) (bound_self (nn_ofℕ 1)))
    where
      nd : T (nn d)
      nd = bound_nn bd
  S_steady (suc n) = bound_more (sum_steady n) (q_mul d (bound_nn bd) (S_more A (bound_nn bt) n 1))
