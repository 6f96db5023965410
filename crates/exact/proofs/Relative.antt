-- Errors relative to a number that is not negative.
use Rattle.std.proofs.Common.{refl, subst, [], ◌∷◌, T}
use Rattle.exact.proofs.Ring.{◌⊕◌, ◌⊖◌, ◌⊗◌, norm}
use Rattle.exact.proofs.Integer.{x₀, x₁, x₂, x₃}
use Rattle.exact.proofs.Rational.{ℚ, ◌+q◌, ◌*q◌, -q◌, ◌-q◌, qring}
use Rattle.exact.proofs.Order.{nn, nn_mul, ◌≤q◌, le_by}
use Rattle.exact.proofs.Bound.{Bound, bound_more, bound_add, bound_mul, bound_self, mul_right}

-- y is within e x of x
pub record Rel (y x e : ℚ) : Type 0 where
  pub off : Bound (y -q x) (e *q x)

pub rel_more : {y x e : ℚ} (e' : ℚ) → T (nn x) → Rel y x e → e ≤q e' → Rel y x e'
rel_more {y} {x} {e} e' n r h = record { off = bound_more r.off (mul_right x n h) }

pub rel_mul : {y x e y' x' e' : ℚ} → T (nn x) → T (nn x') → Rel y x e → Rel y' x' e' → Rel (y *q y') (x *q x') (e +q e' +q e *q e')
unfolding norm ◌-q◌
rel_mul {y} {x} {e} {y'} {x'} {e'} n n' r r' = record {
  off =
      subst (λ (z : ℚ). Bound z ((e +q e' +q e *q e') *q (x *q x'))) (qring ((x₀ ⊖ x₁) ⊗ (x₂ ⊖ x₃) ⊕ x₁ ⊗ (x₂ ⊖ x₃) ⊕ (x₀ ⊖ x₁) ⊗ x₃) (x₀ ⊗ x₂ ⊖ x₁ ⊗ x₃) refl (y ∷ x ∷ y' ∷ x' ∷ []))
      (subst (λ (z : ℚ). Bound ((y -q x) *q (y' -q x') +q x *q (y' -q x') +q (y -q x) *q x') z) (qring ((x₀ ⊗ x₁) ⊗ (x₂ ⊗ x₃) ⊕ x₁ ⊗ (x₂ ⊗ x₃) ⊕ (x₀ ⊗ x₁) ⊗ x₃) ((x₀ ⊕ x₂ ⊕ x₀ ⊗ x₂) ⊗ (x₁ ⊗ x₃)) refl (e ∷ x ∷ e' ∷ x' ∷ []))
      (bound_add (bound_add (bound_mul r.off r'.off) (bound_mul (bound_self n) r'.off)) (bound_mul r.off (bound_self n'))));
}

-- z near q, q near x
pub rel_trans : {z q x a b : ℚ} → T (nn a) → Rel z q a → Rel q x b → Rel z x (a +q b +q a *q b)
unfolding norm ◌-q◌
rel_trans {z} {q} {x} {a} {b} na r s = record {
  off =
      subst (λ (u : ℚ). Bound u ((a +q b +q a *q b) *q x)) (qring (x₀ ⊖ x₁ ⊕ (x₁ ⊖ x₂)) (x₀ ⊖ x₂) refl (z ∷ q ∷ x ∷ []))
      (bound_more (bound_add r.off s.off)
      (le_by (a *q (b *q x -q (q -q x))) (nn_mul a (b *q x -q (q -q x)) na s.off.hi.le) (qring ((x₂ ⊕ x₃ ⊕ x₂ ⊗ x₃) ⊗ x₁ ⊖ (x₂ ⊗ x₀ ⊕ x₃ ⊗ x₁)) (x₂ ⊗ (x₃ ⊗ x₁ ⊖ (x₀ ⊖ x₁))) refl (q ∷ x ∷ a ∷ b ∷ []))));
}
