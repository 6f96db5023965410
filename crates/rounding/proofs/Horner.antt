-- One step of Horner's scheme under a permitted multiply-add, with its error.
use Rattle.std.proofs.Common.{ℕ, ◌^◌, ◌<◌, T, [], ◌∷◌, refl, subst}
use Rattle.std.specs.Float.{Float, Format}
use Rattle.std.specs.Float.Ieee.{emax}
use Rattle.std.specs.Float.Ieee.Scale.{finite}
use Rattle.exact.proofs.Ring.{◌⊕◌, ◌⊖◌, ◌⊗◌, norm}
use Rattle.exact.proofs.Integer.{x₀, x₁, x₂, x₃, x₄}
use Rattle.exact.proofs.Rational.{ℚ, ◌+q◌, ◌*q◌, -q◌, ◌-q◌, qring}
use Rattle.exact.proofs.Order.{◌≤q◌}
use Rattle.exact.proofs.Bound.{ofℕ, Bound, bound_more, bound_add, bound_mul}
use Rattle.rounding.specs.Ranges.{Permitted}
use Rattle.rounding.proofs.Value.{val}
use Rattle.rounding.proofs.MultiplyAdd.{slip, slip₂, fma_err}

-- r is finite and within e of v, which is within V of 0
pub record Ball (r : Float) (v V e : ℚ) : Type 0 where
  pub is_finite : T (finite r)
  pub off : Bound (val r -q v) e
  pub size : Bound v V

-- and so of the size of r
pub ball_size : {r : Float} {v V e : ℚ} → Ball r v V e → Bound (val r) (V +q e)
unfolding norm ◌-q◌
ball_size {r} {v} {V} {e} b = subst (λ (u : ℚ). Bound u (V +q e)) (qring (x₀ ⊕ (x₁ ⊖ x₀)) x₁ refl (v ∷ val r ∷ [])) (bound_add b.size b.off)

-- the numbers of a step, all below 2 ^ t: the bounds X of x, V and e of what came before, A of the coefficient; those after it, V' and e'
abbrev pub Step : Format → ℕ → ℚ → ℚ → ℚ → ℚ → ℚ → ℚ → Type 0
Step f t X V e A V' e' =
    (X *q (V +q e) ≤q ofℕ (2 ^ t)) × (X *q (V +q e) +q A +q slip f (X *q (V +q e)) ≤q ofℕ (2 ^ t))
    × (X *q V +q A ≤q V') × (X *q e +q slip₂ f (X *q (V +q e)) (X *q (V +q e) +q A) ≤q e')

pub step : (f : Format) (t : ℕ) → t < emax f → (x acc a r : Float) (v X V e A V' e' : ℚ) → T (finite x) → Bound (val x) X → T (finite a) → Bound (val a) A
    → Ball acc v V e → Permitted f x acc a r → Step f t X V e A V' e' → Ball r (val x *q v +q val a) V' e'
unfolding norm ◌-q◌
step f t te x acc a r v X V e A V' e' fx bx fa ba b law c =
    let ac = ball_size b in
    let p : Bound (val x *q val acc) (X *q (V +q e)) = bound_mul bx ac in
    let m : Bound (val x *q val acc +q val a) (X *q (V +q e) +q A) = bound_add p ba in
    let w = fma_err f x acc a r (X *q (V +q e)) (X *q (V +q e) +q A) t fx b.is_finite fa law p m c.0 c.1 te in
    let d : Bound (val x *q (val acc -q v)) (X *q e) = bound_mul bx b.off in
    record {
      is_finite = w.is_finite;
      off = bound_more (subst (λ (u : ℚ). Bound u (X *q e +q slip₂ f (X *q (V +q e)) (X *q (V +q e) +q A)))
          (qring (x₀ ⊗ (x₁ ⊖ x₂) ⊕ (x₄ ⊖ (x₀ ⊗ x₁ ⊕ x₃))) (x₄ ⊖ (x₀ ⊗ x₂ ⊕ x₃)) refl (val x ∷ val acc ∷ v ∷ val a ∷ val r ∷ [])) (bound_add d w.off)) c.3;
      size = bound_more (bound_add (bound_mul bx b.size) ba) c.2;
    }
