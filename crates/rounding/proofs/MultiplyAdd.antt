-- A lawful multiply-add: rounded once, or the product rounded and then the sum. Its error under bounds of the product and of the result.
use Rattle.std.proofs.Common.{ℕ, suc, ◌^◌, ◌≤◌, T, [], ◌∷◌, sym, refl, subst}
use Rattle.std.specs.Float.{Float, Format}
use Rattle.std.specs.Float.Ieee.{emax, mul}
use Rattle.std.specs.Float.Ieee.Scale.{finite}
use Rattle.exact.proofs.Ring.{◌⊕◌, ◌⊖◌, ◌⊗◌, norm}
use Rattle.exact.proofs.Integer.{x₀, x₁, x₂, x₃, x₄}
use Rattle.exact.proofs.Rational.{ℚ, ◌+q◌, ◌*q◌, -q◌, ◌-q◌, qring}
use Rattle.exact.proofs.Order.{nn, nn_add, nn_mul, ◌≤q◌, le_by, q_refl, q_trans, q_add}
use Rattle.exact.proofs.Bound.{ofℕ, Bound, bound_more, bound_add, bound_nn, mul_right, le_plus}
use Rattle.rounding.specs.Ranges.{Permitted, once, twice}
use Rattle.rounding.proofs.Value.{val, Rounds, mul_rounds, add_rounds, fused_rounds}
use Rattle.rounding.proofs.Error.{eps, tiny, round_err, nn_eps, nn_tiny}

-- the error of the product, and of all
abbrev pub slip : Format → ℚ → ℚ
slip f P = P *q eps f +q tiny f

abbrev pub slip₂ : Format → ℚ → ℚ → ℚ
slip₂ f P M = slip f P +q slip f (M +q slip f P)

pub record Fma (f : Format) (x y z r : Float) (P M : ℚ) : Type 0 where
  pub is_finite : T (finite r)
  pub off : Bound (val r -q (val x *q val y +q val z)) (slip₂ f P M)

less : (x y : ℚ) → T (nn x) → y ≤q x +q y
unfolding norm ◌-q◌
less x y t = le_by x t (qring (x₀ ⊕ x₁ ⊖ x₁) x₀ refl (x ∷ y ∷ []))

pub slip_mono : (f : Format) {M N : ℚ} → M ≤q N → slip f M ≤q slip f N
slip_mono f h = q_add (mul_right (eps f) (nn_eps f) h) (q_refl (tiny f))

nn_slip : (f : Format) (P : ℚ) → T (nn P) → T (nn (slip f P))
nn_slip f P h = nn_add (P *q eps f) (tiny f) (nn_mul P (eps f) h (nn_eps f)) (nn_tiny f)

pub fma_err : (f : Format) (x y z r : Float) (P M : ℚ) (t : ℕ) → T (finite x) → T (finite y) → T (finite z) → Permitted f x y z r
    → Bound (val x *q val y) P → Bound (val x *q val y +q val z) M
    → P ≤q ofℕ (2 ^ t) → M +q slip f P ≤q ofℕ (2 ^ t) → suc t ≤ emax f → Fma f x y z r P M
unfolding norm ◌-q◌
fma_err f x y z r P M t fx fy fz (once e) bp bm p m h =
    let np = bound_nn bp in
    let w = round_err f r (val x *q val y +q val z) M t (subst (λ (u : Float). Rounds f u (val x *q val y +q val z)) (sym e) (fused_rounds f x y z fx fy fz)) bm (q_trans (le_plus M (slip f P) (nn_slip f P np)) m) h in
    record { is_finite = w.is_finite; off = bound_more w.off (q_trans (slip_mono f (le_plus M (slip f P) (nn_slip f P np))) (less (slip f P) (slip f (M +q slip f P)) (nn_slip f P np))) }
fma_err f x y z r P M t fx fy fz (twice e) bp bm p m h =
    let q = mul f x y in
    let a = round_err f q (val x *q val y) P t (mul_rounds f x y fx fy) bp p h in
    let s : Bound (val q +q val z) (M +q slip f P) =
    subst (λ (u : ℚ). Bound u (M +q slip f P)) (qring (x₀ ⊗ x₁ ⊕ x₂ ⊕ (x₃ ⊖ x₀ ⊗ x₁)) (x₃ ⊕ x₂) refl (val x ∷ val y ∷ val z ∷ val q ∷ [])) (bound_add bm a.off) in
    let b = round_err f r (val q +q val z) (M +q slip f P) t (subst (λ (u : Float). Rounds f u (val q +q val z)) (sym e) (add_rounds f q z a.is_finite fz)) s m h in
    record {
      is_finite = b.is_finite;
      off = subst (λ (u : ℚ). Bound u (slip₂ f P M)) (qring (x₃ ⊖ x₀ ⊗ x₁ ⊕ (x₄ ⊖ (x₃ ⊕ x₂))) (x₄ ⊖ (x₀ ⊗ x₁ ⊕ x₂)) refl (val x ∷ val y ∷ val z ∷ val q ∷ val r ∷ [])) (bound_add a.off b.off);
    }
