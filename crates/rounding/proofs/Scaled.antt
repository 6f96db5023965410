-- Roundings whose errors are told in parts of a number h between 2 ^ -160 and 2 ^ 160.
use Rattle.std.proofs.Common.{◌^◌, T, [], ◌∷◌, refl, subst, lit≤}
use Rattle.std.specs.Float.{Float, binary64}
use Rattle.std.specs.Float.Ieee.{mul}
use Rattle.std.specs.Float.Ieee.Scale.{finite}
use Rattle.exact.proofs.Ring.{◌⊕◌, ◌⊖◌, ◌⊗◌, ⊝, norm}
use Rattle.exact.proofs.Integer.{x₀, x₁, x₂, x₃, x₄, x₅}
use Rattle.exact.proofs.Rational.{ℚ, ◌+q◌, ◌*q◌, -q◌, ◌-q◌, qring}
use Rattle.exact.proofs.Order.{nn, nn_add, ◌≤q◌, le_by, q_refl, q_trans, q_add, q_mul}
use Rattle.exact.proofs.Bound.{ofℕ, Bound, bound_more}
use Rattle.rounding.specs.Ranges.{Permitted}
use Rattle.exact.proofs.Compare.{dy}
use Rattle.rounding.proofs.Value.{val, mul_rounds}
use Rattle.rounding.proofs.Error.{eps, tiny, round_err}
use Rattle.rounding.proofs.MultiplyAdd.{slip, slip₂, slip_mono, fma_err}

abbrev pub grain : ℚ
grain = dy 1 900

-- the error of one rounding of what is at most a h, and of a lawful multiply-add, in parts of h
abbrev pub part : ℚ → ℚ
part a = a *q eps binary64 +q grain

abbrev pub part₂ : ℚ → ℚ → ℚ
part₂ a b = part a +q part (b +q part a)

tiny_small : tiny binary64 ≤q grain *q dy 1 160
unfolding nn ◌-q◌ ◌+q◌ -q◌ ◌*q◌
tiny_small = record { le = tt }

nn_grain : T (nn grain)
unfolding nn
nn_grain = tt

-- r is at least L, where r is within e of y + a, y within B of 0, and L + B + e is at most a
pub above : {r y a B e L : ℚ} → Bound (r -q (y +q a)) e → Bound y B → L +q (B +q e) ≤q a → L ≤q r
unfolding norm ◌-q◌
above {r} {y} {a} {B} {e} {L} h k l =
    le_by (r -q (y +q a) -q (-q◌ e) +q (y -q (-q◌ B)) +q (a -q (L +q (B +q e)))) (nn_add _ _ (nn_add _ _ h.lo.le k.lo.le) l.le)
    (qring (x₀ ⊖ x₅) (x₀ ⊖ (x₁ ⊕ x₂) ⊖ ⊝ x₄ ⊕ (x₁ ⊖ ⊝ x₃) ⊕ (x₂ ⊖ (x₅ ⊕ (x₃ ⊕ x₄)))) refl (r ∷ y ∷ a ∷ B ∷ e ∷ L ∷ []))

module _ (h : ℚ) (nh : T (nn h)) (low-h : dy 1 160 ≤q h) (high-h : h ≤q ofℕ (2 ^ 160)) where
  slip_part : (a : ℚ) → slip binary64 (a *q h) ≤q part a *q h
  unfolding norm
  slip_part a = subst (λ (u : ℚ). slip binary64 (a *q h) ≤q u) (qring (x₀ ⊗ x₂ ⊗ x₁ ⊕ x₃ ⊗ x₂) ((x₀ ⊗ x₁ ⊕ x₃) ⊗ x₂) refl (a ∷ eps binary64 ∷ h ∷ grain ∷ []))
      (q_add (q_refl (a *q h *q eps binary64)) (q_trans tiny_small (q_mul grain nn_grain low-h)))

  both_parts : (a b : ℚ) → b *q h +q slip binary64 (a *q h) ≤q (b +q part a) *q h
  unfolding norm
  both_parts a b = subst (λ (u : ℚ). b *q h +q slip binary64 (a *q h) ≤q u) (qring (x₀ ⊗ x₂ ⊕ x₁ ⊗ x₂) ((x₀ ⊕ x₁) ⊗ x₂) refl (b ∷ part a ∷ h ∷ [])) (q_add (q_refl (b *q h)) (slip_part a))

  slip₂_part : (a b : ℚ) → slip₂ binary64 (a *q h) (b *q h) ≤q part₂ a b *q h
  unfolding norm
  slip₂_part a b = subst (λ (u : ℚ). slip₂ binary64 (a *q h) (b *q h) ≤q u) (qring (x₀ ⊗ x₂ ⊕ x₁ ⊗ x₂) ((x₀ ⊕ x₁) ⊗ x₂) refl (part a ∷ part (b +q part a) ∷ h ∷ []))
      (q_add (slip_part a) (q_trans (slip_mono binary64 (both_parts a b)) (slip_part (b +q part a))))

  cap : (a : ℚ) → T (nn a) → a *q ofℕ (2 ^ 160) ≤q ofℕ (2 ^ 200) → a *q h ≤q ofℕ (2 ^ 200)
  cap a na c = q_trans (q_mul a na high-h) c

  pub mul_part : (x y : Float) (a : ℚ) → T (nn a) → a *q ofℕ (2 ^ 160) ≤q ofℕ (2 ^ 200) → T (finite x) → T (finite y) → Bound (val x *q val y) (a *q h)
      → T (finite (mul binary64 x y)) × Bound (val (mul binary64 x y) -q val x *q val y) (part a *q h)
  mul_part x y a na c fx fy b =
      let w = round_err binary64 (mul binary64 x y) (val x *q val y) (a *q h) 200 (mul_rounds binary64 x y fx fy) b (cap a na c) (lit≤ tt) in
      (w.is_finite, bound_more w.off (slip_part a))

  pub fma_part : (x y z r : Float) (a b : ℚ) → T (nn a) → T (nn (b +q part a)) → a *q ofℕ (2 ^ 160) ≤q ofℕ (2 ^ 200) → (b +q part a) *q ofℕ (2 ^ 160) ≤q ofℕ (2 ^ 200)
      → T (finite x) → T (finite y) → T (finite z) → Permitted binary64 x y z r → Bound (val x *q val y) (a *q h) → Bound (val x *q val y +q val z) (b *q h)
      → T (finite r) × Bound (val r -q (val x *q val y +q val z)) (part₂ a b *q h)
  fma_part x y z r a b na nb ca cb fx fy fz law p m =
      let w = fma_err binary64 x y z r (a *q h) (b *q h) 200 fx fy fz law p m (cap a na ca) (q_trans (both_parts a b) (cap (b +q part a) nb cb)) (lit≤ tt) in
      (w.is_finite, bound_more w.off (slip₂_part a b))
