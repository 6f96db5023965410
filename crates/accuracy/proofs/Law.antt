-- From the law of an arithmetic to what the proofs use: the narrow multiply-add on its range, and what is asked for within the wide one.
use Rattle.std.proofs.Common.{◌≡◌, ℕ, T, [], ◌∷◌, pos, refl, ap, ◌∙◌, subst, inl, inr}
use Rattle.std.specs.Float.{Float, nan, inf, fin, Format, binary32, binary64}
use Rattle.std.specs.Float.Ieee.{fits}
use Rattle.exact.proofs.Ring.{con, ◌⊗◌, norm}
use Rattle.exact.proofs.Integer.{x₀, x₁}
use Rattle.exact.proofs.Rational.{ℚ, is, ◌*q◌, ofℤ, qring}
use Rattle.exact.proofs.Order.{◌≤q◌, q_mul}
use Rattle.exact.proofs.Bound.{ofℕ}
use Rattle.exact.proofs.Compare.{dy, nn_dy}
use Rattle.rounding.specs.Ranges.{Ranged, Permitted, once, twice}
use Rattle.rounding.proofs.Range.{FmaLaw}
use Rattle.arithmetic.specs.Arithmetic.{Arithmetic, Lawful, OneOrTwo}
use Rattle.curves.proofs.Law.{ranged_in}
use Rattle.accuracy.specs.Arguments.{Asked}

-- a number of a range is of the format, whatever the range
pub ranged_fits : (f : Format) (n : ℕ) (x : Float) → Ranged f n x → T (fits f x)
ranged_fits f n nan r = absurd r
ranged_fits f n (inf s) r = absurd r
ranged_fits f n (fin s m e) r = r.0

permitted : {f : Format} {x y z r : Float} → OneOrTwo f x y z r → Permitted f x y z r
permitted (inl e) = once e
permitted (inr e) = twice e

pub fmaf_law : (a : Arithmetic) → Lawful a → FmaLaw binary32 60 a.fmaf
fmaf_law a v x y z p q r =
    let i = ranged_in binary32 59 x p in
    let j = ranged_in binary32 59 y q in
    let k = ranged_in binary32 59 z r in
    permitted (v.fmaf_law x y z i.0 j.0 k.0 i.1 j.1 k.1)

-- a multiply-add of numbers in the range of the law is asked for within it
pub asked : {x y z : Float} → Ranged binary64 400 x → Ranged binary64 400 y → Ranged binary64 400 z → Asked binary64 400 x y z
asked {x} {y} {z} a b c = record { of_x = ranged_in binary64 399 x a; of_y = ranged_in binary64 399 y b; of_z = ranged_in binary64 399 z c }

half_number : dy 1 1 *q ofℕ 2 ≡ ofℤ (pos 1)
unfolding ◌*q◌ ofℕ ofℤ
half_number = is refl

-- twice a distance of at most 1
half_of : (a : ℚ) → ofℕ 2 *q a ≤q ofℕ 1 → a ≤q dy 1 1
unfolding norm ofℕ
half_of a h =
    subst (λ (u : ℚ). u ≤q dy 1 1) (qring (x₀ ⊗ (con (pos 2) ⊗ x₁)) (x₀ ⊗ con (pos 2) ⊗ x₁) refl (dy 1 1 ∷ a ∷ []) ∙ ap (λ (u : ℚ). u *q a) half_number ∙ qring (con (pos 1) ⊗ x₀) x₀ refl (a ∷ []))
    (subst (λ (u : ℚ). dy 1 1 *q (ofℕ 2 *q a) ≤q u) (qring (x₀ ⊗ con (pos 1)) x₀ refl (dy 1 1 ∷ [])) (q_mul (dy 1 1) (nn_dy 1 1) h))
