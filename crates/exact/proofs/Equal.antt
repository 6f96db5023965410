-- Fractions that are the same number: symmetric, transitive, and kept by sums.
use Rattle.std.proofs.Common.{◌≡◌, refl, sym, ap, ◌∙◌, [], ◌∷◌, ℕ, ◌+◌, ◌<◌, arith, ℤ, pos, ◌*ℤ◌}
use Rattle.std.proofs.Math.Nat.{eq_of_mul-eq-mul_right}
use borrow.Author.Differences.{up, down, same_in, same_out, product_is}
use Rattle.exact.specs.Fraction.{Fraction, Same, plus}
use Rattle.exact.proofs.Ring.{◌⊗◌, norm}
use Rattle.exact.proofs.Integer.{zring, x₀, x₁, x₂}
use Rattle.exact.proofs.Rational.{add_l, add_comm_f}

-- a factor above 0 may be left out
pub cancel : (x y : ℤ) (c : ℕ) → 0 < c → x *ℤ pos c ≡ y *ℤ pos c → x ≡ y
cancel x y c p e =
    let h = same_out (x *ℤ pos c) (y *ℤ pos c) e in
    let q = product_is x (pos c) in
    let r = product_is y (pos c) in
    same_in x y (eq_of_mul-eq-mul_right c p (up x + down y) (up y + down x) (omega (arith, h, q, r)))

pub same_sym : (a b : Fraction) → Same a b → Same b a
same_sym a b e = sym e

pub same_trans : (a b c : Fraction) → Same a b → Same b c → Same a c
unfolding norm
same_trans a b c e f =
    let A = pos a.den in
    let B = pos b.den in
    let C = pos c.den in
    cancel (a.num *ℤ C) (c.num *ℤ A) b.den b.ok
    (zring (x₀ ⊗ x₁ ⊗ x₂) (x₀ ⊗ x₂ ⊗ x₁) refl (a.num ∷ C ∷ B ∷ [])
    ∙ ap (λ (z : ℤ). z *ℤ C) e
    ∙ zring (x₀ ⊗ x₁ ⊗ x₂) (x₀ ⊗ x₂ ⊗ x₁) refl (b.num ∷ A ∷ C ∷ [])
    ∙ ap (λ (z : ℤ). z *ℤ A) f
    ∙ zring (x₀ ⊗ x₁ ⊗ x₂) (x₀ ⊗ x₂ ⊗ x₁) refl (c.num ∷ B ∷ A ∷ []))

pub same_plus : (a a' b b' : Fraction) → Same a a' → Same b b' → Same (plus a b) (plus a' b')
same_plus a a' b b' e f =
    same_trans (plus a b) (plus a' b) (plus a' b') (add_l a a' b e)
    (same_trans (plus a' b) (plus b a') (plus a' b') (add_comm_f a' b)
    (same_trans (plus b a') (plus b' a') (plus a' b') (add_l b b' a' f) (add_comm_f b' a')))
