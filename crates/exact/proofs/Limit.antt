-- What is at most b + c / (d + 1) for every d is at most b; a whole number above each fraction.
use Rattle.std.proofs.Common.{refl, subst, [], ◌∷◌, ℕ, zero, suc, ◌*◌, ◌≤◌, zero-lt-suc, mul-le-mul_right, mul-le-mul_left, arith, T, le→leb, ℤ, pos, negsuc, ◌+ℤ◌, ◌*ℤ◌, nat_abs}
use Rattle.std.specs.Int.Signed.{le_z, non_neg}
use Rattle.std.proofs.Math.Nat.{le-suc}
use Rattle.std.proofs.Math.Dec.{T_prop}
use Rattle.std.proofs.lemmas.Int.{ints}
use std.Quotient.{cls, /_elim_prop}
use mathlib.Core.HLevel.{Π_prop}
use Rattle.exact.specs.Fraction.{Fraction, whole, ◌≼◌}
use Rattle.exact.proofs.Ring.{◌⊕◌, ◌⊖◌, norm}
use Rattle.exact.proofs.Integer.{x₀, x₁, x₂}
use Rattle.exact.proofs.Rational.{ℚ, ◌+q◌, ◌*q◌, -q◌, ◌-q◌, ofℤ, qring}
use Rattle.exact.proofs.Order.{nn, ◌≤q◌, q_refl, q_trans, q_add}
use Rattle.exact.proofs.Bound.{ofℕ, inv}
use Rattle.exact.proofs.Compare.{leq_in, bound_abs}

nn_limit : (q : ℚ) → ((d : ℕ) → T (nn (q +q inv d))) → T (nn q)
unfolding nn ◌+q◌ inv
nn_limit = /_elim_prop (λ q. ((d : ℕ) → T (nn (q +q inv d))) → T (nn q)) (λ q. Π_prop (λ _. T_prop (nn q))) (λ z h. go z.num z.den (h z.den))
  where
    go : (n : ℤ) (c : ℕ) → T (non_neg (n *ℤ pos (suc c) +ℤ pos 1 *ℤ pos c)) → T (non_neg n)
    go (pos n) c t = tt
    go (negsuc n) c t =
        let x = negsuc n *ℤ pos (suc c) in
        let y = pos 1 *ℤ pos c in
        let k : 1 * suc c ≤ suc n * suc c = mul-le-mul_right (suc c) (zero-lt-suc n) in
        absurd (omega (arith, ints))

-- c parts of 1 / (m + 1) are at most 1 / (e + 1), where m is large enough
pub over : (c m e : ℕ) → c * suc e ≤ suc m → ofℕ c *q inv m ≤q inv e
unfolding ofℕ ofℤ inv ◌*q◌
over c m e h = leq_in _ _ (le→leb (c * 1 * suc e) (1 * (1 * suc m)) (omega arith))

-- a is at most b, if it is at most b + c / (d + 1) for every d
pub squeeze : (c : ℕ) (a b : ℚ) → ((d : ℕ) → a ≤q b +q ofℕ c *q inv d) → a ≤q b
unfolding norm ◌-q◌
squeeze c a b h = record { le = nn_limit (b -q a) (λ d. subst (λ (x : ℚ). T (nn x)) (qring (x₁ ⊕ x₂ ⊖ x₀) (x₁ ⊖ x₀ ⊕ x₂) refl (a ∷ b ∷ inv d ∷ [])) (q_trans (h (c * suc d)) (q_add (q_refl b) (over c (c * suc d) d (le-suc (c * suc d))))).le) }

-- ---- a whole number above a fraction
pub size_of : Fraction → ℕ
size_of w = nat_abs w.num

pub size_above : (w : Fraction) → cls w ≤q ofℕ (size_of w)
unfolding ofℕ ofℤ size_of
size_above w = q_trans (bound_abs w).hi (leq_in _ _ (le→leb (nat_abs w.num * 1) (nat_abs w.num * w.den) (mul-le-mul_left (nat_abs w.num) w.ok)))

-- a fraction above 0 is at least some 1 / (d + 1)
pub some_part : (e : Fraction) → (e ≼ whole 0 → ⊥) → inv e.den ≤q cls e
unfolding inv
some_part e h = leq_in _ _ (go e.num e.den (λ t. h (record { le = t })))
  where
    go : (n : ℤ) (d : ℕ) → (T (le_z (n *ℤ pos 1) (pos 0 *ℤ pos d)) → ⊥) → T (le_z (pos 1 *ℤ pos d) (n *ℤ pos (suc d)))
    go (pos zero) d h = absurd (h (omega (arith, ints)))
    go (pos (suc n)) d h = le→leb (1 * d) (suc n * suc d) (let k : 1 * suc d ≤ suc n * suc d = mul-le-mul_right (suc d) (zero-lt-suc n) in omega arith)
    go (negsuc n) d h = absurd (h (omega (arith, ints)))
