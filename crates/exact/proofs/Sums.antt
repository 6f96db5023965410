-- The sums, rests and places of the definitions are those of the rationals.
use Rattle.std.proofs.Common.{◌≡◌, refl, ap, ap₂, ◌∙◌, [], ◌∷◌, ℕ, zero, suc, pos}
use std.Quotient.{cls}
use Rattle.exact.specs.Fraction.{Fraction, whole, part, times, absolute}
use Rattle.exact.proofs.Ring.{con, ◌⊕◌, ◌⊗◌, norm}
use Rattle.exact.proofs.Integer.{x₀}
use Rattle.exact.proofs.Rational.{ℚ, ◌+q◌, ◌*q◌, qring}
use Rattle.exact.proofs.Order.{◌≤q◌}
use Rattle.exact.proofs.Bound.{ofℕ}
use Rattle.exact.proofs.Compare.{sum_cls, product_cls, integer_cls, whole_cls, part_cls, below_in, below_out}
use Rattle.exact.specs.Exponential as Spec
use Rattle.exact.proofs.Series.{term, S, R}

double_of : (w : Fraction) → cls (times (whole 2) w) ≡ cls w +q cls w
unfolding norm
double_of w = product_cls (whole 2) w ∙ ap (λ (x : ℚ). x *q cls w) (integer_cls (pos 2)) ∙ qring (con (pos 2) ⊗ x₀) (x₀ ⊕ x₀) refl (cls w ∷ [])

pub term_cls : (t : Fraction) (k : ℕ) → cls (Spec.term t k) ≡ term (cls t) k
unfolding Spec.term term
term_cls t zero = whole_cls 1
term_cls t (suc k) =
    product_cls (times (Spec.term t k) t) (part k)
    ∙ ap₂ (λ (x y : ℚ). x *q y) (product_cls (Spec.term t k) t ∙ ap (λ (x : ℚ). x *q cls t) (term_cls t k)) (part_cls k)

pub series_cls : (t : Fraction) (n : ℕ) → cls (Spec.series t n) ≡ S (cls t) n
unfolding Spec.series S
series_cls t zero = whole_cls 1
series_cls t (suc n) = sum_cls (Spec.series t n) (Spec.term t (suc n)) ∙ ap₂ (λ (x y : ℚ). x +q y) (series_cls t n) (term_cls t (suc n))

pub rest_cls : (t : Fraction) (n : ℕ) → cls (Spec.rest t n) ≡ R (cls (absolute t)) n
unfolding Spec.rest
rest_cls t n = double_of (Spec.term (absolute t) (suc n)) ∙ ap (λ (x : ℚ). x +q x) (term_cls (absolute t) (suc n))

-- n is at least 2 |t|
pub far_out : (t : Fraction) (n : ℕ) → Spec.Far t n → cls (absolute t) +q cls (absolute t) ≤q ofℕ n
far_out t n h = below_in (double_of (absolute t)) (whole_cls n) h

pub far_in : (t : Fraction) (n : ℕ) → cls (absolute t) +q cls (absolute t) ≤q ofℕ n → Spec.Far t n
far_in t n h = below_out (times (whole 2) (absolute t)) (whole n) (double_of (absolute t)) (whole_cls n) h

-- R at a fraction, as a fraction
pub bound_of : Fraction → ℕ → Fraction
bound_of w n = times (whole 2) (Spec.term w (suc n))

pub bound_of_is : (w : Fraction) (n : ℕ) → cls (bound_of w n) ≡ R (cls w) n
unfolding bound_of
bound_of_is w n = double_of (Spec.term w (suc n)) ∙ ap (λ (x : ℚ). x +q x) (term_cls w (suc n))
