-- The bounds of exp2 and exp10 before the narrowing, said with the exact value.
use Rattle.std.proofs.Common.{ℕ, pos, sym, refl, ap, ◌∙◌, subst}
use Rattle.std.specs.Float.{Float}
use std.Quotient.{cls}
use Rattle.exact.specs.Fraction.{dyadic, times, absolute}
use Rattle.exact.specs.Exponential.{within}
use Rattle.exact.specs.Exact.{Function, exp2, exp10}
use Rattle.exact.proofs.Rational.{ℚ, ◌*q◌, -q◌, ◌-q◌}
use Rattle.exact.proofs.Bound.{absq, Bound}
use Rattle.exact.proofs.Compare.{product_cls, dy}
use Rattle.exact.proofs.Claims.{holds}
use Rattle.rounding.specs.Values.{value}
use Rattle.rounding.proofs.Value.{val, val_value}
use Rattle.rounding.proofs.Distance.{abs_cls}
use Rattle.curves.proofs.Law.{fma_law}
use Rattle.accuracy.specs.Inner.{NearBy}
use Rattle.accuracy.specs.PowerBounds.{Exp2Inner, Exp10Inner}
use Rattle.accuracy.proofs.Outcome.{sum, Near}
use Rattle.accuracy.proofs.PowerInputs.{near_zero}
use Rattle.accuracy.proofs.BinaryPolynomial as Six
use Rattle.accuracy.proofs.DecimalPolynomial as Seven
use Rattle.accuracy.proofs.BinaryTable as Binary
use Rattle.accuracy.proofs.DecimalTable as Decimal

-- what every sum from some place on says, for any of the four functions
pub near_by : (f : Function) (e : ℕ) (x z : Float) → Near f (value x) (dy 1 e) z → NearBy f (dyadic (pos 1) e) x z
near_by f e x z w = record {
  is_finite = w.is_finite;
  near = holds f (within (value z) (times (dyadic (pos 1) e) (absolute (value z)))) (value x) w.start (λ j n l.
      subst (λ (u : ℚ). Bound (u -q sum f (value x) j n) (cls (times (dyadic (pos 1) e) (absolute (value z))))) (val_value z)
      (subst (λ (u : ℚ). Bound (val z -q sum f (value x) j n) u) (sym (product_cls (dyadic (pos 1) e) (absolute (value z)) ∙ ap (λ (u : ℚ). dy 1 e *q u) (abs_cls (value z) ∙ ap absq (sym (val_value z))))) (w.off j n l)));
}

pub exp2_inner : Exp2Inner
exp2_inner a v x w = (λ t. (refl, near_by exp2 43 x _ (Binary.by_row a v x w t).near), λ t h. (refl, near_by exp2 47 x _ (Six.small_is_near a.fma (fma_law a v) x t w (near_zero x w t h))))

pub exp10_inner : Exp10Inner
exp10_inner a v x w = (λ t. (refl, near_by exp10 43 x _ (Decimal.by_row a v x w t).near), λ t h. (refl, near_by exp10 43 x _ (Seven.small_is_near a.fma (fma_law a v) x t w (near_zero x w t h))))
