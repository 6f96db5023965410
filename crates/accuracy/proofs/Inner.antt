-- What is said of the f64 before the narrowing, as a claim about the exact value.
use Rattle.std.proofs.Common.{◌≡◌, sym, refl, ap, ◌∙◌, subst, inl, inr}
use Rattle.std.specs.Float.{Float}
use std.Quotient.{cls}
use Rattle.exact.specs.Fraction.{Fraction, times, absolute}
use Rattle.exact.specs.Exponential.{within}
use Rattle.exact.specs.Exact.{Function}
use Rattle.exact.proofs.Rational.{ℚ, ◌*q◌, ◌-q◌}
use Rattle.exact.proofs.Bound.{absq, Bound}
use Rattle.exact.proofs.Compare.{product_cls}
use Rattle.exact.proofs.Claims.{holds}
use Rattle.rounding.specs.Values.{value}
use Rattle.rounding.proofs.Value.{val, val_value}
use Rattle.rounding.proofs.Distance.{abs_cls}
use Rattle.accuracy.specs.Inner.{NearBy, ExpInner, Expm1Inner}
use Rattle.accuracy.proofs.Outcome.{Near, sum}
use Rattle.accuracy.proofs.ExpSplit.{reaches_finite}
use Rattle.accuracy.proofs.ExpTables.{wide, exp_near}
use Rattle.accuracy.proofs.Expm1Polynomial.{small_near}
use Rattle.accuracy.proofs.Expm1Tables.{positive, negative}
use Rattle.accuracy.proofs.Expm1.{reaches, small_size, away}

-- what every sum from some place on says, for any of the four functions
pub near_by : (f : Function) (e : Fraction) (x z : Float) → Near f (value x) (cls e) z → NearBy f e x z
near_by f e x z w = record {
  is_finite = w.is_finite;
  near = holds f (within (value z) (times e (absolute (value z)))) (value x) w.start (λ j n h.
      subst (λ (u : ℚ). Bound (u -q sum f (value x) j n) (cls (times e (absolute (value z))))) (val_value z)
      (subst (λ (u : ℚ). Bound (val z -q sum f (value x) j n) u) (sym (size_is e z)) (w.off j n h)));
}
  where
    size_is : (e : Fraction) (z : Float) → cls (times e (absolute (value z))) ≡ cls e *q absq (val z)
    size_is e z = product_cls e (absolute (value z)) ∙ ap (λ (u : ℚ). cls e *q u) (abs_cls (value z) ∙ ap absq (sym (val_value z)))

pub exp_inner : ExpInner
exp_inner a w x fx t = (refl, near_by _ _ x _ (exp_near a x (wide a w x fx t)))

pub expm1_inner : Expm1Inner
expm1_inner a w x fx r =
    let q = reaches x r in
    let t = reaches_finite x q in (
      λ h. (refl, near_by _ _ x _ (small_near a w x (small_size x fx t r.past_self h))),
      λ h. (
        refl,
        elim (away x fx t h) [
          | inl g ↦ near_by _ _ x _ (positive a w x fx q g).near
          | inr g ↦ near_by _ _ x _ (negative a w x fx q g).near
        ],
      ),
    )
