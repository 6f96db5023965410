-- Horner's scheme under the law of an arithmetic: each step stays in the law's range, and has its error.
use Rattle.std.proofs.Common.{◌^◌, T, lit≤}
use Rattle.std.specs.Float.{Float, binary32, binary64}
use Rattle.std.specs.Float.Ieee.{fits}
use Rattle.std.specs.Float.Ieee.Fits.{fits_widens}
use Rattle.std.specs.Float.Ieee.Scale.{finite}
use Rattle.exact.proofs.Rational.{ℚ, ◌+q◌, ◌*q◌}
use Rattle.exact.proofs.Order.{◌≤q◌}
use Rattle.exact.proofs.Bound.{ofℕ, Bound, bound_more, bound_mul}
use Rattle.rounding.specs.Ranges.{Ranged, Permitted}
use Rattle.exact.proofs.Compare.{dy}
use Rattle.rounding.proofs.Value.{val}
use Rattle.rounding.proofs.Scaled.{above}
use Rattle.rounding.proofs.Horner.{Ball, ball_size, Step, step}
use Rattle.rounding.proofs.Multiple.{away_more, mult_away}
use Rattle.rounding.proofs.Held.{finest}
use Rattle.rounding.proofs.Range.{FmaLaw, permitted_fits, ranged, ranged_above, ranged_finite}

-- a small f32 lies in the range of the law
pub f32_range : (x : Float) (B : ℚ) → T (finite x) → T (fits binary32 x) → Bound (val x) B → B ≤q ofℕ (2 ^ 400) → Ranged binary64 400 x
f32_range x B fx wx b h = ranged binary64 400 x (fits_widens x wx) fx (away_more {k = 149} 400 (lit≤ tt) (mult_away (finest binary32 x fx wx))) (bound_more b h)

-- r is near v, which is within V of 0, and in the range of the law
pub record Stage (r : Float) (v V e : ℚ) : Type 0 where
  pub ball : Ball r v V e
  pub range : Ranged binary64 400 r

-- what the numbers of a step are to one another: those of the error, of the size, and of the least value
pub record Numbers (X V e A V' e' : ℚ) (a : Float) : Type 0 where
  pub errors : Step binary64 200 X V e A V' e'
  pub most : V' +q e' ≤q ofℕ (2 ^ 400)
  pub least : dy 1 400 +q (X *q V +q e') ≤q val a

-- one step: x times what came before, and a coefficient that is larger than that
pub horner : (fma : Float → Float → Float → Float) → FmaLaw binary64 400 fma → (x acc a : Float) (v X V e A V' e' : ℚ) → Ranged binary64 400 x → Bound (val x) X → Ranged binary64 400 a → Bound (val a) A
    → Stage acc v V e → Numbers X V e A V' e' a → Stage (fma x acc a) (val x *q v +q val a) V' e'
horner fma law x acc a v X V e A V' e' rx bx ra ba s c =
    let r = fma x acc a in
    let fx = ranged_finite binary64 400 x rx in
    let fa = ranged_finite binary64 400 a ra in
    let p : Permitted binary64 x acc a r = law x acc a rx s.range ra in
    let b : Ball r (val x *q v +q val a) V' e' = step binary64 200 (lit≤ tt) x acc a r v X V e A V' e' fx bx fa ba s.ball p c.errors in
    record {
      ball = b;
      range = ranged_above binary64 400 r (V' +q e') (permitted_fits binary64 x acc a r fx s.ball.is_finite fa p) b.is_finite (above b.off (bound_mul bx s.ball.size) c.least) (ball_size b) c.most;
    }
