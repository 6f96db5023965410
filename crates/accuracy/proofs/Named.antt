-- What is proved of a figure, by the name of its function.
use Rattle.std.proofs.Common.{◌≡◌, T, sym, subst}
use Rattle.std.specs.Float.{Float, binary32}
use Rattle.std.specs.Float.Ieee.{fits}
use Rattle.std.specs.Float.Ieee.Scale.{finite}
use Rattle.arithmetic.specs.Arithmetic.{Arithmetic, Lawful}
use Rattle.accuracy.specs.declared.function.Function.{Function}
use Rattle.accuracy.specs.Functions.{curve_of}
use Rattle.accuracy.specs.Figures.{figure, Right, Exactly, Special}
use Rattle.accuracy.proofs.Proved.{proved}

-- y is the figure of f at x under the lawful a
pub record Figured (f : Function) (a : Arithmetic) (x y : Float) : Type 0 where
  pub steps : y ≡ figure (curve_of f) a x
  pub right : T (finite x) → Right (curve_of f) x y
  pub exact : Exactly (curve_of f) x y
  pub special : Special (curve_of f) x y

pub figured : (f : Function) (a : Arithmetic) (x y : Float) → Lawful a → T (fits binary32 x) → y ≡ figure (curve_of f) a x → Figured f a x y
figured f a x y w t e =
    let p = proved (curve_of f) in
    subst (λ (z : Float). Figured f a x z) (sym e) (record { steps = λ i. figure (curve_of f) a x; right = p.right a w x t; exact = p.exact a w x t; special = p.special a x })
