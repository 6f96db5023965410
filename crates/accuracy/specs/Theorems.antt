-- What is proved of a curve, for every finite f32 and every lawful arithmetic.
use Rattle.std.specs.Prelude.{◌≤◌, T, Float}
use Rattle.std.specs.Float.{binary32}
use Rattle.std.specs.Float.Ieee.{fits}
use Rattle.std.specs.Float.Ieee.Scale.{finite}
use Rattle.exact.specs.Exact.{Function, exp10}
use Rattle.arithmetic.specs.Arithmetic.{Arithmetic, Lawful}
use Rattle.curves.specs.Steps.{magnitude}
use Rattle.accuracy.specs.Figures.{figure, Right, Exactly, NearestTo, Agree, Special}

abbrev pub CurveRight : Function → Type 0
CurveRight f = (a : Arithmetic) → Lawful a → (x : Float) → T (fits binary32 x) → T (finite x) → Right f x (figure f a x)

abbrev pub CurveExact : Function → Type 0
CurveExact f = (a : Arithmetic) → Lawful a → (x : Float) → T (fits binary32 x) → Exactly f x (figure f a x)

-- under any two lawful arithmetics
abbrev pub CurveAgrees : Function → Type 0
CurveAgrees f = (a b : Arithmetic) → Lawful a → Lawful b → (x : Float) → T (fits binary32 x) → T (finite x) → Agree f x (figure f a x) (figure f b x)

abbrev pub CurveSpecial : Function → Type 0
CurveSpecial f = (a : Arithmetic) (x : Float) → Special f x (figure f a x)

-- near one exp10 gives the f32 nearest to 10 ^ x
abbrev pub NearOneNearest : Type 0
NearOneNearest = (a : Arithmetic) (x : Float) → T (fits binary32 x) → T (finite x) → magnitude x ≤ 0x3280_0000 → NearestTo exp10 x (figure exp10 a x)

-- all of it for one curve
pub record Proved (f : Function) : Type 0 where
  pub right : CurveRight f
  pub exact : CurveExact f
  pub agrees : CurveAgrees f
  pub special : CurveSpecial f
