-- Horner's scheme from the highest coefficient down, as the code has it, is the recursion from the lowest up.
use Rattle.std.proofs.Common.{◌≡◌, List, [], ◌∷◌, reverse, unwrap_or, refl}
use lib.Ieee.{Float}
use mathlib.Core.List.{reverse_aux}
use Rattle.std.specs.List.{fold, reduce}
use Rattle.curves.specs.Steps.{double, horner, poly5, poly7}

-- the coefficients from a up are done, and those of rest are still to come
onto : (fma : Float → Float → Float → Float) (x a : Float) (above rest : List Float) → unwrap_or (reduce (fma x) (reverse_aux (a ∷ above) rest)) (double 0) ≡ fold (fma x) (horner fma x (a ∷ above)) rest
onto fma x a [] rest = refl
onto fma x a (b ∷ above) rest = onto fma x b above (a ∷ rest)

pub from_the_top : (fma : Float → Float → Float → Float) (x : Float) (a : List Float) → unwrap_or (reduce (fma x) (reverse a)) (double 0) ≡ horner fma x a
from_the_top fma x [] = refl
from_the_top fma x (a ∷ above) = onto fma x a above []

-- of five and of seven coefficients it is poly5 and poly7
pub of_five : (fma : Float → Float → Float → Float) (x a0 a1 a2 a3 a4 : Float) → horner fma x (a0 ∷ a1 ∷ a2 ∷ a3 ∷ a4 ∷ []) ≡ poly5 fma x a0 a1 a2 a3 a4
of_five fma x a0 a1 a2 a3 a4 = refl

pub of_seven : (fma : Float → Float → Float → Float) (x a0 a1 a2 a3 a4 a5 a6 : Float) → horner fma x (a0 ∷ a1 ∷ a2 ∷ a3 ∷ a4 ∷ a5 ∷ a6 ∷ []) ≡ poly7 fma x a0 a1 a2 a3 a4 a5 a6
of_seven fma x a0 a1 a2 a3 a4 a5 a6 = refl
