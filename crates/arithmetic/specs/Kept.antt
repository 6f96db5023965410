-- Both of our arithmetics are lawful.
use Rattle.std.specs.Prelude.{ℕ, Bool, true, false, cond, ◌&&◌, T, refl, Float}
use Rattle.std.proofs.Common.{inl, inr}
use Rattle.std.specs.Float.{float_mul_add, Format, binary32, binary64}
use Rattle.arithmetic.specs.Arithmetic.{Lawful, MulAdd, OneOrTwo, two_step, fused_within, within, generic, fusing}
use Rattle.arithmetic.specs.Away.{rounds_away}

pub two_steps : (f : Format) (n : ℕ) (x y z : Float) → MulAdd f n x y z (two_step f x y z)
two_steps f n x y z p q r a b c = inr refl

pub once_within : (f : Format) (n : ℕ) (x y z : Float) → MulAdd f n x y z (fused_within f n x y z)
once_within f n x y z p q r a b c = go (within n x) (within n y) (within n z) a b c
  where
    go : (a b c : Bool) → T a → T b → T c → OneOrTwo f x y z (cond (a && (b && c)) (float_mul_add f x y z) (two_step f x y z))
    go true true true t u v = inl refl
    go true true false t u v = absurd v
    go true false c t u v = absurd u
    go false b c t u v = absurd t

pub generic_lawful : Lawful generic
generic_lawful = record { fmaf_law = two_steps binary32 60; fma_law = two_steps binary64 400; roundf_law = rounds_away binary32; round_law = rounds_away binary64 }

pub fusing_lawful : Lawful fusing
fusing_lawful = record { fmaf_law = once_within binary32 60; fma_law = once_within binary64 400; roundf_law = rounds_away binary32; round_law = rounds_away binary64 }
