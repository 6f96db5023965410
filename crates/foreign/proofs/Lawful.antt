-- The choosing arithmetic is lawful.
use Rattle.std.proofs.Common.{◌≡◌, ℕ, Bool, true, false, cond, sym, refl, ap, ◌∙◌, inl, inr, pos}
use lib.Ieee.{Float, Format, fin, binary32, binary64, lt, eq, of_int}
use Rattle.std.specs.Float.{float_mul_add, float_round, float_with_sign}
use Rattle.arithmetic.specs.Arithmetic.{Lawful, MulAdd, OneOrTwo, two_step}
use Rattle.foreign.specs.Choosing.{choosing, by_order, plain_zero}
use Rattle.foreign.specs.Lawful.{zero, plain_zero_lem}

by_order_lem : (f : Format) (n : ℕ) (x y z : Float) → MulAdd f n x y z (by_order f x y z)
by_order_lem f n x y z p q r a b c = go (lt x y)
  where
    go : (b : Bool) → OneOrTwo f x y z (cond b (float_mul_add f x y z) (two_step f x y z))
    go true = inl refl
    go false = inr refl

pub choosing_lawful : Lawful choosing
choosing_lawful = record { fmaf_law = by_order_lem binary32 60; fma_law = by_order_lem binary64 400; roundf_law = plain_zero_lem binary32; round_law = plain_zero_lem binary64 }

-- the three ways of the code
pub rounded_is : (f : Format) (x y r : Float) → eq x zero ≡ false → y ≡ float_with_sign false x → lt y (fin false 1 (pos 22)) ≡ true → r ≡ float_round f x → r ≡ plain_zero f x
rounded_is f x y r z a l e = rw (z, sym (ap (λ (u : Float). lt u (fin false 1 (pos 22))) a) ∙ l) e

pub left_is : (f : Format) (x y : Float) → eq x zero ≡ false → y ≡ float_with_sign false x → lt y (fin false 1 (pos 22)) ≡ false → x ≡ plain_zero f x
left_is f x y z a l = rw (z, sym (ap (λ (u : Float). lt u (fin false 1 (pos 22))) a) ∙ l) refl
