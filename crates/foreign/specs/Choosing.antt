-- An arithmetic that is neither of ours: it chooses by its arguments.
use Rattle.std.specs.Prelude.{false, cond, pos, Float}
use Rattle.std.specs.Float.Ieee.{lt, eq}
use Rattle.std.specs.Float.{float_mul_add, float_round, Format, fin, binary32, binary64}
use Rattle.arithmetic.specs.Arithmetic.{Arithmetic, two_step, small}

-- once where the first factor is below the second, and two steps elsewhere
abbrev pub by_order : Format → Float → Float → Float → Float
by_order f x y z = cond (lt x y) (float_mul_add f x y z) (two_step f x y z)

-- either zero gives +0, and from magnitude 2 ^ 22 on nothing is rounded
abbrev pub plain_zero : Format → Float → Float
plain_zero f x = cond (eq x (fin false 0 (pos 0))) (fin false 0 (pos 0)) (cond (small x) (float_round f x) x)

abbrev pub choosing : Arithmetic
choosing = record { fmaf = by_order binary32; fma = by_order binary64; roundf = plain_zero binary32; round = plain_zero binary64 }
