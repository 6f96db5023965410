-- The theorems of the four curves, by the curve.
use Rattle.exact.specs.Exact.{Function, exp, exp2, exp10, expm1}
use Rattle.accuracy.specs.Theorems.{Proved}
use Rattle.accuracy.proofs.Exp.{exp_proved}
use Rattle.accuracy.proofs.Binary.{exp2_proved}
use Rattle.accuracy.proofs.Decimal.{exp10_proved}
use Rattle.accuracy.proofs.Expm1.{expm1_proved}

pub proved : (f : Function) → Proved f
proved exp = exp_proved
proved exp2 = exp2_proved
proved exp10 = exp10_proved
proved expm1 = expm1_proved
