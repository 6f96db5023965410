use Rattle.std.proofs.Common.{refl}
use lib.Ieee.{of_bits}
use Rattle.arithmetic.proofs.F32Ranged.LOW.Goals as goal

pub returns : goal.returns
unfolding of_bits
returns c = refl
