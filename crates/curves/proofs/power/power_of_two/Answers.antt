use Rattle.std.proofs.Common.{◌≡◌, pos, ◌+ℤ◌, nat_abs, refl, ap, ◌∙◌, w32}
use lib.Ieee.{binary32, of_bits}
use Rattle.std.proofs.lemmas.Int.{to_z-of_z}
use Rattle.curves.specs.Exp2.{bits_of_power}
use Rattle.curves.proofs.WholePower.{power_of_lem, power_number, moved_fits}
use Rattle.curves.proofs.power.power_of_two.Goals as goal

bits_is : (c : goal.After-power_bits) → c.power_bits.result ≡ bits_of_power (nat_abs (c.args.k +ℤ pos 149))
bits_is c =
    c.power_bits.ensures ∙ rw (to_z-of_z w32 c.args.k c.ranges.k, to_z-of_z w32 (c.args.k +ℤ pos 149) (moved_fits c.args.k c.requires.low c.requires.high)) refl

pub float_from_bits-result : goal.float_from_bits-result
float_from_bits-result c = rw (bits_is c) (power_number c.args.k c.requires.low c.requires.high)

pub returns : goal.returns
returns c = ap (of_bits binary32) (bits_is c) ∙ power_of_lem c.args.k c.requires.low c.requires.high
