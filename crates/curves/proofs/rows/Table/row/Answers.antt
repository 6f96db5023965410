use Rattle.std.proofs.Common.{not, T}
use lib.Ieee.{Float, nan, inf, fin, is_nan, binary64}
use lib.Ieee.Bits.{nan_bits_is}
use lib.Ieee.Scale.{finite}
use Rattle.curves.specs.Steps.{double}
use Rattle.curves.proofs.rows.Table.row.Goals as goal

no_nan : (y : Float) → T (finite y) → T (not (is_nan y))
unfolding is_nan
no_nan nan h = h
no_nan (inf s) h = tt
no_nan (fin s m e) h = tt

pub float_from_bits-result : goal.float_from_bits-result
float_from_bits-result g c = rw (nan_bits_is binary64 c.entry.result) (no_nan (double c.entry.result) (g.met.Self.Table.number c.args.i (double c.entry.result) c.entry.ensures.near))
