use Rattle.std.proofs.Common.{refl}
use Rattle.curves.specs.Tables.{table_exp2_mid}
use Rattle.curves.proofs.Rules.{mid_entry}
use Rattle.curves.proofs.rows.TwoIn32Table.entry.Goals as goal

pub returns : goal.returns
unfolding table_exp2_mid
returns c = record { value = refl; near = mid_entry c.args.i c.requires }
