use Rattle.std.proofs.Common.{refl}
use Rattle.curves.specs.Tables.{table_exp2f}
use Rattle.curves.proofs.Rules.{exp2f_entry_lem}
use Rattle.curves.proofs.rows.TwoIn64Table.entry.Goals as goal

pub returns : goal.returns
unfolding table_exp2f
returns c = record { value = refl; near = exp2f_entry_lem c.args.i c.requires }
