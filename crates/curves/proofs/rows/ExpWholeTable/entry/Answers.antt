use Rattle.std.proofs.Common.{refl}
use Rattle.curves.specs.Tables.{table_exp_m1}
use Rattle.curves.proofs.Rules.{m1_entry}
use Rattle.curves.proofs.rows.ExpWholeTable.entry.Goals as goal

pub returns : goal.returns
unfolding table_exp_m1
returns c = record { value = refl; near = m1_entry c.args.i c.requires }
