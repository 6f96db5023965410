use Rattle.std.proofs.Common.{refl}
use Rattle.curves.specs.Tables.{table_exp_m2}
use Rattle.curves.proofs.Rules.{m2_entry}
use Rattle.curves.proofs.rows.ExpRestTable.entry.Goals as goal

pub returns : goal.returns
unfolding table_exp_m2
returns c = record { value = refl; near = m2_entry c.args.i c.requires }
