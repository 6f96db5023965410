use Rattle.std.proofs.Common.{◌/◌, ◌<◌, slice_index, arith, rules}
use Rattle.std.proofs.lemmas.Nat.{and_mask}
use Rattle.cards.proofs.Packing.{spelled}
use Rattle.cards.proofs.fields.FieldsFromArrayU86.from.Goals as goal

pub returns : goal.returns
returns c =
    let b = c.args.bytes in
    let second : slice_index b 1 < 256 = search rules in
    let code = and_mask (slice_index b 0 / 16) 2 in
    let high = and_mask (slice_index b 0) 4 in
    spelled b _ (search rules) (omega arith, omega arith, omega arith) (omega arith) (omega arith) (search rules) (search rules) (search rules) (search rules) (omega arith)
