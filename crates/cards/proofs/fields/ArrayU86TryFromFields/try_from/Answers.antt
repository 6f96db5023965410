use Rattle.std.proofs.Common.{refl, ◌∙◌, arith}
use Rattle.cards.proofs.Packing.{joined, spelled}
use Rattle.cards.proofs.fields.ArrayU86TryFromFields.try_from.Goals as goal

pub returns : goal.returns
returns c =
    let f = c.args.fields in
    rw (c.to_be_bytes.ensures, c.to_be_bytes-2.ensures)
    (spelled _ f refl (omega arith, omega arith, omega arith) (joined f.operation f.code _ (omega arith) (omega arith) (omega arith) ∙ omega arith) refl (omega arith) (omega arith) (omega arith) (omega arith) (omega arith))
