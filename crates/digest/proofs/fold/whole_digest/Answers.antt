use Rattle.std.proofs.Common.{◌+◌, ◌*◌, ◌/◌, ◌^◌, ◌∙◌, refl, rules}
use Rattle.std.proofs.lemmas.Iterator.{YieldsList-from_range}
use Rattle.std.proofs.lemmas.Iterator.Consumers.{fold_from_yields_List}
use Rattle.query.specs.Meaning.{answer, value_of}
use Rattle.digest.specs.Digest.{joined, block}
use Rattle.digest.proofs.Folds.{fold_blocks}
use Rattle.digest.proofs.fold.whole_digest.Goals as goal

pub returns : goal.returns
returns c =
    let g = answer (value_of c.args.pair) in
    let step = c.args.every.step in
    let n = 16777215 / c.args.every.step + 1 in
    fold_from_yields_List _ (λ x k. joined x (block g step n (k * 2 ^ 24))) _ _ c.fold.ensures.ran (YieldsList-from_range 0 256 256 refl refl) (λ a x b q k. search rules)
    ∙ fold_blocks g step n 256 0 0xcbf29ce484222325
