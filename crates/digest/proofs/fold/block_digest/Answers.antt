use Rattle.std.proofs.Common.{arith, ℕ, ◌+◌, ◌*◌, ◌/◌, ◌^◌, ◌<◌, ◌∙◌, refl, rules}
use Rattle.std.proofs.lemmas.Iterator.{YieldsList-from_range, YieldsList-from_map, serves_from_Range}
use Rattle.std.proofs.lemmas.Iterator.Consumers.{YieldsList-at, fold_from_yields_List}
use Rattle.query.specs.Meaning.{answer, value_of}
use Rattle.digest.specs.Digest.{mixed}
use Rattle.digest.proofs.Folds.{fold_block, fits}
use Rattle.digest.proofs.fold.block_digest.Goals as goal

pub fold-requires-clause-can : goal.fold-requires-clause-can
fold-requires-clause-can c =
    let below : (i : ℕ) → i < 16777215 / c.args.every.step + 1 → c.args.number * 2 ^ 24 + i * c.args.every.step < 2 ^ 32 = fits c.args.number c.args.every.step c.requires in
    (tt {0}, serves_from_Range (λ x q r. search rules) (λ x l h. search (rules, below)))

pub returns : goal.returns
returns c =
    let g = answer (value_of c.args.pair) in
    let step = c.args.every.step in
    let n = 16777215 / c.args.every.step + 1 in
    let first = c.args.number * 2 ^ 24 in
    fold_from_yields_List _ (λ x b. mixed x (g b)) _ _ c.fold.ensures.ran
    (YieldsList-from_map _ (λ i. first + i * step) (YieldsList-at c.map.ensures.source (YieldsList-from_range 0 c.count.result n refl (omega (arith, c.count.ensures)))) c.map.ensures.closure (λ x r q k. search rules))
    (λ a x b q k. search rules)
    ∙ fold_block g step first n (fits c.args.number step c.requires)
