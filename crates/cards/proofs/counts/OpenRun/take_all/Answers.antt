use Rattle.std.proofs.Common.{◌≡◌, length, min, ◌∙◌, arith}
use Rattle.cards.proofs.Streaming.{sofar_more, played}
use Rattle.cards.proofs.counts.OpenRun.take_all.Goals as goal

pub loop-at-preserved : goal.loop-at-preserved
loop-at-preserved g c =
    let steps = c.in-Some.ensures.steps in
    let chunk = steps.0.1 in
    let w = c.loop-at.invariant in
    let still = w.1.still in
    let size : length c.in-Some.card.now ≡ min 6 (length c.loop-at.at-iterator.iter.rest.now) = omega arith in (
      steps.0.0 ∙ w.0,
      rw (steps.1, steps.2) (sofar_more _ _ _ _ _ _ _ _ _ _ _ _ _ _ _ c.take.result _ chunk.0 size chunk.2 (omega arith) c.reply.ensures c.take.ensures w.1),
    )

pub returns : goal.returns
returns g c =
    let steps = c.in-None.ensures.steps in
    let w = c.loop-at.invariant.1 in
    (omega arith, omega arith, played _ _ _ _ _ _ _ _ _ _ _ steps.0.1.0 w, w.others)
