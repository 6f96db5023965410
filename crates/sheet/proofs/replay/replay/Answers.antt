use Rattle.std.proofs.Common.{◌<◌, length, refl, ◌∙◌, arith}
use Rattle.sheet.specs.Lists.{event_of}
use Rattle.sheet.proofs.Tapes.{sofar_more, carried_out}
use Rattle.sheet.proofs.replay.replay.Goals as goal

pub loop-step-preserved : goal.loop-step-preserved
loop-step-preserved g c =
    let in_list : c.loop-step.step-index < length c.loop-step.list = omega arith in
    sofar_more (event_of g.A.ExpfBackend.meaning) _ c.loop-step.list c.loop-step.step-index c.loop-step.sheet _ _ c.step-item.result in_list refl c.perform-step.ensures.kept c.loop-step.invariant

pub returns : goal.returns
returns g c =
    let laid = c.in_ok-n.ensures.does.1 in
    carried_out (event_of g.A.ExpfBackend.meaning) c.args.sheet.now c.args.list.now c.in_ok-n.n c.loop-step.step-index c.loop-step.sheet c.loop-step.list laid.number (c.loop-step.auto.sheet ∙ laid.size) (omega arith) c.loop-step.invariant
