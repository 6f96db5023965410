use Rattle.std.proofs.Common.{◌<◌, length, refl, ◌∙◌, arith}
use Rattle.sheet.specs.Histories.{laid}
use Rattle.sheet.specs.Lists.{left_event, right_event}
use Rattle.sheet.proofs.Tapes.{sofar_more, carried_out, both_carried_out}
use Rattle.sheet.proofs.replay.replay_both.Goals as goal

pub loop-step-init : goal.loop-step-init
loop-step-init g c = (record { calls = refl; reached = laid c.in_ok-sizes.ensures.0 }, record { calls = refl; reached = laid c.in_ok-sizes.ensures.1 })

pub loop-step-preserved : goal.loop-step-preserved
loop-step-preserved g c =
    let list = c.loop-step.list in
    let i = c.loop-step.step-index in
    let in_list : i < length list = omega arith in
    let item = c.step-item.result in (
      sofar_more (left_event g.A.ExpfBackend.meaning) c.args.list.now list i c.loop-step.left c.perform-step.new.sheet _ item in_list refl c.perform-step.ensures.kept c.loop-step.invariant.0,
      sofar_more (right_event g.B.ExpfBackend.meaning) c.args.list.now list i c.loop-step.right c.perform-step-in-loop-step.new.sheet _ item in_list refl c.perform-step-in-loop-step.ensures.kept c.loop-step.invariant.1,
    )

pub returns : goal.returns
returns g c =
    let on-left = c.in_ok-sizes.ensures.0.1 in
    let on-right = c.in_ok-sizes.ensures.1.1 in
    let list = c.args.list.now in
    let done = c.loop-step.list in
    both_carried_out g.A.ExpfBackend.meaning g.B.ExpfBackend.meaning c.args.left.now c.args.right.now list c.in_ok-sizes.sizes c.loop-step.left c.loop-step.right done
    (carried_out (left_event g.A.ExpfBackend.meaning) c.args.left.now list _ c.loop-step.step-index c.loop-step.left done on-left.number (c.loop-step.auto.left ∙ on-left.size) (omega arith) c.loop-step.invariant.0)
    (carried_out (right_event g.B.ExpfBackend.meaning) c.args.right.now list _ c.loop-step.step-index c.loop-step.right done on-right.number (c.loop-step.auto.right ∙ on-right.size) (omega arith) c.loop-step.invariant.1)
