use Rattle.sheet.specs.Lists.{left_event, right_event}
use Rattle.sheet.proofs.Tapes.{Sofar}
use Rattle.sheet.proofs.replay.replay_both.Given as goal

abbrev pub invariant-loop-step : goal.invariant-loop-step
invariant-loop-step g l =
    Sofar (left_event g.A.ExpfBackend.meaning) l.initial.list l.step-index l.list l.left × Sofar (right_event g.B.ExpfBackend.meaning) l.initial.list l.step-index l.list l.right
