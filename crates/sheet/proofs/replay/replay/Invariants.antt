use Rattle.sheet.specs.Lists.{event_of}
use Rattle.sheet.proofs.Tapes.{Sofar}
use Rattle.sheet.proofs.replay.replay.Given as goal

abbrev pub invariant-loop-step : goal.invariant-loop-step
invariant-loop-step g l = Sofar (event_of g.A.ExpfBackend.meaning) l.initial.list l.step-index l.list l.sheet
