use Rattle.sheet.proofs.Turns.{Turned}
use Rattle.sheet.proofs.calls.work.Given as goal

abbrev pub invariant-loop-peg : goal.invariant-loop-peg
invariant-loop-peg g l = Turned (g.B.ExpfBackend.meaning l.arith) l.initial.peg-items l.peg-index l.done l.peg-items
