use Rattle.std.proofs.Common.{◌≡◌}
use Rattle.cards.proofs.Streaming.{Sofar}
use Rattle.cards.proofs.counts.OpenRun.take_all.Given as goal

abbrev pub invariant-loop-at : goal.invariant-loop-at
invariant-loop-at g l =
    (l.at-iterator.iter.size ≡ 6) × Sofar (g.B.ExpfBackend.meaning l.arith) l.bytes l.initial.self.counts l.initial.sheet l.initial.replies l.count l.at-iterator.count l.at-iterator.iter.rest.now l.replies l.sheet l.self.counts
