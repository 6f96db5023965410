use Rattle.std.proofs.Common.{◌+◌, ◌≤◌}
use Rattle.agree.proofs.tell_all.Given as goal

-- each step is counted once
abbrev pub invariant-loop-at : goal.invariant-loop-at
invariant-loop-at l = l.equal + l.neighbouring + l.apart ≤ l.at
