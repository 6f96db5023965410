use Rattle.std.proofs.Common.{◌≡◌, ℕ, ◌<◌, ◌≤◌, get_or}
use Rattle.query.specs.Meaning.{value_of, answer}
use Rattle.export.proofs.fill.Given as goal

-- what lies before the index is answered, and the rest is as it was
abbrev pub invariant-loop-p : goal.invariant-loop-p
invariant-loop-p l =
    ((k : ℕ) → k < l.p-index → get_or l.patterns k 0 ≡ answer (value_of l.pair) (get_or l.initial.patterns k 0))
    × ((k : ℕ) → l.p-index ≤ k → get_or l.patterns k 0 ≡ get_or l.initial.patterns k 0)
