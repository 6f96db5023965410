-- What is said of a line of the list.
use Rattle.std.specs.Prelude.{◌≡◌, ℕ, ◌+◌, ◌≤◌, min, ◌≢◌}
use Rattle.accuracy.specs.declared.function.Function.TheVariants.{Exp10}
use Rattle.query.specs.Meaning.{answer, value_of}
use Rattle.replay.specs.declared.line.Recorded.{Recorded}
use Rattle.replay.specs.declared.judge.Verdict.{Verdict}
use Rattle.replay.specs.declared.judge.Verdict.TheVariants.{Equal, Known, Different}
use Rattle.replay.specs.declared.tally.Tally.{Tally}

-- our answer to the line's pattern
abbrev pub ours : Recorded → ℕ
ours line = answer (value_of line.pair) line.pattern

-- exp10 near one, where the crate's answer is not the nearest
abbrev pub NearOne : Recorded → Type 0
NearOne line = (line.pair.curve ≡ Exp10) × (0xb25e5bbb ≤ line.pattern) × (line.pattern ≤ 0xb25e5bd9)

abbrev pub Judged : Recorded → Verdict → Type 0
Judged line Equal = ours line ≡ line.theirs
Judged line (Known w) = (w ≡ ours line) × (w ≢ line.theirs) × NearOne line
Judged line (Different w) = (w ≡ ours line) × (w ≢ line.theirs) × (NearOne line → ⊥)

-- one more, and no further than a u64 goes
abbrev pub more : ℕ → ℕ
more n = min (n + 1) 18446744073709551615

-- a tally after one line more
abbrev pub tallied : Tally → Verdict → Tally
tallied t Equal = record { pair = t.pair; lines = more t.lines; equal = more t.equal; known = t.known }
tallied t (Known w) = record { pair = t.pair; lines = more t.lines; equal = t.equal; known = more t.known }
tallied t (Different w) = record { pair = t.pair; lines = more t.lines; equal = t.equal; known = t.known }
