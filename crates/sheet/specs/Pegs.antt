-- A sheet is a list of pegs: blank, entered or worked.
use Rattle.std.specs.Prelude.{◌≡◌, ℕ, ◌<◌, ◌≤◌, T, List, length, Ok, Err, Result, from_bits, slice_index_or, Float}
use Rattle.std.specs.Float.Ieee.Scale.{finite}
use Rattle.std.specs.Float.{binary32}
use Rattle.arithmetic.specs.Arithmetic.{Arithmetic}
use Rattle.accuracy.specs.Figures.{figure, Right, Exactly}
use Rattle.accuracy.specs.declared.function.Function.{Function}
use Rattle.accuracy.specs.declared.function.Function.TheVariants.{Exp}
use Rattle.accuracy.specs.Functions.{curve_of}
use Rattle.sheet.specs.declared.fault.Fault.{Fault}
use Rattle.sheet.specs.declared.fault.Fault.TheVariants.{PegNumber}
use Rattle.sheet.specs.declared.peg.Mark.TheVariants.{Blank, Entered, Worked}
use Rattle.sheet.specs.declared.peg.Peg.{Peg}

abbrev pub Sheet : Type 0
Sheet = List Peg

-- +0
abbrev pub nought : Float
nought = from_bits binary32 0

-- code 0, input +0 and figure +0
abbrev pub blank : Peg
blank = record { function = Exp; input = nought; figure = nought; mark = Blank }

abbrev pub entered : Function → Float → Peg
entered f x = record { function = f; input = x; figure = nought; mark = Entered }

-- the same peg, worked under an arithmetic
abbrev pub worked : Arithmetic → Peg → Peg
worked a q = record { function = q.function; input = q.input; figure = figure (curve_of q.function) a q.input; mark = Worked }

-- the peg of a number
abbrev pub peg : Sheet → ℕ → Peg
peg s k = slice_index_or s k blank

-- the peg of a number, if there is one
abbrev pub Found : Sheet → ℕ → Result Peg Fault → Type 0
Found s k (Ok q) = (k < length s) × (q ≡ peg s k)
Found s k (Err e) = (length s ≤ k) × (e ≡ PegNumber)

-- the rules of a peg, by its mark
pub record Sound (q : Peg) : Type 0 where
  pub blank_rule : q.mark ≡ Blank → q ≡ blank
  pub entered_rule : q.mark ≡ Entered → q.figure ≡ nought
  pub input_rule : T (finite q.input)
  pub right : q.mark ≡ Worked → Right (curve_of q.function) q.input q.figure
  pub exact : q.mark ≡ Worked → Exactly (curve_of q.function) q.input q.figure
