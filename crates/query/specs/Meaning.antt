-- What a curve under an arithmetic stands for.
use Rattle.std.specs.Prelude.{ℕ, List, ◌++◌, codes, from_bits, to_bits, Float}
use Rattle.std.specs.Float.{binary32}
use Rattle.accuracy.specs.Figures.{figure}
use Rattle.accuracy.specs.Functions.{curve_of, word_of}
use Rattle.query.specs.Names.{arithmetic_of, word_of_arithmetic}
use Rattle.query.specs.declared.pair.Pair.{Pair}

-- the curve's value under the arithmetic
abbrev pub value_of : Pair → Float → Float
value_of p = figure (curve_of p.curve) (arithmetic_of p.arithmetic)

-- the two words, with a space between them
abbrev pub words_of : Pair → List ℕ
words_of p = word_of p.curve ++ (codes " " ++ word_of_arithmetic p.arithmetic)

-- the pattern of a curve's value at the f32 of a pattern; a NaN is written 0x7fc00000
abbrev pub answer : (Float → Float) → ℕ → ℕ
answer f b = to_bits binary32 (f (from_bits binary32 b))
