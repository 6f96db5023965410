-- What two words name.
use Rattle.std.specs.Prelude.{◌≡◌, ℕ, List, ◌++◌, Ok, Err, codes, Result, ◌≢◌}
use Rattle.accuracy.specs.Functions.{word_of}
use Rattle.accuracy.specs.declared.function.Function.{Function}
use Rattle.query.specs.Names.{word_of_arithmetic}
use Rattle.query.specs.declared.names.ArithmeticName.{ArithmeticName}
use Rattle.query.specs.declared.pair.Pair.{Pair}
use Rattle.query.specs.declared.pair.UnknownName.{UnknownName}
use Rattle.query.specs.declared.pair.UnknownName.TheVariants.{Curve, Arithmetic}

-- r is the pair that the words c and a name, or the first of the two that names nothing
abbrev pub Names : List ℕ → List ℕ → Result Pair UnknownName → Type 0
Names c a (Ok p) = (c ≡ word_of p.curve) × (a ≡ word_of_arithmetic p.arithmetic)
Names c a (Err (Curve w)) = (w.now ≡ c) × ((f : Function) → c ≢ word_of f)
Names c a (Err (Arithmetic w)) = (w.now ≡ a) × ((f : Function) × (c ≡ word_of f)) × ((b : ArithmeticName) → a ≢ word_of_arithmetic b)

-- what is printed of such a word
abbrev pub words_of_unknown : UnknownName → List ℕ
words_of_unknown (Curve w) = codes "no curve `" ++ (w.now ++ codes "`: exp, exp2, exp10 or expm1")
words_of_unknown (Arithmetic w) = codes "no arithmetic `" ++ (w.now ++ codes "`: two-step or fused")
