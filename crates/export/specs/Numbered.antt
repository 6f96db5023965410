-- The pair that C's two numbers name.
use Rattle.std.specs.Prelude.{◌≡◌, ℕ, ◌<◌, ◌≤◌, List, Ok, Err, codes, Result}
use Rattle.accuracy.specs.Functions.{code_of}
use Rattle.query.specs.declared.names.ArithmeticName.{ArithmeticName}
use Rattle.query.specs.declared.names.ArithmeticName.TheVariants.{TwoStep, Fused}
use Rattle.query.specs.declared.pair.Pair.{Pair}
use Rattle.export.specs.declared.Numbers.{Numbers}
use Rattle.export.specs.declared.UnknownNumber.{UnknownNumber}
use Rattle.export.specs.declared.UnknownNumber.TheVariants.{Curve, Arithmetic}

abbrev pub code_of_arithmetic : ArithmeticName → ℕ
code_of_arithmetic TwoStep = 0
code_of_arithmetic Fused = 1

-- r is the pair with those numbers, or the first of the two that is too large
abbrev pub NumberedPair : Numbers → Result Pair UnknownNumber → Type 0
NumberedPair n (Ok p) = (code_of p.curve ≡ n.curve) × (code_of_arithmetic p.arithmetic ≡ n.arithmetic)
NumberedPair n (Err Curve) = 3 < n.curve
NumberedPair n (Err Arithmetic) = (n.curve ≤ 3) × (1 < n.arithmetic)

-- what is printed of such a number
abbrev pub words_of_unknown : UnknownNumber → List ℕ
words_of_unknown Curve = codes "the curves are 0 to 3"
words_of_unknown Arithmetic = codes "the arithmetics are 0 and 1"
