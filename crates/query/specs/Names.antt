-- What the names of arithmetics stand for.
use Rattle.std.specs.Prelude.{ℕ, List, codes}
use Rattle.arithmetic.specs.Arithmetic.{Arithmetic, generic, fusing}
use Rattle.query.specs.declared.names.ArithmeticName.{ArithmeticName}
use Rattle.query.specs.declared.names.ArithmeticName.TheVariants.{TwoStep, Fused}

abbrev pub arithmetic_of : ArithmeticName → Arithmetic
arithmetic_of TwoStep = generic
arithmetic_of Fused = fusing

abbrev pub word_of_arithmetic : ArithmeticName → List ℕ
word_of_arithmetic TwoStep = codes "two-step"
word_of_arithmetic Fused = codes "fused"

-- what is printed where no arithmetic has a word
abbrev pub words_of_arithmetics : List ℕ
words_of_arithmetics = codes "the arithmetics are two-step and fused"
