-- The four functions by name: their exact values, their codes and their words.
use Rattle.std.specs.Prelude.{◌≡◌, ℕ, ◌<◌, List, Ok, Err, codes, Result, ◌≢◌}
use Rattle.exact.specs.Exact.{Function as Curve, exp, exp2, exp10, expm1}
use Rattle.accuracy.specs.declared.function.Function.{Function}
use Rattle.accuracy.specs.declared.function.Function.TheVariants.{Exp, Exp2, Exp10, Expm1}

-- what a function's exact value is
abbrev pub curve_of : Function → Curve
curve_of Exp = exp
curve_of Exp2 = exp2
curve_of Exp10 = exp10
curve_of Expm1 = expm1

abbrev pub code_of : Function → ℕ
code_of Exp = 0
code_of Exp2 = 1
code_of Exp10 = 2
code_of Expm1 = 3

-- the last code
abbrev pub last_code : ℕ
last_code = 3

-- f alone has the code n
abbrev pub OnlyFunction : Function → ℕ → Type 0
OnlyFunction f n = (g : Function) → code_of g ≡ n → g ≡ f

-- the function that has a code, if there is one
abbrev pub Decoded : {E : Type 0} → ℕ → Result Function E → Type 0
Decoded c (Ok f) = code_of f ≡ c
Decoded c (Err e) = last_code < c

abbrev pub word_of : Function → List ℕ
word_of Exp = codes "exp"
word_of Exp2 = codes "exp2"
word_of Exp10 = codes "exp10"
word_of Expm1 = codes "expm1"

-- what is printed where no function has a code, or a word
abbrev pub words_of_codes : List ℕ
words_of_codes = codes "the functions have the codes 0 to 3"

abbrev pub words_of_functions : List ℕ
words_of_functions = codes "the functions are exp, exp2, exp10 and expm1"

-- r is what the text w spells, of the things that have a word, and an error where it spells none
abbrev pub Spells : {A E : Type 0} → (A → List ℕ) → List ℕ → Result A E → Type 0
Spells word w (Ok a) = w ≡ word a
Spells {A} word w (Err e) = (a : A) → w ≢ word a
