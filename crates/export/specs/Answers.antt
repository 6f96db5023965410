-- What the static library answers: patterns in, patterns out.
use Rattle.std.specs.Prelude.{◌≡◌, ℕ, zero, suc, ◌<◌, List, length, slice_index, Float}
use Rattle.arithmetic.specs.Arithmetic.{Arithmetic, generic, fusing}
use Rattle.curves.specs.Exp.{exp_value}
use Rattle.curves.specs.Exp2.{exp2_value}
use Rattle.curves.specs.Exp10.{exp10_value}
use Rattle.curves.specs.Expm1.{expm1_value}
use Rattle.query.specs.Meaning.{answer}

-- every pattern was replaced by its answer
abbrev pub Answered : (Float → Float) → List ℕ → List ℕ → Type 0
Answered f before after = (k : ℕ) → k < length before → slice_index after k ≡ answer f (slice_index before k)

-- the curves by number: 0 exp, 1 exp2, 2 exp10, 3 expm1
abbrev pub curve_of : ℕ → Arithmetic → Float → Float
curve_of zero = exp_value
curve_of (suc zero) = exp2_value
curve_of (suc (suc zero)) = exp10_value
curve_of (suc (suc (suc n))) = expm1_value

-- the arithmetics by number: 0 two-step, 1 fused
abbrev pub arithmetic_of : ℕ → Arithmetic
arithmetic_of zero = generic
arithmetic_of (suc n) = fusing
