-- What the four operations of an arithmetic mean, and when an arithmetic is lawful.
use Rattle.std.specs.Prelude.{◌≡◌, ℕ, Bool, true, false, cond, ◌&&◌, ◌||◌, T, ◌⊎◌, ℤ, pos, negsuc, MatchBool, Float}
use Rattle.std.specs.Float.Ieee.{minus, add, mul, lt, le, eq, fits}
use Rattle.std.specs.Float.{float_mul_add, float_round, float_with_sign, float_is_finite, Format, fin, binary32, binary64}
use Rattle.exact.specs.Fraction.{integer, Same}
use Rattle.rounding.specs.Values.{value}
use Rattle.rounding.specs.Whole.{NearestAway}
use Rattle.rounding.specs.Operations.{Product, Sum, MultiplyAdd}

-- an arithmetic: the functions that fmaf, fma, roundf and round stand for
pub record Arithmetic : Type 0 where
  pub fmaf : Float → Float → Float → Float
  pub fma : Float → Float → Float → Float
  pub roundf : Float → Float
  pub round : Float → Float

-- x is zero, or of magnitude 2 ^ -n to 2 ^ n
unfoldable pub within : ℕ → Float → Bool
within n x = eq (float_with_sign false x) (fin false 0 (pos 0)) || (le (fin false 1 (minus 0 n)) (float_with_sign false x) && le (float_with_sign false x) (fin false 1 (pos n)))

-- the product rounded, and then the sum
abbrev pub two_step : Format → Float → Float → Float → Float
two_step f x y z = add f (mul f x y) z

-- r is x * y + z rounded once, or the product rounded and then the sum
abbrev pub OneOrTwo : Format → Float → Float → Float → Float → Type 0
OneOrTwo f x y z r = (r ≡ float_mul_add f x y z) ⊎ (r ≡ two_step f x y z)

-- what is asked of a multiply-add: nothing outside the range n
abbrev pub MulAdd : Format → ℕ → Float → Float → Float → Float → Type 0
MulAdd f n x y z r = T (fits f x) → T (fits f y) → T (fits f z) → T (within n x) → T (within n y) → T (within n z) → OneOrTwo f x y z r

-- x is below magnitude 2 ^ 22
abbrev pub small : Float → Bool
small x = lt (float_with_sign false x) (fin false 1 (pos 22))

-- -0, and -1/2
abbrev pub minus_zero : Float
minus_zero = fin true 0 (pos 0)

abbrev pub minus_half : Float
minus_half = fin true 1 (negsuc 0)

-- r is a value of the format f: the whole number nearest to x, halves away from zero. An x above -1/2 and below 0 gives -0.
pub record RoundsAway (f : Format) (x r : Float) : Type 0 where
  pub fit : T (fits f r)
  pub number : T (float_is_finite r)
  pub z : ℤ
  pub is : Same (value r) (integer z)
  pub nearest : NearestAway (value x) z
  pub gives_minus_zero : T (lt minus_half x) → T (lt x minus_zero) → r ≡ minus_zero

-- what is asked of a rounding to a whole number: nothing from magnitude 2 ^ 22 on
abbrev pub Nearest : Format → Float → Float → Type 0
Nearest f x r = T (fits f x) → T (small x) → RoundsAway f x r

-- the law: the widest ranges and the only choice that an arithmetic has
pub record Lawful (a : Arithmetic) : Type 0 where
  pub fmaf_law : (x y z : Float) → MulAdd binary32 60 x y z (a.fmaf x y z)
  pub fma_law : (x y z : Float) → MulAdd binary64 400 x y z (a.fma x y z)
  pub roundf_law : (x : Float) → Nearest binary32 x (a.roundf x)
  pub round_law : (x : Float) → Nearest binary64 x (a.round x)

-- r is IEEE 754-2019's sum of z and the standard's product of x and y
abbrev pub TwoOperations : Format → Float → Float → Float → Float → Type 0
TwoOperations f x y z r = (p : Float) × Product f x y p × Sum f p z r

-- r is the standard's fusedMultiplyAdd where all three are in the range n, and two operations elsewhere
abbrev pub FusedInside : Format → ℕ → Float → Float → Float → Float → Type 0
FusedInside f n x y z r = MatchBool (within n x && (within n y && within n z)) (MultiplyAdd f x y z r) (TwoOperations f x y z r)

-- two steps everywhere
abbrev pub generic : Arithmetic
generic = record { fmaf = two_step binary32; fma = two_step binary64; roundf = float_round binary32; round = float_round binary64 }

-- once where all three are in the range n, and two steps elsewhere
abbrev pub fused_within : Format → ℕ → Float → Float → Float → Float
fused_within f n x y z = cond (within n x && (within n y && within n z)) (float_mul_add f x y z) (two_step f x y z)

abbrev pub fusing : Arithmetic
fusing = record { fmaf = fused_within binary32 60; fma = fused_within binary64 400; roundf = float_round binary32; round = float_round binary64 }
