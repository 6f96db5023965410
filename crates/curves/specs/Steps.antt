-- What the curves share: patterns, table rows and polynomials.
use Rattle.std.specs.Prelude.{ℕ, ◌+◌, ◌*◌, ◌%◌, ◌^◌, List, [], ◌∷◌, ℤ, pos, bit_and, from_bits, slice_index, to_bits, unsigned_abs, Float}
use Rattle.std.specs.Int.Signed.{shr_z}
use Rattle.std.specs.Float.{binary32, binary64}
use Rattle.std.specs.Float.Ieee.{mul}
use Rattle.std.specs.Int.{int_rem_euclid}

-- the pattern of x, read as a whole number
abbrev pub pattern : Float → ℕ
pattern x = to_bits binary32 x

-- the pattern with its top bit cleared
abbrev pub magnitude : Float → ℕ
magnitude x = bit_and (pattern x) 0x7fff_ffff

-- the f32 and the f64 of a pattern
abbrev pub single : ℕ → Float
single b = from_bits binary32 b

abbrev pub double : ℕ → Float
double b = from_bits binary64 b

-- the row of a table
abbrev pub row : List ℕ → ℕ → Float
row table i = double (slice_index table i)

-- a0 + x (a1 + x (a2 + x (a3 + x a4))), each step one multiply-add
abbrev pub poly5 : (Float → Float → Float → Float) → Float → Float → Float → Float → Float → Float → Float
poly5 fma x a0 a1 a2 a3 a4 = fma x (fma x (fma x (fma x a4 a3) a2) a1) a0

-- (a0 + a1 x) + x ^ 2 ((a2 + a3 x) + x ^ 2 (a4 + a5 x))
abbrev pub poly6 : (Float → Float → Float → Float) → Float → Float → Float → Float → Float → Float → Float → Float
poly6 fma x a0 a1 a2 a3 a4 a5 = fma (mul binary64 x x) (fma (mul binary64 x x) (fma x a5 a4) (fma x a3 a2)) (fma x a1 a0)

-- poly6 at a list of its six coefficients
abbrev pub poly6_of : (Float → Float → Float → Float) → Float → List Float → Float
poly6_of fma x (a0 ∷ a1 ∷ a2 ∷ a3 ∷ a4 ∷ a5 ∷ []) = poly6 fma x a0 a1 a2 a3 a4 a5
poly6_of fma x _ = double 0

-- the five steps of poly5, and two more
abbrev pub poly7 : (Float → Float → Float → Float) → Float → Float → Float → Float → Float → Float → Float → Float → Float
poly7 fma x a0 a1 a2 a3 a4 a5 a6 = fma x (fma x (fma x (fma x (fma x (fma x a6 a5) a4) a3) a2) a1) a0

-- a₀ + x (a₁ + x (a₂ + ..)) by Horner's scheme, each step one multiply-add, and 0 of no coefficient: of five and of seven it computes to poly5 and poly7
abbrev pub horner : (Float → Float → Float → Float) → Float → List Float → Float
horner fma x [] = double 0
horner fma x (a ∷ []) = a
horner fma x (a ∷ b ∷ rest) = fma x (horner fma x (b ∷ rest)) a

-- the row of z among n, from 0 for a negative z too
abbrev pub row_of : ℕ → ℤ → ℕ
row_of n z = unsigned_abs (int_rem_euclid z (pos n))

-- the whole part of z / n, rounded down, in the twelve bits above an f64's digits
abbrev pub power_of : ℕ → ℤ → ℕ
power_of n z = unsigned_abs (int_rem_euclid (shr_z z n) (pos 4096)) * 2 ^ 52

-- a row with a power of two: z among n picks the row, and its whole part is added into the exponent's field; a carry past the top is dropped
unfoldable pub scaled_row : List ℕ → ℕ → ℤ → ℕ
scaled_row table n z = (slice_index table (row_of n z) + power_of n z) % 2 ^ 64

-- mh (1 + c0 x + x ^ 2 (c1 + c2 x + x ^ 2 (c3 + c4 x))), where c0 to c4 are near those of (b ^ x - 1) / x
abbrev pub times_power_value : (Float → Float → Float → Float) → Float → Float → Float → Float → Float → Float → Float → Float
times_power_value fma x mh c0 c1 c2 c3 c4 =
    fma (fma (mul binary64 x x) (fma x c4 c3) (fma x c2 c1)) (mul binary64 (mul binary64 x x) mh) (mul binary64 (fma x c0 (double 0x3ff0_0000_0000_0000)) mh)

-- times_power_value at a list of its five coefficients
abbrev pub times_power_of : (Float → Float → Float → Float) → Float → Float → List Float → Float
times_power_of fma x mh (c0 ∷ c1 ∷ c2 ∷ c3 ∷ c4 ∷ []) = times_power_value fma x mh c0 c1 c2 c3 c4
times_power_of fma x mh _ = double 0
