-- What the law of an arithmetic speaks of: the ranges of its arguments, and the results that a multiply-add may have.
use Rattle.std.specs.Prelude.{◌≡◌, ℕ, ◌*◌, ◌^◌, ◌≤◌, T, ◌⊎◌, Float}
use Rattle.std.specs.Float.Ieee.{add, mul, up, down, fits}
use Rattle.std.specs.Float.{float_mul_add, Format, nan, inf, fin}

-- a value of the format f that is zero or of magnitude 2 ^ -k to 2 ^ k
abbrev pub Ranged : Format → ℕ → Float → Type 0
Ranged f k nan = ⊥
Ranged f k (inf s) = ⊥
Ranged f k (fin s m e) = T (fits f (fin s m e)) × ((m ≡ 0) ⊎ ((down e ≤ m * up e * 2 ^ k) × (m * up e ≤ 2 ^ k * down e)))

-- a value of the format f of magnitude at most 2 ^ k
abbrev pub Small : Format → ℕ → Float → Type 0
Small f k nan = ⊥
Small f k (inf s) = ⊥
Small f k (fin s m e) = T (fits f (fin s m e)) × (m * up e ≤ 2 ^ k * down e)

-- r is x * y + z rounded once, or the product rounded and then the sum
pub data Permitted (f : Format) (x y z r : Float) : Type 0 where
  once : r ≡ float_mul_add f x y z → Permitted f x y z r
  twice : r ≡ add f (mul f x y) z → Permitted f x y z r
