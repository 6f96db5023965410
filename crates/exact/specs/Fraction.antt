-- Fractions: a whole number of either sign over one from 1 up. Two fractions are compared as whole numbers, multiplied out.
use Rattle.std.specs.Prelude.{◌≡◌, ℕ, suc, ◌*◌, ◌^◌, ◌<◌, ℤ, pos, ◌+ℤ◌, ◌*ℤ◌, neg_ℤ, nat_abs, ◌≤ℤ◌}
use Rattle.std.proofs.Common.{mul-pos, zero-lt-suc, pow_pos}

-- num / den
pub record Fraction : Type 0 where
  pub num : ℤ
  pub den : ℕ
  pub ok : 0 < den

-- z / c
abbrev pub fraction : ℤ → (c : ℕ) → 0 < c → Fraction
fraction z c C = record { num = z; den = c; ok = C }

-- the whole number z
abbrev pub integer : ℤ → Fraction
integer z = fraction z 1 (zero-lt-suc 0)

-- n
abbrev pub whole : ℕ → Fraction
whole n = integer (pos n)

-- 1 / (k + 1)
abbrev pub part : ℕ → Fraction
part k = fraction (pos 1) (suc k) (zero-lt-suc k)

-- z / 2 ^ j
abbrev pub dyadic : ℤ → ℕ → Fraction
dyadic z j = fraction z (2 ^ j) (pow_pos j)

-- a + b
abbrev pub plus : Fraction → Fraction → Fraction
plus a b = record { num = a.num *ℤ pos b.den +ℤ b.num *ℤ pos a.den; den = a.den * b.den; ok = mul-pos a.ok b.ok }

-- a b
abbrev pub times : Fraction → Fraction → Fraction
times a b = record { num = a.num *ℤ b.num; den = a.den * b.den; ok = mul-pos a.ok b.ok }

-- -a
abbrev pub opposite : Fraction → Fraction
opposite a = record { num = neg_ℤ a.num; den = a.den; ok = a.ok }

-- |a|
abbrev pub absolute : Fraction → Fraction
absolute a = record { num = pos (nat_abs a.num); den = a.den; ok = a.ok }

-- a - b
abbrev pub difference : Fraction → Fraction → Fraction
difference a b = plus a (opposite b)

-- |a - b|, the distance of a and b
abbrev pub apart : Fraction → Fraction → Fraction
apart a b = absolute (difference a b)

-- a and b are the same number
abbrev pub Same : Fraction → Fraction → Type 0
Same a b = a.num *ℤ pos b.den ≡ b.num *ℤ pos a.den

infix 50 ◌≼◌
-- a is at most b
abbrev pub ◌≼◌ : Fraction → Fraction → Type 0
a ≼ b = (a.num *ℤ pos b.den) ≤ℤ (b.num *ℤ pos a.den)
