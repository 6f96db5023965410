-- The number that a finite float stands for, as a fraction, and its sign.
use Rattle.std.specs.Prelude.{ℕ, ◌*◌, Bool, true, false, ℤ, pos, neg_ℤ, ◌==◌, Float}
use Rattle.std.specs.Float.{nan, inf, fin}
use Rattle.std.specs.Float.Ieee.{up, down}
use Rattle.std.specs.Float.Ieee.Fits.{down_pos}
use Rattle.exact.specs.Fraction.{Fraction, whole, ◌≼◌}

-- n, or -n where the sign is set
abbrev pub signed : Bool → ℕ → ℤ
signed false n = pos n
signed true n = neg_ℤ (pos n)

-- the number of a finite float; 0 for an infinity and a NaN, which have none
abbrev pub value : Float → Fraction
value nan = whole 0
value (inf s) = whole 0
value (fin s m e) = record { num = signed s (m * up e); den = down e; ok = down_pos e }

-- the sign, set for a negative number, for -0 and for minus infinity
abbrev pub sign : Float → Bool
sign nan = false
sign (inf s) = s
sign (fin s m e) = s

-- whether it is an infinity, and whether it is +0 or -0
abbrev pub infinite : Float → Bool
infinite nan = false
infinite (inf s) = true
infinite (fin s m e) = false

abbrev pub is_zero : Float → Bool
is_zero nan = false
is_zero (inf s) = false
is_zero (fin s m e) = m == 0

infix 50 ◌≺◌
-- a is less than b
abbrev pub ◌≺◌ : Fraction → Fraction → Type 0
a ≺ b = b ≼ a → ⊥
