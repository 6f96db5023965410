-- The f32 next to a given one: every other above it is at least a unit higher, and every other below it at least as low as the one before it.
use Rattle.std.proofs.Common.{◌≡◌, ℕ, ◌+◌, ◌*◌, ◌^◌, ◌≤◌, Bool, true, false, sym, refl, subst, inl, inr, le_of_lt, mul-le-mul_right, pow_pos}
use Rattle.std.specs.Float.{Float, binary32}
use Rattle.std.proofs.lemmas.Bool.{cases_lt}
use std.Quotient.{cls}
use Rattle.exact.proofs.Rational.{ℚ}
use Rattle.exact.proofs.Order.{◌≤q◌}
use Rattle.rounding.specs.Values.{value, ◌≺◌}
use Rattle.rounding.specs.Nearest.{Held}
use Rattle.rounding.proofs.Fractions.{frac, frac_le, nn_frac, not_above}
use Rattle.rounding.proofs.Value.{val, val_value, value_is}
use Rattle.rounding.proofs.Narrow.{unit_of}
use Rattle.rounding.proofs.Held.{digits}
use Rattle.rounding.proofs.Distance.{at_most_in}
use Rattle.rounding.proofs.Gaps.{Value, next_value}

-- g smallest values of f32
abbrev pub grains : Bool → ℕ → ℚ
grains s g = frac s g (2 ^ 149) (pow_pos 149)

pub grains_mono : (g h : ℕ) → g ≤ h → grains false g ≤q grains false h
grains_mono g h l = frac_le g (2 ^ 149) h (2 ^ 149) (pow_pos 149) (pow_pos 149) (mul-le-mul_right (2 ^ 149) l)

-- not at most: what is less
pub not_below : (y w : Float) → value y ≺ value w → val w ≤q val y → ⊥
not_below y w h l = h (at_most_in (value w) (value y) (subst (λ (u : ℚ). u ≤q cls (value y)) (val_value w) (subst (λ (u : ℚ). val w ≤q u) (val_value y) l)))

module _ (w : Float) (held : Held binary32 w) where
  number : val w ≡ grains (digits binary32 w held.is_finite held.is_held).s ((digits binary32 w held.is_finite held.is_held).q * 2 ^ (digits binary32 w held.is_finite held.is_held).j)
  number = let d = digits binary32 w held.is_finite held.is_held in value_is w d.s (d.q * 2 ^ d.j) (2 ^ 149) (pow_pos 149) d.how

  worth : Value binary32 ((digits binary32 w held.is_finite held.is_held).q * 2 ^ (digits binary32 w held.is_finite held.is_held).j)
  worth = let d = digits binary32 w held.is_finite held.is_held in record { q = d.q; j = d.j; few = le_of_lt d.few; is_value = refl }

  -- y is of Y smallest values
  pub gap_above : (y : Float) (Y : ℕ) → Value binary32 Y → val y ≡ grains false Y → value y ≺ value w → grains false (Y + unit_of binary32 Y) ≤q val w
  gap_above y Y vY e h = go (digits binary32 w held.is_finite held.is_held).s _ number worth
    where
      go : (s : Bool) (g : ℕ) → val w ≡ grains s g → Value binary32 g → grains false (Y + unit_of binary32 Y) ≤q val w
      go true g n v = absurd (not_below y w h (subst (λ (u : ℚ). u ≤q val y) (sym n) (subst (λ (u : ℚ). grains true g ≤q u) (sym e) (not_above g (2 ^ 149) (pow_pos 149) (grains false Y) (nn_frac Y (2 ^ 149) (pow_pos 149))))))
      go false g n v = elim (cases_lt Y g) [
        | inl l ↦ subst (λ (u : ℚ). grains false (Y + unit_of binary32 Y) ≤q u) (sym n) (grains_mono (Y + unit_of binary32 Y) g (next_value binary32 Y g vY v l))
        | inr l ↦ absurd (not_below y w h (subst (λ (u : ℚ). u ≤q val y) (sym n) (subst (λ (u : ℚ). grains false g ≤q u) (sym e) (grains_mono g Y l))))
      ]

  -- P is the value before Y
  pub gap_below : (y : Float) (P : ℕ) → Value binary32 P → val y ≡ grains false (P + unit_of binary32 P) → value w ≺ value y → val w ≤q grains false P
  gap_below y P vP e h = go (digits binary32 w held.is_finite held.is_held).s _ number worth
    where
      go : (s : Bool) (g : ℕ) → val w ≡ grains s g → Value binary32 g → val w ≤q grains false P
      go true g n v = subst (λ (u : ℚ). u ≤q grains false P) (sym n) (not_above g (2 ^ 149) (pow_pos 149) (grains false P) (nn_frac P (2 ^ 149) (pow_pos 149)))
      go false g n v = elim (cases_lt P g) [
        | inl l ↦ absurd (not_below w y h (subst (λ (u : ℚ). u ≤q val w) (sym e) (subst (λ (u : ℚ). grains false (P + unit_of binary32 P) ≤q u) (sym n) (grains_mono (P + unit_of binary32 P) g (next_value binary32 P g vP v l)))))
        | inr l ↦ subst (λ (u : ℚ). u ≤q grains false P) (sym n) (grains_mono g P l)
      ]
