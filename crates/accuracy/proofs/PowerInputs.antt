-- What the patterns of exp2's and exp10's bands say of the input as a number.
use Rattle.std.proofs.Common.{ℕ, ◌+◌, ◌*◌, ◌^◌, ◌<◌, ◌≤◌, true, false, T, [], pos, sym, refl, ◌∙◌, subst, inr, ⊎_elim, le_trans, mul-le-mul_right, arith, lit≤, pow_pos}
use Rattle.std.specs.Float.{Float, nan, inf, fin, binary32}
use Rattle.std.specs.Float.Ieee.{fits, is_nan, to_bits}
use Rattle.std.specs.Float.Ieee.Scale.{finite}
use Rattle.exact.specs.Logarithm.{binary, decimal}
use Rattle.exact.proofs.Ring.{con, ⊝, norm}
use Rattle.exact.proofs.Rational.{ℚ, ◌+q◌, ◌*q◌, -q◌, ◌-q◌, ofℤ, qring}
use Rattle.exact.proofs.Order.{nn, ◌≤q◌, q_trans, q_neg}
use Rattle.exact.proofs.Bound.{ofℕ, nn_le, Bound, bound_more}
use Rattle.exact.proofs.Compare.{dy}
use Rattle.rounding.proofs.Fractions.{nn_frac, frac_neg}
use Rattle.rounding.proofs.Value.{val}
use Rattle.rounding.proofs.Multiple.{Away}
use Rattle.rounding.proofs.Patterns.{sized, size_of, size_mono, sized_mono}
use Rattle.curves.specs.Steps.{pattern, magnitude}
use Rattle.curves.specs.Exp2.{Exp2Reaches}
use Rattle.accuracy.proofs.Inputs.{positive, negative, signed_of, sized_bound}
use Rattle.accuracy.proofs.PowerLimits.{last, first}

-- at least the pattern c, which is at least 2 ^ -k
pub away_from : (x : Float) → T (fits binary32 x) → T (finite x) → (k c : ℕ) → c ≤ magnitude x → 2 ^ 149 ≤ size_of c * 2 ^ k → Away k (val x)
away_from x w t k c h g = elim (signed_of x w t) [
  | positive l m v ↦ record { s = false; a = size_of (pattern x); c = 2 ^ 149; ok = pow_pos 149; how = v; far = inr (le_trans g (mul-le-mul_right (2 ^ k) (size_mono c (pattern x) (subst (λ (n : ℕ). c ≤ n) m h)))) }
  | negative l m v ↦ record { s = true; a = size_of (magnitude x); c = 2 ^ 149; ok = pow_pos 149; how = v ∙ frac_neg (size_of (magnitude x)) (2 ^ 149) (pow_pos 149); far = inr (le_trans g (mul-le-mul_right (2 ^ k) (size_mono c (magnitude x) h))) }
]

-- at most the pattern c, with no sign
pub size_up_to : (x : Float) → T (fits binary32 x) → T (finite x) → (c : ℕ) → magnitude x ≤ c → Bound (val x) (sized c)
size_up_to x w t c h = bound_more (sized_bound x w t) (sized_mono (magnitude x) c h)

zero_sized : (c : ℕ) → ofℤ (pos 0) ≤q sized c
zero_sized c = nn_le (nn_frac (size_of c) (2 ^ 149) (pow_pos 149))

not_above : (c : ℕ) → -q◌ (sized c) ≤q ofℤ (pos 0)
unfolding norm
not_above c = subst (λ (u : ℚ). -q◌ (sized c) ≤q u) (qring (⊝ (con (pos 0))) (con (pos 0)) refl []) (q_neg (zero_sized c))

-- a negative x is at most 0, and a positive one at least 0
pub up_to : (x : Float) → T (fits binary32 x) → T (finite x) → (c : ℕ) → (pattern x < 2 ^ 31 → pattern x ≤ c) → val x ≤q sized c
up_to x w t c h = elim (signed_of x w t) [
  | positive l m v ↦ subst (λ (u : ℚ). u ≤q sized c) (sym v) (sized_mono (pattern x) c (h l))
  | negative l m v ↦ subst (λ (u : ℚ). u ≤q sized c) (sym v) (q_trans (not_above (magnitude x)) (zero_sized c))
]

pub from_pattern : (x : Float) → T (fits binary32 x) → T (finite x) → (c : ℕ) → pattern x < 2 ^ 31 → c ≤ pattern x → sized c ≤q val x
from_pattern x w t c l h = elim (signed_of x w t) [
  | positive l' m v ↦ subst (λ (u : ℚ). sized c ≤q u) (sym v) (sized_mono c (pattern x) h)
  | negative l' m v ↦ absurd (omega (arith, l, l'))
]

pub down_from : (x : Float) → T (fits binary32 x) → T (finite x) → (c : ℕ) → 2 ^ 31 + c ≤ pattern x → val x ≤q -q◌ (sized c)
down_from x w t c h = elim (signed_of x w t) [
  | positive l m v ↦ absurd (omega (arith, l, h))
  | negative l m v ↦ subst (λ (u : ℚ). u ≤q -q◌ (sized c)) (sym v) (q_neg (sized_mono c (magnitude x) (let k = m in omega arith)))
]

pub down_to : (x : Float) → T (fits binary32 x) → T (finite x) → (c : ℕ) → (2 ^ 31 ≤ pattern x → pattern x ≤ 2 ^ 31 + c) → -q◌ (sized c) ≤q val x
down_to x w t c h = elim (signed_of x w t) [
  | positive l m v ↦ subst (λ (u : ℚ). -q◌ (sized c) ≤q u) (sym v) (q_trans (not_above c) (zero_sized (pattern x)))
  | negative l m v ↦ subst (λ (u : ℚ). -q◌ (sized c) ≤q u) (sym v) (q_neg (sized_mono (magnitude x) c (let k = m in let g = h l in omega arith)))
]

-- ---- what reaches a table is finite
pub exp2_finite : (x : Float) → Exp2Reaches x → T (finite x)
unfolding is_nan to_bits
exp2_finite nan t = absurd t.number
exp2_finite (inf false) t = ⊎_elim (λ l. absurd (omega (arith, l))) (λ l. absurd (omega (arith, l.0))) t.limits
exp2_finite (inf true) t = ⊎_elim (λ l. absurd (omega (arith, l))) (λ l. absurd (omega (arith, l.1))) t.limits
exp2_finite (fin s m e) t = tt

exp2_top : (x : Float) → T (fits binary32 x) → Exp2Reaches x → magnitude x ≤ 0x4315_0000
exp2_top x w t = elim (signed_of x w (exp2_finite x t)) [
  | positive l m v ↦ ⊎_elim (λ h. omega (arith, m, h)) (λ h. absurd (omega (arith, l, h.0))) t.limits
  | negative l m v ↦ ⊎_elim (λ h. absurd (omega (arith, l, h))) (λ h. omega (arith, m, h.1)) t.limits
]

exp2_right : (x : Float) → Exp2Reaches x → pattern x < 2 ^ 31 → pattern x ≤ 0x42ff_ffff
exp2_right x t l = ⊎_elim (λ h. omega (arith, h)) (λ h. absurd (omega (arith, l, h.0))) t.limits

nums : (sized 0x4315_0000 ≤q ofℕ 150) × (sized 0x42ff_ffff ≤q last binary) × (sized 0x421a_209a ≤q last decimal) × (first binary ≤q sized 0x4300_0000) × (first decimal ≤q sized 0x421a_209b)
unfolding nn ◌-q◌ ◌+q◌ -q◌ ◌*q◌ ofℕ ofℤ
nums = (record { le = tt }, record { le = tt }, record { le = tt }, record { le = tt }, record { le = tt })

module _ (x : Float) (w : T (fits binary32 x)) (t : Exp2Reaches x) where
  pub exp2_size : Bound (val x) (ofℕ 150)
  exp2_size = bound_more (size_up_to x w (exp2_finite x t) 0x4315_0000 (exp2_top x w t)) nums.0

  pub exp2_away : Away 5 (val x)
  exp2_away = away_from x w (exp2_finite x t) 5 0x3d00_0000 (let l = t.past_small in omega arith) (lit≤ tt)

  pub exp2_last : val x ≤q last binary
  exp2_last = q_trans (up_to x w (exp2_finite x t) 0x42ff_ffff (exp2_right x t)) nums.1

pub exp10_last : (x : Float) → T (fits binary32 x) → T (finite x) → (pattern x < 2 ^ 31 → pattern x < 0x421a_209b) → val x ≤q last decimal
exp10_last x w t h = q_trans (up_to x w t 0x421a_209a (λ l. let g = h l in omega arith)) nums.2

pub exp2_first : (x : Float) → T (fits binary32 x) → T (finite x) → pattern x < 2 ^ 31 → 0x4300_0000 ≤ pattern x → first binary ≤q val x
exp2_first x w t l h = q_trans nums.3 (from_pattern x w t 0x4300_0000 l h)

pub exp10_first : (x : Float) → T (fits binary32 x) → T (finite x) → pattern x < 2 ^ 31 → 0x421a_209b ≤ pattern x → first decimal ≤q val x
exp10_first x w t l h = q_trans nums.4 (from_pattern x w t 0x421a_209b l h)

-- near zero: up to 1 / 32
zero_nums : sized 0x3d00_0000 ≤q dy 1 5
unfolding nn ◌-q◌ ◌+q◌ -q◌
zero_nums = record { le = tt }

pub near_zero : (x : Float) → T (fits binary32 x) → T (finite x) → magnitude x ≤ 0x3d00_0000 → Bound (val x) (dy 1 5)
near_zero x w t h = bound_more (size_up_to x w t 0x3d00_0000 h) zero_nums
