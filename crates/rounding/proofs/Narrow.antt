-- The last rounding: half a unit of the result; and on which side of a midpoint the rounded number lies.
use Rattle.std.proofs.Common.{◌≡◌, ℕ, zero, suc, ◌+◌, ◌-◌, ◌*◌, ◌/◌, ◌%◌, ◌^◌, ◌<◌, ◌≤◌, Bool, false, [], ◌∷◌, sym, refl, ap, subst, le_trans, le_of_eq, lt_of_lt_of_le, mul-le-mul_right, mul_assoc, mul_comm, mul-lt-mul_of_pos_right, mul-pos, lt_of_not-le, le-div_iff_mul-le, not-le_of_lt, mul_left_comm, arith, pow_pos, pow_mono, pow-add}
use Rattle.std.specs.Float.{Format}
use Rattle.std.specs.Float.Ieee.{prec, low, size, round, fits}
use Rattle.std.specs.Float.Ieee.Digits.{size-lt}
use Rattle.std.specs.Float.Ieee.Fits.{two, two-le_pos, nearest-le, kept-lt}
use Rattle.std.specs.Float.Ieee.Nearest.{nearest-ge}
use Rattle.std.specs.Float.Ieee.Order.{drop, kept}
use Rattle.std.specs.Float.Ieee.Scale.{grid, overflow}
use Rattle.std.proofs.Math.Nat.{div-div-eq-div-mul}
use Prim.Native.Nat.{compare}
use Rattle.exact.proofs.Ring.{◌⊕◌, ◌⊖◌, ⊝, norm}
use Rattle.exact.proofs.Integer.{x₀, x₁, x₂, x₃, x₄}
use Rattle.exact.proofs.Rational.{ℚ, ◌+q◌, -q◌, ◌-q◌, qring}
use Rattle.exact.proofs.Order.{nn_add, ◌≤q◌, le_by}
use Rattle.exact.proofs.Bound.{Bound, bound_more}
use Rattle.rounding.proofs.Fractions.{frac, frac_le, frac_near_signed}
use Rattle.rounding.proofs.Value.{val, value_is}
use Rattle.rounding.proofs.HalfUnit.{Half, unit_at, grid_half, unit_small, round_value}
use Rattle.rounding.proofs.Error.{mul_pos2}
use Rattle.rounding.proofs.Best.{dist, grid_best}

-- the unit of a result of n smallest values
abbrev pub unit_of : Format → ℕ → ℕ
unit_of f n = 2 ^ (size n - prec f)

pub size_gt : (n j : ℕ) → 2 ^ j ≤ n → j < size n
size_gt n j h = lt_of_not-le (λ (g : size n ≤ j). not-le_of_lt (lt_of_lt_of_le (size-lt n) (pow_mono g)) h)

-- the unit that was rounded to is no larger than the unit of the result
pub unit_figure : (f : Format) (a c : ℕ) → 0 < c → unit_at f a c ≤ unit_of f (grid f a c)
unit_figure f a c C = go (drop (prec f) (a * 2 ^ low f) c) refl
  where
    P : 0 < prec f
    P = two-le_pos (prec f) (two f)

    go : (k : ℕ) → drop (prec f) (a * 2 ^ low f) c ≡ k → unit_at f a c ≤ unit_of f (grid f a c)
    go zero e = le_trans (le_of_eq (ap (λ (z : ℕ). 2 ^ z) e)) (pow_pos (size (grid f a c) - prec f))
    go (suc j) e =
        let k = drop (prec f) (a * 2 ^ low f) c in
        let n = a * 2 ^ low f in
        let s : 2 ^ k * 2 ^ (prec f - 1) * c ≤ n = unit_small f a c C (omega arith) in
        let s' : 2 ^ (prec f - 1) * (c * 2 ^ k) ≤ n = le_trans (le_of_eq (simp (mul_assoc, mul_comm, mul_left_comm))) s in
        let q : 2 ^ (prec f - 1) ≤ n / (c * 2 ^ k) = (le-div_iff_mul-le (mul-pos C (pow_pos k))).1 s' in
        let r : 2 ^ (prec f - 1) ≤ kept (prec f) n c = le_trans q (nearest-ge (n / (c * 2 ^ k)) (compare (n % (c * 2 ^ k) * 2) (c * 2 ^ k))) in
        let g : 2 ^ (prec f - 1 + k) ≤ grid f a c = le_trans (le_of_eq (pow-add 2 (prec f - 1) k)) (mul-le-mul_right (2 ^ k) r) in
        let z = size_gt (grid f a c) (prec f - 1 + k) g in
        pow_mono (omega arith)

half_in : (g l a c k : ℕ) → Half (g * c) (k * c) (a * l) → (g * (c * (l * 2)) ≤ (a * (l * 2) + k * c) * l) × (a * (l * (l * 2)) ≤ (g * (l * 2) + k * l) * c)
half_in g l a c k h =
    let x : g * c * 2 * l ≤ (a * l * 2 + k * c) * l = mul-le-mul_right l h.0 in
    let y : a * l * 2 * l ≤ (g * c * 2 + k * c) * l = mul-le-mul_right l h.1 in
    (omega arith, omega arith)

-- half of the unit of a result of n smallest values
abbrev pub half_of_unit : Format → ℕ → ℚ
half_of_unit f n = frac false (unit_of f n) (2 ^ low f * 2) (mul_pos2 (2 ^ low f) (pow_pos (low f)))

pub narrow : (f : Format) (s : Bool) (a c : ℕ) (C : 0 < c) → grid f a c < overflow f → Bound (val (round f s a c) -q frac s a c C) (half_of_unit f (grid f a c))
narrow f s a c C o =
    let L = pow_pos (low f) in
    let V = mul_pos2 (2 ^ low f) L in
    let h = half_in (grid f a c) (2 ^ low f) a c (unit_at f a c) (grid_half f a c C) in
    bound_more
    (subst (λ (x : ℚ). Bound (x -q frac s a c C) (frac false (unit_at f a c) (2 ^ low f * 2) V)) (sym (value_is (round f s a c) s (grid f a c) (2 ^ low f) L (round_value f s a c o)))
    (frac_near_signed s (grid f a c) (2 ^ low f) a c (unit_at f a c) (2 ^ low f * 2) L C V h.0 h.1))
    (frac_le (unit_at f a c) (2 ^ low f * 2) (unit_of f (grid f a c)) (2 ^ low f * 2) V V (mul-le-mul_right (2 ^ low f * 2) (unit_figure f a c C)))

-- ---- what is rounded to the lower of two values is not above their midpoint, and what is rounded to the upper one not below it
up_side : (g w n : ℕ) → g < w → dist g n ≤ dist w n → n * 2 ≤ g + w
up_side g w n l h = omega arith

down_side : (g w n : ℕ) → w < g → dist g n ≤ dist w n → g + w ≤ n * 2
down_side g w n l h = omega arith

pub under : (f : Format) (a c q j : ℕ) → 0 < c → q ≤ 2 ^ prec f → grid f a c < q * 2 ^ j → a * 2 ^ low f * 2 ≤ grid f a c * c + q * 2 ^ j * c
under f a c q j C fits l = up_side (grid f a c * c) (q * 2 ^ j * c) (a * 2 ^ low f) (mul-lt-mul_of_pos_right l C) (grid_best f a c q j C fits)

pub over : (f : Format) (a c q j : ℕ) → 0 < c → q ≤ 2 ^ prec f → q * 2 ^ j < grid f a c → grid f a c * c + q * 2 ^ j * c ≤ a * 2 ^ low f * 2
over f a c q j C fits l = down_side (grid f a c * c) (q * 2 ^ j * c) (a * 2 ^ low f) (mul-lt-mul_of_pos_right l C) (grid_best f a c q j C fits)

-- so v is within e of the midpoint m of y and y', where z is at most m, z' is at least m, and both are within e of v
pub midpoint : (z z' v m e : ℚ) → z ≤q m → m ≤q z' → Bound (z -q v) e → Bound (z' -q v) e → Bound (v -q m) e
unfolding norm ◌-q◌
midpoint z z' v m e h k b b' =
    let ρ = z ∷ z' ∷ v ∷ m ∷ e ∷ [] in
    record {
      hi = le_by (z -q v -q (-q◌ e) +q (m -q z)) (nn_add _ _ b.lo.le h.le) (qring (x₄ ⊖ (x₂ ⊖ x₃)) (x₀ ⊖ x₂ ⊖ ⊝ x₄ ⊕ (x₃ ⊖ x₀)) refl ρ);
      lo = le_by (e -q (z' -q v) +q (z' -q m)) (nn_add _ _ b'.hi.le k.le) (qring (x₂ ⊖ x₃ ⊖ ⊝ x₄) (x₄ ⊖ (x₁ ⊖ x₂) ⊕ (x₁ ⊖ x₃)) refl ρ);
    }

-- a result is a value of the format
pub kept_le : (f : Format) (a c : ℕ) → kept (prec f) (a * 2 ^ low f) c ≤ 2 ^ prec f
kept_le f a c =
    let n = a * 2 ^ low f in
    let k = drop (prec f) n c in
    le_trans (nearest-le (n / (c * 2 ^ k)) (compare (n % (c * 2 ^ k) * 2) (c * 2 ^ k))) (subst (λ (x : ℕ). x < 2 ^ prec f) (div-div-eq-div-mul n c (2 ^ k)) (kept-lt (prec f) (n / c)))
