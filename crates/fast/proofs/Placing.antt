-- The value of a float of either format, by where the point stands in its digits.
use Rattle.std.proofs.Common.{◌≡◌, ℕ, suc, ◌+◌, ◌-◌, ◌*◌, ◌/◌, ◌%◌, ◌^◌, ◌<◌, ◌≤◌, leb, sym, subst, inl, inr, lt_of_lt_of_le, div-lt_iff_lt-mul, eq-zero-or-pos, arith, pow_pos, pow_mono, shl_lt}
use lib.Ieee.{Format, binary32, binary64, prec, low, top, hid, ones, of_bits, of_fields}
use lib.Ieee.Exact.{HasValue, odd_sign}
use Rattle.fast.specs.Point.{Places}
use Rattle.fast.proofs.Patterns.{value}

-- the pattern is below those of the whole numbers that take up all digits
abbrev pub Under : Format → ℕ → Type 0
Under f b = b % top f < suc (low f) * hid f

-- less than a half, or so many digits after the point
pub data Placed (f : Format) (b s : ℕ) : Type 0 where
  less : (N : ℕ) → HasValue (of_bits f b) (leb (top f) b) N (2 ^ low f) → 2 * N < 2 ^ low f → s ≡ suc (prec f) → Placed f b s
  more : (j k : ℕ) → HasValue (of_bits f b) (leb (top f) b) ((hid f + b % hid f) * 2 ^ j) (2 ^ low f) → s ≡ suc k → j + suc k ≡ low f → k ≤ prec f → Placed f b s

pub digits : (f : Format) (b : ℕ) → (b % top f % hid f + hid f ≡ hid f + b % hid f) × (hid f + b % hid f < 2 ^ prec f)
digits binary32 b = (omega arith, omega arith)
digits binary64 b = (omega arith, omega arith)

subnormal : (f : Format) (b : ℕ) → b % top f / hid f ≡ 0 → HasValue (of_bits f b) (leb (top f) b) (b % hid f * 2 ^ 0) (2 ^ low f)
unfolding of_bits of_fields
subnormal f b e = subst (λ (k : ℕ). HasValue (of_fields f (leb (top f) b) k (b % hid f)) (leb (top f) b) (b % hid f * 2 ^ 0) (2 ^ low f)) (sym e) (odd_sign (prec f) (leb (top f) b) (b % hid f) 0 (low f))

twice_below : (N j l : ℕ) → N < 2 ^ j → suc j ≤ l → 2 * N < 2 ^ l
twice_below N j l h g =
    let t : 2 * N < 2 ^ suc j = omega arith in
    lt_of_lt_of_le t (pow_mono g)

below_half : (f : Format) (b j : ℕ) → suc j < low f - prec f → 2 * ((hid f + b % hid f) * 2 ^ j) < 2 ^ low f
below_half f b j h = twice_below ((hid f + b % hid f) * 2 ^ j) (prec f + j) (low f) (shl_lt {a = hid f + b % hid f} (prec f) j (digits f b).1) (omega arith)

tiny : (f : Format) (b : ℕ) → 2 * (b % hid f * 2 ^ 0) < 2 ^ low f
tiny f b = twice_below (b % hid f * 2 ^ 0) (prec f) (low f) (omega (arith, (digits f b).1)) (far f)
  where
    far : (f : Format) → suc (prec f) ≤ low f
    far binary32 = omega arith
    far binary64 = omega arith

inside : (f : Format) (j : ℕ) → suc j < low f - prec f → suc j < ones f
inside binary32 j h = omega arith
inside binary64 j h = omega arith

-- an exponent's field below that of those whole numbers, and the places after the point
abbrev Split : Format → ℕ → ℕ → Type 0
Split f e s = (j : ℕ) × (k : ℕ) × (e ≡ suc j) × (s ≡ suc k) × (j + suc k ≡ low f) × (k ≤ prec f) × (suc j < ones f)

split : (f : Format) (e s : ℕ) → e < suc (low f) → low f - prec f ≤ e → s ≡ suc (low f) - e → Split f e s
split binary32 e s l h g = (e - 1, 149 - e, omega arith, omega arith, omega arith, omega arith, omega arith)
split binary64 e s l h g = (e - 1, 1074 - e, omega arith, omega arith, omega arith, omega arith, omega arith)

pub placed : (f : Format) (b s : ℕ) → Under f b → Places f (b % top f) s → Placed f b s
placed f b s u p =
    elim (eq-zero-or-pos (low f - prec f - b % top f / hid f)) [
      | inl z ↦
          let g : low f - prec f ≤ b % top f / hid f = omega arith in
          let y = split f (b % top f / hid f) s ((div-lt_iff_lt-mul (pow_pos (prec f - 1))).1 u) g (p.near g) in
          more y.0 y.1 (value f b y.0 y.2 y.6) y.3 y.4 y.5
      | inr z ↦
          let g : b % top f / hid f < low f - prec f = omega arith in
          elim (eq-zero-or-pos (b % top f / hid f)) [
            | inl e ↦ less (b % hid f * 2 ^ 0) (subnormal f b e) (tiny f b) (p.far g)
            | inr e ↦
                let j : ℕ = b % top f / hid f - 1 in
                let i : b % top f / hid f ≡ suc j = omega arith in
                let h : suc j < low f - prec f = subst (λ (n : ℕ). n < low f - prec f) i g in
                less ((hid f + b % hid f) * 2 ^ j) (value f b j i (inside f j h)) (below_half f b j h) (p.far g)
          ]
    ]
