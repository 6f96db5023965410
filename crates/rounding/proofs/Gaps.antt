-- The gaps between values of a format: at least a unit of the lower one. In whole numbers of smallest values.
use Rattle.std.proofs.Common.{◌≡◌, ℕ, suc, ◌+◌, ◌-◌, ◌*◌, ◌^◌, ◌<◌, ◌≤◌, Bool, true, false, not, T, ℤ, pos, ◌+ℤ◌, neg_ℤ, sym, refl, ap, ◌∙◌, subst, inl, inr, le_trans, le_of_eq, lt_of_le_of_lt, le_of_lt, lt_irrefl, mul-le-mul_right, eq-zero-or-pos, le_antisymm, lt_of_mul-lt-mul_right, zero-mul, not-le_of_lt, arith, pow_mono, pow-add}
use Rattle.std.specs.Int.Signed.{le_z}
use Rattle.std.specs.Float.{Format}
use Rattle.std.specs.Float.Ieee.{prec, low, size}
use Rattle.std.specs.Float.Ieee.Digits.{size-lt, size-le, size_reaches}
use Rattle.std.specs.Float.Ieee.Fits.{two, two-le_pos}
use Rattle.std.specs.Float.Ieee.Order.{drop, kept}
use Rattle.std.specs.Float.Ieee.Scale.{grid}
use Rattle.std.proofs.lemmas.Int.{ints}
use Rattle.std.proofs.lemmas.Bool.{cases_lt}
use Rattle.rounding.specs.Values.{signed}
use Rattle.rounding.proofs.Narrow.{unit_of, kept_le}
use Rattle.rounding.proofs.PowersOfTwo.{split_times, few_zeros}

-- ---- values of the format: q * 2 ^ j smallest ones, with q at most 2 ^ prec
pub record Value (f : Format) (g : ℕ) : Type 0 where
  pub q : ℕ
  pub j : ℕ
  pub few : q ≤ 2 ^ prec f
  pub is_value : g ≡ q * 2 ^ j

pub grid_value : (f : Format) (a c : ℕ) → Value f (grid f a c)
grid_value f a c = record { q = kept (prec f) (a * 2 ^ low f) c; j = drop (prec f) (a * 2 ^ low f) c; few = kept_le f a c; is_value = refl }

-- a value of fewer zeros than the unit of g is at most the least number with as many digits as g
coarse : (f : Format) (g q j : ℕ) → q ≤ 2 ^ prec f → j < size g - prec f → q * 2 ^ j ≤ 2 ^ (prec f - 1 + (size g - prec f))
coarse f g q j few l = le_trans (few_zeros (prec f) q j (size g - prec f) (two-le_pos (prec f) (two f)) few l) (le_of_eq (sym (pow-add 2 (prec f - 1) (size g - prec f))))

reached : (f : Format) (g : ℕ) → 0 < size g - prec f → 2 ^ (prec f - 1 + (size g - prec f)) ≤ g
reached f g h = let P = two f in size_reaches g (prec f - 1 + (size g - prec f)) (omega arith)

record Times (g u : ℕ) : Type 0 where
  by : ℕ
  is_times : g ≡ by * u

-- a value is a whole number of its units
whole_units : (f : Format) (g : ℕ) → Value f g → Times g (unit_of f g)
whole_units f g v = elim (cases_lt v.j (size g - prec f)) [
  | inl l ↦
      let a : g ≤ 2 ^ (prec f - 1 + (size g - prec f)) = le_trans (le_of_eq v.is_value) (coarse f g v.q v.j v.few l) in
      record { by = 2 ^ (prec f - 1); is_times = le_antisymm a (reached f g (omega arith)) ∙ pow-add 2 (prec f - 1) (size g - prec f) }
  | inr m ↦ record { by = v.q * 2 ^ (v.j - (size g - prec f)); is_times = v.is_value ∙ split_times v.q (size g - prec f) v.j m }
]

-- the next value up is at least one unit higher
pub next_value : (f : Format) (g w : ℕ) → Value f g → Value f w → g < w → g + unit_of f g ≤ w
next_value f g w vg vw h = elim (cases_lt vw.j (size g - prec f)) [
  | inl l ↦
      let a : w ≤ 2 ^ (prec f - 1 + (size g - prec f)) = le_trans (le_of_eq vw.is_value) (coarse f g vw.q vw.j vw.few l) in
      absurd (not-le_of_lt h (le_trans a (reached f g (omega arith))))
  | inr m ↦ step (whole_units f g vg) (vw.q * 2 ^ (vw.j - (size g - prec f))) (vw.is_value ∙ split_times vw.q (size g - prec f) vw.j m)
]
  where
    step : Times g (unit_of f g) → (r : ℕ) → w ≡ r * unit_of f g → g + unit_of f g ≤ w
    step t r e =
        let u = unit_of f g in
        let l : t.by * u < r * u = subst (λ (x : ℕ). x < r * u) t.is_times (subst (λ (x : ℕ). g < x) e h) in
        let k : suc t.by ≤ r = lt_of_mul-lt-mul_right u l in
        let m : suc t.by * u ≤ r * u = mul-le-mul_right u k in
        let tb = t.is_times in
        omega arith

-- what is not zero is at least one of its units
unit_under : (f : Format) (g : ℕ) → Value f g → 0 < g → unit_of f g ≤ g
unit_under f g v h = step (whole_units f g v)
  where
    step : Times g (unit_of f g) → unit_of f g ≤ g
    step t = elim (eq-zero-or-pos t.by) [
      | inl z ↦ absurd (lt_irrefl 0 (subst (λ (x : ℕ). 0 < x) (t.is_times ∙ ap (λ (x : ℕ). x * unit_of f g) z ∙ zero-mul (unit_of f g)) h))
      | inr p ↦ le_trans (le_of_eq (omega arith)) (le_trans (mul-le-mul_right (unit_of f g) p) (le_of_eq (sym t.is_times)))
    ]

pub unit_mono : (f : Format) (g h : ℕ) → g ≤ h → unit_of f g ≤ unit_of f h
unit_mono f g h l = pow_mono (omega (arith, size-le g (size h) (lt_of_le_of_lt l (size-lt h))))

-- two values with one between are two units of the lower apart
pub two_units : (f : Format) (g h k : ℕ) → Value f g → Value f h → Value f k → g < h → h < k → g + (unit_of f g + unit_of f g) ≤ k
two_units f g h k vg vh vk a b =
    let x = next_value f g h vg vh a in
    let y = next_value f h k vh vk b in
    let z = unit_mono f g h (le_of_lt a) in
    omega arith

-- ---- and so with signs, in whole numbers of smallest values
pub data Spread (f : Format) (z w : ℤ) (g k : ℕ) : Type 0 where
  lower : T (le_z (z +ℤ pos (unit_of f g + unit_of f g)) w) → Spread f z w g k
  upper : T (le_z (z +ℤ pos (unit_of f k + unit_of f k)) w) → Spread f z w g k
  across : T (le_z (z +ℤ pos (unit_of f g + unit_of f k)) w) → Spread f z w g k

module _ (f : Format) (g h k : ℕ) (vg : Value f g) (vh : Value f h) (vk : Value f k) where
  -- the outer sizes g and k with signs t and u, and h with the sign r strictly between
  pub spread : (t r u : Bool) → T (not (le_z (signed r h) (signed t g))) → T (not (le_z (signed u k) (signed r h))) → Spread f (signed t g) (signed u k) g k
  spread false false false a b = lower (omega (arith, ints, two_units f g h k vg vh vk (omega (arith, ints)) (omega (arith, ints))))
  spread true true true a b = upper (omega (arith, ints, two_units f k h g vk vh vg (omega (arith, ints)) (omega (arith, ints))))
  spread false true u a b = absurd (omega (arith, ints))
  spread false false true a b = absurd (omega (arith, ints))
  spread true false true a b = absurd (omega (arith, ints))
  spread true r false a b = elim (eq-zero-or-pos g) [
    | inl z ↦ elim (eq-zero-or-pos k) [
      | inl y ↦ absurd (nothing r (subst (λ (x : ℕ). T (not (le_z (signed r h) (neg_ℤ (pos x))))) z a) (subst (λ (x : ℕ). T (not (le_z (pos x) (signed r h)))) y b))
      | inr y ↦ from_zero r z a b
    ]
    | inr p ↦ elim (eq-zero-or-pos k) [
      | inl y ↦ to_zero r y a b
      | inr y ↦ across (omega (arith, ints, unit_under f g vg p, unit_under f k vk y))
    ]
  ]
    where
      nothing : (r : Bool) → T (not (le_z (signed r h) (neg_ℤ (pos 0)))) → T (not (le_z (pos 0) (signed r h))) → ⊥
      nothing false a b = omega (arith, ints)
      nothing true a b = omega (arith, ints)

      from_zero : (r : Bool) → g ≡ 0 → T (not (le_z (signed r h) (neg_ℤ (pos g)))) → T (not (le_z (pos k) (signed r h))) → Spread f (neg_ℤ (pos g)) (pos k) g k
      from_zero true z a b = absurd (omega (arith, ints))
      from_zero false z a b = lower (omega (arith, ints, two_units f g h k vg vh vk (omega (arith, ints)) (omega (arith, ints))))

      to_zero : (r : Bool) → k ≡ 0 → T (not (le_z (signed r h) (neg_ℤ (pos g)))) → T (not (le_z (pos k) (signed r h))) → Spread f (neg_ℤ (pos g)) (pos k) g k
      to_zero false y a b = absurd (omega (arith, ints))
      to_zero true y a b = upper (omega (arith, ints, two_units f k h g vk vh vg (omega (arith, ints)) (omega (arith, ints))))
