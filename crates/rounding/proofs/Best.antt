-- What `round` gives is a nearest value of the format: no value of the format is nearer. Distances are of whole numbers.
use Rattle.std.proofs.Common.{◌≡◌, ℕ, suc, ◌+◌, ◌-◌, ◌*◌, ◌^◌, ◌<◌, ◌≤◌, sym, ap, subst, inl, inr, le_trans, le_of_eq, mul-le-mul_right, mul_assoc, mul_comm, mul-pos, mul_left_comm, arith, pow_pos}
use Rattle.std.specs.Float.{Format}
use Rattle.std.specs.Float.Ieee.{prec, low, fits}
use Rattle.std.specs.Float.Ieee.Fits.{two, two-le_pos}
use Rattle.std.specs.Float.Ieee.Nearest.{closest}
use Rattle.std.specs.Float.Ieee.Order.{drop, kept}
use Rattle.std.specs.Float.Ieee.Scale.{grid}
use Rattle.std.proofs.lemmas.Bool.{cases_lt}
use Rattle.rounding.proofs.HalfUnit.{Half, closest_half, unit_small}
use Rattle.rounding.proofs.PowersOfTwo.{split_times, few_zeros}

abbrev pub dist : ℕ → ℕ → ℕ
dist a b = (a - b) + (b - a)

pub half_best : (K q u n : ℕ) → Half (K * u) u n → dist (K * u) n ≤ dist (q * u) n
half_best K q u n h = elim (cases_lt K q) [
  | inl l ↦ let a : suc K * u ≤ q * u = mul-le-mul_right u l in omega arith
  | inr g ↦ elim (cases_lt q K) [
    | inl l ↦ let a : suc q * u ≤ K * u = mul-le-mul_right u l in omega arith
    | inr k ↦ let e : q ≡ K = omega arith in le_of_eq (ap (λ (z : ℕ). dist (z * u) n) (sym e))
  ]
]

pub closest_best : (n u q : ℕ) → 0 < u → dist (closest n u * u) n ≤ dist (q * u) n
closest_best n u q h = half_best (closest n u) q u n (closest_half n u h)

-- q * 2 ^ j with q at most 2 ^ prec: every value of the format, in units of the smallest
pub grid_best : (f : Format) (a c q j : ℕ) → 0 < c → q ≤ 2 ^ prec f → dist (grid f a c * c) (a * 2 ^ low f) ≤ dist (q * 2 ^ j * c) (a * 2 ^ low f)
grid_best f a c q j C fits = elim (cases_lt j k) [
  | inl l ↦ le_trans (coarse (2 ^ (prec f - 1))) (below l)
  | inr g ↦
      let e : q * 2 ^ (j - k) * 2 ^ k ≡ q * 2 ^ j = sym (split_times q k j g) in
      subst (λ (z : ℕ). dist (grid f a c * c) (a * 2 ^ low f) ≤ dist (z * c) (a * 2 ^ low f)) e (coarse (q * 2 ^ (j - k)))
]
  where
    n : ℕ
    n = a * 2 ^ low f

    k : ℕ
    k = drop (prec f) (a * 2 ^ low f) c

    coarse : (r : ℕ) → dist (grid f a c * c) (a * 2 ^ low f) ≤ dist (r * 2 ^ k * c) (a * 2 ^ low f)
    coarse r =
        let x = closest_best (a * 2 ^ low f) (c * 2 ^ k) r (mul-pos C (pow_pos k)) in
        let e : (z : ℕ) → z * (c * 2 ^ k) ≡ z * 2 ^ k * c = λ z. simp (mul_assoc, mul_comm, mul_left_comm) in
        subst (λ (z : ℕ). dist z (a * 2 ^ low f) ≤ dist (r * 2 ^ k * c) (a * 2 ^ low f)) (e (kept (prec f) (a * 2 ^ low f) c)) (subst (λ (z : ℕ). dist (kept (prec f) (a * 2 ^ low f) c * (c * 2 ^ k)) (a * 2 ^ low f) ≤ dist z (a * 2 ^ low f)) (e r) x)

    below : j < k → dist (2 ^ (prec f - 1) * 2 ^ k * c) (a * 2 ^ low f) ≤ dist (q * 2 ^ j * c) (a * 2 ^ low f)
    below l =
        let P : 0 < prec f = two-le_pos (prec f) (two f) in
        let s : 2 ^ k * 2 ^ (prec f - 1) * c ≤ a * 2 ^ low f = unit_small f a c C (omega arith) in
        let s' : 2 ^ (prec f - 1) * 2 ^ k * c ≤ a * 2 ^ low f = subst (λ (z : ℕ). z * c ≤ a * 2 ^ low f) (mul_comm (2 ^ k) (2 ^ (prec f - 1))) s in
        let w : q * 2 ^ j ≤ 2 ^ (prec f - 1) * 2 ^ k = few_zeros (prec f) q j k P fits l in
        let w' : q * 2 ^ j * c ≤ 2 ^ (prec f - 1) * 2 ^ k * c = mul-le-mul_right c w in
        omega arith
