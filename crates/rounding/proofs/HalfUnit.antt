-- How far `round` goes: half a unit at most, and in the normal range 2 ^ -prec of the number at most. In whole numbers.
use Rattle.std.proofs.Common.{◌≡◌, ℕ, zero, suc, ◌+◌, ◌-◌, ◌*◌, ◌/◌, ◌%◌, ◌^◌, ◌<◌, ◌≤◌, Bool, not, T, eqb, ◌⊎◌, sym, refl, ap, subst, inl, inr, le_trans, le_of_eq, mul-le-mul_right, mod-lt, mul_assoc, mul_comm, mul-pos, div-add-mod', le-div_iff_mul-le, mul_left_comm, arith, eqb→eq, leb→le, pow_pos, pow-add}
use Rattle.std.specs.Float.{Float, Format}
use Rattle.std.specs.Float.Ieee.{prec, low, size, nearest, round}
use Rattle.std.specs.Float.Ieee.Digits.{size_reaches}
use Rattle.std.specs.Float.Ieee.Fits.{two, two-le_pos, round_is}
use Rattle.std.specs.Float.Ieee.Exact.{HasValue, units_val}
use Rattle.std.specs.Float.Ieee.Nearest.{closest}
use Rattle.std.specs.Float.Ieee.Order.{drop, kept}
use Rattle.std.specs.Float.Ieee.Scale.{grid, overflow}
use Rattle.std.proofs.Math.Dec.{is_le, compare_is_eq, nleb→lt, eqb_refl}
use Rattle.std.proofs.Math.Arith.{lt_of_le-ne}
use Prim.Native.Nat.{compare, Ordering}

abbrev pub Cmp : Ordering → ℕ → ℕ → Type 0
Cmp Ordering.lt a b = a < b
Cmp Ordering.eq a b = a ≡ b
Cmp Ordering.gt a b = b < a

pub cmp : (a b : ℕ) → Cmp (compare a b) a b
cmp a b = go (compare a b) (leb→le a b) (nleb→lt a b) (eqb→eq a b) (λ (e : a ≡ b). subst (λ (x : ℕ). T (eqb a x)) e (eqb_refl a))
  where
    go : (o : Ordering) → (T (is_le o) → a ≤ b) → (T (not (is_le o)) → b < a) → (T (compare_is_eq o) → a ≡ b) → (a ≡ b → T (compare_is_eq o)) → Cmp o a b
    go Ordering.lt h k e n = lt_of_le-ne (h tt) n
    go Ordering.eq h k e n = e tt
    go Ordering.gt h k e n = k tt

-- x is within half of u of n
abbrev pub Half : ℕ → ℕ → ℕ → Type 0
Half x u n = (x * 2 ≤ n * 2 + u) × (n * 2 ≤ x * 2 + u)

tie : (w q r u n : ℕ) → w < 2 → r * 2 ≡ u → q * u + r ≡ n → Half ((q + w) * u) u n
tie zero q r u n h e s = omega arith
tie (suc zero) q r u n h e s = omega arith
tie (suc (suc w)) q r u n h e s = absurd (omega arith)

near : (o : Ordering) (q r u n : ℕ) → Cmp o (r * 2) u → r < u → q * u + r ≡ n → Half (nearest q o * u) u n
near Ordering.lt q r u n c h s = omega arith
near Ordering.eq q r u n c h s = tie (q % 2) q r u n (omega arith) c s
near Ordering.gt q r u n c h s = omega arith

pub closest_half : (n u : ℕ) → 0 < u → Half (closest n u * u) u n
closest_half n u h = near (compare (n % u * 2) u) (n / u) (n % u) u n (cmp (n % u * 2) u) (mod-lt n h) (div-add-mod' n u)

-- the unit of a / c in the format: 2 ^ drop of the smallest values
abbrev pub unit_at : Format → ℕ → ℕ → ℕ
unit_at f a c = 2 ^ drop (prec f) (a * 2 ^ low f) c

pub grid_half : (f : Format) (a c : ℕ) → 0 < c → Half (grid f a c * c) (unit_at f a c * c) (a * 2 ^ low f)
grid_half f a c h =
    let k = drop (prec f) (a * 2 ^ low f) c in
    let q = kept (prec f) (a * 2 ^ low f) c in
    let e : q * (c * 2 ^ k) ≡ q * 2 ^ k * c = simp (mul_assoc, mul_comm, mul_left_comm) in
    let x = closest_half (a * 2 ^ low f) (c * 2 ^ k) (mul-pos h (pow_pos k)) in
    subst (λ (z : ℕ). Half (q * 2 ^ k * c) z (a * 2 ^ low f)) (mul_comm c (2 ^ k)) (subst (λ (z : ℕ). Half z (c * 2 ^ k) (a * 2 ^ low f)) e x)

pub unit_small : (f : Format) (a c : ℕ) → 0 < c → prec f ≤ size (a * 2 ^ low f / c) → unit_at f a c * 2 ^ (prec f - 1) * c ≤ a * 2 ^ low f
unit_small f a c C h =
    let z = size (a * 2 ^ low f / c) in
    le_trans (le_of_eq (ap (λ (x : ℕ). x * c) (sym (pow-add 2 (z - prec f) (prec f - 1)))))
    ((le-div_iff_mul-le C).0 (size_reaches (a * 2 ^ low f / c) (z - prec f + (prec f - 1)) (omega (arith, two-le_pos (prec f) (two f)))))

-- |g c - n| 2 ^ prec ≤ n
abbrev pub Rel : ℕ → ℕ → ℕ → Type 0
Rel x n s = (x * s ≤ n * s + n) × (n * s ≤ x * s + n)

rel : (x u n s : ℕ) → Half x u n → u * s ≤ n → Rel x n (s * 2)
rel x u n s h k =
    let a : x * 2 * s ≤ (n * 2 + u) * s = mul-le-mul_right s h.0 in
    let b : n * 2 * s ≤ (x * 2 + u) * s = mul-le-mul_right s h.1 in
    (omega arith, omega arith)

pub grid_rel : (f : Format) (a c : ℕ) → 0 < c → prec f ≤ size (a * 2 ^ low f / c) → Rel (grid f a c * c) (a * 2 ^ low f) (2 ^ (prec f - 1) * 2)
grid_rel f a c C h = rel (grid f a c * c) (unit_at f a c * c) (a * 2 ^ low f) (2 ^ (prec f - 1)) (grid_half f a c C) (le_trans (le_of_eq (simp (mul_assoc, mul_comm, mul_left_comm))) (unit_small f a c C h))

-- a finite result has the value grid / 2 ^ low
pub round_value : (f : Format) (s : Bool) (a c : ℕ) → grid f a c < overflow f → HasValue (round f s a c) s (grid f a c) (2 ^ low f)
round_value f s a c h = subst (λ (z : Float). HasValue z s (grid f a c) (2 ^ low f)) (sym (round_is f s a c)) (units_val f s (kept (prec f) (a * 2 ^ low f) c) (drop (prec f) (a * 2 ^ low f) c) h)

-- without the normal range: half of the smallest value more
either : (f : Format) (a c : ℕ) → 0 < c → (unit_at f a c ≡ 1) ⊎ (unit_at f a c * 2 ^ (prec f - 1) * c ≤ a * 2 ^ low f)
either f a c C = go (size (a * 2 ^ low f / c) - prec f) refl
  where
    go : (k : ℕ) → size (a * 2 ^ low f / c) - prec f ≡ k → (unit_at f a c ≡ 1) ⊎ (unit_at f a c * 2 ^ (prec f - 1) * c ≤ a * 2 ^ low f)
    go zero e = inl (ap (λ (k : ℕ). 2 ^ k) e)
    go (suc k) e = inr (unit_small f a c C (omega arith))

-- |x - n| 2 s ≤ n + c s
abbrev pub Abs : ℕ → ℕ → ℕ → ℕ → Type 0
Abs x n c s = (x * (s * 2) ≤ n * (s * 2) + (n + c * s)) × (n * (s * 2) ≤ x * (s * 2) + (n + c * s))

abs_one : (x u n c s : ℕ) → Half x (u * c) n → u ≡ 1 → Abs x n c s
abs_one x u n c s h e =
    let h' : Half x (1 * c) n = subst (λ (z : ℕ). Half x (z * c) n) e h in
    let a : x * 2 * s ≤ (n * 2 + 1 * c) * s = mul-le-mul_right s h'.0 in
    let b : n * 2 * s ≤ (x * 2 + 1 * c) * s = mul-le-mul_right s h'.1 in
    (omega arith, omega arith)

abs_rel : (x u n c s : ℕ) → Half x (u * c) n → u * s * c ≤ n → Abs x n c s
abs_rel x u n c s h k =
    let a : x * 2 * s ≤ (n * 2 + u * c) * s = mul-le-mul_right s h.0 in
    let b : n * 2 * s ≤ (x * 2 + u * c) * s = mul-le-mul_right s h.1 in
    (omega arith, omega arith)

pub grid_abs : (f : Format) (a c : ℕ) → 0 < c → Abs (grid f a c * c) (a * 2 ^ low f) c (2 ^ (prec f - 1))
grid_abs f a c C = elim (either f a c C) [
  | inl e ↦ abs_one (grid f a c * c) (unit_at f a c) (a * 2 ^ low f) c (2 ^ (prec f - 1)) (grid_half f a c C) e
  | inr k ↦ abs_rel (grid f a c * c) (unit_at f a c) (a * 2 ^ low f) c (2 ^ (prec f - 1)) (grid_half f a c C) k
]
