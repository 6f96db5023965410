-- The difference of a value X and a multiple of 1 / 2 ^ j next to it is again a value of the format. In units of the format's smallest value.
use Rattle.std.proofs.Common.{◌≡◌, ℕ, suc, ◌+◌, ◌-◌, ◌*◌, ◌^◌, ◌<◌, ◌≤◌, sym, ap, ◌∙◌, subst, ap₂, inl, inr, le_trans, le_of_eq, mul-le-mul_right, mul_assoc, mul_comm, mul-lt-mul_of_pos_right, mul-pos, le_of_mul-le-mul_right, arith, pow_pos, pow_mono, pow-add}
use native.Mathlib.Nat.{pow-succ'}
use lib.Ieee.{Format, prec, low}
use Rattle.arithmetic.specs.Signs.{dist, dist_mul, order}
use Rattle.arithmetic.specs.Unrounded.{Holds}
use Rattle.arithmetic.proofs.Digits.{pow_split, holds_small}

-- twice a number of at most p digits is 2 ^ n or more: the number is a multiple of 2 ^ (n - p)
deep : (p n q i : ℕ) → q < 2 ^ p → 2 ^ n ≤ 2 * (q * 2 ^ i) → n - p ≤ i
deep p n q i few big = elim (order i (n - p)) [
  | inl l ↦
      absurd (clash (q * 2 ^ i) (2 ^ p * 2 ^ i) (2 ^ n) (mul-lt-mul_of_pos_right few (pow_pos i))
      (le_trans (le_of_eq (ap (λ (z : ℕ). 2 * z) (sym (pow-add 2 p i)) ∙ sym (pow-succ' 2 (p + i)))) (pow_mono {i = suc (p + i)} {j = n} (omega arith))) big)
  | inr g ↦ g
]
  where
    clash : (a b c : ℕ) → a < b → 2 * b ≤ c → c ≤ 2 * a → ⊥
    clash a b c h k l = absurd (omega arith)

raise : (q i g : ℕ) → g ≤ i → q * 2 ^ i ≡ q * 2 ^ (i - g) * 2 ^ g
raise q i g h = ap (λ (z : ℕ). q * z) (pow_split i g h) ∙ sym (mul_assoc q (2 ^ (i - g)) (2 ^ g))

-- X is at least half of 1 / 2 ^ j where it is next to a multiple other than 0
reach : (X w u L K : ℕ) → L ≡ u * w → 0 < w → 0 < K → 2 * dist (X * w) (K * L) ≤ L → u ≤ 2 * X
reach X w u L K e p q h =
    let k : 1 * L ≤ K * L = mul-le-mul_right L q in
    le_of_mul-le-mul_right {m = u} {n = 2 * X} {k = w} (subst (λ (z : ℕ). z ≤ 2 * X * w) e (omega arith)) p

-- half of 1 / 2 ^ j has p digits in units of 2 ^ g
few_left : (d u v w L : ℕ) → L ≡ u * v * w → 0 < u → 0 < w → 2 * (d * u * w) ≤ L → 0 < v → d < v
few_left d u v w L e p q h r =
    let k : 2 * d * (u * w) ≤ v * (u * w) = subst (λ (z : ℕ). 2 * d * (u * w) ≤ z) (e ∙ turn u v w) (subst (λ (z : ℕ). z ≤ L) (twice d u w) h) in
    let l : 2 * d ≤ v = le_of_mul-le-mul_right {m = 2 * d} {n = v} {k = u * w} k (mul-pos p q) in
    omega arith
  where
    turn : (u v w : ℕ) → u * v * w ≡ v * (u * w)
    turn u v w = omega arith

    twice : (d u w : ℕ) → 2 * (d * u * w) ≡ 2 * d * (u * w)
    twice d u w = omega arith

-- K of the multiples of 1 / 2 ^ j are at most half of one away from X
pub next_to : (f : Format) (j K X : ℕ) → j + prec f ≤ low f → Holds f X → 0 < K → 2 * dist (X * 2 ^ j) (K * 2 ^ low f) ≤ 2 ^ low f → Holds f (dist X (K * 2 ^ (low f - j)))
next_to f j K X room h some near =
    let p = prec f in
    let l = low f in
    let g : ℕ = l - j - p in
    let fine : 2 ^ l ≡ 2 ^ (l - j) * 2 ^ j = pow_split l j (omega arith) in
    let half : 2 ^ (l - j) ≤ 2 * X = reach X (2 ^ j) (2 ^ (l - j)) (2 ^ l) K fine (pow_pos j) some near in
    let enough : g ≤ h.i = deep p (l - j) h.q h.i h.few (subst (λ (n : ℕ). 2 ^ (l - j) ≤ 2 * n) h.is half) in
    let a = h.q * 2 ^ (h.i - g) in
    let x_is : X ≡ a * 2 ^ g = h.is ∙ raise h.q h.i g enough in
    let split : 2 ^ (l - j) ≡ 2 ^ g * 2 ^ p = pow_split (l - j) p (omega arith) in
    let k_is : K * 2 ^ (l - j) ≡ K * 2 ^ p * 2 ^ g = ap (λ (z : ℕ). K * z) (split ∙ mul_comm (2 ^ g) (2 ^ p)) ∙ sym (mul_assoc K (2 ^ p) (2 ^ g)) in
    let d-is : dist X (K * 2 ^ (l - j)) ≡ dist a (K * 2 ^ p) * 2 ^ g = ap₂ dist x_is k_is ∙ dist_mul a (K * 2 ^ p) (2 ^ g) in
    let whole : dist (X * 2 ^ j) (K * 2 ^ l) ≡ dist a (K * 2 ^ p) * 2 ^ g * 2 ^ j =
    ap (λ (z : ℕ). dist (X * 2 ^ j) z) (ap (λ (z : ℕ). K * z) fine ∙ sym (mul_assoc K (2 ^ (l - j)) (2 ^ j))) ∙ dist_mul X (K * 2 ^ (l - j)) (2 ^ j) ∙ ap (λ (z : ℕ). z * 2 ^ j) d-is in
    let few : dist a (K * 2 ^ p) < 2 ^ p =
    few_left (dist a (K * 2 ^ p)) (2 ^ g) (2 ^ p) (2 ^ j) (2 ^ l) (fine ∙ ap (λ (z : ℕ). z * 2 ^ j) split) (pow_pos g) (pow_pos j) (subst (λ (z : ℕ). 2 * z ≤ 2 ^ l) whole near) (pow_pos p) in
    subst (λ (z : ℕ). Holds f z) (sym d-is) (holds_small f (dist a (K * 2 ^ p)) g few (omega arith))
