-- The unit of a figure: its exponent is what it is called, and in smallest values the unit is 2 ^ (digits - prec), at least one.
use Rattle.std.proofs.Common.{◌≡◌, ℕ, zero, suc, ◌+◌, ◌-◌, ◌*◌, ◌^◌, ◌<◌, ◌≤◌, Bool, true, false, cond, not, T, leb, ℤ, pos, negsuc, ◌+ℤ◌, ◌-ℤ◌, neg_ℤ, sym, refl, ap, ◌∙◌, subst, inl, inr, le_trans, le_of_eq, mul-le-mul_right, zero-lt-suc, eq-zero-or-pos, mul-lt-mul_of_pos_right, mul-pos, zero-mul, mul-one, not-le_of_lt, le_of_mul-le-mul_right, arith, le→leb, leb→le, pow_pos, pow-add}
use Rattle.std.specs.Int.Signed.{le_z, le_z_yes}
use Rattle.std.specs.Float.Ieee.{of_bits, prec, low, up, down, size}
use Rattle.std.specs.Float.{Float, nan, inf, fin, Format}
use Rattle.std.specs.Float.Ieee.Digits.{size-lt, size-le, size_reaches}
use Rattle.std.specs.Float.Ieee.Fits.{two, up_pos, down_pos}
use Rattle.std.specs.Float.Ieee.Exact.{HasValue}
use Rattle.std.proofs.Math.Nat.{eq_of_mul-eq-mul_right}
use Rattle.std.proofs.lemmas.Int.{ints}
use std.Quotient.{cls}
use Rattle.rounding.specs.Units.{UnitExamples, power, larger, exponent, unit, ExponentBounds}
use Rattle.rounding.proofs.Fractions.{frac, frac_same}
use Rattle.rounding.proofs.Narrow.{unit_of, size_gt}
use Rattle.rounding.proofs.Distance.{signed_abs}

-- ---- 2 ^ e is 2 ^ a / 2 ^ l where e + l is a
two_power : (e : ℤ) (a l : ℕ) → e +ℤ pos l ≡ pos a → up e * 2 ^ l ≡ 2 ^ a * down e
two_power (pos k) a l h =
    let q : k + l ≡ a = omega (arith, ints) in
    sym (pow-add 2 k l) ∙ ap (λ (z : ℕ). 2 ^ z) q ∙ sym (mul-one (2 ^ a))
two_power (negsuc k) a l h =
    let q : l ≡ a + suc k = omega (arith, ints) in
    (omega arith) ∙ ap (λ (z : ℕ). 2 ^ z) q ∙ pow-add 2 a (suc k)

-- every e is such a difference
record Shift (e : ℤ) : Type 0 where
  a : ℕ
  l : ℕ
  how : e +ℤ pos l ≡ pos a

shift_of : (e : ℤ) → Shift e
shift_of (pos k) = record { a = k; l = 0; how = omega (arith, ints) }
shift_of (negsuc k) = record { a = 0; l = suc k; how = omega (arith, ints) }

pub size_pos : (m : ℕ) → 0 < m → 0 < size m
size_pos m h = size_gt m 0 h

-- ---- the exponent
module _ (m : ℕ) (e : ℤ) (P : 0 < m) where
  abbrev a : ℕ
  a = (shift_of e).a

  abbrev l : ℕ
  l = (shift_of e).l

  abbrev z : ℕ
  z = size m - 1

  z_is : size m ≡ suc z
  z_is = let h = size_pos m P in omega arith

  low_power : up (exponent m e) * 2 ^ l ≡ 2 ^ (a + z) * down (exponent m e)
  low_power = two_power (exponent m e) (a + z) l (go e l a (size m) z (shift_of e).how z_is)
    where
      go : (e : ℤ) (l a s z : ℕ) → e +ℤ pos l ≡ pos a → s ≡ suc z → e +ℤ pos s -ℤ pos 1 +ℤ pos l ≡ pos (a + z)
      go e l a s z h k = omega (arith, ints)

  high_power : up (exponent m e +ℤ pos 1) * 2 ^ l ≡ 2 ^ (a + size m) * down (exponent m e +ℤ pos 1)
  high_power = two_power (exponent m e +ℤ pos 1) (a + size m) l (go e l a (size m) (shift_of e).how)
    where
      go : (e : ℤ) (l a s : ℕ) → e +ℤ pos l ≡ pos a → e +ℤ pos s -ℤ pos 1 +ℤ pos 1 +ℤ pos l ≡ pos (a + s)
      go e l a s h = omega (arith, ints)

  own_power : up e * 2 ^ l ≡ 2 ^ a * down e
  own_power = two_power e a l (shift_of e).how

  -- u / v is 2 ^ (a + i) / 2 ^ l, and x / y is 2 ^ a / 2 ^ l
  at_least : (i u v x y : ℕ) → 2 ^ i ≤ m → u * 2 ^ l ≡ 2 ^ (a + i) * v → x * 2 ^ l ≡ 2 ^ a * y → u * y ≤ m * x * v
  at_least i u v x y h p q =
      le_of_mul-le-mul_right {k = 2 ^ l}
      (go u v x y (2 ^ l) (2 ^ a) (2 ^ i) m h (p ∙ ap (λ (t : ℕ). t * v) (pow-add 2 a i)) q) (pow_pos l)
    where
      go : (u v x y L A I m : ℕ) → I ≤ m → u * L ≡ A * I * v → x * L ≡ A * y → u * y * L ≤ m * x * v * L
      go u v x y L A I m h p q =
          let b : I * (A * y * v) ≤ m * (A * y * v) = mul-le-mul_right (A * y * v) h in
          let c : u * L * y ≡ A * I * v * y = ap (λ (t : ℕ). t * y) p in
          let d : x * L * (m * v) ≡ A * y * (m * v) = ap (λ (t : ℕ). t * (m * v)) q in
          omega arith

  below : (i u v x y : ℕ) → 0 < v → 0 < y → m < 2 ^ i → u * 2 ^ l ≡ 2 ^ (a + i) * v → x * 2 ^ l ≡ 2 ^ a * y → u * y ≤ m * x * v → ⊥
  below i u v x y V Y h p q k = not-le_of_lt (go u v x y (2 ^ l) (2 ^ a) (2 ^ i) m (mul-pos (mul-pos (pow_pos a) Y) V) h (p ∙ ap (λ (t : ℕ). t * v) (pow-add 2 a i)) q) (mul-le-mul_right (2 ^ l) k)
    where
      go : (u v x y L A I m : ℕ) → 0 < A * y * v → m < I → u * L ≡ A * I * v → x * L ≡ A * y → m * x * v * L < u * y * L
      go u v x y L A I m w h p q =
          let b : m * (A * y * v) < I * (A * y * v) = mul-lt-mul_of_pos_right h w in
          let c : u * L * y ≡ A * I * v * y = ap (λ (t : ℕ). t * y) p in
          let d : x * L * (m * v) ≡ A * y * (m * v) = ap (λ (t : ℕ). t * (m * v)) q in
          omega arith

pub exponent_bounds_lem : ExponentBounds
exponent_bounds_lem s m e P =
    let E = exponent m e in (
      le_z_yes (subst (λ (n : ℕ). T (leb (up E * down e) (n * down E))) (sym (signed_abs s (m * up e))) (le→leb (up E * down e) (m * up e * down E) (at_least m e P (size m - 1) (up E) (down E) (up e) (down e) (size_reaches m (size m - 1) (omega (arith, size_pos m P))) (low_power m e P) (own_power m e P)))),
      λ h. below m e P (size m) (up (E +ℤ pos 1)) (down (E +ℤ pos 1)) (up e) (down e) (down_pos (E +ℤ pos 1)) (down_pos e) (size-lt m) (high_power m e P) (own_power m e P)
          (leb→le _ _ (subst (λ (n : ℕ). T (leb (up (E +ℤ pos 1) * down e) (n * down (E +ℤ pos 1)))) (signed_abs s (m * up e)) h.le)),
    )

-- ---- the unit in smallest values: 2 ^ (digits - prec) of them, and at least one
pub size_shift : (n k : ℕ) → 0 < n → size (n * 2 ^ k) ≡ size n + k
size_shift n k P =
    let h = size_pos n P in
    let a = size-le (n * 2 ^ k) (size n + k) (subst (λ (z : ℕ). n * 2 ^ k < z) (sym (pow-add 2 (size n) k)) (mul-lt-mul_of_pos_right (size-lt n) (pow_pos k))) in
    let b = size_gt (n * 2 ^ k) (size n - 1 + k) (le_trans (le_of_eq (pow-add 2 (size n - 1) k)) (mul-le-mul_right (2 ^ k) (size_reaches n (size n - 1) (omega arith)))) in
    omega arith

as_units : (E : ℤ) (k l : ℕ) → E +ℤ pos l ≡ pos k → cls (power E) ≡ frac false (2 ^ k) (2 ^ l) (pow_pos l)
as_units E k l h = frac_same false (up E) (down E) (2 ^ k) (2 ^ l) (down_pos E) (pow_pos l) (two_power E k l h)

exponent_is : (e : ℤ) (a l z y p w : ℕ) → 2 ≤ p → e +ℤ pos l ≡ pos a → z + (a + w) ≡ y + l → larger (e +ℤ pos z -ℤ pos 1 -ℤ pos (p - 1)) (neg_ℤ (pos w)) +ℤ pos w ≡ pos (y - p)
exponent_is e a l z y p w h q r = go (le_z (e +ℤ pos z -ℤ pos 1 -ℤ pos (p - 1)) (neg_ℤ (pos w))) (λ t. t) (λ t. t)
  where
    go : (t : Bool) → (T t → T (le_z (e +ℤ pos z -ℤ pos 1 -ℤ pos (p - 1)) (neg_ℤ (pos w)))) → (T (not t) → T (not (le_z (e +ℤ pos z -ℤ pos 1 -ℤ pos (p - 1)) (neg_ℤ (pos w))))) → cond t (neg_ℤ (pos w)) (e +ℤ pos z -ℤ pos 1 -ℤ pos (p - 1)) +ℤ pos w ≡ pos (y - p)
    go true f g = let k = f tt in omega (arith, ints)
    go false f g = let k = g tt in omega (arith, ints)

pub unit_is : (f : Format) (y : Float) (s : Bool) (g : ℕ) → HasValue y s g (2 ^ low f) → cls (unit f y) ≡ frac false (unit_of f g) (2 ^ low f) (pow_pos (low f))
unfolding unit
unit_is f nan s g h = absurd h
unit_is f (inf t) s g h = absurd h
unit_is f (fin t zero e) s g h =
    let z : g ≡ 0 = none g (down e) (up e) (2 ^ low f) (down_pos e) h.1 in
    as_units (neg_ℤ (pos (low f))) 0 (low f) (back (low f)) ∙ ap (λ (k : ℕ). frac false (2 ^ k) (2 ^ low f) (pow_pos (low f))) {x = 0} {y = size g - prec f} (nought g (prec f) (size-le g 0 (subst (λ (x : ℕ). x < 2 ^ 0) (sym z) (pow_pos 0))))
  where
    none : (g d u l : ℕ) → 0 < d → 0 * u * l ≡ g * d → g ≡ 0
    none g d u l D e = elim (eq-zero-or-pos g) [ inl z ↦ z | inr p ↦ let m : 0 < g * d = mul-pos p D in absurd (omega arith) ]

    back : (l : ℕ) → neg_ℤ (pos l) +ℤ pos l ≡ pos 0
    back l = omega (arith, ints)

    nought : (g p : ℕ) → size g ≤ 0 → 0 ≡ size g - p
    nought g p h = omega arith
unit_is f (fin t (suc m) e) s g h =
    as_units (larger (exponent (suc m) e -ℤ pos (prec f - 1)) (neg_ℤ (pos (low f)))) (size g - prec f) (low f)
    (exponent_is e (shift_of e).a (shift_of e).l (size (suc m)) (size g) (prec f) (low f) (two f) (shift_of e).how sizes)
  where
    same : (m u d L K A B g : ℕ) → 0 < d → m * u * L ≡ g * d → u * K ≡ A * d → B ≡ A * L → m * B ≡ g * K
    same m u d L K A B g D p q r =
        eq_of_mul-eq-mul_right d D (m * B) (g * K)
        (let x : u * K * (m * L) ≡ A * d * (m * L) = ap (λ (z : ℕ). z * (m * L)) q in
        let y : m * u * L * K ≡ g * d * K = ap (λ (z : ℕ). z * K) p in
        let w : m * B * d ≡ m * (A * L) * d = ap (λ (z : ℕ). m * z * d) r in
        omega arith)

    some : 0 < g
    some = elim (eq-zero-or-pos g) [
      | inl z ↦
          let p : 0 < suc m * up e * 2 ^ low f = mul-pos (mul-pos (zero-lt-suc m) (up_pos e)) (pow_pos (low f)) in
          let q : suc m * up e * 2 ^ low f ≡ 0 = h.1 ∙ ap (λ (x : ℕ). x * down e) z ∙ zero-mul (down e) in
          absurd (omega arith)
      | inr p ↦ p
    ]

    sizes : size (suc m) + ((shift_of e).a + low f) ≡ size g + (shift_of e).l
    sizes =
        sym (size_shift (suc m) ((shift_of e).a + low f) (zero-lt-suc m))
        ∙ ap size (same (suc m) (up e) (down e) (2 ^ low f) (2 ^ (shift_of e).l) (2 ^ (shift_of e).a) (2 ^ ((shift_of e).a + low f)) g (down_pos e) h.1 (two_power e (shift_of e).a (shift_of e).l (shift_of e).how) (pow-add 2 (shift_of e).a (low f)))
        ∙ size_shift g (shift_of e).l some

pub unit_examples_lem : UnitExamples
unfolding unit of_bits size
unit_examples_lem = (refl, refl, refl, refl, refl)
