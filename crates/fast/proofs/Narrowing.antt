-- The f32 nearest to an f64, by its pattern.
use Rattle.std.proofs.Common.{◌≡◌, ℕ, zero, suc, ◌+◌, ◌-◌, ◌*◌, ◌/◌, ◌%◌, ◌^◌, ◌<◌, ◌≤◌, Bool, not, T, leb, sym, ap, ◌∙◌, subst, inl, inr, lt_of_lt_of_le, mul-le-mul_right, mul_assoc, div-lt_iff_lt-mul, eq-zero-or-pos, mul-lt-mul_of_pos_right, mul-pos, lt_of_not-le, le-div_iff_mul-le, not-le_of_lt, arith, pow_pos, pow_mono, pow-add}
use Prim.Native.Nat.compare
use Prim.Native.Nat.{compare, Ordering}
use lib.Ieee.{Float, nan, inf, fin, binary32, binary64, up, down, size, nearest, units, round, fits, of_bits, to_bits, nan_bits}
use lib.Ieee.Digits.{size-lt, size-le}
use lib.Ieee.Fits.{down_pos, round_is}
use lib.Ieee.Bits.{of_bits-to_bits}
use lib.Ieee.Exact.{HasValue}
use lib.Ieee.Nearest.{closest, closest_same}
use lib.Ieee.Scale.{round_same}
use Rattle.std.specs.Float.{round_to_format, float_with_sign}
use Rattle.fast.proofs.Patterns.{below_the_nans, signed_units, signed_bits, sign_of, value, packed}

pub is_lt : (a b : ℕ) → a < b → compare a b ≡ Ordering.lt
is_lt zero (suc b) h = compare.zero-suc b
is_lt (suc a) (suc b) h = compare.suc-suc a b ∙ is_lt a b (omega arith)
is_lt a zero h = absurd (omega arith)

pub is_eq : (a b : ℕ) → a ≡ b → compare a b ≡ Ordering.eq
is_eq zero zero h = compare.zero-zero
is_eq (suc a) (suc b) h = compare.suc-suc a b ∙ is_eq a b (omega arith)
is_eq zero (suc b) h = absurd (omega arith)
is_eq (suc a) zero h = absurd (omega arith)

pub is_gt : (a b : ℕ) → b < a → compare a b ≡ Ordering.gt
is_gt (suc a) zero h = compare.suc-zero a
is_gt (suc a) (suc b) h = compare.suc-suc a b ∙ is_gt a b (omega arith)
is_gt zero b h = absurd (omega arith)

-- q / 2 ^ 29 to the nearest, and at a tie to the even number
half_even : (q : ℕ) → closest q (2 ^ 29) ≡ (q + 268435455 + q / 536870912 % 2) / 536870912
half_even q =
    elim (eq-zero-or-pos (268435456 - q % 536870912)) [
      | inr l ↦ ap (nearest (q / 536870912)) (is_lt (q % 536870912 * 2) 536870912 (omega arith)) ∙ omega arith
      | inl g ↦ elim (eq-zero-or-pos (q % 536870912 - 268435456)) [
        | inl z ↦ ap (nearest (q / 536870912)) (is_eq (q % 536870912 * 2) 536870912 (omega arith)) ∙ omega arith
        | inr p ↦ ap (nearest (q / 536870912)) (is_gt (q % 536870912 * 2) 536870912 (omega arith)) ∙ omega arith
      ]
    ]

pub size_gt : (n j : ℕ) → 2 ^ j ≤ n → j < size n
size_gt n j h = lt_of_not-le (λ (g : size n ≤ j). not-le_of_lt (lt_of_lt_of_le (size-lt n) (pow_mono g)) h)

pub power_at : (a b : ℕ) → a ≡ b → 2 ^ a ≡ 2 ^ b
power_at a b e = ap (λ (k : ℕ). 2 ^ k) e

-- 53 digits, of which 24 are kept
module _ (q i : ℕ) (L : 2 ^ 52 ≤ q) (H : q < 2 ^ 53) where
  v : ℕ
  v = q * 2 ^ (i + 896) * 2 ^ 149

  v_is : v ≡ q * 2 ^ (i + 1045)
  unfolding v
  v_is = mul_assoc q (2 ^ (i + 896)) (2 ^ 149) ∙ ap (λ (k : ℕ). q * k) (sym (pow-add 2 (i + 896) 149) ∙ power_at (i + 896 + 149) (i + 1045) (omega arith))

  above : v < 2 ^ (i + 24) * 2 ^ 1074
  above =
      subst (λ (k : ℕ). v < k) (sym (pow-add 2 53 (i + 1045)) ∙ power_at (53 + (i + 1045)) (i + 24 + 1074) (omega arith) ∙ pow-add 2 (i + 24) 1074)
      (subst (λ (k : ℕ). k < 2 ^ 53 * 2 ^ (i + 1045)) (sym v_is) (mul-lt-mul_of_pos_right H (pow_pos (i + 1045))))

  below : 2 ^ (i + 23) * 2 ^ 1074 ≤ v
  below =
      subst (λ (k : ℕ). k ≤ v) (sym (pow-add 2 52 (i + 1045)) ∙ power_at (52 + (i + 1045)) (i + 23 + 1074) (omega arith) ∙ pow-add 2 (i + 23) 1074)
      (subst (λ (k : ℕ). 2 ^ 52 * 2 ^ (i + 1045) ≤ k) (sym v_is) (mul-le-mul_right (2 ^ (i + 1045)) L))

  dropped : size (v / 2 ^ 1074) - 24 ≡ i
  dropped =
      let hi : size (v / 2 ^ 1074) ≤ i + 24 = size-le (v / 2 ^ 1074) (i + 24) ((div-lt_iff_lt-mul (pow_pos 1074)).1 above) in
      let lo : i + 23 < size (v / 2 ^ 1074) = size_gt (v / 2 ^ 1074) (i + 23) ((le-div_iff_mul-le (pow_pos 1074)).1 below) in
      between (size (v / 2 ^ 1074)) hi lo
    where
      between : (n : ℕ) → n ≤ i + 24 → i + 23 < n → n - 24 ≡ i
      between n a b = omega arith

  cross : v * 2 ^ 29 ≡ q * (2 ^ 1074 * 2 ^ i)
  cross = ap (λ (k : ℕ). k * 2 ^ 29) v_is ∙ mul_assoc q (2 ^ (i + 1045)) (2 ^ 29) ∙ ap (λ (k : ℕ). q * k) (sym (pow-add 2 (i + 1045) 29) ∙ power_at (i + 1045 + 29) (1074 + i) (omega arith) ∙ pow-add 2 1074 i)

  pub narrowed : (s : Bool) → round binary32 s (q * 2 ^ (i + 896)) (2 ^ 1074) ≡ units binary32 s (closest q (2 ^ 29)) i
  unfolding v
  narrowed s =
      let r : closest v (2 ^ 1074 * 2 ^ i) ≡ closest q (2 ^ 29) = closest_same v (2 ^ 1074 * 2 ^ i) q (2 ^ 29) (mul-pos (pow_pos 1074) (pow_pos i)) (pow_pos 29) cross in
      round_is binary32 s (q * 2 ^ (i + 896)) (2 ^ 1074) ∙ ap (λ (k : ℕ). units binary32 s (closest v (2 ^ 1074 * 2 ^ k)) k) dropped ∙ ap (λ (k : ℕ). units binary32 s k i) r

rounds : (x : Float) (s : Bool) (a : ℕ) → HasValue x s a (2 ^ 1074) → round_to_format binary32 x ≡ round binary32 s a (2 ^ 1074)
unfolding round_to_format
rounds nan s a v = absurd v
rounds (inf t) s a v = absurd v
rounds (fin t m e) s a v = ap (λ (k : Bool). round binary32 k (m * up e) (down e)) v.0 ∙ round_same binary32 s (m * up e) (down e) a (2 ^ 1074) (down_pos e) (pow_pos 1074) v.1

-- the dropped digits are those of q, and so is the last kept one
kept : (a q i : ℕ) → a ≡ (i + 896) * 4503599627370496 + q → 4503599627370496 ≤ q
    → (a + 268435455 + a / 536870912 % 2) / 536870912 - 7516192768 ≡ i * 8388608 + (q + 268435455 + q / 536870912 % 2) / 536870912
kept a q i e l =
    let d : a / 536870912 ≡ (i + 896) * 8388608 + q / 536870912 = omega arith in
    let w : a / 536870912 % 2 ≡ q / 536870912 % 2 = last (a / 536870912) (q / 536870912) (i + 896) d in
    ap (λ (k : ℕ). (a + 268435455 + k) / 536870912 - 7516192768) w ∙ shifted a (q / 536870912 % 2) e
  where
    last : (x y z : ℕ) → x ≡ z * 8388608 + y → x % 2 ≡ y % 2
    last x y z h = omega arith

    shifted : (n w : ℕ) → n ≡ (i + 896) * 4503599627370496 + q → (n + 268435455 + w) / 536870912 - 7516192768 ≡ i * 8388608 + (q + 268435455 + w) / 536870912
    shifted n w h = go (q + 268435455 + w) (n + 268435455 + w) (omega arith)
      where
        go : (y z : ℕ) → z ≡ (i + 896) * 4503599627370496 + y → z / 536870912 - 7516192768 ≡ i * 8388608 + y / 536870912
        go y z g = omega arith

in_range : (q : ℕ) → 4503599627370496 ≤ q → q < 9007199254740992 → (8388608 ≤ (q + 268435455 + q / 536870912 % 2) / 536870912) × ((q + 268435455 + q / 536870912 % 2) / 536870912 ≤ 16777216)
in_range q l h = go (q / 536870912 % 2) (omega arith)
  where
    go : (w : ℕ) → w < 2 → (8388608 ≤ (q + 268435455 + w) / 536870912) × ((q + 268435455 + w) / 536870912 ≤ 16777216)
    go w x = (omega arith, omega arith)

parts : (b : ℕ) → 897 * 2 ^ 52 ≤ b % 2 ^ 63 → b % 2 ^ 63 < 1151 * 2 ^ 52 → (i : ℕ) × (b % 2 ^ 63 ≡ (i + 896) * 4503599627370496 + (2 ^ 52 + b % 2 ^ 52)) × (b % 2 ^ 63 / 2 ^ 52 ≡ suc (i + 896)) × (i ≤ 253)
parts b lo hi = (b % 2 ^ 63 / 2 ^ 52 - 897, omega arith, omega arith, omega arith)

pattern_under : (i m : ℕ) → i ≤ 253 → m ≤ 16777216 → i * 8388608 + m ≤ 255 * 8388608
pattern_under i m a b = omega arith

pub no_nan : (b : ℕ) → 897 * 2 ^ 52 ≤ b % 2 ^ 63 → b % 2 ^ 63 < 1151 * 2 ^ 52
    → T (not (nan_bits binary32 (b / 2 ^ 63 * 2 ^ 31 + ((b % 2 ^ 63 + 268435455 + b % 2 ^ 63 / 536870912 % 2) / 536870912 - 7516192768))))
no_nan b lo hi =
    let z = parts b lo hi in
    let q = 2 ^ 52 + b % 2 ^ 52 in
    let r = in_range q (omega arith) (omega arith) in
    let m = (q + 268435455 + q / 536870912 % 2) / 536870912 in
    subst (λ (k : ℕ). T (not (nan_bits binary32 (b / 2 ^ 63 * 2 ^ 31 + k)))) (sym (kept (b % 2 ^ 63) q z.0 z.1 (omega arith)))
    (below_the_nans binary32 (b / 2 ^ 63) (z.0 * 8388608 + m) (pattern_under z.0 m z.3 r.1))

pub by_pattern : (x : Float) (b : ℕ) → T (fits binary64 x) → b ≡ to_bits binary64 x → b < 2 ^ 64 → 897 * 2 ^ 52 ≤ b % 2 ^ 63 → b % 2 ^ 63 < 1151 * 2 ^ 52
    → of_bits binary32 (b / 2 ^ 63 * 2 ^ 31 + ((b % 2 ^ 63 + 268435455 + b % 2 ^ 63 / 536870912 % 2) / 536870912 - 7516192768)) ≡ round_to_format binary32 x
by_pattern x b f e W lo hi =
    let z = parts b lo hi in
    let i = z.0 in
    let q = 2 ^ 52 + b % 2 ^ 52 in
    let m = (q + 268435455 + q / 536870912 % 2) / 536870912 in
    let r = in_range q (omega arith) (omega arith) in
    let s = leb (2 ^ 63) b in
    let u = pattern_under i m z.3 r.1 in
    let x_is : of_bits binary64 b ≡ x = ap (of_bits binary64) e ∙ of_bits-to_bits binary64 x f in
    let v : HasValue x s (q * 2 ^ (i + 896)) (2 ^ 1074) = subst (λ (y : Float). HasValue y s (q * 2 ^ (i + 896)) (2 ^ 1074)) x_is (value binary64 b (i + 896) z.2 (under i z.3)) in
    ap (λ (k : ℕ). of_bits binary32 (b / 2 ^ 63 * 2 ^ 31 + k)) (kept (b % 2 ^ 63) q i z.1 (omega arith))
    ∙ signed_bits binary32 s (b / 2 ^ 63) (i * 8388608 + m) (short (i * 8388608 + m) u) (sign_of binary64 b W)
    ∙ ap (float_with_sign s) (packed binary32 m i r.1 r.0 (over i z.3))
    ∙ signed_units binary32 s m i
    ∙ ap (λ (k : ℕ). units binary32 s k i) (sym (half_even q))
    ∙ sym (rounds x s (q * 2 ^ (i + 896)) v ∙ narrowed q i (omega arith) (omega arith) s)
  where
    under : (i : ℕ) → i ≤ 253 → suc (i + 896) < 2047
    under i h = omega arith

    over : (i : ℕ) → i ≤ 253 → suc (suc i) ≤ 255
    over i h = omega arith

    short : (p : ℕ) → p ≤ 255 * 8388608 → p < 2 ^ 31
    short p h = omega arith
