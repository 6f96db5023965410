-- The size of an f32 from its pattern. With no sign, patterns are in the order of the sizes.
use Rattle.std.proofs.Common.{◌≡◌, ℕ, ◌+◌, ◌-◌, ◌*◌, ◌/◌, ◌%◌, ◌^◌, ◌<◌, ◌≤◌, Bool, true, false, cond, ◌⊎◌, ℤ, sym, ap, ◌∙◌, subst, inl, inr, mul-le-mul_right, div-lt_iff_lt-mul, le-div_iff_mul-le, mul-div_cancel, arith, pow_pos, pow_mono, pow-add}
use native.Mathlib.Decide.{dec_lt}
use lib.Ieee.{fin, binary32, up, down, size, to_bits}
use lib.Ieee.Digits.{size_reaches, size-le}
use lib.Ieee.Fits.{kept-lt, down_pos}
use Rattle.std.proofs.lemmas.Nat.{and_mask, le-div}
use Rattle.arithmetic.specs.Unrounded.{Holds}
use Rattle.curves.specs.Steps.{pattern, magnitude}

-- the pattern of n smallest values, with no sign
abbrev pub pattern_of : ℕ → ℕ
pattern_of n = (size n - 24) * 8388608 + n / 2 ^ (size n - 24)

-- a pattern below j * 2 ^ 23 + q, where q has 24 digits, is of a size below q * 2 ^ j
pub below : (n j q : ℕ) → 8388608 ≤ q → q ≤ 16777216 → pattern_of n < j * 8388608 + q → n < q * 2 ^ j
below n j q h1 h2 h = go (dec_lt j (size n - 24)) (dec_lt (size n - 24) j)
  where
    go : Dec (j < size n - 24) → Dec (size n - 24 < j) → n < q * 2 ^ j
    go (yes g) d =
        let r : 2 ^ (size n - 24 + 23) ≤ n = size_reaches n (size n - 24 + 23) (omega arith) in
        let p : 2 ^ (size n - 24 + 23) ≡ 2 ^ (size n - 24) * 2 ^ 23 = pow-add 2 (size n - 24) 23 in
        let t : 8388608 ≤ n / 2 ^ (size n - 24) = le-div 8388608 n (2 ^ (size n - 24)) (pow_pos (size n - 24)) (omega (arith, r, p)) in
        absurd (omega arith)
    go (no _) (yes g) =
        let t : n < 2 ^ 24 * 2 ^ (size n - 24) = (div-lt_iff_lt-mul (pow_pos (size n - 24))).0 (kept-lt 24 n) in
        let p : 2 ^ (size n - 24 + 1) ≤ 2 ^ j = pow_mono (omega arith) in
        let e : 2 ^ (size n - 24 + 1) ≡ 2 ^ (size n - 24) * 2 ^ 1 = pow-add 2 (size n - 24) 1 in
        let m : 8388608 * 2 ^ j ≤ q * 2 ^ j = mul-le-mul_right (2 ^ j) h1 in
        omega (arith, t, p, e, m)
    go (no a) (no b) =
        let k : size n - 24 ≡ j = omega arith in
        let t : n / 2 ^ (size n - 24) < q = omega arith in
        subst (λ (i : ℕ). n < q * 2 ^ i) k ((div-lt_iff_lt-mul (pow_pos (size n - 24))).0 t)

-- and one from there on is of a size of at least q * 2 ^ j
pub above : (n j q : ℕ) → 8388608 ≤ q → q ≤ 16777216 → j * 8388608 + q ≤ pattern_of n → q * 2 ^ j ≤ n
above n j q h1 h2 h = go (dec_lt j (size n - 24)) (dec_lt (size n - 24) j)
  where
    go : Dec (j < size n - 24) → Dec (size n - 24 < j) → q * 2 ^ j ≤ n
    go (yes g) d =
        let r : 2 ^ (size n - 24 + 23) ≤ n = size_reaches n (size n - 24 + 23) (omega arith) in
        let p : 2 ^ (j + 24) ≤ 2 ^ (size n - 24 + 23) = pow_mono (omega arith) in
        let e : 2 ^ (j + 24) ≡ 2 ^ j * 2 ^ 24 = pow-add 2 j 24 in
        let m : q * 2 ^ j ≤ 16777216 * 2 ^ j = mul-le-mul_right (2 ^ j) h2 in
        omega (arith, r, p, e, m)
    go (no _) (yes g) = let t : n / 2 ^ (size n - 24) < 2 ^ 24 = kept-lt 24 n in absurd (omega arith)
    go (no a) (no b) =
        let k : size n - 24 ≡ j = omega arith in
        let t : q ≤ n / 2 ^ (size n - 24) = omega arith in
        subst (λ (i : ℕ). q * 2 ^ i ≤ n) k ((le-div_iff_mul-le (pow_pos (size n - 24))).0 t)

-- one of two limits of a pattern, by its sign
pub under : (s : Bool) (n p q : ℕ) → n < 2 ^ 31 → p ≤ 2 ^ 31 → (cond s 2147483648 0 + n < p) ⊎ ((0x8000_0000 ≤ cond s 2147483648 0 + n) × (cond s 2147483648 0 + n < q)) → n < cond s (q - 2147483648) p
under false n p q l b (inl h) = omega arith
under false n p q l b (inr h) = let a = h.0 in absurd (omega arith)
under true n p q l b (inl h) = absurd (omega arith)
under true n p q l b (inr h) = let a = h.1 in omega arith

-- a finite size has a pattern below the sign's bit
unsigned : (n : ℕ) → n < 2 ^ 277 → pattern_of n < 2 ^ 31
unsigned n h =
    let s : size n ≤ 277 = size-le n 277 h in
    let t : n / 2 ^ (size n - 24) < 2 ^ 24 = kept-lt 24 n in
    omega (arith, s, t)

pub pattern_lt : (n : ℕ) → Holds binary32 n → pattern_of n < 2 ^ 31
pattern_lt n h = unsigned n (subst (λ (z : ℕ). z < 2 ^ 277) (sym h.is) h.under)

pub pattern_is : (s : Bool) (m : ℕ) (e : ℤ) (n : ℕ) → m * up e * 2 ^ 149 ≡ n * down e → pattern (fin s m e) ≡ cond s 2147483648 0 + pattern_of n
unfolding to_bits
pattern_is s m e n h =
    ap (λ (k : ℕ). cond s 2147483648 0 + (size k - 24) * 8388608 + k / 2 ^ (size k - 24)) (ap (λ (k : ℕ). k / down e) h ∙ mul-div_cancel n (down_pos e)) ∙ omega arith

pub magnitude_is : (s : Bool) (m : ℕ) (e : ℤ) (n : ℕ) → m * up e * 2 ^ 149 ≡ n * down e → Holds binary32 n → magnitude (fin s m e) ≡ pattern_of n
magnitude_is s m e n h k =
    let l = pattern_lt n k in
    let p = pattern_is s m e n h in
    and_mask (pattern (fin s m e)) 31 ∙ ap (λ (z : ℕ). z % 2 ^ 31) p ∙ go s l
  where
    go : (s : Bool) → pattern_of n < 2 ^ 31 → (cond s 2147483648 0 + pattern_of n) % 2 ^ 31 ≡ pattern_of n
    go false l = omega arith
    go true l = omega arith
