-- The row of a k of either sign among 2 ^ j, from its low bits; and that row with the whole power of two added.
use Rattle.std.proofs.Common.{◌≡◌, ℕ, suc, ◌+◌, ◌-◌, ◌*◌, ◌/◌, ◌%◌, ◌^◌, ◌<◌, ◌≤◌, List, get_or, ℤ, pos, negsuc, nat_abs, refl, ap, ◌∙◌, subst, lt_of_lt_of_le, lt_of_le_of_lt, mod-lt, mod-eq_of_lt, lt_of_mul-lt-mul_right, arith, pow_pos, pow_mono, pow-add, w32, SFits, to_z, of_z}
use native.Mathlib.Nat.{div-add-mod, add-mul-mod_self_right}
use lib.Bits.{bit_and}
use lib.Signed.{shr_z, mag_shr}
use Rattle.std.proofs.lemmas.Int.{to_z-of_z, to_z_pos}
use Rattle.std.proofs.lemmas.Nat.{and_mask}
use Rattle.std.specs.Int.{int_rem_euclid}
use Rattle.curves.specs.Steps.{row_of, scaled_row}

-- what n lacks to u multiples of m
complement : (n m u q r : ℕ) → m * q + r ≡ n → r < m → n < u * m → u * m - suc n ≡ m - 1 - r + (u - 1 - q) * m
complement n m u q r e l h =
    let k : q * m < u * m = omega arith in
    let g : q < u = lt_of_mul-lt-mul_right m k in
    let w : u * m ≡ (q + 1 + (u - 1 - q)) * m = ap (λ (x : ℕ). x * m) {x = u} {y = q + 1 + (u - 1 - q)} (omega arith) in
    finish n m (u * m) q r ((u - 1 - q) * m) e l (w ∙ omega arith)
  where
    finish : (n m t q r v : ℕ) → m * q + r ≡ n → r < m → t ≡ q * m + m + v → t - suc n ≡ m - 1 - r + v
    finish n m t q r v e l w = omega arith

low_bits : (j : ℕ) (z : ℤ) → j ≤ 32 → SFits w32 z → of_z w32 z % 2 ^ j ≡ row_of (2 ^ j) z
low_bits j (pos n) h f = refl
low_bits j (negsuc n) h f =
    let m = 2 ^ j in
    let b : n < 2 ^ 31 = f.sfits in
    let w : 2 ^ 32 ≡ 2 ^ (32 - j) * m = ap (λ (x : ℕ). 2 ^ x) {x = 32} {y = 32 - j + j} (omega arith) ∙ pow-add 2 (32 - j) j in
    let l : n < 2 ^ (32 - j) * m = subst (λ (x : ℕ). n < x) w (omega arith) in
    ap (λ (x : ℕ). (x - suc n) % m) w
    ∙ ap (λ (x : ℕ). x % m) (complement n m (2 ^ (32 - j)) (n / m) (n % m) (div-add-mod n m) (mod-lt n (pow_pos j)) l)
    ∙ add-mul-mod_self_right (m - 1 - n % m) (2 ^ (32 - j) - 1 - n / m) m
    ∙ mod-eq_of_lt (let p = pow_pos j in let q : m - 1 - n % m < m = omega arith in q)

pub row_is : (j : ℕ) (z : ℤ) → j ≤ 31 → SFits w32 z → nat_abs (to_z w32 (bit_and (of_z w32 z) (2 ^ j - 1))) ≡ row_of (2 ^ j) z
row_is j z h f =
    let r = low_bits j z (omega arith) f in
    let l : of_z w32 z % 2 ^ j < 2 ^ 31 = lt_of_lt_of_le (mod-lt (of_z w32 z) (pow_pos j)) (pow_mono h) in
    rw (and_mask (of_z w32 z) j, to_z_pos w32 (of_z w32 z % 2 ^ j) l) r

pub row_lt : (j : ℕ) (z : ℤ) → row_of (2 ^ j) z < 2 ^ j
row_lt j (pos n) = mod-lt n (pow_pos j)
row_lt j (negsuc n) = let p = pow_pos j in omega arith

pub scaled_is : (table : List ℕ) (n : ℕ) (z : ℤ) (entry at r : ℕ) → SFits w32 z → r ≡ (entry + nat_abs (int_rem_euclid (to_z w32 (of_z w32 (shr_z (to_z w32 (of_z w32 z)) n))) (pos 4096)) * 2 ^ 52) % 2 ^ 64
    → entry ≡ get_or table at 0 → at ≡ row_of n (to_z w32 (of_z w32 z)) → r ≡ scaled_row table n z
unfolding scaled_row
scaled_is table n z entry at r f h e i =
    let m = mag_shr z n in
    let g : SFits w32 (shr_z z n) = record { sfits = lt_of_le_of_lt m f.sfits } in
    let b = to_z-of_z w32 z f in
    h ∙ rw (b, to_z-of_z w32 (shr_z z n) g, e, i, b) refl
