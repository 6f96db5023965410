-- Powers of two: split at an exponent, even, and compared by their exponents.
use Rattle.std.proofs.Common.{◌≡◌, ℕ, suc, ◌-◌, ◌*◌, ◌%◌, ◌^◌, ◌<◌, ◌≤◌, sym, ap, ◌∙◌, le_trans, le_of_eq, mul-le-mul_right, mul_assoc, sub-add_cancel, not-le_of_lt, lt_of_not-le, lt_of_le_of_lt, le_of_suc-le-suc, le_refl, arith, pow_mono, pow-add}
use Rattle.std.proofs.Math.Nat.{mul-mod_left}
use Rattle.std.proofs.Math.Pow.{pow-lt}

pub split_pow : (k l : ℕ) → k ≤ l → 2 ^ l ≡ 2 ^ (l - k) * 2 ^ k
split_pow k l h = ap (λ (z : ℕ). 2 ^ z) (sym (sub-add_cancel h)) ∙ pow-add 2 (l - k) k

pub split_times : (q k l : ℕ) → k ≤ l → q * 2 ^ l ≡ q * 2 ^ (l - k) * 2 ^ k
split_times q k l h = ap (λ (z : ℕ). q * z) (split_pow k l h) ∙ sym (mul_assoc q (2 ^ (l - k)) (2 ^ k))

pub pow_even : (p : ℕ) → 1 ≤ p → 2 ^ p % 2 ≡ 0
pow_even p h = ap (λ (z : ℕ). z % 2) (split_pow 1 p h) ∙ mul-mod_left (2 ^ (p - 1)) 2

pub pow_under : (i j : ℕ) → 2 ^ i < 2 ^ j → i < j
pow_under i j h = lt_of_not-le (λ (g : j ≤ i). not-le_of_lt h (pow_mono g))

pub pow_le : (i j : ℕ) → 2 ^ i ≤ 2 ^ j → i ≤ j
pow_le i j h = le_of_suc-le-suc (pow_under i (suc j) (lt_of_le_of_lt h (pow-lt (le_refl (suc j)))))

-- a number of p digits with fewer zeros than k is at most the least with p digits and k zeros
pub few_zeros : (p q j k : ℕ) → 1 ≤ p → q ≤ 2 ^ p → j < k → q * 2 ^ j ≤ 2 ^ (p - 1) * 2 ^ k
few_zeros p q j k P few l = le_trans (mul-le-mul_right (2 ^ j) few) (le_trans (le_of_eq (sym (pow-add 2 p j))) (le_trans (pow_mono (omega arith)) (le_of_eq (pow-add 2 (p - 1) k))))
