-- The shift and the mask of a k of either sign, moved up by 104 * 128, give a quotient and a remainder from 0.
use Rattle.std.proofs.Common.{◌≡◌, ℕ, ◌/◌, ◌%◌, ◌^◌, ◌<◌, ℤ, pos, ◌+ℤ◌, nat_abs, refl, arith, w32, SFits, to_z, of_z}
use lib.Signed.{shr_z}
use lib.Bits.{bit_and}
use Rattle.std.proofs.lemmas.Int.{to_z-of_z, to_z_pos}
use Rattle.std.proofs.lemmas.Nat.{and_mask}

pub whole_is : (k : ℤ) (m : ℕ) → SFits w32 k → k +ℤ pos 13312 ≡ pos m → m < 2 ^ 31 → nat_abs (to_z w32 (of_z w32 (shr_z (to_z w32 (of_z w32 (to_z w32 (of_z w32 k) +ℤ pos 13312))) 128))) ≡ m / 128
whole_is k m f e h =
    let h2 : m / 128 < 2 ^ 31 = omega arith in
    rw (to_z-of_z w32 k f, e, to_z_pos w32 m h, to_z_pos w32 (m / 128) h2) refl

pub rest_is : (k : ℤ) (m : ℕ) → SFits w32 k → k +ℤ pos 13312 ≡ pos m → m < 2 ^ 31 → nat_abs (to_z w32 (bit_and (of_z w32 (to_z w32 (of_z w32 k) +ℤ pos 13312)) 127)) ≡ m % 128
rest_is k m f e h =
    let h2 : m % 128 < 2 ^ 31 = omega arith in
    rw (to_z-of_z w32 k f, e, and_mask m 7, to_z_pos w32 (m % 128) h2) refl
