-- A table row from 1 to below 2 with a whole power of two added into its exponent's field is the row times that power.
use Rattle.std.proofs.Common.{◌≡◌, ℕ, suc, ◌+◌, ◌-◌, ◌*◌, ◌/◌, ◌%◌, ◌^◌, ◌<◌, ◌≤◌, Bool, false, T, leb, List, length, get_or, ℤ, pos, negsuc, nat_abs, sym, refl, ap, ◌∙◌, subst, arith, leb→le, pow_pos, pow-add}
use lib.Signed.{shr_z}
use lib.Ieee.{Float, binary64, of_bits}
use lib.Ieee.Exact.{HasValue}
use lib.Ieee.Scale.{finite}
use std.Quotient.{cls}
use Rattle.std.specs.Int.{int_rem_euclid}
use Rattle.std.proofs.lemmas.Bool.{lt-leb}
use Rattle.exact.proofs.Rational.{ℚ, is, ◌*q◌}
use Rattle.rounding.specs.Units.{power}
use Rattle.rounding.proofs.Fractions.{frac}
use Rattle.rounding.proofs.Value.{val, value_is, finite_is}
use Rattle.rounding.proofs.Patterns.{pattern_normal}
use Rattle.curves.specs.Tables.{table_exp2_mid, table_exp2f}
use Rattle.curves.specs.Steps.{double, row, row_of, scaled_row}
use Rattle.curves.proofs.Checked.{both, every, at, both_left, both_right}

-- the 52 digits of a row, and its exponent's field less 1 with the power h
abbrev digits : ℕ → ℕ
digits b = b - 1023 * 2 ^ 52

abbrev field : ℤ → ℕ
field (pos h) = 1022 + h
field (negsuc h) = 1021 - h

-- the bits of a row from 1 to below 2
pub record FromOne (b : ℕ) : Type 0 where
  pub least : 1023 * 2 ^ 52 ≤ b
  pub most : b < 1024 * 2 ^ 52

added : (b : ℕ) (h : ℤ) → FromOne b → nat_abs h ≤ 200 → (b + nat_abs (int_rem_euclid h (pos 4096)) * 2 ^ 52) % 2 ^ 64 ≡ suc (field h) * 2 ^ 52 + digits b
added b (pos h) w s = let l = w.least in let k = w.most in omega arith
added b (negsuc h) w s = let l = w.least in let k = w.most in omega arith

parts : (x f : ℕ) → x ≤ 1222 → f < 2 ^ 52 → ((suc x * 2 ^ 52 + f) % 2 ^ 63 / 2 ^ 52 ≡ suc x) × ((suc x * 2 ^ 52 + f) % 2 ^ 52 ≡ f) × (suc x * 2 ^ 52 + f < 2 ^ 63)
parts x f h k = (omega arith, omega arith, omega arith)

field_le : (h : ℤ) → nat_abs h ≤ 200 → field h ≤ 1222
field_le (pos h) s = omega arith
field_le (negsuc h) s = omega arith

digits_lt : (b : ℕ) → FromOne b → digits b < 2 ^ 52
digits_lt b w = let k = w.most in omega arith

has : (x f : ℕ) → x ≤ 1222 → f < 2 ^ 52 → HasValue (of_bits binary64 (suc x * 2 ^ 52 + f)) false ((2 ^ 52 + f) * 2 ^ x) (2 ^ 1074)
has x f h k =
    let N = suc x * 2 ^ 52 + f in
    let w = parts x f h k in
    let v = pattern_normal binary64 N x w.0 (omega arith) in
    subst (λ (s : Bool). HasValue (of_bits binary64 N) s ((2 ^ 52 + f) * 2 ^ x) (2 ^ 1074)) (lt-leb (2 ^ 63) N w.2)
    (subst (λ (r : ℕ). HasValue (of_bits binary64 N) (leb (2 ^ 63) N) ((2 ^ 52 + r) * 2 ^ x) (2 ^ 1074)) w.1 v)

-- the row itself
row_bits : (b : ℕ) → FromOne b → b ≡ suc 1022 * 2 ^ 52 + digits b
row_bits b w = let l = w.least in omega arith

pub row_has : (b : ℕ) → FromOne b → HasValue (double b) false ((2 ^ 52 + digits b) * 2 ^ 1022) (2 ^ 1074)
row_has b w = subst (λ (n : ℕ). HasValue (of_bits binary64 n) false ((2 ^ 52 + digits b) * 2 ^ 1022) (2 ^ 1074)) (sym (row_bits b w)) (has 1022 (digits b) (omega arith) (digits_lt b w))

up_same : (A D g H : ℕ) → g * (A * H) * (D * 1) ≡ g * A * H * D
up_same A D g H = omega arith

down_same : (A D g X Y : ℕ) → X * Y ≡ A → g * X * (D * Y) ≡ g * A * 1 * D
down_same A D g X Y e = let k : g * (X * Y) * D ≡ g * A * D = ap (λ (u : ℕ). g * u * D) e in omega arith

times_power : (g : ℕ) (h : ℤ) → nat_abs h ≤ 200 → frac false (g * 2 ^ field h) (2 ^ 1074) (pow_pos 1074) ≡ frac false (g * 2 ^ 1022) (2 ^ 1074) (pow_pos 1074) *q cls (power h)
unfolding ◌*q◌
times_power g (pos h) s = is (ap pos (ap (λ (u : ℕ). g * u * (2 ^ 1074 * 1)) (pow-add 2 1022 h) ∙ up_same (2 ^ 1022) (2 ^ 1074) g (2 ^ h)))
times_power g (negsuc h) s = is (ap pos (down_same (2 ^ 1022) (2 ^ 1074) g (2 ^ (1021 - h)) (2 ^ suc h) (sym (pow-add 2 (1021 - h) (suc h)) ∙ ap (λ (u : ℕ). 2 ^ u) {x = 1021 - h + suc h} {y = 1022} (omega arith))))

-- the row with the power h added into its field is the row times 2 ^ h
pub scaled_value : (b : ℕ) (h : ℤ) → FromOne b → nat_abs h ≤ 200 → (x : Float) → x ≡ double ((b + nat_abs (int_rem_euclid h (pos 4096)) * 2 ^ 52) % 2 ^ 64) → T (finite x) × (val x ≡ val (double b) *q cls (power h))
scaled_value b h w s x e =
    let f = digits b in
    let v : HasValue x false ((2 ^ 52 + f) * 2 ^ field h) (2 ^ 1074) =
    subst (λ (y : Float). HasValue y false ((2 ^ 52 + f) * 2 ^ field h) (2 ^ 1074)) (sym (e ∙ ap double (added b h w s))) (has (field h) f (field_le h s) (digits_lt b w)) in (
      finite_is x false _ _ v,
      value_is x false _ _ (pow_pos 1074) v ∙ times_power (2 ^ 52 + f) h s
          ∙ ap (λ (u : ℚ). u *q cls (power h)) (sym (value_is (double b) false ((2 ^ 52 + f) * 2 ^ 1022) (2 ^ 1074) (pow_pos 1074) (row_has b w))),
    )

pub scaled_row_lem : (table : List ℕ) (n : ℕ) (z : ℤ) → FromOne (get_or table (row_of n z) 0) → nat_abs (shr_z z n) ≤ 200
    → T (finite (double (scaled_row table n z))) × (val (double (scaled_row table n z)) ≡ val (row table (row_of n z)) *q cls (power (shr_z z n)))
unfolding scaled_row
scaled_row_lem table n z w s = scaled_value (get_or table (row_of n z) 0) (shr_z z n) w s (double (scaled_row table n z)) refl

-- ---- the rows of exp2 and exp10
from_one : ℕ → ℕ → Bool
from_one i b = both (leb (1023 * 2 ^ 52) b) (leb (suc b) (1024 * 2 ^ 52))

from_one_out : (i b : ℕ) → T (from_one i b) → FromOne b
unfolding from_one
from_one_out i b t = record { least = leb→le (1023 * 2 ^ 52) b (both_left (leb (1023 * 2 ^ 52) b) _ t); most = leb→le (suc b) (1024 * 2 ^ 52) (both_right (leb (1023 * 2 ^ 52) b) _ t) }

mids : T (every from_one 0 table_exp2_mid) × (length table_exp2_mid ≡ 32)
unfolding from_one table_exp2_mid
mids = (tt, refl)

entries : T (every from_one 0 table_exp2f) × (length table_exp2f ≡ 64)
unfolding from_one table_exp2f
entries = (tt, refl)

pub mid_from_one : (i : ℕ) → i < 32 → FromOne (get_or table_exp2_mid i 0)
mid_from_one i h = from_one_out i (get_or table_exp2_mid i 0) (at from_one table_exp2_mid mids.0 i (subst (λ (n : ℕ). i < n) (sym mids.1) h))

pub entry_from_one : (i : ℕ) → i < 64 → FromOne (get_or table_exp2f i 0)
entry_from_one i h = from_one_out i (get_or table_exp2f i 0) (at from_one table_exp2f entries.0 i (subst (λ (n : ℕ). i < n) (sym entries.1) h))
