-- Every entry of the four tables keeps its rule: one computed test for each whole table, and one lemma that carries it to a row.
use Rattle.std.proofs.Common.{◌≡◌, ℕ, suc, ◌+◌, ◌-◌, ◌*◌, ◌/◌, ◌%◌, ◌^◌, ◌<◌, ◌≤◌, Bool, false, ◌&&◌, T, ltb, leb, length, get_or, pos, ◌-ℤ◌, sym, refl, ap, ◌∙◌, subst, zero-lt-suc, arith, lit≤, ltb→lt, leb→le, pow_pos}
use native.Mathlib.Nat.{le_of_suc-le}
use lib.Ieee.{binary64, size}
use lib.Ieee.Exact.{HasValue}
use lib.Ieee.Fits.{and_l, and_r}
use borrow.Author.Differences.{ints}
use std.Quotient.{cls}
use Rattle.std.proofs.lemmas.Bool.{lt-leb}
use Rattle.exact.specs.Fraction.{Fraction, fraction, plus, times}
use Rattle.exact.specs.Exponential.{within, series, rest, Allowed}
use Rattle.exact.specs.Logarithm.{binary}
use Rattle.exact.specs.Exact.{OfExp, OfPower, exp, exp2}
use Rattle.exact.proofs.Rational.{ℚ, ◌+q◌, ◌-q◌}
use Rattle.exact.proofs.Bound.{Bound}
use Rattle.exact.proofs.Compute.{run, test}
use Rattle.exact.proofs.Table.{every, exp_test, power_test, exp_rule, power_rule}
use Rattle.rounding.specs.Values.{value}
use Rattle.rounding.specs.Units.{unit}
use Rattle.rounding.proofs.Distance.{within_in, within_out, plus_cls}
use Rattle.rounding.proofs.Narrow.{unit_of}
use Rattle.rounding.proofs.Patterns.{pattern_normal}
use Rattle.rounding.proofs.UnitInLastPlace.{unit_is}
use Rattle.rounding.proofs.Value.{val_value, value_is, finite_is}
use Rattle.curves.specs.Tables.{table_exp_m1, table_exp_m2, table_exp2f, table_exp2_mid}
use Rattle.curves.specs.Steps.{double, row}
use Rattle.curves.specs.Entries.{Entry, M1Entry, M2Entry, Exp2fEntry, MidEntry}
use Rattle.curves.proofs.Checked.{at}

-- ---- the number and the unit of a normal pattern, in the smallest values of f64
abbrev pub number : ℕ → ℕ
number b = (2 ^ 52 + b % 2 ^ 52) * 2 ^ (b / 2 ^ 52 - 1)

abbrev pub unit_in : ℕ → ℕ
unit_in b = unit_of binary64 (number b)

-- a pattern of a normal value above 0
abbrev normal : ℕ → ℕ → Bool
normal i b = leb 1 (b / 2 ^ 52) && ltb (b / 2 ^ 52) 2047

pub has_number : (b : ℕ) → T (normal 0 b) → HasValue (double b) false (number b) (2 ^ 1074)
has_number b t =
    let l : 1 ≤ b / 2 ^ 52 = leb→le 1 (b / 2 ^ 52) (and_l _ _ t) in
    let h : b / 2 ^ 52 < 2047 = ltb→lt (b / 2 ^ 52) 2047 (and_r (leb 1 (b / 2 ^ 52)) _ t) in
    let u : b < 2 ^ 63 = omega arith in
    let f : b % 2 ^ 63 / 2 ^ 52 ≡ suc (b / 2 ^ 52 - 1) = omega arith in
    subst (λ (s : Bool). HasValue (double b) s (number b) (2 ^ 1074)) (lt-leb 9223372036854775808 b u) (pattern_normal binary64 b (b / 2 ^ 52 - 1) f (omega arith))

-- ---- from fractions to the float
abbrev number_of : ℕ → Fraction
number_of b = fraction (pos (number b)) (2 ^ 1074) (pow_pos 1074)

abbrev unit_for : ℕ → Fraction
unit_for b = fraction (pos (unit_in b)) (2 ^ 1074) (pow_pos 1074)

moved : (t : Fraction) (b n : ℕ) → T (normal 0 b) → Allowed (within (number_of b) (unit_for b)) t n → Allowed (within (value (double b)) (unit binary64 (double b))) t n
moved t b n w h =
    let v = has_number b w in
    let a : ◌≡◌ {A = ℚ} (cls (number_of b)) (cls (value (double b))) = sym (value_is (double b) false (number b) (2 ^ 1074) (pow_pos 1074) v) ∙ val_value (double b) in
    let e : ◌≡◌ {A = ℚ} (cls (unit_for b)) (cls (unit binary64 (double b))) = sym (unit_is binary64 (double b) false (number b) v) in
    within_in (value (double b)) (series t n) (plus (unit binary64 (double b)) (rest t n))
    (subst (λ (u : ℚ). Bound (u -q cls (series t n)) (cls (plus (unit binary64 (double b)) (rest t n)))) a
    (subst (λ (u : ℚ). Bound (cls (number_of b) -q cls (series t n)) u) (plus_cls (unit_for b) (rest t n) ∙ ap (λ (u : ℚ). u +q cls (rest t n)) e ∙ sym (plus_cls (unit binary64 (double b)) (rest t n)))
    (within_out (number_of b) (series t n) (plus (unit_for b) (rest t n)) h)))

pub exp_entry : (t : Fraction) (b : ℕ) → T (normal 0 b) → OfExp t (within (number_of b) (unit_for b)) → Entry exp t (double b)
exp_entry t b w h = record {
  number = finite_is (double b) false (number b) (2 ^ 1074) (has_number b w);
  near = λ n far. moved t b n w (h n far);
}

pub power_entry : (x : Fraction) (b : ℕ) → T (normal 0 b) → OfPower binary x (within (number_of b) (unit_for b)) → Entry exp2 x (double b)
power_entry x b w h = record {
  number = finite_is (double b) false (number b) (2 ^ 1074) (has_number b w);
  near = λ m n one six. let r = h m n one six in (r.0, r.1, moved (times x r.0) b n w r.2);
}

-- ---- the tests
pub m1_rows : T (every (exp_test (λ i. pos i -ℤ pos 104) 1 420 (2 ^ 1074) number unit_in) 0 table_exp_m1)
unfolding exp_test test run table_exp_m1 size
m1_rows = tt

pub m2_rows : T (every (exp_test (λ i. pos i) 128 40 (2 ^ 1074) number unit_in) 0 table_exp_m2)
unfolding exp_test test run table_exp_m2 size
m2_rows = tt

pub exp2f_rows : T (every (power_test binary 64 40 (2 ^ 1074) number unit_in) 0 table_exp2f)
unfolding power_test test run table_exp2f size
exp2f_rows = tt

pub mid_rows : T (every (power_test binary 32 40 (2 ^ 1074) number unit_in) 0 table_exp2_mid)
unfolding power_test test run table_exp2_mid size
mid_rows = tt

-- ---- each row
m1_normal : (i : ℕ) → i < 207 → T (normal 0 (get_or table_exp_m1 i 0))
unfolding table_exp_m1
m1_normal i h = at normal table_exp_m1 tt i h

m2_normal : (i : ℕ) → i < 128 → T (normal 0 (get_or table_exp_m2 i 0))
unfolding table_exp_m2
m2_normal i h = at normal table_exp_m2 tt i h

exp2f_normal : (i : ℕ) → i < 64 → T (normal 0 (get_or table_exp2f i 0))
unfolding table_exp2f
exp2f_normal i h = at normal table_exp2f tt i h

mid_normal : (i : ℕ) → i < 32 → T (normal 0 (get_or table_exp2_mid i 0))
unfolding table_exp2_mid
mid_normal i h = at normal table_exp2_mid tt i h

m1_length : length table_exp_m1 ≡ 207
unfolding table_exp_m1
m1_length = refl

m2_length : length table_exp_m2 ≡ 128
unfolding table_exp_m2
m2_length = refl

exp2f_length : length table_exp2f ≡ 64
unfolding table_exp2f
exp2f_length = refl

mid_length : length table_exp2_mid ≡ 32
unfolding table_exp2_mid
mid_length = refl

pub m1_entry : (i : ℕ) → i < 207 → M1Entry i (row table_exp_m1 i)
m1_entry i h =
    exp_entry _ (get_or table_exp_m1 i 0) (m1_normal i h)
    (exp_rule (λ i. pos i -ℤ pos 104) 1 (zero-lt-suc 0) 420 (2 ^ 1074) (pow_pos 1074) number unit_in table_exp_m1 m1_rows i (omega (arith, m1_length)) (omega (arith, ints)))

pub m2_entry : (i : ℕ) → i < 128 → M2Entry i (row table_exp_m2 i)
m2_entry i h =
    exp_entry _ (get_or table_exp_m2 i 0) (m2_normal i h)
    (exp_rule (λ i. pos i) 128 (zero-lt-suc 127) 40 (2 ^ 1074) (pow_pos 1074) number unit_in table_exp_m2 m2_rows i (omega (arith, m2_length)) (omega arith))

pub exp2f_entry_lem : (i : ℕ) → i < 64 → Exp2fEntry i (row table_exp2f i)
exp2f_entry_lem i h =
    power_entry _ (get_or table_exp2f i 0) (exp2f_normal i h)
    (power_rule binary 64 (zero-lt-suc 63) 40 (2 ^ 1074) (pow_pos 1074) number unit_in table_exp2f exp2f_rows (lit≤ tt) i (omega (arith, exp2f_length)) (le_of_suc-le h))

pub mid_entry : (i : ℕ) → i < 32 → MidEntry i (row table_exp2_mid i)
mid_entry i h =
    power_entry _ (get_or table_exp2_mid i 0) (mid_normal i h)
    (power_rule binary 32 (zero-lt-suc 31) 40 (2 ^ 1074) (pow_pos 1074) number unit_in table_exp2_mid mid_rows (lit≤ tt) i (omega (arith, mid_length)) (le_of_suc-le h))
