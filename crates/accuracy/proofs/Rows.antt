-- The rows of exp's two tables: each is an f64 above 0, between 2 ^ -160 and 2 ^ 160, and the series at m, or at i / 128, is within 2 ^ -52 of it, relative to it.
use Rattle.std.proofs.Common.{◌≡◌, ℕ, suc, ◌+◌, ◌-◌, ◌*◌, ◌/◌, ◌%◌, ◌^◌, ◌<◌, ◌≤◌, Bool, false, T, leb, length, get_or, pos, ◌-ℤ◌, nat_abs, sym, refl, ap, ◌∙◌, subst, le_trans, mul-le-mul_right, mod-lt, zero-lt-suc, mul-le-mul, pow-suc, arith, lit≤, le→leb, leb→le, pow_pos, pow_mono, ◌&&◌}
use Rattle.std.specs.Float.{Float, binary64}
use Rattle.std.specs.Float.Ieee.{of_bits, fits}
use Rattle.std.specs.Float.Ieee.Exact.{HasValue}
use Rattle.std.specs.Float.Ieee.Bits.{of_bits-fits, is_false}
use Rattle.std.specs.Float.Ieee.Scale.{finite}
use Rattle.std.proofs.Math.Dec.{not_T}
use Rattle.std.proofs.lemmas.Int.{ints}
use Rattle.std.specs.Float.Ieee.Fits.{and_l, and_r}
use Rattle.exact.proofs.Rational.{ℚ, is, ofℤ}
use Rattle.exact.proofs.Order.{◌≤q◌}
use Rattle.exact.proofs.Bound.{ofℕ}
use Rattle.exact.proofs.Compare.{fr, dy, leq_in}
use Rattle.exact.proofs.Relative.{Rel}
use Rattle.exact.proofs.Series.{S}
use Rattle.exact.proofs.Compute.{run, test}
use Rattle.exact.proofs.Table.{every, row, exp_test, exp_row, unit_rel}
use Rattle.rounding.proofs.Value.{val, finite_is, value_is}
use Rattle.rounding.proofs.Patterns.{pattern_normal}
use Rattle.curves.specs.Tables.{table_exp_m1, table_exp_m2}

-- ---- an f64 above 0 by its pattern: its digits and its unit, in parts of 2 ^ -1075
abbrev pub sig : ℕ → ℕ
sig b = (2 ^ 52 + b % 2 ^ 52) * 2 ^ (b / 2 ^ 52)

abbrev pub ulp : ℕ → ℕ
ulp b = 2 ^ (b / 2 ^ 52)

-- the number of such a pattern
abbrev pub number : ℕ → ℚ
number b = fr (pos (sig b)) (2 ^ 1075) (pow_pos 1075)

pub unit_part : (b : ℕ) → ulp b * 2 ^ 52 ≤ sig b
unit_part b = omega arith

-- between 2 ^ -160 and 2 ^ 160: the exponent's field lies between 863 and 1183, above the sign no bit is set
abbrev pub inside : ℕ → Bool
inside b = leb (864 * 2 ^ 52) b && leb b (1182 * 2 ^ 52)

-- what a row is
pub record Row (t : Float) (q : ℚ) : Type 0 where
  pub is_finite : T (finite t)
  pub is_fit : T (fits binary64 t)
  pub value : val t ≡ q
  pub low : dy 1 160 ≤q q
  pub high : q ≤q ofℕ (2 ^ 160)

field_of : (b : ℕ) → 864 * 2 ^ 52 ≤ b → b ≤ 1182 * 2 ^ 52 → (864 ≤ b / 2 ^ 52) × (b / 2 ^ 52 ≤ 1182)
field_of b h k = (omega arith, omega arith)

row_same : (D g X Y : ℕ) → Y ≡ X * 2 → g * X * (2 * D) ≡ g * Y * D
row_same D g X Y e = let k : g * Y * D ≡ g * (X * 2) * D = ap (λ (u : ℕ). g * u * D) e in omega arith

row_number : (g x e : ℕ) → e ≡ suc x → fr (pos (g * 2 ^ x)) (2 ^ 1074) (pow_pos 1074) ≡ fr (pos (g * 2 ^ e)) (2 ^ 1075) (pow_pos 1075)
row_number g x e h = is (ap pos (row_same (2 ^ 1074) g (2 ^ x) (2 ^ e) (ap (λ (u : ℕ). 2 ^ u) h ∙ pow-suc 2 x)))

pub row_of : (b : ℕ) → T (inside b) → Row (of_bits binary64 b) (number b)
row_of b t =
    let h : 864 * 2 ^ 52 ≤ b = leb→le (864 * 2 ^ 52) b (and_l (leb (864 * 2 ^ 52) b) _ t) in
    let k : b ≤ 1182 * 2 ^ 52 = leb→le b (1182 * 2 ^ 52) (and_r (leb (864 * 2 ^ 52) b) _ t) in
    let f = field_of b h k in
    let e = b / 2 ^ 52 in
    let x = e - 1 in
    let ex : e ≡ suc x = omega (arith, f.0) in
    let fx : b % 2 ^ 63 / 2 ^ 52 ≡ suc x = (omega arith) ∙ ex in
    let v : HasValue (of_bits binary64 b) (leb (2 ^ 63) b) ((2 ^ 52 + b % 2 ^ 52) * 2 ^ x) (2 ^ 1074) = pattern_normal binary64 b x fx (omega (arith, f.1)) in
    let w : HasValue (of_bits binary64 b) false ((2 ^ 52 + b % 2 ^ 52) * 2 ^ x) (2 ^ 1074) = subst (λ (s : Bool). HasValue (of_bits binary64 b) s ((2 ^ 52 + b % 2 ^ 52) * 2 ^ x) (2 ^ 1074)) (no_sign b k) v in
    record {
      is_finite = finite_is (of_bits binary64 b) false _ _ w;
      is_fit = of_bits-fits binary64 b;
      value = value_is (of_bits binary64 b) false _ _ (pow_pos 1074) w ∙ row_number (2 ^ 52 + b % 2 ^ 52) x e ex;
      low = low_end (2 ^ 52 + b % 2 ^ 52) (2 ^ e) (omega arith) (pow_mono f.0);
      high = high_end (2 ^ 52 + b % 2 ^ 52) (2 ^ e) (omega (arith, mod-lt b (pow_pos 52))) (pow_mono f.1);
    }
  where
    no_sign : (b : ℕ) → b ≤ 1182 * 2 ^ 52 → leb (2 ^ 63) b ≡ false
    no_sign b k = is_false (leb (2 ^ 63) b) (not_T (leb (2 ^ 63) b) (λ t. (omega (arith, leb→le (2 ^ 63) b t))))

    low_end : (g u : ℕ) → 2 ^ 52 ≤ g → 2 ^ 864 ≤ u → dy 1 160 ≤q fr (pos (g * u)) (2 ^ 1075) (pow_pos 1075)
    low_end g u h k = leq_in _ _ (le→leb (1 * 2 ^ 1075) (g * u * 2 ^ 160) (le_trans (lit≤ tt) (mul-le-mul_right (2 ^ 160) (mul-le-mul h k))))

    high_end : (g u : ℕ) → g ≤ 2 ^ 53 → u ≤ 2 ^ 1182 → fr (pos (g * u)) (2 ^ 1075) (pow_pos 1075) ≤q ofℕ (2 ^ 160)
    high_end g u h k = unfold ofℕ ofℤ in leq_in _ _ (le→leb (g * u * 1) (2 ^ 160 * 2 ^ 1075) (le_trans (mul-le-mul_right 1 (mul-le-mul h k)) (lit≤ tt)))

-- ---- e ^ m for m from -104 to 102
abbrev pub whole_arg : ℕ → ℚ
whole_arg i = fr (pos i -ℤ pos 104) 1 (zero-lt-suc 0)

whole_inside : T (every (λ i b. inside b) 0 table_exp_m1)
unfolding table_exp_m1
whole_inside = tt

whole_test : T (every (exp_test (λ i. pos i -ℤ pos 104) 1 420 (2 ^ 1075) sig ulp) 0 table_exp_m1)
unfolding exp_test test run table_exp_m1
whole_test = tt

whole_length : length table_exp_m1 ≡ 207
unfolding table_exp_m1
whole_length = refl

pub whole_row : (i : ℕ) → i < 207 → Row (of_bits binary64 (get_or table_exp_m1 i 0)) (number (get_or table_exp_m1 i 0))
whole_row i h = row_of (get_or table_exp_m1 i 0) (row (λ i b. inside b) table_exp_m1 whole_inside i (omega (arith, whole_length)))

pub whole_near : (i : ℕ) → i < 207 → (n : ℕ) → 420 ≤ n → Rel (S (whole_arg i) n) (number (get_or table_exp_m1 i 0)) (dy 1 52)
whole_near i h n k =
    let b = get_or table_exp_m1 i 0 in
    unit_rel (sig b) (ulp b) (2 ^ 1075) 52 (pow_pos 1075) _ (unit_part b)
    (exp_row (λ i. pos i -ℤ pos 104) 1 (zero-lt-suc 0) 420 (2 ^ 1075) (pow_pos 1075) sig ulp table_exp_m1 whole_test i (omega (arith, whole_length)) (far i h) n k)
  where
    far : (i : ℕ) → i < 207 → 2 * nat_abs (pos i -ℤ pos 104) ≤ 420 * 1
    far i h = omega (arith, ints)

-- ---- e ^ (i / 128) for i from 0 to 127
abbrev pub part_arg : ℕ → ℚ
part_arg i = fr (pos i) 128 (zero-lt-suc 127)

part_inside : T (every (λ i b. inside b) 0 table_exp_m2)
unfolding table_exp_m2
part_inside = tt

part_test : T (every (exp_test (λ i. pos i) 128 40 (2 ^ 1075) sig ulp) 0 table_exp_m2)
unfolding exp_test test run table_exp_m2
part_test = tt

part_length : length table_exp_m2 ≡ 128
unfolding table_exp_m2
part_length = refl

pub part_row : (i : ℕ) → i < 128 → Row (of_bits binary64 (get_or table_exp_m2 i 0)) (number (get_or table_exp_m2 i 0))
part_row i h = row_of (get_or table_exp_m2 i 0) (row (λ i b. inside b) table_exp_m2 part_inside i (omega (arith, part_length)))

pub part_near : (i : ℕ) → i < 128 → (n : ℕ) → 40 ≤ n → Rel (S (part_arg i) n) (number (get_or table_exp_m2 i 0)) (dy 1 52)
part_near i h n k =
    let b = get_or table_exp_m2 i 0 in
    unit_rel (sig b) (ulp b) (2 ^ 1075) 52 (pow_pos 1075) _ (unit_part b)
    (exp_row (λ i. pos i) 128 (zero-lt-suc 127) 40 (2 ^ 1075) (pow_pos 1075) sig ulp table_exp_m2 part_test i (omega (arith, part_length)) (omega arith) n k)

-- ---- the two as factors of e ^ x
pub record Factor (t : Float) (arg : ℚ) (n₀ : ℕ) : Type 0 where
  pub is_finite : T (finite t)
  pub is_fit : T (fits binary64 t)
  pub low : dy 1 160 ≤q val t
  pub high : val t ≤q ofℕ (2 ^ 160)
  pub near : (n : ℕ) → n₀ ≤ n → Rel (S arg n) (val t) (dy 1 52)

factor : (t : Float) (q arg : ℚ) (n₀ : ℕ) → Row t q → ((n : ℕ) → n₀ ≤ n → Rel (S arg n) q (dy 1 52)) → Factor t arg n₀
factor t q arg n₀ r s = record {
  is_finite = r.is_finite;
  is_fit = r.is_fit;
  low = subst (λ (u : ℚ). dy 1 160 ≤q u) (sym r.value) r.low;
  high = subst (λ (u : ℚ). u ≤q ofℕ (2 ^ 160)) (sym r.value) r.high;
  near = λ n h. subst (λ (u : ℚ). Rel (S arg n) u (dy 1 52)) (sym r.value) (s n h);
}

pub whole_factor : (i : ℕ) → i < 207 → Factor (of_bits binary64 (get_or table_exp_m1 i 0)) (whole_arg i) 420
whole_factor i h = factor (of_bits binary64 (get_or table_exp_m1 i 0)) (number (get_or table_exp_m1 i 0)) (whole_arg i) 420 (whole_row i h) (whole_near i h)

pub part_factor : (i : ℕ) → i < 128 → Factor (of_bits binary64 (get_or table_exp_m2 i 0)) (part_arg i) 40
part_factor i h = factor (of_bits binary64 (get_or table_exp_m2 i 0)) (number (get_or table_exp_m2 i 0)) (part_arg i) 40 (part_row i h) (part_near i h)
