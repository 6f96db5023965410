-- The rows of exp2's and exp10's tables: 2 ^ (i / 64) and 2 ^ (i / 32), from 1 to 2 and within half a unit of 2 ^ -52.
use Rattle.std.proofs.Common.{◌≡◌, ℕ, ◌+◌, ◌-◌, ◌*◌, ◌^◌, ◌<◌, ◌≤◌, false, T, List, [], ◌∷◌, length, get_or, pos, sym, refl, ap, ◌∙◌, subst, le_trans, zero-lt-suc, mul-pos, arith, lit≤, pow_pos, pow-add}
use Rattle.std.proofs.Math.Nat.{le_of_suc-le}
use Rattle.exact.specs.Logarithm.{binary}
use Rattle.exact.proofs.Ring.{con, ◌⊗◌, norm}
use Rattle.exact.proofs.Integer.{x₀}
use Rattle.exact.proofs.Rational.{ℚ, ◌+q◌, ◌*q◌, -q◌, ◌-q◌, ofℤ, qring}
use Rattle.exact.proofs.Order.{nn, ◌≤q◌, q_trans, q_mul}
use Rattle.exact.proofs.Bound.{ofℕ, Bound, bound_more, bound_mul, bound_self, bound_turn, bound_is}
use Rattle.exact.proofs.Compare.{fr, nn_dy, nn_fr, fr_le, dy}
use Rattle.exact.proofs.Series.{S}
use Rattle.exact.proofs.Compute.{run, test}
use Rattle.exact.proofs.Logarithm.{root}
use Rattle.exact.proofs.Table.{every, power_test, power_row}
use Rattle.rounding.proofs.Fractions.{frac_same}
use Rattle.rounding.proofs.Value.{val, value_is}
use Rattle.curves.specs.Tables.{table_exp2_mid, table_exp2f}
use Rattle.curves.specs.Steps.{double, row}
use Rattle.curves.proofs.PowerRow.{FromOne, row_has, mid_from_one, entry_from_one}
use Rattle.accuracy.proofs.PowerTable.{RowRule}

-- a row from 1 to below 2 in units of 2 ^ -52
abbrev steps : ℕ → ℕ
steps b = b - 1022 * 2 ^ 52

abbrev one_step : ℕ → ℕ
one_step b = 1

mids : T (every (power_test binary 32 40 (2 ^ 52) steps one_step) 0 table_exp2_mid) × (length table_exp2_mid ≡ 32)
unfolding power_test test run table_exp2_mid
mids = (tt, refl)

entries : T (every (power_test binary 64 40 (2 ^ 52) steps one_step) 0 table_exp2f) × (length table_exp2f ≡ 64)
unfolding power_test test run table_exp2f
entries = (tt, refl)

-- ---- the number of a row
number : (b : ℕ) → FromOne b → val (double b) ≡ fr (pos (steps b)) (2 ^ 52) (pow_pos 52)
number b w =
    value_is (double b) false ((2 ^ 52 + (b - 1023 * 2 ^ 52)) * 2 ^ 1022) (2 ^ 1074) (pow_pos 1074) (row_has b w)
    ∙ frac_same false ((2 ^ 52 + (b - 1023 * 2 ^ 52)) * 2 ^ 1022) (2 ^ 1074) (steps b) (2 ^ 52) (pow_pos 1074) (pow_pos 52)
    (ap (λ (n : ℕ). n * 2 ^ 1022 * 2 ^ 52) (split b w.least) ∙ omega arith ∙ ap (λ (n : ℕ). steps b * n) (sym (pow-add 2 1022 52)))
  where
    split : (b : ℕ) → 1023 * 2 ^ 52 ≤ b → 2 ^ 52 + (b - 1023 * 2 ^ 52) ≡ b - 1022 * 2 ^ 52
    split b h = omega arith

from_one : (b : ℕ) → FromOne b → (ofℕ 1 ≤q fr (pos (steps b)) (2 ^ 52) (pow_pos 52)) × (fr (pos (steps b)) (2 ^ 52) (pow_pos 52) ≤q ofℕ 2)
unfolding ofℕ ofℤ
from_one b w = (fr_le 1 1 (steps b) (2 ^ 52) (zero-lt-suc 0) (pow_pos 52) (let l = w.least in omega arith), fr_le (steps b) (2 ^ 52) 2 1 (pow_pos 52) (zero-lt-suc 0) (let l = w.most in omega arith))

half_step : dy 1 53 ≤q dy 1 52 *q ofℕ 1
unfolding nn ◌-q◌ ◌+q◌ -q◌ ◌*q◌ ofℕ ofℤ
half_step = record { le = tt }

root_one : Bound (root binary) (ofℕ 1)
unfolding nn ◌-q◌ ◌+q◌ -q◌ ofℕ ofℤ
root_one = bound_is tt tt

-- ---- the rule of a table with c rows
rule : (table : List ℕ) (c : ℕ) (C : 0 < c) → T (every (power_test binary c 40 (2 ^ 52) steps one_step) 0 table) → length table ≡ c → (i : ℕ) → i < c → FromOne (get_or table i 0) → RowRule (row table i) (fr (pos i) c C *q root binary)
unfolding norm
rule table c C all e i h w = record {
  near = λ n far.
      let b = power_row binary c C 40 (2 ^ 52) (pow_pos 52) steps one_step table all (lit≤ tt) i (subst (λ (m : ℕ). i < m) (sym e) h) (le_of_suc-le h) n (le_trans (lit≤ tt) far) in
      record {
        off = subst (λ (u : ℚ). Bound (S (fr (pos i) c C *q root binary) n -q u) (dy 1 52 *q u)) (sym (number (get_or table i 0) w))
            (bound_more (bound_turn (fr (pos (steps (get_or table i 0))) (2 ^ 52) (pow_pos 52)) (S (fr (pos i) c C *q root binary) n) (half b)) (q_trans half_step (q_mul (dy 1 52) (nn_dy 1 52) (from_one (get_or table i 0) w).0)));
      };
  above = subst (λ (u : ℚ). ofℕ 1 ≤q u) (sym (number (get_or table i 0) w)) (from_one (get_or table i 0) w).0;
  below = subst (λ (u : ℚ). u ≤q ofℕ 2) (sym (number (get_or table i 0) w)) (from_one (get_or table i 0) w).1;
  argument = subst (λ (u : ℚ). Bound (fr (pos i) c C *q root binary) u) (qring (x₀ ⊗ x₀) (x₀ ⊗ x₀) refl (ofℕ 1 ∷ []) ∙ one_one) (bound_mul (bound_more (bound_self (nn_fr i c C)) (part_one i c C h)) root_one);
}
  where
    half : {x : ℚ} → Bound x (fr (pos 1) (2 * 2 ^ 52) (mul-pos (zero-lt-suc 1) (pow_pos 52))) → Bound x (dy 1 53)
    half b = bound_more b (fr_le 1 (2 * 2 ^ 52) 1 (2 ^ 53) (mul-pos (zero-lt-suc 1) (pow_pos 52)) (pow_pos 53) (lit≤ tt))

    one_one : ofℕ 1 *q ofℕ 1 ≡ ofℕ 1
    one_one = unfold ofℕ norm in qring (con (pos 1) ⊗ con (pos 1)) (con (pos 1)) refl []

    part_one : (i c : ℕ) (C : 0 < c) → i < c → fr (pos i) c C ≤q ofℕ 1
    part_one i c C h = unfold ofℕ ofℤ in fr_le i c 1 1 C (zero-lt-suc 0) (omega arith)

pub mid_rule : (i : ℕ) → i < 32 → RowRule (row table_exp2_mid i) (fr (pos i) 32 (zero-lt-suc 31) *q root binary)
mid_rule i h = rule table_exp2_mid 32 (zero-lt-suc 31) mids.0 mids.1 i h (mid_from_one i h)

pub entry_rule : (i : ℕ) → i < 64 → RowRule (row table_exp2f i) (fr (pos i) 64 (zero-lt-suc 63) *q root binary)
entry_rule i h = rule table_exp2f 64 (zero-lt-suc 63) entries.0 entries.1 i h (entry_from_one i h)
