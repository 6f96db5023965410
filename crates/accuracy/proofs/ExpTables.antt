-- exp by its tables: the f64 before the narrowing is within 2 ^ -45 of the exact value, relative to itself.
use Rattle.std.proofs.Common.{ℕ, ◌≤◌, T, pos, sym, subst, lit≤}
use Rattle.std.specs.Float.{Float, binary32, binary64}
use Rattle.std.specs.Float.Ieee.{mul, fits}
use Rattle.std.specs.Float.Ieee.Scale.{finite}
use Rattle.exact.specs.Exact.{exp}
use Rattle.exact.proofs.Rational.{ℚ, ◌+q◌, ◌*q◌, -q◌, ◌-q◌, ofℤ}
use Rattle.exact.proofs.Order.{nn, ◌≤q◌, q_trans, q_mul}
use Rattle.exact.proofs.Bound.{ofℕ, nn_le, le_nn, Bound, bound_more, bound_turn, mul_right}
use Rattle.exact.proofs.Compare.{dy, nn_dy}
use Rattle.exact.proofs.Series.{S}
use Rattle.rounding.specs.Values.{value}
use Rattle.rounding.proofs.Value.{val, val_value}
use Rattle.arithmetic.specs.Arithmetic.{Arithmetic, Lawful}
use Rattle.curves.specs.Tables.{table_exp_m1, table_exp_m2}
use Rattle.curves.specs.Steps.{row}
use Rattle.curves.specs.Exp.{k, lo, row_of_whole, row_of_rest, exp_poly, exp_tables_value, ExpReaches}
use Rattle.accuracy.specs.Figures.{Right, Agree}
use Rattle.accuracy.specs.Inner.{exp_wide}
use Rattle.curves.proofs.Law.{fma_law}
use Rattle.accuracy.proofs.Rows.{part_factor}
use Rattle.accuracy.proofs.ExpPolynomial.{stages, poly_near}
use Rattle.accuracy.proofs.TableProduct.{Product, row_times_polynomial, mul_rel, halves, rel_back}
use Rattle.accuracy.proofs.ExpSplit.{split, reaches_size}
use Rattle.accuracy.proofs.ExpLimit.{Beside, exp_placed}
use Rattle.accuracy.proofs.Outcome as Outcome
use Rattle.accuracy.proofs.Outcome.{close, Near, nearer, near_positive, Placed, right, agree}

-- ---- the polynomial and the rows of an x that reaches them
pub exp_product : (a : Arithmetic) → Lawful a → (x : Float) → T (fits binary32 x) → ExpReaches x → Product (mul binary64 (exp_poly a x) (row table_exp_m1 (row_of_whole (k a x)))) (row table_exp_m2 (row_of_rest (k a x))) (val x)
exp_product a w x fx t =
    let s = split a w x fx t in
    let g = stages a.fma (fma_law a w) (lo a x) s.range_lo s.small_lo in
    subst (λ (u : ℚ). Product (mul binary64 (exp_poly a x) (row table_exp_m1 (row_of_whole (k a x)))) (row table_exp_m2 (row_of_rest (k a x))) u) (sym s.sum)
    (row_times_polynomial (lo a x) (exp_poly a x) s.small_lo (poly_near (lo a x) (exp_poly a x) s.small_lo g.last.ball) (row_of_whole (k a x)) (row_of_rest (k a x)) s.whole_row s.rest_row)

numbers : (dy 1 1022 ≤q dy 1 322) × (dy 1 400 ≤q dy 1 1 *q dy 1 322) × ((dy 231 53 +q dy 1 53) *q (ofℤ (pos 1) +q dy 1 52) ≤q dy 1 45) × (dy 1 45 ≤q dy 1 38) × (ofℕ 105 ≤q ofℕ 106) × T (nn (dy 231 53))
unfolding nn ◌-q◌ ◌+q◌ -q◌ ◌*q◌ ofℕ ofℤ
numbers = (record { le = tt }, record { le = tt }, record { le = tt }, record { le = tt }, record { le = tt }, tt)

-- what is known of it
pub record Wide (a : Arithmetic) (x : Float) : Type 0 where
  pub is_finite : T (finite (exp_wide a x))
  pub above : dy 1 400 ≤q val (exp_wide a x)
  pub off : (n : ℕ) → 700 ≤ n → Bound (val (exp_wide a x) -q S (val x) n) (dy 1 45 *q val (exp_wide a x))

pub wide : (a : Arithmetic) → Lawful a → (x : Float) → T (fits binary32 x) → ExpReaches x → Wide a x
wide a w x fx t =
    let p = exp_product a w x fx t in
    let z₁ = mul binary64 (exp_poly a x) (row table_exp_m1 (row_of_whole (k a x))) in
    let t₂ = row table_exp_m2 (row_of_rest (k a x)) in
    let q = val z₁ *q val t₂ in
    let f₂ = part_factor (row_of_rest (k a x)) (split a w x fx t).rest_row in
    let m = mul_rel z₁ t₂ 323 p.finite_first f₂.is_finite p.not_negative (q_trans numbers.0 p.low) p.high (lit≤ tt) in
    let g = halves (val (exp_wide a x)) q p.not_negative m.1 in
    let l : dy 1 400 ≤q val (exp_wide a x) = q_trans numbers.1 (q_trans (q_mul (dy 1 1) (nn_dy 1 1) p.low) g.0) in
    record {
      is_finite = m.0;
      above = l;
      off = λ n k. bound_turn (S (val x) n) (val (exp_wide a x)) (bound_more (rel_back (S (val x) n) (val (exp_wide a x)) q (dy 231 53) numbers.5 p.not_negative (p.near n k) m.1).off (mul_right (val (exp_wide a x)) (le_nn (q_trans (nn_le (nn_dy 1 400)) l)) numbers.2));
    }

-- the inner statement: within 2 ^ -45 of its own size of e ^ x
pub exp_near : (a : Arithmetic) (x : Float) → Wide a x → Near exp (value x) (dy 1 45) (exp_wide a x)
exp_near a x v = near_positive exp (value x) (dy 1 45) (exp_wide a x) v.is_finite (le_nn (q_trans (nn_le (nn_dy 1 400)) v.above)) (λ _. 700) (λ j n h. subst (λ (u : ℚ). Bound (val (exp_wide a x) -q S u n) (dy 1 45 *q val (exp_wide a x))) (val_value x) (v.off n h))

narrowable : (a : Arithmetic) (x : Float) → Wide a x → Outcome.Wide exp (value x) 400 (exp_wide a x)
narrowable a x v = record { above = v.above; near = nearer close numbers.3 (exp_near a x v) }

-- ---- the figure
placed : (x : Float) → T (fits binary32 x) → ExpReaches x → Beside (val x) → Placed exp (value x)
placed x fx t h = exp_placed (value x) (subst (λ (u : ℚ). Bound u (ofℕ 106)) (val_value x) (bound_more (reaches_size x fx t).1 numbers.4)) (subst (λ (u : ℚ). Beside u) (val_value x) h)

pub tables_right : (a : Arithmetic) → Lawful a → (x : Float) → T (fits binary32 x) → ExpReaches x → Beside (val x) → Right exp x (exp_tables_value a x)
tables_right a w x fx t h = right exp x (exp_wide a x) 400 (placed x fx t h) (narrowable a x (wide a w x fx t))

pub tables_agree : (a b : Arithmetic) → Lawful a → Lawful b → (x : Float) → T (fits binary32 x) → ExpReaches x → Beside (val x) → Agree exp x (exp_tables_value a x) (exp_tables_value b x)
tables_agree a b w u x fx t h = agree exp x (exp_wide a x) (exp_wide b x) 400 (placed x fx t h) (narrowable a x (wide a w x fx t)) (narrowable b x (wide b u x fx t))
