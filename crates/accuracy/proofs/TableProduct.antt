-- The polynomial times a row of either table: the series at the sum of the three arguments is within 231 * 2 ^ -53 of the product, relative to it.
use Rattle.std.proofs.Common.{ℕ, ◌*◌, ◌^◌, ◌<◌, ◌≤◌, T, [], ◌∷◌, get_or, pos, negsuc, ◌-ℤ◌, ◌*ℤ◌, refl, subst, le_trans, arith, lit≤, le→leb}
use Rattle.std.specs.Int.Signed.{le_z}
use Rattle.std.specs.Float.{Float, binary64}
use Rattle.std.specs.Float.Ieee.{mul, of_bits}
use Rattle.std.specs.Float.Ieee.Scale.{finite}
use Rattle.std.proofs.lemmas.Int.{ints}
use Rattle.exact.proofs.Ring.{con, ◌⊕◌, ◌⊖◌, ◌⊗◌, ⊝, norm}
use Rattle.exact.proofs.Integer.{x₀, x₁, x₂, x₃, x₄}
use Rattle.exact.proofs.Rational.{ℚ, ◌+q◌, ◌*q◌, -q◌, ◌-q◌, ofℤ, qring}
use Rattle.exact.proofs.Order.{nn, nn_add, nn_mul, ◌≤q◌, le_by, q_trans, q_add, q_mul}
use Rattle.exact.proofs.Bound.{ofℕ, nn_ofℕ, ofℕ_mono, inv, nn_le, le_nn, Bound, bound_more, bound_add, bound_turn, bound_via, mul_right, mul_mono}
use Rattle.exact.proofs.Compare.{dy, nn_dy, leq_in}
use Rattle.exact.proofs.Relative.{Rel, rel_more, rel_mul}
use Rattle.exact.proofs.Series.{term, S, R, later}
use Rattle.exact.proofs.Product.{mult₃}
use Rattle.exact.proofs.Vanish.{R_later}
use Rattle.rounding.proofs.Value.{val, mul_rounds}
use Rattle.rounding.proofs.Relative.{rel_round}
use Rattle.curves.specs.Tables.{table_exp_m1, table_exp_m2}
use Rattle.accuracy.proofs.Rows.{whole_arg, part_arg, whole_factor, part_factor}
use Rattle.accuracy.proofs.ExpPolynomial.{NearSeries}

-- ---- one rounding, relative to the number and to what it gives
abbrev one : ℚ
one = ofℤ (pos 1)

back_numbers : T (nn (one -q dy 1 53)) × (one ≤q (one +q dy 1 52) *q (one -q dy 1 53)) × T (nn (one +q dy 1 52))
unfolding nn ◌-q◌ ◌+q◌ -q◌ ◌*q◌ ofℤ
back_numbers = (tt, record { le = tt }, tt)

-- w is at most (1 + 2 ^ -52) z, where z is w rounded
pub back : (z w : ℚ) → T (nn w) → Rel z w (dy 1 53) → w ≤q (one +q dy 1 52) *q z
unfolding norm ◌-q◌
back z w n r =
    let low : (one -q dy 1 53) *q w ≤q z = le_by (z -q w -q (-q◌ (dy 1 53 *q w))) r.off.lo.le (qring (x₀ ⊖ (con (pos 1) ⊖ x₂) ⊗ x₁) (x₀ ⊖ x₁ ⊖ ⊝ (x₂ ⊗ x₁)) refl (z ∷ w ∷ dy 1 53 ∷ [])) in
    subst (λ (u : ℚ). u ≤q (one +q dy 1 52) *q z) (qring (con (pos 1) ⊗ x₀) x₀ refl (w ∷ []))
    (q_trans (mul_right w n back_numbers.1)
    (subst (λ (u : ℚ). u ≤q (one +q dy 1 52) *q z) (qring (x₀ ⊗ (x₁ ⊗ x₂)) (x₀ ⊗ x₁ ⊗ x₂) refl ((one +q dy 1 52) ∷ (one -q dy 1 53) ∷ w ∷ [])) (q_mul (one +q dy 1 52) back_numbers.2 low)))

-- what is within e of w, relative to w, is within (e + 2 ^ -53) (1 + 2 ^ -52) of z, relative to z
pub rel_back : (s z w e : ℚ) → T (nn e) → T (nn w) → Rel s w e → Rel z w (dy 1 53) → Rel s z ((e +q dy 1 53) *q (one +q dy 1 52))
unfolding norm ◌-q◌
rel_back s z w e ne n a b = record {
  off = bound_more (bound_via s w z a.off (bound_turn z w b.off))
      (subst (λ (u : ℚ). u ≤q (e +q dy 1 53) *q (one +q dy 1 52) *q z) (qring ((x₀ ⊕ x₁) ⊗ x₂) (x₀ ⊗ x₂ ⊕ x₁ ⊗ x₂) refl (e ∷ dy 1 53 ∷ w ∷ []))
      (subst (λ (u : ℚ). (e +q dy 1 53) *q w ≤q u) (qring (x₀ ⊗ (x₁ ⊗ x₂)) (x₀ ⊗ x₁ ⊗ x₂) refl ((e +q dy 1 53) ∷ (one +q dy 1 52) ∷ z ∷ [])) (q_mul (e +q dy 1 53) (nn_add e (dy 1 53) ne (nn_dy 1 53)) (back z w n b))));
}

half_numbers : (dy 1 1 ≤q one -q dy 1 53) × (one +q dy 1 53 ≤q ofℕ 2)
unfolding nn ◌-q◌ ◌+q◌ -q◌ ofℤ ofℕ
half_numbers = (record { le = tt }, record { le = tt })

-- between half of w and twice w
pub halves : (z w : ℚ) → T (nn w) → Rel z w (dy 1 53) → (dy 1 1 *q w ≤q z) × (z ≤q ofℕ 2 *q w)
unfolding norm ◌-q◌
halves z w n r = (
  q_trans (mul_right w n half_numbers.0) (le_by (z -q w -q (-q◌ (dy 1 53 *q w))) r.off.lo.le (qring (x₀ ⊖ (con (pos 1) ⊖ x₂) ⊗ x₁) (x₀ ⊖ x₁ ⊖ ⊝ (x₂ ⊗ x₁)) refl (z ∷ w ∷ dy 1 53 ∷ []))),
  q_trans (le_by (dy 1 53 *q w -q (z -q w)) r.off.hi.le (qring ((con (pos 1) ⊕ x₂) ⊗ x₁ ⊖ x₀) (x₂ ⊗ x₁ ⊖ (x₀ ⊖ x₁)) refl (z ∷ w ∷ dy 1 53 ∷ []))) (mul_right w n half_numbers.1),
)

-- the product of two floats in the normal range
pub mul_rel : (x y : Float) (t : ℕ) → T (finite x) → T (finite y) → T (nn (val x *q val y)) → dy 1 1022 ≤q val x *q val y → val x *q val y ≤q ofℕ (2 ^ t) → t < 1023 → T (finite (mul binary64 x y)) × Rel (val (mul binary64 x y)) (val x *q val y) (dy 1 53)
mul_rel x y t fx fy n lo hi h = rel_round binary64 (mul binary64 x y) (val x *q val y) t (mul_rounds binary64 x y fx fy) n lo hi h

-- ---- the arguments
pub whole_size : (i : ℕ) → i < 207 → Bound (whole_arg i) (ofℕ 104)
unfolding ofℕ ofℤ -q◌
whole_size i h = record { hi = leq_in _ _ above; lo = leq_in _ _ below }
  where
    above : T (le_z ((pos i -ℤ pos 104) *ℤ pos 1) (pos 104 *ℤ pos 1))
    above = omega (arith, ints)

    below : T (le_z (negsuc 103) ((pos i -ℤ pos 104) *ℤ pos 1))
    below = omega (arith, ints)

pub part_size : (i : ℕ) → i < 128 → Bound (part_arg i) (ofℕ 1)
unfolding ofℕ ofℤ -q◌
part_size i h = record { hi = leq_in _ _ (le→leb (i * 1) (1 * 128) (omega arith)); lo = leq_in _ _ tt }

abbrev H : ℚ
H = ofℕ 104

abbrev M : ℚ
M = ofℕ 1

abbrev L : ℚ
L = dy 1 8

far : ((H +q M +q L) +q (H +q M +q L) ≤q ofℕ 700) × ((H +q M) +q (H +q M) ≤q ofℕ 700)
unfolding nn ◌-q◌ ◌+q◌ -q◌ ofℕ ofℤ
far = (record { le = tt }, record { le = tt })

tails : (R (H +q M) 700 ≤q dy 1 600) × (R (H +q M +q L) 700 ≤q dy 1 600)
unfolding nn ◌-q◌ ◌+q◌ -q◌ ◌*q◌ ofℕ ofℤ term inv
tails = (record { le = tt }, record { le = tt })

tail_from : (n : ℕ) → 700 ≤ n → (R (H +q M) n ≤q dy 1 600) × (R (H +q M +q L) n ≤q dy 1 600)
tail_from n k = (
  later (λ m. R (H +q M) m ≤q dy 1 600) 700 (λ j. q_trans (R_later (H +q M) 700 (nn_add H M (nn_ofℕ 104) (nn_ofℕ 1)) far.1 j) tails.0) n k,
  later (λ m. R (H +q M +q L) m ≤q dy 1 600) 700 (λ j. q_trans (R_later (H +q M +q L) 700 (nn_add (H +q M) L (nn_add H M (nn_ofℕ 104) (nn_ofℕ 1)) (nn_dy 1 8)) far.0 j) tails.1) n k,
)

size_numbers : (dy 1 1022 ≤q dy 1 1 *q dy 1 160) × (ofℕ 3 *q ofℕ (2 ^ 160) ≤q ofℕ (2 ^ 162)) × (dy 1 162 ≤q dy 1 1 *q (dy 1 1 *q dy 1 160)) × (ofℕ 2 *q (ofℕ 3 *q ofℕ (2 ^ 160)) ≤q ofℕ (2 ^ 163)) × (dy 1 322 ≤q dy 1 162 *q dy 1 160) × (ofℕ (2 ^ 163) *q ofℕ (2 ^ 160) ≤q ofℕ (2 ^ 323))
unfolding nn ◌-q◌ ◌+q◌ -q◌ ◌*q◌ ofℕ ofℤ
size_numbers = (record { le = tt }, record { le = tt }, record { le = tt }, record { le = tt }, record { le = tt }, record { le = tt })

error_numbers : ((dy 7 48 +q dy 1 52 +q dy 7 48 *q dy 1 52 +q dy 1 53) *q (one +q dy 1 52) ≤q dy 457 54) × (dy 457 54 +q dy 1 52 +q dy 457 54 *q dy 1 52 ≤q dy 923 55) × (dy 1 600 *q ofℕ 3 +q dy 1 600 ≤q dy 1 55 *q dy 1 322) × (dy 923 55 +q dy 1 55 ≤q dy 231 53) × T (nn (dy 7 48 +q dy 1 52 +q dy 7 48 *q dy 1 52))
unfolding nn ◌-q◌ ◌+q◌ -q◌ ◌*q◌ ofℕ ofℤ
error_numbers = (record { le = tt }, record { le = tt }, record { le = tt }, record { le = tt }, tt)

-- ---- the product of the polynomial's f64 p at lo, rounded with the first row, and the second row
pub record Product (z₁ t₂ : Float) (x : ℚ) : Type 0 where
  pub finite_first : T (finite z₁)
  pub low_first : dy 1 162 ≤q val z₁
  pub high_first : val z₁ ≤q ofℕ (2 ^ 163)
  pub not_negative : T (nn (val z₁ *q val t₂))
  pub low : dy 1 322 ≤q val z₁ *q val t₂
  pub high : val z₁ *q val t₂ ≤q ofℕ (2 ^ 323)
  pub near : (n : ℕ) → 700 ≤ n → Rel (S x n) (val z₁ *q val t₂) (dy 231 53)

pub row_times_polynomial : (lo p : Float) → Bound (val lo) (dy 1 8) → NearSeries lo p → (i h : ℕ) → i < 207 → h < 128
    → Product (mul binary64 p (of_bits binary64 (get_or table_exp_m1 i 0))) (of_bits binary64 (get_or table_exp_m2 h 0)) (whole_arg i +q part_arg h +q val lo)
unfolding norm ◌-q◌
row_times_polynomial lo p bl s i h hi hh =
    let f₁ = whole_factor i hi in
    let f₂ = part_factor h hh in
    let t₁ = of_bits binary64 (get_or table_exp_m1 i 0) in
    let t₂ = of_bits binary64 (get_or table_exp_m2 h 0) in
    let z₁ = mul binary64 p t₁ in
    let np : T (nn (val p)) = le_nn (q_trans (nn_le (nn_dy 1 1)) s.low) in
    let n₁ : T (nn (val t₁)) = le_nn (q_trans (nn_le (nn_dy 1 160)) f₁.low) in
    let n₂ : T (nn (val t₂)) = le_nn (q_trans (nn_le (nn_dy 1 160)) f₂.low) in
    let w = val p *q val t₁ in
    let nw : T (nn w) = nn_mul (val p) (val t₁) np n₁ in
    let wl : dy 1 1 *q dy 1 160 ≤q w = mul_mono (nn_dy 1 1) (nn_dy 1 160) s.low f₁.low in
    let wh : w ≤q ofℕ 3 *q ofℕ (2 ^ 160) = mul_mono np n₁ s.high.hi f₁.high in
    let m = mul_rel p t₁ 162 s.is_finite f₁.is_finite nw (q_trans size_numbers.0 wl) (q_trans wh size_numbers.1) (lit≤ tt) in
    let g = halves (val z₁) w nw m.1 in
    let zl : dy 1 162 ≤q val z₁ = q_trans size_numbers.2 (q_trans (q_mul (dy 1 1) (nn_dy 1 1) wl) g.0) in
    let zh : val z₁ ≤q ofℕ (2 ^ 163) = q_trans g.1 (q_trans (q_mul (ofℕ 2) (nn_ofℕ 2) wh) size_numbers.3) in
    let nz : T (nn (val z₁)) = le_nn (q_trans (nn_le (nn_dy 1 162)) zl) in
    let q = val z₁ *q val t₂ in
    let nq : T (nn q) = nn_mul (val z₁) (val t₂) nz n₂ in
    let ql : dy 1 322 ≤q q = q_trans size_numbers.4 (mul_mono (nn_dy 1 162) (nn_dy 1 160) zl f₂.low) in
    record {
      finite_first = m.0;
      low_first = zl;
      high_first = zh;
      not_negative = nq;
      low = ql;
      high = q_trans (mul_mono nz n₂ zh f₂.high) size_numbers.5;
      near = λ n k.
          let a = S (whole_arg i) n in
          let b = S (part_arg h) n in
          let c = S (val lo) n in
          let first : Rel (c *q a) w (dy 7 48 +q dy 1 52 +q dy 7 48 *q dy 1 52) = rel_mul np n₁ (s.near n (le_trans (lit≤ tt) k)) (f₁.near n (le_trans (lit≤ tt) k)) in
          let second : Rel (c *q a) (val z₁) (dy 457 54) = rel_more (dy 457 54) nz (rel_back (c *q a) (val z₁) w _ error_numbers.4 nw first m.1) error_numbers.0 in
          let third : Rel (c *q a *q b) q (dy 923 55) = rel_more (dy 923 55) nq (rel_mul nz n₂ second (f₂.near n (le_trans (lit≤ tt) k))) error_numbers.1 in
          let t = tail_from n k in
          let m3 = mult₃ (whole_arg i) (part_arg h) (val lo) H M L (whole_size i hi) (part_size h hh) bl n (q_trans far.0 (ofℕ_mono 700 n k)) (q_trans far.1 (ofℕ_mono 700 n k)) (ofℕ 3) (s.sum n (le_trans (lit≤ tt) k)) in
          let rest : R (H +q M) n *q ofℕ 3 +q R (H +q M +q L) n ≤q dy 1 55 *q q =
          q_trans (q_add (mul_right (ofℕ 3) (nn_ofℕ 3) t.0) t.1) (q_trans error_numbers.2 (q_mul (dy 1 55) (nn_dy 1 55) ql)) in
          let x = S (whole_arg i +q part_arg h +q val lo) n in
          let off : Bound (x -q a *q b *q c) (dy 1 55 *q q) = bound_turn (a *q b *q c) x (bound_more m3 rest) in
          record {
            off = bound_more (subst (λ (u : ℚ). Bound u (dy 923 55 *q q +q dy 1 55 *q q)) (qring (x₀ ⊗ x₁ ⊗ x₂ ⊖ x₃ ⊕ (x₄ ⊖ x₁ ⊗ x₂ ⊗ x₀)) (x₄ ⊖ x₃) refl (c ∷ a ∷ b ∷ q ∷ x ∷ [])) (bound_add third.off off))
                (subst (λ (u : ℚ). u ≤q dy 231 53 *q q) (qring ((x₀ ⊕ x₁) ⊗ x₂) (x₀ ⊗ x₂ ⊕ x₁ ⊗ x₂) refl (dy 923 55 ∷ dy 1 55 ∷ q ∷ [])) (mul_right q nq error_numbers.3));
          };
    }
