-- Two figures of floats that are both near v, relative to their own sizes: equal, or neighbouring with v within d units of the lesser of their midpoint.
use Rattle.std.proofs.Common.{◌≡◌, ℕ, ◌-◌, ◌*◌, ◌^◌, ◌<◌, ◌≤◌, Bool, true, false, cond, not, T, [], ◌∷◌, pos, ◌*ℤ◌, sym, refl, ap, ◌∙◌, subst, inl, inr, mul-le-mul_right, le_of_mul-le-mul_right, T_not, pow_pos}
use Rattle.std.specs.Int.Signed.{le_z, le_z_yes}
use Rattle.std.specs.Float.{Float, Format, round_to_format}
use Rattle.std.specs.Float.Ieee.{prec, low, size, le}
use Rattle.std.specs.Float.Ieee.Exact.{HasValue}
use Rattle.std.specs.Float.Ieee.Scale.{grid, finite}
use std.Quotient.{cls}
use Rattle.exact.specs.Fraction.{whole, part, plus, times, absolute, apart, ◌≼◌}
use Rattle.exact.proofs.Ring.{con, ◌⊕◌, ◌⊖◌, ◌⊗◌, norm}
use Rattle.exact.proofs.Integer.{zring, x₀, x₁, x₂, x₃}
use Rattle.exact.proofs.Rational.{ℚ, is, ◌+q◌, ◌*q◌, -q◌, ◌-q◌, ofℤ, qring, add_commq}
use Rattle.exact.proofs.Order.{nn, nn_add, nn_mul, ◌≤q◌, le_by, q_refl, q_trans, q_add, q_neg, q_mul, q_total}
use Rattle.exact.proofs.Bound.{ofℕ, inv, nn_ofℕ, le_nn, Bound, bound_more, bound_nn, absq, bound_abs, mul_right}
use Rattle.rounding.specs.Values.{value, is_zero}
use Rattle.rounding.specs.Units.{unit}
use Rattle.rounding.specs.Nearest.{Neighbouring}
use Rattle.rounding.specs.Errors.{middle, Pair, equal, zeros, beside, nearer_zero, FiguresAgree}
use Rattle.rounding.proofs.Gaps as Gaps
use Rattle.exact.proofs.Compare.{dy, sum_cls, product_cls}
use Rattle.rounding.proofs.Fractions.{frac, frac_le, frac_le_out, nn_frac}
use Rattle.rounding.proofs.Value.{val, val_value, value_is}
use Rattle.rounding.proofs.Narrow.{unit_of}
use Rattle.rounding.proofs.Distance.{at_most_in, at_most_out, abs_cls, abs_frac, within_in, within_out}
use Rattle.rounding.proofs.UnitInLastPlace.{unit_is}
use Rattle.rounding.proofs.NearestResult.{nearest_result}
use Rattle.rounding.proofs.TwoFigures.{Figures, equal_figures, zero_figures, beside_figures, figures, middle_is}
use Rattle.rounding.proofs.Figure.{other_size, figure_nearest, figure_units, figure_relative}

-- k is small beside d: what is asked of them
pub record SmallBeside (f : Format) (k d : ℚ) : Type 0 where
  pub nn_k : T (nn k)
  pub half_k : dy 1 1 ≤q ofℤ (pos 1) -q k
  pub little : dy 2 0 *q k *q (ofℤ (pos 1) +q k) *q (ofℕ (2 ^ prec f) +q dy 1 1) ≤q d
  pub less : ofℤ (pos 1) ≤q d +q d → ⊥

half_of_two : dy 2 0 *q dy 1 1 ≡ ofℤ (pos 1)
unfolding ◌*q◌ ofℤ
half_of_two = is refl

-- u is not at most d + d of itself, where it is above 0
not_itself : (n l : ℕ) (N : 0 < n) (L : 0 < l) (c : ℚ) → (ofℤ (pos 1) ≤q c → ⊥) → frac false n l L ≤q c *q frac false n l L → ⊥
unfolding norm
not_itself n l N L c h k =
    let U = frac false n l L in
    let V = frac false l n N in
    let i : V *q U ≡ ofℤ (pos 1) = inverse in
    h (subst (λ (x : ℚ). x ≤q c) i (subst (λ (x : ℚ). V *q U ≤q x) (qring (x₀ ⊗ (x₁ ⊗ x₂)) (x₁ ⊗ (x₀ ⊗ x₂)) refl (V ∷ c ∷ U ∷ []) ∙ ap (λ (x : ℚ). c *q x) i ∙ qring (x₀ ⊗ con (pos 1)) x₀ refl (c ∷ [])) (q_mul V (nn_frac l n N) k)))
  where
    inverse : frac false l n N *q frac false n l L ≡ ofℤ (pos 1)
    inverse = unfold ◌*q◌ ofℤ norm in is (zring ((x₀ ⊗ x₁) ⊗ con (pos 1)) (con (pos 1) ⊗ (x₁ ⊗ x₀)) refl (pos l ∷ pos n ∷ []))

turned : {f : Format} {z w e : ℚ} {x y : Float} → Figures f z w e x y → Figures f w z e y x
turned (equal_figures h) = equal_figures (sym h)
turned (zero_figures h k) = zero_figures k h
turned {f} {z} {w} {e} {x} {y} (beside_figures h k) = beside_figures (elim h [ inl a ↦ inr a | inr a ↦ inl a ]) (λ v a b. subst (λ (c : ℚ). Bound (v -q c) e) (sym (middle_is x y) ∙ ap (λ (c : ℚ). inv 1 *q c) (add_commq (cls (value x)) (cls (value y))) ∙ middle_is y x) (k v b a))

-- ---- with the figure of z the one nearer to zero
module _ (f : Format) (z w : Float) (k d : ℚ) (s : SmallBeside f k d) (fz : T (finite z)) (fw : T (finite w)) (fx : T (finite (round_to_format f z))) (fy : T (finite (round_to_format f w))) (v : ℚ) (bz : Bound (val z -q v) (k *q absq (val z))) (bw : Bound (val w -q v) (k *q absq (val w))) where
  abbrev x : Float
  x = round_to_format f z

  abbrev y : Float
  y = round_to_format f w

  abbrev U : ℚ
  U = cls (unit f (round_to_format f z))

  abbrev C : ℚ
  C = ofℕ (2 ^ prec f) +q dy 1 1

  nn_C : T (nn (ofℕ (2 ^ prec f) +q dy 1 1))
  nn_C = nn_add (ofℕ (2 ^ prec f)) (dy 1 1) (nn_ofℕ (2 ^ prec f)) (nn_frac 1 (2 ^ 1) (pow_pos 1))

  nn_one : T (nn (ofℤ (pos 1)))
  unfolding nn ofℤ
  nn_one = tt

  nn_two : T (nn (dy 2 0))
  unfolding nn
  nn_two = tt

  nn_size : (a : ℚ) → T (nn (absq a))
  nn_size a = bound_nn (bound_abs a)

  both_near : (v : ℚ) → Bound (val z -q v) (k *q absq (val z)) → Bound (val w -q v) (k *q absq (val w)) → Bound (val z -q v) (d *q U) × Bound (val w -q v) (d *q U)
  unfolding norm ◌-q◌
  both_near v a b =
      let one = ofℤ (pos 1) in
      let kC : k *q C ≤q d =
      q_trans (le_by (k *q C *q one +q (k *q C) *q (k +q k)) (nn_add _ _ (nn_mul _ one (nn_mul k C s.nn_k nn_C) nn_one) (nn_mul (k *q C) (k +q k) (nn_mul k C s.nn_k nn_C) (nn_add k k s.nn_k s.nn_k))) (qring (con (pos 2) ⊗ x₀ ⊗ (con (pos 1) ⊕ x₀) ⊗ x₁ ⊖ x₀ ⊗ x₁) (x₀ ⊗ x₁ ⊗ con (pos 1) ⊕ (x₀ ⊗ x₁) ⊗ (x₀ ⊕ x₀)) refl (k ∷ C ∷ []))) (subst (λ (u : ℚ). u *q k *q (one +q k) *q C ≤q d) two_is s.little) in
      let o = other_size (val z) (val w) v k a b in
      let h : dy 1 1 *q absq (val w) ≤q (one +q k) *q (C *q U) = q_trans (mul_right (absq (val w)) (nn_size (val w)) s.half_k) (q_trans o (q_mul (one +q k) (nn_add one k nn_one s.nn_k) (figure_units f z fz fx))) in
      let i : dy 2 0 *q k *q (dy 1 1 *q absq (val w)) ≤q dy 2 0 *q k *q ((one +q k) *q (C *q U)) = q_mul (dy 2 0 *q k) (nn_mul (dy 2 0) k nn_two s.nn_k) h in
      let l : dy 2 0 *q k *q (dy 1 1 *q absq (val w)) ≡ k *q absq (val w) = qring (x₀ ⊗ x₁ ⊗ (x₂ ⊗ x₃)) ((x₀ ⊗ x₂) ⊗ (x₁ ⊗ x₃)) refl (dy 2 0 ∷ k ∷ dy 1 1 ∷ absq (val w) ∷ []) ∙ ap (λ (u : ℚ). u *q (k *q absq (val w))) half_of_two ∙ qring (con (pos 1) ⊗ x₀) x₀ refl (k *q absq (val w) ∷ []) in
      let m : k *q absq (val w) ≤q d *q U = subst (λ (u : ℚ). u ≤q d *q U) l (q_trans i (subst (λ (u : ℚ). u ≤q d *q U) (qring (x₀ ⊗ x₁ ⊗ x₂ ⊗ x₃) (x₀ ⊗ (x₁ ⊗ (x₂ ⊗ x₃))) refl (dy 2 0 *q k ∷ (one +q k) ∷ C ∷ U ∷ [])) (mul_right U nn_U s.little))) in
      (bound_more a (figure_relative f z fz fx k d s.nn_k kC), bound_more b m)
    where
      two_is : dy 2 0 ≡ ofℤ (pos 2)
      two_is = unfold ofℤ in is refl

      nn_U : T (nn (cls (unit f (round_to_format f z))))
      nn_U = let r = nearest_result f (value z) (round_to_format f z) (figure_nearest f z fz) fx in subst (λ (u : ℚ). T (nn u)) (sym (unit_is f (round_to_format f z) r.t (grid f r.a (value z).den) r.has)) (nn_frac (unit_of f (grid f r.a (value z).den)) (2 ^ low f) (pow_pos (low f)))

  pub lesser_agree : absq (val (round_to_format f z)) ≤q absq (val (round_to_format f w)) → Figures f (val z) (val w) (d *q cls (unit f (round_to_format f z))) (round_to_format f z) (round_to_format f w)
  unfolding norm
  lesser_agree le =
      let r = nearest_result f (value z) x (figure_nearest f z fz) fx in
      let t = nearest_result f (value w) y (figure_nearest f w fw) fy in
      let g = grid f r.a (value z).den in
      let h = grid f t.a (value w).den in
      let L = pow_pos (low f) in
      let i : g * 2 ^ low f ≤ h * 2 ^ low f = frac_le_out g (2 ^ low f) h (2 ^ low f) L L (subst (λ (u : ℚ). u ≤q frac false h (2 ^ low f) L) (size_is x r.t g r.has) (subst (λ (u : ℚ). absq (val x) ≤q u) (size_is y t.t h t.has) le)) in
      let m : frac false (unit_of f g) (2 ^ low f) L ≤q frac false (unit_of f h) (2 ^ low f) L = frac_le (unit_of f g) (2 ^ low f) (unit_of f h) (2 ^ low f) L L (mul-le-mul_right (2 ^ low f) (Gaps.unit_mono f g h (le_of_mul-le-mul_right i L))) in
      let m' : cls (unit f x) ≤q cls (unit f y) = subst (λ (u : ℚ). u ≤q cls (unit f y)) (sym (unit_is f x r.t g r.has)) (subst (λ (u : ℚ). frac false (unit_of f g) (2 ^ low f) L ≤q u) (sym (unit_is f y t.t h t.has)) m) in
      let own : cls (unit f x) ≤q d *q U +q d *q U → ⊥ = λ n. not_itself (unit_of f g) (2 ^ low f) (pow_pos (size g - prec f)) L (d +q d) s.less
      (subst (λ (u : ℚ). u ≤q (d +q d) *q u) (unit_is f x r.t g r.has) (subst (λ (u : ℚ). cls (unit f x) ≤q u) (qring (x₀ ⊗ x₁ ⊕ x₀ ⊗ x₁) ((x₀ ⊕ x₀) ⊗ x₁) refl (d ∷ U ∷ [])) n)) in
      let b = both_near v bz bw in
      subst (λ (c : ℚ). Figures f c (val w) (d *q U) x y) (sym (val_value z)) (subst (λ (c : ℚ). Figures f (cls (value z)) c (d *q U) x y) (sym (val_value w))
      (figures f (value z) (value w) v (d *q U) x y (figure_nearest f z fz) (figure_nearest f w fw) fx fy
      (subst (λ (c : ℚ). Bound (c -q v) (d *q U)) (val_value z) b.0) (subst (λ (c : ℚ). Bound (c -q v) (d *q U)) (val_value w) b.1) own (λ n. own (q_trans m' n))))
    where
      size_is : (x : Float) (t : Bool) (g : ℕ) → HasValue x t g (2 ^ low f) → absq (val x) ≡ frac false g (2 ^ low f) (pow_pos (low f))
      size_is x t g h = ap absq (value_is x t g (2 ^ low f) (pow_pos (low f)) h) ∙ abs_frac t g (2 ^ low f) (pow_pos (low f))

-- ---- two figures of z and w, within k of their own sizes of v
pub data Agreeing (f : Format) (z w k d : ℚ) (x y : Float) : Type 0 where
  equal_agree : x ≡ y → Agreeing f z w k d x y
  zeros_agree : T (is_zero x) → T (is_zero y) → Agreeing f z w k d x y
  beside_agree : Neighbouring f x y → ((v : ℚ) → Bound (z -q v) (k *q absq z) → Bound (w -q v) (k *q absq w) → Bound (v -q cls (middle x y)) (d *q cls (unit f (nearer_zero x y)))) → Agreeing f z w k d x y

pub agree : (f : Format) (z w : Float) (k d : ℚ) → SmallBeside f k d → T (finite z) → T (finite w) → T (finite (round_to_format f z)) → T (finite (round_to_format f w)) → (v : ℚ) → Bound (val z -q v) (k *q absq (val z)) → Bound (val w -q v) (k *q absq (val w))
    → Agreeing f (val z) (val w) k d (round_to_format f z) (round_to_format f w)
agree f z w k d s fz fw fx fy v bz bw = go (le_z ((absolute (value x)).num *ℤ pos (absolute (value y)).den) ((absolute (value y)).num *ℤ pos (absolute (value x)).den)) refl
  where
    x : Float
    x = round_to_format f z

    y : Float
    y = round_to_format f w

    abs_val : (a b : Float) → absolute (value a) ≼ absolute (value b) → absq (val a) ≤q absq (val b)
    abs_val a b h = subst (λ (u : ℚ). u ≤q absq (val b)) (abs_cls (value a) ∙ ap absq (sym (val_value a))) (subst (λ (u : ℚ). cls (absolute (value a)) ≤q u) (abs_cls (value b) ∙ ap absq (sym (val_value b))) (at_most_out (absolute (value a)) (absolute (value b)) h))

    le_or : (a b : Float) → T (not (le_z ((absolute (value a)).num *ℤ pos (absolute (value b)).den) ((absolute (value b)).num *ℤ pos (absolute (value a)).den))) → absq (val b) ≤q absq (val a)
    le_or a b t = elim (q_total (absq (val b)) (absq (val a))) [
      | inl h ↦ h
      | inr h ↦ absurd (T_not _ t (at_most_in (absolute (value a)) (absolute (value b)) (subst (λ (u : ℚ). u ≤q cls (absolute (value b))) (sym (abs_cls (value a) ∙ ap absq (sym (val_value a)))) (subst (λ (u : ℚ). absq (val a) ≤q u) (sym (abs_cls (value b) ∙ ap absq (sym (val_value b)))) h))).le)
    ]

    out : (u : Float) → nearer_zero (round_to_format f z) (round_to_format f w) ≡ u → ((v : ℚ) → Bound (val z -q v) (k *q absq (val z)) → Bound (val w -q v) (k *q absq (val w)) → Bound (val z -q v) (d *q cls (unit f u)) × Bound (val w -q v) (d *q cls (unit f u)))
        → Figures f (val z) (val w) (d *q cls (unit f u)) (round_to_format f z) (round_to_format f w) → Agreeing f (val z) (val w) k d (round_to_format f z) (round_to_format f w)
    out u e near (equal_figures h) = equal_agree h
    out u e near (zero_figures h i) = zeros_agree h i
    out u e near (beside_figures h i) = beside_agree h (λ v a b. subst (λ (u : Float). Bound (v -q cls (middle (round_to_format f z) (round_to_format f w))) (d *q cls (unit f u))) (sym e) (i v (near v a b).0 (near v a b).1))

    go : (t : Bool) → le_z ((absolute (value (round_to_format f z))).num *ℤ pos (absolute (value (round_to_format f w))).den) ((absolute (value (round_to_format f w))).num *ℤ pos (absolute (value (round_to_format f z))).den) ≡ t → Agreeing f (val z) (val w) k d (round_to_format f z) (round_to_format f w)
    go true e = out (round_to_format f z) (ap (λ (t : Bool). cond t (round_to_format f z) (round_to_format f w)) e) (both_near f z w k d s fz fw fx fy v bz bw) (lesser_agree f z w k d s fz fw fx fy v bz bw (abs_val (round_to_format f z) (round_to_format f w) (le_z_yes (subst T (sym e) tt))))
    go false e =
        out (round_to_format f w) (ap (λ (t : Bool). cond t (round_to_format f z) (round_to_format f w)) e) (λ u a b. let p = both_near f w z k d s fw fz fy fx v bw bz u b a in (p.1, p.0))
        (turned (lesser_agree f w z k d s fw fz fy fx v bw bz (le_or (round_to_format f z) (round_to_format f w) (subst (λ (t : Bool). T (not t)) (sym e) tt))))

pub figures_agree_lem : FiguresAgree
figures_agree_lem f z w v k d fz fw fx fy hz hw nk hk hl hd = go (agree f z w (cls k) (cls d) small fz fw fx fy (cls v) bz bw)
  where
    bound_at : (a : Float) → apart (value a) v ≼ times k (absolute (value a)) → Bound (val a -q cls v) (cls k *q absq (val a))
    bound_at a h = subst (λ (u : ℚ). Bound (u -q cls v) (cls k *q absq u)) (sym (val_value a)) (subst (λ (u : ℚ). Bound (cls (value a) -q cls v) u) (product_cls k (absolute (value a)) ∙ ap (λ (u : ℚ). cls k *q u) (abs_cls (value a))) (within_out (value a) v (times k (absolute (value a))) h))

    bz : Bound (val z -q cls v) (cls k *q absq (val z))
    bz = bound_at z hz

    bw : Bound (val w -q cls v) (cls k *q absq (val w))
    bw = bound_at w hw

    from_half : (k : ℚ) → k ≤q dy 1 1 → dy 1 1 ≤q ofℤ (pos 1) -q k
    from_half k h = unfold norm ◌-q◌ in subst (λ (u : ℚ). u ≤q ofℤ (pos 1) -q k) one_less (q_add (q_refl (ofℤ (pos 1))) (q_neg h))
      where
        one_less : ofℤ (pos 1) +q (-q◌ (dy 1 1)) ≡ dy 1 1
        one_less = unfold ◌+q◌ -q◌ ofℤ in is refl

    small : SmallBeside f (cls k) (cls d)
    small = record {
      nn_k = le_nn (subst (λ (u : ℚ). u ≤q cls k) zero_is (at_most_out (whole 0) k nk));
      half_k = from_half (cls k) (subst (λ (u : ℚ). cls k ≤q u) half_is (at_most_out k (part 1) hk));
      little = subst (λ (u : ℚ). u ≤q cls d) all_is (at_most_out (times (times (times (whole 2) k) (plus (whole 1) k)) (plus (whole (2 ^ prec f)) (part 1))) d hl);
      less = λ h. hd (at_most_in (whole 1) (plus d d) (subst (λ (u : ℚ). u ≤q cls (plus d d)) (sym one_is) (subst (λ (u : ℚ). ofℤ (pos 1) ≤q u) (sym (sum_cls d d)) h)));
    }
      where
        zero_is : cls (whole 0) ≡ ofℤ (pos 0)
        zero_is = unfold ofℤ in refl

        one_is : cls (whole 1) ≡ ofℤ (pos 1)
        one_is = unfold ofℤ in refl

        half_is : cls (part 1) ≡ dy 1 1
        half_is = is refl

        all_is : cls (times (times (times (whole 2) k) (plus (whole 1) k)) (plus (whole (2 ^ prec f)) (part 1))) ≡ dy 2 0 *q cls k *q (ofℤ (pos 1) +q cls k) *q (ofℕ (2 ^ prec f) +q dy 1 1)
        all_is = unfold ofℕ ofℤ ◌*q◌ ◌+q◌ in is refl

    go : Agreeing f (val z) (val w) (cls k) (cls d) (round_to_format f z) (round_to_format f w) → Pair f v (times d (unit f (nearer_zero (round_to_format f z) (round_to_format f w)))) (round_to_format f z) (round_to_format f w)
    go (equal_agree h) = equal h
    go (zeros_agree h i) = zeros h i
    go (beside_agree h i) = beside h (within_in v (middle (round_to_format f z) (round_to_format f w)) (times d (unit f (nearer_zero (round_to_format f z) (round_to_format f w)))) (subst (λ (u : ℚ). Bound (cls v -q cls (middle (round_to_format f z) (round_to_format f w))) u) (sym (product_cls d (unit f (nearer_zero (round_to_format f z) (round_to_format f w))))) (i (cls v) bz bw)))
