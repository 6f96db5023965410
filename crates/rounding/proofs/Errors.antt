-- How far a rounded result is off, for whatever is nearest to its number.
use Rattle.std.proofs.Common.{◌≡◌, ℕ, suc, ◌-◌, ◌*◌, ◌^◌, ◌<◌, ◌≤◌, Bool, true, false, not, T, [], ◌∷◌, ℤ, pos, sym, refl, ap, ◌∙◌, subst, ap₂, inl, inr, le_trans, le_of_eq, zero-lt-suc, arith, pow_pos}
use Rattle.std.specs.Float.{Float, inf, Format, binary32, binary64}
use Rattle.std.specs.Float.Ieee.{prec, emax, low, round, mul}
use Rattle.std.specs.Float.Ieee.Exact.{HasValue}
use Rattle.std.specs.Float.Ieee.Scale.{finite, grid}
use std.Quotient.{cls}
use Rattle.exact.specs.Fraction.{Same, Fraction, whole, plus, times, absolute, ◌≼◌}
use Rattle.exact.proofs.Ring.{con, ◌⊕◌, ◌⊖◌, ◌⊗◌, norm}
use Rattle.exact.proofs.Integer.{zring, x₀, x₁, x₂}
use Rattle.exact.proofs.Rational.{ℚ, is, ◌+q◌, ◌*q◌, -q◌, ◌-q◌, qring}
use Rattle.exact.proofs.Order.{◌≤q◌, q_trans}
use Rattle.exact.proofs.Bound.{inv, Bound, bound_more, bound_add, absq, bound_abs}
use Rattle.rounding.specs.Values.{value, sign, infinite}
use Rattle.rounding.specs.Units.{unit}
use Rattle.rounding.specs.Nearest.{limit}
use Rattle.rounding.specs.Errors.{dyadic, half, InfiniteNear, HalfUnit, RelativeError, NearFigure, MultiplyAddError, MultiplesStay, MultiplesAway, ExactMultiplyAdd}
use Rattle.rounding.specs.Errors as Errors
use Rattle.exact.proofs.Compare.{dy, fr, sum_cls, whole_cls}
use Rattle.rounding.proofs.Fractions.{frac, frac_same, frac_le, frac_le_out, size_out, sign_size}
use Rattle.rounding.proofs.Value.{val, val_value, value_is, Rounds, mul_rounds, add_rounds, fused_rounds}
use Rattle.rounding.proofs.HalfUnit.{round_value}
use Rattle.rounding.proofs.Error.{eps, tiny, round_relative}
use Rattle.rounding.proofs.Narrow.{unit_of, half_of_unit, narrow}
use Rattle.rounding.proofs.MultiplyAdd.{slip, slip₂, fma_err}
use Rattle.rounding.proofs.Multiple.{Mult, Away, mult_away, round_mult, round_away}
use Rattle.rounding.proofs.Limit.{above_limit}
use Rattle.rounding.proofs.Distance.{at_most_in, at_most_out, same_number, abs_cls, abs_frac, abs_least, within_in, within_out}
use Rattle.rounding.proofs.UnitInLastPlace.{unit_is}
use Rattle.rounding.proofs.NearestResult.{Result, nearest_result, rounded, rounded_rounds, rounded_finite, rounded_value}
use Rattle.rounding.specs.Ranges.{Permitted, once, twice}
use Rattle.rounding.proofs.Exact.{still}

-- ---- half a unit
half_cls : (f : Format) (x : Float) (t : Bool) (g : ℕ) → HasValue x t g (2 ^ low f) → half_of_unit f g ≡ cls (half (unit f x))
half_cls f x t g h = halves g ∙ ap (λ (u : ℚ). inv 1 *q u) (sym (unit_is f x t g h)) ∙ sym (times_cls (unit f x))
  where
    halves : (g : ℕ) → half_of_unit f g ≡ inv 1 *q frac false (unit_of f g) (2 ^ low f) (pow_pos (low f))
    halves g = unfold inv ◌*q◌ norm in is (zring (x₀ ⊗ (con (pos 2) ⊗ x₁)) ((con (pos 1) ⊗ x₀) ⊗ (x₁ ⊗ con (pos 2))) refl (pos (unit_of f g) ∷ pos (2 ^ low f) ∷ []))

    times_cls : (u : Fraction) → cls (half u) ≡ inv 1 *q cls u
    times_cls u = unfold inv ◌*q◌ in refl

pub near_value : (f : Format) (q : Fraction) (x : Float) (r : Result f q x) → Bound (val x -q cls q) (cls (half (unit f x)))
near_value f q x r =
    let b = narrow f r.s r.a q.den q.ok r.under in
    subst (λ (u : ℚ). Bound (val x -q cls q) u) (half_cls f x r.t (grid f r.a q.den) r.has)
    (subst (λ (u : ℚ). Bound (val x -q u) (half_of_unit f (grid f r.a q.den))) (sym r.what)
    (subst (λ (u : ℚ). Bound (u -q frac r.s r.a q.den q.ok) (half_of_unit f (grid f r.a q.den))) (value_is (round f r.s r.a q.den) r.s (grid f r.a q.den) (2 ^ low f) (pow_pos (low f)) (round_value f r.s r.a q.den r.under) ∙ sym r.is_value) b))

pub half_unit_lem : HalfUnit
half_unit_lem f q x n t = within_in (value x) q (half (unit f x)) (subst (λ (u : ℚ). Bound (u -q cls q) (cls (half (unit f x)))) (val_value x) (near_value f q x (nearest_result f q x n t)))

pub near_figure_lem : NearFigure
unfolding norm ◌-q◌
near_figure_lem f q v e x n t h =
    within_in (value x) v (plus (half (unit f x)) e)
    (subst (λ (u : ℚ). Bound (cls (value x) -q cls v) u) (sym (sum_cls (half (unit f x)) e))
    (subst (λ (u : ℚ). Bound u (cls (half (unit f x)) +q cls e)) (qring (x₀ ⊖ x₁ ⊕ (x₁ ⊖ x₂)) (x₀ ⊖ x₂) refl (cls (value x) ∷ cls q ∷ cls v ∷ []))
    (bound_add (within_out (value x) q (half (unit f x)) (half_unit_lem f q x n t)) (within_out q v e h))))

-- ---- 2 ^ -prec of the number, in the normal range
pub relative_error_lem : RelativeError
unfolding ◌*q◌
relative_error_lem f q x n t h =
    let r = nearest_result f q x n t in
    let a = r.a in
    let c = q.den in
    let S : cls (absolute q) ≡ frac false a c q.ok = abs_cls q ∙ ap absq r.what ∙ abs_frac r.s a c q.ok in
    let k : 1 * c ≤ a * 2 ^ (emax f - 1) = frac_le_out 1 (2 ^ (emax f - 1)) a c (pow_pos (emax f - 1)) q.ok (subst (λ (u : ℚ). dy 1 (emax f - 1) ≤q u) S (at_most_out (dyadic 1 (emax f - 1)) (absolute q) h)) in
    let b = round_relative f r.s a c q.ok r.under (le_trans (le_of_eq (omega arith)) k) in
    within_in (value x) q (times (absolute q) (dyadic 1 (prec f)))
    (subst (λ (u : ℚ). Bound (u -q cls q) (cls (times (absolute q) (dyadic 1 (prec f))))) (value_is (round f r.s a c) r.s (grid f a c) (2 ^ low f) (pow_pos (low f)) (round_value f r.s a c r.under) ∙ sym r.is_value ∙ val_value x)
    (subst (λ (u : ℚ). Bound (val (round f r.s a c) -q u) (cls (times (absolute q) (dyadic 1 (prec f))))) (sym r.what)
    (subst (λ (u : ℚ). Bound (val (round f r.s a c) -q frac r.s a c q.ok) (u *q dy 1 (prec f))) (sym S) b)))

-- ---- overflow of what is near v
pub infinite_near_lem : InfiniteNear
unfolding norm ◌-q◌
infinite_near_lem f q v e x n h = (
  λ k.
      let b = within_out q v e h in
      let L = at_most_out (plus (limit f) e) v k in
      let up : cls (limit f) ≤q cls q = above_limit b (subst (λ (u : ℚ). u ≤q cls v) (sum_cls (limit f) e) L) in
      let low' : cls (limit f) ≤q cls (absolute q) = q_trans up (subst (λ (u : ℚ). cls q ≤q u) (sym (abs_cls q)) (bound_abs (cls q)).hi) in
      infinite_plus x (n.overflows (at_most_in (limit f) (absolute q) low')) (n.above_zero (λ z. (omega (arith, limit_positive f, q_trans up (at_most_out q (whole 0) z))))),
  λ k.
      (n.otherwise (λ g.
      let b = within_out q v e h in
      k (at_most_in (limit f) (plus (absolute v) e)
      (q_trans (subst (λ (u : ℚ). cls (limit f) ≤q u) (abs_cls q) (at_most_out (limit f) (absolute q) g))
      (subst (λ (u : ℚ). absq (cls q) ≤q u) (ap (λ (u : ℚ). u +q cls e) (sym (abs_cls v)) ∙ sym (sum_cls (absolute v) e))
      (abs_least (cls q) (absq (cls v) +q cls e)
      (subst (λ (u : ℚ). Bound u (absq (cls v) +q cls e)) (qring (x₀ ⊕ (x₁ ⊖ x₀)) x₁ refl (cls v ∷ cls q ∷ [])) (bound_add (bound_abs (cls v)) b)))))))
      ).held.is_finite,
)
  where
    limit_positive : (f : Format) → cls (limit f) ≤q cls (whole 0) → ⊥
    limit_positive binary32 h = (at_most_in (limit binary32) (whole 0) h).le
    limit_positive binary64 h = (at_most_in (limit binary64) (whole 0) h).le

    infinite_plus : (x : Float) → T (infinite x) → T (not (sign x)) → x ≡ inf false
    infinite_plus (inf false) t u = refl
    infinite_plus (inf true) t u = absurd u
    infinite_plus _ t _ = absurd t

-- ---- a multiply-add, rounded once or twice
eps_is : (f : Format) → eps f ≡ cls (dyadic 1 (prec f))
eps_is binary32 = is refl
eps_is binary64 = is refl

tiny_is : (f : Format) → tiny f ≡ cls (dyadic 1 (suc (low f)))
tiny_is binary32 = is refl
tiny_is binary64 = is refl

abbrev slip_f : Format → Fraction → Fraction
slip_f = Rattle.rounding.specs.Errors.slip

slip_cls : (f : Format) (P : Fraction) → slip f (cls P) ≡ cls (slip_f f P)
unfolding ◌+q◌ ◌*q◌
slip_cls f P = ap₂ (λ (e t : ℚ). cls P *q e +q t) (eps_is f) (tiny_is f)

pub multiply_add_error_lem : MultiplyAddError
unfolding ◌-q◌
multiply_add_error_lem f x y z r P M t fx fy fz law hp hm pt mt te =
    let p : Bound (val x *q val y) (cls P) = bound_of (times (value x) (value y)) P (val x *q val y) (product_is' x y) hp in
    let m : Bound (val x *q val y +q val z) (cls M) = bound_of (plus (times (value x) (value y)) (value z)) M (val x *q val y +q val z) (all_is x y z) hm in
    let w = fma_err f x y z r (cls P) (cls M) t fx fy fz law p m (subst (λ (u : ℚ). cls P ≤q u) (whole_cls (2 ^ t)) (at_most_out P (whole (2 ^ t)) pt))
    (subst (λ (u : ℚ). cls M +q slip f (cls P) ≤q u) (whole_cls (2 ^ t)) (subst (λ (u : ℚ). u ≤q cls (whole (2 ^ t))) (sum_cls M (slip_f f P) ∙ ap (λ (u : ℚ). cls M +q u) (sym (slip_cls f P))) (at_most_out (plus M (slip_f f P)) (whole (2 ^ t)) mt))) te in (
      w.is_finite,
      within_in (value r) (plus (times (value x) (value y)) (value z)) (plus (slip_f f P) (slip_f f (plus M (slip_f f P))))
          (subst (λ (u : ℚ). Bound (cls (value r) -q cls (plus (times (value x) (value y)) (value z))) u) (bound_is f P M)
          (subst (λ (u : ℚ). Bound (cls (value r) -q u) (slip₂ f (cls P) (cls M))) (sym (all_is x y z)) (subst (λ (u : ℚ). Bound (u -q (val x *q val y +q val z)) (slip₂ f (cls P) (cls M))) (val_value r) w.off))),
    )
  where
    product_is' : (x y : Float) → cls (times (value x) (value y)) ≡ val x *q val y
    product_is' x y = unfold val ◌*q◌ in refl

    all_is : (x y z : Float) → cls (plus (times (value x) (value y)) (value z)) ≡ val x *q val y +q val z
    all_is x y z = unfold val ◌*q◌ ◌+q◌ in refl

    bound_of : (a b : Fraction) (q : ℚ) → cls a ≡ q → absolute a ≼ b → Bound q (cls b)
    bound_of a b q e h = subst (λ (u : ℚ). Bound u (cls b)) e (bound_more (bound_abs (cls a)) (subst (λ (u : ℚ). u ≤q cls b) (abs_cls a) (at_most_out (absolute a) b h)))

    bound_is : (f : Format) (P M : Fraction) → slip₂ f (cls P) (cls M) ≡ cls (plus (slip_f f P) (slip_f f (plus M (slip_f f P))))
    bound_is f P M = ap₂ (λ (a b : ℚ). a +q b) (slip_cls f P) (ap (λ (u : ℚ). slip f (cls M +q u)) (slip_cls f P) ∙ ap (slip f) (sym (sum_cls M (slip_f f P))) ∙ slip_cls f (plus M (slip_f f P))) ∙ sym (sum_cls (slip_f f P) (slip_f f (plus M (slip_f f P))))

-- ---- exact both ways
pub exact_multiply_add_lem : ExactMultiplyAdd
exact_multiply_add_lem f x y z r w v fx fy fz law hw ew hv ev = go law
  where
    all_is : cls (plus (times (value x) (value y)) (value z)) ≡ val x *q val y +q val z
    all_is = unfold val ◌*q◌ ◌+q◌ in refl

    product : val x *q val y ≡ val w
    product = unfold val ◌*q◌ in is ew

    sum_held : val x *q val y +q val z ≡ val v
    sum_held = sym all_is ∙ is ev ∙ sym (val_value v)

    done : T (finite r) × (val r ≡ val x *q val y +q val z) → T (finite r) × Same (value r) (plus (times (value x) (value y)) (value z))
    done p = (p.0, same_number (value r) (plus (times (value x) (value y)) (value z)) (sym (val_value r) ∙ p.1 ∙ sym all_is))

    go : Permitted f x y z r → T (finite r) × Same (value r) (plus (times (value x) (value y)) (value z))
    go (once e) = done (still f r (val x *q val y +q val z) v (subst (λ (u : Float). Rounds f u (val x *q val y +q val z)) (sym e) (fused_rounds f x y z fx fy fz)) hv.is_finite hv.is_held sum_held)
    go (twice e) =
        let p = still f (mul f x y) (val x *q val y) w (mul_rounds f x y fx fy) hw.is_finite hw.is_held product in
        done (still f r (val x *q val y +q val z) v (subst (λ (u : ℚ). Rounds f r (u +q val z)) p.1 (subst (λ (u : Float). Rounds f u (val (mul f x y) +q val z)) (sym e) (add_rounds f (mul f x y) z p.0 fz))) hv.is_finite hv.is_held sum_held)

-- ---- multiples
mult_in : (k : ℕ) (q : Fraction) (u : ℚ) → cls q ≡ u → Errors.Multiple k q → Mult k u
mult_in k q u e m = record { num = m.0; how = sym e ∙ is m.1 }

mult_out : (k : ℕ) (q : Fraction) (u : ℚ) → cls q ≡ u → Mult k u → Errors.Multiple k q
mult_out k q u e m = (m.num, same_number q record { num = m.num; den = 2 ^ k; ok = pow_pos k } (e ∙ m.how))

zero_cls : (s : Bool) (a c : ℕ) (C : 0 < c) → a ≡ 0 → frac s a c C ≡ cls (whole 0)
zero_cls s a c C e = ap (λ (n : ℕ). frac s n c C) e ∙ go s
  where
    go : (s : Bool) → frac s 0 c C ≡ cls (whole 0)
    go false = frac_same false 0 c 0 1 C (zero-lt-suc 0) (none c)
      where
        none : (c : ℕ) → 0 * 1 ≡ 0 * c
        none c = omega arith
    go true = frac_same true 0 c 0 1 C (zero-lt-suc 0) (none c) ∙ is refl
      where
        none : (c : ℕ) → 0 * 1 ≡ 0 * c
        none c = omega arith

away_out : (k : ℕ) (q : Fraction) (u : ℚ) → cls q ≡ u → Away k u → Errors.Away k q
away_out k q u e w = elim w.far [
  | inl z ↦ inl (same_number q (whole 0) (e ∙ w.how ∙ zero_cls w.s w.a w.c w.ok z))
  | inr h ↦ inr (at_most_in (dyadic 1 k) (absolute q) (subst (λ (v : ℚ). dy 1 k ≤q v) (sym (abs_cls q ∙ ap absq (e ∙ w.how) ∙ abs_frac w.s w.a w.c w.ok)) (frac_le 1 (2 ^ k) w.a w.c (pow_pos k) w.ok (le_trans (le_of_eq (omega arith)) h))))
]

away_in : (k : ℕ) (q : Fraction) (u : ℚ) → cls q ≡ u → Errors.Away k q → Away k u
away_in k q u e w =
    let z = sign_size q.num in
    let what : ◌≡◌ {A = ℚ} (cls q) (frac z.s z.n q.den q.ok) = ap (λ (y : ℤ). fr y q.den q.ok) z.how in
    record {
      s = z.s;
      a = z.n;
      c = q.den;
      ok = q.ok;
      how = sym e ∙ what;
      far = elim w [
        | inl h ↦ inl (omega (arith, size_out z.s false z.n q.den 0 1 q.ok (zero-lt-suc 0) (sym what ∙ is h)))
        | inr h ↦ inr (le_trans (le_of_eq (omega arith)) (frac_le_out 1 (2 ^ k) z.n q.den (pow_pos k) q.ok (subst (λ (v : ℚ). dy 1 k ≤q v) (abs_cls q ∙ ap absq what ∙ abs_frac z.s z.n q.den q.ok) (at_most_out (dyadic 1 k) (absolute q) h))))
      ];
    }

pub multiples_stay_lem : MultiplesStay
multiples_stay_lem f q x k h n t =
    let r = nearest_result f q x n t in
    let y = rounded f q x r in
    let e : cls (value x) ≡ val y = sym (val_value x) ∙ sym (rounded_value f q x r) in (
      λ m. mult_out k (value x) (val y) e (round_mult f y (cls q) k h (rounded_rounds f q x r) (rounded_finite f q x r) (mult_in k q (cls q) refl m)),
      λ w. away_out k (value x) (val y) e (round_away f y (cls q) k h (rounded_rounds f q x r) (rounded_finite f q x r) (away_in k q (cls q) refl w)),
    )

pub multiples_away_lem : MultiplesAway
multiples_away_lem q k m = away_out k q (cls q) refl (mult_away (mult_in k q (cls q) refl m))
