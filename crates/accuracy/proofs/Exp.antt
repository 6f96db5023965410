-- exp whole: its bands in order, each with what is promised of its figure.
use Rattle.std.proofs.Common.{◌≡◌, ℕ, ◌<◌, ◌≤◌, Bool, true, false, cond, not, ◌&&◌, T, ltb, leb, [], ◌∷◌, ℤ, pos, sym, refl, ap, ◌∙◌, subst, inl, inr, zero-le, arith, eqb→eq, ltb-true, ltb-false, leb-true, leb-false}
use Rattle.std.specs.Float.{Float, inf, fin, binary32}
use Rattle.std.specs.Float.Ieee.{fits, is_nan, of_bits, to_bits}
use Rattle.std.specs.Float.Ieee.Bits.{is_false}
use Rattle.std.specs.Float.Ieee.Scale.{finite}
use Rattle.std.proofs.lemmas.Bool.{cases_lt}
use Rattle.exact.specs.Exact.{exp}
use Rattle.exact.proofs.Ring.{⊝, norm}
use Rattle.exact.proofs.Integer.{x₀}
use Rattle.exact.proofs.Rational.{ℚ, -q◌, ◌-q◌, ◌+q◌, qring}
use Rattle.exact.proofs.Order.{nn, ◌≤q◌, q_trans, q_neg}
use Rattle.exact.proofs.Bound.{Bound, bound_more}
use Rattle.exact.proofs.Compare.{dy}
use Rattle.rounding.specs.Values.{is_zero}
use Rattle.rounding.proofs.Value.{val, val_value}
use Rattle.rounding.proofs.Patterns.{sized, sized_mono}
use Rattle.arithmetic.specs.Arithmetic.{Arithmetic}
use Rattle.curves.specs.Steps.{pattern, magnitude, single}
use Rattle.curves.specs.Exp.{exp_tables_value, exp_value, ExpReaches}
use Rattle.accuracy.specs.Figures.{Right, Agree, equal}
use Rattle.accuracy.specs.Theorems.{CurveRight, CurveAgrees, CurveSpecial, Proved}
use Rattle.accuracy.proofs.Inputs.{positive, negative, signed_of, numberless, sized_bound, zero_pattern}
use Rattle.accuracy.proofs.ExpLimit.{last_under, first_over, Beside, exp_infinite}
use Rattle.accuracy.proofs.ExpBands.{near_one, zero_from, lowest}
use Rattle.accuracy.proofs.ExpTables.{tables_right, tables_agree}

-- ---- the bands by the pattern of x
pub data Band (x : Float) : Type 0 where
  one : magnitude x ≤ 0x3280_0000 → ((a : Arithmetic) → exp_value a x ≡ single 0x3f80_0000) → Band x
  zero : 0xc2cf_f1b5 ≤ pattern x → ((a : Arithmetic) → exp_value a x ≡ single 0x0000_0000) → Band x
  infinite : pattern x < 0x8000_0000 → 0x42b2_0000 ≤ pattern x → ((a : Arithmetic) → exp_value a x ≡ single 0x7f80_0000) → Band x
  tables : ExpReaches x → ((a : Arithmetic) → exp_value a x ≡ exp_tables_value a x) → Band x

-- four tests in order
abbrev choose : Arithmetic → Float → Bool → Bool → Bool → Bool → Float
choose a x p q r s = cond p (single 0x7fc0_0000) (cond q (single 0x3f80_0000) (cond r (single 0x0000_0000) (cond s (single 0x7f80_0000) (exp_tables_value a x))))

taken : (a : Arithmetic) (x : Float) (p q r s : Bool) → is_nan x ≡ p → leb (magnitude x) 0x3280_0000 ≡ q → leb 0xc2cf_f1b5 (pattern x) ≡ r → ltb (pattern x) 0x8000_0000 && leb 0x42b2_0000 (pattern x) ≡ s → exp_value a x ≡ choose a x p q r s
taken a x p q r s e f g h =
    ap (λ (b : Bool). choose a x b (leb (magnitude x) 0x3280_0000) (leb 0xc2cf_f1b5 (pattern x)) (ltb (pattern x) 0x8000_0000 && leb 0x42b2_0000 (pattern x))) e
    ∙ ap (λ (b : Bool). choose a x p b (leb 0xc2cf_f1b5 (pattern x)) (ltb (pattern x) 0x8000_0000 && leb 0x42b2_0000 (pattern x))) f
    ∙ ap (λ (b : Bool). choose a x p q b (ltb (pattern x) 0x8000_0000 && leb 0x42b2_0000 (pattern x))) g
    ∙ ap (λ (b : Bool). choose a x p q r b) h

band : (x : Float) → T (not (is_nan x)) → Band x
band x t = go (leb (magnitude x) 0x3280_0000) (leb 0xc2cf_f1b5 (pattern x)) (ltb (pattern x) 0x8000_0000) (leb 0x42b2_0000 (pattern x)) refl refl refl refl
  where
    n : is_nan x ≡ false
    n = is_false (is_nan x) t

    go : (q r s u : Bool) → leb (magnitude x) 0x3280_0000 ≡ q → leb 0xc2cf_f1b5 (pattern x) ≡ r → ltb (pattern x) 0x8000_0000 ≡ s → leb 0x42b2_0000 (pattern x) ≡ u → Band x
    go true r s u e f g h = one (leb-true _ _ e) (λ a. simp (n, e))
    go false true s u e f g h = zero (leb-true _ _ f) (λ a. simp (n, e, f))
    go false false true true e f g h = infinite (ltb-true _ _ g) (leb-true _ _ h) (λ a. simp (n, e, f, g, h))
    go false false true false e f g h = tables record { number = t; past_one = leb-false _ _ e; limits = inl (leb-false _ _ h) } (λ a. simp (n, e, f, g, h))
    go false false false u e f g h = tables record { number = t; past_one = leb-false _ _ e; limits = inr (ltb-false _ _ g, leb-false _ _ f) } (λ a. simp (n, e, f, g, h))

-- ---- the values of the bands' ends
ends : (sized 0x3280_0000 ≤q dy 1 25) × (zero_from ≤q sized 0x42cf_f1b5) × (first_over ≤q sized 0x42b2_0000) × (sized 0x42b1_7217 ≤q last_under) × (first_over ≤q sized 0x42b1_7218) × (-q◌ (sized 0) ≤q last_under)
unfolding nn ◌-q◌ ◌+q◌ -q◌
ends = (record { le = tt }, record { le = tt }, record { le = tt }, record { le = tt }, record { le = tt }, record { le = tt })

module _ (x : Float) (w : T (fits binary32 x)) (t : T (finite x)) where
  small : magnitude x ≤ 0x3280_0000 → Bound (val x) (dy 1 25)
  small h = bound_more (sized_bound x w t) (q_trans (sized_mono (magnitude x) 0x3280_0000 h) ends.0)

  low : 0xc2cf_f1b5 ≤ pattern x → zero_from ≤q -q◌ (val x)
  unfolding norm
  low h = elim (signed_of x w t) [
    | positive l m v ↦ absurd (omega arith)
    | negative l m v ↦ subst (λ (u : ℚ). zero_from ≤q u) (sym (ap -q◌ v ∙ twice (sized (magnitude x)))) (q_trans ends.1 (sized_mono 0x42cf_f1b5 (magnitude x) (omega arith)))
  ]
    where
      twice : (a : ℚ) → -q◌ (-q◌ a) ≡ a
      twice a = qring (⊝ (⊝ x₀)) x₀ refl (a ∷ [])

  pub over_top : pattern x < 0x8000_0000 → 0x42b2_0000 ≤ pattern x → first_over ≤q val x
  over_top l h = elim (signed_of x w t) [
    | positive k m v ↦ subst (λ (u : ℚ). first_over ≤q u) (sym v) (q_trans ends.2 (sized_mono 0x42b2_0000 (pattern x) h))
    | negative k m v ↦ absurd (omega arith)
  ]

  pub beside : Beside (val x)
  beside = elim (signed_of x w t) [
    | positive k m v ↦ elim (cases_lt (pattern x) 0x42b1_7218) [
      | inl l ↦ inl (subst (λ (u : ℚ). u ≤q last_under) (sym v) (q_trans (sized_mono (pattern x) 0x42b1_7217 (omega arith)) ends.3))
      | inr h ↦ inr (subst (λ (u : ℚ). first_over ≤q u) (sym v) (q_trans ends.4 (sized_mono 0x42b1_7218 (pattern x) h)))
    ]
    | negative k m v ↦ inl (subst (λ (u : ℚ). u ≤q last_under) (sym v) (q_trans (q_neg (sized_mono 0 (magnitude x) (zero-le))) ends.5))
  ]

pub infinity : single 0x7f80_0000 ≡ inf false
unfolding of_bits
infinity = refl

-- ---- what is promised
pub exp_right : CurveRight exp
exp_right a w x fx t = go (band x (numberless x t))
  where
    go : Band x → Right exp x (exp_value a x)
    go (one h e) = subst (λ (y : Float). Right exp x y) (sym (e a)) (near_one x (small x fx t h))
    go (zero h e) = subst (λ (y : Float). Right exp x y) (sym (e a)) (lowest x (low x fx t h))
    go (infinite l h e) = exp_infinite x (exp_value a x) (e a ∙ infinity) (subst (λ (u : ℚ). first_over ≤q u) (val_value x) (over_top x fx t l h))
    go (tables r e) = subst (λ (y : Float). Right exp x y) (sym (e a)) (tables_right a w x fx r (beside x fx t))

pub exp_agrees_lem : CurveAgrees exp
exp_agrees_lem a b w u x fx t = go (band x (numberless x t))
  where
    go : Band x → Agree exp x (exp_value a x) (exp_value b x)
    go (one h e) = equal (e a ∙ sym (e b))
    go (zero h e) = equal (e a ∙ sym (e b))
    go (infinite l h e) = equal (e a ∙ sym (e b))
    go (tables r e) = subst (λ (y : Float). Agree exp x y (exp_value b x)) (sym (e a)) (subst (λ (y : Float). Agree exp x (exp_tables_value a x) y) (sym (e b)) (tables_agree a b w u x fx r (beside x fx t)))

at_one : (a : Arithmetic) (s : Bool) (m : ℕ) (e : ℤ) → m ≡ 0 → exp_value a (fin s m e) ≡ fin false 1 (pos 0)
unfolding is_nan of_bits
at_one a s m e z = simp (zero_pattern s m e z)

pub of_zero : (a : Arithmetic) (x : Float) → T (is_zero x) → exp_value a x ≡ fin false 1 (pos 0)
of_zero a (fin s m e) t = at_one a s m e (eqb→eq m 0 t)
of_zero _ _ t = absurd t

pub exp_special : CurveSpecial exp
unfolding is_nan of_bits to_bits
exp_special a x = record {
  of_nan = λ e. ap (exp_value a) e;
  of_infinity = λ e. ap (exp_value a) e;
  of_minus_infinity = λ e. ap (exp_value a) e;
  of_zero = of_zero a x;
}

pub exp_proved : Proved exp
exp_proved = record { right = exp_right; exact = λ a w x f t. of_zero a x t; agrees = exp_agrees_lem; special = exp_special }
