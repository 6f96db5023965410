-- expm1 whole: its bands in order, each with what is promised of its figure.
use Rattle.std.proofs.Common.{◌≡◌, ℕ, ◌<◌, ◌≤◌, Bool, true, false, cond, not, ◌&&◌, T, ltb, leb, [], ◌∷◌, ℤ, sym, refl, ap, ◌∙◌, subst, inl, inr, lt_of_lt_of_le, le_of_lt, arith, lit≤, eqb→eq, ltb-true, ltb-false, leb-true, leb-false}
use Rattle.std.specs.Float.{Float, fin, binary32}
use Rattle.std.specs.Float.Ieee.{fits, is_nan, of_bits, to_bits}
use Rattle.std.specs.Float.Ieee.Bits.{is_false}
use Rattle.std.specs.Float.Ieee.Scale.{finite}
use Rattle.exact.specs.Exact.{expm1}
use Rattle.exact.proofs.Ring.{⊝, norm}
use Rattle.exact.proofs.Integer.{x₀}
use Rattle.exact.proofs.Rational.{ℚ, -q◌, ◌-q◌, ◌+q◌, qring}
use Rattle.exact.proofs.Order.{nn, ◌≤q◌, q_trans, q_neg}
use Rattle.exact.proofs.Bound.{Bound, bound_more}
use Rattle.exact.proofs.Compare.{dy}
use Rattle.rounding.specs.Values.{is_zero}
use Rattle.rounding.proofs.Value.{val, val_value}
use Rattle.rounding.proofs.Patterns.{sized, sized_mono}
use Rattle.arithmetic.specs.Arithmetic.{Arithmetic}
use Rattle.curves.specs.Steps.{pattern, magnitude, single}
use Rattle.curves.specs.Exp.{ExpReaches}
use Rattle.curves.specs.Expm1.{expm1_small_value, expm1_tables_value, expm1_value}
use Rattle.accuracy.specs.Figures.{Right, Agree, equal}
use Rattle.accuracy.specs.Theorems.{CurveRight, CurveAgrees, CurveSpecial, Proved}
use Rattle.accuracy.specs.Arguments.{Expm1Reaches, Expm1Arguments}
use Rattle.accuracy.proofs.Inputs.{positive, negative, signed_of, numberless, sized_bound, sized_size, zero_pattern}
use Rattle.accuracy.proofs.ExpSplit.{reaches_finite, table_arguments}
use Rattle.accuracy.proofs.ExpLimit.{first_over, expm1_infinite}
use Rattle.accuracy.proofs.Exp.{beside, infinity, over_top}
use Rattle.accuracy.proofs.Expm1Bands.{itself, seventeen, lowest}
use Rattle.accuracy.proofs.Expm1Polynomial.{Small, small_arguments, small_right, small_agree}
use Rattle.accuracy.proofs.Expm1Tables.{AwayFromZero, sixteenth, last_arguments, tables_right, tables_agree}

-- ---- the bands by the pattern of x
pub data Band (x : Float) : Type 0 where
  self : magnitude x < 0x3300_0000 → ((a : Arithmetic) → expm1_value a x ≡ x) → Band x
  minus_one : 0xc18a_a123 ≤ pattern x → ((a : Arithmetic) → expm1_value a x ≡ single 0xbf80_0000) → Band x
  infinite : pattern x < 0x8000_0000 → 0x42b2_0000 ≤ pattern x → ((a : Arithmetic) → expm1_value a x ≡ single 0x7f80_0000) → Band x
  small : Expm1Reaches x → magnitude x < 0x3d80_0000 → ((a : Arithmetic) → expm1_value a x ≡ expm1_small_value a x) → Band x
  tables : Expm1Reaches x → 0x3d80_0000 ≤ magnitude x → ((a : Arithmetic) → expm1_value a x ≡ expm1_tables_value a x) → Band x

-- five tests in order
abbrev choose : Arithmetic → Float → Bool → Bool → Bool → Bool → Bool → Float
choose a x p q r s u = cond p (single 0x7fc0_0000) (cond q x (cond r (single 0xbf80_0000) (cond s (single 0x7f80_0000) (cond u (expm1_small_value a x) (expm1_tables_value a x)))))

taken : (a : Arithmetic) (x : Float) (p q r s u : Bool) → is_nan x ≡ p → ltb (magnitude x) 0x3300_0000 ≡ q → leb 0xc18a_a123 (pattern x) ≡ r → ltb (pattern x) 0x8000_0000 && leb 0x42b2_0000 (pattern x) ≡ s → ltb (magnitude x) 0x3d80_0000 ≡ u → expm1_value a x ≡ choose a x p q r s u
taken a x p q r s u e f g h i =
    ap (λ (b : Bool). choose a x b (ltb (magnitude x) 0x3300_0000) (leb 0xc18a_a123 (pattern x)) (ltb (pattern x) 0x8000_0000 && leb 0x42b2_0000 (pattern x)) (ltb (magnitude x) 0x3d80_0000)) e
    ∙ ap (λ (b : Bool). choose a x p b (leb 0xc18a_a123 (pattern x)) (ltb (pattern x) 0x8000_0000 && leb 0x42b2_0000 (pattern x)) (ltb (magnitude x) 0x3d80_0000)) f
    ∙ ap (λ (b : Bool). choose a x p q b (ltb (pattern x) 0x8000_0000 && leb 0x42b2_0000 (pattern x)) (ltb (magnitude x) 0x3d80_0000)) g
    ∙ ap (λ (b : Bool). choose a x p q r b (ltb (magnitude x) 0x3d80_0000)) h
    ∙ ap (λ (b : Bool). choose a x p q r s b) i

band : (x : Float) → T (not (is_nan x)) → Band x
band x t = go (ltb (magnitude x) 0x3300_0000) (leb 0xc18a_a123 (pattern x)) (ltb (pattern x) 0x8000_0000) (leb 0x42b2_0000 (pattern x)) refl refl refl refl
  where
    n : is_nan x ≡ false
    n = is_false (is_nan x) t

    computed : Expm1Reaches x → (u : Bool) → ltb (magnitude x) 0x3d80_0000 ≡ u → ((a : Arithmetic) → expm1_value a x ≡ cond u (expm1_small_value a x) (expm1_tables_value a x)) → Band x
    computed r true i v = small r (ltb-true _ _ i) v
    computed r false i v = tables r (ltb-false _ _ i) v

    go : (q r s u : Bool) → ltb (magnitude x) 0x3300_0000 ≡ q → leb 0xc18a_a123 (pattern x) ≡ r → ltb (pattern x) 0x8000_0000 ≡ s → leb 0x42b2_0000 (pattern x) ≡ u → Band x
    go true r s u e f g h = self (ltb-true _ _ e) (λ a. simp (n, e))
    go false true s u e f g h = minus_one (leb-true _ _ f) (λ a. simp (n, e, f))
    go false false true true e f g h = infinite (ltb-true _ _ g) (leb-true _ _ h) (λ a. simp (n, e, f, g, h))
    go false false true false e f g h = computed record { number = t; past_self = ltb-false _ _ e; limits = inl (leb-false _ _ h) } _ refl (λ a. simp (n, e, f, g, h))
    go false false false u e f g h = computed record { number = t; past_self = ltb-false _ _ e; limits = inr (ltb-false _ _ g, leb-false _ _ f) } _ refl (λ a. simp (n, e, f, g, h))

-- what reaches the steps of expm1 reaches those of exp
pub reaches : (x : Float) → Expm1Reaches x → ExpReaches x
reaches x r = record {
  number = r.number;
  past_one = lt_of_lt_of_le (lit≤ tt) r.past_self;
  limits = elim r.limits [
    | inl h ↦ inl h
    | inr h ↦ inr (h.0, lt_of_lt_of_le h.1 (lit≤ tt))
  ];
}

-- ---- the values of the bands' ends
ends : (sized 0x3300_0000 ≤q dy 1 25) × (seventeen ≤q sized 0x418a_a123) × (dy 1 25 ≤q sized 0x3300_0000) × (sized 0x3d80_0000 ≤q dy 1 4) × (sixteenth ≤q sized 0x3d80_0000)
unfolding nn ◌-q◌ ◌+q◌ -q◌
ends = (record { le = tt }, record { le = tt }, record { le = tt }, record { le = tt }, record { le = tt })

module _ (x : Float) (w : T (fits binary32 x)) (t : T (finite x)) where
  tiny : magnitude x < 0x3300_0000 → Bound (val x) (dy 1 25)
  tiny h = bound_more (sized_bound x w t) (q_trans (sized_mono (magnitude x) 0x3300_0000 (le_of_lt h)) ends.0)

  low : 0xc18a_a123 ≤ pattern x → seventeen ≤q -q◌ (val x)
  unfolding norm
  low h = elim (signed_of x w t) [
    | positive l m v ↦ absurd (omega arith)
    | negative l m v ↦ subst (λ (u : ℚ). seventeen ≤q u) (sym (ap -q◌ v ∙ qring (⊝ (⊝ x₀)) x₀ refl (sized (magnitude x) ∷ []))) (q_trans ends.1 (sized_mono 0x418a_a123 (magnitude x) (omega arith)))
  ]

  pub small_size : 0x3300_0000 ≤ magnitude x → magnitude x < 0x3d80_0000 → Small x
  small_size l h = record {
    is_finite = t;
    is_fit = w;
    least = subst (λ (u : ℚ). dy 1 25 ≤q u) (sym (sized_size x w t)) (q_trans ends.2 (sized_mono 0x3300_0000 (magnitude x) l));
    most = subst (λ (u : ℚ). u ≤q dy 1 4) (sym (sized_size x w t)) (q_trans (sized_mono (magnitude x) 0x3d80_0000 (le_of_lt h)) ends.3);
  }

  pub away : 0x3d80_0000 ≤ magnitude x → AwayFromZero (val x)
  away h = elim (signed_of x w t) [
    | positive l m v ↦ inl (subst (λ (u : ℚ). sixteenth ≤q u) (sym (v ∙ ap (λ (n : ℕ). sized n) (sym m))) (q_trans ends.4 (sized_mono 0x3d80_0000 (magnitude x) h)))
    | negative l m v ↦ inr (subst (λ (u : ℚ). u ≤q -q◌ sixteenth) (sym v) (q_neg (q_trans ends.4 (sized_mono 0x3d80_0000 (magnitude x) h))))
  ]

-- ---- what is promised
pub expm1_right : CurveRight expm1
expm1_right a w x fx t = go (band x (numberless x t))
  where
    go : Band x → Right expm1 x (expm1_value a x)
    go (self h e) = subst (λ (y : Float). Right expm1 x y) (sym (e a)) (itself x t fx (tiny x fx t h))
    go (minus_one h e) = subst (λ (y : Float). Right expm1 x y) (sym (e a)) (lowest x (low x fx t h))
    go (infinite l h e) = expm1_infinite x (expm1_value a x) (e a ∙ infinity) (subst (λ (u : ℚ). first_over ≤q u) (val_value x) (over_top x fx t l h))
    go (small r h e) = subst (λ (y : Float). Right expm1 x y) (sym (e a)) (small_right a w x (small_size x fx t r.past_self h))
    go (tables r h e) = subst (λ (y : Float). Right expm1 x y) (sym (e a)) (tables_right a w x fx (reaches x r) (beside x fx t) (away x fx t h))

pub expm1_agrees_lem : CurveAgrees expm1
expm1_agrees_lem a b w u x fx t = go (band x (numberless x t))
  where
    go : Band x → Agree expm1 x (expm1_value a x) (expm1_value b x)
    go (self h e) = equal (e a ∙ sym (e b))
    go (minus_one h e) = equal (e a ∙ sym (e b))
    go (infinite l h e) = equal (e a ∙ sym (e b))
    go (small r h e) = subst (λ (y : Float). Agree expm1 x y (expm1_value b x)) (sym (e a)) (subst (λ (y : Float). Agree expm1 x (expm1_small_value a x) y) (sym (e b)) (small_agree a b w u x (small_size x fx t r.past_self h)))
    go (tables r h e) = subst (λ (y : Float). Agree expm1 x y (expm1_value b x)) (sym (e a)) (subst (λ (y : Float). Agree expm1 x (expm1_tables_value a x) y) (sym (e b)) (tables_agree a b w u x fx (reaches x r) (beside x fx t) (away x fx t h)))

at_itself : (a : Arithmetic) (s : Bool) (m : ℕ) (e : ℤ) → m ≡ 0 → expm1_value a (fin s m e) ≡ fin s m e
unfolding is_nan
at_itself a s m e z = simp (zero_pattern s m e z)

pub of_zero : (a : Arithmetic) (x : Float) → T (is_zero x) → expm1_value a x ≡ x
of_zero a (fin s m e) t = at_itself a s m e (eqb→eq m 0 t)
of_zero _ _ t = absurd t

pub expm1_special : CurveSpecial expm1
unfolding is_nan of_bits to_bits
expm1_special a x = record {
  of_nan = λ e. ap (expm1_value a) e;
  of_infinity = λ e. ap (expm1_value a) e;
  of_minus_infinity = λ e. ap (expm1_value a) e;
  of_zero = of_zero a x;
}

pub expm1_proved : Proved expm1
expm1_proved = record { right = expm1_right; exact = λ a w x f t. of_zero a x t; agrees = expm1_agrees_lem; special = expm1_special }

-- ---- the arguments
pub expm1_arguments : Expm1Arguments
expm1_arguments a w x fx r =
    let q = reaches x r in
    (λ h. small_arguments a w x (small_size x fx (reaches_finite x q) r.past_self h), λ h. (table_arguments a w x fx q, last_arguments a w x fx q))
