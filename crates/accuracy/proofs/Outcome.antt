-- From the f64 z that is narrowed to what is promised of the figure: z within 2 ^ -38 of its own size of the exact value makes the figure right, and any two such figures agree.
use Rattle.std.proofs.Common.{◌≡◌, ℕ, ◌+◌, ◌-◌, ◌*◌, ◌^◌, ◌≤◌, Bool, true, false, not, T, [], ◌∷◌, pos, sym, refl, ap, ◌∙◌, subst, zero-lt-suc, arith, eqb→eq, pow_pos}
use Rattle.std.specs.Float.{Float, inf, fin, binary32, round_to_format}
use Rattle.std.specs.Float.Ieee.{up, down, fits}
use Rattle.std.specs.Float.Ieee.Exact.{HasValue}
use Rattle.std.specs.Float.Ieee.Fits.{round-fits}
use Rattle.std.specs.Float.Ieee.Scale.{finite}
use std.Quotient.{cls}
use Rattle.exact.specs.Fraction.{Fraction, whole, times}
use Rattle.exact.specs.Exponential.{within, at_least, at_most}
use Rattle.exact.specs.Exact.{Function, AtLeast, AtMost}
use Rattle.exact.proofs.Ring.{◌⊕◌, ◌⊗◌, ⊝, norm}
use Rattle.exact.proofs.Integer.{x₀, x₁, x₂}
use Rattle.exact.proofs.Rational.{ℚ, is, ◌+q◌, ◌*q◌, -q◌, ◌-q◌, ofℤ, qring}
use Rattle.exact.proofs.Order.{nn, ◌≤q◌, q_refl, q_trans, q_add, q_neg}
use Rattle.exact.proofs.Bound.{ofℕ, absq, bound_abs, nn_le, le_nn, Bound, bound_nn, bound_more, bound_turn, mul_right}
use Rattle.exact.proofs.Compare.{product_cls, whole_cls, nn_dy, dy}
use Rattle.exact.proofs.Claims as Claims
use Rattle.exact.proofs.Claims.{holds}
use Rattle.exact.proofs.Laws.{ordered}
use Rattle.rounding.specs.Values.{value, sign, is_zero}
use Rattle.rounding.specs.Units.{unit}
use Rattle.rounding.specs.Nearest.{limit}
use Rattle.rounding.specs.Errors.{half, middle, nearer_zero}
use Rattle.rounding.proofs.Fractions.{frac_le_out}
use Rattle.rounding.proofs.Value.{val, val_value}
use Rattle.rounding.proofs.Limit.{limitℕ, above_limit_relative, below_limit_relative}
use Rattle.rounding.proofs.Distance.{abs_nn, at_most_out}
use Rattle.rounding.proofs.NearestResult.{one_float}
use Rattle.rounding.proofs.Figure.{figure_nearest, figure_infinite, figure_finite, figure_near, figure_relative}
use Rattle.rounding.proofs.Agreement as Agreement
use Rattle.accuracy.specs.Figures.{small_part, half_and_part, Right, overflows, stays, Agree, equal, beside}

-- the sums of f at x, with a place of the bracket where f has a base
abbrev pub sum : Function → Fraction → ℕ → ℕ → ℚ
sum f x j n = Claims.value f (cls x) j n

-- z is finite, and within e of its own size of the exact value of f at x
pub record Near (f : Function) (x : Fraction) (e : ℚ) (z : Float) : Type 0 where
  pub is_finite : T (finite z)
  pub start : ℕ → ℕ
  pub off : (j n : ℕ) → start j ≤ n → Bound (val z -q sum f x j n) (e *q absq (val z))

-- as near as the figures need it
abbrev pub close : ℚ
close = dy 1 38

size_nn : (a : ℚ) → T (nn (absq a))
size_nn a = bound_nn (bound_abs a)

pub nearer : {f : Function} {x : Fraction} {e : ℚ} (e' : ℚ) {z : Float} → e ≤q e' → Near f x e z → Near f x e' z
nearer e' {z} h w = record { is_finite = w.is_finite; start = w.start; off = λ j n l. bound_more (w.off j n l) (mul_right (absq (val z)) (size_nn (val z)) h) }

-- the same for a z above 0, where z is its own size
pub near_positive : (f : Function) (x : Fraction) (e : ℚ) (z : Float) → T (finite z) → T (nn (val z)) → (n₀ : ℕ → ℕ) → ((j n : ℕ) → n₀ j ≤ n → Bound (val z -q sum f x j n) (e *q val z)) → Near f x e z
near_positive f x e z t p n₀ h = record { is_finite = t; start = n₀; off = λ j n l. subst (λ (u : ℚ). Bound (val z -q sum f x j n) (e *q u)) (sym (abs_nn (val z) p)) (h j n l) }

-- ---- the limit: 2 ^ 128 - 2 ^ 103
-- the exact value is a unit of the largest figures, 2 ^ 104, below it, or above it
pub record Under (f : Function) (x : Fraction) : Type 0 where
  pub start : ℕ → ℕ
  pub below : (j n : ℕ) → start j ≤ n → sum f x j n ≤q ofℕ (2 ^ 128 - 2 ^ 103 - 2 ^ 104)

pub record Over (f : Function) (x : Fraction) : Type 0 where
  pub start : ℕ → ℕ
  pub above : (j n : ℕ) → start j ≤ n → ofℕ (2 ^ 128 - 2 ^ 103 + 2 ^ 104) ≤q sum f x j n

pub not_at_least : {f : Function} {x : Fraction} → Under f x → AtLeast f x (limit binary32) → ⊥
not_at_least {f} {x} u a =
    let m : AtMost f x (whole (2 ^ 128 - 2 ^ 103 - 2 ^ 104)) =
    holds f (at_most (whole (2 ^ 128 - 2 ^ 103 - 2 ^ 104))) x u.start (λ j n l. subst (λ (y : ℚ). sum f x j n ≤q y) (sym (whole_cls (2 ^ 128 - 2 ^ 103 - 2 ^ 104))) (u.below j n l)) in
    (ordered f x (limit binary32) (whole (2 ^ 128 - 2 ^ 103 - 2 ^ 104)) a m).le

-- what the sums are at least, the exact value is at least
pub at_least_limit : (f : Function) (x : Fraction) (n₀ : ℕ → ℕ) → ((j n : ℕ) → n₀ j ≤ n → ofℕ (2 ^ 128 - 2 ^ 103) ≤q sum f x j n) → AtLeast f x (limit binary32)
at_least_limit f x n₀ h = holds f (at_least (limit binary32)) x n₀ (λ j n l. subst (λ (y : ℚ). y ≤q sum f x j n) (sym (whole_cls (2 ^ 128 - 2 ^ 103))) (h j n l))

nums : T (nn (ofℤ (pos 1) -q close)) × T (nn close) × (ofℕ (2 ^ 128 - 2 ^ 103) +q close *q ofℕ (2 ^ 128 - 2 ^ 103) ≤q ofℕ (2 ^ 128 - 2 ^ 103 + 2 ^ 104)) × (ofℕ (2 ^ 128 - 2 ^ 103) ≤q ofℕ (2 ^ 128 - 2 ^ 103 + 2 ^ 104))
    × (close *q (ofℕ (2 ^ 24) +q dy 1 1) ≤q dy 1 12)
unfolding nn ◌-q◌ ◌+q◌ -q◌ ◌*q◌ ofℕ ofℤ
nums = (tt, tt, record { le = tt }, record { le = tt }, record { le = tt })

too_large : (ofℤ (pos 1) -q close) *q ofℕ (2 ^ 128 - 2 ^ 103) ≤q ofℕ (2 ^ 128 - 2 ^ 103 - 2 ^ 104) → ⊥
unfolding nn ◌-q◌ ◌+q◌ -q◌ ◌*q◌ ofℕ ofℤ
too_large h = h.le

own_size : {f : Function} {x : Fraction} {e : ℚ} (z : Float) → T (nn (val z)) → (w : Near f x e z) (j n : ℕ) → w.start j ≤ n → Bound (val z -q sum f x j n) (e *q val z)
own_size {f} {x} {e} z p w j n l = subst (λ (u : ℚ). Bound (val z -q sum f x j n) (e *q u)) (abs_nn (val z) p) (w.off j n l)

-- a z of at least 0 then stays below the limit, or reaches it
pub below_limit : (f : Function) (x : Fraction) (z : Float) → T (nn (val z)) → Near f x close z → Under f x → ofℕ (limitℕ binary32) ≤q absq (val z) → ⊥
below_limit f x z p w u h =
    let n = w.start 0 + u.start 0 in
    too_large (q_trans (below_limit_relative close nums.0 (own_size z p w 0 n (omega arith)) (subst (λ (y : ℚ). ofℕ (limitℕ binary32) ≤q y) (abs_nn (val z) p) h)) (u.below 0 n (omega arith)))

pub reaches_limit : (f : Function) (x : Fraction) (z : Float) → T (nn (val z)) → Near f x close z → Over f x → ofℕ (limitℕ binary32) ≤q val z
reaches_limit f x z p w u =
    let n = w.start 0 + u.start 0 in
    above_limit_relative close nums.1 (own_size z p w 0 n (omega arith)) (q_trans nums.2 (u.above 0 n (omega arith)))

-- ---- right
part_is : (u : Fraction) → cls (half u) +q dy 1 12 *q cls u ≡ cls (times half_and_part u)
unfolding norm
part_is u =
    ap (λ (y : ℚ). y +q dy 1 12 *q cls u) (half_is u) ∙ qring (x₀ ⊗ x₂ ⊕ x₁ ⊗ x₂) ((x₀ ⊕ x₁) ⊗ x₂) refl (dy 1 1 ∷ dy 1 12 ∷ cls u ∷ []) ∙ ap (λ (y : ℚ). y *q cls u) sum_is
    ∙ sym (product_cls half_and_part u)
  where
    half_is : (u : Fraction) → cls (half u) ≡ dy 1 1 *q cls u
    half_is u = unfold ◌*q◌ in is refl

    sum_is : dy 1 1 +q dy 1 12 ≡ cls half_and_part
    sum_is = unfold ◌+q◌ in is refl

-- a finite y within half a unit and 1 / 4096 of every sum from some place on
pub right_finite : (f : Function) (x y : Float) → T (finite y) → Under f (value x) → (n₀ : ℕ → ℕ) → ((j n : ℕ) → n₀ j ≤ n → Bound (val y -q sum f (value x) j n) (cls (times half_and_part (unit binary32 y)))) → Right f x y
right_finite f x y t u n₀ h =
    stays t (not_at_least u)
    (holds f (within (value y) (times half_and_part (unit binary32 y))) (value x) n₀ (λ j n l. subst (λ (q : ℚ). Bound (q -q sum f (value x) j n) (cls (times half_and_part (unit binary32 y)))) (val_value y) (h j n l)))

pub right_infinite : (f : Function) (x y : Float) → y ≡ inf false → (n₀ : ℕ → ℕ) → ((j n : ℕ) → n₀ j ≤ n → ofℕ (2 ^ 128 - 2 ^ 103) ≤q sum f (value x) j n) → Right f x y
right_infinite f x y e n₀ h = overflows e (at_least_limit f (value x) n₀ h)

-- the figure of a z that is not at the limit, of either sign
pub right_near : (f : Function) (x z : Float) → Near f (value x) close z → (ofℕ (limitℕ binary32) ≤q absq (val z) → ⊥) → Under f (value x) → Right f x (round_to_format binary32 z)
right_near f x z w low u =
    let y = round_to_format binary32 z in
    let fy = figure_finite binary32 z w.is_finite low in
    right_finite f x y fy u w.start (λ j n l.
    subst (λ (q : ℚ). Bound (val y -q sum f (value x) j n) q) (part_is (unit binary32 y))
    (bound_more (figure_near binary32 z w.is_finite fy (sum f (value x) j n) (close *q absq (val z)) (w.off j n l))
    (q_add (q_refl (cls (half (unit binary32 y)))) (figure_relative binary32 z w.is_finite fy close (dy 1 12) nums.1 nums.4))))

pub right_over : (f : Function) (x z : Float) → T (nn (val z)) → Near f (value x) close z → Over f (value x) → Right f x (round_to_format binary32 z)
right_over f x z p w o = right_infinite f x (round_to_format binary32 z) (figure_infinite binary32 z w.is_finite (reaches_limit f (value x) z p w o)) o.start (λ j n l. q_trans nums.3 (o.above j n l))

-- ---- agreement
small : Agreement.SmallBeside binary32 close (dy 1 12)
unfolding nn ◌-q◌ ◌+q◌ -q◌ ◌*q◌ ofℕ ofℤ
small = record { nn_k = tt; half_k = record { le = tt }; little = record { le = tt }; less = λ h. h.le }

nearest_fits : (z : Float) → T (finite z) → T (fits binary32 (round_to_format binary32 z))
unfolding round_to_format
nearest_fits (fin s m e) t = round-fits binary32 s (m * up e) (down e)
nearest_fits _ t = absurd t

zero_has : (y : Float) (s : Bool) → T (is_zero y) → sign y ≡ s → HasValue y s 0 (2 ^ 149)
zero_has (fin u m d) s t e = (e, ap (λ (k : ℕ). k * up d * 2 ^ 149) (eqb→eq m 0 t) ∙ omega arith)
zero_has _ _ t _ = absurd t

part_units : (u : Fraction) → dy 1 12 *q cls u ≡ cls (times small_part u)
part_units u = ap (λ (y : ℚ). y *q cls u) twelve ∙ sym (product_cls small_part u)
  where
    twelve : dy 1 12 ≡ cls small_part
    twelve = is refl

-- two figures that are finite and of one sign
pub agree_near : (f : Function) (x z w : Float) → Near f (value x) close z → Near f (value x) close w → (ofℕ (limitℕ binary32) ≤q absq (val z) → ⊥) → (ofℕ (limitℕ binary32) ≤q absq (val w) → ⊥)
    → sign (round_to_format binary32 z) ≡ sign (round_to_format binary32 w) → Agree f x (round_to_format binary32 z) (round_to_format binary32 w)
agree_near f x z w a b low low' e =
    let fz = a.is_finite in
    let fw = b.is_finite in
    let n = a.start 0 + b.start 0 in
    go (Agreement.agree binary32 z w close (dy 1 12) small fz fw (figure_finite binary32 z fz low) (figure_finite binary32 w fw low') (sum f (value x) 0 n)
    (a.off 0 n (omega arith)) (b.off 0 n (omega arith)))
  where
    go : Agreement.Agreeing binary32 (val z) (val w) close (dy 1 12) (round_to_format binary32 z) (round_to_format binary32 w) → Agree f x (round_to_format binary32 z) (round_to_format binary32 w)
    go (Agreement.equal_agree q) = equal q
    go (Agreement.zeros_agree p q) = equal (one_float binary32 (round_to_format binary32 z) (round_to_format binary32 w) (sign (round_to_format binary32 z)) 0 (nearest_fits z a.is_finite) (nearest_fits w b.is_finite) (zero_has (round_to_format binary32 z) _ p refl) (zero_has (round_to_format binary32 w) _ q (sym e)))
    go (Agreement.beside_agree h i) =
        beside h
        (holds f (within (middle (round_to_format binary32 z) (round_to_format binary32 w)) (times small_part (unit binary32 (nearer_zero (round_to_format binary32 z) (round_to_format binary32 w))))) (value x) (λ j. a.start j + b.start j)
        (λ j n l. subst (λ (q : ℚ). Bound (cls (middle (round_to_format binary32 z) (round_to_format binary32 w)) -q sum f (value x) j n) q) (part_units (unit binary32 (nearer_zero (round_to_format binary32 z) (round_to_format binary32 w))))
        (bound_turn (sum f (value x) j n) (cls (middle (round_to_format binary32 z) (round_to_format binary32 w)))
        (i (sum f (value x) j n) (a.off j n (omega arith)) (b.off j n (omega arith))))))

-- ---- the sign of a figure
no_power : (k : ℕ) → dy 1 k ≤q ofℕ 0 → ⊥
unfolding ofℕ ofℤ
no_power k h = let l : 1 * 1 ≤ 0 * 2 ^ k = frac_le_out 1 (2 ^ k) 0 1 (pow_pos k) (zero-lt-suc 0) h in (omega arith)

not_set : (b : Bool) → T (not b) → b ≡ false
not_set false t = refl
not_set true t = absurd t

set : (b : Bool) → T b → b ≡ true
set true t = refl
set false t = absurd t

pub plus_sign : (z : Float) (k : ℕ) → T (finite z) → dy 1 k ≤q val z → sign (round_to_format binary32 z) ≡ false
plus_sign z k t h = not_set (sign (round_to_format binary32 z)) ((figure_nearest binary32 z t).above_zero (λ l. no_power k (q_trans h (subst (λ (q : ℚ). q ≤q ofℕ 0) (sym (val_value z)) (subst (λ (q : ℚ). cls (value z) ≤q q) (whole_cls 0) (at_most_out (value z) (whole 0) l))))))

pub minus_sign : (z : Float) (k : ℕ) → T (finite z) → val z ≤q -q◌ (dy 1 k) → sign (round_to_format binary32 z) ≡ true
unfolding norm
minus_sign z k t h = set (sign (round_to_format binary32 z)) ((figure_nearest binary32 z t).below_zero (λ l.
    no_power k (subst (λ (q : ℚ). q ≤q ofℕ 0) (twice_neg (dy 1 k)) (subst (λ (q : ℚ). -q◌ (-q◌ (dy 1 k)) ≤q q) neg_zero (q_neg (q_trans (subst (λ (q : ℚ). q ≤q cls (value z)) (whole_cls 0) (at_most_out (whole 0) (value z) l)) (subst (λ (q : ℚ). q ≤q -q◌ (dy 1 k)) (val_value z) h)))))))
  where
    twice_neg : (a : ℚ) → -q◌ (-q◌ a) ≡ a
    twice_neg a = unfold norm in qring (⊝ (⊝ x₀)) x₀ refl (a ∷ [])

    neg_zero : -q◌ (ofℕ 0) ≡ ofℕ 0
    neg_zero = unfold -q◌ ofℕ ofℤ in is refl

-- ---- all of it for a z above 0
-- where the exact value lies
pub data Placed (f : Function) (x : Fraction) : Type 0 where
  under : Under f x → Placed f x
  over : Over f x → Placed f x

-- z is at least 2 ^ -k, and near
pub record Wide (f : Function) (x : Fraction) (k : ℕ) (z : Float) : Type 0 where
  pub above : dy 1 k ≤q val z
  pub near : Near f x close z

nn_above : {f : Function} {x : Fraction} {k : ℕ} {z : Float} → Wide f x k z → T (nn (val z))
nn_above {f} {x} {k} w = le_nn (q_trans (nn_le (nn_dy 1 k)) w.above)

pub right : (f : Function) (x z : Float) (k : ℕ) → Placed f (value x) → Wide f (value x) k z → Right f x (round_to_format binary32 z)
right f x z k (under u) w = right_near f x z w.near (below_limit f (value x) z (nn_above w) w.near u) u
right f x z k (over o) w = right_over f x z (nn_above w) w.near o

pub agree : (f : Function) (x z w : Float) (k : ℕ) → Placed f (value x) → Wide f (value x) k z → Wide f (value x) k w → Agree f x (round_to_format binary32 z) (round_to_format binary32 w)
agree f x z w k (under u) a b =
    agree_near f x z w a.near b.near (below_limit f (value x) z (nn_above a) a.near u) (below_limit f (value x) w (nn_above b) b.near u)
    (plus_sign z k a.near.is_finite a.above ∙ sym (plus_sign w k b.near.is_finite b.above))
agree f x z w k (over o) a b = equal (figure_infinite binary32 z a.near.is_finite (reaches_limit f (value x) z (nn_above a) a.near o) ∙ sym (figure_infinite binary32 w b.near.is_finite (reaches_limit f (value x) w (nn_above b) b.near o)))
