-- Two results of numbers that are both within e of v: equal, or neighbouring with v within e of their midpoint.
use Rattle.std.proofs.Common.{◌≡◌, ℕ, ◌+◌, ◌*◌, ◌^◌, ◌<◌, ◌≤◌, Bool, true, false, not, T, eqb, ◌⊎◌, [], ◌∷◌, ℤ, pos, ◌+ℤ◌, ◌*ℤ◌, sym, refl, ap, ◌∙◌, subst, ap₂, inl, inr, true≢false, le_of_lt, mul-le-mul_right, zero-lt-suc, eq-zero-or-pos, mul-pos, zero-mul, arith, pow_pos}
use Rattle.std.specs.Int.Signed.{le_z}
use Rattle.std.specs.Float.{Float, fin, Format}
use Rattle.std.specs.Float.Ieee.{low, up, down}
use Rattle.std.specs.Float.Ieee.Fits.{up_pos}
use Rattle.std.specs.Float.Ieee.Exact.{HasValue}
use Rattle.std.specs.Float.Ieee.Scale.{grid, finite}
use Rattle.std.proofs.Math.Nat.{eq_of_mul-eq-mul_right}
use Rattle.std.proofs.Math.Dec.{not_T}
use borrow.Author.Differences.{product_is, le_T, le_in}
use std.Quotient.{cls}
use Rattle.exact.specs.Fraction.{Fraction, plus, apart}
use Rattle.exact.proofs.Ring.{con, ◌⊕◌, ◌⊖◌, ◌⊗◌, ⊝, norm, var}
use Rattle.exact.proofs.Integer.{x₀, x₁, x₂, x₃, x₄, x₅}
use Rattle.exact.proofs.Rational.{ℚ, ◌+q◌, ◌*q◌, -q◌, ◌-q◌, ofℤ, qring, add_commq}
use Rattle.exact.proofs.Order.{nn, nn_add, ◌≤q◌, le_by, q_refl, q_trans, q_add, q_mul, q_antisym, q_total}
use Rattle.exact.proofs.Bound.{ofℕ, inv, Bound, absq, bound_abs, pick, inv_mul, nn_inv}
use Rattle.rounding.specs.Values.{signed, value, is_zero, ◌≺◌}
use Rattle.rounding.specs.Units.{unit}
use Rattle.rounding.specs.Nearest.{Next, Neighbouring, Best, Nearest, Held}
use Rattle.rounding.specs.Errors.{middle, Pair, equal, zeros, beside, TwoFigures}
use borrow.Author.Differences as D
use Rattle.rounding.proofs.Gaps as Gaps
use Rattle.exact.proofs.Compare.{fr, leq_in}
use Rattle.rounding.proofs.Fractions.{frac, frac_over, frac_le_out, not_above, size_out}
use Rattle.rounding.proofs.Value.{val_value, value_is}
use Rattle.rounding.proofs.Narrow.{unit_of, midpoint}
use Rattle.rounding.proofs.Held.{digits}
use Rattle.rounding.proofs.Distance.{at_most_in, at_most_out, apart_cls, within_in, within_out}
use Rattle.rounding.proofs.UnitInLastPlace.{unit_is}
use Rattle.rounding.proofs.NearestResult.{finite_or_infinite, nearest_result, one_float}

-- ---- on which side of a midpoint a number lies
side_up : (x w z : ℚ) → absq (x -q z) ≤q absq (w -q z) → (w ≤q x → ⊥) → z +q z ≤q x +q w
unfolding absq norm ◌-q◌
side_up x w z h d = go (nn (w -q z)) (q_trans (le_by (x -q z -q (-q◌ (absq (x -q z)))) (bound_abs (x -q z)).lo.le (qring (x₂ ⊖ (x₁ ⊖ x₀)) (x₀ ⊖ x₁ ⊖ ⊝ x₂) refl (x ∷ z ∷ absq (x -q z) ∷ []))) h)
  where
    go : (p : Bool) → z -q x ≤q pick p (w -q z) → z +q z ≤q x +q w
    go true k = le_by (w -q z -q (z -q x)) k.le (qring (x₀ ⊕ x₁ ⊖ (x₂ ⊕ x₂)) (x₁ ⊖ x₂ ⊖ (x₂ ⊖ x₀)) refl (x ∷ w ∷ z ∷ []))
    go false k = absurd (d (le_by (-q◌ (w -q z) -q (z -q x)) k.le (qring (x₀ ⊖ x₁) (⊝ (x₁ ⊖ x₂) ⊖ (x₂ ⊖ x₀)) refl (x ∷ w ∷ z ∷ []))))

side_down : (y w z : ℚ) → absq (y -q z) ≤q absq (w -q z) → (y ≤q w → ⊥) → w +q y ≤q z +q z
unfolding absq norm ◌-q◌
side_down y w z h d = go (nn (w -q z)) (q_trans (bound_abs (y -q z)).hi h)
  where
    go : (p : Bool) → y -q z ≤q pick p (w -q z) → w +q y ≤q z +q z
    go true k = absurd (d (le_by (w -q z -q (y -q z)) k.le (qring (x₁ ⊖ x₀) (x₁ ⊖ x₂ ⊖ (x₀ ⊖ x₂)) refl (y ∷ w ∷ z ∷ []))))
    go false k = le_by (-q◌ (w -q z) -q (y -q z)) k.le (qring (x₂ ⊕ x₂ ⊖ (x₁ ⊕ x₀)) (⊝ (x₁ ⊖ x₂) ⊖ (x₀ ⊖ x₂)) refl (y ∷ w ∷ z ∷ []))

-- ---- whole numbers of smallest values as rationals
fr_le : (z w : ℤ) (l : ℕ) (L : 0 < l) → T (le_z z w) → fr z l L ≤q fr w l L
fr_le z w l L t =
    leq_in _ _ (le_in (z *ℤ pos l) (w *ℤ pos l)
    (go (D.up z) (D.down z) (D.up w) (D.down w) l (le_T z w t) (product_is z (pos l)) (product_is w (pos l))))
  where
    go : (a b c d l : ℕ) {p q r s : ℕ} → a + d ≤ c + b → (p ≡ a * l + b * 0) × (q ≡ a * 0 + b * l) → (r ≡ c * l + d * 0) × (s ≡ c * 0 + d * l) → p + s ≤ r + q
    go a b c d l h x y = let k : (a + d) * l ≤ (c + b) * l = mul-le-mul_right l h in omega arith

-- half of x + x
halved : {a b : ℚ} → a +q a ≤q b → a ≤q inv 1 *q b
unfolding norm ofℕ
halved {a} {b} h = subst (λ (u : ℚ). u ≤q inv 1 *q b) (qring (x₀ ⊗ (x₁ ⊕ x₁)) ((con (pos 2) ⊗ x₀) ⊗ x₁) refl (inv 1 ∷ a ∷ []) ∙ ap (λ (u : ℚ). u *q a) (inv_mul 1) ∙ qring (con (pos 1) ⊗ x₀) x₀ refl (a ∷ [])) (q_mul (inv 1) (nn_inv 1) h)

doubled : {a b : ℚ} → b ≤q a +q a → inv 1 *q b ≤q a
unfolding norm ofℕ
doubled {a} {b} h = subst (λ (u : ℚ). inv 1 *q b ≤q u) (qring (x₀ ⊗ (x₁ ⊕ x₁)) ((con (pos 2) ⊗ x₀) ⊗ x₁) refl (inv 1 ∷ a ∷ []) ∙ ap (λ (u : ℚ). u *q a) (inv_mul 1) ∙ qring (con (pos 1) ⊗ x₀) x₀ refl (a ∷ [])) (q_mul (inv 1) (nn_inv 1) h)

half_both : {a b : ℚ} → a +q a ≤q b +q b → a ≤q b
half_both {a} {b} h = halves_of (halved h)
  where
    halves_of : a ≤q inv 1 *q (b +q b) → a ≤q b
    halves_of k = q_trans k (doubled (q_refl (b +q b)))

-- ---- the lower result x of q and the upper result y of p, both numbers within e of v
module _ (f : Format) (q p : Fraction) (v e : ℚ) (x y : Float) (n : Best f q x) (m : Best f p y) (g k : ℕ) (t u : Bool) (hx : HasValue x t g (2 ^ low f)) (hy : HasValue y u k (2 ^ low f)) (vg : Gaps.Value f g) (vk : Gaps.Value f k)
    (hq : Bound (cls q -q v) (e)) (hp : Bound (cls p -q v) (e)) (below : cls (value y) ≤q cls (value x) → ⊥) where
  abbrev X : ℚ
  X = cls (value x)

  abbrev Y : ℚ
  Y = cls (value y)

  abbrev L : 0 < 2 ^ low f
  L = pow_pos (low f)

  -- the result of q is as near as w
  nearer_x : (w : Float) → Held f w → absq (X -q cls q) ≤q absq (cls (value w) -q cls q)
  nearer_x w h = subst (λ (u : ℚ). u ≤q absq (cls (value w) -q cls q)) (apart_cls (value x) q) (subst (λ (u : ℚ). cls (apart (value x) q) ≤q u) (apart_cls (value w) q) (at_most_out (apart (value x) q) (apart (value w) q) (n.best w h)))

  nearer_y : (w : Float) → Held f w → absq (Y -q cls p) ≤q absq (cls (value w) -q cls p)
  nearer_y w h = subst (λ (u : ℚ). u ≤q absq (cls (value w) -q cls p)) (apart_cls (value y) p) (subst (λ (u : ℚ). cls (apart (value y) p) ≤q u) (apart_cls (value w) p) (at_most_out (apart (value y) p) (apart (value w) p) (m.best w h)))

  about : Bound (v -q inv 1 *q (X +q Y)) e
  about = midpoint (cls q) (cls p) (v) (inv 1 *q (X +q Y)) (e) (halved (side_up X Y (cls q) (nearer_x y m.held) below)) (doubled (side_down Y X (cls p) (nearer_y x n.held) below)) hq hp

  -- with a value between them the numbers are half of the gap apart, which is at most 2 e
  apart_by : (w : Float) → Held f w → (cls (value w) ≤q X → ⊥) → (Y ≤q cls (value w) → ⊥) → Y ≤q X +q (e +q e +q (e +q e))
  unfolding norm ◌-q◌
  apart_by w h a b =
      let W = cls (value w) in
      let i = side_up X W (cls q) (nearer_x w h) a in
      let j = side_down Y W (cls p) (nearer_y w h) b in
      let Q = cls q in
      let P = cls p in
      le_by ((X +q W -q (Q +q Q)) +q (P +q P -q (W +q Y)) +q ((e -q (P -q v)) +q (e -q (P -q v))) +q ((Q -q v -q (-q◌ e)) +q (Q -q v -q (-q◌ e))))
      (nn_add _ _ (nn_add _ _ (nn_add _ _ i.le j.le) (nn_add _ _ hp.hi.le hp.hi.le)) (nn_add _ _ hq.lo.le hq.lo.le))
      (ring X Y W Q P v e)
    where
      ring : (X Y W Q P V E : ℚ) → X +q (E +q E +q (E +q E)) -q Y ≡ (X +q W -q (Q +q Q)) +q (P +q P -q (W +q Y)) +q ((E -q (P -q V)) +q (E -q (P -q V))) +q ((Q -q V -q (-q◌ E)) +q (Q -q V -q (-q◌ E)))
      ring X Y W Q P V E = unfold norm ◌-q◌ in qring (x₀ ⊕ (x₅ ⊕ x₅ ⊕ (x₅ ⊕ x₅)) ⊖ x₁) ((x₀ ⊕ x₂ ⊖ (x₃ ⊕ x₃)) ⊕ (x₄ ⊕ x₄ ⊖ (x₂ ⊕ x₁)) ⊕ ((x₅ ⊖ (x₄ ⊖ var 6)) ⊕ (x₅ ⊖ (x₄ ⊖ var 6))) ⊕ ((x₃ ⊖ var 6 ⊖ ⊝ x₅) ⊕ (x₃ ⊖ var 6 ⊖ ⊝ x₅))) refl (X ∷ Y ∷ W ∷ Q ∷ P ∷ E ∷ V ∷ [])

  x_is : X ≡ frac t g (2 ^ low f) L
  x_is = sym (val_value x) ∙ value_is x t g (2 ^ low f) L hx

  y_is : Y ≡ frac u k (2 ^ low f) L
  y_is = sym (val_value y) ∙ value_is y u k (2 ^ low f) L hy

  abbrev U : ℕ → ℚ
  U i = frac false (unit_of f i) (2 ^ low f) L

  -- so nothing is between, where 2 e is less than a unit of each
  module _ (ex : cls (unit f x) ≤q e +q e → ⊥) (ey : cls (unit f y) ≤q e +q e → ⊥) where
    far : (i j : ℕ) → T (le_z (signed t g +ℤ pos (unit_of f i + unit_of f j)) (signed u k)) → X +q (U i +q U j) ≤q Y
    far i j h =
        subst (λ (z : ℚ). z ≤q Y) (sym (ap₂ (λ (a b : ℚ). a +q b) x_is (frac_over false false (unit_of f i) (unit_of f j) (2 ^ low f) L) ∙ frac_over t false g (unit_of f i + unit_of f j) (2 ^ low f) L))
        (subst (λ (z : ℚ). fr (signed t g +ℤ pos (unit_of f i + unit_of f j)) (2 ^ low f) L ≤q z) (sym y_is) (fr_le (signed t g +ℤ pos (unit_of f i + unit_of f j)) (signed u k) (2 ^ low f) L h))

    units_under : (i j : ℕ) → X +q (U i +q U j) ≤q Y → Y ≤q X +q (e +q e +q (e +q e)) → U i +q U j ≤q (e +q e) +q (e +q e)
    unfolding norm ◌-q◌
    units_under i j h l = le_by ((Y -q (X +q (U i +q U j))) +q (X +q (e +q e +q (e +q e)) -q Y)) (nn_add _ _ h.le l.le) (qring (x₃ ⊕ x₃ ⊕ (x₃ ⊕ x₃) ⊖ x₂) ((x₁ ⊖ (x₀ ⊕ x₂)) ⊕ (x₀ ⊕ (x₃ ⊕ x₃ ⊕ (x₃ ⊕ x₃)) ⊖ x₁)) refl (X ∷ Y ∷ (U i +q U j) ∷ e ∷ []))

    unit_x : U g ≤q e +q e → ⊥
    unit_x h = ex (subst (λ (z : ℚ). z ≤q e +q e) (sym (unit_is f x t g hx)) h)

    unit_y : U k ≤q e +q e → ⊥
    unit_y h = ey (subst (λ (z : ℚ). z ≤q e +q e) (sym (unit_is f y u k hy)) h)

    clash : Gaps.Spread f (signed t g) (signed u k) g k → Y ≤q X +q (e +q e +q (e +q e)) → ⊥
    clash (Gaps.lower h) l = unit_x (half_both (units_under g g (far g g h) l))
    clash (Gaps.upper h) l = unit_y (half_both (units_under k k (far k k h) l))
    clash (Gaps.across h) l = elim (q_total (U g) (U k)) [
      | inl a ↦ unit_x (half_both (q_trans (q_add (q_refl (U g)) a) (units_under g k (far g k h) l)))
      | inr a ↦ unit_y (half_both (q_trans (q_add a (q_refl (U k))) (units_under g k (far g k h) l)))
    ]

    none : (w : Float) → Held f w → value x ≺ value w → value w ≺ value y → ⊥
    none w h a b =
        let d = digits f w h.is_finite h.is_held in
        let i = d.q * 2 ^ d.j in
        let w_is : cls (value w) ≡ frac d.s i (2 ^ low f) L = sym (val_value w) ∙ value_is w d.s i (2 ^ low f) L d.how in
        clash
        (Gaps.spread f g i k vg (record { q = d.q; j = d.j; few = le_of_lt d.few; is_value = refl }) vk t d.s u
        (not_T (le_z (signed d.s i) (signed t g)) (λ z. a (at_most_in (value w) (value x) (subst (λ (c : ℚ). c ≤q X) (sym w_is) (subst (λ (c : ℚ). frac d.s i (2 ^ low f) L ≤q c) (sym x_is) (fr_le (signed d.s i) (signed t g) (2 ^ low f) L z))))))
        (not_T (le_z (signed u k) (signed d.s i)) (λ z. b (at_most_in (value y) (value w) (subst (λ (c : ℚ). c ≤q cls (value w)) (sym y_is) (subst (λ (c : ℚ). frac u k (2 ^ low f) L ≤q c) (sym w_is) (fr_le (signed u k) (signed d.s i) (2 ^ low f) L z)))))))
        (apart_by w h (λ z. a (at_most_in (value w) (value x) z)) (λ z. b (at_most_in (value y) (value w) z)))

    next : Next f x y
    next = record { lower = n.held; upper = m.held; below = λ h. below (at_most_out (value y) (value x) h); none = none }

pub middle_is : (x y : Float) → inv 1 *q (cls (value x) +q cls (value y)) ≡ cls (middle x y)
unfolding inv ◌*q◌ ◌+q◌
middle_is x y = refl

plus_is : (e : Fraction) → cls (plus e e) ≡ cls e +q cls e
unfolding ◌+q◌
plus_is e = refl

zero_value : (x : Float) (t : Bool) (g l : ℕ) → 0 < l → HasValue x t g l → g ≡ 0 → T (is_zero x)
zero_value (fin s m d) t g l L h z = subst (λ (k : ℕ). T (eqb k 0)) (sym (none m (up d) l (up_pos d) L (h.1 ∙ ap (λ (k : ℕ). k * down d) z ∙ zero-mul (down d)))) tt
  where
    none : (m a l : ℕ) → 0 < a → 0 < l → m * a * l ≡ 0 → m ≡ 0
    none m a l A L e = elim (eq-zero-or-pos m) [ inl z ↦ z | inr p ↦ let q : 0 < m * a * l = mul-pos (mul-pos p A) L in absurd (omega arith) ]
zero_value _ _ _ _ _ h _ = absurd h

best_of : (f : Format) (q : Fraction) (x : Float) → Nearest f q x → T (finite x) → Best f q x
best_of f q x n t = n.otherwise (λ h. finite_or_infinite x t (n.overflows h))

-- ---- for every v that both numbers are within e of
pub data Figures (f : Format) (z z' e : ℚ) (x y : Float) : Type 0 where
  equal_figures : x ≡ y → Figures f z z' e x y
  zero_figures : T (is_zero x) → T (is_zero y) → Figures f z z' e x y
  beside_figures : Neighbouring f x y → ((v : ℚ) → Bound (z -q v) e → Bound (z' -q v) e → Bound (v -q cls (middle x y)) e) → Figures f z z' e x y

-- the same number: equal, or two zeros
same_figure : (f : Format) (z z' e : ℚ) (x y : Float) (g k : ℕ) (t u : Bool) → Held f x → Held f y → HasValue x t g (2 ^ low f) → HasValue y u k (2 ^ low f) → ◌≡◌ {A = ℚ} (cls (value x)) (cls (value y)) → Figures f z z' e x y
same_figure f z z' e x y g k t u a b hx hy s =
    let L = pow_pos (low f) in
    let i : frac t g (2 ^ low f) L ≡ frac u k (2 ^ low f) L = sym (value_is x t g (2 ^ low f) L hx) ∙ val_value x ∙ s ∙ sym (val_value y) ∙ value_is y u k (2 ^ low f) L hy in
    let j : g ≡ k = eq_of_mul-eq-mul_right (2 ^ low f) L g k (size_out t u g (2 ^ low f) k (2 ^ low f) L L i) in
    elim (same_sign t u) [
      | inl w ↦ equal_figures (one_float f x y t g a.is_held b.is_held hx (subst (λ (z : ℕ). HasValue y t z (2 ^ low f)) (sym j) (subst (λ (z : Bool). HasValue y z k (2 ^ low f)) (sym w) hy)))
      | inr w ↦
          let o : g ≡ 0 = opposite_zero t u w g (2 ^ low f) L (i ∙ ap (λ (z : ℕ). frac u z (2 ^ low f) L) (sym j)) in
          zero_figures (zero_value x t g (2 ^ low f) L hx o) (zero_value y u k (2 ^ low f) L hy (sym j ∙ o))
    ]
  where
    same_sign : (t u : Bool) → (t ≡ u) ⊎ (t ≡ not u)
    same_sign false false = inl refl
    same_sign false true = inr refl
    same_sign true false = inr refl
    same_sign true true = inl refl

    none : (g l : ℕ) (L : 0 < l) → frac true g l L ≡ frac false g l L → g ≡ 0
    none g l L e =
        let h : g * 1 ≤ 0 * l = unfold ofℤ nn in frac_le_out g l 0 1 L (zero-lt-suc 0) (subst (λ (z : ℚ). z ≤q ofℤ (pos 0)) e (not_above g l L (ofℤ (pos 0)) tt)) in
        omega arith

    opposite_zero : (t u : Bool) → t ≡ not u → (g l : ℕ) (L : 0 < l) → frac t g l L ≡ frac u g l L → g ≡ 0
    opposite_zero false false w g l L e = absurd (true≢false (sym w))
    opposite_zero true true w g l L e = absurd (true≢false w)
    opposite_zero false true w g l L e = none g l L (sym e)
    opposite_zero true false w g l L e = none g l L e

pub figures : (f : Format) (q p : Fraction) (v e : ℚ) (x y : Float) → Nearest f q x → Nearest f p y → T (finite x) → T (finite y) → Bound (cls q -q v) e → Bound (cls p -q v) e
    → (cls (unit f x) ≤q e +q e → ⊥) → (cls (unit f y) ≤q e +q e → ⊥) → Figures f (cls q) (cls p) e x y
figures f q p v e x y n m fx fy Q P ex ey =
    let r = nearest_result f q x n fx in
    let k = nearest_result f p y m fy in
    let a = best_of f q x n fx in
    let b = best_of f p y m fy in
    let vg = Gaps.grid_value f r.a q.den in
    let vk = Gaps.grid_value f k.a p.den in
    let gx = grid f r.a q.den in
    let gy = grid f k.a p.den in
    elim (decide_le (value x) (value y)) [
      | inl i ↦ elim (decide_le (value y) (value x)) [
        | inl j ↦ same_figure f (cls q) (cls p) e x y gx gy r.t k.t a.held b.held r.has k.has (q_antisym i j)
        | inr j ↦
            beside_figures (inl (next f q p v e x y a b gx gy r.t k.t r.has k.has vg vk Q P j ex ey))
            (λ w Qw Pw. subst (λ (c : ℚ). Bound (w -q c) e) (middle_is x y) (about f q p w e x y a b gx gy r.t k.t r.has k.has vg vk Qw Pw j))
      ]
      | inr i ↦
          beside_figures (inr (next f p q v e y x b a gy gx k.t r.t k.has r.has vk vg P Q i ey ex))
          (λ w Qw Pw. subst (λ (c : ℚ). Bound (w -q c) e) (ap (λ (c : ℚ). inv 1 *q c) (add_commq (cls (value y)) (cls (value x))) ∙ middle_is x y) (about f p q w e y x b a gy gx k.t r.t k.has r.has vk vg Pw Qw i))
    ]
  where
    decide_le : (a b : Fraction) → (cls a ≤q cls b) ⊎ (cls a ≤q cls b → ⊥)
    decide_le a b = go (nn (cls b -q cls a)) (λ t. t) (λ t. t)
      where
        go : (c : Bool) → (T c → T (nn (cls b -q cls a))) → (T (nn (cls b -q cls a)) → T c) → (cls a ≤q cls b) ⊎ (cls a ≤q cls b → ⊥)
        go true h k = inl (record { le = h tt })
        go false h k = inr (λ z. k z.le)

pub two_figures_lem : TwoFigures
two_figures_lem f q p v e x y n m fx fy hq hp ex ey =
    let Q = within_out q v e hq in
    let P = within_out p v e hp in
    go Q P (figures f q p (cls v) (cls e) x y n m fx fy Q P (room x ex) (room y ey))
  where
    room : (z : Float) → (plus e e ≺ unit f z) → cls (unit f z) ≤q cls e +q cls e → ⊥
    room z h i = h (at_most_in (unit f z) (plus e e) (subst (λ (c : ℚ). cls (unit f z) ≤q c) (sym (plus_is e)) i))

    go : Bound (cls q -q cls v) (cls e) → Bound (cls p -q cls v) (cls e) → Figures f (cls q) (cls p) (cls e) x y → Pair f v e x y
    go Q P (equal_figures h) = equal h
    go Q P (zero_figures h k) = zeros h k
    go Q P (beside_figures h k) = beside h (within_in v (middle x y) e (k (cls v) Q P))
