-- What `round` gives is the nearest value of the format, ties to even, as the definitions have it.
use Rattle.std.proofs.Common.{◌≡◌, ℕ, ◌*◌, ◌%◌, ◌^◌, ◌<◌, ◌≤◌, Bool, true, false, not, T, ◌⊎◌, pos, sym, refl, ap, ◌∙◌, subst, ap₂, inl, inr, le_of_lt, lt_irrefl, eq-zero-or-pos, le_antisymm, mul-pos, arith, pow_pos}
use Rattle.std.specs.Float.{Float, fin, Format}
use Rattle.std.specs.Float.Ieee.{prec, low, round, to_bits}
use Rattle.std.specs.Float.Ieee.Fits.{round-fits}
use Rattle.std.specs.Float.Ieee.Exact.{HasValue}
use Rattle.std.specs.Float.Ieee.Scale.{grid, overflow}
use Rattle.std.proofs.Math.Nat.{eq_of_mul-eq-mul_right}
use Rattle.std.proofs.lemmas.Bool.{cases_lt}
use std.Quotient.{cls}
use Rattle.exact.specs.Fraction.{Fraction, Same, whole, absolute, apart, ◌≼◌}
use Rattle.exact.proofs.Rational.{ℚ, is, ofℤ}
use Rattle.exact.proofs.Order.{nn, ◌≤q◌}
use Rattle.exact.proofs.Bound.{ofℕ, nn_le, absq}
use Rattle.rounding.specs.Values.{value, sign, infinite}
use Rattle.rounding.specs.Nearest.{Best, limit, Nearest, Held}
use Rattle.rounding.proofs.Fractions.{frac, nn_frac, not_above, size_out}
use Rattle.rounding.proofs.Value.{val, val_value, value_is, finite_is, Rounds}
use Rattle.rounding.proofs.HalfUnit.{round_value}
use Rattle.rounding.proofs.Best.{dist, grid_best}
use Rattle.rounding.proofs.Held.{Digits, digits}
use Rattle.rounding.proofs.Limit.{limitℕ, overflow_infinite, round_infinite, round_finite}
use Rattle.rounding.proofs.EvenTie.{grid_tie, other_odd, even_digits, bits_parity}
use Rattle.rounding.proofs.Distance.{at_most_in, at_most_out, same_number, abs_cls, abs_frac, apart_le, gap, nearer_in, nearer_out}

-- ---- the sign of a result is the sign that was handed to `round`
pub sign_of_value : (x : Float) (s : Bool) (g l : ℕ) → HasValue x s g l → sign x ≡ s
sign_of_value (fin t m e) s g l h = h.0
sign_of_value _ _ _ _ h = absurd h

pub round_sign : (f : Format) (s : Bool) (a c : ℕ) → sign (round f s a c) ≡ s
round_sign f s a c = elim (cases_lt (grid f a c) (overflow f)) [
  | inl l ↦ sign_of_value (round f s a c) s (grid f a c) (2 ^ low f) (round_value f s a c l)
  | inr g ↦ ap sign (overflow_infinite f s a c g)
]

-- ---- a finite result
pub same_nearer : (t s : Bool) (x h n : ℕ) → dist x n ≤ dist h n → dist x n ≤ n → gap s s x n ≤ gap t s h n
same_nearer false false x h n a b = a
same_nearer false true x h n a b = omega arith
same_nearer true false x h n a b = omega arith
same_nearer true true x h n a b = a

pub tie_nearer : (t s : Bool) (x h n : ℕ) → gap t s h n ≤ gap s s x n → dist h n ≤ dist x n
tie_nearer false false x h n a = a
tie_nearer false true x h n a = omega arith
tie_nearer true false x h n a = omega arith
tie_nearer true true x h n a = a

tie_sign : (t s : Bool) (x n : ℕ) → dist x n ≤ n → gap t s x n ≤ gap s s x n → (t ≡ s) ⊎ (x ≡ 0)
tie_sign false false x n b a = inl refl
tie_sign false true x n b a = inr (omega arith)
tie_sign true false x n b a = inr (omega arith)
tie_sign true true x n b a = inl refl

zero_sign : (s t : Bool) (c : ℕ) (C : 0 < c) → frac s 0 c C ≡ frac t 0 c C
zero_sign false false c C = refl
zero_sign false true c C = is refl
zero_sign true false c C = is refl
zero_sign true true c C = refl

module _ (f : Format) (s : Bool) (a c : ℕ) (C : 0 < c) (o : grid f a c < overflow f) (q : Fraction) (e : ◌≡◌ {A = ℚ} (cls q) (frac s a c C)) where
  abbrev x : Float
  x = round f s a c

  abbrev g : ℕ
  g = grid f a c

  abbrev n : ℕ
  n = a * 2 ^ low f

  abbrev L : 0 < 2 ^ low f
  L = pow_pos (low f)

  value_x : val x ≡ frac s g (2 ^ low f) L
  value_x = value_is x s g (2 ^ low f) L (round_value f s a c o)

  cls_x : ◌≡◌ {A = ℚ} (cls (value x)) (frac s g (2 ^ low f) L)
  cls_x = sym (val_value x) ∙ value_x

  near_zero : dist (g * c) n ≤ n
  near_zero = go (g * c) n c (grid_best f a c 0 0 C (le_of_lt (pow_pos (prec f))))
    where
      go : (x n c : ℕ) → dist x n ≤ dist (0 * 2 ^ 0 * c) n → dist x n ≤ n
      go x n c h = omega arith

  module _ (w : Float) (hw : Held f w) where
    abbrev d : Digits f w
    d = digits f w hw.is_finite hw.is_held

    abbrev h : ℕ
    h = d.q * 2 ^ d.j

    cls_w : ◌≡◌ {A = ℚ} (cls (value w)) (frac d.s h (2 ^ low f) L)
    cls_w = sym (val_value w) ∙ value_is w d.s h (2 ^ low f) L d.how

    nothing_nearer : apart (value x) q ≼ apart (value w) q
    nothing_nearer = apart_le cls_x e cls_w e (nearer_in s a c (2 ^ low f) C L s d.s g h (same_nearer d.s s (g * c) (h * c) n (grid_best f a c d.q d.j C (le_of_lt d.few)) near_zero))

    same : h ≡ g → gap d.s s (h * c) n ≤ gap s s (g * c) n → ◌≡◌ {A = ℚ} (cls (value w)) (cls (value x))
    same u b = elim (tie_sign d.s s (g * c) n near_zero (subst (λ (z : ℕ). gap d.s s (z * c) n ≤ gap s s (g * c) n) u b)) [
      | inl t ↦ cls_w ∙ ap₂ (λ (t : Bool) (z : ℕ). frac t z (2 ^ low f) L) t u ∙ sym cls_x
      | inr z ↦
          let g0 : g ≡ 0 = none g c C z in
          cls_w ∙ ap (λ (z : ℕ). frac d.s z (2 ^ low f) L) (u ∙ g0) ∙ zero_sign d.s s (2 ^ low f) L ∙ ap (λ (z : ℕ). frac s z (2 ^ low f) L) (sym g0) ∙ sym cls_x
    ]
      where
        none : (g c : ℕ) → 0 < c → g * c ≡ 0 → g ≡ 0
        none g c C z = elim (eq-zero-or-pos g) [ inl e ↦ e | inr p ↦ let m : 0 < g * c = mul-pos p C in absurd (omega arith) ]

    as_near : apart (value w) q ≼ apart (value x) q → gap d.s s (h * c) n ≤ gap s s (g * c) n
    as_near k = nearer_out s a c (2 ^ low f) C L d.s s h g (apart_le (sym cls_w) (sym e) (sym cls_x) (sym e) k)

    ties_even : apart (value w) q ≼ apart (value x) q → (Same (value w) (value x) → ⊥) → to_bits f x % 2 ≡ 0
    ties_even k other =
        let b = as_near k in
        bits_parity f x s g (round_value f s a c o) ∙ even_digits f a c C (grid_tie f a c d.q d.j C (le_of_lt d.few) (tie_nearer d.s s (g * c) (h * c) n b) (λ u. other (same_number (value w) (value x) (same u b))))

    -- another value that is as near is odd
    other_is_odd : apart (value w) q ≼ apart (value x) q → (h ≡ g → ⊥) → to_bits f w % 2 ≡ 1
    other_is_odd k other = bits_parity f w d.s h d.how ∙ other_odd f a c d.q d.j C (le_of_lt d.few) (tie_nearer d.s s (g * c) (h * c) n (as_near k)) other

  pub round_best : Best f q x
  round_best = record {
    held = record { is_finite = finite_is x s g (2 ^ low f) (round_value f s a c o); is_held = round-fits f s a c };
    best = nothing_nearer;
    even = ties_even;
  }

  -- and no other value is: one that is best too is the same number
  pub best_same : (w : Float) → Best f q w → (val w ≡ frac s g (2 ^ low f) L) × ((t : Bool) × HasValue w t g (2 ^ low f))
  best_same w b = elim (cases_lt h' g) [
    | inl l ↦ absurd (odd_clash (λ u. lt_irrefl g (subst (λ (z : ℕ). z < g) u l)))
    | inr m ↦ elim (cases_lt g h') [
      | inl l ↦ absurd (odd_clash (λ u. lt_irrefl g (subst (λ (z : ℕ). g < z) u l)))
      | inr m' ↦
          let u : h' ≡ g = le_antisymm m' m in
          (val_value w ∙ same w b.held u (as_near w b.held near_w) ∙ cls_x, (d'.s, subst (λ (z : ℕ). HasValue w d'.s z (2 ^ low f)) u d'.how))
    ]
  ]
    where
      d' : Digits f w
      d' = digits f w b.held.is_finite b.held.is_held

      h' : ℕ
      h' = (digits f w b.held.is_finite b.held.is_held).q * 2 ^ (digits f w b.held.is_finite b.held.is_held).j

      near_w : apart (value w) q ≼ apart (value x) q
      near_w = b.best x round_best.held

      differ : (h w b.held ≡ g → ⊥) → Same (value x) (value w) → ⊥
      differ n' e' = n' (sym (eq_of_mul-eq-mul_right (2 ^ low f) L g (h w b.held) (size_out s (d w b.held).s g (2 ^ low f) (h w b.held) (2 ^ low f) L L (sym cls_x ∙ is e' ∙ cls_w w b.held))))

      odd_clash : (h w b.held ≡ g → ⊥) → ⊥
      odd_clash n' = omega (arith, b.even x round_best.held (nothing_nearer w b.held) (differ n'), other_is_odd w b.held near_w n')

-- ---- `round` gives the nearest value, ties to even
module _ (f : Format) (s : Bool) (a c : ℕ) (C : 0 < c) (q : Fraction) (e : ◌≡◌ {A = ℚ} (cls q) (frac s a c C)) where
  size_is : cls (absolute q) ≡ frac false a c C
  size_is = abs_cls q ∙ ap absq e ∙ abs_frac s a c C

  limit_is : cls (limit f) ≡ ofℕ (limitℕ f)
  unfolding ofℕ ofℤ
  limit_is = refl

  pub at_limit : limit f ≼ absolute q → ofℕ (limitℕ f) ≤q frac false a c C
  at_limit h = subst (λ (x : ℚ). x ≤q frac false a c C) limit_is (subst (λ (x : ℚ). cls (limit f) ≤q x) size_is (at_most_out (limit f) (absolute q) h))

  pub from_limit : ofℕ (limitℕ f) ≤q frac false a c C → limit f ≼ absolute q
  from_limit h = at_most_in (limit f) (absolute q) (subst (λ (x : ℚ). cls (limit f) ≤q x) (sym size_is) (subst (λ (x : ℚ). x ≤q frac false a c C) (sym limit_is) h))

  zero_is : cls (whole 0) ≡ ofℤ (pos 0)
  unfolding ofℤ
  zero_is = refl

  not_negative : s ≡ false → whole 0 ≼ q
  not_negative t = at_most_in (whole 0) q (subst (λ (x : ℚ). x ≤q cls q) (sym zero_is) (nn_le (subst (λ (x : ℚ). T (nn x)) (ap (λ (b : Bool). frac b a c C) (sym t) ∙ sym e) (nn_frac a c C))))

  not_positive : s ≡ true → q ≼ whole 0
  not_positive t = at_most_in q (whole 0) (subst (λ (x : ℚ). x ≤q cls (whole 0)) (ap (λ (b : Bool). frac b a c C) (sym t) ∙ sym e) (not_above a c C (cls (whole 0)) nought))
    where
      nought : T (nn (cls (whole 0)))
      nought = unfold nn in tt

  pub round_nearest_lem : Nearest f q (round f s a c)
  round_nearest_lem = record {
    overflows = λ h. subst (λ (x : Float). T (infinite x)) (sym (round_infinite f s a c C (at_limit h))) tt;
    otherwise = λ h. round_best f s a c C (round_finite f s a c C (λ k. h (from_limit k))) q e;
    below_zero = λ h. subst T (sym (round_sign f s a c)) (set s not_negative h);
    above_zero = λ h. subst (λ (b : Bool). T (not b)) (sym (round_sign f s a c)) (clear s not_positive h);
  }
    where
      set : (t : Bool) → (t ≡ false → whole 0 ≼ q) → (whole 0 ≼ q → ⊥) → T t
      set true n h = tt
      set false n h = h (n refl)

      clear : (t : Bool) → (t ≡ true → q ≼ whole 0) → (q ≼ whole 0 → ⊥) → T (not t)
      clear true n h = h (n refl)
      clear false n h = tt

pub rounds_nearest : (f : Format) (x : Float) (q : Fraction) → Rounds f x (cls q) → Nearest f q x
rounds_nearest f x q r = subst (λ (y : Float). Nearest f q y) (sym r.how) (round_nearest_lem f r.s r.a r.c r.ok q r.what)
