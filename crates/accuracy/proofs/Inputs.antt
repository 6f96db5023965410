-- An f32 by its pattern: its value, and the order of values by the order of patterns.
use Rattle.std.proofs.Common.{◌≡◌, ℕ, ◌+◌, ◌-◌, ◌*◌, ◌/◌, ◌%◌, ◌^◌, ◌<◌, ◌≤◌, Bool, true, false, cond, not, T, eqb, leb, ◌⊎◌, ℤ, sym, refl, ap, ◌∙◌, subst, inl, inr, eq-zero-or-pos, arith, pow_pos, bit_and}
use Rattle.std.specs.Float.{Float, nan, inf, fin, binary32}
use Rattle.std.specs.Float.Ieee.{fits, is_nan, of_bits, of_fields, up, size}
use Rattle.std.specs.Float.Ieee.Bits.{of_bits-to_bits, to_bits-lt}
use Rattle.std.specs.Float.Ieee.Scale.{finite}
use Rattle.std.proofs.lemmas.Nat.{and_mask}
use Rattle.exact.proofs.Rational.{ℚ, -q◌}
use Rattle.exact.proofs.Order.{nn}
use Rattle.exact.proofs.Bound.{absq, Bound, bound_self, bound_neg}
use Rattle.rounding.proofs.Fractions.{nn_frac, frac_neg}
use Rattle.rounding.proofs.Distance.{abs_nn, abs_frac}
use Rattle.rounding.proofs.Value.{val}
use Rattle.rounding.proofs.Patterns.{sized, size_of, pattern_positive, pattern_negative}
use Rattle.curves.specs.Steps.{pattern, magnitude}
use Rattle.curves.proofs.Sizes.{pattern_of, pattern_is}

-- all ones in the exponent's field are no number
top_field : (s : Bool) (t : ℕ) → T (finite (of_fields binary32 s 255 t)) → ⊥
unfolding of_fields
top_field s t h = go (eqb t 0) h
  where
    go : (b : Bool) → T (finite (cond b (inf s) nan)) → ⊥
    go true h = h
    go false h = h

field_under : (p : ℕ) → T (finite (of_bits binary32 p)) → p % 2 ^ 31 < 255 * 2 ^ 23
unfolding of_bits
field_under p h = elim (eq-zero-or-pos (p % 2 ^ 31 / 2 ^ 23 - 254)) [
  | inl z ↦ (omega arith)
  | inr g ↦ absurd (top_field (leb (2 ^ 31) p) (p % 2 ^ 23) (subst (λ (e : ℕ). T (finite (of_fields binary32 (leb (2 ^ 31) p) e (p % 2 ^ 23)))) (top p g) h))
]
  where
    top : (p : ℕ) → 0 < p % 2 ^ 31 / 2 ^ 23 - 254 → p % 2 ^ 31 / 2 ^ 23 ≡ 255
    top p g = omega arith

-- a finite f32 by its pattern: with no sign, and with one
pub data Signed (x : Float) : Type 0 where
  positive : pattern x < 2 ^ 31 → magnitude x ≡ pattern x → val x ≡ sized (pattern x) → Signed x
  negative : 2 ^ 31 ≤ pattern x → pattern x ≡ 2 ^ 31 + magnitude x → val x ≡ -q◌ (sized (magnitude x)) → Signed x

pub signed_of : (x : Float) → T (fits binary32 x) → T (finite x) → Signed x
signed_of x w t =
    let p = pattern x in
    let e : of_bits binary32 p ≡ x = of_bits-to_bits binary32 x w in
    let h : p % 2 ^ 31 < 255 * 2 ^ 23 = field_under p (subst (λ (y : Float). T (finite y)) (sym e) t) in
    let l : p < 2 ^ 32 = to_bits-lt binary32 x w in
    let m : magnitude x ≡ p % 2 ^ 31 = and_mask p 31 in
    elim (eq-zero-or-pos (p / 2 ^ 31)) [
      | inl z ↦ positive (low p z) (m ∙ (omega (arith, low p z))) (ap val (sym e) ∙ pattern_positive p h (low p z))
      | inr g ↦ negative (high p g) ((omega (arith, high p g)) ∙ ap (λ (n : ℕ). 2 ^ 31 + n) (sym m)) (ap val (sym e) ∙ pattern_negative p h (high p g) ∙ ap (λ (n : ℕ). -q◌ (sized n)) (sym m))
    ]
  where
    low : (p : ℕ) → p / 2 ^ 31 ≡ 0 → p < 2 ^ 31
    low p z = omega arith

    high : (p : ℕ) → 0 < p / 2 ^ 31 → 2 ^ 31 ≤ p
    high p g = omega arith

-- ---- a finite f32 is no NaN, and is of the size that its pattern says
pub numberless : (x : Float) → T (finite x) → T (not (is_nan x))
unfolding is_nan
numberless (fin s m e) t = tt
numberless _ t = absurd t

pub decide : (b : Bool) → T b ⊎ T (not b)
decide true = inl tt
decide false = inr tt

nn_sized : (p : ℕ) → T (nn (sized p))
nn_sized p = nn_frac (size_of p) (2 ^ 149) (pow_pos 149)

pub sized_bound : (x : Float) → T (fits binary32 x) → T (finite x) → Bound (val x) (sized (magnitude x))
sized_bound x w t = elim (signed_of x w t) [
  | positive l m v ↦ subst (λ (u : ℚ). Bound u (sized (magnitude x))) (sym (v ∙ ap (λ (n : ℕ). sized n) (sym m))) (bound_self (nn_sized (magnitude x)))
  | negative l m v ↦ subst (λ (u : ℚ). Bound u (sized (magnitude x))) (sym v) (bound_neg (bound_self (nn_sized (magnitude x))))
]

pub sized_size : (x : Float) → T (fits binary32 x) → T (finite x) → absq (val x) ≡ sized (magnitude x)
sized_size x w t = elim (signed_of x w t) [
  | positive l m v ↦ ap absq (v ∙ ap (λ (n : ℕ). sized n) (sym m)) ∙ abs_nn (sized (magnitude x)) (nn_sized (magnitude x))
  | negative l m v ↦ ap absq (v ∙ frac_neg (size_of (magnitude x)) (2 ^ 149) (pow_pos 149)) ∙ abs_frac true (size_of (magnitude x)) (2 ^ 149) (pow_pos 149)
]

-- a zero of either sign
pub zero_pattern : (s : Bool) (m : ℕ) (e : ℤ) → m ≡ 0 → magnitude (fin s m e) ≡ 0
unfolding size
zero_pattern s m e z = ap (λ (p : ℕ). bit_and p 0x7fff_ffff) (pattern_is s m e 0 (ap (λ (n : ℕ). n * up e * 2 ^ 149) z ∙ omega arith)) ∙ go s
  where
    go : (s : Bool) → bit_and (cond s 2147483648 0 + pattern_of 0) 0x7fff_ffff ≡ 0
    go false = refl
    go true = refl
