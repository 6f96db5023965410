-- From which number on a rounding gives an infinity: 2 ^ (emax + 1) less half a unit of the largest values, both ways.
use Rattle.std.proofs.Common.{◌≡◌, ℕ, zero, suc, ◌+◌, ◌-◌, ◌*◌, ◌^◌, ◌<◌, ◌≤◌, Bool, false, T, ltb, [], ◌∷◌, pos, sym, refl, ap, ◌∙◌, subst, inl, inr, le_trans, le_of_eq, lt_of_lt_of_le, mul-le-mul_right, zero-lt-suc, mul_assoc, lt_of_not-le, mul-one, mul_right_comm, not-le_of_lt, le_of_mul-le-mul_right, arith, lit≤, ltb→lt, pow_pos}
use Rattle.std.specs.Float.{Float, inf, Format, binary32, binary64}
use Rattle.std.specs.Float.Ieee.{prec, emax, low, units, round, le}
use Rattle.std.specs.Float.Ieee.Fits.{round_is}
use Rattle.std.specs.Float.Ieee.Bits.{cond_no}
use Rattle.std.specs.Float.Ieee.Exact.{HasValue}
use Rattle.std.specs.Float.Ieee.Order.{round_mono}
use Rattle.std.specs.Float.Ieee.Scale.{grid, overflow}
use Rattle.std.proofs.Math.Dec.{not_T}
use Rattle.std.proofs.lemmas.Bool.{cases_lt}
use Rattle.exact.proofs.Ring.{con, ◌⊕◌, ◌⊖◌, ◌⊗◌, ⊝, norm}
use Rattle.exact.proofs.Integer.{x₀, x₁, x₂, x₃}
use Rattle.exact.proofs.Rational.{ℚ, ◌+q◌, ◌*q◌, -q◌, ◌-q◌, ofℤ, qring}
use Rattle.exact.proofs.Order.{nn, nn_add, nn_mul, ◌≤q◌, le_by, q_mul, q_total}
use Rattle.exact.proofs.Bound.{ofℕ, Bound, bound_more}
use Rattle.rounding.proofs.Fractions.{frac, frac_le, frac_le_out}
use Rattle.rounding.proofs.HalfUnit.{round_value}
use Rattle.rounding.proofs.Error.{mul_pos2}
use Rattle.rounding.proofs.Narrow.{over}

-- the limit as a whole number, and the exponent of half a unit below it, in smallest values
abbrev pub limitℕ : Format → ℕ
limitℕ f = 2 ^ suc (emax f) - 2 ^ (emax f - prec f)

abbrev last : Format → ℕ
last f = low f + suc (emax f) - prec f

overflow_is : (f : Format) → overflow f ≡ 2 ^ prec f * 2 ^ last f
overflow_is binary32 = refl
overflow_is binary64 = refl

limit_is : (f : Format) → limitℕ f * (2 ^ low f * 2) ≡ (2 * 2 ^ prec f - 1) * 2 ^ last f
limit_is binary32 = refl
limit_is binary64 = refl

largest_under : (f : Format) → (2 ^ prec f - 1) * 2 ^ last f < overflow f
largest_under binary32 = lit≤ tt
largest_under binary64 = lit≤ tt

-- ---- what overflows is at least the limit: it is not below the midpoint of the largest value and 2 ^ (emax + 1)
pub overflow_from : (f : Format) (a c : ℕ) → 0 < c → overflow f ≤ grid f a c → limitℕ f * c ≤ a
overflow_from f a c C h =
    let P = 2 ^ prec f in
    let U = 2 ^ last f in
    let L = 2 ^ low f * 2 in
    let k : grid f a c * c + (P - 1) * U * c ≤ a * 2 ^ low f * 2 = over f a c (P - 1) (last f) C (omega arith) (lt_of_lt_of_le (largest_under f) h) in
    let m : limitℕ f * L * c ≤ a * 2 ^ low f * 2 = go (grid f a c) c (a * 2 ^ low f * 2) P U (limitℕ f * L) (pow_pos (prec f)) (subst (λ (z : ℕ). z ≤ grid f a c) (overflow_is f) h) k (limit_is f) in
    le_of_mul-le-mul_right (le_trans (le_of_eq (mul_right_comm (limitℕ f) c L)) (le_trans m (le_of_eq (mul_assoc a (2 ^ low f) 2)))) (mul_pos2 (2 ^ low f) (pow_pos (low f)))
  where
    go : (g c n P U M : ℕ) → 0 < P → P * U ≤ g → g * c + (P - 1) * U * c ≤ n → M ≡ (2 * P - 1) * U → M * c ≤ n
    go g c n zero U M p h k e = absurd (omega arith)
    go g c n (suc P) U M p h k e =
        let x : suc P * U * c ≤ g * c = mul-le-mul_right c h in
        let y : M * c ≡ (2 * suc P - 1) * U * c = ap (λ (z : ℕ). z * c) e in
        let z : (2 * suc P - 1) * U * c ≡ (2 * P + 1) * U * c = ap (λ (z : ℕ). z * U * c) {x = 2 * suc P - 1} {y = 2 * P + 1} (omega arith) in
        let k' : g * c + P * U * c ≤ n = subst (λ (z : ℕ). g * c + z * U * c ≤ n) {x = suc P - 1} {y = P} (omega arith) k in
        omega arith

-- ---- and from the limit on everything overflows
top_infinite : (f : Format) → round f false (limitℕ f) 1 ≡ inf false
unfolding round
top_infinite binary32 = refl
top_infinite binary64 = refl

above_infinity : (x : Float) → T (le (inf false) x) → x ≡ inf false
unfolding le
above_infinity (inf false) t = refl
above_infinity _ t = absurd t

pub infinite_from : (f : Format) (a c : ℕ) → 0 < c → limitℕ f * c ≤ a → overflow f ≤ grid f a c
infinite_from f a c C h = elim (cases_lt (grid f a c) (overflow f)) [
  | inl l ↦
      absurd (subst (λ (x : Float). HasValue x false (grid f a c) (2 ^ low f))
      (above_infinity (round f false a c) (subst (λ (x : Float). T (le x (round f false a c))) (top_infinite f) (round_mono f (limitℕ f) 1 a c (zero-lt-suc 0) C (le_trans h (le_of_eq (sym (mul-one a)))))))
      (round_value f false a c l))
  | inr g ↦ g
]

pub overflow_infinite : (f : Format) (s : Bool) (a c : ℕ) → overflow f ≤ grid f a c → round f s a c ≡ inf s
unfolding units
overflow_infinite f s a c h = round_is f s a c ∙ cond_no (ltb (grid f a c) (overflow f)) _ _ (not_T (ltb (grid f a c) (overflow f)) (λ t. not-le_of_lt (ltb→lt (grid f a c) (overflow f) t) h))

-- ---- in rationals
module _ (f : Format) (s : Bool) (a c : ℕ) (C : 0 < c) where
  pub round_infinite : ofℕ (limitℕ f) ≤q frac false a c C → round f s a c ≡ inf s
  unfolding ofℕ ofℤ
  round_infinite h = overflow_infinite f s a c (infinite_from f a c C (le_trans (frac_le_out (limitℕ f) 1 a c (zero-lt-suc 0) C h) (le_of_eq (mul-one a))))

  pub round_finite : (ofℕ (limitℕ f) ≤q frac false a c C → ⊥) → grid f a c < overflow f
  unfolding ofℕ ofℤ
  round_finite h = lt_of_not-le (λ (g : overflow f ≤ grid f a c). h (frac_le (limitℕ f) 1 a c (zero-lt-suc 0) C (le_trans (overflow_from f a c C g) (le_of_eq (sym (mul-one a))))))

-- ---- with the number z that is rounded near v
-- within e of v: e above the limit, and e below it
pub above_limit : {z v e L : ℚ} → Bound (z -q v) e → L +q e ≤q v → L ≤q z
unfolding norm ◌-q◌
above_limit {z} {v} {e} {L} b h = le_by ((z -q v -q (-q◌ e)) +q (v -q (L +q e))) (nn_add _ _ b.lo.le h.le) (qring (x₀ ⊖ x₃) ((x₀ ⊖ x₁ ⊖ ⊝ x₂) ⊕ (x₁ ⊖ (x₃ ⊕ x₂))) refl (z ∷ v ∷ e ∷ L ∷ []))

pub below_limit : (v : ℚ) {z e L : ℚ} → Bound (z -q v) e → L ≤q z → L ≤q v +q e
unfolding norm ◌-q◌
below_limit v {z} {e} {L} b h = le_by ((e -q (z -q v)) +q (z -q L)) (nn_add _ _ b.hi.le h.le) (qring (x₁ ⊕ x₂ ⊖ x₃) ((x₂ ⊖ (x₀ ⊖ x₁)) ⊕ (x₀ ⊖ x₃)) refl (z ∷ v ∷ e ∷ L ∷ []))

-- within k z of v, for a k from 0 to 1
pub above_limit_relative : {z v L : ℚ} (k : ℚ) → T (nn k) → Bound (z -q v) (k *q z) → L +q k *q L ≤q v → L ≤q z
unfolding norm ◌-q◌
above_limit_relative {z} {v} {L} k nk b h = elim (q_total L z) [
  | inl g ↦ g
  | inr g ↦ above_limit (bound_more b (q_mul k nk g)) h
]

pub below_limit_relative : {z v L : ℚ} (k : ℚ) → T (nn (ofℤ (pos 1) -q k)) → Bound (z -q v) (k *q z) → L ≤q z → (ofℤ (pos 1) -q k) *q L ≤q v
unfolding norm ◌-q◌
below_limit_relative {z} {v} {L} k nk b h =
    le_by ((k *q z -q (z -q v)) +q (ofℤ (pos 1) -q k) *q (z -q L)) (nn_add _ _ b.hi.le (nn_mul (ofℤ (pos 1) -q k) (z -q L) nk h.le))
    (qring (x₁ ⊖ (con (pos 1) ⊖ x₃) ⊗ x₂) ((x₃ ⊗ x₀ ⊖ (x₀ ⊖ x₁)) ⊕ (con (pos 1) ⊖ x₃) ⊗ (x₀ ⊖ x₂)) refl (z ∷ v ∷ L ∷ k ∷ []))
