-- The number of an f32 by its pattern: a larger pattern, its sign aside, is a larger number.
use Rattle.std.proofs.Common.{◌≡◌, ℕ, zero, suc, ◌+◌, ◌*◌, ◌/◌, ◌%◌, ◌^◌, ◌<◌, ◌≤◌, Bool, false, T, eqb, leb, sym, refl, ap, ◌∙◌, subst, ap₂, inl, inr, le_trans, mul-le-mul_right, mul-le-mul, pow-suc, ne_of_lt, arith, le→leb, eqb→eq, leb→le, pow_pos, pow_mono}
use Rattle.std.specs.Float.{Float, Format, binary32}
use Rattle.std.specs.Float.Ieee.{prec, low, hid, ones, top, of_bits, of_fields}
use Rattle.std.specs.Float.Ieee.Bits.{cond_no, is_true, is_false}
use Rattle.std.specs.Float.Ieee.Exact.{HasValue, odd_sign}
use Rattle.std.specs.Float.Ieee.Scale.{finite}
use Rattle.std.proofs.Math.Dec.{not_T}
use Rattle.std.proofs.lemmas.Bool.{cases_lt}
use Rattle.exact.proofs.Rational.{ℚ, -q◌}
use Rattle.exact.proofs.Bound.{Bound}
use Rattle.rounding.proofs.Fractions.{frac, frac_le, signed_size, frac_neg}
use Rattle.rounding.proofs.Value.{val, value_is, finite_is}
use Rattle.rounding.proofs.Multiple.{Away}
use Rattle.exact.proofs.Order.{◌≤q◌}

-- ---- an exponent's field from 1 on, and 0
pub pattern_normal : (f : Format) (b x : ℕ) → b % top f / hid f ≡ suc x → suc x < ones f → HasValue (of_bits f b) (leb (top f) b) ((hid f + b % hid f) * 2 ^ x) (2 ^ low f)
unfolding of_bits of_fields
pattern_normal f b x e l =
    subst (λ (k : ℕ). HasValue (of_fields f (leb (top f) b) k (b % hid f)) (leb (top f) b) ((hid f + b % hid f) * 2 ^ x) (2 ^ low f)) (sym e)
    (subst (λ (v : Float). HasValue v (leb (top f) b) ((hid f + b % hid f) * 2 ^ x) (2 ^ low f)) (sym (cond_no (eqb (suc x) (ones f)) _ _ (not_T (eqb (suc x) (ones f)) (λ t. ne_of_lt l (eqb→eq (suc x) (ones f) t)))))
    (odd_sign (prec f) (leb (top f) b) (hid f + b % hid f) x (low f)))

pub pattern_small : (f : Format) (b : ℕ) → b % top f / hid f ≡ 0 → HasValue (of_bits f b) (leb (top f) b) (b % hid f * 2 ^ 0) (2 ^ low f)
unfolding of_bits of_fields
pattern_small f b e =
    subst (λ (k : ℕ). HasValue (of_fields f (leb (top f) b) k (b % hid f)) (leb (top f) b) (b % hid f * 2 ^ 0) (2 ^ low f)) (sym e)
    (odd_sign (prec f) (leb (top f) b) (b % hid f) 0 (low f))

-- the number of smallest values: of an exponent's field and digits, and of a pattern without its sign
abbrev pub weigh : ℕ → ℕ → ℕ
weigh zero t = t * 2 ^ 0
weigh (suc x) t = (2 ^ 23 + t) * 2 ^ x

abbrev pub size_of : ℕ → ℕ
size_of b = weigh (b / 2 ^ 23) (b % 2 ^ 23)

weigh_high : (e t : ℕ) → t < 2 ^ 23 → weigh e t ≤ 2 ^ 23 * 2 ^ e
weigh_high zero t h = omega arith
weigh_high (suc x) t h = subst (λ (u : ℕ). (2 ^ 23 + t) * 2 ^ x ≤ 2 ^ 23 * u) (sym (pow-suc 2 x)) (go t (2 ^ x) h)
  where
    go : (t u : ℕ) → t < 2 ^ 23 → (2 ^ 23 + t) * u ≤ 2 ^ 23 * (u * 2)
    go t u h = let k : (2 ^ 23 + t) * u ≤ 2 ^ 24 * u = mul-le-mul_right u (omega arith) in omega arith

weigh_low : (e x t : ℕ) → e ≤ x → 2 ^ 23 * 2 ^ e ≤ weigh (suc x) t
weigh_low e x t h = mul-le-mul (omega arith) (pow_mono h)

weigh_same : (e t u : ℕ) → t ≤ u → weigh e t ≤ weigh e u
weigh_same zero t u h = omega arith
weigh_same (suc x) t u h = mul-le-mul_right (2 ^ x) (omega arith)

weigh_mono : (e t f u : ℕ) → t < 2 ^ 23 → e * 2 ^ 23 + t ≤ f * 2 ^ 23 + u → u < 2 ^ 23 → weigh e t ≤ weigh f u
weigh_mono e t zero u l h k =
    let z : e ≡ 0 = omega arith in
    let m : t ≤ u = omega arith in
    subst (λ (w : ℕ). weigh w t ≤ weigh 0 u) (sym z) (weigh_same 0 t u m)
weigh_mono e t (suc x) u l h k = elim (cases_lt x e) [
  | inl g ↦
      let z : e ≡ suc x = omega arith in
      let m : t ≤ u = omega arith in
      subst (λ (w : ℕ). weigh w t ≤ weigh (suc x) u) (sym z) (weigh_same (suc x) t u m)
  | inr g ↦ le_trans (weigh_high e t l) (weigh_low e x u g)
]

pub size_mono : (b c : ℕ) → b ≤ c → size_of b ≤ size_of c
size_mono b c h = weigh_mono (b / 2 ^ 23) (b % 2 ^ 23) (c / 2 ^ 23) (c % 2 ^ 23) (omega arith) (omega arith) (omega arith)

-- the value of a pattern
pub pattern_value : (p : ℕ) → p % 2 ^ 31 < 255 * 2 ^ 23 → HasValue (of_bits binary32 p) (leb (2 ^ 31) p) (size_of (p % 2 ^ 31)) (2 ^ 149)
pattern_value p h = go (p % 2 ^ 31 / 2 ^ 23) refl
  where
    digits : p % 2 ^ 31 % 2 ^ 23 ≡ p % 2 ^ 23
    digits = omega arith

    go : (e : ℕ) → p % 2 ^ 31 / 2 ^ 23 ≡ e → HasValue (of_bits binary32 p) (leb (2 ^ 31) p) (weigh (p % 2 ^ 31 / 2 ^ 23) (p % 2 ^ 31 % 2 ^ 23)) (2 ^ 149)
    go zero q = subst (λ (n : ℕ). HasValue (of_bits binary32 p) (leb (2 ^ 31) p) n (2 ^ 149)) (sym (ap₂ weigh q digits)) (pattern_small binary32 p q)
    go (suc x) q = subst (λ (n : ℕ). HasValue (of_bits binary32 p) (leb (2 ^ 31) p) n (2 ^ 149)) (sym (ap₂ weigh q digits)) (pattern_normal binary32 p x q (omega arith))

-- the size of a pattern as a number
abbrev pub sized : ℕ → ℚ
sized b = frac false (size_of b) (2 ^ 149) (pow_pos 149)

pub sized_mono : (b c : ℕ) → b ≤ c → sized b ≤q sized c
sized_mono b c h = frac_le (size_of b) (2 ^ 149) (size_of c) (2 ^ 149) (pow_pos 149) (pow_pos 149) (mul-le-mul_right (2 ^ 149) (size_mono b c h))

module _ (p : ℕ) (h : p % 2 ^ 31 < 255 * 2 ^ 23) where
  abbrev n : ℕ
  n = size_of (p % 2 ^ 31)

  pub pattern_finite : T (finite (of_bits binary32 p))
  pattern_finite = finite_is (of_bits binary32 p) (leb (2 ^ 31) p) _ _ (pattern_value p h)

  pub pattern_is : val (of_bits binary32 p) ≡ frac (leb (2 ^ 31) p) n (2 ^ 149) (pow_pos 149)
  pattern_is = value_is (of_bits binary32 p) (leb (2 ^ 31) p) _ _ (pow_pos 149) (pattern_value p h)

  -- at least the pattern c, which is at least 2 ^ -k
  pub pattern_away : (k c : ℕ) → c ≤ p % 2 ^ 31 → 2 ^ 149 ≤ size_of c * 2 ^ k → Away k (val (of_bits binary32 p))
  pattern_away k c l g = record { s = leb (2 ^ 31) p; a = n; c = 2 ^ 149; ok = pow_pos 149; how = pattern_is; far = inr (le_trans g (mul-le-mul_right (2 ^ k) (size_mono c (p % 2 ^ 31) l))) }

  -- at most the pattern c, which is at most u / v
  pub pattern_bound : (c u v : ℕ) (V : 0 < v) → p % 2 ^ 31 ≤ c → size_of c * v ≤ u * 2 ^ 149 → Bound (val (of_bits binary32 p)) (frac false u v V)
  pattern_bound c u v V l g = subst (λ (x : ℚ). Bound x (frac false u v V)) (sym pattern_is) (signed_size (leb (2 ^ 31) p) n (2 ^ 149) (pow_pos 149) _ (frac_le n (2 ^ 149) u v (pow_pos 149) V (le_trans (mul-le-mul_right v (size_mono (p % 2 ^ 31) c l)) g)))

  -- a positive pattern, and one with the sign set
  pub pattern_positive : p < 2 ^ 31 → val (of_bits binary32 p) ≡ sized p
  pattern_positive l = pattern_is ∙ ap₂ (λ (s : Bool) (b : ℕ). frac s (size_of b) (2 ^ 149) (pow_pos 149)) (is_false (leb (2 ^ 31) p) (not_T (leb (2 ^ 31) p) (λ t. clash (leb→le (2 ^ 31) p t) l))) (omega arith)
    where
      clash : 2 ^ 31 ≤ p → p < 2 ^ 31 → ⊥
      clash a b = omega arith

  pub pattern_negative : 2 ^ 31 ≤ p → val (of_bits binary32 p) ≡ -q◌ (sized (p % 2 ^ 31))
  pattern_negative l = pattern_is ∙ ap (λ (s : Bool). frac s n (2 ^ 149) (pow_pos 149)) (is_true (leb (2 ^ 31) p) (le→leb (2 ^ 31) p l)) ∙ sym (frac_neg n (2 ^ 149) (pow_pos 149))
