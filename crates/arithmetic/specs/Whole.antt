-- The nearest whole number, halves away from zero: it is the same for equal fractions, and there is only one.
use Rattle.std.specs.Prelude.{◌≡◌, ℕ, suc, ◌+◌, ◌*◌, ◌/◌, ◌%◌, ◌<◌, ◌≤◌, Bool, true, false, not, [], ◌∷◌, ℤ, pos, negsuc, ◌+ℤ◌, ◌*ℤ◌, neg_ℤ, unsigned_abs, refl}
use Rattle.std.proofs.Common.{sym, ap, subst, ◌∙◌, inl, inr, le_of_mul-le-mul_right, mul-le-mul_right, le-div_iff_mul-le, div-lt_iff_lt-mul, mod-lt, arith}
use Rattle.std.proofs.Math.Nat.{eq_of_mul-eq-mul_right, div-add-mod}
use Rattle.std.proofs.lemmas.Int.{ints}
use Rattle.exact.specs.Fraction.{Fraction, Same, integer, absolute, ◌≼◌}
use Rattle.exact.proofs.Ring.{con, ◌⊕◌, ◌⊗◌, ⊝, norm}
use Rattle.exact.proofs.Integer.{zring, x₀, x₁, x₂, x₃}
use Rattle.rounding.specs.Values.{signed}
use Rattle.rounding.specs.Whole.{NearWhole, AtHalf, NearestAway}
use Rattle.arithmetic.specs.Signs.{order, dist, ratio, signed_size, gap_over, sum_over, size_mul}

-- the size of q - z, in parts of q's denominator
abbrev off : Fraction → ℤ → ℕ
off q z = unsigned_abs (q.num *ℤ pos 1 +ℤ neg_ℤ z *ℤ pos q.den)

near_out : (q : Fraction) (z : ℤ) → NearWhole q z → 2 * off q z ≤ q.den
near_out q z h = omega (arith, ints, h)

near_in : (q : Fraction) (z : ℤ) → 2 * off q z ≤ q.den → NearWhole q z
near_in q z h = omega (arith, ints, h)

half_out : (q : Fraction) (z : ℤ) → AtHalf q z → 2 * off q z ≡ q.den
half_out q z h = omega (arith, ints, h)

half_in : (q : Fraction) (z : ℤ) → 2 * off q z ≡ q.den → AtHalf q z
half_in q z h = omega (arith, ints, h)

away_out : (q : Fraction) (z : ℤ) → absolute q ≼ absolute (integer z) → unsigned_abs q.num ≤ unsigned_abs z * q.den
away_out q z h = omega (arith, ints, h)

away_in : (q : Fraction) (z : ℤ) → unsigned_abs q.num ≤ unsigned_abs z * q.den → absolute q ≼ absolute (integer z)
away_in q z h = omega (arith, ints, h)

-- ---- equal fractions
off_same : (q r : Fraction) (z : ℤ) → Same q r → off q z * r.den ≡ off r z * q.den
unfolding norm
off_same q r z e =
    let Q = pos q.den in
    let R = pos r.den in
    sym (size_mul (q.num *ℤ pos 1 +ℤ neg_ℤ z *ℤ Q) r.den)
    ∙ ap unsigned_abs
    (zring ((x₀ ⊗ con (pos 1) ⊕ ⊝ x₂ ⊗ x₁) ⊗ x₃) (x₀ ⊗ x₃ ⊕ ⊝ x₂ ⊗ x₁ ⊗ x₃) refl (q.num ∷ Q ∷ z ∷ R ∷ [])
    ∙ ap (λ (w : ℤ). w +ℤ neg_ℤ z *ℤ Q *ℤ R) e
    ∙ zring (x₀ ⊗ x₁ ⊕ ⊝ x₂ ⊗ x₁ ⊗ x₃) ((x₀ ⊗ con (pos 1) ⊕ ⊝ x₂ ⊗ x₃) ⊗ x₁) refl (r.num ∷ Q ∷ z ∷ R ∷ []))
    ∙ size_mul (r.num *ℤ pos 1 +ℤ neg_ℤ z *ℤ R) q.den

size_same : (q r : Fraction) → Same q r → unsigned_abs q.num * r.den ≡ unsigned_abs r.num * q.den
size_same q r e = sym (size_mul q.num r.den) ∙ ap unsigned_abs e ∙ size_mul r.num q.den

pub nearest_same : (q r : Fraction) (z : ℤ) → Same q r → NearestAway q z → NearestAway r z
nearest_same q r z e h =
    let o = off_same q r z e in
    record {
      near = near_in r z (carry (off q z) (off r z) q.den r.den q.ok o (near_out q z h.near));
      away = λ t. away_in r z (size (unsigned_abs q.num) (unsigned_abs r.num) (unsigned_abs z) q.den r.den q.ok (size_same q r e)
          (away_out q z (h.away (half_in q z (back (off q z) (off r z) q.den r.den r.ok o (half_out r z t))))));
    }
  where
    carry : (a b c d : ℕ) → 0 < c → a * d ≡ b * c → 2 * a ≤ c → 2 * b ≤ d
    carry a b c d p e h = le_of_mul-le-mul_right {m = 2 * b} {n = d} {k = c} (let k : 2 * a * d ≤ c * d = mul-le-mul_right d h in omega arith) p

    back : (a b c d : ℕ) → 0 < d → a * d ≡ b * c → 2 * b ≡ d → 2 * a ≡ c
    back a b c d p e h = eq_of_mul-eq-mul_right d p (2 * a) c (let k : 2 * b * c ≡ d * c = ap (λ (x : ℕ). x * c) h in omega arith)

    size : (a b z c d : ℕ) → 0 < c → a * d ≡ b * c → a ≤ z * c → b ≤ z * d
    size a b z c d p e h = le_of_mul-le-mul_right {m = b} {n = z * d} {k = c} (let k : a * d ≤ z * c * d = mul-le-mul_right d h in omega arith) p

-- ---- only one
-- a / d to the nearest whole number, halves up
abbrev pub halves : ℕ → ℕ → ℕ
halves a d = (2 * a + d) / (2 * d)

pub twice_pos : (d : ℕ) → 0 < d → 0 < 2 * d
twice_pos d p = omega arith

-- the remainder says how far it is
pub halves_split : (a d : ℕ) → 0 < d → (r : ℕ) × (2 * a + d ≡ 2 * (halves a d * d) + r) × (r < 2 * d)
halves_split a d p =
    ((2 * a + d) % (2 * d), regroup (2 * a + d) (2 * d) d (halves a d) ((2 * a + d) % (2 * d)) refl (div-add-mod (2 * a + d) (2 * d)), mod-lt (2 * a + d) (twice_pos d p))
  where
    regroup : (n u d h r : ℕ) → u ≡ 2 * d → u * h + r ≡ n → n ≡ 2 * (h * d) + r
    regroup n u d h r q e = let k : u * h ≡ 2 * d * h = ap (λ (x : ℕ). x * h) q in omega arith

pub halves_near : (a d : ℕ) → 0 < d → 2 * dist a (halves a d * d) ≤ d
halves_near a d p = let k = halves_split a d p in at a d (halves a d) k.0 k.1 k.2
  where
    at : (a d h r : ℕ) → 2 * a + d ≡ 2 * (h * d) + r → r < 2 * d → 2 * dist a (h * d) ≤ d
    at a d h r e l = omega arith

low : (a d k : ℕ) → 2 * dist (a * 1) (k * d) ≤ d → k * (2 * d) ≤ 2 * a + d
low a d k h = omega arith

strict : (a d k : ℕ) → 0 < d → 2 * dist (a * 1) (k * d) ≤ d → (2 * dist (a * 1) (k * d) ≡ d → a ≤ k * d) → 2 * a < 2 * (k * d) + d
strict a d k p h t = elim (order (2 * a) (2 * (k * d) + d)) [
  | inl l ↦ l
  | inr g ↦ let e : 2 * dist (a * 1) (k * d) ≡ d = omega arith in let b = t e in absurd (omega arith)
]

pub halves_is : (a d k : ℕ) → 0 < d → 2 * dist (a * 1) (k * d) ≤ d → (2 * dist (a * 1) (k * d) ≡ d → a ≤ k * d) → k ≡ halves a d
halves_is a d k p near away =
    let s = strict a d k p near away in
    let l : k ≤ halves a d = (le-div_iff_mul-le (twice_pos d p)).1 (low a d k near) in
    let u : halves a d < k + 1 = (div-lt_iff_lt-mul (twice_pos d p)).1 (omega arith) in
    omega arith

-- the nearest whole number of a fraction with the sign s has that sign, or is 0
pub nearest_is : (s : Bool) (a d : ℕ) (D : 0 < d) (z : ℤ) → NearestAway (ratio s a d D) z → z ≡ signed s (halves a d)
nearest_is s a d D z h = go s z (near_out (ratio s a d D) z h.near) (λ t. away_out (ratio s a d D) z (h.away (half_in (ratio s a d D) z t)))
  where
    like : (s : Bool) (k : ℕ) → 2 * off (ratio s a d D) (signed s k) ≤ d
        → (2 * off (ratio s a d D) (signed s k) ≡ d → unsigned_abs (signed s a) ≤ unsigned_abs (signed s k) * d) → signed s k ≡ signed s (halves a d)
    like s k n t =
        let g = gap_over s a k d 1 in
        ap (signed s) (halves_is a d k D (subst (λ (x : ℕ). 2 * x ≤ d) g n)
        (λ e. subst (λ (x : ℕ). x ≤ k * d) (signed_size s a) (subst (λ (x : ℕ). unsigned_abs (signed s a) ≤ x * d) (signed_size s k) (t (ap (λ (x : ℕ). 2 * x) g ∙ e)))))

    -- unlike signs leave only 0, and less than a half
    none : (s : Bool) (k : ℕ) → 2 * off (ratio s a d D) (signed (not s) k) ≤ d → k ≡ 0
    none s k n = elim (order 0 k) [
      | inl l ↦ let b : 1 * d ≤ k * d = mul-le-mul_right d l in let c = subst (λ (x : ℕ). 2 * x ≤ d) (sum_over s a k d 1) n in absurd (omega arith)
      | inr g ↦ (omega arith)
    ]

    go : (s : Bool) (z : ℤ) → 2 * off (ratio s a d D) z ≤ d
        → (2 * off (ratio s a d D) z ≡ d → unsigned_abs (signed s a) ≤ unsigned_abs z * d) → z ≡ signed s (halves a d)
    go false (pos k) n t = like false k n t
    go false (negsuc k) n t = let e : suc k ≡ 0 = none false (suc k) n in absurd (omega arith)
    go true (negsuc k) n t = like true (suc k) n t
    go true (pos k) n t = let e = none true k n in ap pos e ∙ like true 0 (subst (λ (x : ℕ). 2 * off (ratio true a d D) (pos x) ≤ d) e n)
        (subst (λ (x : ℕ). 2 * off (ratio true a d D) (pos x) ≡ d → unsigned_abs (signed true a) ≤ x * d) e t)
