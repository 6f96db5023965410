-- Whole numbers with a sign: products, differences and their sizes.
use Rattle.std.specs.Prelude.{◌≡◌, ℕ, zero, suc, ◌+◌, ◌-◌, ◌*◌, ◌<◌, ◌≤◌, Bool, true, false, not, ◌⊎◌, [], ◌∷◌, ℤ, pos, negsuc, ◌+ℤ◌, ◌*ℤ◌, neg_ℤ, unsigned_abs, refl}
use Rattle.std.proofs.Common.{sym, ap, ap₂, ◌∙◌, inl, inr, eq-zero-or-pos, mul_comm, add-mul, arith}
use Rattle.std.proofs.Math.Nat.{mul-sub}
use Rattle.std.proofs.Math.IntN.{negsuc-*ℤ-pos, +ℤ_comm}
use Rattle.std.proofs.lemmas.Int.{ints}
use Rattle.exact.specs.Fraction.{Fraction}
use Rattle.exact.proofs.Ring.{◌⊗◌, ⊝, norm}
use Rattle.exact.proofs.Integer.{zring, x₀, x₁}
use Rattle.rounding.specs.Values.{signed}

-- ±a / c
abbrev pub ratio : Bool → ℕ → (c : ℕ) → 0 < c → Fraction
ratio s a c C = record { num = signed s a; den = c; ok = C }

-- the distance of two numbers
abbrev pub dist : ℕ → ℕ → ℕ
dist a b = (a - b) + (b - a)

pub order : (a b : ℕ) → (a < b) ⊎ (b ≤ a)
order a b = elim (eq-zero-or-pos (b - a)) [ inl z ↦ inr (omega arith) | inr p ↦ inl (omega arith) ]

pub signed_mul : (s : Bool) (a c : ℕ) → signed s a *ℤ pos c ≡ signed s (a * c)
unfolding norm
signed_mul false a c = refl
signed_mul true a c = zring (⊝ x₀ ⊗ x₁) (⊝ (x₀ ⊗ x₁)) refl (pos a ∷ pos c ∷ [])

pub signed_size : (s : Bool) (a : ℕ) → unsigned_abs (signed s a) ≡ a
signed_size false a = refl
signed_size true zero = refl
signed_size true (suc a) = refl

pub less_le : {a b : ℕ} → a < b → a ≤ b
less_le l = omega arith

pub over : (a b : ℕ) → b ≤ a → pos a +ℤ neg_ℤ (pos b) ≡ pos (a - b)
over a b h = omega (arith, ints)

pub under : (a b : ℕ) → a ≤ b → pos a +ℤ neg_ℤ (pos b) ≡ neg_ℤ (pos (b - a))
under a b h = omega (arith, ints)

gap_pos : (a b : ℕ) → unsigned_abs (pos a +ℤ neg_ℤ (pos b)) ≡ dist a b
gap_pos a b = elim (order a b) [
  | inl l ↦ ap unsigned_abs (under a b (omega arith)) ∙ signed_size true (b - a) ∙ omega arith
  | inr g ↦ ap unsigned_abs (over a b g) ∙ omega arith
]

swap : (a b : ℕ) → neg_ℤ (pos a) +ℤ neg_ℤ (neg_ℤ (pos b)) ≡ neg_ℤ (pos a +ℤ neg_ℤ (pos b))
swap a b = omega (arith, ints)

negℤ_size : (z : ℤ) → unsigned_abs (neg_ℤ z) ≡ unsigned_abs z
negℤ_size (pos zero) = refl
negℤ_size (pos (suc n)) = refl
negℤ_size (negsuc n) = refl

-- the distance of two numbers of one sign
pub gap : (s : Bool) (a b : ℕ) → unsigned_abs (signed s a +ℤ neg_ℤ (signed s b)) ≡ dist a b
gap false a b = gap_pos a b
gap true a b = ap unsigned_abs (swap a b) ∙ negℤ_size (pos a +ℤ neg_ℤ (pos b)) ∙ gap_pos a b

pub neg_mul : (z : ℤ) (c : ℕ) → neg_ℤ z *ℤ pos c ≡ neg_ℤ (z *ℤ pos c)
unfolding norm
neg_mul z c = zring (⊝ x₀ ⊗ x₁) (⊝ (x₀ ⊗ x₁)) refl (z ∷ pos c ∷ [])

-- the same of two fractions over their denominators
pub gap_over : (s : Bool) (a b c d : ℕ) → unsigned_abs (signed s a *ℤ pos d +ℤ neg_ℤ (signed s b) *ℤ pos c) ≡ dist (a * d) (b * c)
gap_over s a b c d = ap unsigned_abs (ap₂ (λ (x y : ℤ). x +ℤ y) (signed_mul s a d) (neg_mul (signed s b) c ∙ ap neg_ℤ (signed_mul s b c))) ∙ gap s (a * d) (b * c)

pub size_mul : (z : ℤ) (c : ℕ) → unsigned_abs (z *ℤ pos c) ≡ unsigned_abs z * c
size_mul (pos n) c = refl
size_mul (negsuc n) c = ap unsigned_abs (negsuc-*ℤ-pos n c) ∙ signed_size true (suc n * c)

apart_pos : (a b : ℕ) → pos a +ℤ neg_ℤ (neg_ℤ (pos b)) ≡ pos (a + b)
apart_pos a b = omega (arith, ints)

apart_neg : (a b : ℕ) → neg_ℤ (pos a) +ℤ neg_ℤ (pos b) ≡ neg_ℤ (pos (a + b))
apart_neg a b = omega (arith, ints)

-- the distance of two fractions of unlike signs
pub sum_over : (s : Bool) (a b c d : ℕ) → unsigned_abs (signed s a *ℤ pos d +ℤ neg_ℤ (signed (not s) b) *ℤ pos c) ≡ a * d + b * c
sum_over s a b c d = ap unsigned_abs (ap₂ (λ (x y : ℤ). x +ℤ y) (signed_mul s a d) (neg_mul (signed (not s) b) c ∙ ap neg_ℤ (signed_mul (not s) b c))) ∙ go s
  where
    go : (s : Bool) → unsigned_abs (signed s (a * d) +ℤ neg_ℤ (signed (not s) (b * c))) ≡ a * d + b * c
    go false = ap unsigned_abs (apart_pos (a * d) (b * c))
    go true = ap unsigned_abs (apart_neg (a * d) (b * c)) ∙ signed_size true (a * d + b * c)

pub signed_not : (s : Bool) (a : ℕ) → signed (not s) a ≡ neg_ℤ (signed s a)
signed_not false a = refl
signed_not true zero = refl
signed_not true (suc a) = refl

-- the size of a difference, written as a sum
pub gap_not : (s : Bool) (a b : ℕ) → unsigned_abs (signed (not s) b +ℤ signed s a) ≡ dist a b
gap_not s a b = ap unsigned_abs (ap (λ (z : ℤ). z +ℤ signed s a) (signed_not s b) ∙ +ℤ_comm (neg_ℤ (signed s b)) (signed s a)) ∙ gap s a b

pub dist_mul : (a b u : ℕ) → dist (a * u) (b * u) ≡ dist a b * u
dist_mul a b u = ap₂ ◌+◌ (minus a b) (minus b a) ∙ sym (add-mul (a - b) (b - a) u)
  where
    minus : (a b : ℕ) → a * u - b * u ≡ (a - b) * u
    minus a b = ap₂ (λ (x y : ℕ). x - y) (mul_comm a u) (mul_comm b u) ∙ sym (mul-sub u a b) ∙ mul_comm u (a - b)
