-- The rational numbers: fractions, a whole number over one from 1 up, where two that are equal multiplied out are one number.
-- A commutative ring, ordered by whether a difference is not negative.
use Rattle.std.proofs.Common.{◌≡◌, refl, ap, ◌∙◌, List, [], ◌∷◌, zero-lt-suc, ℤ, pos, ◌+ℤ◌, ◌*ℤ◌, neg_ℤ}
use std.Quotient.{◌/◌, cls, eq/, /_set, /_rec, /_rec₂, /_elim_prop, /_elim_prop₂, /_elim_prop₃}
use Rattle.exact.specs.Fraction.{Fraction, Same, plus, times, opposite}
use Rattle.exact.proofs.Ring.{CRing, Expr, con, ◌⊕◌, ◌⊗◌, ⊝, norm, ⟦◌⟧, solve}
use Rattle.exact.proofs.Integer.{zring, x₀, x₁, x₂, x₃, x₄, x₅}

abbrev pub ℚ : Type 0
ℚ = Fraction / Same

-- ---- the operations see the number alone
-- an *ℤ a'd ≡ a'n *ℤ ad
pub add_l : (a a' b : Fraction) → Same a a' → Same (plus a b) (plus a' b)
unfolding norm
add_l a a' b e =
    -- n d n' d' m f
    let ρ = a.num ∷ pos a.den ∷ a'.num ∷ pos a'.den ∷ b.num ∷ pos b.den ∷ [] in
    zring ((x₀ ⊗ x₅ ⊕ x₄ ⊗ x₁) ⊗ (x₃ ⊗ x₅)) ((x₀ ⊗ x₃) ⊗ (x₅ ⊗ x₅) ⊕ x₄ ⊗ x₁ ⊗ x₃ ⊗ x₅) refl ρ
    ∙ ap (λ (z : ℤ). z *ℤ (pos b.den *ℤ pos b.den) +ℤ b.num *ℤ pos a.den *ℤ pos a'.den *ℤ pos b.den) e
    ∙ zring ((x₂ ⊗ x₁) ⊗ (x₅ ⊗ x₅) ⊕ x₄ ⊗ x₁ ⊗ x₃ ⊗ x₅) ((x₂ ⊗ x₅ ⊕ x₄ ⊗ x₃) ⊗ (x₁ ⊗ x₅)) refl ρ

pub add_comm_f : (a b : Fraction) → Same (plus a b) (plus b a)
unfolding norm
add_comm_f a b = zring ((x₀ ⊗ x₃ ⊕ x₂ ⊗ x₁) ⊗ (x₃ ⊗ x₁)) ((x₂ ⊗ x₁ ⊕ x₀ ⊗ x₃) ⊗ (x₁ ⊗ x₃)) refl (a.num ∷ pos a.den ∷ b.num ∷ pos b.den ∷ [])

pub mul_comm_f : (a b : Fraction) → Same (times a b) (times b a)
unfolding norm
mul_comm_f a b = zring ((x₀ ⊗ x₂) ⊗ (x₃ ⊗ x₁)) ((x₂ ⊗ x₀) ⊗ (x₁ ⊗ x₃)) refl (a.num ∷ pos a.den ∷ b.num ∷ pos b.den ∷ [])

pub mul_l : (a a' b : Fraction) → Same a a' → Same (times a b) (times a' b)
unfolding norm
mul_l a a' b e =
    let ρ = a.num ∷ pos a.den ∷ a'.num ∷ pos a'.den ∷ b.num ∷ pos b.den ∷ [] in
    zring ((x₀ ⊗ x₄) ⊗ (x₃ ⊗ x₅)) ((x₀ ⊗ x₃) ⊗ (x₄ ⊗ x₅)) refl ρ
    ∙ ap (λ (z : ℤ). z *ℤ (b.num *ℤ pos b.den)) e
    ∙ zring ((x₂ ⊗ x₁) ⊗ (x₄ ⊗ x₅)) ((x₂ ⊗ x₄) ⊗ (x₁ ⊗ x₅)) refl ρ

pub is : {a b : Fraction} → Same a b → ◌≡◌ {A = ℚ} (cls a) (cls b)
is {a} {b} e = eq/ a b e

infixl 60 ◌+q◌ ◌-q◌
infixl 70 ◌*q◌
pub add_r : (a b b' : Fraction) → Same b b' → ◌≡◌ {A = ℚ} (cls (plus a b)) (cls (plus a b'))
add_r a b b' e = is {a = plus a b} {b = plus b a} (add_comm_f a b) ∙ is {a = plus b a} {b = plus b' a} (add_l b b' a e) ∙ is {a = plus b' a} {b = plus a b'} (add_comm_f b' a)

unfoldable pub ◌+q◌ : ℚ → ℚ → ℚ
unfolding /_rec₂
◌+q◌ = /_rec₂ /_set (λ a b. cls (plus a b)) (λ a a' b e. is (add_l a a' b e)) add_r

pub mul_r : (a b b' : Fraction) → Same b b' → ◌≡◌ {A = ℚ} (cls (times a b)) (cls (times a b'))
mul_r a b b' e = is {a = times a b} {b = times b a} (mul_comm_f a b) ∙ is {a = times b a} {b = times b' a} (mul_l b b' a e) ∙ is {a = times b' a} {b = times a b'} (mul_comm_f b' a)

unfoldable pub ◌*q◌ : ℚ → ℚ → ℚ
unfolding /_rec₂
◌*q◌ = /_rec₂ /_set (λ a b. cls (times a b)) (λ a a' b e. is (mul_l a a' b e)) mul_r

pub neg_l : (a a' : Fraction) → Same a a' → Same (opposite a) (opposite a')
unfolding norm
neg_l a a' e =
    let ρ = a.num ∷ pos a.den ∷ a'.num ∷ pos a'.den ∷ [] in
    zring ((⊝ x₀) ⊗ x₃) (⊝ (x₀ ⊗ x₃)) refl ρ ∙ ap neg_ℤ e ∙ zring (⊝ (x₂ ⊗ x₁)) ((⊝ x₂) ⊗ x₁) refl ρ

unfoldable pub -q◌ : ℚ → ℚ
unfolding /_rec
-q◌ = /_rec /_set (λ a. cls (opposite a)) (λ a a' e. is (neg_l a a' e))

unfoldable pub ◌-q◌ : ℚ → ℚ → ℚ
a -q b = a +q (-q◌ b)

unfoldable pub ofℤ : ℤ → ℚ
ofℤ z = cls record { num = z; den = 1; ok = zero-lt-suc 0 }

-- ---- the laws of a ring
pub add_assocq : (a b c : ℚ) → (a +q b) +q c ≡ a +q (b +q c)
unfolding ◌+q◌ norm
add_assocq = /_elim_prop₃ (λ a b c. (a +q b) +q c ≡ a +q (b +q c)) (λ a b c. /_set _ _) (λ a b c. is (zring (((x₀ ⊗ x₃ ⊕ x₂ ⊗ x₁) ⊗ x₅ ⊕ x₄ ⊗ (x₁ ⊗ x₃)) ⊗ (x₁ ⊗ (x₃ ⊗ x₅))) ((x₀ ⊗ (x₃ ⊗ x₅) ⊕ (x₂ ⊗ x₅ ⊕ x₄ ⊗ x₃) ⊗ x₁) ⊗ (x₁ ⊗ x₃ ⊗ x₅)) refl (a.num ∷ pos a.den ∷ b.num ∷ pos b.den ∷ c.num ∷ pos c.den ∷ [])))

pub mul_assocq : (a b c : ℚ) → (a *q b) *q c ≡ a *q (b *q c)
unfolding ◌*q◌ norm
mul_assocq = /_elim_prop₃ (λ a b c. (a *q b) *q c ≡ a *q (b *q c)) (λ a b c. /_set _ _) (λ a b c. is (zring ((x₀ ⊗ x₂ ⊗ x₄) ⊗ (x₁ ⊗ (x₃ ⊗ x₅))) ((x₀ ⊗ (x₂ ⊗ x₄)) ⊗ (x₁ ⊗ x₃ ⊗ x₅)) refl (a.num ∷ pos a.den ∷ b.num ∷ pos b.den ∷ c.num ∷ pos c.den ∷ [])))

pub add_commq : (a b : ℚ) → a +q b ≡ b +q a
unfolding ◌+q◌
add_commq = /_elim_prop₂ (λ a b. a +q b ≡ b +q a) (λ a b. /_set _ _) (λ a b. is (add_comm_f a b))

pub mul_commq : (a b : ℚ) → a *q b ≡ b *q a
unfolding ◌*q◌
mul_commq = /_elim_prop₂ (λ a b. a *q b ≡ b *q a) (λ a b. /_set _ _) (λ a b. is (mul_comm_f a b))

pub mul_addq : (a b c : ℚ) → a *q (b +q c) ≡ a *q b +q a *q c
unfolding ◌*q◌ ◌+q◌ norm
mul_addq = /_elim_prop₃ (λ a b c. a *q (b +q c) ≡ a *q b +q a *q c) (λ a b c. /_set _ _) (λ a b c. is (zring ((x₀ ⊗ (x₂ ⊗ x₅ ⊕ x₄ ⊗ x₃)) ⊗ ((x₁ ⊗ x₃) ⊗ (x₁ ⊗ x₅))) (((x₀ ⊗ x₂) ⊗ (x₁ ⊗ x₅) ⊕ (x₀ ⊗ x₄) ⊗ (x₁ ⊗ x₃)) ⊗ (x₁ ⊗ (x₃ ⊗ x₅))) refl (a.num ∷ pos a.den ∷ b.num ∷ pos b.den ∷ c.num ∷ pos c.den ∷ [])))

pub add_zeroq : (a : ℚ) → a +q ofℤ (pos 0) ≡ a
unfolding ◌+q◌ ofℤ norm
add_zeroq = /_elim_prop (λ a. a +q ofℤ (pos 0) ≡ a) (λ a. /_set _ _) (λ a. is (zring ((x₀ ⊗ con (pos 1) ⊕ con (pos 0) ⊗ x₁) ⊗ x₁) (x₀ ⊗ (x₁ ⊗ con (pos 1))) refl (a.num ∷ pos a.den ∷ [])))

pub mul_oneq : (a : ℚ) → a *q ofℤ (pos 1) ≡ a
unfolding ◌*q◌ ofℤ norm
mul_oneq = /_elim_prop (λ a. a *q ofℤ (pos 1) ≡ a) (λ a. /_set _ _) (λ a. is (zring ((x₀ ⊗ con (pos 1)) ⊗ x₁) (x₀ ⊗ (x₁ ⊗ con (pos 1))) refl (a.num ∷ pos a.den ∷ [])))

pub add_negq : (a : ℚ) → a +q (-q◌ a) ≡ ofℤ (pos 0)
unfolding ◌+q◌ -q◌ ofℤ norm
add_negq = /_elim_prop (λ a. a +q (-q◌ a) ≡ ofℤ (pos 0)) (λ a. /_set _ _) (λ a. is (zring ((x₀ ⊗ x₁ ⊕ (⊝ x₀) ⊗ x₁) ⊗ con (pos 1)) (con (pos 0) ⊗ (x₁ ⊗ x₁)) refl (a.num ∷ pos a.den ∷ [])))

pub of_addq : (a b : ℤ) → ofℤ (a +ℤ b) ≡ ofℤ a +q ofℤ b
unfolding ◌+q◌ ofℤ norm
of_addq a b = is (zring ((x₀ ⊕ x₁) ⊗ (con (pos 1) ⊗ con (pos 1))) ((x₀ ⊗ con (pos 1) ⊕ x₁ ⊗ con (pos 1)) ⊗ con (pos 1)) refl (a ∷ b ∷ []))

pub of_mulq : (a b : ℤ) → ofℤ (a *ℤ b) ≡ ofℤ a *q ofℤ b
unfolding ◌*q◌ ofℤ norm
of_mulq a b = is (zring ((x₀ ⊗ x₁) ⊗ (con (pos 1) ⊗ con (pos 1))) ((x₀ ⊗ x₁) ⊗ con (pos 1)) refl (a ∷ b ∷ []))

abbrev pub ringℚ : CRing
ringℚ = record {
  carrier = ℚ;
  add = ◌+q◌;
  mul = ◌*q◌;
  neg = -q◌;
  of = ofℤ;
  add_assoc = add_assocq;
  add_comm = add_commq;
  add_zero = add_zeroq;
  add_neg = add_negq;
  mul_assoc = mul_assocq;
  mul_comm = mul_commq;
  mul_one = mul_oneq;
  mul_add = mul_addq;
  of_add = of_addq;
  of_mul = of_mulq;
}

pub qring : (a b : Expr) → norm a ≡ norm b → (ρ : List ℚ) → ⟦◌⟧ ringℚ a ρ ≡ ⟦◌⟧ ringℚ b ρ
qring = solve ringℚ
