-- The order of the rationals.
use Rattle.std.proofs.Common.{◌≡◌, refl, sym, ap, ◌∙◌, subst, Bool, true, false, not, [], ◌∷◌, inl, inr, ◌⊎◌, zero, suc, ◌*◌, ◌≤◌, mul-le-mul_right, le_of_mul-le-mul_right, arith, T, ℤ, pos, negsuc, ◌+ℤ◌, ◌*ℤ◌, neg_ℤ}
use Rattle.std.specs.Int.Signed.{non_neg}
use Rattle.std.proofs.Math.Bool.{Bool-set}
use Rattle.std.proofs.Math.Dec.{T_prop}
use Rattle.std.proofs.lemmas.Int.{ints}
use mathlib.Core.HLevel.{Π_prop}
use borrow.Author.Differences.{up, down, same_out, product_is, not_negative_in, not_negative_out}
use std.Quotient.{/_set, /_rec, /_elim_prop, /_elim_prop₂}
use Rattle.exact.proofs.Ring.{con, ◌⊕◌, ◌⊖◌, ◌⊗◌, ⊝, norm}
use Rattle.exact.proofs.Integer.{zring, x₀, x₁, x₂, x₃}
use Rattle.exact.specs.Fraction.{Fraction, Same}
use Rattle.exact.proofs.Rational.{ℚ, is, ◌+q◌, ◌*q◌, -q◌, ◌-q◌, ofℤ, qring, add_zeroq}

bool_iff : (b c : Bool) → (T b → T c) → (T c → T b) → b ≡ c
bool_iff true true f g = refl
bool_iff true false f g = absurd (f tt)
bool_iff false true f g = absurd (g tt)
bool_iff false false f g = refl

nn_half : (a b : Fraction) → Same a b → T (non_neg a.num) → T (non_neg b.num)
nn_half a b e t =
    let n = a.num in
    let m = b.num in
    let h = same_out (n *ℤ pos b.den) (m *ℤ pos a.den) e in
    let p = product_is n (pos b.den) in
    let q = product_is m (pos a.den) in
    let k : down n * b.den ≤ up n * b.den = mul-le-mul_right b.den (not_negative_out n t) in
    not_negative_in m (le_of_mul-le-mul_right {m = down m} {n = up m} {k = a.den} (omega (arith, h, p, q, k)) a.ok)

pub nn_same : (a b : Fraction) → Same a b → non_neg a.num ≡ non_neg b.num
nn_same a b e = bool_iff (non_neg a.num) (non_neg b.num) (nn_half a b e) (nn_half b a (sym e))

-- not negative
unfoldable pub nn : ℚ → Bool
unfolding /_rec
nn = /_rec Bool-set (λ a. non_neg a.num) nn_same

pub nn_add : (a b : ℚ) → T (nn a) → T (nn b) → T (nn (a +q b))
unfolding nn ◌+q◌
nn_add = /_elim_prop₂ (λ a b. T (nn a) → T (nn b) → T (nn (a +q b))) (λ a b. Π_prop (λ _. Π_prop (λ _. T_prop (nn (a +q b))))) go
  where
    go : (a b : Fraction) → T (non_neg a.num) → T (non_neg b.num) → T (non_neg (a.num *ℤ pos b.den +ℤ b.num *ℤ pos a.den))
    go a b s t =
        let x = a.num *ℤ pos b.den in
        let y = b.num *ℤ pos a.den in
        let u : down a.num * b.den ≤ up a.num * b.den = mul-le-mul_right b.den (not_negative_out a.num s) in
        let v : down b.num * a.den ≤ up b.num * a.den = mul-le-mul_right a.den (not_negative_out b.num t) in
        omega (arith, ints, u, v)

nn_mulℤ : (a b : ℤ) → T (non_neg a) → T (non_neg b) → T (non_neg (a *ℤ b))
nn_mulℤ (pos a) (pos b) s t = tt
nn_mulℤ (pos a) (negsuc b) s t = absurd t
nn_mulℤ (negsuc a) b s t = absurd s

pub nn_mul : (a b : ℚ) → T (nn a) → T (nn b) → T (nn (a *q b))
unfolding nn ◌*q◌
nn_mul = /_elim_prop₂ (λ a b. T (nn a) → T (nn b) → T (nn (a *q b))) (λ a b. Π_prop (λ _. Π_prop (λ _. T_prop (nn (a *q b))))) (λ a b s t. nn_mulℤ a.num b.num s t)

nn_negℤ : (a : ℤ) → T (not (non_neg a)) → T (non_neg (neg_ℤ a))
nn_negℤ (pos a) t = absurd t
nn_negℤ (negsuc a) t = tt

pub nn_total : (a : ℚ) → T (not (nn a)) → T (nn (-q◌ a))
unfolding nn -q◌
nn_total = /_elim_prop (λ a. T (not (nn a)) → T (nn (-q◌ a))) (λ a. Π_prop (λ _. T_prop (nn (-q◌ a)))) (λ a t. nn_negℤ a.num t)

nn_zeroℤ : (a : ℤ) → T (non_neg a) → T (non_neg (neg_ℤ a)) → a ≡ pos 0
nn_zeroℤ (pos zero) s t = refl
nn_zeroℤ (pos (suc n)) s t = absurd t
nn_zeroℤ (negsuc n) s t = absurd s

pub nn_antisym : (a : ℚ) → T (nn a) → T (nn (-q◌ a)) → a ≡ ofℤ (pos 0)
unfolding nn -q◌ ofℤ norm
nn_antisym = /_elim_prop (λ a. T (nn a) → T (nn (-q◌ a)) → a ≡ ofℤ (pos 0)) (λ a. Π_prop (λ _. Π_prop (λ _. /_set _ _)))
    (λ a s t. is (ap (λ (z : ℤ). z *ℤ pos 1) (nn_zeroℤ a.num s t) ∙ zring (con (pos 0) ⊗ con (pos 1)) (con (pos 0) ⊗ x₀) refl (pos a.den ∷ [])))

infix 50 ◌≤q◌
pub record ◌≤q◌ (a b : ℚ) : Type 0 where
  pub le : T (nn (b -q a))

-- a sum of differences: the one rule by which the rest goes
pub le_by : {a b : ℚ} (d : ℚ) → T (nn d) → b -q a ≡ d → a ≤q b
le_by d t e = record { le = subst (λ (x : ℚ). T (nn x)) (sym e) t }

pub q_refl : (a : ℚ) → a ≤q a
unfolding norm nn ofℤ ◌-q◌
q_refl a = le_by (ofℤ (pos 0)) tt (qring (x₀ ⊖ x₀) (con (pos 0)) refl (a ∷ []))

pub q_trans : {a b c : ℚ} → a ≤q b → b ≤q c → a ≤q c
unfolding norm ◌-q◌
q_trans {a} {b} {c} h k = le_by (c -q b +q (b -q a)) (nn_add (c -q b) (b -q a) k.le h.le) (qring (x₂ ⊖ x₀) (x₂ ⊖ x₁ ⊕ (x₁ ⊖ x₀)) refl (a ∷ b ∷ c ∷ []))

pub q_add : {a b c d : ℚ} → a ≤q b → c ≤q d → a +q c ≤q b +q d
unfolding norm ◌-q◌
q_add {a} {b} {c} {d} h k = le_by (b -q a +q (d -q c)) (nn_add (b -q a) (d -q c) h.le k.le) (qring (x₁ ⊕ x₃ ⊖ (x₀ ⊕ x₂)) (x₁ ⊖ x₀ ⊕ (x₃ ⊖ x₂)) refl (a ∷ b ∷ c ∷ d ∷ []))

pub q_neg : {a b : ℚ} → a ≤q b → -q◌ b ≤q -q◌ a
unfolding norm ◌-q◌
q_neg {a} {b} h = le_by (b -q a) h.le (qring (⊝ x₀ ⊖ ⊝ x₁) (x₁ ⊖ x₀) refl (a ∷ b ∷ []))

-- multiply by what is not negative
pub q_mul : {a b : ℚ} (c : ℚ) → T (nn c) → a ≤q b → c *q a ≤q c *q b
unfolding norm ◌-q◌
q_mul {a} {b} c t h = le_by (c *q (b -q a)) (nn_mul c (b -q a) t h.le) (qring (x₂ ⊗ x₁ ⊖ x₂ ⊗ x₀) (x₂ ⊗ (x₁ ⊖ x₀)) refl (a ∷ b ∷ c ∷ []))

pub q_antisym : {a b : ℚ} → a ≤q b → b ≤q a → a ≡ b
unfolding norm ◌-q◌
q_antisym {a} {b} h k =
    qring x₀ (x₁ ⊕ (x₀ ⊖ x₁)) refl (a ∷ b ∷ [])
    ∙ ap (λ (x : ℚ). b +q x) (nn_antisym (a -q b) k.le (subst (λ (x : ℚ). T (nn x)) (qring (x₁ ⊖ x₀) (⊝ (x₀ ⊖ x₁)) refl (a ∷ b ∷ [])) h.le))
    ∙ add_zeroq b

pub q_total : (a b : ℚ) → (a ≤q b) ⊎ (b ≤q a)
unfolding norm ◌-q◌
q_total a b = go (nn (b -q a)) (λ t. t) (nn_total (b -q a))
  where
    go : (x : Bool) → (T x → T (nn (b -q a))) → (T (not x) → T (nn (-q◌ (b -q a)))) → (a ≤q b) ⊎ (b ≤q a)
    go true f g = inl (record { le = f tt })
    go false f g = inr (record { le = subst (λ (x : ℚ). T (nn x)) (qring (⊝ (x₁ ⊖ x₀)) (x₀ ⊖ x₁) refl (a ∷ b ∷ [])) (g tt) })
