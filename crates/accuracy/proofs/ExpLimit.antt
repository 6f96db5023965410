-- The two f32 between which e ^ x reaches 2 ^ 128 - 2 ^ 103, for exp and expm1: from the one on the sums are above the limit, and up to the other below it.
use Rattle.std.proofs.Common.{◌≡◌, ℕ, ◌+◌, ◌-◌, ◌*◌, ◌^◌, ◌≤◌, Bool, true, false, not, T, ◌⊎◌, [], ◌∷◌, pos, refl, subst, inl, inr, le_trans, zero-lt-suc, lit≤, pow_pos}
use Rattle.std.specs.Float.{Float, inf}
use std.Quotient.{cls}
use Rattle.exact.specs.Fraction.{Fraction}
use Rattle.exact.specs.Exact.{exp, expm1}
use Rattle.exact.proofs.Ring.{◌⊕◌, ◌⊖◌, ⊝, norm}
use Rattle.exact.proofs.Integer.{x₀, x₁, x₂}
use Rattle.exact.proofs.Rational.{ℚ, ◌+q◌, ◌*q◌, -q◌, ◌-q◌, ofℤ, qring}
use Rattle.exact.proofs.Order.{nn, nn_add, nn_total, ◌≤q◌, le_by, q_refl, q_trans, q_add}
use Rattle.exact.proofs.Bound.{ofℕ, inv, nn_ofℕ, ofℕ_mono, Bound, bound_neg}
use Rattle.exact.proofs.Compare.{fr}
use Rattle.exact.proofs.Series.{term, S, R, from, later}
use Rattle.exact.proofs.Compute.{run, test, held}
use Rattle.exact.proofs.Vanish.{R_later}
use Rattle.exact.proofs.Growth.{S_mono, R_mono}
use Rattle.exact.proofs.Negative.{S_negative}
use Rattle.rounding.specs.Values.{value}
use Rattle.accuracy.specs.Figures.{Right}
use Rattle.accuracy.proofs.Outcome.{Under, Placed, under, over, right_infinite}

-- the limit
abbrev top : ℕ
top = 2 ^ 128 - 2 ^ 103

-- 0x42b17217 and 0x42b17218
abbrev pub last_under : ℚ
last_under = fr (pos 0xb17217) (2 ^ 17) (pow_pos 17)

abbrev pub first_over : ℚ
first_over = fr (pos 0xb17218) (2 ^ 17) (pow_pos 17)

-- the sums there, in units of 2 ^ 104: 123 and a little below the limit, 4 and a little above it
unfoldable tests : T (test 1 (top - 123 * 2 ^ 104) (2 ^ 104) (run (pos 0xb17217) (2 ^ 17) 250)) × T (test 1 (top + 4 * 2 ^ 104) (2 ^ 104) (run (pos 0xb17218) (2 ^ 17) 250))
unfolding test run
tests = (tt, tt)

side_numbers : (fr (pos (top - 123 * 2 ^ 104)) 1 (zero-lt-suc 0) +q fr (pos (2 ^ 104)) 1 (zero-lt-suc 0) +q ofℕ (100 * 2 ^ 104) ≤q ofℕ top) × (ofℕ top +q ofℕ (2 * 2 ^ 104) ≤q fr (pos (top + 4 * 2 ^ 104)) 1 (zero-lt-suc 0) -q fr (pos (2 ^ 104)) 1 (zero-lt-suc 0))
unfolding nn ◌-q◌ ◌+q◌ -q◌ ofℕ ofℤ
side_numbers = (record { le = tt }, record { le = tt })

-- Y within U of s, from both sides
pub sum_top : (Y s U : ℚ) → Bound (Y -q s) U → s ≤q Y +q U
unfolding norm ◌-q◌
sum_top Y s U b = le_by (Y -q s -q (-q◌ U)) b.lo.le (qring (x₀ ⊕ x₂ ⊖ x₁) (x₀ ⊖ x₁ ⊖ ⊝ x₂) refl (Y ∷ s ∷ U ∷ []))

pub sum_bottom : (Y s U : ℚ) → Bound (Y -q s) U → Y -q U ≤q s
unfolding norm ◌-q◌
sum_bottom Y s U b = le_by (U -q (Y -q s)) b.hi.le (qring (x₁ ⊖ (x₀ ⊖ x₂)) (x₂ ⊖ (x₀ ⊖ x₁)) refl (Y ∷ s ∷ U ∷ []))

sum_under : (j : ℕ) → S last_under (from 250 j) +q ofℕ (100 * 2 ^ 104) ≤q ofℕ top
sum_under j =
    q_trans (q_add (sum_top (fr (pos (top - 123 * 2 ^ 104)) 1 (zero-lt-suc 0)) (S last_under (from 250 j)) (fr (pos (2 ^ 104)) 1 (zero-lt-suc 0)) (held (pos 0xb17217) (2 ^ 17) (pow_pos 17) 250 1 (top - 123 * 2 ^ 104) (2 ^ 104) (zero-lt-suc 0) (lit≤ tt) tests.0 j)) (q_refl (ofℕ (100 * 2 ^ 104)))) side_numbers.0

sum_over : (j : ℕ) → ofℕ top +q ofℕ (2 * 2 ^ 104) ≤q S first_over (from 250 j)
sum_over j =
    q_trans side_numbers.1 (sum_bottom (fr (pos (top + 4 * 2 ^ 104)) 1 (zero-lt-suc 0)) (S first_over (from 250 j)) (fr (pos (2 ^ 104)) 1 (zero-lt-suc 0)) (held (pos 0xb17218) (2 ^ 17) (pow_pos 17) 250 1 (top + 4 * 2 ^ 104) (2 ^ 104) (zero-lt-suc 0) (lit≤ tt) tests.1 j))

nn_over : T (nn first_over)
unfolding nn
nn_over = tt

-- from there on every sum is above
pub over_limit : (t : ℚ) → first_over ≤q t → (n : ℕ) → 250 ≤ n → ofℕ top +q ofℕ (2 * 2 ^ 104) ≤q S t n
over_limit t h n k = q_trans (later (λ m. ofℕ top +q ofℕ (2 * 2 ^ 104) ≤q S first_over m) 250 sum_over n k) (S_mono first_over t nn_over h n).1

negative_numbers : (ofℕ 106 +q ofℕ 106 +q (ofℕ 106 +q ofℕ 106) ≤q ofℕ 700) × (R (ofℕ 106 +q ofℕ 106) 700 ≤q ofℕ 1) × (ofℕ 1 +q ofℕ 1 +q ofℕ (100 * 2 ^ 104) ≤q ofℕ top)
unfolding nn ◌-q◌ ◌+q◌ -q◌ ◌*q◌ ofℕ ofℤ term inv
negative_numbers = (record { le = tt }, record { le = tt }, record { le = tt })

-- and up to here every sum is below
pub under_limit : (t : ℚ) → Bound t (ofℕ 106) → t ≤q last_under → (n : ℕ) → 700 ≤ n → S t n +q ofℕ (100 * 2 ^ 104) ≤q ofℕ top
unfolding norm ◌-q◌
under_limit t b h n k = go (nn t) (λ z. z) (nn_total t)
  where
    go : (x : Bool) → (T x → T (nn t)) → (T (not x) → T (nn (-q◌ t))) → S t n +q ofℕ (100 * 2 ^ 104) ≤q ofℕ top
    go true f g = q_trans (q_add (S_mono t last_under (f tt) h n).1 (q_refl (ofℕ (100 * 2 ^ 104)))) (later (λ m. S last_under m +q ofℕ (100 * 2 ^ 104) ≤q ofℕ top) 250 sum_under n (le_trans (lit≤ tt) k))
    go false f g =
        let A = -q◌ t in
        let n_a = g tt in
        let up : A ≤q ofℕ 106 = (bound_neg b).hi in
        let u2 = q_add up up in
        let s = S_negative A n_a n (q_trans (q_add u2 u2) (q_trans negative_numbers.0 (ofℕ_mono 700 n k))) in
        let r : R (A +q A) n ≤q ofℕ 1 =
        q_trans (R_mono (A +q A) (ofℕ 106 +q ofℕ 106) (nn_add A A n_a n_a) u2 n)
        (later (λ m. R (ofℕ 106 +q ofℕ 106) m ≤q ofℕ 1) 700 (λ j. q_trans (R_later (ofℕ 106 +q ofℕ 106) 700 (nn_add (ofℕ 106) (ofℕ 106) (nn_ofℕ 106) (nn_ofℕ 106)) negative_numbers.0 j) negative_numbers.1) n k) in
        let e : S t n ≤q ofℕ 1 +q ofℕ 1 = q_trans (subst (λ (x : ℚ). S x n ≤q ofℕ 1 +q R (A +q A) n) (qring (⊝ (⊝ x₀)) x₀ refl (t ∷ [])) s.hi) (q_add (q_refl (ofℕ 1)) r) in
        q_trans (q_add e (q_refl (ofℕ (100 * 2 ^ 104)))) negative_numbers.2

-- ---- where the exact values lie
margins : (ofℕ top +q ofℕ 1 ≤q ofℕ top +q ofℕ (2 * 2 ^ 104)) × (ofℕ (top + 2 ^ 104) +q ofℕ 1 ≤q ofℕ top +q ofℕ (2 * 2 ^ 104)) × (ofℕ (top + 2 ^ 104) ≤q ofℕ top +q ofℕ (2 * 2 ^ 104)) × (ofℕ top -q ofℕ (100 * 2 ^ 104) ≤q ofℕ (top - 2 ^ 104)) × T (nn (ofℕ 1)) × (ofℕ top ≤q ofℕ top +q ofℕ (2 * 2 ^ 104))
unfolding nn ◌-q◌ ◌+q◌ -q◌ ◌*q◌ ofℕ ofℤ
margins = (record { le = tt }, record { le = tt }, record { le = tt }, record { le = tt }, tt, record { le = tt })

less_one : {a b : ℚ} → a +q ofℕ 1 ≤q b → a ≤q b -q ofℕ 1
unfolding norm ◌-q◌
less_one {a} {b} p = le_by (b -q (a +q ofℕ 1)) p.le (qring (x₁ ⊖ x₂ ⊖ x₀) (x₁ ⊖ (x₀ ⊕ x₂)) refl (a ∷ b ∷ ofℕ 1 ∷ []))

-- a + c at most L leaves a at most L - c
leaves : (c : ℚ) {a : ℚ} (L : ℚ) → a +q c ≤q L → a ≤q L -q c
unfolding norm ◌-q◌
leaves c {a} L p = le_by (L -q (a +q c)) p.le (qring (x₂ ⊖ x₁ ⊖ x₀) (x₂ ⊖ (x₀ ⊕ x₁)) refl (a ∷ c ∷ L ∷ []))

one_less : (a : ℚ) → a -q ofℕ 1 ≤q a
unfolding norm ◌-q◌
one_less a = le_by (ofℕ 1) margins.4 (qring (x₀ ⊖ (x₀ ⊖ x₁)) x₁ refl (a ∷ ofℕ 1 ∷ []))

-- at most the one, or at least the other
abbrev pub Beside : ℚ → Type 0
Beside t = (t ≤q last_under) ⊎ (first_over ≤q t)

under_sum : (t : ℚ) → Bound t (ofℕ 106) → t ≤q last_under → (n : ℕ) → 700 ≤ n → S t n ≤q ofℕ (top - 2 ^ 104)
under_sum t b h n k = q_trans (leaves (ofℕ (100 * 2 ^ 104)) (ofℕ top) (under_limit t b h n k)) margins.3

pub exp_under : (x : Fraction) → Bound (cls x) (ofℕ 106) → cls x ≤q last_under → Under exp x
exp_under x b h = record { start = λ _. 700; below = λ j n k. under_sum (cls x) b h n k }

pub expm1_under : (x : Fraction) → Bound (cls x) (ofℕ 106) → cls x ≤q last_under → Under expm1 x
expm1_under x b h = record { start = λ _. 700; below = λ j n k. q_trans (one_less (S (cls x) n)) (under_sum (cls x) b h n k) }

pub exp_placed : (x : Fraction) → Bound (cls x) (ofℕ 106) → Beside (cls x) → Placed exp x
exp_placed x b (inl h) = under (exp_under x b h)
exp_placed x b (inr h) = over record { start = λ _. 250; above = λ j n k. q_trans margins.2 (over_limit (cls x) h n k) }

pub expm1_placed : (x : Fraction) → Bound (cls x) (ofℕ 106) → Beside (cls x) → Placed expm1 x
expm1_placed x b (inl h) = under (expm1_under x b h)
expm1_placed x b (inr h) = over record { start = λ _. 250; above = λ j n k. less_one (q_trans margins.1 (over_limit (cls x) h n k)) }

-- ---- from there on the figure is infinite
pub exp_infinite : (x y : Float) → y ≡ inf false → first_over ≤q cls (value x) → Right exp x y
exp_infinite x y e h = right_infinite exp x y e (λ _. 250) (λ j n k. q_trans margins.5 (over_limit (cls (value x)) h n k))

pub expm1_infinite : (x y : Float) → y ≡ inf false → first_over ≤q cls (value x) → Right expm1 x y
expm1_infinite x y e h = right_infinite expm1 x y e (λ _. 250) (λ j n k. less_one (q_trans margins.0 (over_limit (cls (value x)) h n k)))
