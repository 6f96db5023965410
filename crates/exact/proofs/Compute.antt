-- The sum at p / q as one fraction, computed in one pass, and what one test at one n says of every sum from there on.
use Rattle.std.proofs.Common.{◌≡◌, refl, sym, ap, ap₂, ◌∙◌, subst, Bool, [], ◌∷◌, ℕ, zero, suc, ◌+◌, ◌*◌, ◌≤◌, ◌<◌, zero-lt-suc, mul-pos, mul-le-mul_right, arith, T, leb, leb→le, le→leb, ℤ, pos, negsuc, ◌+ℤ◌, ◌-ℤ◌, ◌*ℤ◌, neg_ℤ, nat_abs}
use Rattle.std.specs.Int.Signed.{le_z}
use Rattle.std.proofs.Math.Nat.{le-suc}
use Rattle.std.proofs.lemmas.Int.{ints, unsigned_abs-mul}
use std.Quotient.{cls}
use Rattle.exact.proofs.Ring.{con, ◌⊕◌, ◌⊖◌, ◌⊗◌, ⊝, norm}
use Rattle.exact.proofs.Integer.{zring, x₀, x₁, x₂, x₃, x₄}
use Rattle.exact.proofs.Rational.{ℚ, is, ◌+q◌, ◌*q◌, -q◌, ◌-q◌, ofℤ, qring}
use Rattle.exact.proofs.Order.{nn_add, ◌≤q◌, le_by, q_trans}
use Rattle.exact.proofs.Bound.{ofℕ, inv, ofℕ_mono, Bound, bound_nn, bound_more}
use Rattle.exact.proofs.Compare.{leq_in, bound_abs, fr, fr_den, fr_sum_le}
use Rattle.exact.proofs.Series.{term, S, R, term_half, from, tail}

-- pow / den is the last term, num / den the sum
pub record State : Type 0 where
  pub pow : ℤ
  pub num : ℤ
  pub den : ℕ

-- one term more, the k of its step being q times its number
abbrev pub next : ℤ → ℕ → State → State
next p k s = let w = s.pow *ℤ p in record { pow = w; num = s.num *ℤ pos k +ℤ w; den = s.den * k }

-- the sum at p / q to n
unfoldable pub run : ℤ → ℕ → ℕ → State
run p q zero = record { pow = pos 1; num = pos 1; den = 1 }
run p q (suc n) = next p (q * suc n) (run p q n)

-- ---- its last term and its sum are those of the series
term_step : (p w : ℤ) (q d n : ℕ) (Q : 0 < q) (D : 0 < d)
    → ◌≡◌ {A = ℚ} (cls record { num = w; den = d; ok = D } *q cls record { num = p; den = q; ok = Q } *q inv n) (cls record { num = w *ℤ p; den = d * (q * suc n); ok = mul-pos D (mul-pos Q (zero-lt-suc n)) })
unfolding ◌*q◌ inv norm
term_step p w q d n Q D = is (zring ((x₀ ⊗ x₁ ⊗ con (pos 1)) ⊗ (x₂ ⊗ (x₃ ⊗ x₄))) ((x₀ ⊗ x₁) ⊗ (x₂ ⊗ x₃ ⊗ x₄)) refl (w ∷ p ∷ pos d ∷ pos q ∷ pos (suc n) ∷ []))

sum_step : (a w : ℤ) (d k : ℕ) (D : 0 < d) (E : 0 < d * k)
    → ◌≡◌ {A = ℚ} (cls record { num = a; den = d; ok = D } +q cls record { num = w; den = d * k; ok = E }) (cls record { num = a *ℤ pos k +ℤ w; den = d * k; ok = E })
unfolding ◌+q◌ norm
sum_step a w d k D E = is (zring ((x₀ ⊗ (x₂ ⊗ x₃) ⊕ x₁ ⊗ x₂) ⊗ (x₂ ⊗ x₃)) ((x₀ ⊗ x₃ ⊕ x₁) ⊗ (x₂ ⊗ (x₂ ⊗ x₃))) refl (a ∷ w ∷ pos d ∷ pos k ∷ []))

module _ (p : ℤ) (q : ℕ) (Q : 0 < q) where
  abbrev pub arg : ℚ
  arg = cls record { num = p; den = q; ok = Q }

  pub den_pos : (n : ℕ) → 0 < (run p q n).den
  unfolding run
  den_pos zero = zero-lt-suc 0
  den_pos (suc n) = mul-pos (den_pos n) (mul-pos Q (zero-lt-suc n))

  pub term_is : (n : ℕ) → term arg n ≡ cls record { num = (run p q n).pow; den = (run p q n).den; ok = den_pos n }
  unfolding term run ofℕ ofℤ den_pos
  term_is zero = refl
  term_is (suc n) = ap (λ (x : ℚ). x *q arg *q inv n) (term_is n) ∙ term_step p (run p q n).pow q (run p q n).den n Q (den_pos n)

  pub S_is : (n : ℕ) → S arg n ≡ cls record { num = (run p q n).num; den = (run p q n).den; ok = den_pos n }
  unfolding S run ofℕ ofℤ den_pos
  S_is zero = refl
  S_is (suc n) = ap₂ (λ (x y : ℚ). x +q y) (S_is n) (term_is (suc n)) ∙ sum_step (run p q n).num ((run p q n).pow *ℤ p) (run p q n).den (q * suc n) (den_pos n) (den_pos (suc n))

-- |y / l - num / den| + |pow| / den ≤ u / l
unfoldable pub test : ℕ → ℕ → ℕ → State → Bool
test l y u s = leb (nat_abs (pos (y * s.den) -ℤ s.num *ℤ pos l) + nat_abs s.pow * l) (u * s.den)

-- ---- the size of the last term
nat_abs_neg : (z : ℤ) → nat_abs (neg_ℤ z) ≡ nat_abs z
nat_abs_neg (pos zero) = refl
nat_abs_neg (pos (suc n)) = refl
nat_abs_neg (negsuc n) = refl

run_den : (p r : ℤ) (q n : ℕ) → (run p q n).den ≡ (run r q n).den
unfolding run
run_den p r q zero = refl
run_den p r q (suc n) = ap (λ (d : ℕ). d * (q * suc n)) (run_den p r q n)

run_abs : (p : ℤ) (q n : ℕ) → (run (pos (nat_abs p)) q n).pow ≡ pos (nat_abs (run p q n).pow)
unfolding run
run_abs p q zero = refl
run_abs p q (suc n) = ap (λ (z : ℤ). z *ℤ pos (nat_abs p)) (run_abs p q n) ∙ ap pos (sym (unsigned_abs-mul (run p q n).pow p))

-- ---- the test, as two orders
above : (x n : ℤ) (c e : ℕ) → nat_abs (x -ℤ n) + c ≤ e → T (le_z (x +ℤ pos c) (pos e +ℤ n))
above x n c e h = omega (arith, ints)

below : (x n : ℤ) (c e : ℕ) → nat_abs (x -ℤ n) + c ≤ e → T (le_z (neg_ℤ x +ℤ pos c) (pos e +ℤ neg_ℤ n))
below x n c e h = omega (arith, ints)

-- n is at least twice |p / q|
twice : (p : ℤ) (q n : ℕ) (Q : 0 < q) → 2 * nat_abs p ≤ n * q → fr (pos (nat_abs p)) q Q +q fr (pos (nat_abs p)) q Q ≤q ofℕ n
unfolding ◌+q◌ ofℕ ofℤ
twice p q n Q h =
    leq_in _ _ (le→leb ((nat_abs p * q + nat_abs p * q) * 1) (n * (q * q)) (let k : 2 * nat_abs p * q ≤ n * q * q = mul-le-mul_right q h in omega arith))

-- the test at n says that y / l is within u / l of every sum from n on
pub held : (p : ℤ) (q : ℕ) (Q : 0 < q) (n l y u : ℕ) (L : 0 < l) → 2 * nat_abs p ≤ n * q → T (test l y u (run p q n))
    → (j : ℕ) → Bound (fr (pos y) l L -q S (fr p q Q) (from n j)) (fr (pos u) l L)
unfolding test norm ◌-q◌ -q◌
held p q Q n l y u L h t j =
    let s = run p q n in
    let D = den_pos p q Q n in
    let A = fr (pos (nat_abs p)) q Q in
    let N = fr s.num s.den D in
    let P = fr (pos (nat_abs s.pow)) s.den D in
    let Y = fr (pos y) l L in
    let U = fr (pos u) l L in
    let c = leb→le _ _ t in
    let hA : A +q A ≤q ofℕ n = twice p q n Q h in
    let ab : Bound (fr p q Q) A = bound_abs record { num = p; den = q; ok = Q } in
    let tl : Bound (S (fr p q Q) (from n j) -q S (fr p q Q) n) (R A n) = tail (fr p q Q) A ab n hA j in
    let rA : R A n ≤q term A n = term_half A n (bound_nn ab) (q_trans hA (ofℕ_mono n (suc n) (le-suc n))) in
    let eP : term A n ≡ P = term_is (pos (nat_abs p)) q Q n ∙ fr_den _ _ _ _ (den_pos (pos (nat_abs p)) q Q n) D (run_abs p q n) (run_den (pos (nat_abs p)) p q n) in
    let tl' : Bound (S (fr p q Q) (from n j) -q N) P = subst (λ (x : ℚ). Bound (S (fr p q Q) (from n j) -q x) P) (S_is p q Q n) (bound_more tl (subst (λ (x : ℚ). R A n ≤q x) eP rA)) in
    let up : Y +q P ≤q U +q N = fr_sum_le (pos y) (pos (nat_abs s.pow)) (pos u) s.num l s.den L D (above (pos (y * s.den)) (s.num *ℤ pos l) (nat_abs s.pow * l) (u * s.den) c) in
    let dn : -q◌ Y +q P ≤q U +q -q◌ N = fr_sum_le (neg_ℤ (pos y)) (pos (nat_abs s.pow)) (pos u) (neg_ℤ s.num) l s.den L D
    (subst (λ (z : ℤ). T (le_z (neg_ℤ (pos y) *ℤ pos s.den +ℤ pos (nat_abs s.pow * l)) (pos (u * s.den) +ℤ z))) (zring (⊝ (x₀ ⊗ x₁)) (⊝ x₀ ⊗ x₁) refl (s.num ∷ pos l ∷ []))
    (subst (λ (z : ℤ). T (le_z (z +ℤ pos (nat_abs s.pow * l)) (pos (u * s.den) +ℤ neg_ℤ (s.num *ℤ pos l)))) (zring (⊝ (x₀ ⊗ x₁)) (⊝ x₀ ⊗ x₁) refl (pos y ∷ pos s.den ∷ []))
    (below (pos (y * s.den)) (s.num *ℤ pos l) (nat_abs s.pow * l) (u * s.den) c))) in
    let K = S (fr p q Q) (from n j) in
    let ρ = Y ∷ P ∷ U ∷ N ∷ K ∷ [] in
    record {
      hi = le_by ((U +q N) -q (Y +q P) +q (K -q N -q (-q◌ P))) (nn_add _ _ up.le tl'.lo.le) (qring (x₂ ⊖ (x₀ ⊖ x₄)) ((x₂ ⊕ x₃) ⊖ (x₀ ⊕ x₁) ⊕ (x₄ ⊖ x₃ ⊖ ⊝ x₁)) refl ρ);
      lo = le_by ((U +q -q◌ N) -q (-q◌ Y +q P) +q (P -q (K -q N))) (nn_add _ _ dn.le tl'.hi.le) (qring (x₀ ⊖ x₄ ⊖ ⊝ x₂) ((x₂ ⊕ ⊝ x₃) ⊖ (⊝ x₀ ⊕ x₁) ⊕ (x₁ ⊖ (x₄ ⊖ x₃))) refl ρ);
    }
