-- The whole number that an f64 is, by the digits of its sum with 2 ^ 52 + 2 ^ 51.
use Rattle.std.proofs.Common.{◌≡◌, ℕ, ◌+◌, ◌-◌, ◌*◌, ◌/◌, ◌%◌, ◌^◌, ◌<◌, ◌≤◌, min, Bool, true, false, cond, ◌||◌, T, eqb, ltb, ℤ, pos, ◌+ℤ◌, neg_ℤ, sym, refl, ap, ◌∙◌, subst, inl, inr, mul-le-mul_right, eq-zero-or-pos, mul-lt-mul_of_pos_right, mul-pos, mul-one, mul-div_cancel, arith, eqb→eq, pow_pos, le-ltb, lt-ltb}
use mathlib.Core.Bool.{beq}
use native.Mathlib.Nat.{eq_of_mul-eq-mul_right}
use borrow.Author.Differences.{ints}
use borrow.Author.Tests.{lt-leb}
use lib.Ieee.{Float, Format, nan, inf, fin, binary64, up, down, round, add, sub, neg, sum, eq, of_bits, to_signed}
use lib.Ieee.Fits.{down_pos, and_l, and_r}
use lib.Ieee.Back.{round_whole}
use lib.Ieee.Exact.{HasValue}
use lib.Ieee.Scale.{round_same}
use Rattle.fast.proofs.Patterns.{value}

-- ---- a difference of whole numbers

over : (a Y d D : ℕ) → a * 1 ≡ Y * d → a * D ≡ Y * (d * D)
over a Y d D e = let h : a * D ≡ Y * d * D = ap (λ (n : ℕ). n * D) (sym (mul-one a) ∙ e) in omega arith

turned : (b C d D : ℕ) → b * 1 ≡ C * D → b * d ≡ C * (d * D)
turned b C d D e = let h : b * d ≡ C * D * d = ap (λ (n : ℕ). n * d) (sym (mul-one b) ∙ e) in omega arith

difference : (f : Format) (y c : Float) (Y C : ℕ) → HasValue y false Y 1 → HasValue c false C 1 → sub f y c ≡ cond (ltb Y C) (round f true (C - Y) 1) (round f false (Y - C) 1)
unfolding sub add neg sum
difference f nan c Y C v w = absurd v
difference f (inf s) c Y C v w = absurd v
difference f (fin true m e) c Y C v w = absurd (mathlib.Core.Bool.true≢false v.0)
difference f (fin false m e) nan Y C v w = absurd w
difference f (fin false m e) (inf s) Y C v w = absurd w
difference f (fin false m e) (fin true n d) Y C v w = absurd (mathlib.Core.Bool.true≢false w.0)
difference f (fin false m e) (fin false n d) Y C v w =
    let D = down e * down d in
    let P : 0 < D = mul-pos (down_pos e) (down_pos d) in
    let a : m * up e * down d ≡ Y * D = over (m * up e) Y (down e) (down d) v.1 in
    let b : n * up d * down e ≡ C * D = turned (n * up d) C (down e) (down d) w.1 in
    (λ i. cond (ltb (a i) (b i)) (round f true (b i - a i) D) (round f false (a i - b i) D)) ∙ by D P
  where
    scaled : (x z D : ℕ) → (x * D - z * D) * 1 ≡ (x - z) * D
    scaled x z D = elim (eq-zero-or-pos (z - x)) [
      | inl h ↦
          let k : x ≡ z + (x - z) = omega arith in
          go (x - z) k
      | inr h ↦
          let k : x ≤ z = omega arith in
          let l : x * D ≤ z * D = mul-le-mul_right D k in
          let g : x - z ≡ 0 = omega arith in
          omega (arith, ap (λ (n : ℕ). n * D) g)
    ]
      where
        go : (r : ℕ) → x ≡ z + r → (x * D - z * D) * 1 ≡ r * D
        go r k = let h : x * D ≡ (z + r) * D = ap (λ (n : ℕ). n * D) k in omega arith

    by : (D : ℕ) → 0 < D → cond (ltb (Y * D) (C * D)) (round f true (C * D - Y * D) D) (round f false (Y * D - C * D) D) ≡ cond (ltb Y C) (round f true (C - Y) 1) (round f false (Y - C) 1)
    by D P = elim (eq-zero-or-pos (C - Y)) [
      | inl h ↦
          let l : C ≤ Y = omega arith in
          (λ i. cond (le-ltb (Y * D) (C * D) (mul-le-mul_right D l) i) (round f true (C * D - Y * D) D) (round f false (Y * D - C * D) D))
          ∙ round_same f false (Y * D - C * D) D (Y - C) 1 P (omega arith) (scaled Y C D)
          ∙ (λ i. cond (sym (le-ltb Y C l) i) (round f true (C - Y) 1) (round f false (Y - C) 1))
      | inr h ↦
          let l : Y < C = omega arith in
          (λ i. cond (lt-ltb (Y * D) (C * D) (mul-lt-mul_of_pos_right l P) i) (round f true (C * D - Y * D) D) (round f false (Y * D - C * D) D))
          ∙ round_same f true (C * D - Y * D) D (C - Y) 1 P (omega arith) (scaled C Y D)
          ∙ (λ i. cond (sym (lt-ltb Y C l) i) (round f true (C - Y) 1) (round f false (Y - C) 1))
    ]

-- ---- a float that equals a whole number

part : (t : Bool) (m : ℕ) (e : ℤ) (h : ℕ) → m * up e / down e ≡ h → h < 2 ^ 31 → to_signed 31 (fin t m e) ≡ cond t (neg_ℤ (pos h)) (pos h)
unfolding to_signed
part t m e h c l =
    let a : min h 2147483648 ≡ h = omega arith in
    let b : min h 2147483647 ≡ h = omega arith in
    rw (c, a, b) refl

same : (s w : Bool) → cond w (neg_ℤ (pos 0)) (pos 0) ≡ cond s (neg_ℤ (pos 0)) (pos 0)
same true true = refl
same true false = refl
same false true = refl
same false false = refl

-- the same sign, or no matter
signs : (n : ℕ) (u w s z : Bool) → u ≡ s → T (beq u w || z) → (T z → n ≡ 0) → cond w (neg_ℤ (pos n)) (pos n) ≡ cond s (neg_ℤ (pos n)) (pos n)
signs n true true s z p t h = ap (λ (b : Bool). cond b (neg_ℤ (pos n)) (pos n)) p
signs n false false s z p t h = ap (λ (b : Bool). cond b (neg_ℤ (pos n)) (pos n)) p
signs n true false s z p t h = subst (λ (k : ℕ). cond false (neg_ℤ (pos k)) (pos k) ≡ cond s (neg_ℤ (pos k)) (pos k)) (sym (h t)) (same s false)
signs n false true s z p t h = subst (λ (k : ℕ). cond true (neg_ℤ (pos k)) (pos k) ≡ cond s (neg_ℤ (pos k)) (pos k)) (sym (h t)) (same s true)

crossed : (a n e d : ℕ) → a * 1 ≡ n * d → a * e ≡ n * e * d
crossed a n e d h = let g : a * e ≡ n * d * e = ap (λ (x : ℕ). x * e) (sym (mul-one a) ∙ h) in omega arith

none : (a n e d : ℕ) → 0 < e → 0 < d → a * 1 ≡ n * d → a * e ≡ 0 → n ≡ 0
none a n e d p q h z =
    elim (eq-zero-or-pos a) [
      | inl y ↦ elim (eq-zero-or-pos n) [ inl x ↦ x | inr x ↦ absurd (omega (arith, mul-pos x q)) ]
      | inr y ↦ absurd (omega (arith, mul-pos y p))
    ]

equal : (r x : Float) (s : Bool) (n : ℕ) → HasValue r s n 1 → T (eq r x) → n < 2 ^ 31 → to_signed 31 x ≡ cond s (neg_ℤ (pos n)) (pos n)
unfolding eq
equal nan x s n v t l = absurd v
equal (inf u) x s n v t l = absurd v
equal (fin u k d) nan s n v t l = absurd t
equal (fin u k d) (inf w) s n v t l = absurd t
equal (fin u k d) (fin w m e) s n v t l =
    let A = k * up d * down e in
    let g : A ≡ m * up e * down d = eqb→eq A (m * up e * down d) (and_l _ (beq u w || eqb A 0) t) in
    let q : m * up e ≡ n * down e = eq_of_mul-eq-mul_right (down d) (down_pos d) (m * up e) (n * down e) (sym g ∙ crossed (k * up d) n (down e) (down d) v.1) in
    let c : m * up e / down e ≡ n = ap (λ (y : ℕ). y / down e) q ∙ mul-div_cancel n (down_pos e) in
    part w m e n c l ∙ signs n u w s (eqb A 0) v.0 (and_r (eqb A (m * up e * down d)) _ t) (λ z. none (k * up d) n (down e) (down d) (down_pos e) (down_pos d) v.1 (eqb→eq A 0 z))

-- ---- the sum's digits

descaled : (x : Float) (s : Bool) (Y L : ℕ) → 0 < L → HasValue x s (Y * L) L → HasValue x s Y 1
descaled nan s Y L p v = absurd v
descaled (inf t) s Y L p v = absurd v
descaled (fin t m e) s Y L p v = (v.0, eq_of_mul-eq-mul_right L p (m * up e * 1) (Y * down e) (go (m * up e) (down e) v.1))
  where
    go : (a d : ℕ) → a * L ≡ Y * L * d → a * 1 * L ≡ Y * d * L
    go a d h = omega arith

constant : HasValue (of_bits binary64 4843621399236968448) false 6755399441055744 1
unfolding of_bits
constant = (refl, refl)

digits : (p : ℕ) → 4843621397089484800 < p → p < 4843621401384452096 → HasValue (of_bits binary64 p) false (2 ^ 52 + p % 2 ^ 52) 1
digits p a b =
    descaled (of_bits binary64 p) false (2 ^ 52 + p % 2 ^ 52) (2 ^ 1074) (pow_pos 1074)
    (subst (λ (s : Bool). HasValue (of_bits binary64 p) s ((2 ^ 52 + p % 2 ^ 52) * 2 ^ 1074) (2 ^ 1074)) (lt-leb (2 ^ 63) p (omega arith)) (value binary64 p 1074 (omega arith) (omega arith)))

pub shifted : (x : Float) (p : ℕ) (z : ℤ) → 4843621397089484800 < p → p < 4843621401384452096 → T (eq (sub binary64 (of_bits binary64 p) (of_bits binary64 4843621399236968448)) x) → z +ℤ pos 4843621399236968448 ≡ pos p → to_signed 31 x ≡ z
shifted x p z a b t e =
    let Y = 2 ^ 52 + p % 2 ^ 52 in
    let K : ℕ = 6755399441055744 in
    let d = difference binary64 (of_bits binary64 p) (of_bits binary64 4843621399236968448) Y K (digits p a b) constant in
    elim (eq-zero-or-pos (K - Y)) [
      | inl h ↦
          let r : sub binary64 (of_bits binary64 p) (of_bits binary64 4843621399236968448) ≡ round binary64 false (Y - K) 1 = d ∙ ap (λ (k : Bool). cond k (round binary64 true (K - Y) 1) (round binary64 false (Y - K) 1)) (le-ltb Y K (omega arith)) in
          equal (round binary64 false (Y - K) 1) x false (Y - K) (round_whole binary64 false (Y - K) (omega arith)) (subst (λ (y : Float). T (eq y x)) r t) (omega arith) ∙ omega (arith, ints)
      | inr h ↦
          let r : sub binary64 (of_bits binary64 p) (of_bits binary64 4843621399236968448) ≡ round binary64 true (K - Y) 1 = d ∙ ap (λ (k : Bool). cond k (round binary64 true (K - Y) 1) (round binary64 false (Y - K) 1)) (lt-ltb Y K (omega arith)) in
          equal (round binary64 true (K - Y) 1) x true (K - Y) (round_whole binary64 true (K - Y) (omega arith)) (subst (λ (y : Float). T (eq y x)) r t) (omega arith) ∙ omega (arith, ints)
    ]
