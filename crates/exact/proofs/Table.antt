-- Tables: one computed test over a whole table gives each row its rule, for every sum, and every bracket. A row is a whole number x that stands for num x / l, with the unit unit x / l.
use Rattle.std.proofs.Common.{◌≡◌, refl, sym, ap, ◌∙◌, subst, Bool, true, List, [], ◌∷◌, ℕ, zero, suc, ◌+◌, ◌*◌, ◌^◌, ◌≤◌, ◌<◌, zero-lt-suc, mul-pos, mul-le-mul_right, arith, T, leb, lit≤, leb→le, le→leb, pow_pos, ℤ, pos, nat_abs, length, get_or, mul-le-mul, add-zero, zero-add, add-suc, suc-add, le_of_suc-le-suc, not-suc-le-zero, ◌&&◌}
use Rattle.std.specs.Float.Ieee.Fits.{and_l, and_r}
use Rattle.exact.specs.Fraction.{fraction}
use Rattle.exact.proofs.Ring.{con, ◌⊖◌, ◌⊗◌, norm}
use Rattle.exact.proofs.Integer.{x₀, x₁, x₂}
use Rattle.exact.proofs.Rational.{ℚ, is, ◌+q◌, ◌*q◌, -q◌, ◌-q◌, ofℤ, qring}
use Rattle.exact.proofs.Order.{nn, ◌≤q◌, q_trans, q_mul}
use Rattle.exact.proofs.Bound.{ofℕ, inv, nn_ofℕ, Bound, bound_more, bound_mul, bound_self, bound_turn, bound_via, bound_above, bound_is}
use Rattle.exact.proofs.Compare.{whole_cls, leq_in, fr, fr_le, nn_fr, dy, nn_dy}
use Rattle.exact.specs.Exponential.{within}
use Rattle.exact.specs.Logarithm.{Base, binary, decimal}
use Rattle.exact.specs.Exact.{OfExp, OfPower}
use Rattle.exact.proofs.Relative.{Rel}
use Rattle.exact.proofs.Series.{term, S, R, from, from_comm, later, tail}
use Rattle.exact.proofs.Growth.{S_more, S_steady}
use Rattle.exact.proofs.Compute.{run, test, held}
use Rattle.exact.proofs.Logarithm.{low, cut, root, low_near_root, low_bound}
use Rattle.exact.proofs.Claims.{carry, carry_power}

-- ---- a test of every row, and of one
abbrev pub every : (ℕ → ℕ → Bool) → ℕ → List ℕ → Bool
every f i [] = true
every f i (x ∷ xs) = f i x && every f (suc i) xs

row_from : (f : ℕ → ℕ → Bool) (xs : List ℕ) (i : ℕ) → T (every f i xs) → (k : ℕ) → k < length xs → T (f (i + k) (get_or xs k 0))
row_from f [] i t k h = absurd (not-suc-le-zero h)
row_from f (x ∷ xs) i t zero h = subst (λ (m : ℕ). T (f m x)) (sym (add-zero i)) (and_l (f i x) (every f (suc i) xs) t)
row_from f (x ∷ xs) i t (suc k) h =
    subst (λ (m : ℕ). T (f m (get_or xs k 0))) (suc-add i k ∙ sym (add-suc i k))
    (row_from f xs (suc i) (and_r (f i x) (every f (suc i) xs) t) k (le_of_suc-le-suc h))

pub row : (f : ℕ → ℕ → Bool) (xs : List ℕ) → T (every f 0 xs) → (k : ℕ) → k < length xs → T (f k (get_or xs k 0))
row f xs t k h = subst (λ (m : ℕ). T (f m (get_or xs k 0))) (zero-add k) (row_from f xs 0 t k h)

-- ---- rows against e ^ (p i / q)
unfoldable pub exp_test : (ℕ → ℤ) → ℕ → ℕ → ℕ → (ℕ → ℕ) → (ℕ → ℕ) → ℕ → ℕ → Bool
exp_test p q n l num unit i x = test l (num x) (unit x) (run (p i) q n)

module _ (p : ℕ → ℤ) (q : ℕ) (Q : 0 < q) (n l : ℕ) (L : 0 < l) (num unit : ℕ → ℕ) (xs : List ℕ) (all : T (every (exp_test p q n l num unit) 0 xs)) where
  -- from n on
  pub exp_row : (i : ℕ) → i < length xs → 2 * nat_abs (p i) ≤ n * q → (k : ℕ) → n ≤ k
      → Bound (fr (pos (num (get_or xs i 0))) l L -q S (fr (p i) q Q) k) (fr (pos (unit (get_or xs i 0))) l L)
  unfolding exp_test
  exp_row i h far k m =
      let x = get_or xs i 0 in
      later (λ k. Bound (fr (pos (num x)) l L -q S (fr (p i) q Q) k) (fr (pos (unit x)) l L)) n (held (p i) q Q n l (num x) (unit x) L far (row (exp_test p q n l num unit) xs all i h)) k m

  -- the rule
  pub exp_rule : (i : ℕ) → i < length xs → 2 * nat_abs (p i) ≤ n * q → OfExp (fraction (p i) q Q) (within (fraction (pos (num (get_or xs i 0))) l L) (fraction (pos (unit (get_or xs i 0))) l L))
  exp_rule i h far = carry (within (fraction (pos (num (get_or xs i 0))) l L) (fraction (pos (unit (get_or xs i 0))) l L)) (fraction (p i) q Q) n (exp_row i h far)

-- ---- rows against 2 ^ (i / c) and 10 ^ (i / c), i at most c: half a unit at ln b cut to 96 places leaves room for every bracket
unfoldable pub power_test : Base → ℕ → ℕ → ℕ → (ℕ → ℕ) → (ℕ → ℕ) → ℕ → ℕ → Bool
power_test b c n l num unit i x = leb (2 * l) (unit x * 2 ^ 79) && test (2 * l) (2 * num x) (unit x) (run (pos (i * cut b)) (c * 2 ^ 96) n)

cut_le : (b : Base) → cut b ≤ 3 * 2 ^ 96
cut_le binary = lit≤ tt
cut_le decimal = lit≤ tt

pub root_bound : (b : Base) → Bound (root b) (ofℕ 3)
unfolding nn ◌-q◌ ◌+q◌ -q◌ ofℕ ofℤ
root_bound binary = bound_is tt tt
root_bound decimal = bound_is tt tt

-- every sum at 3 is at most 32
three_nums : (ofℕ 3 +q ofℕ 3 ≤q ofℕ 20) × (S (ofℕ 3) 20 +q R (ofℕ 3) 20 ≤q ofℕ 32) × (dy 1 84 *q ofℕ 32 ≤q dy 1 79)
unfolding nn ◌-q◌ ◌+q◌ -q◌ ◌*q◌ ofℕ ofℤ S term inv
three_nums = (record { le = tt }, record { le = tt }, record { le = tt })

three_sum : (n : ℕ) → S (ofℕ 3) n ≤q ofℕ 32
three_sum n =
    q_trans (S_more (ofℕ 3) (nn_ofℕ 3) n 20)
    (subst (λ (k : ℕ). S (ofℕ 3) k ≤q ofℕ 32) (from_comm 20 n)
    (q_trans (bound_above (S (ofℕ 3) (from 20 n)) (S (ofℕ 3) 20) (R (ofℕ 3) 20) (tail (ofℕ 3) (ofℕ 3) (bound_self (nn_ofℕ 3)) 20 three_nums.0 n)) three_nums.1))

few : (i c t n P : ℕ) → i ≤ c → t ≤ 3 * P → 6 ≤ n → 2 * (i * t) ≤ n * (c * P)
few i c t n P h k m =
    let a : i * t ≤ c * (3 * P) = mul-le-mul h k in
    let e : 6 * (c * P) ≤ n * (c * P) = mul-le-mul_right (c * P) m in
    omega arith

doubled : (y l : ℕ) (L : 0 < l) → fr (pos (2 * y)) (2 * l) (mul-pos (zero-lt-suc 1) L) ≡ fr (pos y) l L
doubled y l L = is (ap pos (omega arith))

halved : (u l : ℕ) (L : 0 < l) → fr (pos u) (2 * l) (mul-pos (zero-lt-suc 1) L) +q fr (pos u) (2 * l) (mul-pos (zero-lt-suc 1) L) ≡ fr (pos u) l L
unfolding ◌+q◌
halved u l L = is (ap pos (omega arith))

part_of : (i t c P : ℕ) (C : 0 < c) (Z : 0 < P) → fr (pos (i * t)) (c * P) (mul-pos C Z) ≡ fr (pos i) c C *q fr (pos t) P Z
unfolding ◌*q◌
part_of i t c P C Z = refl

unit_bound : (i c : ℕ) (C : 0 < c) → i ≤ c → Bound (fr (pos i) c C) (ofℕ 1)
unit_bound i c C h = bound_more (bound_self (nn_fr i c C)) (subst (λ (x : ℚ). fr (pos i) c C ≤q x) (whole_cls 1) (fr_le i c 1 1 C (zero-lt-suc 0) (omega arith)))

one_times : (a : ℚ) → ofℕ 1 *q a ≡ a
unfolding norm ofℕ
one_times a = qring (con (pos 1) ⊗ x₀) x₀ refl (a ∷ [])

-- for |x| at most 1 the sums at x l and x r are within 2 ^ -79, where l and r are within 2 ^ -84 and at most 3
moved : (x r l : ℚ) → Bound x (ofℕ 1) → Bound r (ofℕ 3) → Bound l (ofℕ 3) → Bound (l -q r) (dy 1 84) → (n : ℕ) → Bound (S (x *q r) n -q S (x *q l) n) (dy 1 79)
unfolding norm ◌-q◌
moved x r l bx br bl bd n =
    bound_more
    (S_steady (x *q r) (x *q l) (ofℕ 3) (dy 1 84)
    (subst (λ (u : ℚ). Bound (x *q r) u) (one_times (ofℕ 3)) (bound_mul bx br)) (subst (λ (u : ℚ). Bound (x *q l) u) (one_times (ofℕ 3)) (bound_mul bx bl))
    (subst (λ (u : ℚ). Bound u (dy 1 84)) (qring (x₀ ⊗ (x₁ ⊖ x₂)) (x₀ ⊗ x₁ ⊖ x₀ ⊗ x₂) refl (x ∷ r ∷ l ∷ [])) (subst (λ (u : ℚ). Bound (x *q (r -q l)) u) (one_times (dy 1 84)) (bound_mul bx (bound_turn l r bd)))) n)
    (q_trans (q_mul (dy 1 84) (nn_dy 1 84) (three_sum n)) three_nums.2)

module _ (b : Base) (c : ℕ) (C : 0 < c) (n l : ℕ) (L : 0 < l) (num unit : ℕ → ℕ) (xs : List ℕ) (all : T (every (power_test b c n l num unit) 0 xs)) (six : 6 ≤ n) where
  abbrev value : ℕ → ℚ
  value i = fr (pos (num (get_or xs i 0))) l L

  abbrev half_unit_lem : ℕ → ℚ
  half_unit_lem i = fr (pos (unit (get_or xs i 0))) (2 * l) (mul-pos (zero-lt-suc 1) L)

  -- at ln b cut to 96 places, from n on
  pub power_row : (i : ℕ) → i < length xs → i ≤ c → (k : ℕ) → n ≤ k → Bound (value i -q S (fr (pos i) c C *q root b) k) (half_unit_lem i)
  unfolding power_test
  power_row i h le k m =
      let x = get_or xs i 0 in
      let t = and_r (leb (2 * l) (unit x * 2 ^ 79)) _ (row (power_test b c n l num unit) xs all i h) in
      subst (λ (u : ℚ). Bound (value i -q S u k) (half_unit_lem i)) (part_of i (cut b) c (2 ^ 96) C (pow_pos 96))
      (subst (λ (y : ℚ). Bound (y -q S (fr (pos (i * cut b)) (c * 2 ^ 96) (mul-pos C (pow_pos 96))) k) (half_unit_lem i)) (doubled (num x) l L)
      (later (λ k. Bound (fr (pos (2 * num x)) (2 * l) (mul-pos (zero-lt-suc 1) L) -q S (fr (pos (i * cut b)) (c * 2 ^ 96) (mul-pos C (pow_pos 96))) k) (half_unit_lem i)) n
      (held (pos (i * cut b)) (c * 2 ^ 96) (mul-pos C (pow_pos 96)) n (2 * l) (2 * num x) (unit x) (mul-pos (zero-lt-suc 1) L) (few i c (cut b) n (2 ^ 96) le (cut_le b) six) t) k m))

  room : (i : ℕ) → i < length xs → dy 1 79 ≤q half_unit_lem i
  unfolding power_test
  room i h =
      let x = get_or xs i 0 in
      fr_le 1 (2 ^ 79) (unit x) (2 * l) (pow_pos 79) (mul-pos (zero-lt-suc 1) L) (omega (arith, leb→le (2 * l) (unit x * 2 ^ 79) (and_l (leb (2 * l) (unit x * 2 ^ 79)) _ (row (power_test b c n l num unit) xs all i h))))

  -- the rule
  pub power_rule : (i : ℕ) → i < length xs → i ≤ c → OfPower b (fraction (pos i) c C) (within (fraction (pos (num (get_or xs i 0))) l L) (fraction (pos (unit (get_or xs i 0))) l L))
  power_rule i h le = carry_power b (within (fraction (pos (num (get_or xs i 0))) l L) (fraction (pos (unit (get_or xs i 0))) l L)) (fraction (pos i) c C) 80 (λ _. n) (λ j k m.
      let x = fr (pos i) c C in
      let d = low b (from 80 j) in
      subst (λ (u : ℚ). Bound (value i -q S (x *q d) k) u) (halved (unit (get_or xs i 0)) l L)
      (bound_via (value i) (S (x *q root b) k) (S (x *q d) k) (power_row i h le k m) (bound_more (moved x (root b) d (unit_bound i c C le) (root_bound b) (low_bound b j) (low_near_root b j) k) (room i h))))

-- ---- a bound by one unit as a relative error
pub unit_rel : (y u l k : ℕ) (L : 0 < l) (s : ℚ) → u * 2 ^ k ≤ y → Bound (fr (pos y) l L -q s) (fr (pos u) l L) → Rel s (fr (pos y) l L) (dy 1 k)
unfolding ◌*q◌
unit_rel y u l k L s h b = record { off = bound_more (bound_turn (fr (pos y) l L) s b) (leq_in _ _ (le→leb (u * (2 ^ k * l)) (1 * y * l) (go u y (2 ^ k) l h))) }
  where
    go : (u y p l : ℕ) → u * p ≤ y → u * (p * l) ≤ 1 * y * l
    go u y p l h = let k : u * p * l ≤ y * l = mul-le-mul_right l h in omega arith
