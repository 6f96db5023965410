-- A value that fits a format in units of the format's smallest value; and when it lies in the ranges of the law.
use Rattle.std.proofs.Common.{◌≡◌, ℕ, zero, suc, ◌+◌, ◌-◌, ◌*◌, ◌%◌, ◌^◌, ◌<◌, ◌≤◌, Bool, true, false, cond, ◌&&◌, ◌||◌, T, eqb, ltb, leb, ℤ, pos, negsuc, sym, refl, ap, ◌∙◌, subst, inl, inr, le_trans, le_of_eq, lt_of_lt_of_le, mul_assoc, mul_comm, mul-le-mul, le_antisymm, lt_of_mul-lt-mul_right, mul-lt-mul_of_pos_right, arith, ltb→lt, lt→ltb, leb→le, pow_pos, pow_mono, pow-add}
use lib.Dec.{leb-suc-zero}
use lib.Pow.{pow-lt}
use lib.Ieee.{Float, nan, inf, fin, Format, prec, emax, low, up, down, minus, fits, lt, le, eq}
use lib.Ieee.Exact.{HasValue}
use lib.Ieee.Fits.{down_pos, and_i, and_l, and_r, eq→eqb, reach}
use Rattle.std.specs.Float.{float_with_sign}
use Rattle.arithmetic.specs.Arithmetic.{within, small}
use Rattle.arithmetic.specs.Signs.{order}
use Rattle.arithmetic.specs.Unrounded.{Holds}

-- ---- in units of the smallest value
-- the magnitude of x is n of the format's smallest values, and the format holds that number
pub record Units (f : Format) (m : ℕ) (e : ℤ) : Type 0 where
  pub n : ℕ
  pub is : m * up e * 2 ^ low f ≡ n * down e
  pub holds : Holds f n

top_of : (f : Format) (s : Bool) (m : ℕ) (e : ℤ) → T (fits f (fin s (suc m) e)) → (suc m < 2 ^ prec f) × (down e ≤ 2 ^ low f) × (suc m * up e < 2 ^ suc (emax f) * down e)
unfolding fits
top_of f s m e t =
    let a : Bool = eqb (suc m % 2) 1 in
    let b : Bool = ltb (suc m) (2 ^ prec f) in
    let c : Bool = leb (down e) (2 ^ low f) in
    let d : Bool = ltb (suc m * up e) (2 ^ suc (emax f) * down e) in
    let abc = and_l (a && b && c) d t in
    (ltb→lt (suc m) (2 ^ prec f) (and_r a b (and_l (a && b) c abc)), leb→le (down e) (2 ^ low f) (and_r (a && b) c abc), ltb→lt (suc m * up e) (2 ^ suc (emax f) * down e) (and_r (a && b && c) d t))

exponent_le : (a b : ℕ) → 2 ^ a ≤ 2 ^ b → a ≤ b
exponent_le a b h = elim (order b a) [
  | inl l ↦ absurd (clash (2 ^ b) (lt_of_lt_of_le (pow-lt l) h))
  | inr g ↦ g
]
  where
    clash : (n : ℕ) → n < n → ⊥
    clash n l = absurd (omega arith)

pub pow_split : (l i : ℕ) → i ≤ l → 2 ^ l ≡ 2 ^ (l - i) * 2 ^ i
pow_split l i h = ap (λ (z : ℕ). 2 ^ z) {x = l} {y = l - i + i} (omega arith) ∙ pow-add 2 (l - i) i

-- fewer digits than the format has, at most as coarse as its smallest value: the format holds it
pub holds_small : (f : Format) (q i : ℕ) → q < 2 ^ prec f → i ≤ low f → Holds f (q * 2 ^ i)
holds_small f q i h l = record {
  q = q;
  i = i;
  is = refl;
  few = h;
  under = lt_of_lt_of_le (mul-lt-mul_of_pos_right h (pow_pos i))
      (le_trans (mul-le-mul (pow_mono (reach f)) (pow_mono l)) (le_of_eq (mul_comm (2 ^ suc (emax f)) (2 ^ low f) ∙ sym (pow-add 2 (low f) (suc (emax f))))));
}

pub units : (f : Format) (s : Bool) (m : ℕ) (e : ℤ) → T (fits f (fin s m e)) → Units f m e
units f s zero e t = record { n = 0; is = nil (up e) (2 ^ low f) (down e); holds = record { q = 0; i = 0; is = refl; few = pow_pos (prec f); under = pow_pos (low f + suc (emax f)) } }
  where
    nil : (u l d : ℕ) → 0 * u * l ≡ 0 * d
    nil u l d = omega arith
units f s (suc m) (pos k) t =
    let h = top_of f s m (pos k) t in
    record {
      n = suc m * 2 ^ (k + low f);
      is = mul_assoc (suc m) (2 ^ k) (2 ^ low f) ∙ ap (λ (z : ℕ). suc m * z) (sym (pow-add 2 k (low f))) ∙ times_one (suc m * 2 ^ (k + low f));
      holds = record {
        q = suc m;
        i = k + low f;
        is = refl;
        few = h.0;
        under = subst (λ (z : ℕ). z < 2 ^ (low f + suc (emax f))) (mul_assoc (suc m) (2 ^ k) (2 ^ low f) ∙ ap (λ (z : ℕ). suc m * z) (sym (pow-add 2 k (low f))))
            (lt_of_lt_of_le (mul-lt-mul_of_pos_right h.2 (pow_pos (low f))) (le_of_eq (one_right (2 ^ suc (emax f)) (2 ^ low f) ∙ sym (pow-add 2 (low f) (suc (emax f))))));
      };
    }
  where
    one_right : (a b : ℕ) → a * 1 * b ≡ b * a
    one_right a b = omega arith

    times_one : (a : ℕ) → a ≡ a * 1
    times_one a = omega arith
units f s (suc m) (negsuc k) t =
    let h = top_of f s m (negsuc k) t in
    let l : suc k ≤ low f = exponent_le (suc k) (low f) h.1 in
    record {
      n = suc m * 2 ^ (low f - suc k);
      is = same (suc m) (2 ^ low f) (2 ^ (low f - suc k)) (2 ^ suc k) (pow_split (low f) (suc k) l);
      holds = holds_small f (suc m) (low f - suc k) h.0 (omega arith);
    }
  where
    same : (m l a b : ℕ) → l ≡ a * b → m * 1 * l ≡ m * a * b
    same m l a b e = let k : m * l ≡ m * (a * b) = ap (λ (z : ℕ). m * z) e in omega arith

-- ---- the ranges of the law
or_l : (a b : Bool) → T a → T (a || b)
or_l true b t = tt
or_l false b t = absurd t

or_r : (a b : Bool) → T b → T (a || b)
or_r true b t = tt
or_r false b t = t

le_in : (m : ℕ) (e : ℤ) (n : ℕ) (d : ℤ) → m * up e * down d ≤ n * up d * down e → T (le (fin false m e) (fin false n d))
unfolding le lt eq
le_in m e n d h = elim (order (m * up e * down d) (n * up d * down e)) [
  | inl l ↦ or_l _ _ (lt→ltb (m * up e * down d) (n * up d * down e) l)
  | inr g ↦ or_r (ltb (m * up e * down d) (n * up d * down e)) _ (and_i _ _ (eq→eqb (le_antisymm h g)) tt)
]

tiny : (n : ℕ) → minus 0 (suc n) ≡ negsuc n
tiny n = ap (λ (b : Bool). cond b (pos (0 - suc n)) (negsuc (suc n - 1))) (leb-suc-zero n) ∙ ap negsuc (omega arith)

pub within_zero : (n : ℕ) (s : Bool) (m : ℕ) (e : ℤ) → m * up e ≡ 0 → T (within n (fin s m e))
unfolding within float_with_sign eq
within_zero n s m e z = or_l _ _ (and_i (eqb (m * up e * 1) (0 * 1 * down e)) _ (eq→eqb (nil (m * up e) (down e) z)) tt)
  where
    nil : (a d : ℕ) → a ≡ 0 → a * 1 ≡ 0 * 1 * d
    nil a d z = omega arith

pub within_range : (n : ℕ) (s : Bool) (m : ℕ) (e : ℤ) → down e ≤ m * up e * 2 ^ suc n → m * up e ≤ 2 ^ suc n * down e → T (within (suc n) (fin s m e))
unfolding within float_with_sign
within_range n s m e a b =
    or_r (eq (fin false m e) (fin false 0 (pos 0))) _ (and_i _ _
    (subst (λ (z : ℤ). T (le (fin false 1 z) (fin false m e))) (sym (tiny n)) (le_in 1 (negsuc n) m e (subst (λ (k : ℕ). k ≤ m * up e * 2 ^ suc n) (one (down e)) a)))
    (le_in m e 1 (pos (suc n)) (other (m * up e) (2 ^ suc n) (down e) b)))
  where
    one : (d : ℕ) → d ≡ 1 * 1 * d
    one d = omega arith

    other : (a p d : ℕ) → a ≤ p * d → a * 1 ≤ 1 * p * d
    other a p d h = omega arith

-- below magnitude 2 ^ 22
pub small_in : (x : Float) (s : Bool) (a c : ℕ) → 0 < c → HasValue x s a c → a < 4194304 * c → T (small x)
unfolding lt float_with_sign
small_in nan s a c p v l = absurd v
small_in (inf t) s a c p v l = absurd v
small_in (fin t m e) s a c p v l = lt→ltb (m * up e * 1) (4194304 * down e) (cross (m * up e) (down e) a c p (down_pos e) v.1 l)
  where
    cross : (A D a c : ℕ) → 0 < c → 0 < D → A * c ≡ a * D → a < 4194304 * c → A * 1 < 4194304 * D
    cross A D a c p q e l = lt_of_mul-lt-mul_right c (subst (λ (z : ℕ). z < 4194304 * D * c) (sym (rearrange A c ∙ e)) (finish a D c (mul-lt-mul_of_pos_right l q)))
      where
        rearrange : (A c : ℕ) → A * 1 * c ≡ A * c
        rearrange A c = omega arith

        finish : (a D c : ℕ) → a * D < 4194304 * c * D → a * D < 4194304 * D * c
        finish a D c h = omega arith
