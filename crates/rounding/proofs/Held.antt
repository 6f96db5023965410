-- What a format holds: a value of at most prec digits, in units of the smallest; a multiple of the smallest; and the larger, the coarser.
use Rattle.std.proofs.Common.{◌≡◌, ℕ, zero, suc, ◌+◌, ◌-◌, ◌*◌, ◌%◌, ◌^◌, ◌<◌, ◌≤◌, Bool, ◌&&◌, T, eqb, ltb, leb, ◌⊎◌, ℤ, pos, negsuc, sym, refl, ap, ◌∙◌, subst, inl, inr, le_trans, le_of_eq, lt_of_lt_of_le, lt_of_le_of_lt, mul_assoc, mul_comm, mul-le-mul, mul-lt-mul_of_pos_right, arith, ltb→lt, leb→le, pow_pos, pow_mono, pow-add, zero-le}
use Rattle.std.specs.Float.{Float, fin, Format}
use Rattle.std.specs.Float.Ieee.{prec, emax, low, up, down, fits}
use Rattle.std.specs.Float.Ieee.Fits.{reach, down_pos, and_l, and_r}
use Rattle.std.specs.Float.Ieee.Exact.{HasValue}
use Rattle.std.specs.Float.Ieee.Scale.{overflow, finite}
use Rattle.exact.proofs.Rational.{is, ofℤ}
use Rattle.rounding.specs.Values.{signed}
use Rattle.rounding.proofs.Fractions.{frac, frac_same}
use Rattle.rounding.proofs.Value.{val}
use Rattle.rounding.proofs.PowersOfTwo.{split_pow, pow_under, pow_le}
use Rattle.rounding.proofs.Multiple.{Mult, mult_more, Away, away_at}

-- ---- what `fits` says
pub fit_digits : (f : Format) (s : Bool) (m : ℕ) (e : ℤ) → T (fits f (fin s (suc m) e)) → (suc m < 2 ^ prec f) × (down e ≤ 2 ^ low f) × (suc m * up e < 2 ^ suc (emax f) * down e)
unfolding fits
fit_digits f s m e t =
    let a : Bool = eqb (suc m % 2) 1 in
    let b : Bool = ltb (suc m) (2 ^ prec f) in
    let c : Bool = leb (down e) (2 ^ low f) in
    let d : Bool = ltb (suc m * up e) (2 ^ suc (emax f) * down e) in
    let u = and_l (a && b && c) d t in
    (ltb→lt (suc m) (2 ^ prec f) (and_r a b (and_l (a && b) c u)), leb→le (down e) (2 ^ low f) (and_r (a && b) c u), ltb→lt (suc m * up e) (2 ^ suc (emax f) * down e) (and_r (a && b && c) d t))

-- ---- what a format holds, in its smallest values
pub record Digits (f : Format) (x : Float) : Type 0 where
  pub s : Bool
  pub q : ℕ
  pub j : ℕ
  pub few : q < 2 ^ prec f
  pub under : q * 2 ^ j < overflow f
  pub how : HasValue x s (q * 2 ^ j) (2 ^ low f)

pub digits : (f : Format) (x : Float) → T (finite x) → T (fits f x) → Digits f x
digits f (fin s zero e) t w = record { s = s; q = 0; j = 0; few = pow_pos (prec f); under = pow_pos (low f + suc (emax f)); how = (refl, omega arith) }
digits f (fin s (suc m) (pos k)) t w = record {
  s = s;
  q = suc m;
  j = k + low f;
  few = (fit_digits f s m (pos k) w).0;
  under = subst (λ (z : ℕ). z < overflow f) (mul_assoc (suc m) (2 ^ k) (2 ^ low f) ∙ ap (λ (z : ℕ). suc m * z) (sym (pow-add 2 k (low f))))
      (lt_of_lt_of_le (mul-lt-mul_of_pos_right (fit_digits f s m (pos k) w).2 (pow_pos (low f))) (le_of_eq ((omega arith) ∙ sym (pow-add 2 (low f) (suc (emax f))))));
  how = (refl, mul_assoc (suc m) (2 ^ k) (2 ^ low f) ∙ ap (λ (z : ℕ). suc m * z) (sym (pow-add 2 k (low f))) ∙ omega arith);
}
digits f (fin s (suc m) (negsuc k)) t w = record {
  s = s;
  q = suc m;
  j = low f - suc k;
  few = (fit_digits f s m (negsuc k) w).0;
  under = lt_of_lt_of_le (mul-lt-mul_of_pos_right (fit_digits f s m (negsuc k) w).0 (pow_pos (low f - suc k)))
      (le_trans (mul-le-mul (pow_mono (reach f)) (pow_mono {i = low f - suc k} {j = low f} (omega arith))) (le_of_eq (mul_comm (2 ^ suc (emax f)) (2 ^ low f) ∙ sym (pow-add 2 (low f) (suc (emax f))))));
  how = (refl, same (suc m) (2 ^ low f) (2 ^ (low f - suc k)) (2 ^ suc k) (split_pow (suc k) (low f) (pow_le (suc k) (low f) (fit_digits f s m (negsuc k) w).1)));
}
  where
    same : (m l a b : ℕ) → l ≡ a * b → m * 1 * l ≡ m * a * b
    same m l a b e = let k : m * l ≡ m * (a * b) = ap (λ (z : ℕ). m * z) e in omega arith
digits _ _ t _ = absurd t

nought : (k : ℕ) (s : Bool) (u c : ℕ) (C : 0 < c) → Mult k (frac s (0 * u) c C)
nought k s u c C = record { num = signed s 0; how = frac_same s (0 * u) c 0 (2 ^ k) C (pow_pos k) (omega arith) }

-- a value of the format that is 0 or at least 2 ^ -a is a multiple of 2 ^ -(prec - 1 + a): 23 + a in f32
pub coarse : (f : Format) (a : ℕ) (x : Float) → T (finite x) → T (fits f x) → Away a (val x) → Mult (prec f - 1 + a) (val x)
unfolding val ofℤ
coarse f a (fin s zero e) t w v = nought (prec f - 1 + a) s (up e) (down e) (down_pos e)
coarse f a (fin s (suc m) (pos j)) t w v = mult_more (prec f - 1 + a) {q = frac s (suc m * 2 ^ j) 1 (down_pos (pos j))} zero-le (record { num = signed s (suc m * 2 ^ j); how = is refl })
coarse f a (fin s (suc m) (negsuc j)) t w v =
    mult_more (prec f - 1 + a) {q = frac s (suc m * 1) (2 ^ suc j) (down_pos (negsuc j))} (under (suc j) (away_at v s (suc m * 1) (2 ^ suc j) (down_pos (negsuc j)) refl)) (record { num = signed s (suc m * 1); how = is refl })
  where
    lt : suc m < 2 ^ prec f
    lt = (fit_digits f s m (negsuc j) w).0

    under : (i : ℕ) → (suc m * 1 ≡ 0) ⊎ (2 ^ i ≤ suc m * 1 * 2 ^ a) → i ≤ prec f - 1 + a
    under i (inl z) = absurd (omega arith)
    under i (inr l) =
        let u : suc m * 2 ^ a < 2 ^ prec f * 2 ^ a = mul-lt-mul_of_pos_right lt (pow_pos a) in
        let g : 2 ^ i < 2 ^ prec f * 2 ^ a = lt_of_le_of_lt (le_trans l (le_of_eq (ap (λ (z : ℕ). z * 2 ^ a) {x = suc m * 1} {y = suc m} (omega arith)))) u in
        let i_lt : i < prec f + a = pow_under i (prec f + a) (subst (λ (z : ℕ). 2 ^ i < z) (sym (pow-add 2 (prec f) a)) g) in
        omega arith
coarse _ _ _ t _ _ = absurd t

-- and every value is a multiple of the smallest
pub finest : (f : Format) (x : Float) → T (finite x) → T (fits f x) → Mult (low f) (val x)
unfolding val ofℤ
finest f (fin s zero e) t w = nought (low f) s (up e) (down e) (down_pos e)
finest f (fin s (suc m) (pos j)) t w = mult_more (low f) {q = frac s (suc m * 2 ^ j) 1 (down_pos (pos j))} zero-le (record { num = signed s (suc m * 2 ^ j); how = is refl })
finest f (fin s (suc m) (negsuc j)) t w = mult_more (low f) {q = frac s (suc m * 1) (2 ^ suc j) (down_pos (negsuc j))} (pow_le (suc j) (low f) (fit_digits f s m (negsuc j) w).1) (record { num = signed s (suc m * 1); how = is refl })
finest _ _ t _ = absurd t
