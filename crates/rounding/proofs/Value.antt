-- The number of a finite float as a rational, and what each operation rounds: its exact result, once.
use Rattle.std.proofs.Common.{◌≡◌, ℕ, ◌+◌, ◌-◌, ◌*◌, ◌<◌, ◌≤◌, Bool, true, false, cond, not, ◌&&◌, T, ltb, sym, refl, ap, ◌∙◌, subst, ap₂, mul_assoc, mul_comm, mul-pos, mul_left_comm, arith, ltb→lt, nltb→le}
use Rattle.std.specs.Float.{Float, nan, inf, fin, Format, float_mul_add, round_to_format}
use Rattle.std.specs.Float.Ieee.{up, down, unlike, round, sum, add, mul}
use Rattle.std.specs.Float.Ieee.Fits.{down_pos}
use Rattle.std.specs.Float.Ieee.Exact.{HasValue}
use Rattle.std.specs.Float.Ieee.Scale.{finite}
use Rattle.std.proofs.lemmas.Int.{ints}
use std.Quotient.{cls}
use Rattle.exact.proofs.Rational.{ℚ, ◌+q◌, ◌*q◌}
use Rattle.rounding.specs.Values.{value}
use Rattle.rounding.proofs.Fractions.{frac, frac_mul, frac_over, minus_pos, minus_neg, same_num, frac_same}

-- the number of a finite float; 0 for an infinity and a NaN
unfoldable pub val : Float → ℚ
val x = cls (value x)

pub val_value : (x : Float) → val x ≡ cls (value x)
unfolding val
val_value x = refl

-- x has the sign s and is g / l in size
pub value_is : (x : Float) (s : Bool) (g l : ℕ) (L : 0 < l) → HasValue x s g l → val x ≡ frac s g l L
unfolding val
value_is (fin t m e) s g l L v = frac_same t (m * up e) (down e) g l (down_pos e) L v.1 ∙ ap (λ (b : Bool). frac b g l L) v.0
value_is _ _ _ _ _ v = absurd v

pub finite_is : (x : Float) (s : Bool) (g l : ℕ) → HasValue x s g l → T (finite x)
finite_is nan s g l v = v
finite_is (inf t) s g l v = v
finite_is (fin t m e) s g l v = tt

-- ---- x is q rounded once
pub record Rounds (f : Format) (x : Float) (q : ℚ) : Type 0 where
  pub s : Bool
  pub a : ℕ
  pub c : ℕ
  pub ok : 0 < c
  pub how : x ≡ round f s a c
  pub what : q ≡ frac s a c ok

pub mul_rounds : (f : Format) (x y : Float) → T (finite x) → T (finite y) → Rounds f (mul f x y) (val x *q val y)
unfolding mul val
mul_rounds f (fin s m e) nan h k = absurd k
mul_rounds f (fin s m e) (inf t) h k = absurd k
mul_rounds f (fin s m e) (fin t n d) h k = record {
  s = unlike s t;
  a = m * up e * (n * up d);
  c = down e * down d;
  ok = mul-pos (down_pos e) (down_pos d);
  how = refl;
  what = frac_mul s t (m * up e) (n * up d) (down e) (down d) (down_pos e) (down_pos d);
}
mul_rounds _ _ _ h _ = absurd h

sum_rounds : (f : Format) (s : Bool) (a : ℕ) (t : Bool) (b c : ℕ) (C : 0 < c) → Rounds f (sum f s a t b c) (frac s a c C +q frac t b c C)
unfolding sum
sum_rounds f false a false b c C = record { s = false; a = a + b; c = c; ok = C; how = refl; what = frac_over false false a b c C }
sum_rounds f true a true b c C = record { s = true; a = a + b; c = c; ok = C; how = refl; what = frac_over true true a b c C ∙ same_num _ _ c C (omega (arith, ints)) }
sum_rounds f false a true b c C = go (ltb a b) (ltb→lt a b) (nltb→le a b)
  where
    go : (u : Bool) → (T u → a < b) → (T (not u) → b ≤ a) → Rounds f (cond u (round f true (b - a) c) (round f false (a - b) c)) (frac false a c C +q frac true b c C)
    go true h k = let l = h tt in record { s = true; a = b - a; c = c; ok = C; how = refl; what = frac_over false true a b c C ∙ same_num _ _ c C (minus_neg b a (omega arith)) }
    go false h k = let l = k tt in record { s = false; a = a - b; c = c; ok = C; how = refl; what = frac_over false true a b c C ∙ same_num _ _ c C (minus_pos b a l) }
sum_rounds f true a false b c C = go (ltb a b) (ltb→lt a b) (nltb→le a b)
  where
    at : (v : Bool) → (T v → b < a) → (T (not v) → a ≤ b) → b ≤ a → Rounds f (round f (true && v) (a - b) c) (frac true a c C +q frac false b c C)
    at true h k l = record { s = true; a = a - b; c = c; ok = C; how = refl; what = frac_over true false a b c C ∙ same_num _ _ c C (omega (arith, ints)) }
    at false h k l = let j = k tt in record { s = false; a = a - b; c = c; ok = C; how = refl; what = frac_over true false a b c C ∙ same_num _ _ c C (omega (arith, ints)) }

    go : (u : Bool) → (T u → a < b) → (T (not u) → b ≤ a) → Rounds f (cond u (round f false (b - a) c) (round f (true && ltb b a) (a - b) c)) (frac true a c C +q frac false b c C)
    go true h k = let l = h tt in record { s = false; a = b - a; c = c; ok = C; how = refl; what = frac_over true false a b c C ∙ same_num _ _ c C (omega (arith, ints)) }
    go false h k = at (ltb b a) (ltb→lt b a) (nltb→le b a) (k tt)

pub add_rounds : (f : Format) (x y : Float) → T (finite x) → T (finite y) → Rounds f (add f x y) (val x +q val y)
unfolding add val
add_rounds f (fin s m e) nan h k = absurd k
add_rounds f (fin s m e) (inf t) h k = absurd k
add_rounds f (fin s m e) (fin t n d) h k =
    let E = down_pos e in
    let F = down_pos d in
    subst (λ (q : ℚ). Rounds f (sum f s (m * up e * down d) t (n * up d * down e) (down e * down d)) q)
    (ap₂ (λ (x y : ℚ). x +q y)
    (frac_same s (m * up e * down d) (down e * down d) (m * up e) (down e) (mul-pos E F) E (simp (mul_assoc, mul_comm, mul_left_comm)))
    (frac_same t (n * up d * down e) (down e * down d) (n * up d) (down d) (mul-pos E F) F (simp (mul_assoc, mul_comm, mul_left_comm))))
    (sum_rounds f s (m * up e * down d) t (n * up d * down e) (down e * down d) (mul-pos E F))
add_rounds _ _ _ h _ = absurd h

pub fused_rounds : (f : Format) (x y z : Float) → T (finite x) → T (finite y) → T (finite z) → Rounds f (float_mul_add f x y z) (val x *q val y +q val z)
unfolding float_mul_add val
fused_rounds f (fin s m e) nan z h k l = absurd k
fused_rounds f (fin s m e) (inf t) z h k l = absurd k
fused_rounds f (fin s m e) (fin t n d) nan h k l = absurd l
fused_rounds f (fin s m e) (fin t n d) (inf u) h k l = absurd l
fused_rounds f (fin s m e) (fin t n d) (fin u i g) h k l =
    let E = down_pos e in
    let F = down_pos d in
    let H = down_pos g in
    let P = mul-pos (mul-pos E F) H in
    let a = m * up e * (n * up d) in
    subst (λ (q : ℚ). Rounds f (sum f (unlike s t) (a * down g) u (i * up g * (down e * down d)) (down e * down d * down g)) q)
    (ap₂ (λ (x y : ℚ). x +q y)
    (frac_same (unlike s t) (a * down g) (down e * down d * down g) a (down e * down d) P (mul-pos E F) (simp (mul_assoc, mul_comm, mul_left_comm)) ∙ sym (frac_mul s t (m * up e) (n * up d) (down e) (down d) E F))
    (frac_same u (i * up g * (down e * down d)) (down e * down d * down g) (i * up g) (down g) P H (simp (mul_assoc, mul_comm, mul_left_comm))))
    (sum_rounds f (unlike s t) (a * down g) u (i * up g * (down e * down d)) (down e * down d * down g) P)
fused_rounds _ _ _ _ h _ _ = absurd h

pub narrowing_rounds : (f : Format) (x : Float) → T (finite x) → Rounds f (round_to_format f x) (val x)
unfolding round_to_format val
narrowing_rounds f nan h = absurd h
narrowing_rounds f (inf s) h = absurd h
narrowing_rounds f (fin s m e) h = record { s = s; a = m * up e; c = down e; ok = down_pos e; how = refl; what = refl }
