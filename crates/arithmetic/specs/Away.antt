-- Rounding to the nearest whole number, halves away from zero, keeps the law of an arithmetic.
use Rattle.std.specs.Prelude.{◌≡◌, ℕ, ◌+◌, ◌*◌, ◌^◌, ◌<◌, ◌≤◌, Bool, true, false, T, ℤ, pos, ◌*ℤ◌, ◌≤ℤ◌, refl, Float}
use Rattle.std.proofs.Common.{sym, ap, subst, ◌∙◌, div-lt_iff_lt-mul, le_trans, zero-lt-suc, arith, ltb→lt, lit≤}
use Rattle.std.specs.Float.Ieee.{prec, up, down, round, units, odd, size, lt}
use Rattle.std.specs.Float.Ieee.Back.{round_whole}
use Rattle.std.specs.Float.Ieee.Fits.{down_pos, round-fits}
use Rattle.std.proofs.lemmas.Int.{ints}
use Rattle.std.specs.Float.{float_round, round_with, float_with_sign, nan, inf, fin, Format, binary32, binary64}
use Rattle.rounding.specs.Values.{signed, value}
use Rattle.rounding.specs.Whole.{NearestAway}
use Rattle.arithmetic.specs.Arithmetic.{RoundsAway, Nearest, minus_zero, minus_half}
use Rattle.arithmetic.specs.Signs.{dist, signed_size, gap_over}
use Rattle.arithmetic.specs.Unrounded.{value_over, value_finite}
use Rattle.arithmetic.specs.Whole.{halves, twice_pos, halves_split, halves_near}

tie : (a d h r : ℕ) → 2 * a + d ≡ 2 * (h * d) + r → 2 * dist (a * 1) (h * d) ≡ d → r < 2 * d → 0 < d → a ≤ h * d
tie a d h r e q l p = omega arith

pub nearest_away : (s : Bool) (m : ℕ) (e : ℤ) → NearestAway (value (fin s m e)) (signed s (halves (m * up e) (down e)))
nearest_away s m e =
    let a = m * up e in
    let d = down e in
    let h = halves a d in
    let k = halves_split a d (down_pos e) in
    let g = gap_over s a h d 1 in
    record {
      near = let b = halves_near a d (down_pos e) in subst (λ (n : ℕ). (pos 2 *ℤ pos n *ℤ pos 1) ≤ℤ (pos 1 *ℤ pos (1 * (d * 1)))) (sym g) (omega (arith, ints, b));
      away = λ q. let b = tie a d h k.0 k.1 (omega (arith, ints, q, g)) k.2 (down_pos e) in rw (signed_size s a, signed_size s h) (omega (arith, ints, b));
    }

-- below magnitude 2 ^ 22 the whole number is small
bounded : (a d : ℕ) → 0 < d → a * 1 < 4194304 * d → halves a d ≤ 2 ^ 22
bounded a d p l = let h : halves a d < 4194305 = (div-lt_iff_lt-mul (twice_pos d p)).1 (omega arith) in omega arith

few : (f : Format) (h : ℕ) → h ≤ 2 ^ 22 → h ≤ 2 ^ prec f
few binary32 h l = le_trans l (lit≤ tt)
few binary64 h l = le_trans l (lit≤ tt)

away_is : (f : Format) (s : Bool) (m : ℕ) (e : ℤ) → float_round f (fin s m e) ≡ round f s (halves (m * up e) (down e)) 1
unfolding round_with
away_is f false m e = refl
away_is f true m e = refl

zero_rounds : (f : Format) → round f true 0 1 ≡ minus_zero
unfolding round units odd size
zero_rounds binary32 = refl
zero_rounds binary64 = refl

none : (a d : ℕ) → 0 < d → a * 2 < 1 * d → halves a d ≡ 0
none a d p l = let h : halves a d < 1 = (div-lt_iff_lt-mul (twice_pos d p)).1 (omega arith) in omega arith

-- above -1/2 and below 0
to_minus_zero : (f : Format) (s : Bool) (m : ℕ) (e : ℤ) → T (lt minus_half (fin s m e)) → T (lt (fin s m e) minus_zero) → round f s (halves (m * up e) (down e)) 1 ≡ minus_zero
unfolding lt
to_minus_zero f false m e t u = absurd u
to_minus_zero f true m e t u =
    ap (λ (h : ℕ). round f true h 1) (none (m * up e) (down e) (down_pos e) (ltb→lt (m * up e * 2) (1 * down e) t)) ∙ zero_rounds f

pub rounds_away : (f : Format) (x : Float) → Nearest f x (float_round f x)
unfolding lt float_with_sign
rounds_away f nan w t = absurd t
rounds_away f (inf s) w t = absurd t
rounds_away f (fin s m e) w t =
    let h = halves (m * up e) (down e) in
    let l = bounded (m * up e) (down e) (down_pos e) (ltb→lt (m * up e * 1) (4194304 * down e) t) in
    let v = round_whole f s h (few f h l) in
    subst (λ (r : Float). RoundsAway f (fin s m e) r) (sym (away_is f s m e)) record {
      fit = round-fits f s h 1;
      number = value_finite (round f s h 1) s h 1 v;
      z = signed s h;
      is = value_over (round f s h 1) s h 1 (zero-lt-suc 0) v;
      nearest = nearest_away s m e;
      gives_minus_zero = to_minus_zero f s m e;
    }
