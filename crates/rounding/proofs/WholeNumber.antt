-- The nearest whole number, halves away from zero: exact in the format of its argument, and within a half of it.
use Rattle.std.proofs.Common.{◌≡◌, ℕ, zero, suc, ◌+◌, ◌*◌, ◌/◌, ◌%◌, ◌^◌, ◌<◌, ◌≤◌, Bool, true, false, T, ℤ, pos, negsuc, sym, subst, inl, inr, mul-le-mul_right, mod-lt, zero-lt-suc, mul-le-mul_left, div-add-mod', arith, pow_pos}
use Rattle.std.specs.Float.{Float, nan, inf, fin, Format, ratio_round_half_up, round_with, float_round}
use Rattle.std.specs.Float.Ieee.{prec, up, down, round, fits}
use Rattle.std.specs.Float.Ieee.Fits.{down_pos, round-fits, nan-fits, inf-fits}
use Rattle.std.specs.Float.Ieee.Exact.{HasValue, round_exact}
use Rattle.std.specs.Float.Ieee.Scale.{finite}
use Rattle.std.specs.Float.Ieee.Back.{round_whole}
use Rattle.std.proofs.lemmas.Bool.{cases_lt}
use Rattle.exact.proofs.Rational.{ℚ, ◌-q◌, -q◌, ofℤ}
use Rattle.exact.proofs.Bound.{ofℕ, Bound}
use Rattle.exact.proofs.Compare.{dy}
use Rattle.rounding.specs.Values.{signed}
use Rattle.rounding.specs.Ranges.{Small}
use Rattle.rounding.proofs.Fractions.{frac, frac_le_out, frac_near_signed, size_under}
use Rattle.rounding.proofs.Value.{val, value_is, finite_is}
use Rattle.rounding.proofs.HalfUnit.{Half}
use Rattle.rounding.proofs.Held.{fit_digits, digits}

pub half_up : (n d : ℕ) → 0 < d → Half (ratio_round_half_up n d * d) d n
half_up n d D =
    let q = (2 * n + d) / (2 * d) in
    let r = (2 * n + d) % (2 * d) in
    let e : q * (2 * d) + r ≡ 2 * n + d = div-add-mod' (2 * n + d) (2 * d) in
    let l : r < 2 * d = mod-lt (2 * n + d) (omega arith) in
    (omega arith, omega arith)

half_small : (m K d P : ℕ) → 0 < d → m < P → K * d * 2 ≤ m * 2 + d → K ≤ P
half_small m K d P D l h = elim (cases_lt P K) [
  | inl g ↦
      let a : suc P * d ≤ K * d = mul-le-mul_right d g in
      let b : P * 1 ≤ P * d = mul-le-mul_left P D in
      absurd (omega arith)
  | inr g ↦ g
]

half_whole : (n : ℕ) → ratio_round_half_up n 1 ≡ n
half_whole n = omega arith

-- in its own format a value rounds to the whole number `ratio_round_half_up`, exactly
rounded_whole : (f : Format) (s : Bool) (m : ℕ) (e : ℤ) → T (fits f (fin s m e)) → HasValue (round f s (ratio_round_half_up (m * up e) (down e)) 1) s (ratio_round_half_up (m * up e) (down e)) 1
rounded_whole f s m (pos k) t =
    let d = digits f (fin s m (pos k)) tt t in
    subst (λ (n : ℕ). HasValue (round f s n 1) s n 1) (sym (half_whole (m * 2 ^ k)))
    (round_exact f s (m * 2 ^ k) 1 d.q d.j (zero-lt-suc 0) d.few d.under d.how.1)
rounded_whole f s zero (negsuc k) t =
    let h = half_up (0 * 1) (2 ^ suc k) (pow_pos (suc k)) in
    round_whole f s (ratio_round_half_up (0 * 1) (2 ^ suc k)) (half_small 0 (ratio_round_half_up (0 * 1) (2 ^ suc k)) (2 ^ suc k) (2 ^ prec f) (pow_pos (suc k)) (pow_pos (prec f)) h.0)
rounded_whole f s (suc m) (negsuc k) t =
    let h = half_up (suc m * 1) (2 ^ suc k) (pow_pos (suc k)) in
    round_whole f s (ratio_round_half_up (suc m * 1) (2 ^ suc k)) (half_small (suc m * 1) (ratio_round_half_up (suc m * 1) (2 ^ suc k)) (2 ^ suc k) (2 ^ prec f) (pow_pos (suc k)) (one (suc m) (2 ^ prec f) (fit_digits f s m (negsuc k) t).0) h.0)
  where
    one : (a b : ℕ) → a < b → a * 1 < b
    one a b h = omega arith

pub away_value : (f : Format) (s : Bool) (m : ℕ) (e : ℤ) → T (fits f (fin s m e)) → HasValue (float_round f (fin s m e)) s (ratio_round_half_up (m * up e) (down e)) 1
unfolding round_with
away_value f false m e t = rounded_whole f false m e t
away_value f true m e t = rounded_whole f true m e t

pub away_fits : (f : Format) (x : Float) → T (fits f (float_round f x))
unfolding round_with
away_fits f nan = nan-fits f
away_fits f (inf s) = inf-fits f s
away_fits f (fin false m e) = round-fits f false (ratio_round_half_up (m * up e) (down e)) 1
away_fits f (fin true m e) = round-fits f true (ratio_round_half_up (m * up e) (down e)) 1

-- ---- k is a whole number within a half of p
pub record NearWhole (f : Format) (p k : Float) : Type 0 where
  pub num : ℤ
  pub is_finite : T (finite k)
  pub is_fit : T (fits f k)
  pub value_of : val k ≡ ofℤ num
  pub off : Bound (val p -q val k) (dy 1 1)

pub away_near : (f : Format) (p : Float) → T (fits f p) → T (finite p) → NearWhole f p (float_round f p)
unfolding val ofℤ
away_near f nan w t = absurd t
away_near f (inf s) w t = absurd t
away_near f (fin s m e) w t =
    let n = m * up e in
    let d = down e in
    let K = ratio_round_half_up n d in
    let h = half_up n d (down_pos e) in
    let v = value_is (float_round f (fin s m e)) s K 1 (zero-lt-suc 0) (away_value f s m e w) in
    record {
      num = signed s K;
      is_finite = finite_is (float_round f (fin s m e)) s K 1 (away_value f s m e w);
      is_fit = away_fits f (fin s m e);
      value_of = v;
      off = subst (λ (u : ℚ). Bound (frac s n d (down_pos e) -q u) (dy 1 1)) (sym v) (frac_near_signed s n d K 1 1 2 (down_pos e) (zero-lt-suc 0) (pow_pos 1) (up_side n d K h.1) (down_side n d K h.0));
    }
  where
    up_side : (n d K : ℕ) → n * 2 ≤ K * d * 2 + d → n * (1 * 2) ≤ (K * 2 + 1 * 1) * d
    up_side n d K h = omega arith

    down_side : (n d K : ℕ) → K * d * 2 ≤ n * 2 + d → K * (d * 2) ≤ (n * 2 + 1 * d) * 1
    down_side n d K h = omega arith

-- a rounding to a whole number that is lawful below 2 ^ k
abbrev pub RoundLaw : Format → ℕ → (Float → Float) → Type 0
RoundLaw f k round = (p : Float) → Small f k p → round p ≡ float_round f p

small_of : (f : Format) (k : ℕ) (x : Float) → T (fits f x) → T (finite x) → Bound (val x) (ofℕ (2 ^ k)) → Small f k x
unfolding val ofℕ ofℤ
small_of f k nan w t b = absurd t
small_of f k (inf s) w t b = absurd t
small_of f k (fin s m e) w t b = let u : m * up e * 1 ≤ 2 ^ k * down e = frac_le_out (m * up e) (down e) (2 ^ k) 1 (down_pos e) (zero-lt-suc 0) (size_under s (m * up e) (down e) (down_pos e) _ b) in (w, (omega arith))

pub lawful_near : (f : Format) (k : ℕ) (round : Float → Float) → RoundLaw f k round → (p : Float) → T (fits f p) → T (finite p) → Bound (val p) (ofℕ (2 ^ k)) → NearWhole f p (round p)
lawful_near f k round law p w t b = subst (λ (u : Float). NearWhole f p u) (sym (law p (small_of f k p w t b))) (away_near f p w t)
