-- Rounding to a whole number, halves away from zero, is what IEEE 754-2019 says of it.
use Rattle.std.proofs.Common.{◌≡◌, ℕ, suc, ◌+◌, ◌*◌, ◌/◌, ◌%◌, ◌<◌, ◌≤◌, Bool, false, T, ℤ, pos, ◌*ℤ◌, sym, refl, ap, ◌∙◌, subst, inl, inr, mul-le-mul_right, mod-lt, zero-lt-suc, div-add-mod', mul-one, arith}
use Rattle.std.specs.Float.{Float, nan, inf, fin, Format, ratio_round_half_up, round_with, float_round}
use Rattle.std.specs.Float.Ieee.{up, down, fits, is_nan}
use Rattle.std.specs.Float.Ieee.Fits.{down_pos}
use Rattle.std.specs.Float.Ieee.Exact.{HasValue}
use Rattle.std.proofs.lemmas.Bool.{cases_lt}
use std.Quotient.{cls}
use Rattle.exact.specs.Fraction.{integer, absolute, apart, ◌≼◌}
use Rattle.exact.proofs.Rational.{ℚ, is}
use Rattle.exact.proofs.Order.{◌≤q◌}
use Rattle.exact.proofs.Bound.{absq}
use Rattle.rounding.specs.Values.{signed, value, infinite}
use Rattle.rounding.specs.Operations.{WholeNearest, WholeNumbers}
use Rattle.rounding.specs.Nearest.{Held}
use Rattle.rounding.proofs.Fractions.{frac, frac_le, sign_size}
use Rattle.rounding.proofs.Value.{val_value, value_is, finite_is}
use Rattle.rounding.proofs.Best.{half_best, dist}
use Rattle.rounding.proofs.Distance.{at_most_in, same_number, abs_cls, abs_frac, apart_le, gap, sfrac, nearer_in, nearer_out}
use Rattle.rounding.proofs.NearestValue.{sign_of_value, same_nearer, tie_nearer}
use Rattle.rounding.proofs.WholeNumber.{half_up, away_value, away_fits}

away_largest : (n d k : ℕ) → 0 < d → dist (k * d) n ≤ dist (ratio_round_half_up n d * d) n → k ≤ ratio_round_half_up n d
away_largest n d k D h = elim (cases_lt (ratio_round_half_up n d) k) [
  | inl l ↦
      let K = (2 * n + d) / (2 * d) in
      let r = (2 * n + d) % (2 * d) in
      let e : K * (2 * d) + r ≡ 2 * n + d = div-add-mod' (2 * n + d) (2 * d) in
      let m : r < 2 * d = mod-lt (2 * n + d) (omega arith) in
      let g : suc K * d ≤ k * d = mul-le-mul_right d l in
      absurd (omega arith)
  | inr g ↦ g
]

module _ (f : Format) (s : Bool) (m : ℕ) (e : ℤ) (w : T (fits f (fin s m e))) where
  abbrev x : Float
  x = fin s m e

  abbrev r : Float
  r = float_round f (fin s m e)

  abbrev n : ℕ
  n = m * up e

  abbrev d : ℕ
  d = down e

  abbrev K : ℕ
  K = ratio_round_half_up (m * up e) (down e)

  abbrev one : 0 < 1
  one = zero-lt-suc 0

  hv : HasValue r s K 1
  hv = away_value f s m e w

  cls_r : ◌≡◌ {A = ℚ} (cls (value r)) (cls (sfrac s K 1 one))
  cls_r = sym (val_value r) ∙ value_is r s K 1 one hv

  near : (k : ℕ) → dist (K * d) (n * 1) ≤ dist (k * d) (n * 1)
  near k = subst (λ (n' : ℕ). dist (K * d) n' ≤ dist (k * d) n') (sym (mul-one n)) (half_best K k d n (half_up n d (down_pos e)))

  near_zero : dist (K * d) (n * 1) ≤ n * 1
  near_zero = go (K * d) (n * 1) d (near 0)
    where
      go : (x n d : ℕ) → dist x n ≤ dist (0 * d) n → dist x n ≤ n
      go x n d h = omega arith

  cls_whole : (z : ℤ) → ◌≡◌ {A = ℚ} (cls (integer z)) (cls (sfrac (sign_size z).s (sign_size z).n 1 one))
  cls_whole z = is (ap (λ (u : ℤ). u *ℤ pos 1) (sign_size z).how)

  none_nearer : (z : ℤ) → apart (value r) (value x) ≼ apart (integer z) (value x)
  none_nearer z =
      let v = sign_size z in
      apart_le {b = sfrac s n d (down_pos e)} {d = sfrac s n d (down_pos e)} cls_r refl (cls_whole z) refl (nearer_in s n d 1 (down_pos e) one s v.s K v.n (same_nearer v.s s (K * d) (v.n * d) (n * 1) (near v.n) near_zero))

  halves_away : (z : ℤ) → apart (integer z) (value x) ≼ apart (value r) (value x) → absolute (integer z) ≼ absolute (value r)
  halves_away z h =
      let v = sign_size z in
      let b : gap v.s s (v.n * d) (n * 1) ≤ gap s s (K * d) (n * 1) = nearer_out s n d 1 (down_pos e) one v.s s v.n K (apart_le {b = value x} {d = value x} (sym (cls_whole z)) refl (sym cls_r) refl h) in
      let k : v.n ≤ K = away_largest n d v.n (down_pos e) (subst (λ (n' : ℕ). dist (v.n * d) n' ≤ dist (K * d) n') (mul-one n) (tie_nearer v.s s (K * d) (v.n * d) (n * 1) b)) in
      at_most_in (absolute (integer z)) (absolute (value r))
      (subst (λ (q : ℚ). q ≤q cls (absolute (value r))) (sym (abs_cls (integer z) ∙ ap absq (cls_whole z) ∙ abs_frac v.s v.n 1 one))
      (subst (λ (q : ℚ). frac false v.n 1 one ≤q q) (sym (abs_cls (value r) ∙ ap absq cls_r ∙ abs_frac s K 1 one)) (frac_le v.n 1 K 1 one one (mul-le-mul_right 1 k))))

  whole_nearest : WholeNearest f x r
  whole_nearest = record {
    held = record { is_finite = finite_is r s K 1 hv; is_held = away_fits f x };
    sign_kept = sign_of_value r s K 1 hv;
    is_whole = (signed s K, same_number (value r) (integer (signed s K)) cls_r);
    none_nearer = none_nearer;
    halves_away = halves_away;
  }

away_finite : (f : Format) (x : Float) → Held f x → WholeNearest f x (float_round f x)
away_finite f nan h = absurd h.is_finite
away_finite f (inf s) h = absurd h.is_finite
away_finite f (fin s m e) h = whole_nearest f s m e h.is_held

away_nan : (f : Format) (x : Float) → T (is_nan x) → float_round f x ≡ nan
unfolding round_with is_nan
away_nan f nan t = refl
away_nan _ _ t = absurd t

away_infinite : (f : Format) (x : Float) → T (infinite x) → float_round f x ≡ x
unfolding round_with
away_infinite f (inf s) t = refl
away_infinite _ _ t = absurd t

pub whole_numbers : WholeNumbers
whole_numbers f x = record { nan_in = away_nan f x; infinite_in = away_infinite f x; finite_in = away_finite f x }
