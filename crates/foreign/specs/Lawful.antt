-- The choosing arithmetic is lawful where its multiply-add is one of the two that the law allows.
use Rattle.std.specs.Prelude.{◌≡◌, ℕ, ◌*◌, ◌<◌, Bool, true, false, cond, T, ℤ, pos, ◌*ℤ◌, refl, Float}
use Rattle.std.proofs.Common.{sym, ap, ◌∙◌, div-lt_iff_lt-mul, arith, eqb→eq, ltb→lt}
use Rattle.std.specs.Float.Ieee.{up, down, lt, eq, fits}
use Rattle.std.specs.Float.Ieee.Fits.{down_pos, and_l}
use Rattle.std.specs.Float.{float_is_finite, float_round, nan, inf, fin, Format, binary32, binary64}
use Rattle.rounding.specs.Values.{signed}
use Rattle.arithmetic.specs.Arithmetic.{Lawful, OneOrTwo, Nearest, RoundsAway, small, minus_zero}
use Rattle.arithmetic.specs.Away.{rounds_away, nearest_away}
use Rattle.arithmetic.specs.Whole.{halves, twice_pos}
use Rattle.foreign.specs.Choosing.{choosing, by_order, plain_zero}

abbrev pub zero : Float
zero = fin false 0 (pos 0)

zero_fits : (f : Format) → T (fits f zero)
unfolding fits
zero_fits f = tt

not_below : (s : Bool) (m : ℕ) (e : ℤ) → m * up e ≡ 0 → T (lt (fin s m e) minus_zero) → ⊥
unfolding lt
not_below false m e z t = t
not_below true m e z t = let h = ltb→lt (0 * 1 * down e) (m * up e * 1) t in clash (m * up e) (down e) z h
  where
    clash : (a d : ℕ) → a ≡ 0 → 0 * 1 * d < a * 1 → ⊥
    clash a d z h = absurd (omega arith)

-- +0 serves for either zero
zero_away : (f : Format) (x : Float) → T (eq x zero) → RoundsAway f x zero
unfolding eq lt float_is_finite
zero_away f nan t = absurd t
zero_away f (inf s) t = absurd t
zero_away f (fin s m e) t =
    let z : m * up e ≡ 0 = none (m * up e) (down e) (eqb→eq (m * up e * 1) (0 * 1 * down e) (and_l _ _ t)) in
    record {
      fit = zero_fits f;
      number = tt;
      z = signed s (halves (m * up e) (down e));
      is = sym (ap (λ (k : ℕ). signed s k *ℤ pos 1) (ap (λ (a : ℕ). halves a (down e)) z ∙ half_none (down e) (down_pos e)) ∙ nil s);
      nearest = nearest_away s m e;
      gives_minus_zero = λ a b. absurd (not_below s m e z b);
    }
  where
    none : (a d : ℕ) → a * 1 ≡ 0 * 1 * d → a ≡ 0
    none a d h = omega arith

    half_none : (d : ℕ) → 0 < d → halves 0 d ≡ 0
    half_none d p = let h : halves 0 d < 1 = (div-lt_iff_lt-mul (twice_pos d p)).1 (omega arith) in omega arith

    nil : (s : Bool) → signed s 0 *ℤ pos 1 ≡ pos 0
    nil false = refl
    nil true = refl

pub plain_zero_lem : (f : Format) (x : Float) → Nearest f x (plain_zero f x)
plain_zero_lem f x w t = go (eq x zero) (zero_away f x) (small x) t
  where
    go : (b : Bool) → (T b → RoundsAway f x zero) → (c : Bool) → T c → RoundsAway f x (cond b zero (cond c (float_round f x) x))
    go true h c u = h tt
    go false h true u = rounds_away f x w t
    go false h false u = absurd u

-- lawful where its multiply-add is one of the two; that it is, the impl shows, so that an edit of by_order is refused there
pub lawful_where : ((f : Format) (x y z : Float) → OneOrTwo f x y z (by_order f x y z)) → Lawful choosing
lawful_where h = record { fmaf_law = λ x y z p q r a b c. h binary32 x y z; fma_law = λ x y z p q r a b c. h binary64 x y z; roundf_law = plain_zero_lem binary32; round_law = plain_zero_lem binary64 }
