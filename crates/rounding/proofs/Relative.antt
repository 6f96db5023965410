-- The error of one rounding, relative to a number that is not negative.
use Rattle.std.proofs.Common.{◌≡◌, ℕ, ◌-◌, ◌*◌, ◌^◌, ◌<◌, ◌≤◌, false, T, [], ◌∷◌, sym, refl, ap, ◌∙◌, subst, zero-lt-suc, arith, pow_pos}
use Rattle.std.specs.Float.{Float, Format}
use Rattle.std.specs.Float.Ieee.{prec, emax, low, round}
use Rattle.std.specs.Float.Ieee.Scale.{grid, finite}
use Rattle.exact.proofs.Ring.{◌⊗◌, norm}
use Rattle.exact.proofs.Integer.{x₀, x₁}
use Rattle.exact.proofs.Rational.{ℚ, ◌*q◌, -q◌, ◌-q◌, ofℤ, qring}
use Rattle.exact.proofs.Order.{nn, ◌≤q◌}
use Rattle.exact.proofs.Bound.{ofℕ, Bound, absq}
use Rattle.exact.proofs.Relative.{Rel}
use Rattle.rounding.proofs.Distance.{abs_frac, abs_nn}
use Rattle.exact.proofs.Compare.{dy}
use Rattle.rounding.proofs.Fractions.{frac, frac_le_out}
use Rattle.rounding.proofs.Value.{val, finite_is, Rounds}
use Rattle.rounding.proofs.HalfUnit.{round_value}
use Rattle.rounding.proofs.Error.{no_overflow, round_relative}

-- ---- one rounding in the normal range
pub rel_round : (f : Format) (z : Float) (q : ℚ) (t : ℕ) → Rounds f z q → T (nn q) → dy 1 (emax f - 1) ≤q q → q ≤q ofℕ (2 ^ t) → t < emax f → T (finite z) × Rel (val z) q (dy 1 (prec f))
unfolding norm ofℕ ofℤ
rel_round f z q t r n lo hi h =
    let s = r.s in
    let a = r.a in
    let c = r.c in
    let C = r.ok in
    let S : frac false a c C ≡ q = sym (abs_frac s a c C) ∙ ap absq (sym r.what) ∙ abs_nn q n in
    let k : 1 * c ≤ a * 2 ^ (emax f - 1) = frac_le_out 1 (2 ^ (emax f - 1)) a c (pow_pos (emax f - 1)) C (subst (λ (u : ℚ). dy 1 (emax f - 1) ≤q u) (sym S) lo) in
    let l : a * 1 ≤ 2 ^ t * c = frac_le_out a c (2 ^ t) 1 C (zero-lt-suc 0) (subst (λ (u : ℚ). u ≤q ofℕ (2 ^ t)) (sym S) hi) in
    let o = no_overflow f a c t C (omega arith) h in
    let b = round_relative f s a c C o (omega arith) in (
      subst (λ (y : Float). T (finite y)) (sym r.how) (finite_is (round f s a c) s (grid f a c) (2 ^ low f) (round_value f s a c o)),
      record {
        off = subst (λ (y : Float). Bound (val y -q q) (dy 1 (prec f) *q q)) (sym r.how)
            (subst (λ (u : ℚ). Bound (val (round f s a c) -q u) (dy 1 (prec f) *q q)) (sym r.what)
            (subst (λ (u : ℚ). Bound (val (round f s a c) -q frac s a c C) u) (ap (λ (u : ℚ). u *q dy 1 (prec f)) S ∙ qring (x₀ ⊗ x₁) (x₁ ⊗ x₀) refl (q ∷ dy 1 (prec f) ∷ [])) b));
      },
    )
