-- A whole float as a signed integer: where it is in the range, the conversion loses nothing.
use Rattle.std.proofs.Common.{◌≡◌, ℕ, ◌-◌, ◌*◌, ◌/◌, ◌^◌, ◌<◌, ◌≤◌, min, Bool, true, false, cond, T, ℤ, pos, neg_ℤ, sym, ap, ◌∙◌, subst, zero-lt-suc, mul-div_cancel, arith, pow_pos}
use Rattle.std.specs.Float.{Float, fin}
use Rattle.std.specs.Float.Ieee.{up, down, lt, to_signed}
use Rattle.std.specs.Float.Ieee.Fits.{down_pos}
use Rattle.std.specs.Float.Ieee.Scale.{finite}
use Rattle.exact.proofs.Rational.{ℚ, ofℤ}
use Rattle.exact.proofs.Bound.{ofℕ, Bound}
use Rattle.rounding.specs.Values.{signed}
use Rattle.rounding.proofs.Fractions.{frac_same, frac_le_out, size_under, size_out}
use Rattle.rounding.proofs.Value.{val}
use Rattle.rounding.proofs.Multiple.{Mult, sized}

cast_signed : (h : ℕ) (s : Bool) (n : ℕ) → n < 2 ^ h → cond s (neg_ℤ (pos (min n (2 ^ h)))) (pos (min n (2 ^ h - 1))) ≡ signed s n
cast_signed h false n l = ap pos {x = min n (2 ^ h - 1)} {y = n} (omega arith)
cast_signed h true n l = ap (λ (u : ℕ). neg_ℤ (pos u)) {x = min n (2 ^ h)} {y = n} (omega arith)

pub cast_value : (h : ℕ) (x : Float) (B : ℕ) → B < 2 ^ h → T (finite x) → Mult 0 (val x) → Bound (val x) (ofℕ B) → val x ≡ ofℤ (to_signed h x)
unfolding val ofℤ ofℕ to_signed
cast_value h (fin s m e) B lt t w b =
    let v = sized w in
    let n = v.n in
    let q : m * up e * 1 ≡ n * down e = size_out s v.s (m * up e) (down e) n 1 (down_pos e) (pow_pos 0) v.how in
    let q' : m * up e ≡ n * down e = omega arith in
    let d : m * up e / down e ≡ n = ap (λ (u : ℕ). u / down e) q' ∙ mul-div_cancel n (down_pos e) in
    let l : n * 1 ≤ B * 1 = frac_le_out n 1 B 1 (pow_pos 0) (zero-lt-suc 0) (size_under v.s n 1 (pow_pos 0) _ (subst (λ (u : ℚ). Bound u (ofℕ B)) v.how b)) in
    frac_same s (m * up e) (down e) n 1 (down_pos e) (zero-lt-suc 0) q
    ∙ ap (λ (z : ℤ). ofℤ z) (sym (ap (λ (u : ℕ). cond s (neg_ℤ (pos (min u (2 ^ h)))) (pos (min u (2 ^ h - 1)))) d ∙ cast_signed h s n (omega arith)))
cast_value _ _ _ _ t _ _ = absurd t
