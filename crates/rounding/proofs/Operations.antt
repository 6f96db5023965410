-- The operations meet IEEE 754-2019: the exact result rounded once, the signs of zero, the infinities and NaN.
use Rattle.std.proofs.Common.{◌≡◌, ℕ, suc, ◌+◌, ◌-◌, ◌*◌, ◌^◌, ◌<◌, Bool, true, false, cond, not, ◌&&◌, ◌||◌, T, eqb, ltb, [], ◌∷◌, ℤ, pos, ◌+ℤ◌, ◌*ℤ◌, sym, refl, ap, ◌∙◌, subst, ap₂, inl, inr, true≢false, eq-zero-or-pos, mul-pos, zero-mul, arith, ltb→lt, lt→ltb, pow_pos}
use Rattle.std.specs.Float.{Float, nan, inf, fin, Format, float_mul_add, round_to_format}
use Rattle.std.specs.Float.Ieee.{prec, emax, low, up, down, unlike, odd, units, round, sum, add, mul, is_nan}
use Rattle.std.specs.Float.Ieee.Fits.{down_pos, round_is, and_r}
use Rattle.std.specs.Float.Ieee.Bits.{cond_no, is_false}
use Rattle.std.specs.Float.Ieee.Order.{drop, kept}
use Rattle.std.specs.Float.Ieee.Scale.{overflow, finite}
use Rattle.std.proofs.Math.Dec.{not_T}
use Rattle.std.proofs.lemmas.Int.{ints}
use std.Quotient.{cls}
use Rattle.exact.specs.Fraction.{Fraction, Same, whole, plus, times}
use Rattle.exact.proofs.Ring.{con, ◌⊗◌, norm}
use Rattle.exact.proofs.Integer.{zring, x₀, mul_oneℤ}
use Rattle.exact.proofs.Rational.{ℚ, ◌+q◌, ◌*q◌}
use Rattle.rounding.specs.Values.{signed, value, sign, infinite, is_zero}
use Rattle.rounding.specs.Operations.{nonzero, Rounded, Sum, RoundNearest, Products, Sums, MultiplyAdds, Conversions}
use Rattle.rounding.proofs.Fractions.{signed_mul, signed_scale}
use Rattle.rounding.proofs.Value.{val, Rounds, mul_rounds, add_rounds, fused_rounds}
use Rattle.rounding.proofs.Multiple.{grid_zero}
use Rattle.rounding.proofs.Distance.{sfrac}
use Rattle.rounding.proofs.NearestValue.{round_nearest_lem, rounds_nearest}

-- ---- an exact zero
round_zero : (f : Format) (s : Bool) (a c : ℕ) → 0 < c → a ≡ 0 → round f s a c ≡ fin s 0 (pos 0)
unfolding units odd
round_zero f s a c C e =
    let k = drop (prec f) (a * 2 ^ low f) c in
    let q = kept (prec f) (a * 2 ^ low f) c in
    let z : q ≡ 0 = none q (2 ^ k) (pow_pos k) (grid_zero f a c C e) in
    round_is f s a c
    ∙ ap (λ (q : ℕ). units f s q k) z
    ∙ ap (λ (n : ℕ). cond (ltb n (overflow f)) (fin s 0 (pos 0)) (inf s)) (zero-mul (2 ^ k))
    ∙ cond_yes (ltb 0 (overflow f)) (fin s 0 (pos 0)) (inf s) (lt→ltb 0 (overflow f) (pow_pos (low f + suc (emax f))))
  where
    none : (q u : ℕ) → 0 < u → q * u ≡ 0 → q ≡ 0
    none q u U z = elim (eq-zero-or-pos q) [ inl e ↦ e | inr p ↦ let m : 0 < q * u = mul-pos p U in absurd (omega arith) ]

    cond_yes : (b : Bool) (x y : Float) → T b → cond b x y ≡ x
    cond_yes true x y t = refl
    cond_yes false x y t = absurd t

signed_zero : (s : Bool) (a : ℕ) → signed s a ≡ pos 0 → a ≡ 0
signed_zero false a e = omega (arith, ints)
signed_zero true a e = omega (arith, ints)

same_zero : (q : Fraction) → Same q (whole 0) → q.num ≡ pos 0
same_zero q e = go q.num q.den e
  where
    go : (n : ℤ) (d : ℕ) → n *ℤ pos 1 ≡ pos 0 *ℤ pos d → n ≡ pos 0
    go n d e = sym (mul_oneℤ n) ∙ e ∙ (unfold norm in zring (con (pos 0) ⊗ x₀) (con (pos 0)) refl (pos d ∷ []))

pub round_stands : RoundNearest
round_stands f s a c C = record {
  nearest = round_nearest_lem f s a c C (sfrac s a c C) refl;
  zero = λ e. round_zero f s a c C (signed_zero s a (same_zero (sfrac s a c C) e));
}

-- ---- products
product_zero : (s t : Bool) (a b c d : ℕ) (C : 0 < c) (D : 0 < d) → Same (times (sfrac s a c C) (sfrac t b d D)) (whole 0) → a * b ≡ 0
product_zero s t a b c d C D e = signed_zero (unlike s t) (a * b) (sym (signed_mul s t a b) ∙ same_zero (times (sfrac s a c C) (sfrac t b d D)) e)

times_is : (x y : Float) → cls (times (value x) (value y)) ≡ val x *q val y
unfolding val ◌*q◌
times_is x y = refl

mul_finite : (f : Format) (x y : Float) → T (finite x && finite y) → Rounded f (unlike (sign x) (sign y)) (times (value x) (value y)) (mul f x y)
unfolding mul
mul_finite f (fin s m e) (fin u n d) t = record {
  nearest = rounds_nearest f (mul f (fin s m e) (fin u n d)) (times (value (fin s m e)) (value (fin u n d))) (subst (λ (q : ℚ). Rounds f (mul f (fin s m e) (fin u n d)) q) (sym (times_is (fin s m e) (fin u n d))) (mul_rounds f (fin s m e) (fin u n d) tt tt));
  zero = λ z. round_zero f (unlike s u) (m * up e * (n * up d)) (down e * down d) (mul-pos (down_pos e) (down_pos d)) (product_zero s u (m * up e) (n * up d) (down e) (down d) (down_pos e) (down_pos d) z);
}
mul_finite _ _ _ t = absurd t

mul_nan : (f : Format) (x y : Float) → T (is_nan x || is_nan y) → mul f x y ≡ nan
unfolding mul is_nan
mul_nan f nan y t = refl
mul_nan f _ nan t = refl
mul_nan _ _ _ t = absurd t

mul_invalid : (f : Format) (x y : Float) → T (infinite x && is_zero y || is_zero x && infinite y) → mul f x y ≡ nan
unfolding mul
mul_invalid f (inf s) (fin u n d) t = go (eqb n 0) t
  where
    go : (b : Bool) → T (b || false) → cond b nan (inf (unlike s u)) ≡ nan
    go true t = refl
    go false t = absurd t
mul_invalid f (fin s m e) nan t = refl
mul_invalid f (fin s m e) (inf u) t = go (eqb m 0) t
  where
    go : (b : Bool) → T (b && true) → cond b nan (inf (unlike s u)) ≡ nan
    go true t = refl
    go false t = absurd t
mul_invalid f (fin s m e) (fin u n d) t = absurd (and_r (eqb m 0) false t)
mul_invalid _ _ _ t = absurd t

mul_infinite : (f : Format) (x y : Float) → T (infinite x || infinite y) → T (nonzero x && nonzero y) → mul f x y ≡ inf (unlike (sign x) (sign y))
unfolding mul
mul_infinite f (inf s) (inf v) t u = refl
mul_infinite f (inf s) (fin v n d) t u = go (eqb n 0) u
  where
    go : (b : Bool) → T (not b) → cond b nan (inf (unlike s v)) ≡ inf (unlike s v)
    go true t = absurd t
    go false t = refl
mul_infinite f (fin s m e) nan t u = absurd t
mul_infinite f (fin s m e) (inf v) t u = go (eqb m 0) u
  where
    go : (b : Bool) → T (not b && true) → cond b nan (inf (unlike s v)) ≡ inf (unlike s v)
    go true t = absurd t
    go false t = refl
mul_infinite f (fin s m e) (fin v n d) t u = absurd t
mul_infinite _ _ _ _ u = absurd u

pub products : Products
products f x y = record { nan_in = mul_nan f x y; invalid = mul_invalid f x y; infinite_factor = mul_infinite f x y; finite_factors = mul_finite f x y }

-- ---- sums
zero_sum : (f : Format) (s : Bool) (a : ℕ) (t : Bool) (b c : ℕ) → 0 < c → signed s a +ℤ signed t b ≡ pos 0 → sum f s a t b c ≡ fin (s && t) 0 (pos 0)
unfolding sum
zero_sum f false a false b c C e = round_zero f false (a + b) c C (omega (arith, ints))
zero_sum f true a true b c C e = round_zero f true (a + b) c C (omega (arith, ints))
zero_sum f false a true b c C e =
    let h : a ≡ b = omega (arith, ints) in
    cond_no (ltb a b) _ _ (not_T (ltb a b) (λ t. below a b h (ltb→lt a b t))) ∙ round_zero f false (a - b) c C (omega arith)
  where
    below : (a b : ℕ) → a ≡ b → a < b → ⊥
    below a b h l = omega arith
zero_sum f true a false b c C e =
    let h : a ≡ b = omega (arith, ints) in
    cond_no (ltb a b) _ _ (not_T (ltb a b) (λ t. below a b h (ltb→lt a b t))) ∙ ap (λ (s : Bool). round f s (a - b) c) (is_false (ltb b a) (not_T (ltb b a) (λ t. below b a (sym h) (ltb→lt b a t)))) ∙ round_zero f false (a - b) c C (omega arith)
  where
    below : (a b : ℕ) → a ≡ b → a < b → ⊥
    below a b h l = omega arith

plus_is : (x y : Float) → cls (plus (value x) (value y)) ≡ val x +q val y
unfolding val ◌+q◌
plus_is x y = refl

add_finite : (f : Format) (x y : Float) → T (finite x && finite y) → Rounded f (sign x && sign y) (plus (value x) (value y)) (add f x y)
unfolding add
add_finite f (fin s m e) (fin u n d) t = record {
  nearest = rounds_nearest f (add f (fin s m e) (fin u n d)) (plus (value (fin s m e)) (value (fin u n d))) (subst (λ (q : ℚ). Rounds f (add f (fin s m e) (fin u n d)) q) (sym (plus_is (fin s m e) (fin u n d))) (add_rounds f (fin s m e) (fin u n d) tt tt));
  zero = λ z. zero_sum f s (m * up e * down d) u (n * up d * down e) (down e * down d) (mul-pos (down_pos e) (down_pos d))
      (ap₂ (λ (x y : ℤ). x +ℤ y) (sym (signed_scale s (m * up e) (down d))) (sym (signed_scale u (n * up d) (down e))) ∙ same_zero (plus (value (fin s m e)) (value (fin u n d))) z);
}
add_finite _ _ _ t = absurd t

add_nan : (f : Format) (x y : Float) → T (is_nan x || is_nan y) → add f x y ≡ nan
unfolding add is_nan
add_nan f nan y t = refl
add_nan f _ nan t = refl
add_nan _ _ _ t = absurd t

add_differ : (f : Format) (x y : Float) → T (infinite x && infinite y) → T (unlike (sign x) (sign y)) → add f x y ≡ nan
unfolding add
add_differ f (inf false) (inf false) t u = absurd u
add_differ f (inf false) (inf true) t u = refl
add_differ f (inf true) (inf false) t u = refl
add_differ f (inf true) (inf true) t u = absurd u
add_differ _ _ _ t _ = absurd t

add_agree : (f : Format) (x y : Float) → T (infinite x && infinite y) → sign x ≡ sign y → add f x y ≡ x
unfolding add
add_agree f (inf false) (inf false) t u = refl
add_agree f (inf false) (inf true) t u = absurd (true≢false (sym u))
add_agree f (inf true) (inf false) t u = absurd (true≢false u)
add_agree f (inf true) (inf true) t u = refl
add_agree _ _ _ t _ = absurd t

add_left : (f : Format) (x y : Float) → T (infinite x && finite y) → add f x y ≡ x
unfolding add
add_left f (inf s) (fin u n d) t = refl
add_left _ _ _ t = absurd t

add_right : (f : Format) (x y : Float) → T (finite x && infinite y) → add f x y ≡ y
unfolding add
add_right f (fin s m e) (inf u) t = refl
add_right _ _ _ t = absurd t

pub sums : Sums
sums f x y = record {
  nan_in = add_nan f x y;
  infinities_differ = add_differ f x y;
  infinities_agree = add_agree f x y;
  infinite_left = add_left f x y;
  infinite_right = add_right f x y;
  finite_terms = add_finite f x y;
}

-- ---- the fused multiply-add: with an infinite factor it is the sum of the product and the addend
fused_infinite_is : (f : Format) (x y z : Float) → T (infinite x || infinite y) → float_mul_add f x y z ≡ add f (mul f x y) z
unfolding float_mul_add mul add
fused_infinite_is f nan y z t = refl
fused_infinite_is f (inf s) y z t = refl
fused_infinite_is f (fin s m e) nan z t = refl
fused_infinite_is f (fin s m e) (inf u) z t = refl
fused_infinite_is f (fin s m e) (fin u n d) z t = absurd t

or_r : (a b : Bool) → T b → T (a || b)
or_r true b t = tt
or_r false b t = t

nan_last : (f : Format) (x : Float) → add f x nan ≡ nan
unfolding is_nan
nan_last f x = add_nan f x nan (or_r (is_nan x) true tt)

fused_nan : (f : Format) (x y z : Float) → T (is_nan x || is_nan y || is_nan z) → float_mul_add f x y z ≡ nan
unfolding float_mul_add is_nan mul add
fused_nan f nan y z t = refl
fused_nan f _ nan z t = refl
fused_nan f (inf s) (inf u) nan t = refl
fused_nan f (fin s m e) (fin u n d) nan t = refl
fused_nan f x y nan t = nan_last f (mul f x y)
fused_nan _ _ _ _ t = absurd t

some_infinite : (x y : Float) → T (infinite x && is_zero y || is_zero x && infinite y) → T (infinite x || infinite y)
some_infinite nan y t = absurd t
some_infinite (inf s) y t = tt
some_infinite (fin s m e) y t = and_r (eqb m 0) (infinite y) t

fused_invalid : (f : Format) (x y z : Float) → T (infinite x && is_zero y || is_zero x && infinite y) → float_mul_add f x y z ≡ nan
unfolding add
fused_invalid f x y z t = fused_infinite_is f x y z (some_infinite x y t) ∙ ap (λ (p : Float). add f p z) (mul_invalid f x y t)

fused_product : (f : Format) (x y z : Float) → T (infinite x || infinite y) → T (nonzero x && nonzero y) → Sum f (inf (unlike (sign x) (sign y))) z (float_mul_add f x y z)
fused_product f x y z t u = subst (λ (r : Float). Sum f (inf (unlike (sign x) (sign y))) z r) (ap (λ (p : Float). add f p z) (sym (mul_infinite f x y t u)) ∙ sym (fused_infinite_is f x y z t)) (sums f (inf (unlike (sign x) (sign y))) z)

fused_addend : (f : Format) (x y z : Float) → T (finite x && finite y && infinite z) → float_mul_add f x y z ≡ z
unfolding float_mul_add
fused_addend f (fin s m e) (fin u n d) (inf v) t = refl
fused_addend _ _ _ _ t = absurd t

fused_is : (x y z : Float) → cls (plus (times (value x) (value y)) (value z)) ≡ val x *q val y +q val z
unfolding val ◌+q◌ ◌*q◌
fused_is x y z = refl

fused_finite : (f : Format) (x y z : Float) → T (finite x && finite y && finite z) → Rounded f (unlike (sign x) (sign y) && sign z) (plus (times (value x) (value y)) (value z)) (float_mul_add f x y z)
unfolding float_mul_add
fused_finite f (fin s m e) (fin u n d) (fin v k g) t =
    let x = fin s m e in
    let y = fin u n d in
    let z = fin v k g in
    record {
      nearest = rounds_nearest f (float_mul_add f x y z) (plus (times (value x) (value y)) (value z)) (subst (λ (q : ℚ). Rounds f (float_mul_add f x y z) q) (sym (fused_is x y z)) (fused_rounds f x y z tt tt tt));
      zero = λ o. zero_sum f (unlike s u) (m * up e * (n * up d) * down g) v (k * up g * (down e * down d)) (down e * down d * down g) (mul-pos (mul-pos (down_pos e) (down_pos d)) (down_pos g))
          (ap₂ (λ (x y : ℤ). x +ℤ y) (sym (signed_scale (unlike s u) (m * up e * (n * up d)) (down g)) ∙ ap (λ (q : ℤ). q *ℤ pos (down g)) (sym (signed_mul s u (m * up e) (n * up d)))) (sym (signed_scale v (k * up g) (down e * down d))) ∙ same_zero (plus (times (value x) (value y)) (value z)) o);
    }
fused_finite _ _ _ _ t = absurd t

pub multiply_adds_lem : MultiplyAdds
multiply_adds_lem f x y z = record {
  nan_in = fused_nan f x y z;
  invalid = fused_invalid f x y z;
  infinite_product = fused_product f x y z;
  infinite_addend = fused_addend f x y z;
  all_finite = fused_finite f x y z;
}

-- ---- a format to another
narrow_finite : (f : Format) (x : Float) → T (finite x) → Rounded f (sign x) (value x) (round_to_format f x)
unfolding round_to_format
narrow_finite f (fin s m e) t = round_stands f s (m * up e) (down e) (down_pos e)
narrow_finite _ _ t = absurd t

narrow_nan : (f : Format) (x : Float) → T (is_nan x) → round_to_format f x ≡ nan
unfolding round_to_format is_nan
narrow_nan f nan t = refl
narrow_nan _ _ t = absurd t

narrow_infinite : (f : Format) (x : Float) → T (infinite x) → round_to_format f x ≡ x
unfolding round_to_format
narrow_infinite f (inf s) t = refl
narrow_infinite _ _ t = absurd t

pub conversions : Conversions
conversions f x = record { nan_in = narrow_nan f x; infinite_in = narrow_infinite f x; finite_in = narrow_finite f x }
