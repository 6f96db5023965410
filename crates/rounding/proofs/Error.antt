-- The error of one rounding, as a rational: at most M * 2 ^ -prec and half of the smallest value, for a number of at most M in size.
use Rattle.std.proofs.Common.{◌≡◌, ℕ, suc, ◌+◌, ◌-◌, ◌*◌, ◌^◌, ◌<◌, ◌≤◌, Bool, false, T, [], ◌∷◌, pos, sym, refl, ap, ◌∙◌, subst, le_trans, le_of_eq, lt_of_le_of_lt, mul-le-mul_right, zero-lt-suc, mul_assoc, mul_comm, mul-le-mul_left, mul-pos, le_of_mul-le-mul_right, mul_left_comm, arith, pow_pos, pow-add}
use Rattle.std.specs.Float.{Float, Format, binary32, binary64}
use Rattle.std.specs.Float.Ieee.{prec, emax, low, round}
use Rattle.std.specs.Float.Ieee.Scale.{grid, overflow, finite, normal_of_fraction}
use Rattle.std.proofs.Math.Pow.{pow-lt}
use Rattle.exact.proofs.Ring.{con, ◌⊕◌, ◌⊗◌, norm}
use Rattle.exact.proofs.Integer.{zring, x₀, x₁, x₂, x₃}
use Rattle.exact.proofs.Rational.{ℚ, is, ◌+q◌, ◌*q◌, -q◌, ◌-q◌, ofℤ, qring}
use Rattle.exact.proofs.Order.{nn, ◌≤q◌, q_refl, q_trans, q_add, q_mul}
use Rattle.exact.proofs.Bound.{ofℕ, Bound, bound_more}
use Rattle.exact.proofs.Compare.{dy}
use Rattle.rounding.proofs.Fractions.{frac, frac_le_out, frac_near_signed, nn_frac, size_under}
use Rattle.rounding.proofs.Value.{val, value_is, finite_is, Rounds}
use Rattle.rounding.proofs.HalfUnit.{Rel, grid_rel, round_value, grid_abs}

-- 2 ^ -prec, and half of the smallest value
abbrev pub scale : Format → ℕ
scale f = 2 ^ (prec f - 1)

pub mul_pos2 : (s : ℕ) → 0 < s → 0 < s * 2
mul_pos2 s h = omega arith

side : (x n c s l a : ℕ) → n ≡ a * l → x * c * (s * 2) ≤ n * (s * 2) + (n + c * s) → x * (c * (l * c * (s * 2))) ≤ (a * (l * c * (s * 2)) + (a * l + c * s) * c) * l
side x n c s l a e h =
    let k : x * c * (s * 2) * (c * l) ≤ (a * l * (s * 2) + (a * l + c * s)) * (c * l) = mul-le-mul_right (c * l) (subst (λ (n : ℕ). x * c * (s * 2) ≤ n * (s * 2) + (n + c * s)) e h) in
    omega arith

side' : (x n c s l a : ℕ) → n ≡ a * l → n * (s * 2) ≤ x * c * (s * 2) + (n + c * s) → a * (l * (l * c * (s * 2))) ≤ (x * (l * c * (s * 2)) + (a * l + c * s) * l) * c
side' x n c s l a e h =
    let k : a * l * (s * 2) * (c * l) ≤ (x * c * (s * 2) + (a * l + c * s)) * (c * l) = mul-le-mul_right (c * l) (subst (λ (n : ℕ). n * (s * 2) ≤ x * c * (s * 2) + (n + c * s)) e h) in
    omega arith

-- the error of a finite rounded fraction
round_off : (f : Format) (s : Bool) (a c : ℕ) (C : 0 < c) → grid f a c < overflow f
    → Bound (val (round f s a c) -q frac s a c C) (frac false (a * 2 ^ low f + c * scale f) (2 ^ low f * c * (scale f * 2)) (mul-pos (mul-pos (pow_pos (low f)) C) (mul_pos2 (scale f) (pow_pos (prec f - 1)))))
round_off f s a c C h =
    let L = pow_pos (low f) in
    let V = mul-pos (mul-pos L C) (mul_pos2 (scale f) (pow_pos (prec f - 1))) in
    let g = grid f a c in
    let e = grid_abs f a c C in
    subst (λ (x : ℚ). Bound (x -q frac s a c C) (frac false (a * 2 ^ low f + c * scale f) (2 ^ low f * c * (scale f * 2)) V)) (sym (value_is (round f s a c) s g (2 ^ low f) L (round_value f s a c h)))
    (frac_near_signed s g (2 ^ low f) a c (a * 2 ^ low f + c * scale f) (2 ^ low f * c * (scale f * 2)) L C V
    (side g (a * 2 ^ low f) c (scale f) (2 ^ low f) a refl e.0) (side' g (a * 2 ^ low f) c (scale f) (2 ^ low f) a refl e.1))

abbrev pub eps : Format → ℚ
eps f = frac false 1 (scale f * 2) (mul_pos2 (scale f) (pow_pos (prec f - 1)))

abbrev pub tiny : Format → ℚ
tiny f = frac false 1 (2 ^ low f * 2) (mul_pos2 (2 ^ low f) (pow_pos (low f)))

off_is : (a c l s : ℕ) (C : 0 < c) (L : 0 < l) (Z : 0 < s) → frac false (a * l + c * s) (l * c * (s * 2)) (mul-pos (mul-pos L C) (mul_pos2 s Z)) ≡ frac false a c C *q frac false 1 (s * 2) (mul_pos2 s Z) +q frac false 1 (l * 2) (mul_pos2 l L)
unfolding ◌+q◌ ◌*q◌ norm
off_is a c l s C L Z = is (zring ((x₀ ⊗ x₂ ⊕ x₁ ⊗ x₃) ⊗ (x₁ ⊗ (x₃ ⊗ con (pos 2)) ⊗ (x₂ ⊗ con (pos 2)))) ((x₀ ⊗ con (pos 1) ⊗ (x₂ ⊗ con (pos 2)) ⊕ con (pos 1) ⊗ (x₁ ⊗ (x₃ ⊗ con (pos 2)))) ⊗ (x₂ ⊗ x₁ ⊗ (x₃ ⊗ con (pos 2)))) refl (pos a ∷ pos c ∷ pos l ∷ pos s ∷ []))

-- no overflow
room : (g c s P n : ℕ) → 0 < c → 0 < s → 0 < P → n ≤ P * c → g * c * (s * 2) ≤ n * (s * 2) + (n + c * s) → g ≤ P * 2
room g c s P n C Z Q h e =
    let a : n * (s * 2) ≤ P * c * (s * 2) = mul-le-mul_right (s * 2) h in
    let b : 1 * (c * s) ≤ P * (c * s) = mul-le-mul_right (c * s) Q in
    let d : P * c * 1 ≤ P * c * s = mul-le-mul_left (P * c) Z in
    let k : g * (c * (s * 2)) ≤ P * 2 * (c * (s * 2)) = omega arith in
    le_of_mul-le-mul_right k (mul-pos C (mul_pos2 s Z))

pub no_overflow : (f : Format) (a c t : ℕ) → 0 < c → a ≤ 2 ^ t * c → suc t ≤ emax f → grid f a c < overflow f
no_overflow f a c t C h k =
    let P = 2 ^ t * 2 ^ low f in
    let n : a * 2 ^ low f ≤ P * c = le_trans (mul-le-mul_right (2 ^ low f) h) (le_of_eq (simp (mul_assoc, mul_comm, mul_left_comm))) in
    let g : grid f a c ≤ P * 2 = room (grid f a c) c (scale f) P (a * 2 ^ low f) C (pow_pos (prec f - 1)) (mul-pos (pow_pos t) (pow_pos (low f))) n (grid_abs f a c C).0 in
    lt_of_le_of_lt g (subst (λ (z : ℕ). z < overflow f) (pow-add 2 (t + low f) 1 ∙ ap (λ (z : ℕ). z * 2) (pow-add 2 t (low f))) (pow-lt (omega arith)))

pub record Off (f : Format) (x : Float) (q M : ℚ) : Type 0 where
  pub is_finite : T (finite x)
  pub off : Bound (val x -q q) (M *q eps f +q tiny f)

pub round_err : (f : Format) (x : Float) (q M : ℚ) (t : ℕ) → Rounds f x q → Bound q M → M ≤q ofℕ (2 ^ t) → suc t ≤ emax f → Off f x q M
unfolding norm ofℕ ofℤ
round_err f x q M t r b m h =
    let s = r.s in
    let a = r.a in
    let c = r.c in
    let C = r.ok in
    let z : frac false a c C ≤q M = size_under s a c C M (subst (λ (u : ℚ). Bound u M) r.what b) in
    let k : a * 1 ≤ 2 ^ t * c = frac_le_out a c (2 ^ t) 1 C (zero-lt-suc 0) (q_trans z m) in
    let o = no_overflow f a c t C (omega arith) h in
    let e : Bound (val (round f s a c) -q frac s a c C) (M *q eps f +q tiny f) =
    bound_more (subst (λ (u : ℚ). Bound (val (round f s a c) -q frac s a c C) u) (off_is a c (2 ^ low f) (scale f) C (pow_pos (low f)) (pow_pos (prec f - 1))) (round_off f s a c C o))
    (q_add (subst (λ (u : ℚ). frac false a c C *q eps f ≤q u) (qring (x₀ ⊗ x₁) (x₁ ⊗ x₀) refl (eps f ∷ M ∷ [])) (subst (λ (u : ℚ). u ≤q eps f *q M) (qring (x₀ ⊗ x₁) (x₁ ⊗ x₀) refl (eps f ∷ frac false a c C ∷ [])) (q_mul (eps f) (nn_frac 1 (scale f * 2) (mul_pos2 (scale f) (pow_pos (prec f - 1)))) z))) (q_refl (tiny f))) in
    record {
      is_finite = subst (λ (y : Float). T (finite y)) (sym r.how) (finite_is (round f s a c) s (grid f a c) (2 ^ low f) (round_value f s a c o));
      off = subst (λ (y : Float). Bound (val y -q q) (M *q eps f +q tiny f)) (sym r.how) (subst (λ (u : ℚ). Bound (val (round f s a c) -q u) (M *q eps f +q tiny f)) (sym r.what) e);
    }

pub nn_eps : (f : Format) → T (nn (eps f))
nn_eps f = nn_frac 1 (scale f * 2) (mul_pos2 (scale f) (pow_pos (prec f - 1)))

pub nn_tiny : (f : Format) → T (nn (tiny f))
nn_tiny f = nn_frac 1 (2 ^ low f * 2) (mul_pos2 (2 ^ low f) (pow_pos (low f)))

-- ---- in the normal range: 2 ^ -prec of the number
normal : (f : Format) → 2 ^ low f ≡ 2 ^ (prec f - 1) * 2 ^ (emax f - 1)
normal binary32 = refl
normal binary64 = refl

whole_scale : (f : Format) → 2 ^ (prec f - 1) * 2 ≡ 2 ^ prec f
whole_scale binary32 = refl
whole_scale binary64 = refl

-- a / c within 2 ^ -prec of itself
pub round_relative : (f : Format) (s : Bool) (a c : ℕ) (C : 0 < c) → grid f a c < overflow f → c ≤ a * 2 ^ (emax f - 1) → Bound (val (round f s a c) -q frac s a c C) (frac false a c C *q dy 1 (prec f))
unfolding ◌*q◌
round_relative f s a c C o h =
    let L = pow_pos (low f) in
    let S = 2 ^ (prec f - 1) * 2 in
    let g = grid f a c in
    let r : Rel (g * c) (a * 2 ^ low f) S = grid_rel f a c C (normal_of_fraction f a c C (le_trans (reach (2 ^ (prec f - 1)) c a (2 ^ (emax f - 1)) h) (le_of_eq (ap (λ (z : ℕ). a * z) (sym (normal f)))))) in
    subst (λ (x : ℚ). Bound (x -q frac s a c C) (frac false (a * 1) (c * 2 ^ prec f) (mul-pos C (pow_pos (prec f))))) (sym (value_is (round f s a c) s g (2 ^ low f) L (round_value f s a c o)))
    (frac_near_signed s g (2 ^ low f) a c (a * 1) (c * 2 ^ prec f) L C (mul-pos C (pow_pos (prec f)))
    (first g c a (2 ^ low f) (2 ^ prec f) (subst (λ (z : ℕ). g * c * z ≤ a * 2 ^ low f * z + a * 2 ^ low f) (whole_scale f) r.0))
    (second g c a (2 ^ low f) (2 ^ prec f) (subst (λ (z : ℕ). a * 2 ^ low f * z ≤ g * c * z + a * 2 ^ low f) (whole_scale f) r.1)))
  where
    reach : (b c a u : ℕ) → c ≤ a * u → b * c ≤ a * (b * u)
    reach b c a u h = let k : b * c ≤ b * (a * u) = mul-le-mul_left b h in omega arith

    first : (g c a l p : ℕ) → g * c * p ≤ a * l * p + a * l → g * (c * (c * p)) ≤ (a * (c * p) + a * 1 * c) * l
    first g c a l p h = let k : g * c * p * c ≤ (a * l * p + a * l) * c = mul-le-mul_right c h in omega arith

    second : (g c a l p : ℕ) → a * l * p ≤ g * c * p + a * l → a * (l * (c * p)) ≤ (g * (c * p) + a * 1 * l) * c
    second g c a l p h = let k : a * l * p * c ≤ (g * c * p + a * l) * c = mul-le-mul_right c h in omega arith
