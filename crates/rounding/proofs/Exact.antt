-- Where a rounding changes nothing: a number that the format holds, and so a multiple of 2 ^ -k of few digits.
use Rattle.std.proofs.Common.{◌≡◌, ℕ, suc, ◌-◌, ◌*◌, ◌^◌, ◌<◌, ◌≤◌, Bool, false, T, sym, ap, ◌∙◌, subst, inl, inr, le_trans, le_of_eq, lt_of_lt_of_le, lt_of_le_of_lt, mul-le-mul_right, mul_assoc, mul_comm, mul-le-mul, mul-lt-mul_of_pos_right, arith, pow_pos, pow_mono, pow-add}
use Rattle.std.specs.Float.{Float, Format}
use Rattle.std.specs.Float.Ieee.{prec, emax, low, round, mul, fits}
use Rattle.std.specs.Float.Ieee.Fits.{reach}
use Rattle.std.specs.Float.Ieee.Exact.{HasValue, round_exact}
use Rattle.std.specs.Float.Ieee.Scale.{overflow, finite}
use Rattle.std.proofs.lemmas.Bool.{cases_lt}
use Rattle.exact.proofs.Rational.{ℚ, ◌+q◌, ◌*q◌}
use Rattle.exact.proofs.Bound.{Bound}
use Rattle.rounding.specs.Ranges.{Permitted, once, twice}
use Rattle.rounding.proofs.Fractions.{frac, frac_same, frac_le_out, size_under, size_out}
use Rattle.rounding.proofs.Value.{val, value_is, finite_is, Rounds, mul_rounds, add_rounds, fused_rounds}
use Rattle.rounding.proofs.Multiple.{Mult, sized}
use Rattle.rounding.proofs.Held.{digits}
use Rattle.rounding.proofs.PowersOfTwo.{split_pow}

-- a rounded number that the format holds is not changed
pub exact : (f : Format) (x : Float) (v : ℚ) → Rounds f x v → (s : Bool) (q j : ℕ) → v ≡ frac s (q * 2 ^ j) (2 ^ low f) (pow_pos (low f)) → q < 2 ^ prec f → q * 2 ^ j < overflow f → T (finite x) × (val x ≡ v)
exact f x v r s q j e few o =
    let a = r.a in
    let c = r.c in
    let m : a * 2 ^ low f ≡ q * 2 ^ j * c = size_out r.s s a c (q * 2 ^ j) (2 ^ low f) r.ok (pow_pos (low f)) (sym r.what ∙ e) in
    let h : HasValue (round f r.s a c) r.s a c = round_exact f r.s a c q j r.ok few o m in
    (subst (λ (y : Float). T (finite y)) (sym r.how) (finite_is (round f r.s a c) r.s a c h), ap val r.how ∙ value_is (round f r.s a c) r.s a c r.ok h ∙ sym r.what)

-- a value that the format holds is not changed
pub still : (f : Format) (r : Float) (q : ℚ) (x : Float) → Rounds f r q → T (finite x) → T (fits f x) → q ≡ val x → T (finite r) × (val r ≡ q)
still f r q x w fx wx e = let d = digits f x fx wx in exact f r q w d.s d.q d.j (e ∙ value_is x d.s (d.q * 2 ^ d.j) (2 ^ low f) (pow_pos (low f)) d.how) d.few d.under

-- ---- a multiple of 2 ^ -k of at most u / v with few digits is not changed
pub exact_small : (f : Format) (x : Float) (q : ℚ) (k u v : ℕ) (V : 0 < v) → k ≤ low f → u * 2 ^ k < 2 ^ prec f * v → Rounds f x q → Mult k q → Bound q (frac false u v V) → T (finite x) × (val x ≡ q)
exact_small f x q k u v V h few r m b =
    let w = sized m in
    let n : w.n * v ≤ u * 2 ^ k = frac_le_out w.n (2 ^ k) u v (pow_pos k) V (size_under w.s w.n (2 ^ k) (pow_pos k) _ (subst (λ (y : ℚ). Bound y (frac false u v V)) w.how b)) in
    let l : w.n < 2 ^ prec f = below w.n (2 ^ prec f) v (lt_of_le_of_lt n few) in
    let o = split_pow k (low f) h in
    exact f x q r w.s w.n (low f - k)
    (w.how ∙ frac_same w.s w.n (2 ^ k) (w.n * 2 ^ (low f - k)) (2 ^ low f) (pow_pos k) (pow_pos (low f)) (ap (λ (z : ℕ). w.n * z) o ∙ sym (mul_assoc w.n (2 ^ (low f - k)) (2 ^ k))))
    l (under w.n l)
  where
    below : (n p v : ℕ) → n * v < p * v → n < p
    below n p v h = elim (cases_lt n p) [
      | inl l ↦ l
      | inr g ↦ let k : p * v ≤ n * v = mul-le-mul_right v g in absurd (omega arith)
    ]

    under : (n : ℕ) → n < 2 ^ prec f → n * 2 ^ (low f - k) < overflow f
    under n l =
        lt_of_lt_of_le (mul-lt-mul_of_pos_right l (pow_pos (low f - k)))
        (le_trans (mul-le-mul (pow_mono (reach f)) (pow_mono {i = low f - k} {j = low f} (omega arith))) (le_of_eq (mul_comm (2 ^ suc (emax f)) (2 ^ low f) ∙ sym (pow-add 2 (low f) (suc (emax f))))))

pub exact_permitted : (f : Format) (x y z r : Float) (k u v : ℕ) (V : 0 < v) (k' u' v' : ℕ) (V' : 0 < v') → k ≤ low f → u * 2 ^ k < 2 ^ prec f * v → k' ≤ low f → u' * 2 ^ k' < 2 ^ prec f * v' → T (finite x) → T (finite y) → T (finite z) → Permitted f x y z r
    → Mult k (val x *q val y) → Bound (val x *q val y) (frac false u v V) → Mult k' (val x *q val y +q val z) → Bound (val x *q val y +q val z) (frac false u' v' V') → T (finite r) × (val r ≡ val x *q val y +q val z)
exact_permitted f x y z r k u v V k' u' v' V' h few h' few' fx fy fz (once e) mp bp ms bs = exact_small f r _ k' u' v' V' h' few' (subst (λ (w : Float). Rounds f w (val x *q val y +q val z)) (sym e) (fused_rounds f x y z fx fy fz)) ms bs
exact_permitted f x y z r k u v V k' u' v' V' h few h' few' fx fy fz (twice e) mp bp ms bs =
    let q = mul f x y in
    let p = exact_small f q _ k u v V h few (mul_rounds f x y fx fy) mp bp in
    exact_small f r _ k' u' v' V' h' few' (subst (λ (w : ℚ). Rounds f r (w +q val z)) p.1 (subst (λ (w : Float). Rounds f w (val q +q val z)) (sym e) (add_rounds f q z p.0 fz))) ms bs
