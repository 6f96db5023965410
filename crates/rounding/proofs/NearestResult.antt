-- What is nearest to a number is what `round` gives, its sign apart; infinite exactly from the limit on.
use Rattle.std.proofs.Common.{◌≡◌, ℕ, ◌+◌, ◌-◌, ◌*◌, ◌/◌, ◌^◌, ◌<◌, ◌≤◌, Bool, true, false, cond, not, T, ◌⊎◌, ℤ, pos, ◌*ℤ◌, sym, refl, ap, ◌∙◌, subst, inl, inr, le_trans, le_of_eq, le_of_lt, zero-lt-suc, mul-one, not-le_of_lt, arith, T_not, pow_pos}
use Rattle.std.specs.Int.Signed.{le_z, le_z_yes}
use Rattle.std.specs.Float.{Float, inf, fin, Format}
use Rattle.std.specs.Float.Ieee.{prec, low, hid, top, size, round, fits, of_bits, to_bits}
use Rattle.std.specs.Float.Ieee.Bits.{of_bits-to_bits}
use Rattle.std.specs.Float.Ieee.Exact.{HasValue}
use Rattle.std.specs.Float.Ieee.Scale.{grid, overflow, finite}
use Rattle.std.proofs.Math.Nat.{eq_of_mul-eq-mul_right}
use std.Quotient.{cls}
use Rattle.exact.specs.Fraction.{Fraction, absolute, ◌≼◌}
use Rattle.exact.proofs.Rational.{ℚ, is, ofℤ}
use Rattle.exact.proofs.Order.{◌≤q◌}
use Rattle.exact.proofs.Bound.{ofℕ}
use Rattle.rounding.specs.Values.{value, sign, infinite}
use Rattle.rounding.specs.Nearest.{limit, Nearest}
use Rattle.rounding.specs.Errors.{NearestUnique, HeldUnchanged}
use Rattle.exact.proofs.Compare.{fr}
use Rattle.rounding.proofs.Fractions.{frac, frac_le_out, sign_size}
use Rattle.rounding.proofs.Value.{val, val_value, value_is, finite_is, Rounds}
use Rattle.rounding.proofs.HalfUnit.{round_value}
use Rattle.rounding.proofs.Best.{dist, grid_best}
use Rattle.rounding.proofs.Held.{digits}
use Rattle.rounding.proofs.Exact.{still}
use Rattle.rounding.proofs.Limit.{limitℕ, infinite_from, round_finite}
use Rattle.rounding.proofs.EvenTie.{steps_are}
use Rattle.rounding.proofs.Distance.{same_number}
use Rattle.rounding.proofs.NearestValue.{sign_of_value, best_same, at_limit, from_limit}

-- ---- what is nearest to q is the number that `round` gives for q
pub record Result (f : Format) (q : Fraction) (x : Float) : Type 0 where
  pub s : Bool
  pub a : ℕ
  pub what : ◌≡◌ {A = ℚ} (cls q) (frac s a q.den q.ok)
  pub under : grid f a q.den < overflow f
  pub is_value : val x ≡ frac s (grid f a q.den) (2 ^ low f) (pow_pos (low f))
  pub t : Bool
  pub has : HasValue x t (grid f a q.den) (2 ^ low f)

pub finite_or_infinite : (x : Float) → T (finite x) → T (infinite x) → ⊥
finite_or_infinite (fin s m e) t u = absurd u
finite_or_infinite _ t _ = absurd t

number_of : (q : Fraction) → ◌≡◌ {A = ℚ} (cls q) (frac (sign_size q.num).s (sign_size q.num).n q.den q.ok)
number_of q = ap (λ (z : ℤ). fr z q.den q.ok) (sign_size q.num).how

pub nearest_result : (f : Format) (q : Fraction) (x : Float) → Nearest f q x → T (finite x) → Result f q x
nearest_result f q x n t =
    let s = (sign_size q.num).s in
    let a = (sign_size q.num).n in
    let below : limit f ≼ absolute q → ⊥ = λ h. finite_or_infinite x t (n.overflows h) in
    let o = round_finite f s a q.den q.ok (λ k. below (from_limit f s a q.den q.ok q (number_of q) k)) in
    let b = best_same f s a q.den q.ok o q (number_of q) x (n.otherwise below) in
    record { s = s; a = a; what = number_of q; under = o; is_value = b.0; t = b.1.0; has = b.1.1 }

-- and so of whatever is said of `round`
module _ (f : Format) (q : Fraction) (x : Float) (r : Result f q x) where
  pub rounded : Float
  rounded = round f r.s r.a q.den

  pub rounded_rounds : Rounds f rounded (cls q)
  unfolding rounded
  rounded_rounds = record { s = r.s; a = r.a; c = q.den; ok = q.ok; how = refl; what = r.what }

  pub rounded_finite : T (finite rounded)
  unfolding rounded
  rounded_finite = finite_is (round f r.s r.a q.den) r.s (grid f r.a q.den) (2 ^ low f) (round_value f r.s r.a q.den r.under)

  pub rounded_value : val rounded ≡ val x
  unfolding rounded
  rounded_value = value_is (round f r.s r.a q.den) r.s (grid f r.a q.den) (2 ^ low f) (pow_pos (low f)) (round_value f r.s r.a q.den r.under) ∙ sym r.is_value

-- ---- a size and a sign that the format holds belong to one float
bits_of : Format → Bool → ℕ → ℕ
bits_of f s n = cond s (top f) 0 + (size n - prec f) * hid f + n / 2 ^ (size n - prec f)

bits_are : (f : Format) (y : Float) (s : Bool) (g : ℕ) → HasValue y s g (2 ^ low f) → to_bits f y ≡ bits_of f s g
unfolding to_bits bits_of
bits_are f (fin t m e) s g h = ap (λ (n : ℕ). cond t (top f) 0 + (size n - prec f) * hid f + n / 2 ^ (size n - prec f)) (steps_are f t m e s g h) ∙ ap (λ (b : Bool). cond b (top f) 0 + (size g - prec f) * hid f + g / 2 ^ (size g - prec f)) h.0
bits_are _ _ _ _ h = absurd h

pub one_float : (f : Format) (y y' : Float) (s : Bool) (g : ℕ) → T (fits f y) → T (fits f y') → HasValue y s g (2 ^ low f) → HasValue y' s g (2 ^ low f) → y ≡ y'
one_float f y y' s g t t' h h' = sym (of_bits-to_bits f y t) ∙ ap (of_bits f) (bits_are f y s g h ∙ sym (bits_are f y' s g h')) ∙ of_bits-to_bits f y' t'

-- ---- infinite exactly from the limit on
decide : (b : Bool) → T b ⊎ T (not b)
decide true = inl tt
decide false = inr tt

from_or_below : (f : Format) (q : Fraction) → (limit f ≼ absolute q) ⊎ (limit f ≼ absolute q → ⊥)
from_or_below f q = elim (decide (le_z ((limit f).num *ℤ pos (absolute q).den) ((absolute q).num *ℤ pos (limit f).den))) [
  | inl t ↦ inl (le_z_yes t)
  | inr t ↦ inr (λ h. T_not _ t h.le)
]

infinite_is : (x : Float) → T (infinite x) → x ≡ inf (sign x)
infinite_is (inf s) t = refl
infinite_is _ t = absurd t

finite_sign : (x : Float) (t : Bool) (g l : ℕ) → HasValue x t g l → t ≡ sign x
finite_sign x t g l h = sym (sign_of_value x t g l h)

pub nearest_unique_lem : NearestUnique
unfolding nearest_result
nearest_unique_lem f q x y n m e = elim (from_or_below f q) [
  | inl h ↦ infinite_is x (n.overflows h) ∙ ap inf e ∙ sym (infinite_is y (m.overflows h))
  | inr g ↦
      let b = n.otherwise g in
      let c = m.otherwise g in
      let r = nearest_result f q x n b.held.is_finite in
      let k = nearest_result f q y m c.held.is_finite in
      let G = grid f (sign_size q.num).n q.den in
      one_float f x y (sign x) G b.held.is_held c.held.is_held
      (subst (λ (t : Bool). HasValue x t G (2 ^ low f)) (finite_sign x r.t G (2 ^ low f) r.has) r.has)
      (subst (λ (t : Bool). HasValue y t G (2 ^ low f)) (finite_sign y k.t G (2 ^ low f) k.has ∙ sym e) k.has)
]

-- ---- a number that the format holds is not changed
pub held_unchanged_lem : HeldUnchanged
held_unchanged_lem f q x w n hw e =
    elim (from_or_below f q) [
      | inl h ↦
          let d = digits f w hw.is_finite hw.is_held in
          let s = d.s in
          let a = d.q * 2 ^ d.j in
          let v : ◌≡◌ {A = ℚ} (cls q) (frac s a (2 ^ low f) (pow_pos (low f))) = is e ∙ sym (val_value w) ∙ value_is w s a (2 ^ low f) (pow_pos (low f)) d.how in
          absurd (not-le_of_lt d.under (le_trans (infinite_from f a (2 ^ low f) (pow_pos (low f)) (limit_out f a (at_limit f s a (2 ^ low f) (pow_pos (low f)) q v h))) (le_of_eq (grid_held f d.s d.q d.j d.few d.under))))
      | inr g ↦
          let r = nearest_result f q x n (n.otherwise g).held.is_finite in
          let u = still f (rounded f q x r) (cls q) w (rounded_rounds f q x r) hw.is_finite hw.is_held (is e ∙ sym (val_value w)) in
          same_number (value x) q (sym (val_value x) ∙ sym (rounded_value f q x r) ∙ u.1)
    ]
  where
    limit_out : (f : Format) (a : ℕ) → ofℕ (limitℕ f) ≤q frac false a (2 ^ low f) (pow_pos (low f)) → limitℕ f * 2 ^ low f ≤ a
    limit_out f a h = unfold ofℕ ofℤ in le_trans (frac_le_out (limitℕ f) 1 a (2 ^ low f) (zero-lt-suc 0) (pow_pos (low f)) h) (le_of_eq (mul-one a))

    grid_held : (f : Format) (s : Bool) (q j : ℕ) → q < 2 ^ prec f → q * 2 ^ j < overflow f → grid f (q * 2 ^ j) (2 ^ low f) ≡ q * 2 ^ j
    grid_held f s q j few o =
        let n = q * 2 ^ j * 2 ^ low f in
        let b : dist (grid f (q * 2 ^ j) (2 ^ low f) * 2 ^ low f) n ≤ dist (q * 2 ^ j * 2 ^ low f) n = grid_best f (q * 2 ^ j) (2 ^ low f) q j (pow_pos (low f)) (le_of_lt few) in
        eq_of_mul-eq-mul_right (2 ^ low f) (pow_pos (low f)) (grid f (q * 2 ^ j) (2 ^ low f)) (q * 2 ^ j) (zero (grid f (q * 2 ^ j) (2 ^ low f) * 2 ^ low f) n b)
      where
        zero : (x n : ℕ) → dist x n ≤ dist n n → x ≡ n
        zero x n h = omega arith
