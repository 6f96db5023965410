-- Where another value of the format is as near as the result of `round`, the significand of the result is even. In whole numbers.
use Rattle.std.proofs.Common.{◌≡◌, ℕ, zero, suc, ◌+◌, ◌-◌, ◌*◌, ◌/◌, ◌%◌, ◌^◌, ◌<◌, ◌≤◌, Bool, true, false, cond, ℤ, sym, refl, ap, ◌∙◌, subst, inl, inr, le_trans, le_of_eq, le_refl, mul-le-mul_right, mod-lt, mul_assoc, mul_comm, eq-zero-or-pos, le_antisymm, mul-lt-mul_of_pos_right, mul-pos, pow-suc, div-add-mod', mul-one, le_of_mul-le-mul_right, mul-div_cancel, mul_left_comm, arith, pow_pos, pow-add}
use Rattle.std.specs.Float.{Float, fin, Format, binary32, binary64}
use Rattle.std.specs.Float.Ieee.{prec, low, hid, top, up, down, size, nearest, to_bits}
use Rattle.std.specs.Float.Ieee.Digits.{size-le}
use Rattle.std.specs.Float.Ieee.Fits.{two, two-le_pos, down_pos}
use Rattle.std.specs.Float.Ieee.Exact.{HasValue}
use Rattle.std.specs.Float.Ieee.Nearest.{closest}
use Rattle.std.specs.Float.Ieee.Order.{drop, kept}
use Rattle.std.specs.Float.Ieee.Scale.{grid}
use Rattle.std.proofs.Math.Arith.{lt_of_le-ne}
use Rattle.std.proofs.Math.Pow.{pow-lt}
use Rattle.std.proofs.Math.Nat.{mul-mod_left}
use Rattle.std.proofs.lemmas.Bool.{cases_lt}
use Prim.Native.Nat.{compare, Ordering}
use Rattle.rounding.proofs.HalfUnit.{Cmp, cmp, unit_small}
use Rattle.rounding.proofs.Best.{dist, closest_best}
use Rattle.rounding.proofs.Narrow.{unit_figure, size_gt, kept_le}
use Rattle.rounding.proofs.PowersOfTwo.{split_times, few_zeros, pow_even, pow_le}

-- ---- another multiple of u that is as near to n as the closest one: then the closest one is even
even_of : (o : Ordering) (q r t u n : ℕ) → Cmp o (t * 2) u → t < u → q * u + t ≡ n → dist (r * u) n ≤ dist (nearest q o * u) n → (r ≡ nearest q o → ⊥) → nearest q o % 2 ≡ 0
even_of Ordering.lt q r t u n c l s h d = elim (cases_lt r q) [
  | inl a ↦ let b : suc r * u ≤ q * u = mul-le-mul_right u a in absurd (omega arith)
  | inr a ↦ elim (cases_lt q r) [
    | inl a' ↦ let b : suc q * u ≤ r * u = mul-le-mul_right u a' in absurd (omega arith)
    | inr a' ↦ absurd (d (le_antisymm a' a))
  ]
]
even_of Ordering.eq q r t u n c l s h d = omega arith
even_of Ordering.gt q r t u n c l s h d = elim (cases_lt r (suc q)) [
  | inl a ↦ let a' : r ≤ q = omega arith in let b : r * u ≤ q * u = mul-le-mul_right u a' in absurd (omega arith)
  | inr a ↦ elim (cases_lt (suc q) r) [
    | inl a' ↦ let b : suc (suc q) * u ≤ r * u = mul-le-mul_right u a' in absurd (omega arith)
    | inr a' ↦ absurd (d (le_antisymm a' a))
  ]
]

closest_even : (n u r : ℕ) → 0 < u → dist (r * u) n ≤ dist (closest n u * u) n → (r ≡ closest n u → ⊥) → closest n u % 2 ≡ 0
closest_even n u r U = even_of (compare (n % u * 2) u) (n / u) r (n % u) u n (cmp (n % u * 2) u) (mod-lt n U) (div-add-mod' n u)

-- and the other one is odd
odd_of : (o : Ordering) (q r t u n : ℕ) → 0 < u → Cmp o (t * 2) u → t < u → q * u + t ≡ n → dist (r * u) n ≤ dist (nearest q o * u) n → (r ≡ nearest q o → ⊥) → r % 2 ≡ 1
odd_of Ordering.lt q r t u n U c l s h d = elim (cases_lt r q) [
  | inl a ↦ let b : suc r * u ≤ q * u = mul-le-mul_right u a in absurd (omega arith)
  | inr a ↦ elim (cases_lt q r) [
    | inl a' ↦ let b : suc q * u ≤ r * u = mul-le-mul_right u a' in absurd (omega arith)
    | inr a' ↦ absurd (d (le_antisymm a' a))
  ]
]
odd_of Ordering.eq q r t u n U c l s h d = elim (cases_lt r q) [
  | inl a ↦ let b : suc r * u ≤ q * u = mul-le-mul_right u a in absurd (far (q % 2) (omega arith) h b)
  | inr a ↦ elim (cases_lt (suc q) r) [
    | inl a' ↦ let b : suc (suc q) * u ≤ r * u = mul-le-mul_right u a' in absurd (far' (q % 2) (omega arith) h b)
    | inr a' ↦ omega arith
  ]
]
  where
    far : (w : ℕ) → w < 2 → dist (r * u) n ≤ dist ((q + w) * u) n → suc r * u ≤ q * u → ⊥
    far zero l' h b = omega arith
    far (suc zero) l' h b = omega arith
    far (suc (suc w)) l' h b = absurd (omega arith)

    far' : (w : ℕ) → w < 2 → dist (r * u) n ≤ dist ((q + w) * u) n → suc (suc q) * u ≤ r * u → ⊥
    far' zero l' h b = omega arith
    far' (suc zero) l' h b = omega arith
    far' (suc (suc w)) l' h b = absurd (omega arith)
odd_of Ordering.gt q r t u n U c l s h d = elim (cases_lt r (suc q)) [
  | inl a ↦ let a' : r ≤ q = omega arith in let b : r * u ≤ q * u = mul-le-mul_right u a' in absurd (omega arith)
  | inr a ↦ elim (cases_lt (suc q) r) [
    | inl a' ↦ let b : suc (suc q) * u ≤ r * u = mul-le-mul_right u a' in absurd (omega arith)
    | inr a' ↦ absurd (d (le_antisymm a' a))
  ]
]

closest_odd : (n u r : ℕ) → 0 < u → dist (r * u) n ≤ dist (closest n u * u) n → (r ≡ closest n u → ⊥) → r % 2 ≡ 1
closest_odd n u r U = odd_of (compare (n % u * 2) u) (n / u) r (n % u) u n U (cmp (n % u * 2) u) (mod-lt n U) (div-add-mod' n u)

-- ---- and so for every value q * 2 ^ j of the format
module _ (f : Format) (a c q j : ℕ) (C : 0 < c) (few : q ≤ 2 ^ prec f) (near : dist (q * 2 ^ j * c) (a * 2 ^ low f) ≤ dist (grid f a c * c) (a * 2 ^ low f)) (other : q * 2 ^ j ≡ grid f a c → ⊥) where
  abbrev n : ℕ
  n = a * 2 ^ low f

  abbrev k : ℕ
  k = drop (prec f) (a * 2 ^ low f) c

  regroup : (z : ℕ) → z * (c * 2 ^ k) ≡ z * 2 ^ k * c
  regroup z = simp (mul_assoc, mul_comm, mul_left_comm)

  multiple : (r : ℕ) → dist (r * 2 ^ k * c) n ≤ dist (grid f a c * c) n → (r * 2 ^ k ≡ grid f a c → ⊥) → (kept (prec f) n c % 2 ≡ 0) × (r % 2 ≡ 1)
  multiple r h d =
      let U = mul-pos C (pow_pos k) in
      let h' : dist (r * (c * 2 ^ k)) n ≤ dist (kept (prec f) n c * (c * 2 ^ k)) n = subst (λ (z : ℕ). dist z n ≤ dist (kept (prec f) n c * (c * 2 ^ k)) n) (sym (regroup r)) (subst (λ (z : ℕ). dist (r * 2 ^ k * c) n ≤ dist z n) (sym (regroup (kept (prec f) n c))) h) in
      let d' : r ≡ kept (prec f) n c → ⊥ = λ e. d (ap (λ (z : ℕ). z * 2 ^ k) e) in
      (closest_even n (c * 2 ^ k) r U h' d', closest_odd n (c * 2 ^ k) r U h' d')

  -- with fewer zeros than the unit it would be the least value of p digits, which is even
  power_even : 2 ^ (prec f - 1) % 2 ≡ 0
  power_even = pow_even (prec f - 1) (omega (arith, two f))

  -- the number kept is even, and the other value is an odd number of the same units
  tie_digits : (kept (prec f) (a * 2 ^ low f) c % 2 ≡ 0) × (q % 2 ≡ 1) × (j ≡ drop (prec f) (a * 2 ^ low f) c)
  tie_digits = elim (cases_lt j k) [
    | inl l ↦
        let P : 0 < prec f = two-le_pos (prec f) (two f) in
        let s : 2 ^ k * 2 ^ (prec f - 1) * c ≤ n = unit_small f a c C (omega arith) in
        let b = 2 ^ (prec f - 1) * 2 ^ k in
        let s' : b * c ≤ n = subst (λ (z : ℕ). z * c ≤ n) (mul_comm (2 ^ k) (2 ^ (prec f - 1))) s in
        let w : q * 2 ^ j ≤ b = few_zeros (prec f) q j k (two-le_pos (prec f) (two f)) few l in
        let w' : q * 2 ^ j * c ≤ b * c = mul-le-mul_right c w in
        absurd (omega (arith, power_even, (multiple (2 ^ (prec f - 1)) (omega arith) (λ e. other (le_antisymm (subst (λ (z : ℕ). q * 2 ^ j ≤ z) e w) (le_of_mul-le-mul_right (back (q * 2 ^ j * c) (b * c) (grid f a c * c) n w' s' (ap (λ (z : ℕ). z * c) e) near) C)))).1))
    | inr g ↦
        let e : q * 2 ^ (j - k) * 2 ^ k ≡ q * 2 ^ j = sym (split_times q k j g) in
        let b = multiple (q * 2 ^ (j - k)) (subst (λ (z : ℕ). dist (z * c) n ≤ dist (grid f a c * c) n) (sym e) near) (λ d. other (sym e ∙ d)) in
        let z : j - k ≡ 0 = no_zeros (j - k) b.1 in
        (b.0, sym (ap (λ (x : ℕ). q * 2 ^ x % 2) z ∙ ap (λ (x : ℕ). x % 2) (mul-one q)) ∙ b.1, le_antisymm (none_left z) g)
  ]
    where
      none_left : j - k ≡ 0 → j ≤ k
      none_left z = omega arith

      no_zeros : (i : ℕ) → q * 2 ^ i % 2 ≡ 1 → i ≡ 0
      no_zeros zero h = refl
      no_zeros (suc i) h = absurd (omega (arith, sym (ap (λ (x : ℕ). q * x % 2) (pow-suc 2 i) ∙ ap (λ (x : ℕ). x % 2) (sym (mul_assoc q (2 ^ i) 2))) ∙ h))

      back : (x b g n : ℕ) → x ≤ b → b ≤ n → b ≡ g → dist x n ≤ dist g n → g ≤ x
      back x b g n h i e d = omega arith

  pub grid_tie : kept (prec f) (a * 2 ^ low f) c % 2 ≡ 0
  grid_tie = tie_digits.0

  -- so the significand of the other value is odd
  reached : 0 < k → 2 ^ (prec f - 1) ≤ q
  reached K = elim (cases_lt q (2 ^ (prec f - 1))) [
    | inl l ↦
        let P : 0 < prec f = two-le_pos (prec f) (two f) in
        let u = c * 2 ^ k in
        let s₀ : 2 ^ k * 2 ^ (prec f - 1) * c ≤ n = unit_small f a c C (omega arith) in
        let s : 2 ^ (prec f - 1) * u ≤ n = le_trans (le_of_eq (omega arith)) s₀ in
        let b : dist (kept (prec f) n c * u) n ≤ dist (2 ^ (prec f - 1) * u) n = closest_best n u (2 ^ (prec f - 1)) (mul-pos C (pow_pos k)) in
        let i : suc q * u ≤ 2 ^ (prec f - 1) * u = mul-le-mul_right u l in
        let w : dist (q * u) n ≤ dist (kept (prec f) n c * u) n = subst (λ (z : ℕ). dist z n ≤ dist (kept (prec f) n c * u) n) (sym (regroup q) ∙ refl) (subst (λ (z : ℕ). dist (q * 2 ^ k * c) n ≤ dist z n) (sym (regroup (kept (prec f) n c))) (subst (λ (z : ℕ). dist (q * 2 ^ z * c) n ≤ dist (grid f a c * c) n) tie_digits.2 near)) in
        absurd (far (q * u) (2 ^ (prec f - 1) * u) (kept (prec f) n c * u) n u (mul-pos C (pow_pos k)) (le_trans (le_of_eq (omega arith)) i) s b w)
    | inr g ↦ g
  ]
    where
      far : (x b g n u : ℕ) → 0 < u → x + u ≤ b → b ≤ n → dist g n ≤ dist b n → dist x n ≤ dist g n → ⊥
      far x b g n u U h i j k = omega arith

  pub other_odd : q * 2 ^ j / 2 ^ (size (q * 2 ^ j) - prec f) % 2 ≡ 1
  other_odd =
      ap (λ (z : ℕ). q * 2 ^ j / 2 ^ z % 2) size_is ∙ ap (λ (z : ℕ). q * 2 ^ z / 2 ^ k % 2) tie_digits.2 ∙ ap (λ (z : ℕ). z % 2) (mul-div_cancel q (pow_pos k)) ∙ tie_digits.1
    where
      under : q < 2 ^ prec f
      under = lt_of_le-ne few (λ e. (omega (arith, ap (λ (z : ℕ). z % 2) e ∙ even_power, tie_digits.1)))
        where
          even_power : 2 ^ prec f % 2 ≡ 0
          even_power = pow_even (prec f) (two-le_pos (prec f) (two f))

      size_is : size (q * 2 ^ j) - prec f ≡ k
      size_is =
          let h : size (q * 2 ^ j) ≤ prec f + k = subst (λ (z : ℕ). size (q * 2 ^ z) ≤ prec f + k) (sym tie_digits.2) (size-le (q * 2 ^ k) (prec f + k) (subst (λ (z : ℕ). q * 2 ^ k < z) (sym (pow-add 2 (prec f) k)) (mul-lt-mul_of_pos_right under (pow_pos k)))) in
          le_antisymm (omega arith) (elim (eq-zero-or-pos k) [
            | inl z ↦ subst (λ (y : ℕ). y ≤ size (q * 2 ^ j) - prec f) (sym z) (omega arith)
            | inr K ↦ (omega (arith, two f, subst (λ (z : ℕ). prec f - 1 + k < size (q * 2 ^ z)) (sym tie_digits.2) (size_gt (q * 2 ^ k) (prec f - 1 + k) (le_trans (le_of_eq (pow-add 2 (prec f - 1) k)) (mul-le-mul_right (2 ^ k) (reached K))))))
          ])

-- ---- an even number kept is an even significand of the result
pub even_digits : (f : Format) (a c : ℕ) → 0 < c → kept (prec f) (a * 2 ^ low f) c % 2 ≡ 0 → grid f a c / 2 ^ (size (grid f a c) - prec f) % 2 ≡ 0
even_digits f a c C e = elim (cases_lt (kept p n c) (2 ^ p)) [
  | inl l ↦
      let z : size g - p ≡ k = le_antisymm (small (size-le g (p + k) (subst (λ (x : ℕ). g < x) (sym (pow-add 2 p k)) (mul-lt-mul_of_pos_right l (pow_pos k))))) (pow_le k (size g - p) (unit_figure f a c C)) in
      ap (λ (x : ℕ). g / 2 ^ x % 2) z ∙ ap (λ (x : ℕ). x % 2) (mul-div_cancel (kept p n c) (pow_pos k)) ∙ e
  | inr m ↦
      let K : kept p n c ≡ 2 ^ p = le_antisymm (kept_le f a c) m in
      let G : g ≡ 2 ^ (p + k) = ap (λ (x : ℕ). x * 2 ^ k) K ∙ sym (pow-add 2 p k) in
      let s = size_gt g (p + k) (le_of_eq (sym G)) in
      let t = size-le g (suc (p + k)) (subst (λ (x : ℕ). x < 2 ^ suc (p + k)) (sym G) (pow-lt (le_refl (suc (p + k))))) in
      let z : size g - p ≡ suc k = omega arith in
      let q : p + k ≡ p - 2 + 1 + suc k = omega (arith, two f) in
      let d : g ≡ 2 ^ (p - 2) * 2 * 2 ^ suc k = G ∙ ap (λ (x : ℕ). 2 ^ x) q ∙ pow-add 2 (p - 2 + 1) (suc k) ∙ ap (λ (x : ℕ). x * 2 ^ suc k) (pow-add 2 (p - 2) 1) in
      ap (λ (x : ℕ). g / 2 ^ x % 2) z ∙ ap (λ (x : ℕ). x / 2 ^ suc k % 2) d ∙ ap (λ (x : ℕ). x % 2) (mul-div_cancel (2 ^ (p - 2) * 2) (pow_pos (suc k))) ∙ mul-mod_left (2 ^ (p - 2)) 2
]
  where
    p : ℕ
    p = prec f

    n : ℕ
    n = a * 2 ^ low f

    k : ℕ
    k = drop (prec f) (a * 2 ^ low f) c

    g : ℕ
    g = grid f a c

    small : size g ≤ p + k → size g - p ≤ k
    small h = omega arith

pattern_parity : (f : Format) (t : Bool) (z x : ℕ) → (cond t (top f) 0 + z * hid f + x) % 2 ≡ x % 2
pattern_parity binary32 false z x = omega arith
pattern_parity binary32 true z x = omega arith
pattern_parity binary64 false z x = omega arith
pattern_parity binary64 true z x = omega arith

-- how many smallest values a float has
pub steps_are : (f : Format) (t : Bool) (m : ℕ) (e : ℤ) (s : Bool) (g : ℕ) → HasValue (fin t m e) s g (2 ^ low f) → m * up e * 2 ^ low f / down e ≡ g
steps_are f t m e s g h = ap (λ (k : ℕ). k / down e) h.1 ∙ mul-div_cancel g (down_pos e)

-- the pattern of a float is even where its significand is
pub bits_parity : (f : Format) (x : Float) (s : Bool) (g : ℕ) → HasValue x s g (2 ^ low f) → to_bits f x % 2 ≡ g / 2 ^ (size g - prec f) % 2
unfolding to_bits
bits_parity f (fin t m d) s g h = rw (steps_are f t m d s g h) (pattern_parity f t (size g - prec f) (g / 2 ^ (size g - prec f)))
bits_parity _ _ _ _ h = absurd h
