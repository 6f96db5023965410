-- Whole numbers from -149 to 127, and the f32 that is 2 to such a power.
use Rattle.std.proofs.Common.{◌≡◌, ℕ, zero, suc, ◌+◌, ◌-◌, ◌*◌, ◌/◌, ◌%◌, ◌<◌, ◌≤◌, min, Bool, true, false, cond, not, ◌&&◌, ◌||◌, T, eqb, ◌⊎◌, replicate, ℤ, pos, negsuc, ◌+ℤ◌, neg_ℤ, nat_abs, ◌≤ℤ◌, sym, refl, ap, ◌∙◌, subst, ap₂, inl, inr, mul-one, arith, eqb→eq, w32, SFits}
use mathlib.Core.Bool.{beq}
use native.Mathlib.Nat.{eq_of_mul-eq-mul_right, div-add-mod, mul-mod_left}
use lib.Signed.{le_z}
use lib.Ieee.{Float, nan, inf, fin, binary32, up, down, minus, eq, round, of_int, to_signed, of_bits, fits, is_nan, nan_bits, to_bits}
use lib.Ieee.Back.{round_whole, whole_unique}
use lib.Ieee.Bits.{is_true, nan_bits_is}
use lib.Ieee.Exact.{HasValue}
use lib.Ieee.Fits.{down_pos, and_i, and_l, and_r, eq→eqb, round-fits}
use borrow.Author.Differences.{ints}
use Rattle.std.proofs.Math.Bool.{and-true}
use Rattle.std.proofs.lemmas.Bool.{le-leb, lt-leb, and_left, and_right}
use Rattle.curves.specs.Exp2.{is_whole, in_powers, bits_of_power}
use Rattle.curves.proofs.Checked.{at}

-- ---- the pattern of 2 ^ (j - 149)
abbrev sameℤ : ℤ → ℤ → Bool
sameℤ (pos a) (pos b) = eqb a b
sameℤ (pos a) (negsuc b) = false
sameℤ (negsuc a) (pos b) = false
sameℤ (negsuc a) (negsuc b) = eqb a b

same_is : (a b : ℤ) → T (sameℤ a b) → a ≡ b
same_is (pos a) (pos b) t = ap pos (eqb→eq a b t)
same_is (pos a) (negsuc b) t = absurd t
same_is (negsuc a) (pos b) t = absurd t
same_is (negsuc a) (negsuc b) t = ap negsuc (eqb→eq a b t)

abbrev is_power : Float → ℤ → Bool
is_power nan z = false
is_power (inf s) z = false
is_power (fin true m e) z = false
is_power (fin false m e) z = eqb m 1 && sameℤ e z

power_out : (x : Float) (z : ℤ) → T (is_power x z) → x ≡ fin false 1 z
power_out nan z t = absurd t
power_out (inf s) z t = absurd t
power_out (fin true m e) z t = absurd t
power_out (fin false m e) z t = ap₂ (λ (n : ℕ) (d : ℤ). fin false n d) (eqb→eq m 1 (and_l (eqb m 1) (sameℤ e z) t)) (same_is e z (and_r (eqb m 1) (sameℤ e z) t))

test : ℕ → ℕ → Bool
test j b = is_power (of_bits binary32 (bits_of_power j)) (minus j 149)

power_is : (j : ℕ) → j < 277 → of_bits binary32 (bits_of_power j) ≡ fin false 1 (minus j 149)
unfolding test of_bits
power_is j h = power_out (of_bits binary32 (bits_of_power j)) (minus j 149) (at test (replicate 277 0) tt j h)

moved : (k : ℤ) → negsuc 148 ≤ℤ k → k ≤ℤ pos 127 → (nat_abs (k +ℤ pos 149) < 277) × (minus (nat_abs (k +ℤ pos 149)) 149 ≡ k)
moved (pos n) l h = (omega (arith, ints, h), ap (λ (b : Bool). cond b (pos (n + 149 - 149)) (negsuc (149 - suc (n + 149)))) (le-leb 149 (n + 149) (omega arith)) ∙ ap pos (omega arith))
moved (negsuc n) l h =
    let b : n ≤ 148 = omega (arith, ints, l) in
    let e : negsuc n +ℤ pos 149 ≡ pos (148 - n) = omega (arith, ints) in (
      subst (λ (z : ℤ). nat_abs z < 277) (sym e) (omega arith),
      ap (λ (z : ℤ). minus (nat_abs z) 149) e
          ∙ ap (λ (v : Bool). cond v (pos (148 - n - 149)) (negsuc (149 - suc (148 - n)))) (lt-leb 149 (148 - n) (omega arith)) ∙ ap negsuc (omega arith),
    )

pub power_of_lem : (k : ℤ) → negsuc 148 ≤ℤ k → k ≤ℤ pos 127 → of_bits binary32 (bits_of_power (nat_abs (k +ℤ pos 149))) ≡ fin false 1 k
power_of_lem k l h = let m = moved k l h in power_is (nat_abs (k +ℤ pos 149)) m.0 ∙ ap (fin false 1) m.1

pub power_number : (k : ℤ) → negsuc 148 ≤ℤ k → k ≤ℤ pos 127 → T (not (nan_bits binary32 (bits_of_power (nat_abs (k +ℤ pos 149)))))
unfolding is_nan
power_number k l h = subst (λ (b : Bool). T (not b)) (sym (nan_bits_is binary32 (bits_of_power (nat_abs (k +ℤ pos 149))) ∙ ap is_nan (power_of_lem k l h))) tt

-- ---- whole numbers
same_bool : (a b : Bool) → (T a → T b) → (T b → T a) → a ≡ b
same_bool true true f g = refl
same_bool true false f g = absurd (f tt)
same_bool false true f g = absurd (g tt)
same_bool false false f g = refl

or_r : (a b : Bool) → T b → T (a || b)
or_r true b t = tt
or_r false b t = t

or_l : (a b : Bool) → T a → T (a || b)
or_l true b t = tt
or_l false b t = absurd t

same_sign : (i j : Bool) → i ≡ j → T (beq i j)
same_sign false j q = subst (λ (u : Bool). T (beq false u)) q tt
same_sign true j q = subst (λ (u : Bool). T (beq true u)) q tt

-- the whole part of x equals x where x has no fraction
compare_whole : (r : Float) (t s : Bool) (m : ℕ) (e : ℤ) → HasValue r t (m * up e / down e) 1 → (t ≡ s) ⊎ (m * up e / down e ≡ 0) → eq r (fin s m e) ≡ is_whole (fin s m e)
unfolding eq is_whole
compare_whole nan t s m e v c = absurd v
compare_whole (inf u) t s m e v c = absurd v
compare_whole (fin u n d) t s m e v c =
    let a = m * up e in
    let D = down e in
    let K = a / D in
    let n-is : n * up d ≡ K * down d = sym (mul-one (n * up d)) ∙ v.1 in
    same_bool _ _
    (λ h. eq→eqb (no_rest a D K (eq_of_mul-eq-mul_right (down d) (down_pos d) (K * D) a (turn (n * up d) K D (down d) n-is ∙ eqb→eq (n * up d * D) (a * down d) (and_l _ _ h)))))
    (λ h. and_i _ _ (eq→eqb (turned (n * up d) K D a (down d) n-is (exact a D K (div-add-mod a D) (eqb→eq (a % D) 0 h))))
    (elim c [
      | inl q ↦ or_l _ _ (same_sign u s (v.0 ∙ q))
      | inr z ↦ or_r (beq u s) _ (eq→eqb (none (n * up d) K (down d) D n-is z))
    ]))
  where
    turn : (n k D d : ℕ) → n ≡ k * d → k * D * d ≡ n * D
    turn n k D d e = let h : n * D ≡ k * d * D = ap (λ (x : ℕ). x * D) e in omega arith

    turned : (n k D a d : ℕ) → n ≡ k * d → a ≡ k * D → n * D ≡ a * d
    turned n k D a d e g = let h : n * D ≡ k * d * D = ap (λ (x : ℕ). x * D) e in let i : a * d ≡ k * D * d = ap (λ (x : ℕ). x * d) g in omega arith

    exact : (a D k : ℕ) → D * k + a % D ≡ a → a % D ≡ 0 → a ≡ k * D
    exact a D k e z = omega arith

    none : (n k d D : ℕ) → n ≡ k * d → k ≡ 0 → n * D ≡ 0
    none n k d D e z = let h : k * d ≡ 0 * d = ap (λ (x : ℕ). x * d) z in let i : n * D ≡ 0 * d * D = ap (λ (x : ℕ). x * D) (e ∙ h) in omega arith

    no_rest : (a D k : ℕ) → k * D ≡ a → a % D ≡ 0
    no_rest a D k e = ap (λ (x : ℕ). x % D) (sym e) ∙ mul-mod_left k D

-- K and -K as an f32
of_whole : (s : Bool) (K : ℕ) → K ≤ 149 → (t : Bool) × HasValue (of_int binary32 (cond s (neg_ℤ (pos K)) (pos K))) t K 1 × ((t ≡ s) ⊎ (K ≡ 0))
unfolding of_int
of_whole false K h = (false, round_whole binary32 false K (omega arith), inl refl)
of_whole true zero h = (false, round_whole binary32 false 0 (omega arith), inr refl)
of_whole true (suc n) h = (true, round_whole binary32 true (suc n) (omega arith), inl refl)

pub in_range : (s : Bool) (K : ℕ) → negsuc 148 ≤ℤ cond s (neg_ℤ (pos (min K 2147483648))) (pos (min K 2147483647)) → cond s (neg_ℤ (pos (min K 2147483648))) (pos (min K 2147483647)) ≤ℤ pos 127
    → (K ≤ 149) × (cond s (neg_ℤ (pos (min K 2147483648))) (pos (min K 2147483647)) ≡ cond s (neg_ℤ (pos K)) (pos K))
in_range false K l h = let b : K ≤ 127 = omega (arith, ints, h) in (omega arith, ap pos (omega arith))
in_range true K l h = let b : K ≤ 149 = omega (arith, ints, l) in (b, ap (λ (n : ℕ). neg_ℤ (pos n)) (omega arith))

pub back_whole : (x : Float) → negsuc 148 ≤ℤ to_signed 31 x → to_signed 31 x ≤ℤ pos 127 → eq (of_int binary32 (to_signed 31 x)) x ≡ is_whole x
unfolding to_signed is_whole eq
back_whole nan l h = eq_nan (of_int binary32 (pos 0))
  where
    eq_nan : (r : Float) → eq r nan ≡ false
    eq_nan nan = refl
    eq_nan (inf s) = refl
    eq_nan (fin s m e) = refl
back_whole (inf false) l h = absurd (omega (arith, ints, h))
back_whole (inf true) l h = absurd (omega (arith, ints, l))
back_whole (fin s m e) l h =
    let K = m * up e / down e in
    let r = in_range s K l h in
    let w = of_whole s K r.0 in
    ap (λ (z : ℤ). eq (of_int binary32 z) (fin s m e)) r.1 ∙ compare_whole (of_int binary32 (cond s (neg_ℤ (pos K)) (pos K))) w.0 s m e w.1 w.2

-- what the test of a whole number finds
pub in_powers_lem : (x : Float) (k : ℤ) → k ≡ to_signed 31 x → negsuc 148 ≤ℤ k → k ≤ℤ pos 127 → in_powers x ≡ eq (of_int binary32 k) x
in_powers_lem x k e l h =
    let l' = subst (λ (z : ℤ). negsuc 148 ≤ℤ z) e l in
    let h' = subst (λ (z : ℤ). z ≤ℤ pos 127) e h in
    ap₂ (λ (a b : Bool). is_whole x && (a && b)) (is_true _ l'.le) (is_true _ h'.le) ∙ and-true (is_whole x) ∙ sym (back_whole x l' h') ∙ ap (λ (z : ℤ). eq (of_int binary32 z) x) (sym e)

pub below_powers : (x : Float) (k : ℤ) → k ≡ to_signed 31 x → le_z (negsuc 148) k ≡ false → in_powers x ≡ false
below_powers x k e l = and_right (is_whole x) _ (and_left _ (le_z (to_signed 31 x) (pos 127)) (ap (le_z (negsuc 148)) (sym e) ∙ l))

pub above_powers : (x : Float) (k : ℤ) → k ≡ to_signed 31 x → le_z k (pos 127) ≡ false → in_powers x ≡ false
above_powers x k e l = and_right (is_whole x) _ (and_right (le_z (negsuc 148) (to_signed 31 x)) _ (ap (λ (z : ℤ). le_z z (pos 127)) (sym e) ∙ l))

in_le : {a b : ℤ} → le_z a b ≡ true → a ≤ℤ b
in_le e = record { le = subst T (sym e) tt }

-- the outcome of the test, as the code has it
pub tested : (x : Float) (k : ℤ) (b : Bool) → k ≡ to_signed 31 x → le_z (negsuc 148) k ≡ true → le_z k (pos 127) ≡ true → eq (of_int binary32 k) x ≡ b → in_powers x ≡ b
tested x k b e l h t = in_powers_lem x k e (in_le l) (in_le h) ∙ t

-- ---- the last 16 digits of such a number are 0
zeros : Bool → ℕ → ℕ → Bool
zeros s n b = eqb (to_bits binary32 (round binary32 s n 1) % 65536) 0

last_digits : (s : Bool) (n : ℕ) → n < 150 → to_bits binary32 (round binary32 s n 1) % 65536 ≡ 0
unfolding zeros to_bits round
last_digits false n h = eqb→eq (to_bits binary32 (round binary32 false n 1) % 65536) 0 (at (zeros false) (replicate 150 0) tt n h)
last_digits true n h = eqb→eq (to_bits binary32 (round binary32 true n 1) % 65536) 0 (at (zeros true) (replicate 150 0) tt n h)

power_digits : (x : Float) → T (fits binary32 x) → T (in_powers x) → to_bits binary32 x % 65536 ≡ 0
unfolding is_whole to_signed
power_digits nan f t = absurd t
power_digits (inf s) f t = absurd t
power_digits (fin s m e) f t =
    let K = m * up e / down e in
    let z = to_signed 31 (fin s m e) in
    let w : m * up e % down e ≡ 0 = eqb→eq (m * up e % down e) 0 (and_l _ (le_z (negsuc 148) z && le_z z (pos 127)) t) in
    let g = and_r (eqb (m * up e % down e) 0) _ t in
    let r = in_range s K (record { le = and_l (le_z (negsuc 148) z) _ g }) (record { le = and_r (le_z (negsuc 148) z) _ g }) in
    let v : HasValue (fin s m e) s K 1 = (refl, exact (m * up e) (down e) (div-add-mod (m * up e) (down e)) w) in
    ap (λ (y : Float). to_bits binary32 y % 65536) (whole_unique binary32 (fin s m e) (round binary32 s K 1) s K f (round-fits binary32 s K 1) v (round_whole binary32 s K (omega (arith, r.0))))
    ∙ last_digits s K (omega (arith, r.0))
  where
    exact : (a D : ℕ) → D * (a / D) + a % D ≡ a → a % D ≡ 0 → a * 1 ≡ a / D * D
    exact a D e z = omega arith

pub no_power : (x : Float) (p : ℕ) → T (fits binary32 x) → p ≡ to_bits binary32 x → (p % 65536 ≡ 0 → ⊥) → in_powers x ≡ false
no_power x p f e h = go (in_powers x) (power_digits x f)
  where
    go : (b : Bool) → (T b → to_bits binary32 x % 65536 ≡ 0) → b ≡ false
    go true t = absurd (h (ap (λ (n : ℕ). n % 65536) e ∙ t tt))
    go false t = refl

pub moved_fits : (k : ℤ) → negsuc 148 ≤ℤ k → k ≤ℤ pos 127 → SFits w32 (k +ℤ pos 149)
moved_fits (pos n) l h = record { sfits = omega (arith, ints, h) }
moved_fits (negsuc n) l h =
    let b : n ≤ 148 = omega (arith, ints, l) in
    let e : negsuc n +ℤ pos 149 ≡ pos (148 - n) = omega (arith, ints) in
    subst (SFits w32) (sym e) record { sfits = omega arith }
