-- The split x = k / 2 ^ j + lo under every lawful arithmetic, for either format: k is nearest to 2 ^ j x, and lo is not rounded.
use Rattle.std.proofs.Common.{◌≡◌, ℕ, zero, suc, ◌+◌, ◌-◌, ◌*◌, ◌/◌, ◌^◌, ◌<◌, ◌≤◌, min, Bool, true, false, cond, not, ◌&&◌, T, ltb, ◌⊎◌, [], ◌∷◌, ℤ, pos, negsuc, ◌+ℤ◌, ◌*ℤ◌, neg_ℤ, nat_abs, ◌≤ℤ◌, sym, refl, ap, ◌∙◌, subst, inl, inr, le_trans, le_of_eq, lt_of_lt_of_le, mul-le-mul_right, mul_assoc, mul_comm, div-lt_iff_lt-mul, eq-zero-or-pos, mul-pos, mul-one, le_of_mul-le-mul_right, mul-div_cancel, arith, lit≤, lt→ltb, pow_pos, pow-add}
use lib.IntN.{*ℤ_comm}
use lib.Ieee.{Float, nan, inf, fin, Format, binary32, binary64, prec, emax, low, up, down, unlike, round, sum, mul, to_signed}
use lib.Ieee.Bits.{is_true}
use lib.Ieee.Exact.{HasValue}
use lib.Ieee.Fits.{down_pos, mul-fits}
use lib.Ieee.Scale.{round_same}
use borrow.Author.Differences.{ints}
use Rattle.std.proofs.Math.Nat.{zero-mul}
use Rattle.std.specs.Float.{float_is_finite}
use Rattle.exact.specs.Fraction.{Same, whole, integer, dyadic, times, opposite, difference, absolute, ◌≼◌}
use Rattle.exact.proofs.Ring.{◌⊕◌, ◌⊗◌, ⊝, norm}
use Rattle.exact.proofs.Integer.{zring, x₀, x₁, x₂, x₃}
use Rattle.exact.proofs.Equal.{same_sym, same_trans, same_plus}
use Rattle.rounding.specs.Values.{signed, value}
use Rattle.rounding.specs.Whole.{NearestAway}
use Rattle.arithmetic.specs.Arithmetic.{OneOrTwo, RoundsAway, Nearest}
use Rattle.arithmetic.specs.Signs.{ratio, dist, dist_mul, signed_mul, signed_size, signed_not, gap_not}
use Rattle.arithmetic.specs.Unrounded.{Holds, Exactly, round_holds, mul_add_sum, sum_exact, value_over, value_exactly, value_finite}
use Rattle.arithmetic.proofs.Digits.{pow_split, holds_small, small_in}
use Rattle.arithmetic.specs.Whole.{halves, halves_near, nearest_same, nearest_is, twice_pos}
use Rattle.curves.specs.Split.{Splits}
use Rattle.curves.proofs.Coarse.{next_to}

like : (s : Bool) → unlike s false ≡ s
like false = refl
like true = refl

flips : (s : Bool) → unlike s true ≡ not s
flips false = refl
flips true = refl

-- ---- the product 2 ^ j x
-- x of X smallest values, and 2 ^ j X of them below b + 1/2
pub record Input (f : Format) (j : ℕ) (b m : ℕ) (e : ℤ) : Type 0 where
  pub X : ℕ
  pub is : m * up e * 2 ^ low f ≡ X * down e
  pub holds : Holds f X
  pub some : 0 < X
  pub up_to : 2 * (X * 2 ^ j) < (2 * b + 1) * 2 ^ low f
  pub few : b < 2 ^ 20
  pub room : j + prec f ≤ low f

roomy : (f : Format) (j : ℕ) → j + prec f ≤ low f → j ≤ low f
roomy f j h = omega arith

abbrev pub scaled : Format → ℕ → Bool → ℕ → ℤ → Float
scaled f j s m e = mul f (fin s m e) (fin false 1 (pos j))

million : (f : Format) (b : ℕ) → b < 2 ^ 20 → 2 * b + 1 ≤ 2 ^ suc (emax f)
million binary32 b h = le_trans (let k : 2 * b + 1 ≤ 2 ^ 21 = omega arith in k) (lit≤ tt)
million binary64 b h = le_trans (let k : 2 * b + 1 ≤ 2 ^ 21 = omega arith in k) (lit≤ tt)

scaled_holds : (f : Format) (j b m : ℕ) (e : ℤ) (i : Input f j b m e) → Holds f (i.X * 2 ^ j)
scaled_holds f j b m e i = record {
  q = i.holds.q;
  i = i.holds.i + j;
  is = moved;
  few = i.holds.few;
  under = subst (λ (z : ℕ). z < 2 ^ (low f + suc (emax f))) moved
      (lt_of_lt_of_le (below (i.X * 2 ^ j) ((2 * b + 1) * 2 ^ low f) i.up_to) (le_trans (mul-le-mul_right (2 ^ low f) (million f b i.few)) (le_of_eq (mul_comm (2 ^ suc (emax f)) (2 ^ low f) ∙ sym (pow-add 2 (low f) (suc (emax f)))))));
}
  where
    moved : i.X * 2 ^ j ≡ i.holds.q * 2 ^ (i.holds.i + j)
    moved = ap (λ (z : ℕ). z * 2 ^ j) i.holds.is ∙ mul_assoc i.holds.q (2 ^ i.holds.i) (2 ^ j) ∙ ap (λ (z : ℕ). i.holds.q * z) (sym (pow-add 2 i.holds.i j))

    below : (a c : ℕ) → 2 * a < c → a < c
    below a c h = omega arith

scaled_value : (f : Format) (j b : ℕ) (s : Bool) (m : ℕ) (e : ℤ) (i : Input f j b m e) → HasValue (scaled f j s m e) s (i.X * 2 ^ j) (2 ^ low f)
unfolding mul
scaled_value f j b s m e i =
    subst (λ (y : Float). HasValue y s (i.X * 2 ^ j) (2 ^ low f))
    (sym (ap (λ (t : Bool). round f t (m * up e * (1 * 2 ^ j)) (down e * 1)) (like s) ∙ round_same f s (m * up e * (1 * 2 ^ j)) (down e * 1) (i.X * 2 ^ j) (2 ^ low f) (one (down e) (down_pos e)) (pow_pos (low f)) (cross (m * up e) (2 ^ j) (2 ^ low f) i.X (down e) i.is)))
    (round_holds f s (i.X * 2 ^ j) (scaled_holds f j b m e i))
  where
    one : (d : ℕ) → 0 < d → 0 < d * 1
    one d p = omega arith

    cross : (a w l x d : ℕ) → a * l ≡ x * d → a * (1 * w) * l ≡ x * w * (d * 1)
    cross a w l x d h = let k : a * l * w ≡ x * d * w = ap (λ (z : ℕ). z * w) h in omega arith

-- ---- k
-- kf as a whole number K with the sign of x, or 0
pub record Rounded (f : Format) (j : ℕ) (s : Bool) (X : ℕ) (kf : Float) : Type 0 where
  pub sign : Bool
  pub m : ℕ
  pub e : ℤ
  pub is : kf ≡ fin sign m e
  pub size : m * up e ≡ halves (X * 2 ^ j) (2 ^ low f) * down e
  pub like_x : (sign ≡ s) ⊎ (halves (X * 2 ^ j) (2 ^ low f) ≡ 0)

pub sign_of : (s t : Bool) (a b : ℕ) → signed s a ≡ signed t b → (s ≡ t) ⊎ (b ≡ 0)
sign_of false false a b e = inl refl
sign_of true true a b e = inl refl
sign_of false true a zero e = inr refl
sign_of false true a (suc b) e = absurd (clash a b e)
  where
    clash : (a b : ℕ) → pos a ≡ neg_ℤ (pos (suc b)) → ⊥
    clash a b e = absurd (omega (arith, ints, e))
sign_of true false a zero e = inr refl
sign_of true false a (suc b) e = absurd (clash a b e)
  where
    clash : (a b : ℕ) → neg_ℤ (pos a) ≡ pos (suc b) → ⊥
    clash a b e = absurd (omega (arith, ints, e))

nearest_scaled : (f : Format) (j b : ℕ) (s : Bool) (m : ℕ) (e : ℤ) (i : Input f j b m e) (z : ℤ) → NearestAway (value (scaled f j s m e)) z → z ≡ signed s (halves (i.X * 2 ^ j) (2 ^ low f))
nearest_scaled f j b s m e i z h =
    nearest_is s (i.X * 2 ^ j) (2 ^ low f) (pow_pos (low f)) z
    (nearest_same (value (scaled f j s m e)) (ratio s (i.X * 2 ^ j) (2 ^ low f) (pow_pos (low f))) z
    (value_over (scaled f j s m e) s (i.X * 2 ^ j) (2 ^ low f) (pow_pos (low f)) (scaled_value f j b s m e i)) h)

pub k_below : (f : Format) (j b : ℕ) (m : ℕ) (e : ℤ) (i : Input f j b m e) → halves (i.X * 2 ^ j) (2 ^ low f) ≤ b
k_below f j b m e i =
    let l : halves (i.X * 2 ^ j) (2 ^ low f) < b + 1 = (div-lt_iff_lt-mul (twice_pos (2 ^ low f) (pow_pos (low f)))).1 (top (i.X * 2 ^ j) b (2 ^ low f) i.up_to) in
    omega arith
  where
    top : (a b l : ℕ) → 2 * a < (2 * b + 1) * l → 2 * a + l < (b + 1) * (2 * l)
    top a b l h = omega arith

pub scaled_small : (f : Format) (j b : ℕ) (s : Bool) (m : ℕ) (e : ℤ) (i : Input f j b m e) (kf : Float) → Nearest f (scaled f j s m e) kf → RoundsAway f (scaled f j s m e) kf
scaled_small f j b s m e i kf law =
    law (mul-fits f (fin s m e) (fin false 1 (pos j)))
    (small_in (scaled f j s m e) s (i.X * 2 ^ j) (2 ^ low f) (pow_pos (low f)) (scaled_value f j b s m e i) (top (i.X * 2 ^ j) b (2 ^ low f) i.up_to i.few))
  where
    top : (a b l : ℕ) → 2 * a < (2 * b + 1) * l → b < 2 ^ 20 → a < 4194304 * l
    top a b l h k = let g : (2 * b + 1) * l ≤ 2097152 * l = mul-le-mul_right l (omega arith) in omega arith

pub rounded : (f : Format) (j b : ℕ) (s : Bool) (m : ℕ) (e : ℤ) (i : Input f j b m e) (kf : Float) → RoundsAway f (scaled f j s m e) kf → Rounded f j s i.X kf
unfolding float_is_finite
rounded f j b s m e i nan r = absurd r.number
rounded f j b s m e i (inf t) r = absurd r.number
rounded f j b s m e i (fin t n d) r =
    let K = halves (i.X * 2 ^ j) (2 ^ low f) in
    let same : signed t (n * up d * 1) ≡ signed s (K * down d) =
    sym (signed_mul t (n * up d) 1) ∙ r.is ∙ ap (λ (z : ℤ). z *ℤ pos (down d)) (nearest_scaled f j b s m e i r.z r.nearest) ∙ signed_mul s K (down d) in
    record {
      sign = t;
      m = n;
      e = d;
      is = refl;
      size = sym (mul-one (n * up d)) ∙ sym (signed_size t (n * up d * 1)) ∙ ap nat_abs same ∙ signed_size s (K * down d);
      like_x = elim (sign_of t s (n * up d * 1) (K * down d) same) [
        | inl q ↦ inl q
        | inr z ↦ inr (no_factor K (down d) (down_pos d) z)
      ];
    }
  where
    no_factor : (k d : ℕ) → 0 < d → k * d ≡ 0 → k ≡ 0
    no_factor k d p z = elim (eq-zero-or-pos k) [
      | inl e ↦ e
      | inr q ↦ let h = mul-pos q p in absurd (omega arith)
    ]

signed_like : (t s : Bool) (k : ℕ) → (t ≡ s) ⊎ (k ≡ 0) → signed t k ≡ signed s k
signed_like t s k (inl e) = ap (λ (u : Bool). signed u k) e
signed_like t s k (inr z) = ap (signed t) z ∙ zero_signs t s ∙ ap (signed s) (sym z)
  where
    zero_signs : (t s : Bool) → signed t 0 ≡ signed s 0
    zero_signs false false = refl
    zero_signs false true = refl
    zero_signs true false = refl
    zero_signs true true = refl

-- the conversion to 32 bits loses nothing
pub k_is : (f : Format) (j b : ℕ) (s : Bool) (m : ℕ) (e : ℤ) (i : Input f j b m e) (kf : Float) → Rounded f j s i.X kf → to_signed 31 kf ≡ signed s (halves (i.X * 2 ^ j) (2 ^ low f))
unfolding to_signed
k_is f j b s m e i kf r =
    let K = halves (i.X * 2 ^ j) (2 ^ low f) in
    let q : r.m * up r.e / down r.e ≡ K = ap (λ (z : ℕ). z / down r.e) r.size ∙ mul-div_cancel K (down_pos r.e) in
    ap (to_signed 31) r.is ∙ ap (λ (z : ℕ). cond r.sign (neg_ℤ (pos (min z 2147483648))) (pos (min z 2147483647))) q ∙ cut r.sign K (k_below f j b m e i) i.few ∙ signed_like r.sign s K r.like_x
  where
    cut : (t : Bool) (k : ℕ) → k ≤ b → b < 2 ^ 20 → cond t (neg_ℤ (pos (min k 2147483648))) (pos (min k 2147483647)) ≡ signed t k
    cut false k h l = ap pos (omega arith)
    cut true k h l = ap (λ (z : ℕ). neg_ℤ (pos z)) (omega arith)

-- ---- lo
-- the sum of -k / 2 ^ j and x, in smallest values
abbrev pub left_over : Format → ℕ → Bool → ℕ → Float
left_over f j s X = sum f (not s) (halves (X * 2 ^ j) (2 ^ low f) * 2 ^ (low f - j)) s X (2 ^ low f)

-- -1 / 2 ^ (j + 1)
abbrev pub step : ℕ → Float
step j = fin true 1 (negsuc j)

times_step : (a n u w l K D : ℕ) → l ≡ u * w → a ≡ K * D → a * (1 * 1) * l ≡ K * u * (D * w)
times_step a n u w l K D e h = let p : a * (u * w) ≡ K * D * (u * w) = ap (λ (z : ℕ). z * (u * w)) h in ap (λ (z : ℕ). a * (1 * 1) * z) e ∙ (omega arith)

step_times : (a n u w l K D : ℕ) → l ≡ u * w → a ≡ K * D → 1 * 1 * a * l ≡ K * u * (w * D)
step_times a n u w l K D e h = let p : a * (u * w) ≡ K * D * (u * w) = ap (λ (z : ℕ). z * (u * w)) h in ap (λ (z : ℕ). 1 * 1 * a * z) e ∙ (omega arith)

digits_enough : (f : Format) (b k : ℕ) → b < 2 ^ 20 → k ≤ b → k < 2 ^ prec f
digits_enough binary32 b k h l = lt_of_lt_of_le (let g : k < 2 ^ 20 = omega arith in g) (lit≤ tt)
digits_enough binary64 b k h l = lt_of_lt_of_le (let g : k < 2 ^ 20 = omega arith in g) (lit≤ tt)

product_holds : (f : Format) (j b m : ℕ) (e : ℤ) (i : Input f j b m e) → Holds f (halves (i.X * 2 ^ j) (2 ^ low f) * 2 ^ (low f - j))
product_holds f j b m e i = holds_small f (halves (i.X * 2 ^ j) (2 ^ low f)) (low f - j) (digits_enough f b _ i.few (k_below f j b m e i)) (omega arith)

-- a zero of either sign added to x leaves x
zero_sum : (f : Format) (t s : Bool) (X L : ℕ) → 0 < X → sum f t 0 s X L ≡ round f s X L
unfolding sum
zero_sum f false false X L p = ap (λ (n : ℕ). round f false n L) (omega arith)
zero_sum f true true X L p = ap (λ (n : ℕ). round f true n L) (omega arith)
zero_sum f false true X L p = ap (λ (b : Bool). cond b (round f true (X - 0) L) (round f (false && ltb X 0) (0 - X) L)) (is_true (ltb 0 X) (lt→ltb 0 X p)) ∙ ap (λ (n : ℕ). round f true n L) (omega arith)
zero_sum f true false X L p = ap (λ (b : Bool). cond b (round f false (X - 0) L) (round f (true && ltb X 0) (0 - X) L)) (is_true (ltb 0 X) (lt→ltb 0 X p)) ∙ ap (λ (n : ℕ). round f false n L) (omega arith)

canonical : (f : Format) (t s : Bool) (K u X L : ℕ) → 0 < X → (t ≡ s) ⊎ (K ≡ 0) → sum f (not t) (K * u) s X L ≡ sum f (not s) (K * u) s X L
canonical f t s K u X L p (inl e) = ap (λ (b : Bool). sum f (not b) (K * u) s X L) e
canonical f t s K u X L p (inr z) =
    let n : K * u ≡ 0 = ap (λ (k : ℕ). k * u) z ∙ zero-mul u in
    ap (λ (a : ℕ). sum f (not t) a s X L) n ∙ zero_sum f (not t) s X L p ∙ sym (zero_sum f (not s) s X L p) ∙ ap (λ (a : ℕ). sum f (not s) a s X L) (sym n)

-- kf first: exp and expm1
pub lo_is : (f : Format) (j b : ℕ) (s : Bool) (m : ℕ) (e : ℤ) (i : Input f (suc j) b m e) (kf r : Float) → Rounded f (suc j) s i.X kf → OneOrTwo f kf (step j) (fin s m e) r → r ≡ left_over f (suc j) s i.X
unfolding mul
lo_is f j b s m e i kf r k law =
    let K = halves (i.X * 2 ^ suc j) (2 ^ low f) in
    let P = K * 2 ^ (low f - suc j) in
    let fine : 2 ^ low f ≡ 2 ^ (low f - suc j) * 2 ^ suc j = pow_split (low f) (suc j) (roomy f (suc j) i.room) in
    let c = times_step (k.m * up k.e) 1 (2 ^ (low f - suc j)) (2 ^ suc j) (2 ^ low f) K (down k.e) fine k.size in
    mul_add_sum f k.sign k.m k.e true 1 (negsuc j) s m e r P i.X (2 ^ low f) (pow_pos (low f)) c
    (subst (λ (y : Float). HasValue y (unlike k.sign true) P (2 ^ low f))
    (sym (round_same f (unlike k.sign true) (k.m * up k.e * (1 * 1)) (down k.e * 2 ^ suc j) P (2 ^ low f) (mul-pos (down_pos k.e) (pow_pos (suc j))) (pow_pos (low f)) c))
    (round_holds f (unlike k.sign true) P (product_holds f (suc j) b m e i)))
    i.is (subst (λ (y : Float). OneOrTwo f y (step j) (fin s m e) r) k.is law)
    ∙ ap (λ (t : Bool). sum f t P s i.X (2 ^ low f)) (flips k.sign)
    ∙ canonical f k.sign s K (2 ^ (low f - suc j)) i.X (2 ^ low f) i.some k.like_x

-- kf second: exp2
pub lo_is_turned : (f : Format) (j b : ℕ) (s : Bool) (m : ℕ) (e : ℤ) (i : Input f (suc j) b m e) (kf r : Float) → Rounded f (suc j) s i.X kf → OneOrTwo f (step j) kf (fin s m e) r → r ≡ left_over f (suc j) s i.X
unfolding mul
lo_is_turned f j b s m e i kf r k law =
    let K = halves (i.X * 2 ^ suc j) (2 ^ low f) in
    let P = K * 2 ^ (low f - suc j) in
    let fine : 2 ^ low f ≡ 2 ^ (low f - suc j) * 2 ^ suc j = pow_split (low f) (suc j) (roomy f (suc j) i.room) in
    let c = step_times (k.m * up k.e) 1 (2 ^ (low f - suc j)) (2 ^ suc j) (2 ^ low f) K (down k.e) fine k.size in
    mul_add_sum f true 1 (negsuc j) k.sign k.m k.e s m e r P i.X (2 ^ low f) (pow_pos (low f)) c
    (subst (λ (y : Float). HasValue y (unlike true k.sign) P (2 ^ low f))
    (sym (round_same f (unlike true k.sign) (1 * 1 * (k.m * up k.e)) (2 ^ suc j * down k.e) P (2 ^ low f) (mul-pos (pow_pos (suc j)) (down_pos k.e)) (pow_pos (low f)) c))
    (round_holds f (unlike true k.sign) P (product_holds f (suc j) b m e i)))
    i.is (subst (λ (y : Float). OneOrTwo f (step j) y (fin s m e) r) k.is law)
    ∙ ap (λ (t : Bool). sum f t P s i.X (2 ^ low f)) (flipped k.sign)
    ∙ canonical f k.sign s K (2 ^ (low f - suc j)) i.X (2 ^ low f) i.some k.like_x
  where
    flipped : (t : Bool) → unlike true t ≡ not t
    flipped false = refl
    flipped true = refl

-- ---- what it is worth
near_whole : (f : Format) (j X : ℕ) → 2 * dist (X * 2 ^ j) (halves (X * 2 ^ j) (2 ^ low f) * 2 ^ low f) ≤ 2 ^ low f
near_whole f j X = halves_near (X * 2 ^ j) (2 ^ low f) (pow_pos (low f))

left_holds : (f : Format) (j b m : ℕ) (e : ℤ) (i : Input f j b m e) → Holds f (dist i.X (halves (i.X * 2 ^ j) (2 ^ low f) * 2 ^ (low f - j)))
left_holds f j b m e i =
    let K = halves (i.X * 2 ^ j) (2 ^ low f) in
    elim (eq-zero-or-pos K) [
      | inl z ↦ subst (λ (n : ℕ). Holds f n) (sym (ap (λ (k : ℕ). dist i.X (k * 2 ^ (low f - j))) z ∙ alone i.X (2 ^ (low f - j)))) i.holds
      | inr p ↦ next_to f j K i.X i.room i.holds p (near_whole f j i.X)
    ]
  where
    alone : (x u : ℕ) → dist x (0 * u) ≡ x
    alone x u = omega arith

pub left_exactly : (f : Format) (j b : ℕ) (s : Bool) (m : ℕ) (e : ℤ) (i : Input f j b m e)
    → Exactly f (left_over f j s i.X) (signed (not s) (halves (i.X * 2 ^ j) (2 ^ low f) * 2 ^ (low f - j)) +ℤ signed s i.X)
left_exactly f j b s m e i =
    let P = halves (i.X * 2 ^ j) (2 ^ low f) * 2 ^ (low f - j) in
    sum_exact f (not s) P s i.X (subst (λ (n : ℕ). Holds f n) (sym (gap_not s i.X P)) (left_holds f j b m e i))

own_value : (f : Format) (j b : ℕ) (s : Bool) (m : ℕ) (e : ℤ) (i : Input f j b m e) → Same (value (fin s m e)) (ratio s i.X (2 ^ low f) (pow_pos (low f)))
own_value f j b s m e i = value_over (fin s m e) s i.X (2 ^ low f) (pow_pos (low f)) (refl, i.is)

scaled_same : (f : Format) (j b : ℕ) (s : Bool) (m : ℕ) (e : ℤ) (i : Input f j b m e) → Same (value (scaled f j s m e)) (times (whole (2 ^ j)) (value (fin s m e)))
scaled_same f j b s m e i =
    same_trans (value (scaled f j s m e)) (ratio s (i.X * 2 ^ j) (2 ^ low f) (pow_pos (low f))) (times (whole (2 ^ j)) (value (fin s m e)))
    (value_over (scaled f j s m e) s (i.X * 2 ^ j) (2 ^ low f) (pow_pos (low f)) (scaled_value f j b s m e i))
    (signed_mul s (i.X * 2 ^ j) (1 * down e)
    ∙ ap (signed s) (cross (m * up e) (2 ^ j) (2 ^ low f) i.X (down e) i.is)
    ∙ sym (signed_mul s (m * up e * 2 ^ j) (2 ^ low f))
    ∙ ap (λ (z : ℤ). z *ℤ pos (2 ^ low f)) (sym (signed_mul s (m * up e) (2 ^ j)) ∙ *ℤ_comm (signed s (m * up e)) (pos (2 ^ j))))
  where
    cross : (a w l x d : ℕ) → a * l ≡ x * d → x * w * (1 * d) ≡ a * w * l
    cross a w l x d h = let k : a * l * w ≡ x * d * w = ap (λ (z : ℕ). z * w) h in omega arith

exact_sum : (s : Bool) (X K u w : ℕ) → (signed (not s) (K * u) +ℤ signed s X) *ℤ pos (u * w * w) ≡ (signed s X *ℤ pos w +ℤ neg_ℤ (signed s K) *ℤ pos (u * w)) *ℤ pos (u * w)
unfolding norm
exact_sum s X K u w =
    ap (λ (z : ℤ). (z +ℤ signed s X) *ℤ pos (u * w * w)) (signed_not s (K * u) ∙ ap neg_ℤ (sym (signed_mul s K u)))
    ∙ zring ((⊝ (x₁ ⊗ x₂) ⊕ x₀) ⊗ (x₂ ⊗ x₃ ⊗ x₃)) ((x₀ ⊗ x₃ ⊕ ⊝ x₁ ⊗ (x₂ ⊗ x₃)) ⊗ (x₂ ⊗ x₃)) refl (signed s X ∷ signed s K ∷ pos u ∷ pos w ∷ [])

lo_same : (f : Format) (j b : ℕ) (s : Bool) (m : ℕ) (e : ℤ) (i : Input f j b m e)
    → Same (value (left_over f j s i.X)) (difference (value (fin s m e)) (dyadic (signed s (halves (i.X * 2 ^ j) (2 ^ low f))) j))
lo_same f j b s m e i =
    let K = halves (i.X * 2 ^ j) (2 ^ low f) in
    let v = signed (not s) (K * 2 ^ (low f - j)) +ℤ signed s i.X in
    let lo = left_over f j s i.X in
    let x = ratio s i.X (2 ^ low f) (pow_pos (low f)) in
    let fine : 2 ^ low f ≡ 2 ^ (low f - j) * 2 ^ j = pow_split (low f) j (roomy f j i.room) in
    same_trans (value lo) (dyadic v (low f)) (difference (value (fin s m e)) (dyadic (signed s K) j)) (value_exactly f lo v (left_exactly f j b s m e i))
    (same_trans (dyadic v (low f)) (difference x (dyadic (signed s K) j)) (difference (value (fin s m e)) (dyadic (signed s K) j))
    (subst (λ (l : ℕ). v *ℤ pos (l * 2 ^ j) ≡ (signed s i.X *ℤ pos (2 ^ j) +ℤ neg_ℤ (signed s K) *ℤ pos l) *ℤ pos l) (sym fine) (exact_sum s i.X K (2 ^ (low f - j)) (2 ^ j)))
    (same_plus x (value (fin s m e)) (opposite (dyadic (signed s K) j)) (opposite (dyadic (signed s K) j)) (same_sym (value (fin s m e)) x (own_value f j b s m e i)) refl))

size_in : (lo : Float) (t : Bool) (d l j : ℕ) → HasValue lo t d l → 0 < l → d * 2 ^ (j + 1) ≤ l → absolute (value lo) ≼ dyadic (pos 1) (j + 1)
size_in nan t d l j v p h = absurd v
size_in (inf u) t d l j v p h = absurd v
size_in (fin u n e) t d l j v p h =
    subst (λ (a : ℕ). (pos a *ℤ pos (2 ^ (j + 1))) ≤ℤ (pos 1 *ℤ pos (down e))) (sym (signed_size u (n * up e)))
    (let g = cross (n * up e) (down e) d l (2 ^ (j + 1)) p v.1 h in omega (arith, ints, g))
  where
    cross : (a c d l w : ℕ) → 0 < l → a * l ≡ d * c → d * w ≤ l → a * w ≤ 1 * c
    cross a c d l w p e h = le_of_mul-le-mul_right {m = a * w} {n = 1 * c} {k = l} (let k : d * w * c ≤ l * c = mul-le-mul_right c h in let g : a * l * w ≡ d * c * w = ap (λ (z : ℕ). z * w) e in omega arith) p

lo_small : (f : Format) (j b : ℕ) (s : Bool) (m : ℕ) (e : ℤ) (i : Input f j b m e) → absolute (value (left_over f j s i.X)) ≼ dyadic (pos 1) (j + 1)
lo_small f j b s m e i =
    let K = halves (i.X * 2 ^ j) (2 ^ low f) in
    let P = K * 2 ^ (low f - j) in
    let x = left_exactly f j b s m e i in
    let fine : 2 ^ low f ≡ 2 ^ (low f - j) * 2 ^ j = pow_split (low f) j (roomy f j i.room) in
    let d : x.size ≡ dist i.X P = sym (signed_size x.sign x.size) ∙ ap nat_abs x.v_is ∙ gap_not s i.X P in
    let whole : dist (i.X * 2 ^ j) (K * 2 ^ low f) ≡ dist i.X P * 2 ^ j = ap (λ (z : ℕ). dist (i.X * 2 ^ j) z) (ap (λ (z : ℕ). K * z) fine ∙ sym (mul_assoc K (2 ^ (low f - j)) (2 ^ j))) ∙ dist_mul i.X P (2 ^ j) in
    size_in (left_over f j s i.X) x.sign x.size (2 ^ low f) j x.value_is (pow_pos (low f))
    (subst (λ (z : ℕ). z * 2 ^ (j + 1) ≤ 2 ^ low f) (sym d) (half (dist i.X P) (2 ^ j) (2 ^ (j + 1)) (2 ^ low f) (pow-add 2 j 1) (subst (λ (z : ℕ). 2 * z ≤ 2 ^ low f) whole (near_whole f j i.X))))
  where
    half : (d w v l : ℕ) → v ≡ w * 2 → 2 * (d * w) ≤ l → d * v ≤ l
    half d w v l e h = let k : d * v ≡ d * (w * 2) = ap (λ (z : ℕ). d * z) e in omega arith

-- ---- the split
pub splits : (f : Format) (j b : ℕ) (s : Bool) (m : ℕ) (e : ℤ) (i : Input f j b m e) (kf lo : Float) → RoundsAway f (scaled f j s m e) kf → lo ≡ left_over f j s i.X → Splits j (fin s m e) kf (to_signed 31 kf) lo
splits f j b s m e i kf lo r q =
    let k : to_signed 31 kf ≡ signed s (halves (i.X * 2 ^ j) (2 ^ low f)) = k_is f j b s m e i kf (rounded f j b s m e i kf r) in
    let z : r.z ≡ to_signed 31 kf = nearest_scaled f j b s m e i r.z r.nearest ∙ sym k in
    record {
      nearest = nearest_same (value (scaled f j s m e)) (times (whole (2 ^ j)) (value (fin s m e))) (to_signed 31 kf) (scaled_same f j b s m e i) (subst (λ (u : ℤ). NearestAway (value (scaled f j s m e)) u) z r.nearest);
      whole_kf = r.number;
      kept = subst (λ (u : ℤ). Same (value kf) (integer u)) z r.is;
      finite_lo = let x = left_exactly f j b s m e i in subst (λ (y : Float). T (float_is_finite y)) (sym q) (value_finite (left_over f j s i.X) x.sign x.size (2 ^ low f) x.value_is);
      exact = subst (λ (y : Float). Same (value y) (difference (value (fin s m e)) (dyadic (to_signed 31 kf) j))) (sym q) (subst (λ (u : ℤ). Same (value (left_over f j s i.X)) (difference (value (fin s m e)) (dyadic u j))) (sym k) (lo_same f j b s m e i));
      small = subst (λ (y : Float). absolute (value y) ≼ dyadic (pos 1) (j + 1)) (sym q) (lo_small f j b s m e i);
    }
