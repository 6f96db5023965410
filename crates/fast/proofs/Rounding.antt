-- The whole number nearest to a float of either format, halves away from zero, by its pattern.
use Rattle.std.proofs.Common.{◌≡◌, ℕ, zero, suc, ◌+◌, ◌-◌, ◌*◌, ◌/◌, ◌%◌, ◌^◌, ◌<◌, ◌≤◌, Bool, true, false, not, T, leb, pos, sym, refl, ap, ◌∙◌, subst, div-lt_iff_lt-mul, mul-pos, arith, le→leb, pow_pos, pow-add, shl_exact, Fits, w64}
use native.Mathlib.Nat.{div-eq_of_lt}
use lib.Ieee.{Float, Format, nan, inf, fin, binary32, binary64, prec, low, top, hid, up, down, round, fits, of_bits, of_int, in_float, to_bits, is_nan, nan_bits}
use lib.Ieee.Fits.{down_pos, round_is, round-fits}
use lib.Ieee.Back.{round_whole}
use lib.Ieee.Bits.{of_bits-to_bits, to_bits-lt, nan_bits_is}
use lib.Ieee.Exact.{HasValue}
use lib.Ieee.Nearest.{div_same}
use Rattle.std.specs.Float.{float_round, round_with, float_with_sign}
use Rattle.fast.proofs.Patterns.{signed_units, signed_bits, sign_of}
use Rattle.fast.specs.Point.{Places}
use Rattle.fast.proofs.Placing.{Under, Placed, less, more, placed, digits}

-- the digits and a half, without what stands after the point
abbrev pub count : Format → ℕ → ℕ → ℕ
count f b s = (b % top f % hid f + hid f + 1 * 2 ^ (s - 1) % 2 ^ 64) / 2 ^ s

-- ---- halves away from zero

spread : (A D N E : ℕ) → A * D ≡ N * E → (2 * A + E) * (2 * D) ≡ (2 * N + D) * (2 * E)
spread A D N E h = omega arith

away_at : (f : Format) (x : Float) (s : Bool) (N D : ℕ) → 0 < D → HasValue x s N D → float_round f x ≡ round f s ((2 * N + D) / (2 * D)) 1
unfolding round_with
away_at f nan s N D p v = absurd v
away_at f (inf t) s N D p v = absurd v
away_at f (fin true m e) s N D p v =
    let h = div_same (2 * (m * up e) + down e) (2 * down e) (2 * N + D) (2 * D) (omega (arith, down_pos e)) (omega arith) (spread (m * up e) D N (down e) v.1) in
    λ i. round f (v.0 i) (h i) 1
away_at f (fin false m e) s N D p v =
    let h = div_same (2 * (m * up e) + down e) (2 * down e) (2 * N + D) (2 * D) (omega (arith, down_pos e)) (omega arith) (spread (m * up e) D N (down e) v.1) in
    λ i. round f (v.0 i) (h i) 1

-- ---- the count of whole numbers

shift_is : (f : Format) (k : ℕ) → k ≤ prec f → 1 * 2 ^ k % 2 ^ 64 ≡ 2 ^ k
shift_is f k h = let l : 1 + k ≤ 64 = room f k h in shl_exact {a = 1} 1 k 64 (omega arith) l ∙ omega arith
  where
    room : (f : Format) (k : ℕ) → k ≤ prec f → 1 + k ≤ 64
    room binary32 k h = omega arith
    room binary64 k h = omega arith

-- the same in a word of the format's own width, and the count with it
shift_own : (f : Format) (k : ℕ) → k ≤ prec f → (1 * 2 ^ k) % (2 * top f) ≡ 2 ^ k
shift_own binary32 k h = shl_exact {a = 1} 1 k 32 (omega arith) (omega arith) ∙ omega arith
shift_own binary64 k h = shl_exact {a = 1} 1 k 64 (omega arith) (omega arith) ∙ omega arith

pub count_own : (f : Format) (b s : ℕ) → s ≤ suc (prec f) → (b % top f % hid f + hid f + (1 * 2 ^ (s - 1)) % (2 * top f)) / 2 ^ s ≡ count f b s
count_own f b s h =
    let l : s - 1 ≤ prec f = omega arith in
    ap (λ (w : ℕ). (b % top f % hid f + hid f + w) / 2 ^ s) (shift_own f (s - 1) l ∙ sym (shift_is f (s - 1) l))

count_is : (f : Format) (b k : ℕ) → k ≤ prec f → count f b (suc k) ≡ (hid f + b % hid f + 2 ^ k) / (2 * 2 ^ k)
count_is f b k h =
    let d : 2 ^ suc k ≡ 2 * 2 ^ k = omega arith in
    let u : suc k - 1 ≡ k = omega arith in
    let w : 1 * 2 ^ (suc k - 1) % 2 ^ 64 ≡ 2 ^ k = ap (λ (n : ℕ). 1 * 2 ^ n % 2 ^ 64) u ∙ shift_is f k h in
    λ i. ((digits f b).0 i + w i) / d i

near : (q J H D : ℕ) → D ≡ J * (2 * H) → (2 * (q * J) + D) * (2 * H) ≡ (q + H) * (2 * D)
near q J H D e = subst (λ (d : ℕ). (2 * (q * J) + d) * (2 * H) ≡ (q + H) * (2 * d)) (sym e) (go q J H)
  where
    go : (q J H : ℕ) → (2 * (q * J) + J * (2 * H)) * (2 * H) ≡ (q + H) * (2 * (J * (2 * H)))
    go q J H = omega arith

-- the point in or above the digits
high : (q j k l : ℕ) → j + suc k ≡ l → (2 * (q * 2 ^ j) + 2 ^ l) / (2 * 2 ^ l) ≡ (q + 2 ^ k) / (2 * 2 ^ k)
high q j k l e =
    let d : 2 ^ l ≡ 2 ^ j * (2 * 2 ^ k) = ap (λ (n : ℕ). 2 ^ n) (sym e) ∙ pow-add 2 j (suc k) ∙ ap (λ (n : ℕ). 2 ^ j * n) (twice k) in
    div_same (2 * (q * 2 ^ j) + 2 ^ l) (2 * 2 ^ l) (q + 2 ^ k) (2 * 2 ^ k) (mul-pos {m = 2} (omega arith) (pow_pos l)) (mul-pos {m = 2} (omega arith) (pow_pos k)) (near q (2 ^ j) (2 ^ k) (2 ^ l) d)
  where
    twice : (k : ℕ) → 2 ^ suc k ≡ 2 * 2 ^ k
    twice k = omega arith

-- less than a half
none : (N l : ℕ) → 2 * N < 2 ^ l → (2 * N + 2 ^ l) / (2 * 2 ^ l) ≡ 0
none N l h = div-eq_of_lt (omega arith)

low_count : (f : Format) (b : ℕ) → count f b (suc (prec f)) ≡ 0
low_count f b = count_is f b (prec f) (omega arith) ∙ under (hid f + b % hid f) (2 ^ prec f) (digits f b).1
  where
    under : (q H : ℕ) → q < H → (q + H) / (2 * H) ≡ 0
    under q H h = div-eq_of_lt (omega arith)

signed_round : (f : Format) (s : Bool) (a c : ℕ) → float_with_sign s (round f false a c) ≡ round f s a c
signed_round f s a c = ap (float_with_sign s) (round_is f false a c) ∙ signed_units f s _ _ ∙ sym (round_is f s a c)

like : (f : Format) (m : ℕ) (e : lib.IntN.ℤ) → fits f (fin false m e) ≡ fits f (fin true m e)
unfolding fits
like f zero e = refl
like f (suc m) e = refl

-- a float that is not negative has no sign bit
plain_bits : (f : Format) (y : Float) (n : ℕ) → T (fits f y) → HasValue y false n 1 → to_bits f y < top f
unfolding to_bits
plain_bits f nan n t v = absurd v
plain_bits f (inf s) n t v = absurd v
plain_bits f (fin true m e) n t v = absurd (mathlib.Core.Bool.true≢false v.0)
plain_bits f (fin false m e) n t v = omega (arith, to_bits-lt f (fin true m e) (subst T (like f m e) t))

number : (y : Float) (s : Bool) (a c : ℕ) → HasValue y s a c → T (not (is_nan y))
unfolding is_nan
number nan s a c v = absurd v
number (inf t) s a c v = tt
number (fin t m e) s a c v = tt

bounded : (f : Format) (m H : ℕ) → m < 2 ^ prec f → 0 < H → (m + H) / (2 * H) ≤ hid f
bounded binary32 m H a p = let l : (m + H) / (2 * H) < suc (2 ^ 23) = (div-lt_iff_lt-mul (mul-pos {m = 2} (omega arith) p)).1 (omega arith) in omega arith
bounded binary64 m H a p = let l : (m + H) / (2 * H) < suc (2 ^ 52) = (div-lt_iff_lt-mul (mul-pos {m = 2} (omega arith) p)).1 (omega arith) in omega arith

count_small : (f : Format) (b s : ℕ) → Placed f b s → count f b s ≤ hid f
count_small f b s (less N v t e) = let z : count f b s ≡ 0 = ap (count f b) e ∙ low_count f b in omega arith
count_small f b s (more j k v e g l) =
    subst (λ (n : ℕ). n ≤ hid f) (sym (ap (count f b) e ∙ count_is f b k l)) (bounded f (hid f + b % hid f) (2 ^ k) (digits f b).1 (pow_pos k))

rounds : (f : Format) (b s : ℕ) → Placed f b s → float_round f (of_bits f b) ≡ round f (leb (top f) b) (count f b s) 1
rounds f b s (less N v t e) =
    let z : count f b s ≡ 0 = ap (count f b) e ∙ low_count f b in
    away_at f (of_bits f b) (leb (top f) b) N (2 ^ low f) (pow_pos (low f)) v ∙ ap (λ (n : ℕ). round f (leb (top f) b) n 1) (none N (low f) t ∙ sym z)
rounds f b s (more j k v e g l) =
    away_at f (of_bits f b) (leb (top f) b) _ (2 ^ low f) (pow_pos (low f)) v
    ∙ ap (λ (n : ℕ). round f (leb (top f) b) n 1) (high (hid f + b % hid f) j k (low f) g ∙ sym (ap (count f b) e ∙ count_is f b k l))

-- ---- the count as a float, with the sign put on

under_digits : (f : Format) (n : ℕ) → n ≤ hid f → n ≤ 2 ^ prec f
under_digits binary32 n h = omega arith
under_digits binary64 n h = omega arith

pub casts : (f : Format) (n : ℕ) → n ≤ hid f → T (in_float f (pos n))
unfolding in_float
casts f n h = le→leb n (2 ^ prec f) (under_digits f n h)

cast_is : (f : Format) (n : ℕ) → of_int f (pos n) ≡ round f false n 1
unfolding of_int
cast_is f n = refl

cast_value : (f : Format) (n : ℕ) → n ≤ hid f → HasValue (of_int f (pos n)) false n 1
cast_value f n h = subst (λ (y : Float). HasValue y false n 1) (sym (cast_is f n)) (round_whole f false n (under_digits f n h))

cast_fits : (f : Format) (n : ℕ) → T (fits f (of_int f (pos n)))
cast_fits f n = subst (λ (y : Float). T (fits f y)) (sym (cast_is f n)) (round-fits f false n 1)

pub cast_number : (f : Format) (n : ℕ) → n ≤ hid f → T (not (is_nan (of_int f (pos n))))
cast_number f n h = number _ false n 1 (cast_value f n h)

pub cast_bits : (f : Format) (n : ℕ) → n ≤ hid f → to_bits f (of_int f (pos n)) < top f
cast_bits f n h = plain_bits f _ n (cast_fits f n) (cast_value f n h)

signed : (f : Format) (b n : ℕ) → b < 2 * top f → n ≤ hid f → of_bits f (b / top f * top f + to_bits f (of_int f (pos n))) ≡ round f (leb (top f) b) n 1
signed f b n W h =
    let s = leb (top f) b in
    signed_bits f s (b / top f) (to_bits f (of_int f (pos n))) (cast_bits f n h) (sign_of f b W)
    ∙ ap (float_with_sign s) (of_bits-to_bits f _ (cast_fits f n) ∙ cast_is f n) ∙ signed_round f s n 1

-- a pattern with the sign of b put on, and that it has room in 64 bits
pub signed_bound : (f : Format) (b p : ℕ) → b < 2 * top f → p < top f → b / top f * top f + p < 2 * top f
signed_bound binary32 b p h l = omega arith
signed_bound binary64 b p h l = omega arith

pub word_bound : (f : Format) (p : ℕ) → p < 2 * top f → Fits w64 p
word_bound binary32 p h = omega arith
word_bound binary64 p h = omega arith

pub signed_number : (f : Format) (b n : ℕ) → b < 2 * top f → n ≤ hid f → T (not (nan_bits f (b / top f * top f + to_bits f (of_int f (pos n)))))
signed_number f b n W h =
    subst (λ (k : Bool). T (not k)) (sym (nan_bits_is f _ ∙ ap is_nan (signed f b n W h)))
    (number _ (leb (top f) b) n 1 (round_whole f (leb (top f) b) n (under_digits f n h)))

-- of a pattern below the format's whole numbers
module _ (f : Format) (b s : ℕ) (under : Under f b) (places : Places f (b % top f) s) where
  pub small : count f b s ≤ hid f
  small = count_small f b s (placed f b s under places)

  pub by_pattern : (x : Float) → T (fits f x) → b ≡ to_bits f x → b < 2 * top f → of_bits f (b / top f * top f + to_bits f (of_int f (pos (count f b s)))) ≡ float_round f x
  by_pattern x t e W =
      signed f b (count f b s) W small ∙ sym (ap (float_round f) (sym (ap (of_bits f) e ∙ of_bits-to_bits f x t)) ∙ rounds f b s (placed f b s under places))
