-- A float by its value and by its pattern, in either format.
use Rattle.std.proofs.Common.{◌≡◌, ℕ, zero, suc, ◌+◌, ◌-◌, ◌*◌, ◌/◌, ◌%◌, ◌^◌, ◌<◌, ◌≤◌, Bool, true, false, cond, not, T, eqb, ltb, leb, sym, refl, ap, ◌∙◌, subst, inl, inr, lt_of_lt_of_le, eq-zero-or-pos, mul-div_cancel, arith, pow_mono, shl_lt, lt-ltb, ne_eqb, le-leb}
use lib.Arith.{le→nltb}
use borrow.Author.Tests.{lt-leb}
use lib.Ieee.{Float, Format, nan, inf, fin, binary32, binary64, prec, low, emax, up, down, size, odd, units, fits, of_bits, of_fields, to_bits, nan_bits, top, hid, ones}
use lib.Ieee.Fits.{down_pos, odd-fits}
use lib.Ieee.Bits.{nan_bits_above, of_bits-fits, of_bits-to_bits}
use lib.Ieee.Exact.{HasValue, odd_sign, units_val}
use Rattle.std.specs.Float.{float_with_sign}

bits_of_value : (f : Format) (x : Float) (s : Bool) (a : ℕ) → HasValue x s a (2 ^ low f)
    → to_bits f x ≡ cond s (top f) 0 + (size a - prec f) * hid f + a / 2 ^ (size a - prec f)
unfolding to_bits
bits_of_value f nan s a v = absurd v
bits_of_value f (inf t) s a v = absurd v
bits_of_value f (fin t m e) s a v =
    let n : m * up e * 2 ^ low f / down e ≡ a = ap (λ (k : ℕ). k / down e) v.1 ∙ mul-div_cancel a (down_pos e) in
    λ i. cond (v.0 i) (top f) 0 + (size (n i) - prec f) * hid f + n i / 2 ^ (size (n i) - prec f)

pub same_value : (f : Format) (x y : Float) (s : Bool) (a : ℕ) → T (fits f x) → T (fits f y) → HasValue x s a (2 ^ low f) → HasValue y s a (2 ^ low f) → x ≡ y
same_value f x y s a p q v w = sym (of_bits-to_bits f x p) ∙ ap (of_bits f) (bits_of_value f x s a v ∙ sym (bits_of_value f y s a w)) ∙ of_bits-to_bits f y q

-- a pattern that is not above the infinity's is no NaN's, whatever its sign
under_sign : (f : Format) (t p : ℕ) → p ≤ ones f * hid f → (t * top f + p) % top f ≤ ones f * hid f
under_sign binary32 t p h = omega arith
under_sign binary64 t p h = omega arith

pub below_the_nans : (f : Format) (t p : ℕ) → p ≤ ones f * hid f → T (not (nan_bits f (t * top f + p)))
below_the_nans f t p h =
    subst (λ (b : Bool). T (not b)) (sym (nan_bits_above f (t * top f + p))) (le→nltb (ones f * hid f) ((t * top f + p) % top f) (under_sign f t p h))

-- ---- signs

signed_odd : (s : Bool) (d q k l : ℕ) → float_with_sign s (odd d false q k l) ≡ odd d s q k l
unfolding float_with_sign odd
signed_odd s d zero k l = refl
signed_odd s d (suc q) k l = refl

pub signed_units : (f : Format) (s : Bool) (q k : ℕ) → float_with_sign s (units f false q k) ≡ units f s q k
unfolding units float_with_sign
signed_units f s q k = go (ltb (q * 2 ^ k) (2 ^ (low f + suc (emax f))))
  where
    go : (b : Bool) → float_with_sign s (cond b (odd (suc (prec f)) false q k (low f)) (inf false)) ≡ cond b (odd (suc (prec f)) s q k (low f)) (inf s)
    go true = signed_odd s (suc (prec f)) q k (low f)
    go false = refl

signed_fields : (f : Format) (s : Bool) (x t : ℕ) → float_with_sign s (of_fields f false x t) ≡ of_fields f s x t
unfolding of_fields float_with_sign
signed_fields f s zero t = signed_odd s (prec f) t 0 (low f)
signed_fields f s (suc x) t = go (eqb (suc x) (ones f)) (eqb t 0)
  where
    go : (a b : Bool) → float_with_sign s (cond a (cond b (inf false) nan) (odd (prec f) false (hid f + t) x (low f))) ≡ cond a (cond b (inf s) nan) (odd (prec f) s (hid f + t) x (low f))
    go true true = refl
    go true false = refl
    go false b = signed_odd s (prec f) (hid f + t) x (low f)

-- the fields of a pattern with the sign's bit set
top_off : (f : Format) (p : ℕ) → p < top f → ((top f + p) % top f / hid f ≡ p % top f / hid f) × ((top f + p) % hid f ≡ p % hid f) × (top f ≤ top f + p)
top_off binary32 p h = (omega arith, omega arith, omega arith)
top_off binary64 p h = (omega arith, omega arith, omega arith)

sign_put : (T p t : ℕ) → t ≡ 1 → t * T + p ≡ T + p
sign_put T p t e = ap (λ (k : ℕ). k * T + p) e ∙ omega arith

sign_off : (T p t : ℕ) → t ≡ 0 → t * T + p ≡ p
sign_off T p t e = ap (λ (k : ℕ). k * T + p) e ∙ omega arith

plain_fields : (f : Format) (p : ℕ) → p < top f → of_bits f p ≡ of_fields f false (p % top f / hid f) (p % hid f)
unfolding of_bits
plain_fields f p h = ap (λ (k : Bool). of_fields f k (p % top f / hid f) (p % hid f)) (lt-leb (top f) p h)

-- the sign's bit set, or not
pub signed_bits : (f : Format) (s : Bool) (t p : ℕ) → p < top f → t ≡ cond s 1 0 → of_bits f (t * top f + p) ≡ float_with_sign s (of_bits f p)
unfolding of_bits
signed_bits f true t p h e =
    let z = top_off f p h in
    ap (of_bits f) (sign_put (top f) p t e)
    ∙ (λ i. of_fields f (le-leb (top f) (top f + p) z.2 i) (z.0 i) (z.1 i))
    ∙ sym (signed_fields f true (p % top f / hid f) (p % hid f))
    ∙ ap (float_with_sign true) (sym (plain_fields f p h))
signed_bits f false t p h e =
    ap (of_bits f) (sign_off (top f) p t e)
    ∙ plain_fields f p h
    ∙ sym (signed_fields f false (p % top f / hid f) (p % hid f))
    ∙ ap (float_with_sign false) (sym (plain_fields f p h))

top_bit : (f : Format) (b : ℕ) → b < 2 * top f → top f ≤ b → b / top f ≡ 1
top_bit binary32 b h l = omega arith
top_bit binary64 b h l = omega arith

no_top_bit : (f : Format) (b : ℕ) → b < top f → b / top f ≡ 0
no_top_bit binary32 b h = omega arith
no_top_bit binary64 b h = omega arith

pub sign_of : (f : Format) (b : ℕ) → b < 2 * top f → b / top f ≡ cond (leb (top f) b) 1 0
sign_of f b h =
    elim (eq-zero-or-pos (top f - b)) [
      | inl z ↦ let l : top f ≤ b = omega arith in top_bit f b h l ∙ ap (λ (k : Bool). cond k 1 0) (sym (le-leb (top f) b l))
      | inr p ↦ let l : b < top f = omega arith in no_top_bit f b l ∙ ap (λ (k : Bool). cond k 1 0) (sym (lt-leb (top f) b l))
    ]

-- ---- what a pattern says, where the exponent's field is not 0

pub value : (f : Format) (b j : ℕ) → b % top f / hid f ≡ suc j → suc j < ones f → HasValue (of_bits f b) (leb (top f) b) ((hid f + b % hid f) * 2 ^ j) (2 ^ low f)
unfolding of_bits of_fields
value f b j e h =
    let s = leb (top f) b in
    let t = b % hid f in
    subst (λ (k : ℕ). HasValue (of_fields f s k t) s ((hid f + t) * 2 ^ j) (2 ^ low f)) (sym e)
    (subst (λ (k : Bool). HasValue (cond k (cond (eqb t 0) (inf s) nan) (odd (prec f) s (hid f + t) j (low f))) s ((hid f + t) * 2 ^ j) (2 ^ low f)) (sym (ne_eqb (suc j) (ones f) (apart (suc j) (ones f) h)))
    (odd_sign (prec f) s (hid f + t) j (low f)))
  where
    apart : (a c : ℕ) → a < c → a ≡ c → ⊥
    apart a c h e = omega arith

-- ---- the pattern of m * 2 ^ k units

power_above : (f : Format) (m : ℕ) → m ≤ 2 ^ prec f → m < 2 ^ suc (prec f)
power_above binary32 m h = omega arith
power_above binary64 m h = omega arith

units_fits : (f : Format) (m k : ℕ) → m ≤ 2 ^ prec f → m * 2 ^ k < 2 ^ (low f + suc (emax f)) → T (fits f (units f false m k))
unfolding units
units_fits f m k h l =
    subst (λ (b : Bool). T (fits f (cond b (odd (suc (prec f)) false m k (low f)) (inf false)))) (sym (lt-ltb (m * 2 ^ k) (2 ^ (low f + suc (emax f))) l))
    (odd-fits f (suc (prec f)) false m k (power_above f m h) h l)

finite : (f : Format) (b j m k : ℕ) → b % top f / hid f ≡ suc j → suc j < ones f → b < top f → m ≤ 2 ^ prec f → (hid f + b % hid f) * 2 ^ j ≡ m * 2 ^ k → m * 2 ^ k < 2 ^ (low f + suc (emax f))
    → of_bits f b ≡ units f false m k
finite f b j m k p J B M e l =
    same_value f (of_bits f b) (units f false m k) false (m * 2 ^ k) (of_bits-fits f b) (units_fits f m k M l)
    (subst (λ (a : ℕ). HasValue (of_bits f b) false a (2 ^ low f)) e
    (subst (λ (s : Bool). HasValue (of_bits f b) s ((hid f + b % hid f) * 2 ^ j) (2 ^ low f)) (lt-leb (top f) b B) (value f b j p J)))
    (units_val f false m k l)

infinite : (f : Format) → of_bits f ((ones f - 2) * hid f + 2 ^ prec f) ≡ units f false (2 ^ prec f) (ones f - 2)
unfolding of_bits units
infinite binary32 = refl
infinite binary64 = refl

-- the fields of k * hid + m, m having all its digits: at the last m the field goes up by one more
abbrev Fields : Format → ℕ → ℕ → ℕ → Type 0
Fields f b x t = (b % top f / hid f ≡ x) × (b % hid f ≡ t) × (b < top f)

carried : (f : Format) (k : ℕ) → suc (suc k) < ones f → Fields f (k * hid f + 2 ^ prec f) (suc (suc k)) 0
carried binary32 k h = (omega arith, omega arith, omega arith)
carried binary64 k h = (omega arith, omega arith, omega arith)

plain : (f : Format) (m k : ℕ) → hid f ≤ m → m < 2 ^ prec f → suc (suc k) ≤ ones f → Fields f (k * hid f + m) (suc k) (m - hid f)
plain binary32 m k l h r = (omega arith, omega arith, omega arith)
plain binary64 m k l h r = (omega arith, omega arith, omega arith)

room : (f : Format) (k : ℕ) → suc (suc k) ≤ ones f → prec f + k ≤ low f + suc (emax f)
room binary32 k h = omega arith
room binary64 k h = omega arith

more_room : (f : Format) (k : ℕ) → suc (suc k) < ones f → suc (prec f) + k ≤ low f + suc (emax f)
more_room binary32 k h = omega arith
more_room binary64 k h = omega arith

doubled : (f : Format) (k : ℕ) → (hid f + 0) * 2 ^ suc k ≡ 2 ^ prec f * 2 ^ k
doubled binary32 k = omega arith
doubled binary64 k = omega arith

-- adding m carries its top bit, and a rounding past it, into the exponent
pub packed : (f : Format) (m k : ℕ) → m ≤ 2 ^ prec f → hid f ≤ m → suc (suc k) ≤ ones f → of_bits f (k * hid f + m) ≡ units f false m k
packed f m k M N K =
    elim (eq-zero-or-pos (2 ^ prec f - m)) [
      | inl z ↦ let e : m ≡ 2 ^ prec f = omega arith in
          subst (λ (w : ℕ). of_bits f (k * hid f + w) ≡ units f false w k) (sym e)
          (elim (eq-zero-or-pos (ones f - suc (suc k))) [
            | inl y ↦ let g : k ≡ ones f - 2 = omega arith in subst (λ (w : ℕ). of_bits f (w * hid f + 2 ^ prec f) ≡ units f false (2 ^ prec f) w) (sym g) (infinite f)
            | inr p ↦
                let r : suc (suc k) < ones f = omega arith in
                let x = carried f k r in
                finite f (k * hid f + 2 ^ prec f) (suc k) (2 ^ prec f) k x.0 r x.2 (omega arith)
                (ap (λ (w : ℕ). (hid f + w) * 2 ^ suc k) x.1 ∙ doubled f k)
                (lt_of_lt_of_le (shl_lt {a = 2 ^ prec f} (suc (prec f)) k (power_above f (2 ^ prec f) (omega arith))) (pow_mono {i = suc (prec f) + k} {j = low f + suc (emax f)} (more_room f k r)))
          ])
      | inr p ↦
          let l : m < 2 ^ prec f = omega arith in
          let x = plain f m k N l K in
          let y : hid f + (m - hid f) ≡ m = omega arith in
          finite f (k * hid f + m) k m k x.0 K x.2 M (ap (λ (w : ℕ). (hid f + w) * 2 ^ k) x.1 ∙ ap (λ (w : ℕ). w * 2 ^ k) y)
          (lt_of_lt_of_le (shl_lt {a = m} (prec f) k l) (pow_mono {i = prec f + k} {j = low f + suc (emax f)} (room f k K)))
    ]
