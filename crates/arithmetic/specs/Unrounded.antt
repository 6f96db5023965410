-- A multiply-add whose product is exact gives one and the same result, rounded once or twice; and where that sum is a value of the format, it is not rounded at all.
use Rattle.std.specs.Prelude.{◌≡◌, ℕ, suc, ◌+◌, ◌-◌, ◌*◌, ◌^◌, ◌<◌, ◌≤◌, Bool, true, false, cond, not, ◌&&◌, T, ℤ, pos, ◌+ℤ◌, ◌*ℤ◌, neg_ℤ, nat_lt, unsigned_abs, refl, Float}
use Rattle.std.proofs.Common.{sym, ap, ap₂, subst, ◌∙◌, inl, inr, mul-pos, mul_comm, mul_assoc, mul-lt-mul_of_pos_right, lt_of_mul-lt-mul_right, arith, ltb→lt, lt→ltb, nltb→le, pow_pos}
use Rattle.std.specs.Bool.{beq}
use Rattle.std.proofs.Math.Nat.{mul-sub}
use Rattle.std.specs.Float.Ieee.{prec, emax, low, up, down, unlike, round, sum, add, mul}
use Rattle.std.specs.Float.Ieee.Exact.{HasValue, round_exact}
use Rattle.std.specs.Float.Ieee.Fits.{down_pos}
use Rattle.std.specs.Float.Ieee.Scale.{round_same}
use Rattle.std.proofs.lemmas.Int.{ints}
use Rattle.std.specs.Float.{float_mul_add, float_is_finite, nan, inf, fin, Format}
use Rattle.exact.specs.Fraction.{Fraction, Same, dyadic}
use Rattle.rounding.specs.Values.{signed, value}
use Rattle.arithmetic.specs.Arithmetic.{OneOrTwo}
use Rattle.arithmetic.specs.Signs.{ratio, signed_mul, signed_size, over, under, less_le}

-- ---- a sum over another denominator
scale_less : (a b c d A B : ℕ) → 0 < c → 0 < d → a * d ≡ A * c → b * d ≡ B * c → a < b → A < B
scale_less a b c d A B C D e g l =
    let h : a * d < b * d = mul-lt-mul_of_pos_right l D in
    lt_of_mul-lt-mul_right c (subst (λ (x : ℕ). A * c < x) g (subst (λ (x : ℕ). x < b * d) e h))

same_bool : (a b : Bool) → (T a → T b) → (T b → T a) → a ≡ b
same_bool true true f g = refl
same_bool true false f g = absurd (f tt)
same_bool false true f g = absurd (g tt)
same_bool false false f g = refl

scale_ltb : (a b c d A B : ℕ) → 0 < c → 0 < d → a * d ≡ A * c → b * d ≡ B * c → nat_lt a b ≡ nat_lt A B
scale_ltb a b c d A B C D e g =
    same_bool (nat_lt a b) (nat_lt A B)
    (λ t. lt→ltb A B (scale_less a b c d A B C D e g (ltb→lt a b t)))
    (λ t. lt→ltb a b (scale_less A B d c a b D C (sym e) (sym g) (ltb→lt A B t)))

scale_minus : (a b c d A B : ℕ) → a * d ≡ A * c → b * d ≡ B * c → (a - b) * d ≡ (A - B) * c
scale_minus a b c d A B e g =
    mul_comm (a - b) d ∙ mul-sub d a b
    ∙ ap₂ (λ (x y : ℕ). x - y) (mul_comm d a ∙ e ∙ mul_comm A c) (mul_comm d b ∙ g ∙ mul_comm B c)
    ∙ sym (mul-sub c A B) ∙ mul_comm c (A - B)

scale_plus : (a b c d A B : ℕ) → a * d ≡ A * c → b * d ≡ B * c → (a + b) * d ≡ (A + B) * c
scale_plus a b c d A B e g = omega arith

pub sum_same : (f : Format) (s : Bool) (a : ℕ) (t : Bool) (b c A B d : ℕ) → 0 < c → 0 < d → a * d ≡ A * c → b * d ≡ B * c → sum f s a t b c ≡ sum f s A t B d
unfolding sum
sum_same f s a t b c A B d C D e g =
    ap₂ (cond (beq s t)) (round_same f s (a + b) c (A + B) d C D (scale_plus a b c d A B e g))
    (ap (λ (v : Bool). cond v (round f t (b - a) c) (round f (s && nat_lt b a) (a - b) c)) (scale_ltb a b c d A B C D e g)
    ∙ ap₂ (cond (nat_lt A B)) (round_same f t (b - a) c (B - A) d C D (scale_minus b a c d B A g e))
    (ap (λ (v : Bool). round f (s && v) (a - b) c) (scale_ltb b a c d B A C D g e)
    ∙ round_same f (s && nat_lt B A) (a - b) c (A - B) d C D (scale_minus a b c d A B e g)))

-- ---- one or two roundings
side : (a b c d U : ℕ) → a * U ≡ b * c → a * d * U ≡ b * (c * d)
side a b c d U e = let h : a * U * d ≡ b * c * d = ap (λ (x : ℕ). x * d) e in shuffle a d U ∙ h ∙ mul_assoc b c d
  where
    shuffle : (a b c : ℕ) → a * b * c ≡ a * c * b
    shuffle a b c = omega arith

side_left : (a b c d U : ℕ) → a * U ≡ b * d → a * c * U ≡ b * (c * d)
side_left a b c d U e = side a b d c U e ∙ ap (λ (x : ℕ). b * x) (mul_comm d c)

-- the product p as a value, and then the sum
added : (f : Format) (p : Float) (s : Bool) (P : ℕ) (w : Bool) (k : ℕ) (g : ℤ) (Z U : ℕ) → 0 < U → HasValue p s P U → k * up g * U ≡ Z * down g → add f p (fin w k g) ≡ sum f s P w Z U
unfolding add
added f nan s P w k g Z U o v e = absurd v
added f (inf t) s P w k g Z U o v e = absurd v
added f (fin t m d) s P w k g Z U o v e =
    ap (λ (b : Bool). sum f b (m * up d * down g) w (k * up g * down d) (down d * down g)) v.0
    ∙ sum_same f s (m * up d * down g) w (k * up g * down d) (down d * down g) P Z U (mul-pos (down_pos d) (down_pos g)) o
    (side (m * up d) P (down d) (down g) U v.1) (side_left (k * up g) Z (down d) (down g) U e)

-- where the product is the value P / U, r is P / U + Z / U rounded once
pub mul_add_sum : (f : Format) (s : Bool) (m : ℕ) (e : ℤ) (t : Bool) (n : ℕ) (d : ℤ) (w : Bool) (k : ℕ) (g : ℤ) (r : Float) (P Z U : ℕ) → 0 < U
    → m * up e * (n * up d) * U ≡ P * (down e * down d) → HasValue (mul f (fin s m e) (fin t n d)) (unlike s t) P U → k * up g * U ≡ Z * down g
    → OneOrTwo f (fin s m e) (fin t n d) (fin w k g) r → r ≡ sum f (unlike s t) P w Z U
unfolding float_mul_add
mul_add_sum f s m e t n d w k g r P Z U o p v z (inl q) =
    q ∙ sum_same f (unlike s t) (m * up e * (n * up d) * down g) w (k * up g * (down e * down d)) (down e * down d * down g) P Z U (mul-pos (mul-pos (down_pos e) (down_pos d)) (down_pos g)) o
    (side (m * up e * (n * up d)) P (down e * down d) (down g) U p) (side_left (k * up g) Z (down e * down d) (down g) U z)
mul_add_sum f s m e t n d w k g r P Z U o p v z (inr q) = q ∙ added f (mul f (fin s m e) (fin t n d)) (unlike s t) P w k g Z U o v z

-- ---- exact sums
-- r is the value v / 2 ^ low: v of the format's smallest values
pub record Exactly (f : Format) (r : Float) (v : ℤ) : Type 0 where
  pub sign : Bool
  pub size : ℕ
  pub value_is : HasValue r sign size (2 ^ low f)
  pub v_is : signed sign size ≡ v

-- q * 2 ^ i of the smallest values, q having no more digits than the format
pub record Holds (f : Format) (n : ℕ) : Type 0 where
  pub q : ℕ
  pub i : ℕ
  pub is : n ≡ q * 2 ^ i
  pub few : q < 2 ^ prec f
  pub under : q * 2 ^ i < 2 ^ (low f + suc (emax f))

pub round_holds : (f : Format) (s : Bool) (n : ℕ) → Holds f n → HasValue (round f s n (2 ^ low f)) s n (2 ^ low f)
round_holds f s n h = round_exact f s n (2 ^ low f) h.q h.i (pow_pos (low f)) h.few h.under (ap (λ (x : ℕ). x * 2 ^ low f) h.is)

exactly : (f : Format) (s : Bool) (n : ℕ) (v : ℤ) → Holds f n → signed s n ≡ v → Exactly f (round f s n (2 ^ low f)) v
exactly f s n v h e = record { sign = s; size = n; value_is = round_holds f s n h; v_is = e }

pub sum_exact : (f : Format) (s : Bool) (A : ℕ) (t : Bool) (B : ℕ) → Holds f (unsigned_abs (signed s A +ℤ signed t B)) → Exactly f (sum f s A t B (2 ^ low f)) (signed s A +ℤ signed t B)
unfolding sum
sum_exact f false A false B h = exactly f false (A + B) _ h refl
sum_exact f true A true B h = exactly f true (A + B) _ (subst (λ (n : ℕ). Holds f n) (ap unsigned_abs (both A B) ∙ signed_size true (A + B)) h) (sym (both A B))
  where
    both : (a b : ℕ) → neg_ℤ (pos a) +ℤ neg_ℤ (pos b) ≡ neg_ℤ (pos (a + b))
    both a b = omega (arith, ints)
sum_exact f false A true B h = go (nat_lt A B) (ltb→lt A B) (nltb→le A B)
  where
    go : (u : Bool) → (T u → A < B) → (T (not u) → B ≤ A) → Exactly f (cond u (round f true (B - A) (2 ^ low f)) (round f false (A - B) (2 ^ low f))) (pos A +ℤ neg_ℤ (pos B))
    go true l g = let e = under A B (less_le (l tt)) in exactly f true (B - A) _ (subst (λ (n : ℕ). Holds f n) (ap unsigned_abs e ∙ signed_size true (B - A)) h) (sym e)
    go false l g = let e = over A B (g tt) in exactly f false (A - B) _ (subst (λ (n : ℕ). Holds f n) (ap unsigned_abs e) h) (sym e)
sum_exact f true A false B h = go (nat_lt A B) (ltb→lt A B) (nltb→le A B)
  where
    turn : (a b : ℕ) → neg_ℤ (pos a) +ℤ pos b ≡ pos b +ℤ neg_ℤ (pos a)
    turn a b = omega (arith, ints)

    zero_sign : (v : Bool) (n : ℕ) → (T (not v) → n ≡ 0) → signed (true && v) n ≡ neg_ℤ (pos n)
    zero_sign true n z = refl
    zero_sign false n z = ap pos (z tt) ∙ ap (λ (k : ℕ). neg_ℤ (pos k)) (sym (z tt))

    go : (u : Bool) → (T u → A < B) → (T (not u) → B ≤ A) → Exactly f (cond u (round f false (B - A) (2 ^ low f)) (round f (true && nat_lt B A) (A - B) (2 ^ low f))) (neg_ℤ (pos A) +ℤ pos B)
    go true l g = let e = turn A B ∙ over B A (less_le (l tt)) in exactly f false (B - A) _ (subst (λ (n : ℕ). Holds f n) (ap unsigned_abs e) h) (sym e)
    go false l g =
        let e = turn A B ∙ under B A (g tt) in
        exactly f (true && nat_lt B A) (A - B) _ (subst (λ (n : ℕ). Holds f n) (ap unsigned_abs e ∙ signed_size true (A - B)) h)
        (zero_sign (nat_lt B A) (A - B) (λ t. none A B (g tt) (nltb→le B A t)) ∙ sym e)
      where
        none : (a b : ℕ) → b ≤ a → a ≤ b → a - b ≡ 0
        none a b h k = omega arith

-- ---- the number of a float
pub value_over : (r : Float) (s : Bool) (a c : ℕ) (C : 0 < c) → HasValue r s a c → Same (value r) (ratio s a c C)
value_over nan s a c C v = absurd v
value_over (inf t) s a c C v = absurd v
value_over (fin t m e) s a c C v =
    signed_mul t (m * up e) c ∙ ap (signed t) v.1 ∙ ap (λ (u : Bool). signed u (a * down e)) v.0 ∙ sym (signed_mul s a (down e))

pub value_exactly : (f : Format) (r : Float) (v : ℤ) → Exactly f r v → Same (value r) (dyadic v (low f))
value_exactly f r v x = value_over r x.sign x.size (2 ^ low f) (pow_pos (low f)) x.value_is ∙ ap (λ (z : ℤ). z *ℤ pos (den (value r))) x.v_is
  where
    den : Fraction → ℕ
    den q = q.den

pub value_finite : (r : Float) (s : Bool) (a c : ℕ) → HasValue r s a c → T (float_is_finite r)
unfolding float_is_finite
value_finite nan s a c v = absurd v
value_finite (inf t) s a c v = absurd v
value_finite (fin t m e) s a c v = tt
