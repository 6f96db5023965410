-- Multiples of 2 ^ -k, and what is 0 or at least 2 ^ -k in size, through products, sums and roundings.
use Rattle.std.proofs.Common.{◌≡◌, ℕ, suc, ◌+◌, ◌-◌, ◌*◌, ◌^◌, ◌<◌, ◌≤◌, Bool, true, false, cond, T, ltb, ◌⊎◌, [], ◌∷◌, ℤ, pos, negsuc, ◌+ℤ◌, ◌*ℤ◌, sym, refl, ap, ◌∙◌, subst, ap₂, inl, inr, le_trans, le_of_eq, mul-le-mul_right, zero-lt-suc, mul_assoc, mul_comm, eq-zero-or-pos, mul-le-mul, mul-le-mul_left, mul-pos, le_of_mul-le-mul_right, mul_left_comm, arith, ltb→lt, pow_pos, pow_mono, pow-add, le_of_lt}
use Rattle.std.specs.Float.{Float, inf, fin, Format}
use Rattle.std.specs.Float.Ieee.{prec, low, up, down, unlike, odd, units, round, mul}
use Rattle.std.specs.Float.Ieee.Fits.{down_pos, round_is}
use Rattle.std.specs.Float.Ieee.Order.{drop, kept}
use Rattle.std.specs.Float.Ieee.Scale.{grid, overflow, finite}
use Rattle.std.proofs.Math.Nat.{eq_of_mul-eq-mul_right}
use Rattle.std.proofs.lemmas.Bool.{cases_lt}
use Rattle.exact.proofs.Ring.{con, ◌⊕◌, ◌⊗◌, ⊝, norm}
use Rattle.exact.proofs.Integer.{zring, x₀, x₁, x₂}
use Rattle.exact.proofs.Rational.{ℚ, is, ◌+q◌, ◌*q◌, -q◌, ofℤ, qring}
use Rattle.exact.proofs.Order.{◌≤q◌, q_trans, q_neg}
use Rattle.exact.proofs.Bound.{nn_le}
use Rattle.rounding.specs.Values.{signed}
use Rattle.rounding.specs.Ranges.{Permitted, once, twice}
use Rattle.exact.proofs.Compare.{dy, fr, fr_den}
use Rattle.rounding.proofs.Fractions.{frac, frac_mul, frac_same, frac_le_out, frac_neg, nn_frac, not_above, size_out}
use Rattle.rounding.proofs.Value.{val, value_is, Rounds, mul_rounds, add_rounds, fused_rounds}
use Rattle.rounding.proofs.HalfUnit.{round_value}
use Rattle.rounding.proofs.Best.{dist, closest_best}
use Rattle.rounding.proofs.Narrow.{under}
use Rattle.rounding.proofs.PowersOfTwo.{split_pow, split_times}

-- ---- multiples of 2 ^ -k
pub record Mult (k : ℕ) (q : ℚ) : Type 0 where
  pub num : ℤ
  pub how : q ≡ fr num (2 ^ k) (pow_pos k)

fr_mul : (a b : ℤ) (c d : ℕ) (C : 0 < c) (D : 0 < d) → fr a c C *q fr b d D ≡ fr (a *ℤ b) (c * d) (mul-pos C D)
unfolding ◌*q◌
fr_mul a b c d C D = refl

fr_add : (a b : ℤ) (c : ℕ) (C : 0 < c) → fr a c C +q fr b c C ≡ fr (a +ℤ b) c C
unfolding ◌+q◌ norm
fr_add a b c C = is (zring ((x₀ ⊗ x₂ ⊕ x₁ ⊗ x₂) ⊗ x₂) ((x₀ ⊕ x₁) ⊗ (x₂ ⊗ x₂)) refl (a ∷ b ∷ pos c ∷ []))

fr_scale : (a : ℤ) (c d : ℕ) (C : 0 < c) (D : 0 < d) → fr a c C ≡ fr (a *ℤ pos d) (c * d) (mul-pos C D)
unfolding norm
fr_scale a c d C D = is (zring (x₀ ⊗ (x₁ ⊗ x₂)) ((x₀ ⊗ x₂) ⊗ x₁) refl (a ∷ pos c ∷ pos d ∷ []))

pub mult_more : {k : ℕ} (j : ℕ) {q : ℚ} → k ≤ j → Mult k q → Mult j q
mult_more {k} j {q} h m = record {
  num = m.num *ℤ pos (2 ^ (j - k));
  how = m.how ∙ fr_scale m.num (2 ^ k) (2 ^ (j - k)) (pow_pos k) (pow_pos (j - k)) ∙ fr_den _ _ _ _ (mul-pos (pow_pos k) (pow_pos (j - k))) (pow_pos j) refl (sym (pow-add 2 k (j - k)) ∙ ap (λ (z : ℕ). 2 ^ z) {x = k + (j - k)} {y = j} (omega arith));
}

pub mult_mul : {j k : ℕ} {p q : ℚ} → Mult j p → Mult k q → Mult (j + k) (p *q q)
mult_mul {j} {k} {p} {q} m n = record {
  num = m.num *ℤ n.num;
  how = ap₂ (λ (x y : ℚ). x *q y) m.how n.how ∙ fr_mul m.num n.num (2 ^ j) (2 ^ k) (pow_pos j) (pow_pos k) ∙ fr_den _ _ _ _ (mul-pos (pow_pos j) (pow_pos k)) (pow_pos (j + k)) refl (sym (pow-add 2 j k));
}

pub mult_add : {k : ℕ} {p q : ℚ} → Mult k p → Mult k q → Mult k (p +q q)
mult_add {k} {p} {q} m n = record { num = m.num +ℤ n.num; how = ap₂ (λ (x y : ℚ). x +q y) m.how n.how ∙ fr_add m.num n.num (2 ^ k) (pow_pos k) }

pub mult_whole : (z : ℤ) → Mult 0 (ofℤ z)
unfolding ofℤ
mult_whole z = record { num = z; how = is refl }

-- the size of a multiple as a fraction with a sign
pub record Sized (k : ℕ) (q : ℚ) : Type 0 where
  pub s : Bool
  pub n : ℕ
  pub how : q ≡ frac s n (2 ^ k) (pow_pos k)

pub sized : {k : ℕ} {q : ℚ} → Mult k q → Sized k q
sized {k} {q} m = go m.num m.how
  where
    go : (z : ℤ) → q ≡ fr z (2 ^ k) (pow_pos k) → Sized k q
    go (pos n) e = record { s = false; n = n; how = e }
    go (negsuc n) e = record { s = true; n = suc n; how = e }

mult_sgn : (k : ℕ) (s : Bool) (n : ℕ) (q : ℚ) → q ≡ frac s n (2 ^ k) (pow_pos k) → Mult k q
mult_sgn k s n q e = record { num = signed s n; how = e }

-- ---- at least 2 ^ -k away from 0, or 0
pub record Away (k : ℕ) (q : ℚ) : Type 0 where
  pub s : Bool
  pub a : ℕ
  pub c : ℕ
  pub ok : 0 < c
  pub how : q ≡ frac s a c ok
  pub far : (a ≡ 0) ⊎ (c ≤ a * 2 ^ k)

-- it does not turn on how the number is written
pub away_at : {k : ℕ} {q : ℚ} → Away k q → (t : Bool) (b d : ℕ) (D : 0 < d) → q ≡ frac t b d D → (b ≡ 0) ⊎ (d ≤ b * 2 ^ k)
away_at {k} {q} w t b d D e =
    let x : w.a * d ≡ b * w.c = size_out w.s t w.a w.c b d w.ok D (sym w.how ∙ e) in
    elim w.far [
      | inl z ↦ inl (none w.a b w.c d w.ok z x)
      | inr h ↦ inr (some w.a b w.c d (2 ^ k) w.ok h x)
    ]
  where
    none : (a b c d : ℕ) → 0 < c → a ≡ 0 → a * d ≡ b * c → b ≡ 0
    none a b c d C z x = elim (eq-zero-or-pos b) [
      | inl e ↦ e
      | inr p ↦ let m : 0 < b * c = mul-pos p C in let y : a * d ≡ 0 * d = ap (λ (u : ℕ). u * d) z in absurd (omega arith)
    ]

    some : (a b c d K : ℕ) → 0 < c → c ≤ a * K → a * d ≡ b * c → d ≤ b * K
    some a b c d K C h x =
        let l : c * d ≤ a * K * d = mul-le-mul_right d h in
        let y : a * d * K ≡ b * c * K = ap (λ (u : ℕ). u * K) x in
        let m : d * c ≤ b * K * c = omega arith in
        le_of_mul-le-mul_right m C

pub away_more : {k : ℕ} (j : ℕ) {q : ℚ} → k ≤ j → Away k q → Away j q
away_more {k} j {q} h w = record {
  s = w.s;
  a = w.a;
  c = w.c;
  ok = w.ok;
  how = w.how;
  far = elim w.far [
    | inl z ↦ inl z
    | inr l ↦ inr (le_trans l (mul-le-mul_left w.a (pow_mono h)))
  ];
}

pub mult_away : {k : ℕ} {q : ℚ} → Mult k q → Away k q
mult_away {k} {q} m = let w = sized m in record {
  s = w.s;
  a = w.n;
  c = 2 ^ k;
  ok = pow_pos k;
  how = w.how;
  far = elim (eq-zero-or-pos w.n) [
    | inl z ↦ inl z
    | inr p ↦ inr (one w.n (2 ^ k) p)
  ];
}
  where
    one : (n K : ℕ) → 0 < n → K ≤ n * K
    one n K p = let h : 1 * K ≤ n * K = mul-le-mul_right K p in omega arith

pub away_mul : {j k : ℕ} {p q : ℚ} → Away j p → Away k q → Away (j + k) (p *q q)
away_mul {j} {k} {p} {q} v w = record {
  s = unlike v.s w.s;
  a = v.a * w.a;
  c = v.c * w.c;
  ok = mul-pos v.ok w.ok;
  how = ap₂ (λ (x y : ℚ). x *q y) v.how w.how ∙ frac_mul v.s w.s v.a w.a v.c w.c v.ok w.ok;
  far = elim v.far [
    | inl z ↦ inl (ap (λ (u : ℕ). u * w.a) z ∙ omega arith)
    | inr h ↦ elim w.far [
      | inl z ↦ inl (ap (λ (u : ℕ). v.a * u) z ∙ omega arith)
      | inr l ↦ inr (le_trans (mul-le-mul h l) (le_of_eq ((omega arith) ∙ ap (λ (u : ℕ). v.a * w.a * u) (sym (pow-add 2 j k)))))
    ]
  ];
}

-- ---- a rounding: where the result is finite, the units it is counted in
units_under : (f : Format) (s : Bool) (q k : ℕ) → T (finite (units f s q k)) → q * 2 ^ k < overflow f
unfolding units
units_under f s q k = go (ltb (q * 2 ^ k) (overflow f)) (ltb→lt (q * 2 ^ k) (overflow f))
  where
    go : (b : Bool) → (T b → q * 2 ^ k < overflow f) → T (finite (cond b (odd (suc (prec f)) s q k (low f)) (inf s))) → q * 2 ^ k < overflow f
    go true h t = h tt
    go false h t = absurd t

pub finite_under : (f : Format) (s : Bool) (a c : ℕ) → T (finite (round f s a c)) → grid f a c < overflow f
finite_under f s a c t = units_under f s (kept (prec f) (a * 2 ^ low f) c) (drop (prec f) (a * 2 ^ low f) c) (subst (λ (z : Float). T (finite z)) (round_is f s a c) t)

pub rounds_value : (f : Format) (x : Float) (q : ℚ) (r : Rounds f x q) → T (finite x) → val x ≡ frac r.s (grid f r.a r.c) (2 ^ low f) (pow_pos (low f))
rounds_value f x q r t = ap val r.how ∙ value_is (round f r.s r.a r.c) r.s (grid f r.a r.c) (2 ^ low f) (pow_pos (low f))
    (round_value f r.s r.a r.c (finite_under f r.s r.a r.c (subst (λ (y : Float). T (finite y)) r.how t)))

-- g is a multiple of 2 ^ t; a multiple N * 2 ^ t of the smallest value stays one
pub record PowerTimes (t g : ℕ) : Type 0 where
  pub m : ℕ
  pub how : g ≡ m * 2 ^ t

pub grid_times : (f : Format) (a c N t : ℕ) → 0 < c → a * 2 ^ low f ≡ N * 2 ^ t * c → PowerTimes t (grid f a c)
grid_times f a c N t C e = elim (cases_lt t d) [
  | inl l ↦ record { m = kept (prec f) n c * 2 ^ (d - t); how = split_times (kept (prec f) n c) t d (le_of_lt l) }
  | inr g ↦ record { m = N; how = still g }
]
  where
    n : ℕ
    n = a * 2 ^ low f

    d : ℕ
    d = drop (prec f) (a * 2 ^ low f) c

    zero_dist : (x y z : ℕ) → dist x y ≤ dist z y → z ≡ y → x ≡ y
    zero_dist x y z h k = omega arith

    still : d ≤ t → grid f a c ≡ N * 2 ^ t
    still g =
        let r = N * 2 ^ (t - d) in
        let v : r * (c * 2 ^ d) ≡ N * (2 ^ (t - d) * 2 ^ d) * c = simp (mul_assoc, mul_comm, mul_left_comm) in
        let w : r * (c * 2 ^ d) ≡ a * 2 ^ low f = v ∙ ap (λ (u : ℕ). N * u * c) (sym (split_pow d t g)) ∙ sym e in
        let b : kept (prec f) (a * 2 ^ low f) c * (c * 2 ^ d) ≡ a * 2 ^ low f = zero_dist _ _ (r * (c * 2 ^ d)) (closest_best (a * 2 ^ low f) (c * 2 ^ d) r (mul-pos C (pow_pos d))) w in
        let s : grid f a c * c ≡ kept (prec f) (a * 2 ^ low f) c * (c * 2 ^ d) = simp (mul_assoc, mul_comm, mul_left_comm) in
        eq_of_mul-eq-mul_right c C (grid f a c) (N * 2 ^ t) (s ∙ b ∙ e)

pub grid_zero : (f : Format) (a c : ℕ) → 0 < c → a ≡ 0 → grid f a c ≡ 0
grid_zero f a c C e =
    let d = drop (prec f) (a * 2 ^ low f) c in
    let n : a * 2 ^ low f ≡ 0 = ap (λ (u : ℕ). u * 2 ^ low f) e ∙ omega arith in
    let b = closest_best (a * 2 ^ low f) (c * 2 ^ d) 0 (mul-pos C (pow_pos d)) in
    let z : kept (prec f) (a * 2 ^ low f) c * (c * 2 ^ d) ≡ 0 = flat _ (a * 2 ^ low f) (c * 2 ^ d) b n in
    let s : grid f a c * c ≡ kept (prec f) (a * 2 ^ low f) c * (c * 2 ^ d) = simp (mul_assoc, mul_comm, mul_left_comm) in
    eq_of_mul-eq-mul_right c C (grid f a c) 0 (s ∙ z ∙ sym (omega arith))
  where
    flat : (x y u : ℕ) → dist x y ≤ dist (0 * u) y → y ≡ 0 → x ≡ 0
    flat x y u h k = omega arith

lower : (s : Bool) (g m k l : ℕ) → k ≤ l → g ≡ m * 2 ^ (l - k) → frac s g (2 ^ l) (pow_pos l) ≡ frac s m (2 ^ k) (pow_pos k)
lower s g m k l h e = frac_same s g (2 ^ l) m (2 ^ k) (pow_pos l) (pow_pos k) (ap (λ (u : ℕ). u * 2 ^ k) e ∙ mul_assoc m (2 ^ (l - k)) (2 ^ k) ∙ ap (λ (u : ℕ). m * u) (sym (split_pow k l h)))

-- a rounded multiple of 2 ^ -k is a multiple of 2 ^ -k, in the whole range of the format
pub round_mult : (f : Format) (x : Float) (q : ℚ) (k : ℕ) → k ≤ low f → Rounds f x q → T (finite x) → Mult k q → Mult k (val x)
round_mult f x q k h r t m =
    let w = sized m in
    let z : r.a * 2 ^ k ≡ w.n * r.c = size_out r.s w.s r.a r.c w.n (2 ^ k) r.ok (pow_pos k) (sym r.what ∙ w.how) in
    let n : r.a * 2 ^ low f ≡ w.n * 2 ^ (low f - k) * r.c = ap (λ (u : ℕ). r.a * u) (split_pow k (low f) h) ∙ turn r.a (2 ^ (low f - k)) (2 ^ k) w.n r.c z in
    let g = grid_times f r.a r.c w.n (low f - k) r.ok n in
    mult_sgn k r.s g.m (val x) (rounds_value f x q r t ∙ lower r.s (grid f r.a r.c) g.m k (low f) h g.how)
  where
    turn : (a t k n c : ℕ) → a * k ≡ n * c → a * (t * k) ≡ n * t * c
    turn a t k n c e = let x : a * k * t ≡ n * c * t = ap (λ (u : ℕ). u * t) e in omega arith

-- what is 0 or at least 2 ^ -k in size stays so when it is rounded
pub round_away : (f : Format) (x : Float) (q : ℚ) (k : ℕ) → k ≤ low f → Rounds f x q → T (finite x) → Away k q → Away k (val x)
round_away f x q k h r t w = record {
  s = r.s;
  a = grid f r.a r.c;
  c = 2 ^ low f;
  ok = pow_pos (low f);
  how = rounds_value f x q r t;
  far = elim (away_at w r.s r.a r.c r.ok r.what) [
    | inl z ↦ inl (none z)
    | inr l ↦ inr (le_trans (le_of_eq o) (mul-le-mul_right (2 ^ k) (reach l)))
  ];
}
  where
    o : 2 ^ low f ≡ 2 ^ (low f - k) * 2 ^ k
    o = split_pow k (low f) h

    none : r.a ≡ 0 → grid f r.a r.c ≡ 0
    none z = grid_zero f r.a r.c r.ok z

    reach : r.c ≤ r.a * 2 ^ k → 2 ^ (low f - k) ≤ grid f r.a r.c
    reach l = elim (cases_lt (grid f r.a r.c) (2 ^ (low f - k))) [
      | inl s ↦ absurd (clash r.a r.c (grid f r.a r.c) (2 ^ (low f - k)) (2 ^ k) r.ok l s (subst (λ (u : ℕ). r.a * u * 2 ≤ grid f r.a r.c * r.c + 2 ^ (low f - k) * r.c) o (under1 s)))
      | inr g ↦ g
    ]
      where
        under1 : grid f r.a r.c < 2 ^ (low f - k) → r.a * 2 ^ low f * 2 ≤ grid f r.a r.c * r.c + 2 ^ (low f - k) * r.c
        under1 s = subst (λ (u : ℕ). r.a * 2 ^ low f * 2 ≤ grid f r.a r.c * r.c + u * r.c) (omega arith) (under f r.a r.c 1 (low f - k) r.ok (pow_pos (prec f)) (subst (λ (u : ℕ). grid f r.a r.c < u) (sym (omega arith)) s))

        clash : (a c g t k : ℕ) → 0 < c → c ≤ a * k → g < t → a * (t * k) * 2 ≤ g * c + t * c → ⊥
        clash a c g t k C l s u =
            let x : c * t ≤ a * k * t = mul-le-mul_right t l in
            let y : suc g * c ≤ t * c = mul-le-mul_right c s in
            omega arith

-- ---- two more ways to be away from 0: to be at least 2 ^ -k, and to be at most -2 ^ -k
pub away_above : (k : ℕ) (x : Float) → T (finite x) → dy 1 k ≤q val x → Away k (val x)
unfolding val ofℤ
away_above k (fin false m e) t h = record { s = false; a = m * up e; c = down e; ok = down_pos e; how = refl; far = inr (omega (arith, frac_le_out 1 (2 ^ k) (m * up e) (down e) (pow_pos k) (down_pos e) h)) }
away_above k (fin true m e) t h = absurd (omega (arith, frac_le_out 1 (2 ^ k) 0 1 (pow_pos k) (zero-lt-suc 0) (q_trans h (not_above (m * up e) (down e) (down_pos e) (frac false 0 1 (zero-lt-suc 0)) (nn_frac 0 1 (zero-lt-suc 0))))))
away_above _ _ t _ = absurd t

pub away_below : (k : ℕ) (x : Float) → T (finite x) → val x ≤q -q◌ (dy 1 k) → Away k (val x)
unfolding val ofℤ
away_below k (fin true m e) t h = record { s = true; a = m * up e; c = down e; ok = down_pos e; how = refl; far = inr (omega (arith, frac_le_out 1 (2 ^ k) (m * up e) (down e) (pow_pos k) (down_pos e) (turn (m * up e) (down e) (down_pos e) h))) }
  where
    turn : (a c : ℕ) (C : 0 < c) → frac true a c C ≤q -q◌ (dy 1 k) → dy 1 k ≤q frac false a c C
    turn a c C h = unfold norm in subst (λ (u : ℚ). dy 1 k ≤q u) (qring (⊝ (⊝ x₀)) x₀ refl (frac false a c C ∷ [])) (subst (λ (u : ℚ). u ≤q -q◌ (-q◌ (frac false a c C))) (qring (⊝ (⊝ x₀)) x₀ refl (dy 1 k ∷ [])) (q_neg (subst (λ (u : ℚ). u ≤q -q◌ (dy 1 k)) (sym (frac_neg a c C)) h)))
away_below k (fin false m e) t h = absurd (omega (arith, frac_le_out 1 (2 ^ k) 0 1 (pow_pos k) (zero-lt-suc 0) (under_zero (q_trans (nn_le (nn_frac (m * up e) (down e) (down_pos e))) h))))
  where
    under_zero : ofℤ (pos 0) ≤q -q◌ (dy 1 k) → dy 1 k ≤q frac false 0 1 (zero-lt-suc 0)
    under_zero g = unfold norm in subst (λ (u : ℚ). u ≤q ofℤ (pos 0)) (qring (⊝ (⊝ x₀)) x₀ refl (dy 1 k ∷ [])) (subst (λ (u : ℚ). -q◌ (-q◌ (dy 1 k)) ≤q u) (qring (⊝ (con (pos 0))) (con (pos 0)) refl []) (q_neg g))
away_below _ _ t _ = absurd t

-- ---- a permitted multiply-add of multiples
pub permitted_mult : (f : Format) (x y z r : Float) (k : ℕ) → k ≤ low f → T (finite x) → T (finite y) → T (finite z) → T (finite (mul f x y)) → T (finite r) → Permitted f x y z r → Mult k (val x *q val y) → Mult k (val z) → Mult k (val r)
permitted_mult f x y z r k h fx fy fz fm fr (once e) p m = round_mult f r (val x *q val y +q val z) k h (subst (λ (u : Float). Rounds f u (val x *q val y +q val z)) (sym e) (fused_rounds f x y z fx fy fz)) fr (mult_add p m)
permitted_mult f x y z r k h fx fy fz fm fr (twice e) p m =
    let q = mul f x y in
    round_mult f r (val q +q val z) k h (subst (λ (u : Float). Rounds f u (val q +q val z)) (sym e) (add_rounds f q z fm fz)) fr (mult_add (round_mult f q (val x *q val y) k h (mul_rounds f x y fx fy) fm p) m)
