-- A normaliser for commutative rings: two expressions with the same normal form have the same value in every commutative ring.
-- Coefficients are integers, and `of` carries them into the ring.
use Rattle.std.proofs.Common.{◌≡◌, refl, sym, ap, ap₂, ◌∙◌, Bool, true, false, List, [], ◌∷◌, ℕ, zero, suc, T, leb, eqb→eq, ℤ, pos, negsuc, ◌+ℤ◌, ◌*ℤ◌}
use Rattle.std.proofs.Math.Dec.{compare_is_eq}
use Prim.Native.Nat.{compare, Ordering}

pub record CRing : Type 1 where
  pub carrier : Type 0
  pub add : carrier → carrier → carrier
  pub mul : carrier → carrier → carrier
  pub neg : carrier → carrier
  pub of : ℤ → carrier
  pub add_assoc : (a b c : carrier) → add (add a b) c ≡ add a (add b c)
  pub add_comm : (a b : carrier) → add a b ≡ add b a
  pub add_zero : (a : carrier) → add a (of (pos 0)) ≡ a
  pub add_neg : (a : carrier) → add a (neg a) ≡ of (pos 0)
  pub mul_assoc : (a b c : carrier) → mul (mul a b) c ≡ mul a (mul b c)
  pub mul_comm : (a b : carrier) → mul a b ≡ mul b a
  pub mul_one : (a : carrier) → mul a (of (pos 1)) ≡ a
  pub mul_add : (a b c : carrier) → mul a (add b c) ≡ add (mul a b) (mul a c)
  pub of_add : (a b : ℤ) → of (a +ℤ b) ≡ add (of a) (of b)
  pub of_mul : (a b : ℤ) → of (a *ℤ b) ≡ mul (of a) (of b)

-- ---- expressions, and normal forms: sums of terms, a coefficient and a sorted list of variables
infixl 60 ◌⊕◌ ◌⊖◌
infixl 70 ◌⊗◌
pub data Expr : Type 0 where
  var : ℕ → Expr
  con : ℤ → Expr
  ◌⊕◌ ◌⊗◌ : Expr → Expr → Expr
  ⊝ : Expr → Expr

abbrev pub ◌⊖◌ : Expr → Expr → Expr
a ⊖ b = a ⊕ ⊝ b

pub data Poly : Type 0 where
  none : Poly
  term : ℤ → List ℕ → Poly → Poly

abbrev put : Bool → ℕ → ℕ → List ℕ → List ℕ → List ℕ
put true i j m r = i ∷ j ∷ m
put false i j m r = j ∷ r

abbrev ins_v : ℕ → List ℕ → List ℕ
ins_v i [] = i ∷ []
ins_v i (j ∷ m) = put (leb i j) i j m (ins_v i m)

abbrev mul_m : List ℕ → List ℕ → List ℕ
mul_m [] n = n
mul_m (i ∷ m) n = ins_v i (mul_m m n)

abbrev next : Ordering → Ordering → Ordering
next Ordering.lt o = Ordering.lt
next Ordering.eq o = o
next Ordering.gt o = Ordering.gt

abbrev cmp_m : List ℕ → List ℕ → Ordering
cmp_m [] [] = Ordering.eq
cmp_m [] (y ∷ n) = Ordering.lt
cmp_m (x ∷ m) [] = Ordering.gt
cmp_m (x ∷ m) (y ∷ n) = next (compare x y) (cmp_m m n)

abbrev keep : ℤ → List ℕ → Poly → Poly
keep (pos zero) m p = p
keep (pos (suc n)) m p = term (pos (suc n)) m p
keep (negsuc n) m p = term (negsuc n) m p

abbrev place : Ordering → ℤ → List ℕ → ℤ → List ℕ → Poly → Poly → Poly
place Ordering.lt c m d n p r = term c m (term d n p)
place Ordering.eq c m d n p r = keep (c +ℤ d) n p
place Ordering.gt c m d n p r = term d n r

abbrev ins : ℤ → List ℕ → Poly → Poly
ins c m none = keep c m none
ins c m (term d n p) = place (cmp_m m n) c m d n p (ins c m p)

abbrev add_p : Poly → Poly → Poly
add_p none q = q
add_p (term c m p) q = ins c m (add_p p q)

abbrev mul_t : ℤ → List ℕ → Poly → Poly
mul_t c m none = none
mul_t c m (term d n p) = ins (c *ℤ d) (mul_m m n) (mul_t c m p)

abbrev mul_p : Poly → Poly → Poly
mul_p none q = none
mul_p (term c m p) q = add_p (mul_t c m q) (mul_p p q)

unfoldable pub norm : Expr → Poly
norm (var i) = term (pos 1) (i ∷ []) none
norm (con c) = keep c [] none
norm (a ⊕ b) = add_p (norm a) (norm b)
norm (a ⊗ b) = mul_p (norm a) (norm b)
norm (⊝ a) = mul_t (negsuc 0) [] (norm a)

next_eq : (o p : Ordering) → T (compare_is_eq (next o p)) → T (compare_is_eq o) × T (compare_is_eq p)
next_eq Ordering.eq p t = (tt, t)
next_eq _ _ t = absurd t

cmp_m_eq : (m n : List ℕ) → T (compare_is_eq (cmp_m m n)) → m ≡ n
cmp_m_eq [] [] t = refl
cmp_m_eq (x ∷ m) (y ∷ n) t =
    let h = next_eq (compare x y) (cmp_m m n) t in
    ap₂ (λ (a : ℕ) (l : List ℕ). a ∷ l) (eqb→eq x y h.0) (cmp_m_eq m n h.1)
cmp_m_eq _ _ t = absurd t

module _ (K : CRing) where
  abbrev pub look : List K.carrier → ℕ → K.carrier
  look [] i = K.of (pos 0)
  look (a ∷ l) zero = a
  look (a ∷ l) (suc i) = look l i

  abbrev pub ⟦◌⟧ : Expr → List K.carrier → K.carrier
  ⟦◌⟧ (var i) ρ = look ρ i
  ⟦◌⟧ (con c) ρ = K.of c
  ⟦◌⟧ (a ⊕ b) ρ = K.add (⟦◌⟧ a ρ) (⟦◌⟧ b ρ)
  ⟦◌⟧ (a ⊗ b) ρ = K.mul (⟦◌⟧ a ρ) (⟦◌⟧ b ρ)
  ⟦◌⟧ (⊝ a) ρ = K.neg (⟦◌⟧ a ρ)

  -- ---- laws that follow
  zero_add : (a : K.carrier) → K.add (K.of (pos 0)) a ≡ a
  zero_add a = K.add_comm (K.of (pos 0)) a ∙ K.add_zero a

  add_left_comm : (a b c : K.carrier) → K.add a (K.add b c) ≡ K.add b (K.add a c)
  add_left_comm a b c = sym (K.add_assoc a b c) ∙ ap (λ x. K.add x c) (K.add_comm a b) ∙ K.add_assoc b a c

  mul_left_comm : (a b c : K.carrier) → K.mul a (K.mul b c) ≡ K.mul b (K.mul a c)
  mul_left_comm a b c = sym (K.mul_assoc a b c) ∙ ap (λ x. K.mul x c) (K.mul_comm a b) ∙ K.mul_assoc b a c

  add_mul : (a b c : K.carrier) → K.mul (K.add a b) c ≡ K.add (K.mul a c) (K.mul b c)
  add_mul a b c = K.mul_comm (K.add a b) c ∙ K.mul_add c a b ∙ ap₂ K.add (K.mul_comm c a) (K.mul_comm c b)

  -- from x + a ≡ x to a ≡ 0
  vanish : (x a : K.carrier) → K.add x a ≡ x → a ≡ K.of (pos 0)
  vanish x a e =
      sym (zero_add a)
      ∙ ap (λ z. K.add z a) (sym (K.add_neg x) ∙ K.add_comm x (K.neg x))
      ∙ K.add_assoc (K.neg x) x a
      ∙ ap (K.add (K.neg x)) e
      ∙ K.add_comm (K.neg x) x ∙ K.add_neg x

  mul_zero : (a : K.carrier) → K.mul a (K.of (pos 0)) ≡ K.of (pos 0)
  mul_zero a = vanish (K.mul a (K.of (pos 0))) (K.mul a (K.of (pos 0))) (sym (K.mul_add a (K.of (pos 0)) (K.of (pos 0))) ∙ ap (K.mul a) (K.add_zero (K.of (pos 0))))

  zero_mul : (a : K.carrier) → K.mul (K.of (pos 0)) a ≡ K.of (pos 0)
  zero_mul a = K.mul_comm (K.of (pos 0)) a ∙ mul_zero a

  one_mul : (a : K.carrier) → K.mul (K.of (pos 1)) a ≡ a
  one_mul a = K.mul_comm (K.of (pos 1)) a ∙ K.mul_one a

  -- ---- values of normal forms
  abbrev eval_m : List K.carrier → List ℕ → K.carrier
  eval_m ρ [] = K.of (pos 1)
  eval_m ρ (i ∷ m) = K.mul (look ρ i) (eval_m ρ m)

  abbrev eval_p : List K.carrier → Poly → K.carrier
  eval_p ρ none = K.of (pos 0)
  eval_p ρ (term c m p) = K.add (K.mul (K.of c) (eval_m ρ m)) (eval_p ρ p)

  put_ok : (ρ : List K.carrier) (b : Bool) (i j : ℕ) (m r : List ℕ) → eval_m ρ r ≡ K.mul (look ρ i) (eval_m ρ m)
      → eval_m ρ (put b i j m r) ≡ K.mul (look ρ i) (K.mul (look ρ j) (eval_m ρ m))
  put_ok ρ true i j m r e = refl
  put_ok ρ false i j m r e = ap (K.mul (look ρ j)) e ∙ mul_left_comm (look ρ j) (look ρ i) (eval_m ρ m)

  ins_v_ok : (ρ : List K.carrier) (i : ℕ) (m : List ℕ) → eval_m ρ (ins_v i m) ≡ K.mul (look ρ i) (eval_m ρ m)
  ins_v_ok ρ i [] = refl
  ins_v_ok ρ i (j ∷ m) = put_ok ρ (leb i j) i j m (ins_v i m) (ins_v_ok ρ i m)

  mul_m_ok : (ρ : List K.carrier) (m n : List ℕ) → eval_m ρ (mul_m m n) ≡ K.mul (eval_m ρ m) (eval_m ρ n)
  mul_m_ok ρ [] n = sym (one_mul (eval_m ρ n))
  mul_m_ok ρ (i ∷ m) n = ins_v_ok ρ i (mul_m m n) ∙ ap (K.mul (look ρ i)) (mul_m_ok ρ m n) ∙ sym (K.mul_assoc (look ρ i) (eval_m ρ m) (eval_m ρ n))

  keep_ok : (ρ : List K.carrier) (c : ℤ) (m : List ℕ) (p : Poly) → eval_p ρ (keep c m p) ≡ K.add (K.mul (K.of c) (eval_m ρ m)) (eval_p ρ p)
  keep_ok ρ (pos zero) m p = sym (ap (λ x. K.add x (eval_p ρ p)) (zero_mul (eval_m ρ m)) ∙ zero_add (eval_p ρ p))
  keep_ok ρ (pos (suc n)) m p = refl
  keep_ok ρ (negsuc n) m p = refl

  place_ok : (ρ : List K.carrier) (o : Ordering) (c : ℤ) (m : List ℕ) (d : ℤ) (n : List ℕ) (p r : Poly) → (T (compare_is_eq o) → m ≡ n)
      → eval_p ρ r ≡ K.add (K.mul (K.of c) (eval_m ρ m)) (eval_p ρ p)
      → eval_p ρ (place o c m d n p r) ≡ K.add (K.mul (K.of c) (eval_m ρ m)) (K.add (K.mul (K.of d) (eval_m ρ n)) (eval_p ρ p))
  place_ok ρ Ordering.lt c m d n p r h e = refl
  place_ok ρ Ordering.eq c m d n p r h e =
      keep_ok ρ (c +ℤ d) n p
      ∙ ap (λ x. K.add x (eval_p ρ p)) (ap (λ x. K.mul x (eval_m ρ n)) (K.of_add c d) ∙ add_mul (K.of c) (K.of d) (eval_m ρ n))
      ∙ K.add_assoc (K.mul (K.of c) (eval_m ρ n)) (K.mul (K.of d) (eval_m ρ n)) (eval_p ρ p)
      ∙ ap (λ (l : List ℕ). K.add (K.mul (K.of c) (eval_m ρ l)) (K.add (K.mul (K.of d) (eval_m ρ n)) (eval_p ρ p))) (sym (h tt))
  place_ok ρ Ordering.gt c m d n p r h e = ap (K.add (K.mul (K.of d) (eval_m ρ n))) e ∙ add_left_comm (K.mul (K.of d) (eval_m ρ n)) (K.mul (K.of c) (eval_m ρ m)) (eval_p ρ p)

  ins_ok : (ρ : List K.carrier) (c : ℤ) (m : List ℕ) (p : Poly) → eval_p ρ (ins c m p) ≡ K.add (K.mul (K.of c) (eval_m ρ m)) (eval_p ρ p)
  ins_ok ρ c m none = keep_ok ρ c m none
  ins_ok ρ c m (term d n p) = place_ok ρ (cmp_m m n) c m d n p (ins c m p) (cmp_m_eq m n) (ins_ok ρ c m p)

  add_p_ok : (ρ : List K.carrier) (p q : Poly) → eval_p ρ (add_p p q) ≡ K.add (eval_p ρ p) (eval_p ρ q)
  add_p_ok ρ none q = sym (zero_add (eval_p ρ q))
  add_p_ok ρ (term c m p) q = ins_ok ρ c m (add_p p q) ∙ ap (K.add (K.mul (K.of c) (eval_m ρ m))) (add_p_ok ρ p q) ∙ sym (K.add_assoc (K.mul (K.of c) (eval_m ρ m)) (eval_p ρ p) (eval_p ρ q))

  four : (a b c d : K.carrier) → K.mul (K.mul a b) (K.mul c d) ≡ K.mul (K.mul a c) (K.mul b d)
  four a b c d = K.mul_assoc a b (K.mul c d) ∙ ap (K.mul a) (mul_left_comm b c d) ∙ sym (K.mul_assoc a c (K.mul b d))

  mul_t_ok : (ρ : List K.carrier) (c : ℤ) (m : List ℕ) (p : Poly) → eval_p ρ (mul_t c m p) ≡ K.mul (K.mul (K.of c) (eval_m ρ m)) (eval_p ρ p)
  mul_t_ok ρ c m none = sym (mul_zero (K.mul (K.of c) (eval_m ρ m)))
  mul_t_ok ρ c m (term d n p) =
      ins_ok ρ (c *ℤ d) (mul_m m n) (mul_t c m p)
      ∙ ap₂ K.add (ap₂ K.mul (K.of_mul c d) (mul_m_ok ρ m n) ∙ four (K.of c) (K.of d) (eval_m ρ m) (eval_m ρ n)) (mul_t_ok ρ c m p)
      ∙ sym (K.mul_add (K.mul (K.of c) (eval_m ρ m)) (K.mul (K.of d) (eval_m ρ n)) (eval_p ρ p))

  mul_p_ok : (ρ : List K.carrier) (p q : Poly) → eval_p ρ (mul_p p q) ≡ K.mul (eval_p ρ p) (eval_p ρ q)
  mul_p_ok ρ none q = sym (zero_mul (eval_p ρ q))
  mul_p_ok ρ (term c m p) q =
      add_p_ok ρ (mul_t c m q) (mul_p p q)
      ∙ ap₂ K.add (mul_t_ok ρ c m q) (mul_p_ok ρ p q)
      ∙ sym (add_mul (K.mul (K.of c) (eval_m ρ m)) (eval_p ρ p) (eval_p ρ q))

  minus_one : (a : K.carrier) → K.mul (K.mul (K.of (negsuc 0)) (K.of (pos 1))) a ≡ K.neg a
  minus_one a =
      ap (λ x. K.mul x a) (K.mul_one (K.of (negsuc 0)))
      ∙ sym (zero_add (K.mul (K.of (negsuc 0)) a))
      ∙ ap (λ x. K.add x (K.mul (K.of (negsuc 0)) a)) (sym (K.add_neg a) ∙ K.add_comm a (K.neg a))
      ∙ K.add_assoc (K.neg a) a (K.mul (K.of (negsuc 0)) a)
      ∙ ap (K.add (K.neg a)) (ap (λ x. K.add x (K.mul (K.of (negsuc 0)) a)) (sym (one_mul a)) ∙ sym (add_mul (K.of (pos 1)) (K.of (negsuc 0)) a) ∙ ap (λ x. K.mul x a) (sym (K.of_add (pos 1) (negsuc 0))) ∙ zero_mul a)
      ∙ K.add_zero (K.neg a)

  norm_ok : (ρ : List K.carrier) (e : Expr) → eval_p ρ (norm e) ≡ ⟦◌⟧ e ρ
  unfolding norm
  norm_ok ρ (var i) = K.add_zero (K.mul (K.of (pos 1)) (K.mul (look ρ i) (K.of (pos 1)))) ∙ one_mul (K.mul (look ρ i) (K.of (pos 1))) ∙ K.mul_one (look ρ i)
  norm_ok ρ (con c) = keep_ok ρ c [] none ∙ K.add_zero (K.mul (K.of c) (K.of (pos 1))) ∙ K.mul_one (K.of c)
  norm_ok ρ (a ⊕ b) = add_p_ok ρ (norm a) (norm b) ∙ ap₂ K.add (norm_ok ρ a) (norm_ok ρ b)
  norm_ok ρ (a ⊗ b) = mul_p_ok ρ (norm a) (norm b) ∙ ap₂ K.mul (norm_ok ρ a) (norm_ok ρ b)
  norm_ok ρ (⊝ a) = mul_t_ok ρ (negsuc 0) [] (norm a) ∙ minus_one (eval_p ρ (norm a)) ∙ ap K.neg (norm_ok ρ a)

  pub solve : (a b : Expr) → norm a ≡ norm b → (ρ : List K.carrier) → ⟦◌⟧ a ρ ≡ ⟦◌⟧ b ρ
  solve a b e ρ = sym (norm_ok ρ a) ∙ ap (eval_p ρ) e ∙ norm_ok ρ b
