-- The integers as a commutative ring, and `zring`, which proves an equation of polynomials over them.
use Rattle.std.proofs.Common.{◌≡◌, refl, ap, List, ℕ, ◌+◌, ◌*◌, arith, ℤ, pos, ◌+ℤ◌, ◌*ℤ◌, neg_ℤ}
use Rattle.std.proofs.Math.IntN.{+ℤ_assoc, +ℤ_comm, +ℤ_idr, +ℤ_invr, *ℤ_comm}
use Rattle.std.proofs.lemmas.Int.{ints}
use borrow.Author.Differences.{up, down, same_in, product_is, sum_is_lem}
use Rattle.exact.proofs.Ring.{CRing, Expr, var, norm, ⟦◌⟧, solve}

up_mul : (a b : ℤ) → up (a *ℤ b) ≡ up a * up b + down a * down b
up_mul a b = (product_is a b).0

down_mul : (a b : ℤ) → down (a *ℤ b) ≡ up a * down b + down a * up b
down_mul a b = (product_is a b).1

pub *ℤ-assoc : (a b c : ℤ) → (a *ℤ b) *ℤ c ≡ a *ℤ (b *ℤ c)
*ℤ-assoc a b c = same_in _ _ (rw (up_mul (a *ℤ b) c, down_mul (a *ℤ b) c, up_mul a (b *ℤ c), down_mul a (b *ℤ c), up_mul a b, down_mul a b, up_mul b c, down_mul b c) (omega arith))

pub mul_addℤ : (a b c : ℤ) → a *ℤ (b +ℤ c) ≡ a *ℤ b +ℤ a *ℤ c
mul_addℤ a b c =
    same_in _ _
    (let s = sum_is_lem (a *ℤ b) (a *ℤ c) in
    let t = sum_is_lem b c in
    let x : up a * (up (b +ℤ c) + down b + down c) ≡ up a * (down (b +ℤ c) + up b + up c) = ap (λ (k : ℕ). up a * k) t in
    let y : down a * (up (b +ℤ c) + down b + down c) ≡ down a * (down (b +ℤ c) + up b + up c) = ap (λ (k : ℕ). down a * k) t in
    omega (arith, s, x, y, product_is a b, product_is a c, product_is a (b +ℤ c)))

pub mul_oneℤ : (a : ℤ) → a *ℤ pos 1 ≡ a
mul_oneℤ a = omega (arith, ints)

abbrev pub ringℤ : CRing
ringℤ = record {
  carrier = ℤ;
  add = ◌+ℤ◌;
  mul = ◌*ℤ◌;
  neg = neg_ℤ;
  of = λ (z : ℤ). z;
  add_assoc = +ℤ_assoc;
  add_comm = +ℤ_comm;
  add_zero = +ℤ_idr;
  add_neg = +ℤ_invr;
  mul_assoc = *ℤ-assoc;
  mul_comm = *ℤ_comm;
  mul_one = mul_oneℤ;
  mul_add = mul_addℤ;
  of_add = λ a b. refl;
  of_mul = λ a b. refl;
}

pub zring : (a b : Expr) → norm a ≡ norm b → (ρ : List ℤ) → ⟦◌⟧ ringℤ a ρ ≡ ⟦◌⟧ ringℤ b ρ
zring = solve ringℤ

-- the variables of an equation, by their place in its list
abbrev pub x₀ : Expr
x₀ = var 0

abbrev pub x₁ : Expr
x₁ = var 1

abbrev pub x₂ : Expr
x₂ = var 2

abbrev pub x₃ : Expr
x₃ = var 3

abbrev pub x₄ : Expr
x₄ = var 4

abbrev pub x₅ : Expr
x₅ = var 5

abbrev pub x₆ : Expr
x₆ = var 6

abbrev pub x₇ : Expr
x₇ = var 7

abbrev pub x₈ : Expr
x₈ = var 8
