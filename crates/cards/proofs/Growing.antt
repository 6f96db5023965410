-- A field with one more bit.
use Rattle.std.proofs.Common.{◌≡◌, ℕ, suc, ◌+◌, ◌*◌, ◌^◌, ◌<◌, List, sym, ap, ◌∙◌, subst, ap₂, mul_comm, pow-suc, add-one, arith}
use Rattle.cards.specs.Bits.{bit_at, field_at}

pub one_more : (bytes : List ℕ) (from k n b : ℕ) → n ≡ field_at bytes from k → b ≡ bit_at bytes (from + k) → b < 2 → n < 2 ^ k → (n * 2 + b ≡ field_at bytes from (k + 1)) × (n * 2 + b < 2 ^ (k + 1))
unfolding field_at
one_more bytes from k n b e f l h =
    let p : 2 ^ suc k ≡ 2 ^ k * 2 = pow-suc 2 k in (
      ap₂ (λ (x y : ℕ). x + y) (mul_comm n 2 ∙ ap (λ (x : ℕ). 2 * x) e) f ∙ ap (field_at bytes from) (sym (add-one k)),
      subst (λ (x : ℕ). n * 2 + b < 2 ^ x) (sym (add-one k)) (omega (arith, p)),
    )
