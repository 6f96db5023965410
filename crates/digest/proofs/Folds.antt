-- The folds over a block's places and over the blocks are the digest's own recursions.
use Rattle.std.proofs.Common.{◌≡◌, ℕ, zero, suc, ◌+◌, ◌*◌, ◌/◌, ◌%◌, ◌^◌, ◌<◌, ◌≤◌, refl, sym, ap, ◌∙◌, map, arith}
use Rattle.std.proofs.Math.Nat.{mod-eq_of_lt, div-mul-le_self, mul-le-mul_right}
use Rattle.std.specs.List.{fold, range_with_len}
use Rattle.digest.specs.Digest.{mixed, after, joined, block, after_blocks}

-- every place of a block is below 2 ^ 32
pub fits : (number step : ℕ) → number < 256 → (i : ℕ) → i < 16777215 / step + 1 → number * 2 ^ 24 + i * step < 2 ^ 32
fits number step below i l =
    let near : i * step ≤ 16777215 / step * step = mul-le-mul_right step (omega arith) in
    omega (arith, near, div-mul-le_self 16777215 step)

-- where another place follows, its pattern is below 2 ^ 32
next : (g : ℕ → ℕ) (step m p q h : ℕ) → p + step ≡ q → (0 < m → q < 2 ^ 32) → after g step m ((p + step) % 2 ^ 32) h ≡ after g step m q h
next g step zero p q h e small = refl
next g step (suc m) p q h e small = ap (λ x. after g step (suc m) x h) (ap (λ x. x % 2 ^ 32) e ∙ mod-eq_of_lt (small (omega arith)))

-- from the j-th place on
fold_places : (g : ℕ → ℕ) (step first n j h : ℕ) → ((i : ℕ) → i < j + n → first + i * step < 2 ^ 32)
    → fold (λ x b. mixed x (g b)) h (map (λ i. first + i * step) (range_with_len j n)) ≡ after g step n (first + j * step) h
fold_places g step first zero j h small = refl
fold_places g step first (suc n) j h small =
    let e : first + j * step + step ≡ first + (j + 1) * step = omega arith in
    fold_places g step first n (j + 1) (mixed h (g (first + j * step))) (λ i l. small i (omega arith))
    ∙ sym (next g step n (first + j * step) (first + (j + 1) * step) (mixed h (g (first + j * step))) e (λ l. small (j + 1) (omega arith)))

pub fold_block : (g : ℕ → ℕ) (step first n : ℕ) → ((i : ℕ) → i < n → first + i * step < 2 ^ 32)
    → fold (λ x b. mixed x (g b)) 0xcbf29ce484222325 (map (λ i. first + i * step) (range_with_len 0 n)) ≡ block g step n first
fold_block g step first n small =
    fold_places g step first n 0 0xcbf29ce484222325 (λ i l. small i (omega arith))
    ∙ ap (λ p. after g step n p 0xcbf29ce484222325) (let e : first + 0 * step ≡ first = omega arith in e)

-- from the block b on
pub fold_blocks : (g : ℕ → ℕ) (step n left b h : ℕ)
    → fold (λ x k. joined x (block g step n (k * 2 ^ 24))) h (range_with_len b left) ≡ after_blocks g step n left b h
unfolding after_blocks
fold_blocks g step n zero b h = refl
fold_blocks g step n (suc left) b h = fold_blocks g step n left (b + 1) (joined h (block g step n (b * 2 ^ 24)))
