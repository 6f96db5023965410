-- One turn of each loop: what is left from here leads where it led before.
use Rattle.std.proofs.Common.{◌≡◌, ℕ, suc, ◌+◌, ◌-◌, ◌*◌, ◌%◌, ◌^◌, ◌<◌, ◌≤◌, sym, ap, ◌∙◌, arith}
use Rattle.digest.specs.Digest.{mixed, after, block, joined, after_blocks}

fewer : (m i : ℕ) → i < m → m - i ≡ suc (m - (i + 1))
fewer m i h = omega arith

pub after_turn :
    (g : ℕ → ℕ) (step m i p h w next end : ℕ) → i < m → w ≡ g p → next ≡ mixed h w → after g step (m - i) p h ≡ end
    → after g step (m - (i + 1)) ((p + step) % 2 ^ 32) next ≡ end
after_turn g step m i p h w next end l ew en e =
    ap (λ x. after g step (m - (i + 1)) ((p + step) % 2 ^ 32) x) (en ∙ ap (λ x. mixed h x) ew)
    ∙ sym (ap (λ n. after g step n p h) (fewer m i l)) ∙ e

pub blocks-turn :
    (g : ℕ → ℕ) (step n m b h d next end : ℕ) → b < m → d ≡ block g step n (b * 2 ^ 24) → next ≡ joined h d
    → after_blocks g step n (m - b) b h ≡ end → after_blocks g step n (m - (b + 1)) (b + 1) next ≡ end
unfolding after_blocks
blocks-turn g step n m b h d next end l ed en e =
    ap (λ x. after_blocks g step n (m - (b + 1)) (b + 1) x) (en ∙ ap (λ x. joined h x) ed)
    ∙ sym (ap (λ k. after_blocks g step n k b h) (fewer m b l)) ∙ e

pub blocks_end : (g : ℕ → ℕ) (step n m b h end : ℕ) → m ≤ b → after_blocks g step n (m - b) b h ≡ end → h ≡ end
unfolding after_blocks
blocks_end g step n m b h end l e =
    sym (ap (λ k. after_blocks g step n k b h) (let none : m - b ≡ 0 = omega arith in none)) ∙ e
