-- The digest of a curve's answers.
use Rattle.std.specs.Prelude.{ℕ, zero, suc, ◌+◌, ◌*◌, ◌/◌, ◌%◌, ◌^◌, bit_xor}

-- h after one word more
abbrev pub mixed : ℕ → ℕ → ℕ
mixed h word = (bit_xor h word * 0x100000001b3) % 2 ^ 64

-- h after the answers of g at n patterns, from p on, each `step` above the one before
abbrev pub after : (ℕ → ℕ) → ℕ → ℕ → ℕ → ℕ → ℕ
after g step zero p h = h
after g step (suc n) p h = after g step n ((p + step) % 2 ^ 32) (mixed h (g p))

-- the digest of one block: n answers
abbrev pub block : (ℕ → ℕ) → ℕ → ℕ → ℕ → ℕ
block g step n first = after g step n first 0xcbf29ce484222325

-- h after the two halves of a block's digest, the upper one first
abbrev pub joined : ℕ → ℕ → ℕ
joined h digest = mixed (mixed h (digest / 2 ^ 32)) (digest % 2 ^ 32)

-- h after `left` blocks, from the block b on, of n answers each; a block begins at a multiple of 2^24
unfoldable pub after_blocks : (ℕ → ℕ) → ℕ → ℕ → ℕ → ℕ → ℕ → ℕ
after_blocks g step n zero b h = h
after_blocks g step n (suc left) b h = after_blocks g step n left (b + 1) (joined h (block g step n (b * 2 ^ 24)))

-- the digest of all 256 blocks, at every `step`-th pattern of each
abbrev pub whole : (ℕ → ℕ) → ℕ → ℕ → ℕ
whole g step n = after_blocks g step n 256 0 0xcbf29ce484222325
