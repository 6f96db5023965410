-- Bits of a list of bytes, the most significant first.
use Rattle.std.specs.Prelude.{ℕ, zero, suc, ◌+◌, ◌-◌, ◌*◌, ◌/◌, ◌%◌, ◌^◌, List, slice_index}

-- bit i of the bytes: bit 0 is the highest of the first byte
abbrev pub bit_at : List ℕ → ℕ → ℕ
bit_at bytes i = slice_index bytes (i / 8) / 2 ^ (7 - i % 8) % 2

-- the number that the w bits from `from` on spell
unfoldable pub field_at : List ℕ → ℕ → ℕ → ℕ
field_at bytes from zero = 0
field_at bytes from (suc w) = 2 * field_at bytes from w + bit_at bytes (from + w)
