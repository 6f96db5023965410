-- Fields of bits by whole bytes.
use Rattle.std.proofs.Common.{◌≡◌, ℕ, zero, suc, ◌+◌, ◌-◌, ◌*◌, ◌/◌, ◌%◌, ◌^◌, ◌<◌, List, slice_index, bit_or, length, refl, sym, ap, ◌∙◌, ap₂, add-zero, add_assoc, add-suc, add-one, pow-suc, arith}
use Rattle.std.proofs.lemmas.Nat.{shr-shr, mod-pow-add, or_shifted}
use Rattle.cards.specs.declared.fields.Fields.{Fields}
use Rattle.cards.specs.Bits.{bit_at, field_at}
use Rattle.cards.specs.Format.{Room, Spell}

-- a field of w + v bits
field_split : (b : List ℕ) (from w v : ℕ) → field_at b from (w + v) ≡ field_at b from w * 2 ^ v + field_at b (from + w) v
unfolding field_at
field_split b from w zero = ap (field_at b from) (add-zero w) ∙ omega arith
field_split b from w (suc v) =
    ap (field_at b from) (add-suc w v)
    ∙ ap₂ (λ (x y : ℕ). 2 * x + y) (field_split b from w v) (ap (bit_at b) (sym (add_assoc from w v)))
    ∙ regroup (field_at b from w) (2 ^ v) (2 ^ suc v) (field_at b (from + w) v) (bit_at b (from + w + v)) (pow-suc 2 v)
  where
    regroup : (x p q y z : ℕ) → q ≡ p * 2 → 2 * (x * p + y) + z ≡ x * q + (2 * y + z)
    regroup x p q y z e = grind (arith, e)

-- a field within the byte i, which has j bits before it and m after it
within_byte : (b : List ℕ) (i j w m : ℕ) → j + w + m ≡ 8 → field_at b (i * 8 + j) w ≡ slice_index b i / 2 ^ m % 2 ^ w
unfolding field_at
within_byte b i j zero m e = omega arith
within_byte b i j (suc w) m e =
    let x = slice_index b i / 2 ^ m in
    ap₂ (λ (n z : ℕ). 2 * n + z)
    (within_byte b i j w (suc m) (omega arith) ∙ ap (λ (n : ℕ). n % 2 ^ w) (ap (λ (n : ℕ). slice_index b i / 2 ^ n) (sym (add-one m)) ∙ sym (shr-shr (slice_index b i) m 1)))
    (ap₂ (λ (n k : ℕ). slice_index b n / 2 ^ k % 2) {x = (i * 8 + j + w) / 8} {y = i} {u = 7 - (i * 8 + j + w) % 8} {v = m} (omega arith) (omega arith))
    ∙ omega (arith, ap (λ (n : ℕ). x % 2 ^ n) (sym (add-one w)) ∙ mod-pow-add x w 1)

-- a field with one more byte, the byte i
one_byte_more : (b : List ℕ) (from w i x : ℕ) → from + w ≡ i * 8 → field_at b from w ≡ x → field_at b from (w + 8) ≡ x * 256 + slice_index b i % 256
one_byte_more b from w i x e f =
    field_split b from w 8 ∙ ap₂ (λ (y z : ℕ). y * 256 + z) f (ap (λ (n : ℕ). field_at b n 8) (e ∙ sym (add-zero (i * 8))) ∙ within_byte b i 0 8 0 refl ∙ omega arith)

-- four numbers, by the six bytes
pub spelled : (b : List ℕ) (f : Fields) → length b ≡ 6 → Room f → slice_index b 0 ≡ f.operation * 64 + f.code * 16 + f.peg / 256 → slice_index b 1 ≡ f.peg % 256 → slice_index b 2 < 256 → slice_index b 3 < 256 → slice_index b 4 < 256 → slice_index b 5 < 256 → f.value ≡ ((slice_index b 2 * 256 + slice_index b 3) * 256 + slice_index b 4) * 256 + slice_index b 5 → Spell b f
spelled b f size room first second p q r s value = (
  room,
  size,
  within_byte b 0 0 2 6 refl ∙ omega arith,
  within_byte b 0 2 2 4 refl ∙ omega arith,
  one_byte_more b 4 4 1 _ refl (within_byte b 0 4 4 0 refl) ∙ omega arith,
  one_byte_more b 16 24 5 _ refl (one_byte_more b 16 16 4 _ refl (one_byte_more b 16 8 3 _ refl (within_byte b 2 0 8 0 refl))) ∙ omega arith,
)

-- the first byte
pub joined : (o k h : ℕ) → o < 4 → k < 4 → h < 16 → bit_or (bit_or (o * 64 % 256) (k * 16 % 256)) h ≡ o * 64 + k * 16 + h
joined o k h p q r =
    ap (λ (x : ℕ). bit_or x h) (ap₂ bit_or {x = o * 64 % 256} {y = o * 2 ^ 6} {u = k * 16 % 256} {v = k * 16} (omega arith) (omega arith) ∙ or_shifted o 6 (k * 16) (omega arith))
    ∙ ap (λ (x : ℕ). bit_or x h) {x = o * 2 ^ 6 + k * 16} {y = (o * 4 + k) * 2 ^ 4} (omega arith)
    ∙ or_shifted (o * 4 + k) 4 h r
    ∙ omega arith
