-- The formats: a card of 48 bits, a reply of 40, and the counts of a run.
use Rattle.std.specs.Prelude.{◌≡◌, ℕ, ◌/◌, ◌%◌, ◌^◌, ◌<◌, cond, ◌&&◌, List, [], ◌∷◌, length, Ok, Err, codes, Result, ◌==◌}
use Rattle.sheet.specs.declared.fault.Fault.{Fault}
use Rattle.sheet.specs.declared.fault.Fault.TheVariants.{CardLength, UnusedField}
use Rattle.sheet.specs.Faults.{number_of}
use Rattle.cards.specs.declared.card.Card.{Card}
use Rattle.cards.specs.declared.card.Card.TheVariants.{Enter, Work, Read, Clear}
use Rattle.cards.specs.declared.counts.Counts.{Counts}
use Rattle.cards.specs.declared.fields.Fields.{Fields}
use Rattle.cards.specs.Bits.{field_at}

-- what the four fields say: operation 0 enter, 1 work, 2 read, 3 clear; a field that the operation does not use is 0
abbrev pub said : ℕ → ℕ → ℕ → ℕ → Result Card Fault
said operation code peg value =
    cond (operation == 0) (Ok (Enter code peg value))
    (cond (operation == 1) (cond (code == 0) (Ok (Work peg value)) (Err UnusedField))
    (cond (code == 0 && value == 0) (Ok (cond (operation == 2) (Read peg) (Clear peg))) (Err UnusedField)))

-- six bytes: operation 2 bits, code 2, peg 12, value 32
abbrev pub unpacked : List ℕ → Result Card Fault
unpacked bytes =
    cond (length bytes == 6) (said (field_at bytes 0 2) (field_at bytes 2 2) (field_at bytes 4 12) (field_at bytes 16 32)) (Err CardLength)

-- the four numbers of a card
abbrev pub fields_of : Card → Fields
fields_of (Enter code peg value) = record { operation = 0; code = code; peg = peg; value = value }
fields_of (Work first count) = record { operation = 1; code = 0; peg = first; value = count }
fields_of (Read peg) = record { operation = 2; code = 0; peg = peg; value = 0 }
fields_of (Clear peg) = record { operation = 3; code = 0; peg = peg; value = 0 }

-- each number fits its bits
abbrev pub Room : Fields → Type 0
Room f = (f.operation < 4) × (f.code < 4) × (f.peg < 4096)

-- six bytes spell four numbers: operation 2 bits, code 2, peg 12, value 32
abbrev pub Spell : List ℕ → Fields → Type 0
Spell bytes f =
    Room f × (length bytes ≡ 6) × (field_at bytes 0 2 ≡ f.operation) × (field_at bytes 2 2 ≡ f.code) × (field_at bytes 4 12 ≡ f.peg) × (field_at bytes 16 32 ≡ f.value)

-- the fields have room for what the card says
abbrev pub Packable : Card → Type 0
Packable (Enter code peg value) = (code < 4) × (peg < 4096)
Packable (Work first count) = first < 4096
Packable (Read peg) = peg < 4096
Packable (Clear peg) = peg < 4096

-- what is printed where one has none
abbrev pub no_room_words : List ℕ
no_room_words = codes "a card has 2 bits for a code and 12 for a peg"

-- a number of 16 bits and one of 32 as bytes, the most significant first
abbrev pub two_bytes : ℕ → List ℕ → List ℕ
two_bytes n rest = n / 2 ^ 8 ∷ n % 2 ^ 8 ∷ rest

abbrev pub bytes_of_four : ℕ → List ℕ
bytes_of_four n = n / 2 ^ 24 ∷ n / 2 ^ 16 % 2 ^ 8 ∷ n / 2 ^ 8 % 2 ^ 8 ∷ n % 2 ^ 8 ∷ []

-- a reply: the number of the refusal or 0, and the result or 0
abbrev pub reply_of : Result ℕ Fault → List ℕ
reply_of (Ok v) = 0 ∷ bytes_of_four v
reply_of (Err e) = number_of e ∷ bytes_of_four 0

-- what an answer of 32 bits can be
abbrev pub Short : Result ℕ Fault → Type 0
Short (Ok v) = v < 2 ^ 32
Short (Err e) = Unit {0}

-- two answers with the same reply are the same
abbrev pub RepliesTell : Type 0
RepliesTell = (a b : Result ℕ Fault) → Short a → Short b → reply_of a ≡ reply_of b → a ≡ b

-- the three counts of a closed run: cards taken (16 bits), cards refused (16), pegs worked (32)
abbrev pub count_bytes : Counts → List ℕ
count_bytes n = two_bytes n.taken (two_bytes n.refused (bytes_of_four n.worked))
