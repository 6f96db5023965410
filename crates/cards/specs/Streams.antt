-- What a run does with a stream of bytes: each six are a card, and bytes left over at the end are one too.
use Rattle.std.specs.Prelude.{◌≡◌, ℕ, ◌+◌, ◌*◌, ◌/◌, ◌<◌, ◌≤◌, List, [], ◌∷◌, ◌++◌, length, take, drop, Option, MatchOption}
use Rattle.arithmetic.specs.Arithmetic.{Arithmetic}
use Rattle.sheet.specs.Pegs.{Sheet}
use Rattle.sheet.specs.Calls.{Answer}
use Rattle.cards.specs.Format.{reply_of}
use Rattle.cards.specs.declared.counts.Counts.{Counts}
use Rattle.cards.specs.Runs.{Takes}

-- the bytes of a card
abbrev pub card_size : ℕ
card_size = 6

-- how many cards n bytes are
abbrev pub cards_in : ℕ → ℕ
cards_in n = (n + 5) / 6

-- bytes, played card after card from the counts n and the sheet s, have these replies and lead to the sheet t and the counts m
pub data Streamed (a : Arithmetic) : List ℕ → Counts → Sheet → List (List ℕ) → Sheet → Counts → Type 0 where
  ended : {n : Counts} {s : Sheet} → Streamed a [] n s [] s n
  next : {bytes : List ℕ} {replies : List (List ℕ)} {n m k : Counts} {s t u : Sheet} (r : Answer) → 0 < length bytes → Takes a (take card_size bytes) n s r t m → Streamed a (drop card_size bytes) m t replies u k → Streamed a bytes n s (reply_of r ∷ replies) u k

-- the replies fill the first slots and leave the others; with fewer slots than cards nothing is played
abbrev pub TakesAll : Arithmetic → List ℕ → Counts → Sheet → List (List ℕ) → Option ℕ → Sheet → Counts → List (List ℕ) → Type 0
TakesAll a bytes n s slots r t m filled =
    MatchOption r ((length slots < cards_in (length bytes)) × (t ≡ s) × (m ≡ n) × (filled ≡ slots))
    (λ k. (k ≡ cards_in (length bytes)) × (k ≤ length slots) × Streamed a bytes n s (take k filled) t m × (drop k filled ≡ drop k slots))

-- a stream may be cut between two cards
abbrev pub StreamsJoin : Type 0
StreamsJoin =
    (a : Arithmetic) (front back : List ℕ) (n m k : Counts) (s t u : Sheet) (first second : List (List ℕ)) (cards : ℕ) → length front ≡ card_size * cards → Streamed a front n s first t m → Streamed a back m t second u k → Streamed a (front ++ back) n s (first ++ second) u k
