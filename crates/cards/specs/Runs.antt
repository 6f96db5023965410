-- What a run does with a card, and what its counts are after a list of cards.
use Rattle.std.specs.Prelude.{◌≡◌, ℕ, ◌+◌, ◌-◌, min, List, [], ◌∷◌, length, drop, Ok, Err, MatchBool, Result, ◌==◌, from_bits}
use Rattle.std.specs.Float.{binary32}
use Rattle.arithmetic.specs.Arithmetic.{Arithmetic}
use Rattle.sheet.specs.declared.fault.Fault.{Fault}
use Rattle.sheet.specs.declared.fault.Fault.TheVariants.{RunFull}
use Rattle.sheet.specs.Pegs.{Sheet}
use Rattle.sheet.specs.Calls.{Call, Answer, Does, entering, working, reading, clearing}
use Rattle.sheet.specs.Histories.{Kept}
use Rattle.cards.specs.declared.card.Card.{Card}
use Rattle.cards.specs.declared.card.Card.TheVariants.{Enter, Work, Read, Clear}
use Rattle.cards.specs.declared.counts.Counts.{Counts}
use Rattle.cards.specs.Format.{unpacked}

-- the call that a card names, under an arithmetic
abbrev pub call_of : Arithmetic → Card → Call
call_of a (Enter code peg value) = entering peg code (from_bits binary32 value)
call_of a (Work first count) = working first count a
call_of a (Read peg) = reading peg
call_of a (Clear peg) = clearing peg

-- what a card does to the sheet: a card that says nothing is refused and changes nothing; else its call is carried out, and the sheet's promise is kept
abbrev pub Plays : Arithmetic → Result Card Fault → Sheet → Answer → Sheet → Type 0
Plays a (Err e) s r t = (r ≡ Err e) × (t ≡ s)
Plays a (Ok card) s r t = Does s (call_of a card) r t × Kept s (call_of a card) r t

-- the counts of a run that has just opened
abbrev pub none : Counts
none = record { taken = 0; refused = 0; worked = 0 }

-- the most cards that a run takes, and the most pegs that it can count
abbrev pub most_cards : ℕ
most_cards = 65535

abbrev pub most_pegs : ℕ
most_pegs = 4294967295

-- 1 for a refusal
abbrev pub refusal_in : Answer → ℕ
refusal_in (Ok v) = 0
refusal_in (Err e) = 1

-- how many pegs a card worked: what its work answered
abbrev pub worked_in : Result Card Fault → Answer → ℕ
worked_in (Err e) r = 0
worked_in (Ok (Enter code peg value)) r = 0
worked_in (Ok (Work first count)) (Ok v) = v
worked_in (Ok (Work first count)) (Err e) = 0
worked_in (Ok (Read peg)) r = 0
worked_in (Ok (Clear peg)) r = 0

-- the counts after a card that was taken
abbrev pub counted : Counts → Result Card Fault → Answer → Counts
counted n card r = record { taken = n.taken + 1; refused = n.refused + refusal_in r; worked = min (n.worked + worked_in card r) most_pegs }

-- what a run does with a card: a full one refuses it and counts nothing
abbrev pub Takes : Arithmetic → List ℕ → Counts → Sheet → Answer → Sheet → Counts → Type 0
Takes a bytes n s r t m =
    MatchBool (n.taken == most_cards) ((r ≡ Err RunFull) × (t ≡ s) × (m ≡ n)) (Plays a (unpacked bytes) s r t × (m ≡ counted n (unpacked bytes) r))

-- ---- a whole run
pub record Turn : Type 0 where
  pub bytes : List ℕ
  pub answer : Answer

-- the counts that cards lead to, the newest first, on whatever sheets and under whatever arithmetics they were taken
pub data Ran : List Turn → Counts → Type 0 where
  opened : Ran [] none
  next : {h : List Turn} {n m : Counts} (s t : Sheet) (a : Arithmetic) (e : Turn) → Ran h n → Takes a e.bytes n s e.answer t m → Ran (e ∷ h) m

abbrev pub refusals : List Turn → ℕ
refusals [] = 0
refusals (e ∷ h) = refusals h + refusal_in e.answer

abbrev pub works : List Turn → ℕ
works [] = 0
works (e ∷ h) = works h + worked_in (unpacked e.bytes) e.answer

-- the first 65,535 of them
abbrev pub counting : List Turn → List Turn
counting h = drop (length h - most_cards) h

-- the counts are those of the first 65,535 cards
abbrev pub RunsAddUp : Type 0
RunsAddUp = (h : List Turn) (n : Counts) → Ran h n → (n.taken ≡ min (length h) most_cards) × (n.refused ≡ refusals (counting h)) × (n.worked ≡ min (works (counting h)) most_pegs)
