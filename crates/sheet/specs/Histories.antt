-- Histories: lists of calls with their answers from a sheet just laid, and what is promised of them.
use Rattle.std.specs.Prelude.{◌≡◌, ℕ, ◌<◌, ◌≤◌, T, ◌⊎◌, List, [], ◌∷◌, length, Ok, Err, ◌≢◌, to_bits, Float}
use Rattle.std.specs.Float.{binary32}
use Rattle.std.specs.Float.Ieee.{fits}
use Rattle.arithmetic.specs.Arithmetic.{Arithmetic, Lawful}
use Rattle.accuracy.specs.Figures.{Agree}
use Rattle.accuracy.specs.declared.function.Function.{Function}
use Rattle.accuracy.specs.Functions.{code_of, curve_of}
use Rattle.sheet.specs.declared.fault.Fault.{Fault}
use Rattle.sheet.specs.declared.peg.Mark.TheVariants.{Entered}
use Rattle.sheet.specs.declared.peg.Peg.{Peg}
use Rattle.sheet.specs.Pegs.{Sheet, Sound, peg, blank, entered, worked}
use Rattle.sheet.specs.Calls.{Call, Answer, Does, Part, largest, laying, entering, working, reading, clearing}

-- what a caller can give: an input is an f32, and an arithmetic is lawful
abbrev pub Given : Call → Type 0
Given laying = Unit {0}
Given (entering p c x) = T (fits binary32 x)
Given (working f n a) = Lawful a
Given (reading p) = Unit {0}
Given (clearing p) = Unit {0}

pub record Event : Type 0 where
  pub call : Call
  pub answer : Answer

-- the newest first
abbrev pub History : Type 0
History = List Event

-- the sheets that a history leads to, from a lay of whatever sheet it met
pub data Reached : History → Sheet → Type 0 where
  laid : {s t : Sheet} {n : ℕ} → Does s laying (Ok n) t → Reached [] t
  after : {h : History} {s t : Sheet} (e : Event) → Reached h s → Given e.call → Does s e.call e.answer t → Reached (e ∷ h) t

-- what a history tells of the peg k, by its calls and which of them were refused, with no sheet on the way
pub data Tells : History → ℕ → Peg → Type 0 where
  at_first : {k : ℕ} → Tells [] k blank
  by_lay : {k v : ℕ} {h : History} → Tells (record { call = laying; answer = Ok v } ∷ h) k blank
  by_clear : {k v : ℕ} {h : History} → Tells (record { call = clearing k; answer = Ok v } ∷ h) k blank
  by_enter : {k c v : ℕ} {x : Float} {h : History} (f : Function) → code_of f ≡ c → Tells (record { call = entering k c x; answer = Ok v } ∷ h) k (entered f x)
  by_work : {k f n v : ℕ} {a : Arithmetic} {h : History} {q : Peg} → Tells h k q → Part f n k → q.mark ≡ Entered → Tells (record { call = working f n a; answer = Ok v } ∷ h) k (worked a q)
  past_refusal : {k : ℕ} {c : Call} {e : Fault} {h : History} {q : Peg} → Tells h k q → Tells (record { call = c; answer = Err e } ∷ h) k q
  past_read : {k p v : ℕ} {h : History} {q : Peg} → Tells h k q → Tells (record { call = reading p; answer = Ok v } ∷ h) k q
  past_clear : {k p v : ℕ} {h : History} {q : Peg} → Tells h k q → (k ≢ p) → Tells (record { call = clearing p; answer = Ok v } ∷ h) k q
  past_enter : {k p c v : ℕ} {x : Float} {h : History} {q : Peg} → Tells h k q → (k ≢ p) → Tells (record { call = entering p c x; answer = Ok v } ∷ h) k q
  past_work : {k f n v : ℕ} {a : Arithmetic} {h : History} {q : Peg} → Tells h k q → (Part f n k → q.mark ≢ Entered) → Tells (record { call = working f n a; answer = Ok v } ∷ h) k q

-- a lay that is not refused begins a history
abbrev pub Starts : Answer → Sheet → Type 0
Starts (Ok n) t = Reached [] t
Starts (Err e) t = Unit {0}

-- a sheet after a history: its size, and each peg sound and as the history tells it
pub record Stands (h : History) (t : Sheet) : Type 0 where
  pub some_peg : 1 ≤ length t
  pub not_too_many : length t ≤ largest
  pub told : (k : ℕ) → k < length t → Tells h k (peg t k)
  pub sound : (k : ℕ) → k < length t → Sound (peg t k)

-- the same call, but for the arithmetic of a work
abbrev pub SameCall : Call → Call → Type 0
SameCall laying d = d ≡ laying
SameCall (entering p c x) d = d ≡ entering p c x
SameCall (working f n a) d = (b : Arithmetic) × (d ≡ working f n b)
SameCall (reading p) d = d ≡ reading p
SameCall (clearing p) d = d ≡ clearing p

-- the same list of calls
abbrev pub SameCalls : History → History → Type 0
SameCalls [] [] = Unit {0}
SameCalls [] (f ∷ h) = ⊥
SameCalls (e ∷ g) [] = ⊥
SameCalls (e ∷ g) (f ∷ h) = SameCall e.call f.call × SameCalls g h

-- two reads return the patterns of two figures that agree
pub record ReadBoth (c : Call) (a b : Answer) : Type 0 where
  pub number : ℕ
  pub call : c ≡ reading number
  pub function : Function
  pub input : Float
  pub one : Float
  pub other : Float
  pub agree : Agree (curve_of function) input one other
  pub one_answer : a ≡ Ok (to_bits binary32 one)
  pub other_answer : b ≡ Ok (to_bits binary32 other)

-- equal answers, save the patterns that two reads return
abbrev pub SameAnswer : Call → Answer → Answer → Type 0
SameAnswer c a b = (a ≡ b) ⊎ ReadBoth c a b

abbrev pub SameAnswers : History → History → Type 0
SameAnswers [] [] = Unit {0}
SameAnswers [] (f ∷ h) = ⊥
SameAnswers (e ∷ g) [] = ⊥
SameAnswers (e ∷ g) (f ∷ h) = SameAnswer e.call e.answer f.answer × SameAnswers g h

-- two pegs of one number, on two sheets
pub record SamePeg (q r : Peg) : Type 0 where
  pub functions : q.function ≡ r.function
  pub inputs : q.input ≡ r.input
  pub marks : q.mark ≡ r.mark
  pub figures : Agree (curve_of q.function) q.input q.figure r.figure

-- two histories and the sheets that they lead to
pub record Same (g : History) (s : Sheet) (h : History) (t : Sheet) : Type 0 where
  pub pegs : (k : ℕ) → k < length s → SamePeg (peg s k) (peg t k)
  pub answers : SameAnswers g h

-- The promise, of every list of calls, refused ones included: each call has one answer and leaves one sheet; a history tells one
-- thing of a peg; every sheet that a history leads to stands; and two histories of the same calls on sheets of one size agree.
pub record Promise : Type 0 where
  pub some : (s : Sheet) (c : Call) → (a : Answer) × (t : Sheet) × Does s c a t
  pub fixed : (s t u : Sheet) (c : Call) (a b : Answer) → Does s c a t → Does s c b u → (a ≡ b) × (t ≡ u)
  pub story : (h : History) (k : ℕ) (q r : Peg) → Tells h k q → Tells h k r → q ≡ r
  pub one : (h : History) (t : Sheet) → Reached h t → Stands h t
  pub two : (g h : History) (s t : Sheet) → Reached g s → Reached h t → SameCalls g h → length s ≡ length t → Same g s h t

-- The same at one call: it met s, answered r and left t.
pub record Kept (s : Sheet) (c : Call) (r : Answer) (t : Sheet) : Type 0 where
  pub reached : (h : History) → Reached h s → Reached (record { call = c; answer = r } ∷ h) t
  pub stands : (h : History) → Reached h s → Stands (record { call = c; answer = r } ∷ h) t
  pub agrees : (h : History) → Reached h s → (g : History) (u : Sheet) → Reached g u → SameCalls g (record { call = c; answer = r } ∷ h) → length u ≡ length t → Same g u (record { call = c; answer = r } ∷ h) t
