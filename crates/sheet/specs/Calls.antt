-- The calls on a sheet, the lines that refuse one, and what one does.
use Rattle.std.specs.Prelude.{◌≡◌, ℕ, ◌+◌, ◌<◌, ◌≤◌, Bool, true, false, T, length, take, drop, count_by, Ok, Err, Result, ◌≢◌, slice_set, to_bits, Float}
use Rattle.std.specs.Float.{binary32}
use Rattle.std.specs.Float.Ieee.Scale.{finite}
use Rattle.arithmetic.specs.Arithmetic.{Arithmetic}
use Rattle.accuracy.specs.declared.function.Function.{Function}
use Rattle.accuracy.specs.Functions.{code_of, last_code}
use Rattle.sheet.specs.declared.fault.Fault.{Fault}
use Rattle.sheet.specs.declared.peg.Mark.{Mark}
use Rattle.sheet.specs.declared.peg.Mark.TheVariants.{Blank, Entered, Worked}
use Rattle.sheet.specs.Faults.{number_of}
use Rattle.sheet.specs.Pegs.{Sheet, peg, blank, entered, worked}

pub data Call : Type 0 where
  laying : Call
  entering : (peg code : ℕ) (input : Float) → Call
  working : (first count : ℕ) (a : Arithmetic) → Call
  reading : (peg : ℕ) → Call
  clearing : (peg : ℕ) → Call

abbrev pub Answer : Type 0
Answer = Result ℕ Fault

-- the most pegs that a sheet may have
abbrev pub largest : ℕ
largest = 4096

-- the lines that refuse a call, by their numbers
pub data Line (s : Sheet) : Call → ℕ → Type 0 where
  no_peg : length s ≡ 0 → Line s laying 1
  too_many : largest < length s → Line s laying 1
  beyond : {f n : ℕ} {a : Arithmetic} → length s < f + n → Line s (working f n a) 5
  no_code : {p c : ℕ} {x : Float} → last_code < c → Line s (entering p c x) 6
  not_finite : {p c : ℕ} {x : Float} → (T (finite x) → ⊥) → Line s (entering p c x) 7
  no_peg_to_enter : {p c : ℕ} {x : Float} → length s ≤ p → Line s (entering p c x) 8
  no_peg_to_read : {p : ℕ} → length s ≤ p → Line s (reading p) 8
  no_peg_to_clear : {p : ℕ} → length s ≤ p → Line s (clearing p) 8
  not_blank : {p c : ℕ} {x : Float} → ((peg s p).mark ≢ Blank) → Line s (entering p c x) 9
  blank_to_read : {p : ℕ} → (peg s p).mark ≡ Blank → Line s (reading p) 10
  blank_to_clear : {p : ℕ} → (peg s p).mark ≡ Blank → Line s (clearing p) 10
  not_worked : {p : ℕ} → (peg s p).mark ≡ Entered → Line s (reading p) 11

-- the first line that fits
pub record Refuses (s : Sheet) (c : Call) (n : ℕ) : Type 0 where
  pub fits : Line s c n
  pub first : (m : ℕ) → m < n → Line s c m → ⊥

-- no line fits
abbrev pub Passes : Sheet → Call → Type 0
Passes s c = (n : ℕ) → Line s c n → ⊥

-- a sheet may be laid, and has so many pegs
abbrev pub Sized : Sheet → Answer → Type 0
Sized s (Ok n) = Passes s laying × (n ≡ length s)
Sized s (Err e) = Refuses s laying (number_of e)

-- the part of a work: n pegs from f on
abbrev pub Part : ℕ → ℕ → ℕ → Type 0
Part f n k = (f ≤ k) × (k < f + n)

abbrev pub is_entered : Mark → Bool
is_entered Blank = false
is_entered Entered = true
is_entered Worked = false

-- how many pegs are entered
abbrev pub entries : Sheet → ℕ
entries s = count_by (λ q. is_entered q.mark) s

-- every peg is blank
pub record Laid (s : Sheet) (v : ℕ) (t : Sheet) : Type 0 where
  pub size : length t ≡ length s
  pub all : (k : ℕ) → k < length t → peg t k ≡ blank
  pub number : v ≡ length s

-- the peg is entered, with the function of the code
pub record Enters (s : Sheet) (p c : ℕ) (x : Float) (v : ℕ) (t : Sheet) : Type 0 where
  pub function : Function
  pub code : code_of function ≡ c
  pub sheet : t ≡ slice_set s p (entered function x)
  pub number : v ≡ 0

-- each entered peg of the part is worked, and every other as before
pub record Finished (s : Sheet) (f n : ℕ) (a : Arithmetic) (v : ℕ) (t : Sheet) : Type 0 where
  pub size : length t ≡ length s
  pub inside : (k : ℕ) → Part f n k → (peg s k).mark ≡ Entered → peg t k ≡ worked a (peg s k)
  pub others : (k : ℕ) → (Part f n k → (peg s k).mark ≢ Entered) → peg t k ≡ peg s k
  pub number : v ≡ entries (take n (drop f s))

-- what a call that is not refused answers, and the sheet after it
abbrev pub Effect : Sheet → Call → ℕ → Sheet → Type 0
Effect s laying v t = Laid s v t
Effect s (entering p c x) v t = Enters s p c x v t
Effect s (working f n a) v t = Finished s f n a v t
Effect s (reading p) v t = (t ≡ s) × (v ≡ to_bits binary32 (peg s p).figure)
Effect s (clearing p) v t = (t ≡ slice_set s p blank) × (v ≡ 0)

-- what a call does: the sheet that it meets, the call, its answer, the sheet after it
abbrev pub Does : Sheet → Call → Answer → Sheet → Type 0
Does s c (Ok v) t = Passes s c × Effect s c v t
Does s c (Err e) t = Refuses s c (number_of e) × (t ≡ s)
