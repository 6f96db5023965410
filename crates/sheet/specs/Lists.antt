-- Lists of commands, carried out on one sheet or on two.
use Rattle.std.specs.Prelude.{◌≡◌, ℕ, List, map, reverse, length, Ok, Err, Result}
use Rattle.arithmetic.specs.Arithmetic.{Arithmetic}
use Rattle.sheet.specs.declared.replay.Command.{Command}
use Rattle.sheet.specs.declared.replay.Command.TheVariants.{Lay, Enter, Work, Read, Clear}
use Rattle.sheet.specs.declared.replay.Step.{Step}
use Rattle.sheet.specs.declared.replay.TwinStep.{TwinStep}
use Rattle.sheet.specs.declared.replay.LayFault.{LayFault}
use Rattle.sheet.specs.declared.replay.LayFault.TheVariants.{Left, Right}
use Rattle.sheet.specs.Faults.{number_of}
use Rattle.sheet.specs.Pegs.{Sheet}
use Rattle.sheet.specs.Calls.{Call, Answer, Does, Refuses, Passes, laying, entering, working, reading, clearing}
use Rattle.sheet.specs.Histories.{Event, History, Reached, Stands, SameCalls, Same}

-- the call that a command stands for, under an arithmetic
abbrev pub call_of : Arithmetic → Command → Call
call_of a Lay = laying
call_of a (Enter p c x) = entering p c x
call_of a (Work f n) = working f n a
call_of a (Read p) = reading p
call_of a (Clear p) = clearing p

-- a step as an event
abbrev pub event_of : {A : Type 0} → (A → Arithmetic) → Step A → Event
event_of m s = record { call = call_of (m s.arith) s.command; answer = s.answer }

-- a step for two sheets as an event on either
abbrev pub left_event : {A B : Type 0} → (A → Arithmetic) → TwinStep A B → Event
left_event m s = record { call = call_of (m s.left_arith) s.command; answer = s.left_answer }

abbrev pub right_event : {A B : Type 0} → (B → Arithmetic) → TwinStep A B → Event
right_event m s = record { call = call_of (m s.right_arith) s.command; answer = s.right_answer }

-- the history of a list of steps, the newest first, and its calls
abbrev pub history_of : {X : Type 0} → (X → Event) → List X → History
history_of event list = reverse (map event list)

abbrev pub calls_of : {X : Type 0} → (X → Event) → List X → List Call
calls_of event list = map (λ x. (event x).call) list

-- the list was carried out on the sheet s of n pegs: its calls are as before, and with their answers they are a history that leads
-- from a lay to t
pub record CarriedOut {X : Type 0} (event : X → Event) (s : Sheet) (list : List X) (n : ℕ) (t : Sheet) (done : List X) : Type 0 where
  pub number : n ≡ length s
  pub size : length t ≡ length s
  pub calls : calls_of event done ≡ calls_of event list
  pub reached : Reached (history_of event done) t
  pub stands : Stands (history_of event done) t
  pub agrees : (g : History) (u : Sheet) → Reached g u → SameCalls g (history_of event done) → length u ≡ length t → Same g u (history_of event done) t

abbrev pub Replayed : {A : Type 0} → (A → Arithmetic) → Sheet → List (Step A) → Answer → Sheet → List (Step A) → Type 0
Replayed m s list (Ok n) t done = CarriedOut (event_of m) s list n t done
Replayed m s list (Err e) t done = Does s laying (Err e) t × (done ≡ list)

-- which of two sheets cannot be laid
abbrev pub NotLaid : Sheet → Sheet → LayFault → Type 0
NotLaid s u (Left e) = Refuses s laying (number_of e)
NotLaid s u (Right e) = Passes s laying × Refuses u laying (number_of e)

-- two lays, or none
abbrev pub BothLaid : Sheet → Sheet → Result (ℕ × ℕ) LayFault → Sheet → Sheet → Type 0
BothLaid s u (Ok r) t w = Does s laying (Ok r.0) t × Does u laying (Ok r.1) w
BothLaid s u (Err e) t w = NotLaid s u e × (t ≡ s) × (w ≡ u)

-- one list on two sheets: each came from it, and where the sheets are of one size they agree
pub record BothCarriedOut {A B : Type 0} (m : A → Arithmetic) (n : B → Arithmetic) (s u : Sheet) (list : List (TwinStep A B)) (r : ℕ × ℕ) (t w : Sheet) (done : List (TwinStep A B)) : Type 0 where
  pub left : CarriedOut (left_event m) s list r.0 t done
  pub right : CarriedOut (right_event n) u list r.1 w done
  pub same : length s ≡ length u → Same (history_of (left_event m) done) t (history_of (right_event n) done) w

abbrev pub BothReplayed : {A B : Type 0} → (A → Arithmetic) → (B → Arithmetic) → Sheet → Sheet → List (TwinStep A B) → Result (ℕ × ℕ) LayFault → Sheet → Sheet → List (TwinStep A B) → Type 0
BothReplayed m n s u list (Ok r) t w done = BothCarriedOut m n s u list r t w done
BothReplayed m n s u list (Err e) t w done = NotLaid s u e × (t ≡ s) × (w ≡ u) × (done ≡ list)
