-- Every call has an answer and leaves a sheet.
use Rattle.std.proofs.Common.{◌≡◌, ℕ, ◌+◌, ◌<◌, ◌≤◌, T, ◌⊎◌, map, length, take, drop, set, replicate, Ok, Err, refl, inl, inr, ⊎_elim, arith}
use lib.Ieee.{Float, binary32, to_bits}
use lib.Ieee.Scale.{finite}
use borrow.Rule.Slice.PartMut.{put_mid}
use Rattle.std.proofs.lemmas.List.{length-replicate, get_or-replicate}
use Rattle.std.proofs.lemmas.Bool.{cases_lt, cases_eq}
use Rattle.arithmetic.specs.Arithmetic.{Arithmetic}
use Rattle.accuracy.specs.Functions.{last_code}
use Rattle.sheet.specs.declared.fault.Fault.TheVariants.{SheetSize, PartRange, FunctionCode, InputNotFinite, PegNumber, PegNotBlank, PegBlank, PegNotWorked}
use Rattle.sheet.specs.declared.peg.Mark.{Mark}
use Rattle.sheet.specs.declared.peg.Mark.TheVariants.{Blank, Entered, Worked}
use Rattle.sheet.specs.Pegs.{Sheet, peg, blank, entered}
use Rattle.sheet.specs.Calls.{Call, Answer, Does, Laid, entries, largest, laying, entering, working, reading, clearing}
use Rattle.sheet.proofs.Names.{decode, cases_T}
use Rattle.sheet.proofs.Turns.{turn, finished}
use Rattle.sheet.proofs.Lines.{lay_many, lay_none, lay_passes, work_refused, work_passes, enter_code, enter_input, enter_number, enter_again, enter_passes, read_number, read_blank, read_entered, read_passes, clear_number, clear_blank, clear_passes}

-- the sheet after a lay
pub laid_blank : (s : Sheet) → Laid s (length s) (replicate (length s) blank)
laid_blank s = record { size = length-replicate (length s) blank; all = λ k i. get_or-replicate (length s) k blank blank (omega (arith, length-replicate (length s) blank)); number = refl }

Outcome : Sheet → Call → Type 0
Outcome s c = (a : Answer) × (t : Sheet) × Does s c a t

enter_some : (s : Sheet) (p c : ℕ) (x : Float) → Outcome s (entering p c x)
unfolding Outcome
enter_some s p c x = code (cases_lt last_code c)
  where
    place : c ≤ last_code → T (finite x) → p < length s → (m : Mark) → (peg s p).mark ≡ m → Outcome s (entering p c x)
    place hc hx hp Blank e = let d = decode c hc in (Ok 0, set s p (entered d.0 x), (enter_passes s p c x hc hx hp e, record { function = d.0; code = d.1; sheet = refl; number = refl }))
    place hc hx hp Entered e = (Err PegNotBlank, s, (enter_again s p c x hc hx hp (λ b. cc), refl))
    place hc hx hp Worked e = (Err PegNotBlank, s, (enter_again s p c x hc hx hp (λ b. cc), refl))

    number : c ≤ last_code → T (finite x) → (p < length s) ⊎ (length s ≤ p) → Outcome s (entering p c x)
    number hc hx (inl h) = place hc hx h (peg s p).mark refl
    number hc hx (inr h) = (Err PegNumber, s, (enter_number s p c x hc hx h, refl))

    input : c ≤ last_code → T (finite x) ⊎ (T (finite x) → ⊥) → Outcome s (entering p c x)
    input hc (inl h) = number hc h (cases_lt p (length s))
    input hc (inr h) = (Err InputNotFinite, s, (enter_input s p c x hc h, refl))

    code : (last_code < c) ⊎ (c ≤ last_code) → Outcome s (entering p c x)
    code (inl h) = (Err FunctionCode, s, (enter_code s p c x h, refl))
    code (inr h) = input h (cases_T (finite x))

read_some : (s : Sheet) (p : ℕ) → Outcome s (reading p)
unfolding Outcome
read_some s p = number (cases_lt p (length s))
  where
    place : p < length s → (m : Mark) → (peg s p).mark ≡ m → Outcome s (reading p)
    place hp Blank e = (Err PegBlank, s, (read_blank s p hp e, refl))
    place hp Entered e = (Err PegNotWorked, s, (read_entered s p hp e, refl))
    place hp Worked e = (Ok (to_bits binary32 (peg s p).figure), s, (read_passes s p hp e, (refl, refl)))

    number : (p < length s) ⊎ (length s ≤ p) → Outcome s (reading p)
    number (inl h) = place h (peg s p).mark refl
    number (inr h) = (Err PegNumber, s, (read_number s p h, refl))

clear_some : (s : Sheet) (p : ℕ) → Outcome s (clearing p)
unfolding Outcome
clear_some s p = number (cases_lt p (length s))
  where
    place : p < length s → (m : Mark) → (peg s p).mark ≡ m → Outcome s (clearing p)
    place hp Blank e = (Err PegBlank, s, (clear_blank s p hp e, refl))
    place hp Entered e = (Ok 0, set s p blank, (clear_passes s p hp (λ b. cc), (refl, refl)))
    place hp Worked e = (Ok 0, set s p blank, (clear_passes s p hp (λ b. cc), (refl, refl)))

    number : (p < length s) ⊎ (length s ≤ p) → Outcome s (clearing p)
    number (inl h) = place h (peg s p).mark refl
    number (inr h) = (Err PegNumber, s, (clear_number s p h, refl))

lay_some : (s : Sheet) → Outcome s laying
unfolding Outcome
lay_some s = none (cases_eq (length s) 0) (cases_lt largest (length s))
  where
    none : (length s ≡ 0) ⊎ (length s ≡ 0 → ⊥) → (largest < length s) ⊎ (length s ≤ largest) → Outcome s laying
    none (inl e) i = (Err SheetSize, s, (lay_none s e, refl))
    none (inr e) (inl h) = (Err SheetSize, s, (lay_many s h, refl))
    none (inr e) (inr h) = (Ok (length s), replicate (length s) blank, (lay_passes s (omega arith) h, laid_blank s))

work_some : (s : Sheet) (f n : ℕ) (a : Arithmetic) → Outcome s (working f n a)
unfolding Outcome
work_some s f n a =
    ⊎_elim (λ h. (Err PartRange, s, (work_refused s f n a h, refl)))
    (λ h. (Ok (entries (take n (drop f s))), put_mid f n s (map (turn a) (take n (drop f s))), (work_passes s f n a h, finished s f n a h)))
    (cases_lt (length s) (f + n))

pub some : (s : Sheet) (c : Call) → (a : Answer) × (t : Sheet) × Does s c a t
unfolding Outcome
some s laying = lay_some s
some s (entering p c x) = enter_some s p c x
some s (working f n a) = work_some s f n a
some s (reading p) = read_some s p
some s (clearing p) = clear_some s p
