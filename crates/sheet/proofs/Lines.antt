-- Which line is the first to fit a call, and when none does.
use Rattle.std.proofs.Common.{◌≡◌, ◌≢◌, ℕ, ◌+◌, ◌<◌, ◌≤◌, T, length, arith}
use lib.Ieee.{Float}
use lib.Ieee.Scale.{finite}
use Rattle.arithmetic.specs.Arithmetic.{Arithmetic}
use Rattle.accuracy.specs.Functions.{last_code}
use Rattle.sheet.specs.declared.peg.Mark.TheVariants.{Blank, Entered, Worked}
use Rattle.sheet.specs.Pegs.{Sheet, peg}
use Rattle.sheet.specs.Calls.{Line, Refuses, Passes, largest, laying, entering, working, reading, clearing, no_peg, too_many, beyond, no_code, not_finite, no_peg_to_enter, no_peg_to_read, no_peg_to_clear, not_blank, blank_to_read, blank_to_clear, not_worked}

module _ (s : Sheet) where
  -- lay
  lay_from : (m : ℕ) → m < 1 → Line s laying m → ⊥
  lay_from m l (no_peg e) = omega arith
  lay_from m l (too_many e) = omega arith

  pub lay_many : largest < length s → Refuses s laying 1
  lay_many h = record { fits = too_many h; first = lay_from }

  pub lay_none : length s ≡ 0 → Refuses s laying 1
  lay_none h = record { fits = no_peg h; first = lay_from }

  pub lay_passes : 0 < length s → length s ≤ largest → Passes s laying
  lay_passes p q n (no_peg e) = omega arith
  lay_passes p q n (too_many e) = omega arith

  -- work
  pub work_refused : (f n : ℕ) (a : Arithmetic) → length s < f + n → Refuses s (working f n a) 5
  work_refused f n a h = record { fits = beyond h; first = low }
    where
      low : (m : ℕ) → m < 5 → Line s (working f n a) m → ⊥
      low m l (beyond e) = omega arith

  pub work_passes : (f n : ℕ) (a : Arithmetic) → f + n ≤ length s → Passes s (working f n a)
  work_passes f n a h m (beyond e) = omega arith

  -- enter
  module _ (p c : ℕ) (x : Float) where
    -- below n no line fits
    enter_from : (n : ℕ) → (last_code < c → n ≤ 6) → ((T (finite x) → ⊥) → n ≤ 7) → (length s ≤ p → n ≤ 8) → ((peg s p).mark ≢ Blank → n ≤ 9) → (m : ℕ) → m < n → Line s (entering p c x) m → ⊥
    enter_from n code input number again m l (no_code e) = omega (arith, code e)
    enter_from n code input number again m l (not_finite e) = omega (arith, input e)
    enter_from n code input number again m l (no_peg_to_enter e) = omega (arith, number e)
    enter_from n code input number again m l (not_blank e) = omega (arith, again e)

    pub enter_code : last_code < c → Refuses s (entering p c x) 6
    enter_code h = record { fits = no_code h; first = enter_from 6 (λ _. omega arith) (λ _. omega arith) (λ _. omega arith) (λ _. omega arith) }

    pub enter_input : c ≤ last_code → (T (finite x) → ⊥) → Refuses s (entering p c x) 7
    enter_input hc h = record { fits = not_finite h; first = enter_from 7 (λ e. omega arith) (λ _. omega arith) (λ _. omega arith) (λ _. omega arith) }

    pub enter_number : c ≤ last_code → T (finite x) → length s ≤ p → Refuses s (entering p c x) 8
    enter_number hc hx h = record { fits = no_peg_to_enter h; first = enter_from 8 (λ e. omega arith) (λ e. absurd (e hx)) (λ _. omega arith) (λ _. omega arith) }

    pub enter_again : c ≤ last_code → T (finite x) → p < length s → (peg s p).mark ≢ Blank → Refuses s (entering p c x) 9
    enter_again hc hx hp h = record { fits = not_blank h; first = enter_from 9 (λ e. omega arith) (λ e. absurd (e hx)) (λ e. omega arith) (λ _. omega arith) }

    pub enter_passes : c ≤ last_code → T (finite x) → p < length s → (peg s p).mark ≡ Blank → Passes s (entering p c x)
    enter_passes hc hx hp hm n = enter_from (n + 1) (λ e. omega arith) (λ e. absurd (e hx)) (λ e. omega arith) (λ e. absurd (e hm)) n (omega arith)

  -- read and clear
  module _ (p : ℕ) where
    read_from : (n : ℕ) → (length s ≤ p → n ≤ 8) → ((peg s p).mark ≡ Blank → n ≤ 10) → ((peg s p).mark ≡ Entered → n ≤ 11) → (m : ℕ) → m < n → Line s (reading p) m → ⊥
    read_from n number blank entered m l (no_peg_to_read e) = omega (arith, number e)
    read_from n number blank entered m l (blank_to_read e) = omega (arith, blank e)
    read_from n number blank entered m l (not_worked e) = omega (arith, entered e)

    pub read_number : length s ≤ p → Refuses s (reading p) 8
    read_number h = record { fits = no_peg_to_read h; first = read_from 8 (λ _. omega arith) (λ _. omega arith) (λ _. omega arith) }

    pub read_blank : p < length s → (peg s p).mark ≡ Blank → Refuses s (reading p) 10
    read_blank hp h = record { fits = blank_to_read h; first = read_from 10 (λ e. omega arith) (λ _. omega arith) (λ _. omega arith) }

    pub read_entered : p < length s → (peg s p).mark ≡ Entered → Refuses s (reading p) 11
    read_entered hp h = record { fits = not_worked h; first = read_from 11 (λ e. omega arith) (λ e. cc) (λ _. omega arith) }

    pub read_passes : p < length s → (peg s p).mark ≡ Worked → Passes s (reading p)
    read_passes hp h n = read_from (n + 1) (λ e. omega arith) (λ e. cc) (λ e. cc) n (omega arith)

    clear_from : (n : ℕ) → (length s ≤ p → n ≤ 8) → ((peg s p).mark ≡ Blank → n ≤ 10) → (m : ℕ) → m < n → Line s (clearing p) m → ⊥
    clear_from n number blank m l (no_peg_to_clear e) = omega (arith, number e)
    clear_from n number blank m l (blank_to_clear e) = omega (arith, blank e)

    pub clear_number : length s ≤ p → Refuses s (clearing p) 8
    clear_number h = record { fits = no_peg_to_clear h; first = clear_from 8 (λ _. omega arith) (λ _. omega arith) }

    pub clear_blank : p < length s → (peg s p).mark ≡ Blank → Refuses s (clearing p) 10
    clear_blank hp h = record { fits = blank_to_clear h; first = clear_from 10 (λ e. omega arith) (λ _. omega arith) }

    pub clear_passes : p < length s → (peg s p).mark ≢ Blank → Passes s (clearing p)
    clear_passes hp h n = clear_from (n + 1) (λ e. omega arith) (λ e. absurd (h e)) n (omega arith)
