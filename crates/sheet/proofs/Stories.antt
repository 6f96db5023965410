-- Each peg of a sheet that is reached is as the history tells it.
use Rattle.std.proofs.Common.{◌≡◌, ℕ, ◌<◌, ◌⊎◌, [], ◌∷◌, length, set, Ok, Err, sym, refl, ap, ◌∙◌, subst, inl, inr, arith}
use Rattle.std.proofs.lemmas.List.{length-set}
use Rattle.std.proofs.Math.Nat.{lt_of_not-le}
use Rattle.accuracy.specs.declared.function.Function.{Function}
use Rattle.accuracy.specs.Functions.{code_of}
use Rattle.sheet.specs.declared.peg.Mark.TheVariants.{Entered}
use Rattle.sheet.specs.declared.peg.Peg.{Peg}
use Rattle.sheet.specs.Pegs.{Sheet, peg, blank, entered, worked}
use Rattle.sheet.specs.Calls.{Call, Answer, Does, Part, laying, entering, working, reading, clearing, no_peg_to_enter, no_peg_to_clear}
use Rattle.sheet.specs.Histories.{History, Reached, laid, after, Tells, at_first, by_lay, by_clear, by_enter, by_work, past_refusal, past_read, past_clear, past_enter, past_work}
use Rattle.sheet.proofs.Names.{function_one}
use Rattle.sheet.proofs.Effects.{set_peg, finished_peg}

abbrev Told : History → Sheet → Type 0
Told h t = (k : ℕ) → k < length t → Tells h k (peg t k)

told_set : (s : Sheet) (h h' : History) (p : ℕ) (q : Peg) → p < length s → Told h s → Tells h' p q → ((k : ℕ) (r : Peg) → Tells h k r → (k ≡ p → ⊥) → Tells h' k r) → Told h' (set s p q)
told_set s h h' p q hp w here other k hk =
    set_peg (λ i r. i < length s → Tells h' i r) s p q hp (λ _. here) (λ i ne hi. other i (peg s i) (w i hi) ne) k (omega (arith, length-set s p q))

told_more : (s t : Sheet) (h : History) (c : Call) (a : Answer) → Does s c a t → Told h s → Told (record { call = c; answer = a } ∷ h) t
told_more s t h c (Err e) d w = subst (Told (record { call = c; answer = Err e } ∷ h)) (sym d.1) (λ k hk. past_refusal (w k hk))
told_more s t h laying (Ok v) d w = λ k hk. subst (Tells _ k) (sym (d.1.all k hk)) by_lay
told_more s t h (entering p c x) (Ok v) d w =
    subst (Told (record { call = entering p c x; answer = Ok v } ∷ h)) (sym d.1.sheet)
    (told_set s h _ p (entered d.1.function x) (lt_of_not-le (λ i. d.0 8 (no_peg_to_enter i))) w (by_enter d.1.function d.1.code) (λ k r z ne. past_enter z ne))
told_more s t h (working f n a) (Ok v) d w = λ k hk.
    let in-s : k < length s = omega (arith, d.1.size) in
    finished_peg (Tells _ k) d.1 k (λ i e. by_work (w k in-s) i e) (λ o. past_work (w k in-s) o)
told_more s t h (reading p) (Ok v) d w = subst (Told (record { call = reading p; answer = Ok v } ∷ h)) (sym d.1.0) (λ k hk. past_read (w k hk))
told_more s t h (clearing p) (Ok v) d w =
    subst (Told (record { call = clearing p; answer = Ok v } ∷ h)) (sym d.1.0)
    (told_set s h _ p blank (lt_of_not-le (λ i. d.0 8 (no_peg_to_clear i))) w by_clear (λ k r z ne. past_clear z ne))

pub reached_told : {h : History} {t : Sheet} → Reached h t → (k : ℕ) → k < length t → Tells h k (peg t k)
reached_told (laid d) k hk = subst (Tells [] k) (sym (d.1.all k hk)) at_first
reached_told (after {h = h} {s = s} {t = t} e r g d) k hk = told_more s t h e.call e.answer d (λ i hi. reached_told r i hi) k hk

-- ---- a history tells one thing of a peg

-- what an event and the story before it make of the peg k
After : Call → Answer → History → ℕ → Peg → Type 0
After c (Err e) h k q = Tells h k q
After laying (Ok v) h k q = q ≡ blank
After (entering p c x) (Ok v) h k q = ((k ≡ p) × ((f : Function) × (code_of f ≡ c) × (q ≡ entered f x))) ⊎ ((k ≡ p → ⊥) × Tells h k q)
After (working f n a) (Ok v) h k q = ((r : Peg) × Tells h k r × Part f n k × (r.mark ≡ Entered) × (q ≡ worked a r)) ⊎ (Tells h k q × (Part f n k → q.mark ≡ Entered → ⊥))
After (reading p) (Ok v) h k q = Tells h k q
After (clearing p) (Ok v) h k q = ((k ≡ p) × (q ≡ blank)) ⊎ ((k ≡ p → ⊥) × Tells h k q)

Latest : History → ℕ → Peg → Type 0
Latest [] k q = q ≡ blank
Latest (e ∷ h) k q = After e.call e.answer h k q

latest : {h : History} {k : ℕ} {q : Peg} → Tells h k q → Latest h k q
unfolding Latest After
latest at_first = refl
latest by_lay = refl
latest by_clear = inl (refl, refl)
latest (by_enter f e) = inl (refl, (f, e, refl))
latest (by_work {q = q} t p e) = inl (q, t, p, e, refl)
latest (past_refusal t) = t
latest (past_read t) = t
latest (past_clear t n) = inr (n, t)
latest (past_enter t n) = inr (n, t)
latest (past_work t n) = inr (t, n)

Once : History → Type 0
Once h = (k : ℕ) (q r : Peg) → Tells h k q → Tells h k r → q ≡ r

after_one : (c : Call) (a : Answer) (h : History) → Once h → (k : ℕ) (q r : Peg) → After c a h k q → After c a h k r → q ≡ r
unfolding Once After
after_one c (Err e) h i k q r x y = i k q r x y
after_one laying (Ok v) h i k q r x y = x ∙ sym y
after_one (entering p c z) (Ok v) h i k q r (inl x) (inl y) = x.1.2 ∙ ap (λ f. entered f z) (function_one x.1.0 y.1.0 (x.1.1 ∙ sym y.1.1)) ∙ sym y.1.2
after_one (entering p c z) (Ok v) h i k q r (inl x) (inr y) = absurd (y.0 x.0)
after_one (entering p c z) (Ok v) h i k q r (inr x) (inl y) = absurd (x.0 y.0)
after_one (entering p c z) (Ok v) h i k q r (inr x) (inr y) = i k q r x.1 y.1
after_one (working f n a) (Ok v) h i k q r (inl x) (inl y) = x.4 ∙ ap (worked a) (i k x.0 y.0 x.1 y.1) ∙ sym y.4
after_one (working f n a) (Ok v) h i k q r (inl x) (inr y) = absurd (y.1 x.2 (ap (λ s. s.mark) (i k r x.0 y.0 x.1) ∙ x.3))
after_one (working f n a) (Ok v) h i k q r (inr x) (inl y) = absurd (x.1 y.2 (ap (λ s. s.mark) (i k q y.0 x.0 y.1) ∙ y.3))
after_one (working f n a) (Ok v) h i k q r (inr x) (inr y) = i k q r x.0 y.0
after_one (reading p) (Ok v) h i k q r x y = i k q r x y
after_one (clearing p) (Ok v) h i k q r (inl x) (inl y) = x.1 ∙ sym y.1
after_one (clearing p) (Ok v) h i k q r (inl x) (inr y) = absurd (y.0 x.0)
after_one (clearing p) (Ok v) h i k q r (inr x) (inl y) = absurd (x.0 y.0)
after_one (clearing p) (Ok v) h i k q r (inr x) (inr y) = i k q r x.1 y.1

pub tells_one : (h : History) (k : ℕ) (q r : Peg) → Tells h k q → Tells h k r → q ≡ r
unfolding Once Latest
tells_one [] k q r x y = latest x ∙ sym (latest y)
tells_one (e ∷ h) k q r x y = after_one e.call e.answer h (tells_one h) k q r (latest x) (latest y)
