-- Two sheets with equal functions, inputs and marks: the same call answers alike and leaves two such sheets. So a call has one answer.
use Rattle.std.proofs.Common.{cond, ◌≡◌, ℕ, zero, suc, ◌<◌, [], ◌∷◌, length, take, drop, set, Ok, Err, sym, refl, ap, ◌∙◌, subst, inl, inr, ⊎_elim, arith}
use lib.Ieee.{Float}
use Rattle.std.proofs.lemmas.List.{get_or_default, get_or-set_same, get_or-set_other, length-set, same_lists}
use Rattle.std.proofs.Math.Nat.{lt_of_not-le}
use Rattle.std.proofs.lemmas.List.Sums.{sum_by-cons}
use Rattle.std.proofs.lemmas.Bool.{cases_order}
use Rattle.arithmetic.specs.Arithmetic.{Arithmetic}
use Rattle.accuracy.specs.Figures.{Agree}
use Rattle.accuracy.specs.Functions.{curve_of}
use Rattle.sheet.specs.declared.peg.Peg.{Peg}
use Rattle.sheet.specs.Faults.{number_of}
use Rattle.sheet.specs.Pegs.{Sheet, peg, blank, entered, worked}
use Rattle.sheet.specs.Calls.{Call, Answer, Does, Effect, Line, Refuses, Passes, Laid, Enters, Finished, entries, is_entered, laying, entering, working, reading, clearing, no_peg, too_many, beyond, no_code, not_finite, no_peg_to_enter, no_peg_to_read, no_peg_to_clear, not_blank, blank_to_read, blank_to_clear, not_worked}
use Rattle.sheet.specs.Histories.{SameCall, SameAnswer}
use Rattle.sheet.proofs.Names.{fault_one, function_one}
use Rattle.sheet.proofs.Effects.{laid_peg, set_peg, finished_peg}

pub record TwinPeg (q r : Peg) : Type 0 where
  pub functions : q.function ≡ r.function
  pub inputs : q.input ≡ r.input
  pub marks : q.mark ≡ r.mark

pub record Twin (s t : Sheet) : Type 0 where
  pub size : length s ≡ length t
  pub pegs : (k : ℕ) → TwinPeg (peg s k) (peg t k)

-- the figures of two sheets agree
abbrev pub Near : Sheet → Sheet → Type 0
Near s t = (k : ℕ) → Agree (curve_of (peg s k).function) (peg s k).input (peg s k).figure (peg t k).figure

twin_same : (q r : Peg) → q ≡ r → TwinPeg q r
twin_same q r e = record { functions = ap (λ p. p.function) e; inputs = ap (λ p. p.input) e; marks = ap (λ p. p.mark) e }

twin_back : {s t : Sheet} → Twin s t → Twin t s
twin_back w = record { size = sym w.size; pegs = λ k. record { functions = sym (w.pegs k).functions; inputs = sym (w.pegs k).inputs; marks = sym (w.pegs k).marks } }

twin_refl : (s : Sheet) → Twin s s
twin_refl s = record { size = refl; pegs = λ k. twin_same _ _ refl }

twin_set : (s t : Sheet) (p : ℕ) (q : Peg) → p < length s → Twin s t → Twin (set s p q) (set t p q)
twin_set s t p q hp w = record { size = length-set s p q ∙ w.size ∙ sym (length-set t p q); pegs = each }
  where
    ht : p < length t
    ht = omega (arith, w.size)

    each : (k : ℕ) → TwinPeg (peg (set s p q) k) (peg (set t p q) k)
    each =
        set_peg (λ k r. TwinPeg r (peg (set t p q) k)) s p q hp (subst (TwinPeg q) (sym (get_or-set_same t p q blank ht)) (twin_same q q refl))
        (λ k ne. subst (TwinPeg (peg s k)) (sym (get_or-set_other t p k q blank ne)) (w.pegs k))

same_back : (c d : Call) → SameCall c d → SameCall d c
same_back laying d e = subst (λ x. SameCall x laying) (sym e) refl
same_back (entering p c x) d e = subst (λ y. SameCall y (entering p c x)) (sym e) refl
same_back (working f n a) d e = subst (λ y. SameCall y (working f n a)) (sym e.1) (a, refl)
same_back (reading p) d e = subst (λ y. SameCall y (reading p)) (sym e) refl
same_back (clearing p) d e = subst (λ y. SameCall y (clearing p)) (sym e) refl

same_refl : (c : Call) → SameCall c c
same_refl laying = refl
same_refl (entering p c x) = refl
same_refl (working f n a) = (a, refl)
same_refl (reading p) = refl
same_refl (clearing p) = refl

-- a line fits by the marks and the number of pegs alone
line_twin : {s t : Sheet} {c d : Call} {n : ℕ} → Twin s t → SameCall c d → Line s c n → Line t d n
line_twin {t = t} w e (no_peg h) = subst (λ y. Line t y 1) (sym e) (no_peg (sym w.size ∙ h))
line_twin {t = t} w e (too_many h) = subst (λ y. Line t y 1) (sym e) (too_many (omega (arith, w.size)))
line_twin {t = t} w e (beyond h) = subst (λ y. Line t y 5) (sym e.1) (beyond (omega (arith, w.size)))
line_twin {t = t} w e (no_code h) = subst (λ y. Line t y 6) (sym e) (no_code h)
line_twin {t = t} w e (not_finite h) = subst (λ y. Line t y 7) (sym e) (not_finite h)
line_twin {t = t} w e (no_peg_to_enter h) = subst (λ y. Line t y 8) (sym e) (no_peg_to_enter (omega (arith, w.size)))
line_twin {t = t} w e (no_peg_to_read h) = subst (λ y. Line t y 8) (sym e) (no_peg_to_read (omega (arith, w.size)))
line_twin {t = t} w e (no_peg_to_clear h) = subst (λ y. Line t y 8) (sym e) (no_peg_to_clear (omega (arith, w.size)))
line_twin {t = t} w e (not_blank {p} h) = subst (λ y. Line t y 9) (sym e) (not_blank (λ m. h ((w.pegs p).marks ∙ m)))
line_twin {t = t} w e (blank_to_read {p} h) = subst (λ y. Line t y 10) (sym e) (blank_to_read (sym (w.pegs p).marks ∙ h))
line_twin {t = t} w e (blank_to_clear {p} h) = subst (λ y. Line t y 10) (sym e) (blank_to_clear (sym (w.pegs p).marks ∙ h))
line_twin {t = t} w e (not_worked {p} h) = subst (λ y. Line t y 11) (sym e) (not_worked (sym (w.pegs p).marks ∙ h))

-- the first line is one
first_twin : {s t : Sheet} {c d : Call} {m n : ℕ} → Twin s t → SameCall c d → Refuses s c m → Refuses t d n → m ≡ n
first_twin {c = c} {d = d} {m = m} {n = n} w e p q =
    ⊎_elim (λ x. x)
    (⊎_elim (λ l. absurd (q.first m l (line_twin w e p.fits))) (λ l. absurd (p.first n l (line_twin (twin_back w) (same_back c d e) q.fits))))
    (cases_order m n)

entries_twin : (f n : ℕ) (s t : Sheet) → length s ≡ length t → ((k : ℕ) → TwinPeg (peg s k) (peg t k)) → entries (take n (drop f s)) ≡ entries (take n (drop f t))
entries_twin zero zero s t e w = refl
entries_twin zero (suc n) [] [] e w = refl
entries_twin zero (suc n) [] (r ∷ t) e w = absurd (omega arith)
entries_twin zero (suc n) (q ∷ s) [] e w = absurd (omega arith)
entries_twin zero (suc n) (q ∷ s) (r ∷ t) e w =
    let entered : Peg → ℕ = λ p. cond (is_entered p.mark) 1 0 in
    let here : entered q ≡ entered r = ap (λ m. cond (is_entered m) 1 0) (w 0).marks in
    let rest : entries (take n s) ≡ entries (take n t) = entries_twin zero n s t (omega arith) (λ k. w (suc k)) in
    omega (arith, sum_by-cons entered q (take n s), sum_by-cons entered r (take n t))
entries_twin (suc f) n [] [] e w = refl
entries_twin (suc f) n [] (r ∷ t) e w = absurd (omega arith)
entries_twin (suc f) n (q ∷ s) [] e w = absurd (omega arith)
entries_twin (suc f) n (q ∷ s) (r ∷ t) e w = entries_twin f n s t (omega arith) (λ k. w (suc k))

-- what the two calls leave
pub record Paired (t : Sheet) (c : Call) (a : Answer) (u : Sheet) (b : Answer) : Type 0 where
  pub sheets : Twin t u
  pub answers : SameAnswer c a b

paired_at : {t u t' u' : Sheet} {c : Call} {a b : Answer} → t' ≡ t → u' ≡ u → Paired t c a u b → Paired t' c a u' b
paired_at {t} {u} {t'} {u'} {c} {a} {b} e f p = subst (λ y. Paired y c a u' b) (sym e) (subst (λ y. Paired t c a y b) (sym f) p)

pub both_blank : (s t s' t' : Sheet) (v w : ℕ) → length s ≡ length s' → Laid s v t → Laid s' w t' → Twin t t'
both_blank s t s' t' v w e d d' = record { size = d.size ∙ e ∙ sym d'.size; pegs = λ k. twin_same _ _ (laid_peg d k ∙ sym (laid_peg d' k)) }

both_worked : (s t s' t' : Sheet) (f n v w : ℕ) (a b : Arithmetic) → Twin s s' → Finished s f n a v t → Finished s' f n b w t' → Twin t t'
both_worked s t s' t' f n v w a b z d d' = record { size = d.size ∙ z.size ∙ sym d'.size; pegs = each }
  where
    each : (k : ℕ) → TwinPeg (peg t k) (peg t' k)
    each k =
        finished_peg (λ r. TwinPeg r (peg t' k)) d k
        (λ i e. subst (TwinPeg (worked a (peg s k))) (sym (d'.inside k i (sym (z.pegs k).marks ∙ e))) (record { functions = (z.pegs k).functions; inputs = (z.pegs k).inputs; marks = refl }))
        (λ o. subst (TwinPeg (peg s k)) (sym (d'.others k (λ p e. o p ((z.pegs k).marks ∙ e)))) (z.pegs k))

both_entered : (s t s' t' : Sheet) (p c v w : ℕ) (x : Float) → p < length s → Twin s s' → Enters s p c x v t → Enters s' p c x w t' → Paired t (entering p c x) (Ok v) t' (Ok w)
both_entered s t s' t' p c v w x hp z d d' =
    let same : d'.function ≡ d.function = function_one d'.function d.function (d'.code ∙ sym d.code) in
    paired_at d.sheet (d'.sheet ∙ ap (λ f. set s' p (entered f x)) same) (record { sheets = twin_set s s' p (entered d.function x) hp z; answers = inl (ap Ok (d.number ∙ sym d'.number)) })

effects_twin : (s t s' t' : Sheet) (c d : Call) (v w : ℕ) → Twin s s' → Near s s' → SameCall c d → Passes s c → Effect s c v t → Effect s' d w t' → Paired t c (Ok v) t' (Ok w)
effects_twin s t s' t' laying d v w z near e pass x y =
    let y' : Laid s' w t' = subst (λ q. Effect s' q w t') e y in
    record { sheets = both_blank s t s' t' v w z.size x y'; answers = inl (ap Ok (x.number ∙ z.size ∙ sym y'.number)) }
effects_twin s t s' t' (entering p c i) d v w z near e pass x y =
    let y' : Enters s' p c i w t' = subst (λ q. Effect s' q w t') e y in
    both_entered s t s' t' p c v w i (lt_of_not-le (λ h. pass 8 (no_peg_to_enter h))) z x y'
effects_twin s t s' t' (working f n a) d v w z near e pass x y =
    let y' : Finished s' f n e.0 w t' = subst (λ q. Effect s' q w t') e.1 y in
    record { sheets = both_worked s t s' t' f n v w a e.0 z x y'; answers = inl (ap Ok (x.number ∙ entries_twin f n s s' z.size z.pegs ∙ sym y'.number)) }
effects_twin s t s' t' (reading p) d v w z near e pass x y =
    let y' : Effect s' (reading p) w t' = subst (λ q. Effect s' q w t') e y in
    paired_at x.0 y'.0 (record { sheets = z; answers = inr (record { number = p; call = refl; function = (peg s p).function; input = (peg s p).input; one = (peg s p).figure; other = (peg s' p).figure; agree = near p; one_answer = ap Ok x.1; other_answer = ap Ok y'.1 }) })
effects_twin s t s' t' (clearing p) d v w z near e pass x y =
    let y' : Effect s' (clearing p) w t' = subst (λ q. Effect s' q w t') e y in
    paired_at x.0 y'.0 (record { sheets = twin_set s s' p blank (lt_of_not-le (λ h. pass 8 (no_peg_to_clear h))) z; answers = inl (ap Ok (x.1 ∙ sym y'.1)) })

pub does_twin : (s t s' t' : Sheet) (c d : Call) (a b : Answer) → Twin s s' → Near s s' → SameCall c d → Does s c a t → Does s' d b t' → Paired t c a t' b
does_twin s t s' t' c d (Ok v) (Ok w) z near e x y = effects_twin s t s' t' c d v w z near e x.0 x.1 y.1
does_twin s t s' t' c d (Ok v) (Err f) z near e x y = absurd (x.0 (number_of f) (line_twin (twin_back z) (same_back c d e) y.0.fits))
does_twin s t s' t' c d (Err f) (Ok w) z near e x y = absurd (y.0 (number_of f) (line_twin z e x.0.fits))
does_twin s t s' t' c d (Err f) (Err g) z near e x y = paired_at x.1 y.1 (record { sheets = z; answers = inl (ap Err (fault_one f g (first_twin z e x.0 y.0))) })

-- the size of a sheet stays
pub does_size : (s t : Sheet) (c : Call) (a : Answer) → Does s c a t → length t ≡ length s
does_size s t c (Err f) d = ap length d.1
does_size s t laying (Ok v) d = d.1.size
does_size s t (entering p c x) (Ok v) d = ap length d.1.sheet ∙ length-set s p _
does_size s t (working f n a) (Ok v) d = d.1.size
does_size s t (reading p) (Ok v) d = ap length d.1.0
does_size s t (clearing p) (Ok v) d = ap length d.1.0 ∙ length-set s p _

-- ---- a call has one answer and leaves one sheet

same_pegs : (t u : Sheet) → length t ≡ length u → ((k : ℕ) → peg t k ≡ peg u k) → t ≡ u
same_pegs t u e h = same_lists t u e (λ k d l. get_or_default t k d blank l ∙ h k ∙ get_or_default u k blank d (omega arith))

laid_once : (s t u : Sheet) (v w : ℕ) → Laid s v t → Laid s w u → t ≡ u
laid_once s t u v w d d' = same_pegs t u (d.size ∙ sym d'.size) (λ k. laid_peg d k ∙ sym (laid_peg d' k))

finished_once : (s t u : Sheet) (f n v w : ℕ) (a : Arithmetic) → Finished s f n a v t → Finished s f n a w u → t ≡ u
finished_once s t u f n v w a d d' = same_pegs t u (d.size ∙ sym d'.size) (λ k. finished_peg (λ r. r ≡ peg u k) d k (λ i e. sym (d'.inside k i e)) (λ o. sym (d'.others k o)))

entered_once : (s t u : Sheet) (p c v w : ℕ) (x : Float) → Enters s p c x v t → Enters s p c x w u → t ≡ u
entered_once s t u p c v w x d d' = d.sheet ∙ ap (λ f. set s p (entered f x)) (function_one d.function d'.function (d.code ∙ sym d'.code)) ∙ sym d'.sheet

effect_once : (s t u : Sheet) (c : Call) (v w : ℕ) → Effect s c v t → Effect s c w u → (v ≡ w) × (t ≡ u)
effect_once s t u laying v w x y = (x.number ∙ sym y.number, laid_once s t u v w x y)
effect_once s t u (entering p c i) v w x y = (x.number ∙ sym y.number, entered_once s t u p c v w i x y)
effect_once s t u (working f n a) v w x y = (x.number ∙ sym y.number, finished_once s t u f n v w a x y)
effect_once s t u (reading p) v w x y = (x.1 ∙ sym y.1, x.0 ∙ sym y.0)
effect_once s t u (clearing p) v w x y = (x.1 ∙ sym y.1, x.0 ∙ sym y.0)

pub does_once : (s t u : Sheet) (c : Call) (a b : Answer) → Does s c a t → Does s c b u → (a ≡ b) × (t ≡ u)
does_once s t u c (Ok v) (Ok w) x y = let e = effect_once s t u c v w x.1 y.1 in (ap Ok e.0, e.1)
does_once s t u c (Ok v) (Err f) x y = absurd (x.0 (number_of f) y.0.fits)
does_once s t u c (Err f) (Ok w) x y = absurd (y.0 (number_of f) x.0.fits)
does_once s t u c (Err f) (Err g) x y = (ap Err (fault_one f g (first_twin (twin_refl s) (same_refl c) x.0 y.0)), x.1 ∙ sym y.1)
