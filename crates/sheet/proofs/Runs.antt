-- Every history keeps the promise, once the four curves are proved.
use Rattle.std.proofs.Common.{◌≡◌, ℕ, ◌<◌, ◌≤◌, T, ◌⊎◌, ◌∷◌, length, set, Ok, Err, sym, refl, ap, ◌∙◌, subst, inl, inr, ⊎_elim, arith}
use lib.Ieee.{Float, binary32, fits, of_bits, of_fields, odd}
use lib.Ieee.Scale.{finite}
use Rattle.std.proofs.Math.Nat.{lt_of_not-le}
use Rattle.std.proofs.lemmas.Bool.{cases_eq, cases_lt}
use Rattle.exact.specs.Exact.{Function as Curve}
use Rattle.arithmetic.specs.Arithmetic.{Arithmetic, Lawful}
use Rattle.accuracy.specs.Figures.{figure, Right, Exactly, Agree, equal}
use Rattle.accuracy.specs.Theorems.{Proved}
use Rattle.accuracy.specs.declared.function.Function.{Function}
use Rattle.accuracy.specs.Functions.{curve_of}
use Rattle.sheet.specs.declared.peg.Mark.{Mark}
use Rattle.sheet.specs.declared.peg.Mark.TheVariants.{Blank, Entered, Worked}
use Rattle.sheet.specs.declared.peg.Peg.{Peg}
use Rattle.sheet.specs.Pegs.{Sheet, Sound, peg, nought, blank, entered, worked}
use Rattle.sheet.specs.Calls.{Call, Answer, Does, Finished, Laid, largest, laying, entering, working, reading, clearing, no_peg, too_many, not_finite, no_peg_to_enter, no_peg_to_clear}
use Rattle.sheet.specs.Histories.{Given, History, Reached, laid, after, Starts, Stands, SameCalls, SameAnswers, Same, Promise, Kept}
use Rattle.sheet.proofs.Names.{cases_T}
use Rattle.sheet.proofs.Effects.{laid_peg, set_peg, finished_peg}
use Rattle.sheet.proofs.Total.{some}
use Rattle.sheet.proofs.Pairs.{TwinPeg, Twin, Near, both_blank, does_twin, does_size, does_once}
use Rattle.sheet.proofs.Stories.{reached_told, tells_one}

-- ---- what holds of each peg of a sheet that is reached

record Ready (q : Peg) : Type 0 where
  number : T (finite q.input)
  held : T (fits binary32 q.input)

FineAt : Mark → Peg → Type 0
FineAt Blank q = q ≡ blank
FineAt Entered q = Ready q × (q.figure ≡ nought)
FineAt Worked q = (a : Arithmetic) × Lawful a × Ready q × (q.figure ≡ figure (curve_of q.function) a q.input)

Fine : Peg → Type 0
Fine q = FineAt q.mark q

fine_blank : Fine blank
unfolding Fine FineAt
fine_blank = refl

fine_entered : (f : Function) (x : Float) → T (finite x) → T (fits binary32 x) → Fine (entered f x)
unfolding Fine FineAt
fine_entered f x hx hf = (record { number = hx; held = hf }, refl)

fine_worked : (a : Arithmetic) → Lawful a → (q : Peg) → q.mark ≡ Entered → Fine q → Fine (worked a q)
unfolding Fine FineAt
fine_worked a l q e f = let g : FineAt Entered q = subst (λ m. FineAt m q) e f in (a, l, record { number = g.0.number; held = g.0.held }, refl)

All : Sheet → Type 0
All s = (k : ℕ) → Fine (peg s k)

all_set : (s : Sheet) (p : ℕ) (q : Peg) → p < length s → Fine q → All s → All (set s p q)
unfolding All
all_set s p q hp fq f = set_peg (λ _. Fine) s p q hp fq (λ k _. f k)

all_worked : (s t : Sheet) (f n v : ℕ) (a : Arithmetic) → Lawful a → Finished s f n a v t → All s → All t
unfolding All
all_worked s t f n v a l d g k = finished_peg Fine d k (λ _ e. fine_worked a l (peg s k) e (g k)) (λ _. g k)

all_blank : (s t : Sheet) (v : ℕ) → Laid s v t → All t
unfolding All
all_blank s t v d k = subst Fine (sym (laid_peg d k)) fine_blank

holds_of : (x : Float) → ((T (finite x) → ⊥) → ⊥) → T (finite x)
holds_of x h = ⊎_elim (λ t. t) (λ n. absurd (h n)) (cases_T (finite x))

all_kept : (s t : Sheet) (c : Call) (r : Answer) → Given c → Does s c r t → All s → All t
all_kept s t c (Err e) g d f = subst All (sym d.1) f
all_kept s t laying (Ok v) g d f = all_blank s t v d.1
all_kept s t (entering p c x) (Ok v) g d f =
    subst All (sym d.1.sheet)
    (all_set s p (entered d.1.function x) (lt_of_not-le (λ h. d.0 8 (no_peg_to_enter h))) (fine_entered d.1.function x (holds_of x (λ h. d.0 7 (not_finite h))) g) f)
all_kept s t (working p n a) (Ok v) g d f = all_worked s t p n v a g d.1 f
all_kept s t (reading p) (Ok v) g d f = subst All (sym d.1.0) f
all_kept s t (clearing p) (Ok v) g d f = subst All (sym d.1.0) (all_set s p blank (lt_of_not-le (λ h. d.0 8 (no_peg_to_clear h))) fine_blank f)

reached_all : {h : History} {t : Sheet} → Reached h t → All t
reached_all (laid {s = s} {t = t} {n = n} d) = all_blank s t n d.1
reached_all (after {s = s} {t = t} e r g d) = all_kept s t e.call e.answer g d (reached_all r)

-- ---- the size of a sheet that is reached

reached_size : {h : History} {t : Sheet} → Reached h t → (1 ≤ length t) × (length t ≤ largest)
reached_size (laid {s = s} {t = t} {n = n} d) = (from (cases_eq (length s) 0), to (cases_lt largest (length s)))
  where
    from : (length s ≡ 0) ⊎ (length s ≡ 0 → ⊥) → 1 ≤ length t
    from (inl e) = absurd (d.0 1 (no_peg e))
    from (inr e) = omega (arith, d.1.size)

    to : (largest < length s) ⊎ (length s ≤ largest) → length t ≤ largest
    to (inl e) = absurd (d.0 1 (too_many e))
    to (inr e) = omega (arith, d.1.size)
reached_size (after {s = s} {t = t} e r g d) = let z = reached_size r in let same : length t ≡ length s = does_size s t e.call e.answer d in (omega (arith, z.0), omega (arith, z.1))

-- ---- the promise

nought_finite : T (finite nought)
unfolding of_bits of_fields odd
nought_finite = tt

fine_input : (q : Peg) → Fine q → T (finite q.input)
unfolding Fine FineAt
fine_input q f = go q.mark f
  where
    go : (m : Mark) → FineAt m q → T (finite q.input)
    go Blank e = subst (λ r. T (finite r.input)) (sym e) nought_finite
    go Entered e = e.0.number
    go Worked e = e.2.number

module _ (proved : (f : Curve) → Proved f) where
  sound : (q : Peg) → Fine q → Sound q
  unfolding Fine FineAt
  sound q f = record { blank_rule = λ e. at Blank e; entered_rule = λ e. (at Entered e).1; input_rule = fine_input q f; right = λ e. right (at Worked e); exact = λ e. exact (at Worked e) }
    where
      at : (m : Mark) → q.mark ≡ m → FineAt m q
      at m e = subst (λ n. FineAt n q) e f

      right : FineAt Worked q → Right (curve_of q.function) q.input q.figure
      right w = subst (Right (curve_of q.function) q.input) (sym w.3) ((proved (curve_of q.function)).right w.0 w.1 q.input w.2.held w.2.number)

      exact : FineAt Worked q → Exactly (curve_of q.function) q.input q.figure
      exact w = subst (Exactly (curve_of q.function) q.input) (sym w.3) ((proved (curve_of q.function)).exact w.0 w.1 q.input w.2.held)

  pub stands : {h : History} {t : Sheet} → Reached h t → Stands h t
  unfolding All
  stands {t = t} r = let z = reached_size r in record { some_peg = z.0; not_too_many = z.1; told = reached_told r; sound = λ k _. sound (peg t k) (reached_all r k) }

  figures : (q r : Peg) → TwinPeg q r → Fine q → Fine r → Agree (curve_of q.function) q.input q.figure r.figure
  unfolding Fine FineAt
  figures q r w f g = go q.mark f (subst (λ m. FineAt m r) (sym w.marks) g)
    where
      go : (m : Mark) → FineAt m q → FineAt m r → Agree (curve_of q.function) q.input q.figure r.figure
      go Blank x y = equal (ap (λ p. p.figure) x ∙ sym (ap (λ p. p.figure) y))
      go Entered x y = equal (x.1 ∙ sym y.1)
      go Worked x y =
          let c = curve_of q.function in
          let fy : r.figure ≡ figure c y.0 q.input = y.3 ∙ ap (λ h. figure (curve_of h) y.0 r.input) (sym w.functions) ∙ ap (figure c y.0) (sym w.inputs) in
          subst (Agree c q.input q.figure) (sym fy)
          (subst (λ u. Agree c q.input u (figure c y.0 q.input)) (sym x.3) ((proved c).agrees x.0 y.0 x.1 y.1 q.input x.2.held x.2.number))

  pub twins : {g h : History} {s t : Sheet} → Reached g s → Reached h t → SameCalls g h → length s ≡ length t → Twin s t × SameAnswers g h
  unfolding All
  twins (laid {s = s} {t = t} {n = n} d) (laid {s = s'} {t = t'} {n = n'} d') al e = (both_blank s t s' t' n n' (sym d.1.size ∙ e ∙ d'.1.size) d.1 d'.1, tt)
  twins (laid d) (after f r g d') al e = absurd al
  twins (after f r g d) (laid d') al e = absurd al
  twins (after {s = s} {t = t} f r g d) (after {s = s'} {t = t'} f' r' g' d') al e =
      let sizes : length s ≡ length s' = sym (does_size s t _ _ d) ∙ e ∙ does_size s' t' _ _ d' in
      let before = twins r r' al.1 sizes in
      let near : Near s s' = λ k. figures (peg s k) (peg s' k) (before.0.pegs k) (reached_all r k) (reached_all r' k) in
      let now-paired = does_twin s t s' t' f.call f'.call f.answer f'.answer before.0 near al.0 d d' in
      (now-paired.sheets, (now-paired.answers, before.1))

  pub same : {g h : History} {s t : Sheet} → Reached g s → Reached h t → SameCalls g h → length s ≡ length t → Same g s h t
  unfolding All
  same {s = s} {t = t} r r' al e =
      let w = twins r r' al e in
      record { pegs = λ k _. let z = w.0.pegs k in record { functions = z.functions; inputs = z.inputs; marks = z.marks; figures = figures (peg s k) (peg t k) z (reached_all r k) (reached_all r' k) }; answers = w.1 }

  pub promise : Promise
  promise = record { some = some; fixed = does_once; story = tells_one; one = λ h t r. stands r; two = λ g h s t r r' al e. same r r' al e }

  kept : (s : Sheet) (c : Call) (r : Answer) (t : Sheet) → Given c → Does s c r t → Kept s c r t
  kept s c r t g d =
      let more : (h : History) → Reached h s → Reached (record { call = c; answer = r } ∷ h) t = λ h w. after (record { call = c; answer = r }) w g d in
      record { reached = more; stands = λ h w. stands (more h w); agrees = λ h w g' u w' al e. same w' (more h w) al e }

  -- both clauses of a call's contract, from the first
  pub both : (s : Sheet) (c : Call) (r : Answer) (t : Sheet) → Given c → Does s c r t → record { does : Does s c r t; kept : Kept s c r t }
  both s c r t g d = record { does = d; kept = kept s c r t g d }

  starts : (s t : Sheet) (r : Answer) → Does s laying r t → Starts r t
  starts s t (Ok n) d = laid d
  starts s t (Err e) d = tt

  -- those of lay
  pub all_three : (s : Sheet) (r : Answer) (t : Sheet) → Does s laying r t → record { does : Does s laying r t; kept : Kept s laying r t; starts : Starts r t }
  all_three s r t d = record { does = d; kept = kept s laying r t tt d; starts = starts s t r d }
