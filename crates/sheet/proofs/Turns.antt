-- What a work makes of a part, peg by peg.
use Rattle.std.proofs.Common.{◌≡◌, ◌≢◌, ℕ, ◌+◌, ◌-◌, ◌<◌, ◌≤◌, false, cond, ◌++◌, map, length, take, drop, get_or, set, sym, refl, ap, ◌∙◌, ⊎_elim, append-nil, arith, rules}
use borrow.Rule.Slice.PartMut.{put_mid}
use Rattle.std.proofs.Math.ListN.{get_or-map}
use Rattle.std.proofs.lemmas.List.{places, get_or_default, take_all, drop_all, length-append, length-take, length-drop, length-map}
use Rattle.std.proofs.lemmas.List.Edits.{map_over_more}
use Rattle.std.proofs.lemmas.List.Sums.{count_by_more_yes, count_by_more_no}
use Rattle.arithmetic.specs.Arithmetic.{Arithmetic}
use Rattle.sheet.specs.declared.peg.Mark.{Mark}
use Rattle.sheet.specs.declared.peg.Mark.TheVariants.{Blank, Entered, Worked}
use Rattle.sheet.specs.declared.peg.Peg.{Peg}
use Rattle.sheet.specs.Pegs.{Sheet, peg, blank, worked}
use Rattle.sheet.specs.Calls.{Finished, Part, entries, is_entered}
use Rattle.sheet.proofs.Names.{cases_in}

-- a peg of the part after a work
abbrev pub turn : Arithmetic → Peg → Peg
turn a q = cond (is_entered q.mark) (worked a q) q

not_entered : (m : Mark) → m ≢ Entered → is_entered m ≡ false
not_entered Blank h = refl
not_entered Entered h = absurd (h refl)
not_entered Worked h = refl

turn_entered : (a : Arithmetic) (q : Peg) → q.mark ≡ Entered → turn a q ≡ worked a q
turn_entered a q e = ap (λ m. cond (is_entered m) (worked a q) q) e

turn_other : (a : Arithmetic) (q : Peg) → q.mark ≢ Entered → turn a q ≡ q
turn_other a q h = ap (λ b. cond b (worked a q) q) (not_entered q.mark h)

-- ---- the turns of the pegs of a part

-- the first i pegs of the part s had their turn, which left t, and v of them were entered
pub record Turned (a : Arithmetic) (s : Sheet) (i v : ℕ) (t : Sheet) : Type 0 where
  pub pegs : t ≡ map (turn a) (take i s) ++ drop i s
  pub number : v ≡ entries (take i s)

-- the turn of the next peg, as it is read at the default d
module _ {a : Arithmetic} {s t : Sheet} {i v : ℕ} (w : Turned a s i v t) (within : i < length s) (d : Peg) where
  q : Peg
  q = get_or t i d

  before : q ≡ get_or s i d
  unfolding q
  before =
      let many : length (map (turn a) (take i s)) ≡ i = simp (length-map, length-take) (omega arith) in
      ap (λ p. get_or p i d) w.pegs ∙ search (rules, places)

  all : set t i (turn a q) ≡ map (turn a) (take (i + 1) s) ++ drop (i + 1) s
  unfolding q
  all =
      let size = simp (length-append, length-map, length-take, length-drop) at (ap length w.pegs) in
      map_over_more (turn a) s t i q within w.pegs (get_or_default t i d q (omega arith))

  pub turned_entered : (get_or t i d).mark ≡ Entered → Turned a s (i + 1) (v + 1) (set t i (worked a (get_or t i d)))
  unfolding q
  turned_entered e = record { pegs = ap (set t i) (sym (turn_entered a q e)) ∙ all; number = ap (λ n. n + 1) w.number ∙ sym (count_by_more_yes (λ p. is_entered p.mark) s i d within (ap (λ p. is_entered p.mark) (sym before) ∙ ap is_entered e)) }

  pub turned_other : (get_or t i d).mark ≢ Entered → Turned a s (i + 1) v (set t i (get_or t i d))
  unfolding q
  turned_other h = record { pegs = ap (set t i) (sym (turn_other a q h)) ∙ all; number = w.number ∙ sym (count_by_more_no (λ p. is_entered p.mark) s i d within (ap (λ p. is_entered p.mark) (sym before) ∙ not_entered q.mark h)) }

-- ---- the sheet after them

place_in : (f n : ℕ) (s p : Sheet) (k : ℕ) → f + n ≤ length s → length p ≡ n → Part f n k → peg (put_mid f n s p) k ≡ peg p (k - f)
place_in f n s p k h e i = search (rules, places)

place_out : (f n : ℕ) (s p : Sheet) (k : ℕ) → f + n ≤ length s → length p ≡ n → (Part f n k → ⊥) → peg (put_mid f n s p) k ≡ peg s k
place_out f n s p k h e i = grind (arith, places)

size_put : (f n : ℕ) (s p : Sheet) → f + n ≤ length s → length p ≡ n → length (put_mid f n s p) ≡ length s
size_put f n s p h e = simp (length-append, length-take, length-drop) (omega arith)

-- of no peg, any sheet is as it was
pub finished_none : (s : Sheet) (f n : ℕ) (a : Arithmetic) → n ≡ 0 → Finished s f n a 0 s
finished_none s f n a e = record { size = refl; inside = λ k p _. absurd (omega (arith, p.0, p.1)); others = λ k _. refl; number = ap (λ i. entries (take i (drop f s))) (sym e) }

-- every peg of the part had its turn
pub finished : (s : Sheet) (f n : ℕ) (a : Arithmetic) → f + n ≤ length s → Finished s f n a (entries (take n (drop f s))) (put_mid f n s (map (turn a) (take n (drop f s))))
finished s f n a h = record { size = size_put f n s _ h many; inside = λ k i e. here k i ∙ turn_entered a (peg s k) e; others = others; number = refl }
  where
    many : length (map (turn a) (take n (drop f s))) ≡ n
    many = simp (length-map, length-take, length-drop) (omega arith)

    here : (k : ℕ) → Part f n k → peg (put_mid f n s (map (turn a) (take n (drop f s)))) k ≡ turn a (peg s k)
    here k i =
        let part : peg (take n (drop f s)) (k - f) ≡ peg s k = search (rules, places) in
        place_in f n s _ k h many i ∙ get_or-map (turn a) (take n (drop f s)) (k - f) blank ∙ ap (turn a) part

    others : (k : ℕ) → (Part f n k → (peg s k).mark ≢ Entered) → peg (put_mid f n s (map (turn a) (take n (drop f s)))) k ≡ peg s k
    others k o = ⊎_elim (λ i. here k i ∙ turn_other a (peg s k) (o i)) (λ out. place_out f n s _ k h many out) (cases_in f n k)

-- the same from the turns, where the part's bounds have other names
pub finished_turns : (s : Sheet) (f n g m i v : ℕ) (a : Arithmetic) (t : Sheet) → g ≡ f → m ≡ n → f + n ≤ length s → length (take m (drop g s)) ≤ i → Turned a (take m (drop g s)) i v t → Finished s f n a v (put_mid g m s t)
finished_turns s f n g m i v a t e d h hi w =
    let u : Turned a (take n (drop f s)) i v t = rw (e, d) at w in
    let many : length (take n (drop f s)) ≤ i = rw (e, d) at hi in
    let pegs : t ≡ map (turn a) (take n (drop f s)) = u.pegs ∙ simp (take_all i (take n (drop f s)) many, drop_all i (take n (drop f s)) many, append-nil) in
    let number : v ≡ entries (take n (drop f s)) = u.number ∙ ap entries (take_all i (take n (drop f s)) many) in
    rw (e, d, pegs, number) (finished s f n a h)
