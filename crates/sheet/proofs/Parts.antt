-- A work on any part of any sheet, also one that goes beyond the last peg, by recursion.
use Rattle.std.proofs.Common.{◌≡◌, ℕ, zero, suc, ◌+◌, ◌<◌, ◌≤◌, ◌⊎◌, [], ◌∷◌, length, refl, ap, inl, inr, arith}
use Rattle.arithmetic.specs.Arithmetic.{Arithmetic}
use Rattle.sheet.specs.declared.peg.Mark.TheVariants.{Blank, Entered}
use Rattle.sheet.specs.declared.peg.Peg.{Peg}
use Rattle.sheet.specs.Pegs.{Sheet, peg, worked}
use Rattle.sheet.proofs.Names.{cases_entered}

-- a peg of the part after a work
advanced : Arithmetic → (q : Peg) → (q.mark ≡ Entered) ⊎ (q.mark ≡ Entered → ⊥) → Peg
advanced a q (inl e) = worked a q
advanced a q (inr e) = q

-- the sheet after a work
work_at : Arithmetic → ℕ → ℕ → Sheet → Sheet
work_at a zero zero s = s
work_at a zero (suc n) [] = []
work_at a zero (suc n) (q ∷ s) = advanced a q (cases_entered q.mark) ∷ work_at a zero n s
work_at a (suc f) n [] = []
work_at a (suc f) n (q ∷ s) = q ∷ work_at a f n s

at_size : (a : Arithmetic) (f n : ℕ) (s : Sheet) → length (work_at a f n s) ≡ length s
unfolding work_at
at_size a zero zero s = refl
at_size a zero (suc n) [] = refl
at_size a zero (suc n) (q ∷ s) = ap suc (at_size a zero n s)
at_size a (suc f) n [] = refl
at_size a (suc f) n (q ∷ s) = ap suc (at_size a f n s)

advanced_entered : (a : Arithmetic) (q : Peg) (d : (q.mark ≡ Entered) ⊎ (q.mark ≡ Entered → ⊥)) → q.mark ≡ Entered → advanced a q d ≡ worked a q
unfolding advanced
advanced_entered a q (inl e) h = refl
advanced_entered a q (inr e) h = absurd (e h)

advanced_other : (a : Arithmetic) (q : Peg) (d : (q.mark ≡ Entered) ⊎ (q.mark ≡ Entered → ⊥)) → (q.mark ≡ Entered → ⊥) → advanced a q d ≡ q
unfolding advanced
advanced_other a q (inl e) h = absurd (h e)
advanced_other a q (inr e) h = refl

none_entered : Blank ≡ Entered → ⊥
none_entered e = cc

at_inside : (a : Arithmetic) (f n : ℕ) (s : Sheet) (k : ℕ) → f ≤ k → k < f + n → (peg s k).mark ≡ Entered → peg (work_at a f n s) k ≡ worked a (peg s k)
unfolding work_at
at_inside a zero zero s k l h e = absurd (omega arith)
at_inside a zero (suc n) [] k l h e = absurd (none_entered e)
at_inside a zero (suc n) (q ∷ s) zero l h e = advanced_entered a q (cases_entered q.mark) e
at_inside a zero (suc n) (q ∷ s) (suc k) l h e = at_inside a zero n s k (omega arith) (omega arith) e
at_inside a (suc f) n [] k l h e = absurd (none_entered e)
at_inside a (suc f) n (q ∷ s) zero l h e = absurd (omega arith)
at_inside a (suc f) n (q ∷ s) (suc k) l h e = at_inside a f n s k (omega arith) (omega arith) e

at_others : (a : Arithmetic) (f n : ℕ) (s : Sheet) (k : ℕ) → (f ≤ k → k < f + n → (peg s k).mark ≡ Entered → ⊥) → peg (work_at a f n s) k ≡ peg s k
unfolding work_at
at_others a zero zero s k h = refl
at_others a zero (suc n) [] k h = refl
at_others a zero (suc n) (q ∷ s) zero h = advanced_other a q (cases_entered q.mark) (h (omega arith) (omega arith))
at_others a zero (suc n) (q ∷ s) (suc k) h = at_others a zero n s k (λ l u. h (omega arith) (omega arith))
at_others a (suc f) n [] k h = refl
at_others a (suc f) n (q ∷ s) zero h = refl
at_others a (suc f) n (q ∷ s) (suc k) h = at_others a f n s k (λ l u. h (omega arith) (omega arith))
