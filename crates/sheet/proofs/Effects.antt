-- What a call that is not refused makes of the peg of a number.
use Rattle.std.proofs.Common.{◌≡◌, ◌≢◌, ℕ, ◌<◌, length, set, sym, subst, ⊎_elim}
use Rattle.std.proofs.lemmas.List.{get_or_past, get_or-set_same, get_or-set_other}
use Rattle.std.proofs.lemmas.Bool.{cases_eq, cases_lt}
use Rattle.arithmetic.specs.Arithmetic.{Arithmetic}
use Rattle.sheet.specs.declared.peg.Mark.TheVariants.{Entered}
use Rattle.sheet.specs.declared.peg.Peg.{Peg}
use Rattle.sheet.specs.Pegs.{Sheet, peg, blank, worked}
use Rattle.sheet.specs.Calls.{Laid, Finished, Part}
use Rattle.sheet.proofs.Names.{cases_part}

pub laid_peg : {s t : Sheet} {v : ℕ} → Laid s v t → (k : ℕ) → peg t k ≡ blank
laid_peg {t = t} d k = ⊎_elim (d.all k) (get_or_past t k blank) (cases_lt k (length t))

-- a peg was written, and every other is as before
pub set_peg : (P : ℕ → Peg → Type 0) (s : Sheet) (p : ℕ) (q : Peg) → p < length s → P p q → ((k : ℕ) → k ≢ p → P k (peg s k)) → (k : ℕ) → P k (peg (set s p q) k)
set_peg P s p q h here other k =
    ⊎_elim (λ e. subst (λ i. P i (peg (set s p q) i)) (sym e) (subst (P p) (sym (get_or-set_same s p q blank h)) here))
    (λ ne. subst (P k) (sym (get_or-set_other s p k q blank ne)) (other k ne)) (cases_eq k p)

pub finished_peg : (P : Peg → Type 0) {s t : Sheet} {f n v : ℕ} {a : Arithmetic} → Finished s f n a v t → (k : ℕ) → (Part f n k → (peg s k).mark ≡ Entered → P (worked a (peg s k))) → ((Part f n k → (peg s k).mark ≢ Entered) → P (peg s k)) → P (peg t k)
finished_peg P {s} {t} {f} {n} d k inside others =
    ⊎_elim (λ i. subst P (sym (d.inside k i.0 i.1)) (inside i.0 i.1)) (λ o. subst P (sym (d.others k o)) (others o)) (cases_part f n k (peg s k).mark)
