-- The counts of a run are those of its cards, up to the last that it takes.
use Rattle.std.proofs.Common.{◌≡◌, ℕ, suc, ◌-◌, ◌<◌, ◌≤◌, min, Bool, true, false, eqb, List, ◌∷◌, length, drop, Err, MatchBool, sym, refl, ap, subst, arith}
use Rattle.std.proofs.lemmas.Bool.{eqb-true, eqb-false}
use Rattle.arithmetic.specs.Arithmetic.{Arithmetic}
use Rattle.sheet.specs.declared.fault.Fault.TheVariants.{RunFull}
use Rattle.sheet.specs.Pegs.{Sheet}
use Rattle.cards.specs.Format.{unpacked}
use Rattle.cards.specs.declared.counts.Counts.{Counts}
use Rattle.cards.specs.Runs.{Turn, Ran, opened, next, Plays, Takes, RunsAddUp, refusals, works, counting, counted}

counting_short : (h : List Turn) → length h ≤ 65535 → counting h ≡ h
counting_short h l = ap (λ (n : ℕ). drop n h) {x = length h - 65535} {y = 0} (omega arith)

counting_long : (e : Turn) (h : List Turn) → 65535 ≤ length h → counting (e ∷ h) ≡ counting h
counting_long e h l = ap (λ (n : ℕ). drop n (e ∷ h)) {x = suc (length h) - 65535} {y = suc (length h - 65535)} (omega arith)

-- what is known of the counts n after the cards h
Known : List Turn → Counts → Type 0
Known h n = (n.taken ≡ min (length h) 65535) × (n.refused ≡ refusals (counting h)) × (n.worked ≡ min (works (counting h)) 4294967295)

same_full : (e : Turn) (h : List Turn) (n : Counts) → n.taken ≡ 65535 → Known h n → Known (e ∷ h) n
unfolding Known
same_full e h n q k =
    let l : 65535 ≤ length h = omega arith in
    let c = counting_long e h l in
    let refused = ap refusals c in
    let worked = ap works c in
    (omega arith, omega arith, omega arith)

one_more : (e : Turn) (h : List Turn) (n : Counts) → (n.taken ≡ 65535 → ⊥) → Known h n → Known (e ∷ h) (counted n (unpacked e.bytes) e.answer)
unfolding Known
one_more e h n q k =
    let l : length h < 65535 = omega arith in
    let c = counting_short h (omega arith) in
    let d = counting_short (e ∷ h) (omega arith) in
    let refused = ap refusals c in
    let refused_more = ap refusals d in
    let worked = ap works c in
    let worked_more = ap works d in
    (omega arith, omega arith, omega arith)

one_card : (h : List Turn) (n m : Counts) (s t : Sheet) (a : Arithmetic) (e : Turn) → Known h n → Takes a e.bytes n s e.answer t m → Known (e ∷ h) m
one_card h n m s t a e known = go (eqb n.taken 65535) refl
  where
    go : (b : Bool) → eqb n.taken 65535 ≡ b → MatchBool b ((e.answer ≡ Err RunFull) × (t ≡ s) × (m ≡ n)) (Plays a (unpacked e.bytes) s e.answer t × (m ≡ counted n (unpacked e.bytes) e.answer)) → Known (e ∷ h) m
    go true q w = subst (Known (e ∷ h)) (sym w.2) (same_full e h n (eqb-true n.taken 65535 q) known)
    go false q w = subst (Known (e ∷ h)) (sym w.1) (one_more e h n (eqb-false n.taken 65535 q) known)

known_of : {h : List Turn} {n : Counts} → Ran h n → Known h n
known_of opened = unfold Known in (refl, refl, refl)
known_of (next {h} {n} {m} s t a e r k) = one_card h n m s t a e (known_of r) k

pub runs_add_up_lem : RunsAddUp
unfolding Known
runs_add_up_lem h n r = known_of r
