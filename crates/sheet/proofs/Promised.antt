-- The promise, from the theorems of the four curves: the one place that names them.
use Rattle.std.proofs.Common.{◌≡◌, length, Err, sym, refl, ap, ◌∙◌, subst}
use Rattle.std.specs.Result.{IsErrAnd}
use Rattle.std.proofs.lemmas.Result.{err_from_is_err_and}
use Rattle.accuracy.proofs.Proved.{proved}
use Rattle.sheet.specs.declared.fault.Fault.{Fault}
use Rattle.sheet.specs.Faults.{number_of}
use Rattle.sheet.specs.Pegs.{Sheet}
use Rattle.sheet.specs.Calls.{Call, Answer, Does, Refuses, laying}
use Rattle.sheet.specs.Histories.{Given, History, Reached, Stands, SameCalls, Same, Starts, Promise, Kept}
use Rattle.sheet.proofs.Runs as runs

pub promise : Promise
promise = runs.promise proved

pub stands : {h : History} {t : Sheet} → Reached h t → Stands h t
stands = runs.stands proved

pub same : {g h : History} {s t : Sheet} → Reached g s → Reached h t → SameCalls g h → length s ≡ length t → Same g s h t
same = runs.same proved

-- both clauses of a call's contract, from the first
pub both : (s : Sheet) (c : Call) (r : Answer) (t : Sheet) → Given c → Does s c r t → record { does : Does s c r t; kept : Kept s c r t }
both = runs.both proved

-- what the exit of a `?` answers, with the error e
refusal : (s : Sheet) (c : Call) (r : Answer) (e d : Fault) → IsErrAnd r (λ y. y ≡ d) → d ≡ e → Refuses s c (number_of e) → Does s c r s
refusal s c r e d x i f = let y = err_from_is_err_and r x in subst (λ a. Does s c a s) (sym (y.1 ∙ ap Err (y.2 ∙ i))) (f, refl)

pub refused : (s : Sheet) (c : Call) (r : Answer) (e d : Fault) → IsErrAnd r (λ y. y ≡ d) → d ≡ e → Given c → Refuses s c (number_of e) → record { does : Does s c r s; kept : Kept s c r s }
refused s c r e d x i g f = both s c r s g (refusal s c r e d x i f)

-- those of lay
pub all_three : (s : Sheet) (r : Answer) (t : Sheet) → Does s laying r t → record { does : Does s laying r t; kept : Kept s laying r t; starts : Starts r t }
all_three = runs.all_three proved

pub lay_refused : (s : Sheet) (r : Answer) (d : Fault) → IsErrAnd r (λ y. y ≡ d) → Refuses s laying (number_of d) → record { does : Does s laying r s; kept : Kept s laying r s; starts : Starts r s }
lay_refused s r d x f = all_three s r s (refusal s laying r d d x refl f)
