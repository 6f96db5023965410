-- Marks, codes and numbers are told apart.
use Rattle.std.proofs.Common.{◌≡◌, ℕ, zero, suc, ◌+◌, ◌<◌, ◌≤◌, Bool, true, false, T, ◌⊎◌, sym, refl, ◌∙◌, subst, inl, inr, ⊎_elim, arith, rules}
use lib.Ieee.{Float, nan, inf, fin}
use lib.Ieee.Scale.{finite}
use Rattle.std.specs.Float.{float_is_finite as is_finite}
use Rattle.std.proofs.lemmas.Bool.{cases_lt}
use Rattle.accuracy.specs.declared.function.Function.{Function}
use Rattle.accuracy.specs.declared.function.Function.TheVariants.{Exp, Exp2, Exp10, Expm1}
use Rattle.accuracy.specs.Functions.{code_of, last_code}
use Rattle.sheet.specs.declared.fault.Fault.{Fault}
use Rattle.sheet.specs.declared.peg.Mark.{Mark}
use Rattle.sheet.specs.declared.peg.Mark.TheVariants.{Blank, Entered, Worked}
use Rattle.sheet.specs.Faults.{number_of}
use Rattle.sheet.specs.Calls.{Part}

-- entered or not
pub cases_entered : (m : Mark) → (m ≡ Entered) ⊎ (m ≡ Entered → ⊥)
cases_entered Blank = inr (λ e. cc)
cases_entered Entered = inl refl
cases_entered Worked = inr (λ e. cc)

-- in the part or not
pub cases_in : (f n k : ℕ) → Part f n k ⊎ (Part f n k → ⊥)
cases_in f n k = go (cases_lt k f) (cases_lt k (f + n))
  where
    go : (k < f) ⊎ (f ≤ k) → (k < f + n) ⊎ (f + n ≤ k) → Part f n k ⊎ (Part f n k → ⊥)
    go (inl h) i = inr (λ p. omega (arith, p.0))
    go (inr h) (inr i) = inr (λ p. omega (arith, p.1))
    go (inr h) (inl i) = inl (h, i)

-- an entered peg of the part, or another
pub cases_part : (f n k : ℕ) (m : Mark) → (Part f n k × (m ≡ Entered)) ⊎ (Part f n k → m ≡ Entered → ⊥)
cases_part f n k m = ⊎_elim (λ i. ⊎_elim (λ e. inl (i, e)) (λ ne. inr (λ _. ne)) (cases_entered m)) (λ out. inr (λ i. absurd (out i))) (cases_in f n k)

pub fault_one : (d e : Fault) → number_of d ≡ number_of e → d ≡ e
fault_one d e h = search rules

pub function_one : (f g : Function) → code_of f ≡ code_of g → f ≡ g
function_one f g h = search rules

-- each code up to the last has a function
pub decode : (c : ℕ) → c ≤ last_code → (f : Function) × (code_of f ≡ c)
decode zero h = (Exp, refl)
decode (suc zero) h = (Exp2, refl)
decode (suc (suc zero)) h = (Exp10, refl)
decode (suc (suc (suc zero))) h = (Expm1, refl)
decode (suc (suc (suc (suc c)))) h = absurd (omega arith)

pub code_low : (f : Function) (c : ℕ) → code_of f ≡ c → c ≤ last_code
code_low Exp c e = omega arith
code_low Exp2 c e = omega arith
code_low Exp10 c e = omega arith
code_low Expm1 c e = omega arith

-- the two tests of a finite float are one
pub finite_is : (x : Float) → is_finite x ≡ finite x
unfolding is_finite
finite_is nan = refl
finite_is (inf s) = refl
finite_is (fin s m e) = refl

pub finite_tested : (x : Float) → true ≡ is_finite x → T (finite x)
finite_tested x e = subst T (e ∙ finite_is x) tt

pub finite_refused : (x : Float) → false ≡ is_finite x → T (finite x) → ⊥
finite_refused x e h = subst T (sym (e ∙ finite_is x)) h

pub cases_T : (b : Bool) → T b ⊎ (T b → ⊥)
cases_T true = inl tt
cases_T false = inr (λ t. t)
