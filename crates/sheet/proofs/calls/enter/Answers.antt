use Rattle.std.proofs.Common.{◌≡◌, ◌≢◌, T, refl, rules}
use lib.Ieee.{binary32, fits}
use Rattle.sheet.specs.declared.fault.Fault.TheVariants.{FunctionCode, PegNumber}
use Rattle.sheet.specs.declared.peg.Mark.TheVariants.{Blank}
use Rattle.sheet.specs.Pegs.{peg}
use Rattle.sheet.proofs.Names.{code_low, finite_tested, finite_refused}
use Rattle.sheet.proofs.Lines.{enter_code, enter_input, enter_number, enter_again, enter_passes}
use Rattle.sheet.proofs.Promised.{both, refused}
use Rattle.sheet.proofs.calls.enter.Goals as goal

pub returns-in_err-function : goal.returns-in_err-function
returns-in_err-function c =
    let fit : T (fits binary32 c.args.input) = search rules in
    refused _ _ _ FunctionCode _ c.from_residual.ensures.1 refl fit (enter_code _ _ _ _ c.in_err-function.ensures)

pub returns-then-not-is_finite : goal.returns-then-not-is_finite
returns-then-not-is_finite c =
    let fit : T (fits binary32 c.args.input) = search rules in
    let low = code_low _ _ c.in_ok-function.ensures in
    both _ _ _ _ fit (enter_input _ _ _ _ low (finite_refused _ c.if-not-is_finite.ensures.value), refl)

pub returns-in_err-find : goal.returns-in_err-find
returns-in_err-find c =
    let fit : T (fits binary32 c.args.input) = search rules in
    let low = code_low _ _ c.in_ok-function.ensures in
    let number = finite_tested _ c.if-not-is_finite.ensures.value in
    refused _ _ _ PegNumber _ c.from_residual-in_err-find.ensures.1 c.in_err-find.ensures.1 fit (enter_number _ _ _ _ low number c.in_err-find.ensures.0)

pub returns-then-ne : goal.returns-then-ne
returns-then-ne c =
    let fit : T (fits binary32 c.args.input) = search rules in
    let not : (peg c.args.sheet.now c.args.peg).mark ≢ Blank = search rules in
    let low = code_low _ _ c.in_ok-function.ensures in
    let number = finite_tested _ c.if-not-is_finite.ensures.value in
    both _ _ _ _ fit (enter_again _ _ _ _ low number c.in_ok-find.ensures.0 not, refl)

pub returns : goal.returns
returns c =
    let fit : T (fits binary32 c.args.input) = search rules in
    let is : (peg c.args.sheet.now c.args.peg).mark ≡ Blank = search rules in
    let low = code_low _ _ c.in_ok-function.ensures in
    let number = finite_tested _ c.if-not-is_finite.ensures.value in
    both _ _ _ _ fit (enter_passes _ _ _ _ low number c.in_ok-find.ensures.0 is, record { function = c.in_ok-function.function; code = c.in_ok-function.ensures; sheet = search rules; number = refl })
