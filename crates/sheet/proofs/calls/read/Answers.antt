use Rattle.std.proofs.Common.{◌≡◌, refl, rules}
use Rattle.sheet.specs.declared.fault.Fault.TheVariants.{PegNumber}
use Rattle.sheet.specs.declared.peg.Mark.TheVariants.{Blank, Entered, Worked}
use Rattle.sheet.specs.Pegs.{peg}
use Rattle.sheet.proofs.Lines.{read_number, read_blank, read_entered, read_passes}
use Rattle.sheet.proofs.Promised.{both, refused}
use Rattle.sheet.proofs.calls.read.Goals as goal

pub returns-in_err-found : goal.returns-in_err-found
returns-in_err-found c = refused _ _ _ PegNumber _ c.from_residual.ensures.1 c.in_err-found.ensures.1 tt (read_number _ _ c.in_err-found.ensures.0)

pub returns-in-Blank : goal.returns-in-Blank
returns-in-Blank c =
    let is : (peg c.args.sheet.now c.args.peg).mark ≡ Blank = search rules in
    both _ _ _ _ tt (read_blank _ _ c.in_ok-found.ensures.0 is, refl)

pub returns-in-Entered : goal.returns-in-Entered
returns-in-Entered c =
    let is : (peg c.args.sheet.now c.args.peg).mark ≡ Entered = search rules in
    both _ _ _ _ tt (read_entered _ _ c.in_ok-found.ensures.0 is, refl)

pub returns-in-Worked : goal.returns-in-Worked
returns-in-Worked c =
    let is : (peg c.args.sheet.now c.args.peg).mark ≡ Worked = search rules in
    both _ _ _ _ tt (read_passes _ _ c.in_ok-found.ensures.0 is, search rules)
