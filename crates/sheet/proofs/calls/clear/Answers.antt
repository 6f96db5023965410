use Rattle.std.proofs.Common.{◌≡◌, ◌≢◌, refl, rules}
use Rattle.sheet.specs.declared.fault.Fault.TheVariants.{PegNumber}
use Rattle.sheet.specs.declared.peg.Mark.TheVariants.{Blank}
use Rattle.sheet.specs.Pegs.{peg}
use Rattle.sheet.proofs.Lines.{clear_number, clear_blank, clear_passes}
use Rattle.sheet.proofs.Promised.{both, refused}
use Rattle.sheet.proofs.calls.clear.Goals as goal

pub returns-in_err-find : goal.returns-in_err-find
returns-in_err-find c = refused _ _ _ PegNumber _ c.from_residual.ensures.1 c.in_err-find.ensures.1 tt (clear_number _ _ c.in_err-find.ensures.0)

pub returns-then-eq : goal.returns-then-eq
returns-then-eq c =
    let is : (peg c.args.sheet.now c.args.peg).mark ≡ Blank = search rules in
    both _ _ _ _ tt (clear_blank _ _ c.in_ok-find.ensures.0 is, refl)

pub returns : goal.returns
returns c =
    let not : (peg c.args.sheet.now c.args.peg).mark ≢ Blank = search rules in
    both _ _ _ _ tt (clear_passes _ _ c.in_ok-find.ensures.0 not, search rules)
