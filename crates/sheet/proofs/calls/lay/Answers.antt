use Rattle.std.proofs.Common.{rules}
use Rattle.sheet.proofs.Promised.{all_three, lay_refused}
use Rattle.sheet.proofs.calls.lay.Goals as goal

pub returns-in_err-n : goal.returns-in_err-n
returns-in_err-n c = lay_refused _ _ _ c.from_residual.ensures.1 c.in_err-n.ensures

pub returns : goal.returns
returns c = all_three _ _ _ (c.in_ok-n.ensures.0, search rules)
