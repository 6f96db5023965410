use Rattle.sheet.proofs.Lines.{lay_many, lay_none}
use Rattle.sheet.proofs.calls.size.Goals as goal
use Rattle.sheet.proofs.calls.size.Goals.{then-n-eq0-via-then-n-eq0, then-n-eq0-via-else-n-eq0+then-n-gt-LARGEST}

pub returns-then-n-eq0 : goal.returns-then-n-eq0
returns-then-n-eq0 c = elim c.then-n-eq0.branch [ then-n-eq0-via-then-n-eq0 w ↦ lay_none _ w.if-n-eq0.true | then-n-eq0-via-else-n-eq0+then-n-gt-LARGEST w ↦ lay_many _ w.if-n-gt-LARGEST.true ]
