-- The counts of a run.
use Rattle.cards.specs.declared.counts.Counts.{Counts}
use Rattle.cards.specs.declared.counts.OpenRun.{OpenRun}
use Rattle.cards.specs.declared.counts.ClosedRun.{ClosedRun}

abbrev pub counts_of : OpenRun → Counts
counts_of r = r.counts

abbrev pub closed_of : ClosedRun → Counts
closed_of r = r.counts
