use Rattle.cards.proofs.Streaming.{streams_join_lem}
use Rattle.cards.proofs.stream.streams_join.Goals as goal

pub returns : goal.returns
returns c = streams_join_lem
