-- What is wrong with the words of the command line.
use Rattle.query.specs.declared.pair.UnknownName.{UnknownName}
use Rattle.query.specs.declared.pair.UnknownName.TheVariants.{Curve, Arithmetic}
use Rattle.digest.specs.declared.request.Mistake.{Mistake}
use Rattle.digest.specs.declared.request.Mistake.TheVariants.{UnknownCurve, UnknownArithmetic}

abbrev pub mistake_of : UnknownName → Mistake
mistake_of (Curve w) = UnknownCurve
mistake_of (Arithmetic w) = UnknownArithmetic
