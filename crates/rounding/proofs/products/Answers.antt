-- Proved in `Operations`.
use Rattle.rounding.proofs.products.Goals as goal
use Rattle.rounding.proofs.Operations.{products}

pub returns : goal.returns
returns c = products
