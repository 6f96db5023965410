-- The numbers of the refusals, and their words.
use Rattle.std.specs.Prelude.{◌≡◌, ℕ, List, codes}
use Rattle.sheet.specs.declared.fault.Fault.{Fault}
use Rattle.sheet.specs.declared.fault.Fault.TheVariants.{SheetSize, RunFull, CardLength, UnusedField, PartRange, FunctionCode, InputNotFinite, PegNumber, PegNotBlank, PegBlank, PegNotWorked}

abbrev pub number_of : Fault → ℕ
number_of SheetSize = 1
number_of RunFull = 2
number_of CardLength = 3
number_of UnusedField = 4
number_of PartRange = 5
number_of FunctionCode = 6
number_of InputNotFinite = 7
number_of PegNumber = 8
number_of PegNotBlank = 9
number_of PegBlank = 10
number_of PegNotWorked = 11

abbrev pub reason_of : Fault → List ℕ
reason_of SheetSize = codes "the sheet has no peg, or more than 4096"
reason_of RunFull = codes "the run has taken its last card"
reason_of CardLength = codes "the card is not 6 bytes long"
reason_of UnusedField = codes "a field that is not used is not 0"
reason_of PartRange = codes "the part goes beyond the last peg"
reason_of FunctionCode = codes "the function code is above 3"
reason_of InputNotFinite = codes "the input is not finite"
reason_of PegNumber = codes "there is no such peg"
reason_of PegNotBlank = codes "the peg is not blank"
reason_of PegBlank = codes "the peg is blank"
reason_of PegNotWorked = codes "the peg is not worked"

-- e alone has the number n
abbrev pub OnlyFault : Fault → ℕ → Type 0
OnlyFault e n = (d : Fault) → number_of d ≡ n → d ≡ e
