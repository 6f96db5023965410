-- A pattern of 32 bits in hexadecimal.
use Rattle.std.specs.Prelude.{ℕ, ◌^◌, ◌<◌, List, IsTrue, nat_eq, drop, codes}
use Rattle.std.specs.List.{starts_with}
use Rattle.std.specs.Str.Parse.{IsNumeral, digits_value}

-- the number that is written behind 0x
abbrev pub pattern_of : List ℕ → ℕ
pattern_of w = digits_value 16 (drop 2 w)

-- w is 0x and one hexadecimal digit or more, and what they write is below 2 ^ 32
abbrev pub IsPattern : List ℕ → Type 0
IsPattern w = IsTrue (starts_with nat_eq w (codes "0x")) × IsNumeral 16 (drop 2 w) × (pattern_of w < 2 ^ 32)
