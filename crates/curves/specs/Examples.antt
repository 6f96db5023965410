-- Values and splits that follow from the definitions alone.
use Rattle.std.specs.Prelude.{◌≡◌, ℕ, pos, negsuc, Float}
use Rattle.arithmetic.specs.Arithmetic.{Arithmetic, generic, fusing}
use Rattle.curves.specs.Steps.{pattern, single}
use Rattle.curves.specs.Exp.{k, lo, exp_value}
use Rattle.curves.specs.Exp2.{exp2_value}
use Rattle.curves.specs.Exp10.{exp10_value}
use Rattle.curves.specs.Expm1.{expm1_value}

-- f takes the pattern p to the pattern q
abbrev pub Takes : (Float → Float) → ℕ → ℕ → Type 0
Takes f p q = pattern (f (single p)) ≡ q

-- 2 ^ -149, the last input above -150, -150, 2 ^ -127, 2 ^ 127 and 128
abbrev pub Exp2Examples : Arithmetic → Type 0
Exp2Examples a =
    Takes (exp2_value a) 0xc315_0000 0x0000_0001 × Takes (exp2_value a) 0xc315_ffff 0x0000_0001 × Takes (exp2_value a) 0xc316_0000 0x0000_0000
    × Takes (exp2_value a) 0xc2fe_0000 0x0040_0000 × Takes (exp2_value a) 0x42fe_0000 0x7f00_0000 × Takes (exp2_value a) 0x4300_0000 0x7f80_0000

-- the last input near one gives 1, and the first below the tables gives +0
abbrev pub ExpExamples : Arithmetic → Type 0
ExpExamples a = Takes (exp_value a) 0x3280_0000 0x3f80_0000 × Takes (exp_value a) 0xc2cf_f1b5 0x0000_0000

-- the last input that gives 1, and the first that gives the f32 below 1
abbrev pub Exp10Examples : Arithmetic → Type 0
Exp10Examples a = Takes (exp10_value a) 0xb25e_5bd8 0x3f80_0000 × Takes (exp10_value a) 0xb25e_5bd9 0x3f7f_ffff

-- -0 gives -0, and the first input of the lowest band gives -1
abbrev pub Expm1Examples : Arithmetic → Type 0
Expm1Examples a = Takes (expm1_value a) 0x8000_0000 0x8000_0000 × Takes (expm1_value a) 0xc18a_a123 0xbf80_0000

-- x = 1/256 has k = 1 and lo = -1/256, and x = -1/256 has k = -1 and lo = 1/256: both ends of lo occur
abbrev pub BothEnds : Arithmetic → Type 0
BothEnds a =
    (k a (single 0x3b80_0000) ≡ pos 1) × (pattern (lo a (single 0x3b80_0000)) ≡ 0xbb80_0000)
    × (k a (single 0xbb80_0000) ≡ negsuc 0) × (pattern (lo a (single 0xbb80_0000)) ≡ 0x3b80_0000)

-- all of them under one arithmetic
abbrev pub Worked : Arithmetic → Type 0
Worked a = Exp2Examples a × ExpExamples a × Exp10Examples a × Expm1Examples a × BothEnds a

-- and under both of ours
abbrev pub Examples : Type 0
Examples = Worked generic × Worked fusing
