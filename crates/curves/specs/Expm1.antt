-- expm1 under an arithmetic: its bands in order, its polynomial, and exp's split, rows and polynomial less one.
use Rattle.std.specs.Prelude.{cond, ◌&&◌, is_nan, nat_le, nat_lt, Float}
use Rattle.std.specs.Float.Ieee.{mul, neg}
use Rattle.std.specs.Float.{round_to_format, binary32, binary64}
use Rattle.arithmetic.specs.Arithmetic.{Arithmetic}
use Rattle.curves.specs.Tables.{table_exp_m1, table_exp_m2}
use Rattle.curves.specs.Steps.{pattern, magnitude, single, double, row, poly7}
use Rattle.curves.specs.Exp.{k, row_of_whole, row_of_rest, exp_poly}

-- near zero: x + x ^ 2 times a polynomial of seven terms
abbrev pub expm1_small_value : Arithmetic → Float → Float
expm1_small_value a x =
    round_to_format binary32
    (a.fma
    (poly7 a.fma x (double 0x3fe0_0000_0000_0000) (double 0x3fc5_5555_5555_57dd) (double 0x3fa5_5555_5555_52fa) (double 0x3f81_1111_0fcd_58b7) (double 0x3f56_c16c_1717_660b)
    (double 0x3f2a_0241_f000_6d62) (double 0x3efa_01e3_f8d3_c060))
    (mul binary64 x x) x)

-- the polynomial times the two rows, less one
abbrev pub expm1_tables_value : Arithmetic → Float → Float
expm1_tables_value a x =
    round_to_format binary32
    (a.fma (mul binary64 (exp_poly a x) (row table_exp_m1 (row_of_whole (k a x)))) (row table_exp_m2 (row_of_rest (k a x))) (neg (double 0x3ff0_0000_0000_0000)))

-- the bands, tested downwards
abbrev pub expm1_value : Arithmetic → Float → Float
expm1_value a x =
    cond (is_nan x) (single 0x7fc0_0000)
    (cond (nat_lt (magnitude x) 0x3300_0000) x
    (cond (nat_le 0xc18a_a123 (pattern x)) (single 0xbf80_0000)
    (cond (nat_lt (pattern x) 0x8000_0000 && nat_le 0x42b2_0000 (pattern x)) (single 0x7f80_0000)
    (cond (nat_lt (magnitude x) 0x3d80_0000) (expm1_small_value a x)
    (expm1_tables_value a x)))))
