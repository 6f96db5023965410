-- The f64 before the last narrowing of exp2 and exp10: how far it is from the exact value, band by band.
use Rattle.std.specs.Prelude.{◌≡◌, ◌≤◌, T, pos, Float}
use Rattle.std.specs.Float.Ieee.{fits}
use Rattle.std.specs.Float.Ieee.Scale.{finite}
use Rattle.std.specs.Float.{round_to_format, binary32}
use Rattle.exact.specs.Fraction.{dyadic}
use Rattle.exact.specs.Exact.{exp2, exp10}
use Rattle.arithmetic.specs.Arithmetic.{Arithmetic, Lawful}
use Rattle.curves.specs.Steps.{magnitude, double, poly6, poly7, times_power_value}
use Rattle.curves.specs.Exp2 as Exp2
use Rattle.curves.specs.Exp10 as Exp10
use Rattle.curves.specs.Exp2.{exp2_small_value, exp2_table_value, Exp2Reaches}
use Rattle.curves.specs.Exp10.{exp10_small_value, exp10_table_value, Exp10Reaches}
use Rattle.accuracy.specs.Inner.{NearBy}

-- ---- exp2: 2 ^ -43 by the table, and 2 ^ -47 near zero
abbrev pub exp2_wide : Arithmetic → Float → Float
exp2_wide a x =
    times_power_value a.fma (Exp2.lo a x) (Exp2.hi a x) (double 0x3fe6_2e42_fefa_39ef) (double 0x3fce_bfbd_ff81_31c4) (double 0x3fac_6b08_d706_1695) (double 0x3f83_b2b1_bee7_4b2a)
    (double 0x3f55_d880_9119_8529)

abbrev pub exp2_near : Arithmetic → Float → Float
exp2_near a x =
    a.fma
    (poly6 a.fma x (double 0x3fe6_2e42_fefa_39f3) (double 0x3fce_bfbd_ff82_c57b) (double 0x3fac_6b08_d6f2_d7aa) (double 0x3f83_b2ab_6fc9_2f5d) (double 0x3f55_d897_cfe2_7125)
    (double 0x3f24_3090_e61e_6af1))
    x (double 0x3ff0_0000_0000_0000)

abbrev pub Exp2Inner : Type 0
Exp2Inner =
    (a : Arithmetic) → Lawful a → (x : Float) → T (fits binary32 x)
    → (Exp2Reaches x → (exp2_table_value a x ≡ round_to_format binary32 (exp2_wide a x)) × NearBy exp2 (dyadic (pos 1) 43) x (exp2_wide a x))
    × (T (finite x) → magnitude x ≤ 0x3d00_0000 → (exp2_small_value a x ≡ round_to_format binary32 (exp2_near a x)) × NearBy exp2 (dyadic (pos 1) 47) x (exp2_near a x))

-- ---- exp10: 2 ^ -43 by the table and near zero
abbrev pub exp10_wide : Arithmetic → Float → Float
exp10_wide a x =
    times_power_value a.fma (Exp10.lo a x) (Exp10.hi a x) (double 0x4002_6bb1_bbb5_5515) (double 0x4005_3524_c73b_d3ea) (double 0x4000_4705_91df_f149) (double 0x3ff2_bd7c_0a9f_bc4d)
    (double 0x3fe1_429e_74a9_8f43)

abbrev pub exp10_near : Arithmetic → Float → Float
exp10_near a x =
    a.fma
    (poly7 a.fma x (double 0x4002_6bb1_bbb5_5516) (double 0x4005_3524_c73c_fbf6) (double 0x4000_4705_91de_0b07) (double 0x3ff2_bd76_0599_f3a5) (double 0x3fe1_42a0_0151_1a6f)
    (double 0x3fca_7fef_fa78_1d53) (double 0x3fb1_6e53_492c_0f0e))
    x (double 0x3ff0_0000_0000_0000)

abbrev pub Exp10Inner : Type 0
Exp10Inner =
    (a : Arithmetic) → Lawful a → (x : Float) → T (fits binary32 x)
    → (Exp10Reaches x → (exp10_table_value a x ≡ round_to_format binary32 (exp10_wide a x)) × NearBy exp10 (dyadic (pos 1) 43) x (exp10_wide a x))
    × (T (finite x) → magnitude x ≤ 0x3d00_0000 → (exp10_small_value a x ≡ round_to_format binary32 (exp10_near a x)) × NearBy exp10 (dyadic (pos 1) 43) x (exp10_near a x))
