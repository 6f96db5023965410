-- Every argument that the steps of exp2 and exp10 hand to fma and to round lies in the ranges of the law.
use Rattle.std.specs.Prelude.{◌≤◌, T, Float}
use Rattle.std.specs.Float.{binary32, binary64}
use Rattle.std.specs.Float.Ieee.{fits, mul, neg}
use Rattle.std.specs.Float.Ieee.Scale.{finite}
use Rattle.arithmetic.specs.Arithmetic.{Arithmetic, Lawful}
use Rattle.curves.specs.Steps.{magnitude, double, poly6, poly7}
use Rattle.curves.specs.Exp2 as Exp2
use Rattle.curves.specs.Exp10 as Exp10
use Rattle.curves.specs.Exp2.{Exp2Reaches}
use Rattle.curves.specs.Exp10.{Exp10Reaches}
use Rattle.accuracy.specs.Arguments.{Asked, AskedWhole}

-- the steps of a row times a polynomial
pub record ProductArguments (fma : Float → Float → Float → Float) (x mh c0 c1 c2 c3 c4 : Float) : Type 0 where
  pub constant : Asked binary64 400 x c0 (double 0x3ff0_0000_0000_0000)
  pub second : Asked binary64 400 x c2 c1
  pub fourth : Asked binary64 400 x c4 c3
  pub inner : Asked binary64 400 (mul binary64 x x) (fma x c4 c3) (fma x c2 c1)
  pub last : Asked binary64 400 (fma (mul binary64 x x) (fma x c4 c3) (fma x c2 c1)) (mul binary64 (mul binary64 x x) mh) (mul binary64 (fma x c0 (double 0x3ff0_0000_0000_0000)) mh)

-- the steps of a polynomial in pairs, and 1 + x times it
pub record SixArguments (fma : Float → Float → Float → Float) (x a0 a1 a2 a3 a4 a5 : Float) : Type 0 where
  pub first : Asked binary64 400 x a1 a0
  pub second : Asked binary64 400 x a3 a2
  pub third : Asked binary64 400 x a5 a4
  pub inner : Asked binary64 400 (mul binary64 x x) (fma x a5 a4) (fma x a3 a2)
  pub outer : Asked binary64 400 (mul binary64 x x) (fma (mul binary64 x x) (fma x a5 a4) (fma x a3 a2)) (fma x a1 a0)
  pub last : Asked binary64 400 (poly6 fma x a0 a1 a2 a3 a4 a5) x (double 0x3ff0_0000_0000_0000)

-- the steps of a polynomial of seven terms one after the other, and 1 + x times it
pub record SevenArguments (fma : Float → Float → Float → Float) (x a0 a1 a2 a3 a4 a5 a6 : Float) : Type 0 where
  pub sixth : Asked binary64 400 x a6 a5
  pub fifth : Asked binary64 400 x (fma x a6 a5) a4
  pub fourth : Asked binary64 400 x (fma x (fma x a6 a5) a4) a3
  pub third : Asked binary64 400 x (fma x (fma x (fma x a6 a5) a4) a3) a2
  pub second : Asked binary64 400 x (fma x (fma x (fma x (fma x a6 a5) a4) a3) a2) a1
  pub first : Asked binary64 400 x (fma x (fma x (fma x (fma x (fma x a6 a5) a4) a3) a2) a1) a0
  pub last : Asked binary64 400 (poly7 fma x a0 a1 a2 a3 a4 a5 a6) x (double 0x3ff0_0000_0000_0000)

-- ---- exp2
pub record Exp2TableArguments (a : Arithmetic) (x : Float) : Type 0 where
  pub nearest : AskedWhole binary64 (mul binary64 x (double 0x4050_0000_0000_0000))
  pub split : Asked binary64 400 (neg (double 0x3f90_0000_0000_0000)) (Exp2.kd a x) x
  pub product : ProductArguments a.fma (Exp2.lo a x) (Exp2.hi a x) (double 0x3fe6_2e42_fefa_39ef) (double 0x3fce_bfbd_ff81_31c4) (double 0x3fac_6b08_d706_1695) (double 0x3f83_b2b1_bee7_4b2a) (double 0x3f55_d880_9119_8529)

abbrev pub Exp2Arguments : Type 0
Exp2Arguments =
    (a : Arithmetic) → Lawful a → (x : Float) → T (fits binary32 x)
    → (Exp2Reaches x → Exp2TableArguments a x)
    × (T (finite x) → magnitude x ≤ 0x3d00_0000 → SixArguments a.fma x (double 0x3fe6_2e42_fefa_39f3) (double 0x3fce_bfbd_ff82_c57b) (double 0x3fac_6b08_d6f2_d7aa) (double 0x3f83_b2ab_6fc9_2f5d) (double 0x3f55_d897_cfe2_7125) (double 0x3f24_3090_e61e_6af1))

-- ---- exp10
pub record Exp10TableArguments (a : Arithmetic) (x : Float) : Type 0 where
  pub nearest : AskedWhole binary64 (mul binary64 Exp10.log2_ten x)
  pub first_step : Asked binary64 400 (Exp10.kd a x) Exp10.minus_log_hi x
  pub second_step : Asked binary64 400 (Exp10.kd a x) Exp10.minus_log_lo (Exp10.first a x)
  pub product : ProductArguments a.fma (Exp10.lo a x) (Exp10.hi a x) (double 0x4002_6bb1_bbb5_5515) (double 0x4005_3524_c73b_d3ea) (double 0x4000_4705_91df_f149) (double 0x3ff2_bd7c_0a9f_bc4d) (double 0x3fe1_429e_74a9_8f43)

abbrev pub Exp10Arguments : Type 0
Exp10Arguments =
    (a : Arithmetic) → Lawful a → (x : Float) → T (fits binary32 x)
    → (Exp10Reaches x → Exp10TableArguments a x)
    × (T (finite x) → magnitude x ≤ 0x3d00_0000 → SevenArguments a.fma x (double 0x4002_6bb1_bbb5_5516) (double 0x4005_3524_c73c_fbf6) (double 0x4000_4705_91de_0b07) (double 0x3ff2_bd76_0599_f3a5) (double 0x3fe1_42a0_0151_1a6f) (double 0x3fca_7fef_fa78_1d53) (double 0x3fb1_6e53_492c_0f0e))
