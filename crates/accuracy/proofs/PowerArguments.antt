-- Every argument that exp2 and exp10 hand to fma and to round lies in the ranges of the law, for every input that reaches it.
use Rattle.std.proofs.Common.{◌≤◌, T}
use Rattle.std.specs.Float.{Float, binary32, binary64}
use Rattle.std.specs.Float.Ieee.{fits, mul}
use Rattle.std.specs.Float.Ieee.Fits.{mul-fits}
use Rattle.std.specs.Float.Ieee.Scale.{finite}
use Rattle.exact.proofs.Rational.{◌+q◌, -q◌, ◌-q◌}
use Rattle.exact.proofs.Order.{nn, ◌≤q◌}
use Rattle.exact.proofs.Bound.{bound_more}
use Rattle.exact.proofs.Compare.{dy}
use Rattle.arithmetic.specs.Arithmetic.{Arithmetic, Lawful}
use Rattle.curves.specs.Steps.{magnitude, double}
use Rattle.curves.specs.Exp2 as Exp2
use Rattle.curves.specs.Exp10 as Exp10
use Rattle.curves.specs.Exp2.{Exp2Reaches}
use Rattle.curves.specs.Exp10.{Exp10Reaches}
use Rattle.curves.proofs.Decimal as Reduction
use Rattle.curves.proofs.Law.{fma_law, small_in_range, near_whole}
use Rattle.accuracy.specs.PowerArguments.{Exp2TableArguments, Exp2Arguments, Exp10TableArguments, Exp10Arguments, SixArguments, SevenArguments}
use Rattle.accuracy.proofs.Horner.{f32_range}
use Rattle.accuracy.proofs.NearZero.{wide, square_range}
use Rattle.accuracy.proofs.PowerInputs.{near_zero}
use Rattle.accuracy.proofs.PowerProduct.{unit_range, product_arguments}
use Rattle.accuracy.proofs.Law.{asked}
use Rattle.accuracy.proofs.BinaryPolynomial as Six
use Rattle.accuracy.proofs.DecimalPolynomial as Seven
use Rattle.accuracy.proofs.BinaryTable as Binary
use Rattle.accuracy.proofs.DecimalTable as Decimal

lo_nums : Reduction.most_lo ≤q dy 1 7
unfolding nn ◌-q◌ ◌+q◌ -q◌
lo_nums = record { le = tt }

-- ---- exp2
exp2_table_lem : (a : Arithmetic) → Lawful a → (x : Float) → T (fits binary32 x) → Exp2Reaches x → Exp2TableArguments a x
exp2_table_lem a v x w t = record {
  nearest = record { fit = mul-fits binary64 x (double 0x4050_0000_0000_0000); below = small_in_range _ (Binary.product_small a v x w t).0 (Binary.product_small a v x w t).1 };
  split = asked Binary.step_range (Binary.k_range a v x w t) (Binary.x_range a v x w t);
  product = product_arguments a.fma (fma_law a v) Binary.k₀ Binary.k₁ Binary.k₂ Binary.k₃ Binary.k₄ Binary.coefficients (Exp2.lo a x) (Exp2.hi a x) (Binary.lo_ready a v x w t) (Binary.lo_size a v x w t) (Binary.hi_scaled a v x w t).0 (Binary.by_row a v x w t).row_low (Binary.by_row a v x w t).row_high;
}

exp2_small_lem : (a : Arithmetic) → Lawful a → (x : Float) → T (fits binary32 x) → T (finite x) → magnitude x ≤ 0x3d00_0000 → SixArguments a.fma x Six.h₀ Six.h₁ Six.h₂ Six.h₃ Six.h₄ Six.h₅
exp2_small_lem a v x w t h =
    let f = fma_law a v in
    let b = near_zero x w t h in
    let r = f32_range x (dy 1 5) t w b wide in
    let q = square_range x t w b in
    record {
      first = asked r (Six.ranges).1 (Six.ranges).0;
      second = asked r (Six.ranges).3 (Six.ranges).2;
      third = asked r (Six.ranges).5 (Six.ranges).4;
      inner = asked q (Six.stage₀ a.fma f x t w b).range (Six.stage₁ a.fma f x t w b).range;
      outer = asked q (Six.stage₃ a.fma f x t w b).range (Six.stage₂ a.fma f x t w b).range;
      last = asked (Six.stage a.fma f x t w b).range r unit_range;
    }

pub exp2_arguments : Exp2Arguments
exp2_arguments a v x w = (exp2_table_lem a v x w, exp2_small_lem a v x w)

-- ---- exp10
exp10_table_lem : (a : Arithmetic) → Lawful a → (x : Float) → T (fits binary32 x) → Exp10Reaches x → Exp10TableArguments a x
exp10_table_lem a v x w t =
    let f = fma_law a v in
    let i = Reduction.input x w t in
    let rx = Reduction.input_ready x i w in
    let bx = Reduction.input_size x i in
    let n = near_whole (mul binary64 Exp10.log2_ten x) (Reduction.input_round x i a v) in
    let vk = Reduction.k_value x i a v w in
    let kr = Reduction.k_range a.fma f x (Exp10.kd a x) (Exp10.k a x) rx bx n.is_finite n.is_fit vk n.off in
    record {
      nearest = record { fit = mul-fits binary64 Exp10.log2_ten x; below = small_in_range _ (Reduction.product_err x i.is_finite bx).0 (Reduction.product_size x i.is_finite bx) };
      first_step = asked kr (Reduction.constants_ranged).0 (Reduction.x_range a.fma f x (Exp10.kd a x) (Exp10.k a x) rx bx n.is_finite n.is_fit vk n.off);
      second_step = asked kr (Reduction.constants_ranged).1 (Reduction.first_range a.fma f x (Exp10.kd a x) (Exp10.k a x) rx bx n.is_finite n.is_fit vk n.off);
      product = product_arguments a.fma f Decimal.k₀ Decimal.k₁ Decimal.k₂ Decimal.k₃ Decimal.k₄ Decimal.coefficients (Exp10.lo a x) (Exp10.hi a x) (Decimal.lo_fine a v x w t) (bound_more (Decimal.lo_small a v x w t) lo_nums) (Decimal.row_scaled a v x w t).0 (Decimal.by_row a v x w t).row_low (Decimal.by_row a v x w t).row_high;
    }

exp10_small_lem : (a : Arithmetic) → Lawful a → (x : Float) → T (fits binary32 x) → T (finite x) → magnitude x ≤ 0x3d00_0000 → SevenArguments a.fma x Seven.s₀ Seven.s₁ Seven.s₂ Seven.s₃ Seven.s₄ Seven.s₅ Seven.s₆
exp10_small_lem a v x w t h =
    let f = fma_law a v in
    let b = near_zero x w t h in
    let r = f32_range x (dy 1 5) t w b wide in
    record {
      sixth = asked r (Seven.ranges).6 (Seven.ranges).5;
      fifth = asked r (Seven.stage₁ a.fma f x t w b).range (Seven.ranges).4;
      fourth = asked r (Seven.stage₂ a.fma f x t w b).range (Seven.ranges).3;
      third = asked r (Seven.stage₃ a.fma f x t w b).range (Seven.ranges).2;
      second = asked r (Seven.stage₄ a.fma f x t w b).range (Seven.ranges).1;
      first = asked r (Seven.stage₅ a.fma f x t w b).range (Seven.ranges).0;
      last = asked (Seven.stage a.fma f x t w b).range r unit_range;
    }

pub exp10_arguments : Exp10Arguments
exp10_arguments a v x w = (exp10_table_lem a v x w, exp10_small_lem a v x w)
