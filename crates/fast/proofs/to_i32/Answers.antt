use Rattle.std.proofs.Common.{◌≡◌, ◌<◌, T, pos, ◌+ℤ◌, ◌-ℤ◌, sym, ap, ◌∙◌, subst, arith, w32, w64, to_z, of_z}
use borrow.Author.Differences.{ints}
use lib.Ieee.{Float, binary64, add, sub, eq, of_bits}
use lib.Ieee.Bits.{of_bits-to_bits}
use lib.Ieee.Fits.{add-fits}
use Rattle.fast.proofs.Casting.{shifted}
use Rattle.fast.proofs.to_i32.Goals as goal

pub returns-then-p-lt4843621401384452096 : goal.returns-then-p-lt4843621401384452096
returns-then-p-lt4843621401384452096 c =
    let p = c.f64_to_bits_with_nan-p.result in
    let x = c.args.x in
    let C = of_bits binary64 4843621399236968448 in
    let y : of_bits binary64 p ≡ add binary64 x C = ap (of_bits binary64) c.f64_to_bits_with_nan-p.ensures ∙ of_bits-to_bits binary64 (add binary64 x C) (add-fits binary64 x C) in
    let l : 4843621397089484800 < p = omega arith in
    let h : p < 4843621401384452096 = omega arith in
    let z = to_z w32 (of_z w32 (to_z w64 (of_z w64 (to_z w64 p -ℤ pos 4843621399236968448)))) in
    let e : z +ℤ pos 4843621399236968448 ≡ pos p = omega (arith, ints) in
    sym (shifted x p z l h (subst (λ (v : Float). T (eq (sub binary64 v C) x)) (sym y) (subst T (sym c.if-y-x.true) tt)) e)
