use Rattle.std.proofs.Common.{◌≡◌, true, false, T, Some, sym, refl, ap, ◌∙◌, subst, w32, to_z, of_z}
use lib.Ieee.{Float, to_signed, eq}
use Rattle.std.proofs.lemmas.Int.{to_z-of_z}
use Rattle.curves.proofs.WholePower.{tested, below_powers, above_powers, no_power}
use Rattle.curves.proofs.power.whole_power.Goals as goal
use Rattle.curves.proofs.power.whole_power.Goals.{else-k-geminus149-via-then-k-geminus149+then-k-le127+else-nearest_i32_to_f32-x, else-k-geminus149-via-then-k-geminus149+else-k-le127, else-k-geminus149-via-else-k-geminus149}

pub returns-then-f32_to_bits_with_nan-ne0 : goal.returns-then-f32_to_bits_with_nan-ne0
returns-then-f32_to_bits_with_nan-ne0 c =
    rw (no_power c.args.x c.f32_to_bits_with_nan.result (subst T (sym c.well_formed.0.1) tt) c.f32_to_bits_with_nan.ensures c.if-f32_to_bits_with_nan-ne0.true) refl

pub returns-then-nearest_i32_to_f32-x : goal.returns-then-nearest_i32_to_f32-x
returns-then-nearest_i32_to_f32-x c =
    let k = c.saturating_f32_to_i32-k.result in
    let e : to_z w32 (of_z w32 k) ≡ to_signed 31 c.args.x = to_z-of_z w32 k (record { sfits = c.saturating_f32_to_i32-k.type_inv }) ∙ c.saturating_f32_to_i32-k.ensures in
    rw (tested c.args.x (to_z w32 (of_z w32 k)) true e c.if-k-geminus149.true c.if-k-le127.true (ap (λ (r : Float). eq r c.args.x) (sym c.nearest_i32_to_f32.ensures) ∙ c.if-nearest_i32_to_f32-x.true)) (ap Some e)

pub returns-else-k-geminus149 : goal.returns-else-k-geminus149
returns-else-k-geminus149 c =
    let k = c.saturating_f32_to_i32-k.result in
    let e : to_z w32 (of_z w32 k) ≡ to_signed 31 c.args.x = to_z-of_z w32 k (record { sfits = c.saturating_f32_to_i32-k.type_inv }) ∙ c.saturating_f32_to_i32-k.ensures in
    elim c.else-k-geminus149.branch [
      | else-k-geminus149-via-then-k-geminus149+then-k-le127+else-nearest_i32_to_f32-x w ↦
          rw (tested c.args.x (to_z w32 (of_z w32 k)) false e w.if-k-geminus149.true w.if-k-le127.true (ap (λ (r : Float). eq r c.args.x) (sym w.nearest_i32_to_f32.ensures) ∙ w.if-nearest_i32_to_f32-x.false)) refl
      | else-k-geminus149-via-then-k-geminus149+else-k-le127 w ↦ rw (above_powers c.args.x (to_z w32 (of_z w32 k)) e w.if-k-le127.false) refl
      | else-k-geminus149-via-else-k-geminus149 w ↦ rw (below_powers c.args.x (to_z w32 (of_z w32 k)) e w.if-k-geminus149.false) refl
    ]
