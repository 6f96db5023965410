use Rattle.std.proofs.Common.{◌≡◌, ℕ, suc, ◌*◌, ◌%◌, ◌^◌, ◌<◌, ◌≤◌, pos, ◌∙◌, refl, lt_of_le_of_lt, arith, pow_pos, pow_mono, w32, SFits, to_z}
use lib.Signed.{shr_z, mag_shr}
use Rattle.std.proofs.lemmas.Int.{to_z-of_z, to_z_pos}
use Rattle.curves.specs.Steps.{scaled_row}
use Rattle.curves.proofs.rows.scaled_row.Goals as goal

-- the number of rows, as an i32
rows_is : (j : ℕ) → j < 31 → to_z w32 (1 * 2 ^ j % 2 ^ 32) ≡ pos (2 ^ j)
rows_is j h =
    let p = pow_pos j in
    let m : 2 ^ suc j ≤ 2 ^ 31 = pow_mono h in
    let e : 1 * 2 ^ j % 2 ^ 32 ≡ 2 ^ j = omega arith in
    rw (e, to_z_pos w32 (2 ^ j) (omega arith)) refl

pub returns : goal.returns
unfolding scaled_row
returns g c =
    let z = c.args.k in
    let n = 2 ^ g.row.BITS in
    let s : SFits w32 (shr_z z n) = record { sfits = lt_of_le_of_lt (mag_shr z n) c.ranges.k.sfits } in
    let r : SFits w32 c.rem_euclid-row.result = record { sfits = c.rem_euclid-row.type_inv } in
    let e = to_z-of_z w32 z c.ranges.k in
    c.add_power.ensures
    ∙ rw (e, to_z-of_z w32 (shr_z z n) s, c.entry.ensures.value, to_z-of_z w32 c.rem_euclid-row.result r, c.rem_euclid-row.ensures.value, e, rows_is g.row.BITS c.requires.few) refl
