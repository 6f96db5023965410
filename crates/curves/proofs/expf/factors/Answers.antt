use Rattle.std.proofs.Common.{◌≡◌, T, w32, rules}
use lib.Ieee.{binary32, fits}
use Rattle.std.proofs.Math.Logic.{∥∥₁_elim}
use Rattle.std.proofs.Props.{props}
use Rattle.std.proofs.lemmas.Int.{to_z-of_z}
use Rattle.curves.specs.Exp.{k, ExpReaches}
use Rattle.curves.specs.Split.{InRows}
use Rattle.curves.proofs.Natural.{exp_splits_lem}
use Rattle.curves.proofs.expf.factors.Goals as goal

pub rows-whole-requires : goal.rows-whole-requires
rows-whole-requires g c =
    let x = c.args.input.x in
    let f : T (fits binary32 x) = search rules in
    let a = g.B.ExpfBackend.meaning c.args.arith.now in
    let w = g.met.B.ExpfBackend.lawful c.args.arith.now in
    let e : c.to_i32.result ≡ k a x = cc in
    let r : InRows (k a x) = ∥∥₁_elim c.args.input.reaches (Prim.hlevel props) (λ (r : ExpReaches x). (exp_splits_lem a w x f r).1) in
    rw (to_z-of_z w32 c.to_i32.result (record { sfits = c.to_i32.type_inv }), e) r
