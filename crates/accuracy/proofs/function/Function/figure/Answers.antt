use Rattle.std.proofs.Common.{rules}
use Rattle.accuracy.proofs.Named.{figured}
use Rattle.accuracy.proofs.function.Function.figure.Goals as goal

pub returns-in-Exp : goal.returns-in-Exp
returns-in-Exp g c =
    let y = figured c.args.self _ c.args.x _ (g.met.B.ExpfBackend.lawful c.args.arith.now) (search rules) (cc c.value.ensures) in
    record { steps = y.steps; right = y.right; exact = y.exact; special = y.special }

pub returns-in-Exp2 : goal.returns-in-Exp2
returns-in-Exp2 g c =
    let y = figured c.args.self _ c.args.x _ (g.met.B.ExpfBackend.lawful c.args.arith.now) (search rules) (cc c.value-in-Exp2.ensures) in
    record { steps = y.steps; right = y.right; exact = y.exact; special = y.special }

pub returns-in-Exp10 : goal.returns-in-Exp10
returns-in-Exp10 g c =
    let y = figured c.args.self _ c.args.x _ (g.met.B.ExpfBackend.lawful c.args.arith.now) (search rules) (cc c.value-in-Exp10.ensures) in
    record { steps = y.steps; right = y.right; exact = y.exact; special = y.special }

pub returns-in-Expm1 : goal.returns-in-Expm1
returns-in-Expm1 g c =
    let y = figured c.args.self _ c.args.x _ (g.met.B.ExpfBackend.lawful c.args.arith.now) (search rules) (cc c.value-in-Expm1.ensures) in
    record { steps = y.steps; right = y.right; exact = y.exact; special = y.special }
