use Rattle.std.proofs.Common.{arith, rules, refl, sym, ◌∙◌, ◌≡◌, ◌≢◌}
use Rattle.sheet.specs.declared.peg.Mark.TheVariants.{Entered}
use Rattle.sheet.proofs.Lines.{work_refused, work_passes}
use Rattle.sheet.proofs.Turns.{Turned, finished_turns, turned_entered, turned_other}
use Rattle.sheet.proofs.Promised.{both}
use Rattle.sheet.proofs.calls.work.Goals as goal
use Rattle.sheet.proofs.calls.work.Goals.{then-eq, else-eq}

pub returns-then-end-sheet : goal.returns-then-end-sheet
returns-then-end-sheet g c = both _ _ _ _ (g.met.B.ExpfBackend.lawful c.args.arith.now) (work_refused _ _ _ _ (omega arith), refl)

pub loop-peg-preserved : goal.loop-peg-preserved
loop-peg-preserved g c =
    elim c.if-eq.branch [
      | then-eq w ↦
          let is : c.mark.result ≡ Entered = search rules in
          let t : Turned _ _ _ _ _ = turned_entered c.loop-peg.invariant (omega arith) _ (sym c.mark.ensures ∙ is) in
          rw (w.done-is, w.peg-items-is, w.worked.ensures) t
      | else-eq w ↦
          let not : c.mark.result ≢ Entered = search rules in
          let t : Turned _ _ _ _ _ = turned_other c.loop-peg.invariant (omega arith) _ (λ e. not (c.mark.ensures ∙ e)) in
          rw (w.done-is, w.peg-items-is) t
    ]

pub returns : goal.returns
returns g c =
    both _ _ _ _ (g.met.B.ExpfBackend.lawful c.args.arith.now)
    (work_passes _ _ _ _ (omega arith), finished_turns _ _ _ _ _ _ _ _ _ c.from-start.ensures (omega arith) (omega arith) c.loop-peg-test.false c.loop-peg.invariant)
