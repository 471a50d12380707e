use Rattle.std.proofs.Common.{arith}
use Rattle.vector_clock.specs.Pens.{in_pen}
use Rattle.vector_clock.specs.Numbers.{at_most, more_yes, more_no}
use Rattle.vector_clock.proofs.pens.Names.size.Goals as goal
use Rattle.vector_clock.proofs.pens.Names.size.Goals.{then-held, else-held}

pub overflow_add-size : goal.overflow_add-size
overflow_add-size g c = omega (arith, at_most (in_pen c.args.self.now) c.loop-held.held-index)

pub loop-held-preserved : goal.loop-held-preserved
loop-held-preserved g c =
    elim c.if-held.branch [
      | then-held w ↦ omega (arith, w.size-is, more_yes (in_pen c.args.self.now) c.loop-held.held-index w.if-held.true)
      | else-held w ↦ omega (arith, w.size-is, more_no (in_pen c.args.self.now) c.loop-held.held-index w.if-held.false)
    ]
