use Rattle.std.proofs.Common.{false, arith}
use Rattle.vector_clock.specs.Pens.{in_pen, keeps, gives}
use Rattle.vector_clock.specs.Numbers.{at_most}
use Rattle.vector_clock.specs.Filled.{filled_all}
use Rattle.vector_clock.proofs.pens.Names.halves.Goals as goal

pub overflow_add-seen : goal.overflow_add-seen
overflow_add-seen g c = omega (arith, at_most (in_pen c.args.self.now) c.loop-name.name)

pub returns : goal.returns
returns g c =
    let kept = filled_all false (keeps c.args.self.now) g.row.N c.loop-name.name c.loop-name.lower c.loop-name-test.false c.loop-name.invariant.1 in
    let given = filled_all false (gives c.args.self.now) g.row.N c.loop-name.name c.loop-name.upper c.loop-name-test.false c.loop-name.invariant.2 in
    cc
