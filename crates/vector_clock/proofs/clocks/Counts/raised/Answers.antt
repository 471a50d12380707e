use Rattle.vector_clock.specs.Clocks.{more_at}
use Rattle.vector_clock.specs.Filled.{filled_all}
use Rattle.vector_clock.proofs.clocks.Counts.raised.Goals as goal

pub returns : goal.returns
returns g c =
    let all = filled_all 0 (more_at c.args.self.now c.args.name) g.row.N c.loop-at.at c.loop-at.counts c.loop-at-test.false c.loop-at.invariant in
    cc
