use Rattle.std.proofs.Common.{rules}
use Rattle.vector_clock.specs.Clocks.{larger_at}
use Rattle.vector_clock.proofs.FromFn.{listed_from_fn}
use Rattle.vector_clock.proofs.clocks.Counts.join.Goals as goal

pub returns : goal.returns
returns g c =
    let made = listed_from_fn _ _ (larger_at c.args.self.now c.args.other.now) c.from_fn.result (λ i y q k. search rules) g.row.N 0 c.from_fn.ensures.items in
    search rules
