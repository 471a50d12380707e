use Rattle.std.proofs.Common.{false, rules}
use Rattle.vector_clock.specs.Pens.{in_either}
use Rattle.vector_clock.proofs.FromFn.{listed_from_fn}
use Rattle.vector_clock.proofs.pens.Names.unite.Goals as goal

pub returns : goal.returns
returns g c =
    let made = listed_from_fn _ _ (in_either c.args.self.now c.args.other.now) c.from_fn.result (λ i y q k. search rules) g.row.N false c.from_fn.ensures.items in
    search rules
