use Rattle.std.proofs.Common.{◌≡◌, false}
use Rattle.vector_clock.specs.Counting.{how_many}
use Rattle.vector_clock.specs.Pens.{in_pen, keeps, gives}
use Rattle.vector_clock.specs.Filled.{Filled}
use Rattle.vector_clock.proofs.pens.Names.halves.Given as goal

abbrev pub invariant-loop-name : goal.invariant-loop-name
invariant-loop-name g l =
    (l.seen ≡ how_many (in_pen l.self) l.name)
    × Filled false (keeps l.self) g.row.N l.name l.lower
    × Filled false (gives l.self) g.row.N l.name l.upper
