use Rattle.std.proofs.Common.{◌≡◌, ℕ, ◌<◌, ◌≤◌, true, false}
use Rattle.vector_clock.specs.Clocks.{open_name}
use Rattle.vector_clock.proofs.clocks.Counts.lowest_open.Given as goal

abbrev pub invariant-loop-name : goal.invariant-loop-name
invariant-loop-name g l =
    ((k : ℕ) → l.name ≤ k → k < l.lowest → open_name l.pen l.self k ≡ false)
    × (l.lowest < g.row.N → open_name l.pen l.self l.lowest ≡ true)
    × (l.lowest ≤ g.row.N)
