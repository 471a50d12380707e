use Rattle.std.proofs.Common.{Ok, arith}
use Rattle.std.proofs.Output.{has_written_of_eq}
use Rattle.tree_clock.specs.Reading.{clock_facts}
use Rattle.tree_clock.specs.Stored.{event_of, clock_made}
use Rattle.tree_clock.specs.Texts.{event_text}
use Rattle.tree_clock.proofs.Showing.{claimed, event_shown, stands_stored}
use Rattle.tree_clock.proofs.show.TreeClockDisplay.fmt.Goals as goal

pub returns-clause-writes : goal.returns-clause-writes
returns-clause-writes g c =
    let clock = c.args.self.now in
    let tree = event_of clock in
    claimed g.W.Write.write_str_gives c.args.f.now c.show.new.f (Ok tt) (clock_made clock) (event_text tree) (λ made.
    let facts = clock_facts clock made in
    λ plain ok. has_written_of_eq _ _ _ _ _ (event_shown tree) (c.in_ok-show.ensures tree (stands_stored clock.stored.nodes tree facts.0) (omega (arith, facts.2)) plain).1)
