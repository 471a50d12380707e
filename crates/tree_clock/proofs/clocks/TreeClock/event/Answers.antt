use Rattle.std.proofs.Common.{sym, ap, ◌∙◌}
use Rattle.clock.specs.Answers.{answered}
use Rattle.clock.proofs.Answering.{event-has}
use Rattle.tree_clock.specs.Stored.{tree_kind}
use Rattle.tree_clock.specs.StoredSound.{tree_kind_sound}
use Rattle.tree_clock.proofs.clocks.TreeClock.event.Goals as goal

pub returns-in-None : goal.returns-in-None
returns-in-None c =
    let e = ap (λ r. answered r c.event_into.new.made) (sym c.in-None.is) ∙ c.event_into.ensures in
    record { result = e; marks = event-has tree_kind tree_kind_sound _ _ c.requires.made.1 c.requires.made.0 _ e }
