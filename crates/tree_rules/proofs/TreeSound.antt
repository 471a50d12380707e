-- Ids and event trees with their rules are a sound clock kind.
use Rattle.clock.specs.Sound.{Sound}
use Rattle.tree_rules.specs.Kind.{tree}
use Rattle.tree_rules.proofs.PenLaws.{seed_made, no_pen_made, no_pen_makes, fork, fork_cause, unite, unite_cause, overlaps}
use Rattle.tree_rules.proofs.ClockLaws.{blank_made, blank_knows, join_sound, join_cause, covers}
use Rattle.tree_rules.proofs.EventLaws.{event_law, event_cause_law, opening_law}

pub tree_sound : Sound tree
tree_sound = record {
  seed_made = seed_made;
  no_pen_made = no_pen_made;
  blank_made = blank_made;
  no_pen_makes = no_pen_makes;
  blank_knows = blank_knows;
  fork = fork;
  fork_cause = fork_cause;
  event = event_law;
  event_cause = event_cause_law;
  join = join_sound;
  join_cause = join_cause;
  covers = covers;
  unite = unite;
  unite_cause = unite_cause;
  overlap = overlaps;
  opening = opening_law;
}
