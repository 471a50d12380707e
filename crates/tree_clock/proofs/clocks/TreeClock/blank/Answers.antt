use Rattle.tree_clock.specs.StoredSound.{tree_kind_sound}
use Rattle.tree_clock.proofs.clocks.TreeClock.blank.Goals as goal

pub returns-clause-made : goal.returns-clause-made
returns-clause-made c = rw (c.of.ensures, c.zero.ensures) tree_kind_sound.blank_made
