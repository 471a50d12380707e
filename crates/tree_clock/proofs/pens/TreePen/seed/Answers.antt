use Rattle.tree_clock.specs.StoredSound.{tree_kind_sound}
use Rattle.tree_clock.proofs.pens.TreePen.seed.Goals as goal

pub returns-clause-made : goal.returns-clause-made
returns-clause-made c = rw (c.of.ensures, c.one.ensures) tree_kind_sound.seed_made
