-- Which half of an id is meant.
--
-- is_second w    whether w is the second half
use Rattle.std.specs.Prelude.{Bool, true, false}
use Rattle.tree_clock.specs.declared.split.Half.{Half}
use Rattle.tree_clock.specs.declared.split.Half.TheVariants.{First, Second}

abbrev pub is_second : Half → Bool
is_second First = false
is_second Second = true
