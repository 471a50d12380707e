-- What growing is given: an id and a tree, and room for the grown tree.
--
-- Growth n up i e m      i is in normal form, at most n deep, and not 0; the values of e over up are within the limit; m places are room for the grown tree
-- past_limits g          the cause that is due for a grown tree g: 15 for more than 63 nodes, 16 for a value above 65,535
use Rattle.std.specs.Prelude.{◌≡◌, ℕ, ◌+◌, ◌≤◌, false, [], ◌∷◌, Option, nat_lt}
use Rattle.clock.specs.declared.causes.Cause.{Cause}
use Rattle.clock.specs.declared.causes.Cause.TheVariants.{ClockTooLarge, AtLimit}
use Rattle.clock.specs.Answers.{due, first}
use Rattle.tree_rules.specs.Ids.{Id, id_depth, is_off, NormalId}
use Rattle.tree_rules.specs.Events.{Event, size, top}
use Rattle.tree_rules.specs.Grow.{grow}

pub record Growth (n up : ℕ) (i : Id) (e : Event) (m : ℕ) : Type 0 where
  pub normal : NormalId i
  pub marks : is_off i ≡ false
  pub deep : id_depth i ≤ n
  pub under : up + top e ≤ 65535
  pub room : size (grow i e) ≤ m
  pub short : m ≤ 1000

abbrev pub past_limits : Event → Option Cause
past_limits g =
    first (due (nat_lt 63 (size g)) ClockTooLarge ∷ due (nat_lt 65535 (top g)) AtLimit ∷ [])
