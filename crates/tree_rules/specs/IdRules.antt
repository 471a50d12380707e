-- Split and sum by the published rules of interval tree clocks, for any ids.
--
-- SplitRules     the halves of an id, for fork; fork refuses 0, whose halves no rule gives
-- SumRules       the sum of two ids, for unite, which refuses ids with a place in common
use Rattle.std.specs.Prelude.{◌≡◌, ◌≢◌}
use Rattle.tree_rules.specs.Ids.{Id, off, on, pair, norm_id}
use Rattle.tree_rules.specs.Split.{split}
use Rattle.tree_rules.specs.Sum.{sum}

pub record SplitRules : Type 0 where
  pub of_1 : split on ≡ (pair on off, pair off on)
  pub lower_0 : (i : Id) → split (pair off i) ≡ (pair off (split i).0, pair off (split i).1)
  pub upper_0 : (i : Id) → split (pair i off) ≡ (pair (split i).0 off, pair (split i).1 off)
  pub neither_0 : (l r : Id) → (l ≢ off) → (r ≢ off) → split (pair l r) ≡ (pair l off, pair off r)

pub record SumRules : Type 0 where
  pub first_0 : (i : Id) → sum off i ≡ i
  pub second_0 : (i : Id) → sum i off ≡ i
  pub pairs : (l1 r1 l2 r2 : Id) → sum (pair l1 r1) (pair l2 r2) ≡ norm_id (sum l1 l2) (sum r1 r2)
