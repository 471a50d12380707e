-- Sum, the rule of unite: the id with the places of two.
--
-- sum i j        for ids with no place in common
-- overlap i j    whether some place is 1 in both
use Rattle.std.specs.Prelude.{Bool, true, false, ◌||◌}
use Rattle.tree_rules.specs.Ids.{Id, off, on, pair, norm_id}

-- where both are 1 there is no rule, since unite is refused there
abbrev pub sum : Id → Id → Id
sum off j = j
sum on j = on
sum (pair l r) off = pair l r
sum (pair l r) on = on
sum (pair l r) (pair s t) = norm_id (sum l s) (sum r t)

-- whether an id has some place
abbrev pub some_place : Id → Bool
some_place off = false
some_place on = true
some_place (pair l r) = some_place l || some_place r

abbrev pub overlap : Id → Id → Bool
overlap off j = false
overlap on j = some_place j
overlap (pair l r) off = false
overlap (pair l r) on = some_place l || some_place r
overlap (pair l r) (pair s t) = overlap l s || overlap r t
