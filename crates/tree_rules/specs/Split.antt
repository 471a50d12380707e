-- Split, the rule of fork: the two halves of an id.
--
-- half u i             the first half of i, or the second where u says yes
-- unsplittable n i     i is 0, or a half of it would be deeper than n
use Rattle.std.specs.Prelude.{ℕ, Bool, true, false, if◌then◌else◌, ◌||◌, nat_lt}
use Rattle.tree_rules.specs.Ids.{Id, off, on, pair, is_off, id_depth}

-- the halves of 1 are (1,0) and (0,1)
abbrev pub half_one : Bool → Id
half_one false = pair on off
half_one true = pair off on

-- the halves of a pair of which neither side is 0
abbrev pub half_pair : Bool → Id → Id → Id
half_pair false l r = pair l off
half_pair true l r = pair off r

abbrev pub half : Bool → Id → Id
half u off = off
half u on = half_one u
half u (pair l r) =
    if is_off l
    then pair off (half u r)
    else (if is_off r then pair (half u l) off else half_pair u l r)

abbrev pub split : Id → Id × Id
split i = (half false i, half true i)

abbrev pub unsplittable : ℕ → Id → Bool
unsplittable n i =
    is_off i || (nat_lt n (id_depth (half false i)) || nat_lt n (id_depth (half true i)))
