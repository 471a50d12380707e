-- Interval tree clocks as a kind: a pen is an id, a clock an event tree.
--
-- A pen may make the marks (x,k), for every k, at each place x where it is 1.
-- A clock knows (x,k) for each k below its value at x.
-- Limits: 4,096 places, depth 12, 63 nodes, values up to 65,535.
use Rattle.std.specs.Prelude.{Bool, ◌&&◌, [], ◌∷◌, Option, nat_le, nat_lt}
use Rattle.clock.specs.declared.causes.Cause.{Cause}
use Rattle.clock.specs.declared.causes.Cause.TheVariants.{CannotSplit, PensOverlap, PenTooLarge, PenSpent, ClockTooLarge, AtLimit}
use Rattle.clock.specs.Answers.{due, first}
use Rattle.clock.specs.Meaning.{Meaning}
use Rattle.tree_rules.specs.Ids.{Id, off, on, id_size, id_depth, is_off, owns, normal_id}
use Rattle.tree_rules.specs.Events.{Event, leaf, size, depth, value, top, normal}
use Rattle.tree_rules.specs.Split.{split, unsplittable}
use Rattle.tree_rules.specs.Sum.{sum, overlap}
use Rattle.tree_rules.specs.Join.{join, covers_up}
use Rattle.tree_rules.specs.Grow.{event}

-- in normal form and within the limits
abbrev pub id_made : Id → Bool
id_made i = normal_id i && (nat_le (id_depth i) 12 && nat_le (id_size i) 63)

abbrev pub event_made : Event → Bool
event_made e = normal e && (nat_le (depth e) 12 && (nat_le (size e) 63 && nat_le (top e) 65535))

-- 11: the id is 0, or a half would be deeper than 12
abbrev pub split_due : Id → Option Cause
split_due i = due (unsplittable 12 i) CannotSplit

-- 12: some place is 1 in both; 13: more than 63 nodes
abbrev pub sum_due : Id → Id → Option Cause
sum_due i j =
    first (due (overlap i j) PensOverlap ∷ due (nat_lt 63 (id_size (sum i j))) PenTooLarge ∷ [])

-- 15: more than 63 nodes
abbrev pub joined_due : Event → Event → Option Cause
joined_due e f = due (nat_lt 63 (size (join e f))) ClockTooLarge

-- 14: the id is 0; 15: more than 63 nodes; 16: a value above 65,535
abbrev pub grown_due : Id → Event → Option Cause
grown_due i e =
    first
    (due (is_off i) PenSpent
    ∷ due (nat_lt 63 (size (event i e))) ClockTooLarge
    ∷ due (nat_lt 65535 (top (event i e))) AtLimit
    ∷ [])

abbrev pub tree : Meaning Id Event
tree = record {
  seed = on;
  no_pen = off;
  blank = leaf 0;
  makes = λ i x k. nat_lt x 4096 && owns i 12 x;
  knows = λ e x k. nat_lt x 4096 && nat_lt k (value e 12 x);
  pen_made = id_made;
  clock_made = event_made;
  fork_due = split_due;
  halves = split;
  event_due = grown_due;
  evented = event;
  join_due = joined_due;
  joined = join;
  covers = λ e f. covers_up e 0 f 0;
  unite_due = sum_due;
  united = sum;
}
