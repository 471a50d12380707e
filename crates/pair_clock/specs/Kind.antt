-- What two counts mean as a clock kind.
--
-- A pen may make every step of its lines, a clock knows the steps below each line's count.
-- Every pen and every clock is well made.
use Rattle.std.specs.Prelude.{true, false, None, nat_lt}
use Rattle.clock.specs.Meaning.{Meaning}
use Rattle.pair_clock.specs.declared.pens.PairPen.{PairPen}
use Rattle.pair_clock.specs.declared.clocks.PairClock.{PairClock}
use Rattle.pair_clock.specs.Pair.{has, count, lines, counts, fork_due, event_due, raised, larger, covered, unite_due, both_pens}

abbrev pub pairs : Meaning PairPen PairClock
pairs = record {
  seed = lines true true;
  no_pen = lines false false;
  blank = counts 0 0;
  makes = λ p line step. has p line;
  knows = λ c line step. nat_lt step (count c line);
  pen_made = λ p. true;
  clock_made = λ c. true;
  fork_due = fork_due;
  halves = λ p. (lines true false, lines false true);
  event_due = event_due;
  evented = raised;
  join_due = λ c d. None;
  joined = larger;
  covers = covered;
  unite_due = unite_due;
  united = both_pens;
}
