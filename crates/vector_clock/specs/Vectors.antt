-- What names and counts mean as a clock kind, for any number of names.
--
-- The marks of a name are its steps 0, 1, 2, ..: a pen may make every mark of its names,
-- a clock knows the marks below each name's count.
--
-- vectors      the kind, for any number of names
-- vector_kind  the kind as it is used: with 16 names
use Rattle.std.specs.Prelude.{ℕ, length, None, ◌==◌, nat_lt}
use Rattle.clock.specs.Meaning.{Meaning}
use Rattle.vector_clock.specs.declared.pens.Names.{Names}
use Rattle.vector_clock.specs.declared.clocks.Counts.{Counts}
use Rattle.vector_clock.specs.Pens.{in_pen, all_names, no_names, fork_due, lower_half, upper_half, unite_due, both_names}
use Rattle.vector_clock.specs.Clocks.{count_of, no_counts, event_due, raised, larger_counts, covered}

abbrev pub vectors : {n : ℕ} → Meaning (Names n) (Counts n)
vectors {n} = record {
  seed = all_names n;
  no_pen = no_names n;
  blank = no_counts n;
  makes = λ p name step. in_pen p name;
  knows = λ c name step. nat_lt step (count_of c name);
  pen_made = λ p. (length p.held == n);
  clock_made = λ c. (length c.counts == n);
  fork_due = fork_due;
  halves = λ p. (lower_half p, upper_half p);
  event_due = event_due;
  evented = raised;
  join_due = λ c d. None;
  joined = larger_counts;
  covers = covered;
  unite_due = unite_due;
  united = both_names;
}

abbrev pub vector_kind : Meaning (Names 16) (Counts 16)
vector_kind = vectors
