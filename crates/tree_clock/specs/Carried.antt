-- A clock kind carried over to other values, which stand for its pens and clocks.
--
-- pen_of, clock_of       the value that stands for a pen, or for a clock
-- id_of, event_of        what a value stands for
-- pen_ok, clock_ok       the well-made values
-- carried                the kind over these values: each operation reads them, does as the first kind does, and gives the value that stands for the result
use Rattle.std.specs.Prelude.{Bool}
use Rattle.clock.specs.Meaning.{Meaning}

module _ {Id Event Pen Clock : Type 0} (m : Meaning Id Event) (pen_of : Id → Pen) (id_of : Pen → Id) (pen_ok : Pen → Bool) (clock_of : Event → Clock) (event_of : Clock → Event) (clock_ok : Clock → Bool) where
  abbrev pub carried : Meaning Pen Clock
  carried = record {
    seed = pen_of m.seed;
    no_pen = pen_of m.no_pen;
    blank = clock_of m.blank;
    makes = λ p. m.makes (id_of p);
    knows = λ c. m.knows (event_of c);
    pen_made = pen_ok;
    clock_made = clock_ok;
    fork_due = λ p. m.fork_due (id_of p);
    halves = λ p. (pen_of (m.halves (id_of p)).0, pen_of (m.halves (id_of p)).1);
    event_due = λ p c. m.event_due (id_of p) (event_of c);
    evented = λ p c. clock_of (m.evented (id_of p) (event_of c));
    join_due = λ c d. m.join_due (event_of c) (event_of d);
    joined = λ c d. clock_of (m.joined (event_of c) (event_of d));
    covers = λ c d. m.covers (event_of c) (event_of d);
    unite_due = λ p q. m.unite_due (id_of p) (id_of q);
    united = λ p q. pen_of (m.united (id_of p) (id_of q));
  }
