-- What each public operation answers: the refusal that is due, or the value of the rule, stored.
--
-- fork_answer p       the two halves of p's id; 11
-- unite_answer p q    the sum of the two ids; 12, 13
-- event_answer p c    c's tree after an event under p's id; 14, 15, 16
-- join_answer c d     the join of the two trees; 15
-- covers_answer c d   whether c's value is at least d's at every place
-- verdict_answer c d  the verdict on c against d, from covers both ways
use Rattle.std.specs.Prelude.{Bool, true, false, Result}
use Rattle.clock.specs.declared.faults.Fault.{Fault}
use Rattle.clock.specs.declared.verdicts.Verdict.{Verdict}
use Rattle.clock.specs.Answers.{answered}
use Rattle.clock.specs.Verdicts.{verdict_of}
use Rattle.tree_rules.specs.Grow.{event}
use Rattle.tree_rules.specs.Join.{join, covers_up}
use Rattle.tree_rules.specs.Kind.{split_due, sum_due, grown_due, joined_due}
use Rattle.tree_rules.specs.Split.{half}
use Rattle.tree_rules.specs.Sum.{sum}
use Rattle.tree_clock.specs.declared.clocks.TreeClock.{TreeClock}
use Rattle.tree_clock.specs.declared.pens.TreePen.{TreePen}
use Rattle.tree_clock.specs.Stored.{id_of, pen_of, event_of, clock_of}

abbrev pub fork_answer : TreePen → Result (TreePen × TreePen) Fault
fork_answer p =
    answered (split_due (id_of p)) (pen_of (half false (id_of p)), pen_of (half true (id_of p)))

abbrev pub unite_answer : TreePen → TreePen → Result TreePen Fault
unite_answer p q = answered (sum_due (id_of p) (id_of q)) (pen_of (sum (id_of p) (id_of q)))

abbrev pub event_answer : TreePen → TreeClock → Result TreeClock Fault
event_answer p c =
    answered (grown_due (id_of p) (event_of c)) (clock_of (event (id_of p) (event_of c)))

abbrev pub join_answer : TreeClock → TreeClock → Result TreeClock Fault
join_answer c d =
    answered (joined_due (event_of c) (event_of d)) (clock_of (join (event_of c) (event_of d)))

abbrev pub covers_answer : TreeClock → TreeClock → Bool
covers_answer c d = covers_up (event_of c) 0 (event_of d) 0

abbrev pub verdict_answer : TreeClock → TreeClock → Verdict
verdict_answer c d = verdict_of (covers_answer c d) (covers_answer d c)
