-- Pens and clocks over two lines, the ship's, 0, and the launch's, 1.
--
-- by_line s l n x       s at the ship's line, l at the launch's, n at every other line
-- has p x               line x is in the pen p; no other line is
-- count c x             the count of line x, 0 at every other line
-- lines s l             the pen with the ship's line where s says so, the launch's where l does
-- counts s l            the clock with these two counts
-- free p c x            line x is in the pen p, and its count is below 65,535
-- raised p c            one more on the ship's line where it is free, else on the launch's
-- larger c d            the larger count of each line
-- covered c d           no count is larger in d than in c
-- shared p q            some line is in both pens
-- both_pens p q         the pen with the lines of both
-- fork_due, event_due, unite_due
--                       the cause with which the operation is refused, if any
use Rattle.std.specs.Prelude.{ℕ, zero, suc, ◌+◌, max, Bool, false, if◌then◌else◌, not, ◌&&◌, ◌||◌, [], ◌∷◌, Option, nat_lt, nat_le}
use Rattle.clock.specs.declared.causes.Cause.{Cause}
use Rattle.clock.specs.declared.causes.Cause.TheVariants.{CannotSplit, PensOverlap, PenSpent, AtLimit}
use Rattle.clock.specs.Answers.{due, first}
use Rattle.pair_clock.specs.declared.pens.PairPen.{PairPen}
use Rattle.pair_clock.specs.declared.clocks.PairClock.{PairClock}

abbrev pub by_line : {X : Type 0} → X → X → X → ℕ → X
by_line s l n zero = s
by_line s l n (suc zero) = l
by_line s l n (suc (suc x)) = n

abbrev pub has : PairPen → ℕ → Bool
has p x = by_line p.ship p.launch false x

abbrev pub count : PairClock → ℕ → ℕ
count c x = by_line c.ship c.launch 0 x

abbrev pub lines : Bool → Bool → PairPen
lines s l = record { ship = s; launch = l }

abbrev pub counts : ℕ → ℕ → PairClock
counts s l = record { ship = s; launch = l }

abbrev pub fork_due : PairPen → Option Cause
fork_due p = due (not (p.ship && p.launch)) CannotSplit

abbrev pub free : PairPen → PairClock → ℕ → Bool
free p c x = has p x && nat_lt (count c x) 65535

abbrev pub event_due : PairPen → PairClock → Option Cause
event_due p c =
    first (due (not (p.ship || p.launch)) PenSpent ∷ due (not (free p c 0 || free p c 1)) AtLimit ∷ [])

abbrev pub raised : PairPen → PairClock → PairClock
raised p c = if free p c 0 then counts (c.ship + 1) c.launch else counts c.ship (c.launch + 1)

abbrev pub larger : PairClock → PairClock → PairClock
larger c d = counts (max c.ship d.ship) (max c.launch d.launch)

abbrev pub covered : PairClock → PairClock → Bool
covered c d = nat_le d.ship c.ship && nat_le d.launch c.launch

abbrev pub shared : PairPen → PairPen → Bool
shared p q = (p.ship && q.ship) || (p.launch && q.launch)

abbrev pub unite_due : PairPen → PairPen → Option Cause
unite_due p q = due (shared p q) PensOverlap

abbrev pub both_pens : PairPen → PairPen → PairPen
both_pens p q = lines (p.ship || q.ship) (p.launch || q.launch)
