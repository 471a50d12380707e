-- What a clock kind means.
--
-- mark         a line and a step, two whole numbers
-- makes        the marks that a pen may make
-- knows        the marks that a clock knows
-- made         the well-made pens and clocks: those that a caller can hold
-- halves, evented, joined, united
--              the value that fork, event, join and unite give where nothing is due
-- fork_due, event_due, join_due, unite_due
--              the cause with which the operation is refused, if any
use Rattle.std.specs.Prelude.{◌≡◌, ℕ, Bool, true, Option}
use Rattle.clock.specs.declared.causes.Cause.{Cause}

-- a test that answers yes
abbrev pub Yes : Bool → Type 0
Yes b = b ≡ true

pub record Meaning (Pen : Type 0) (Clock : Type 0) : Type 0 where
  pub seed : Pen
  pub no_pen : Pen
  pub blank : Clock
  pub makes : Pen → ℕ → ℕ → Bool
  pub knows : Clock → ℕ → ℕ → Bool
  pub pen_made : Pen → Bool
  pub clock_made : Clock → Bool
  pub fork_due : Pen → Option Cause
  pub halves : Pen → Pen × Pen
  pub event_due : Pen → Clock → Option Cause
  pub evented : Pen → Clock → Clock
  pub join_due : Clock → Clock → Option Cause
  pub joined : Clock → Clock → Clock
  pub covers : Clock → Clock → Bool
  pub unite_due : Pen → Pen → Option Cause
  pub united : Pen → Pen → Pen
