-- How an operation answers: with a value, or with the refusal that is due.
--
-- due t c        the cause c where the test t says yes
-- first ds       the first cause of a list that is due
-- fault_of c     a refusal with no place yet
-- answered d x   the refusal where a cause is due, else x
use Rattle.std.specs.Prelude.{Bool, if◌then◌else◌, List, [], ◌∷◌, Some, None, Ok, Err, Option, Result}
use Rattle.clock.specs.declared.causes.Cause.{Cause}
use Rattle.clock.specs.declared.faults.Fault.{Fault}

abbrev pub due : {X : Type 0} → Bool → X → Option X
due t c = if t then Some c else None

abbrev pub first : {X : Type 0} → List (Option X) → Option X
first [] = None
first (Some c ∷ rest) = Some c
first (None ∷ rest) = first rest

abbrev pub fault_of : Cause → Fault
fault_of c = record { cause = c; berth = None; file = None }

abbrev pub answered : {X : Type 0} → Option Cause → X → Result X Fault
answered None x = Ok x
answered (Some c) x = Err (fault_of c)
