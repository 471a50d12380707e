-- How the code of a call goes through its checks: each answers `Ok` where it is not due, else the
-- refusal.
--
-- passing o       `Ok` where no refusal is due, else that refusal
-- all_pass l      the first refusal of a list of checks, else `Ok`
-- at_place b f r  the answer of a clock kind, with berth and file added to a refusal
use Rattle.std.specs.Prelude.{ℕ, List, [], ◌∷◌, Some, None, Ok, Err, Option, Result}
use Rattle.clock.specs.declared.faults.Fault.{Fault}
use Rattle.yard_rules.specs.Checks.{fault}

abbrev pub passing : Option Fault → Result (Unit {0}) Fault
passing None = Ok tt
passing (Some e) = Err e

abbrev pub onward : Result (Unit {0}) Fault → Result (Unit {0}) Fault → Result (Unit {0}) Fault
onward (Ok x) next = next
onward (Err e) next = Err e

abbrev pub all_pass : List (Option Fault) → Result (Unit {0}) Fault
all_pass [] = Ok tt
all_pass (o ∷ l) = onward (passing o) (all_pass l)

abbrev pub at_place : {A : Type 0} → Option ℕ → Option ℕ → Result A Fault → Result A Fault
at_place b f (Ok x) = Ok x
at_place b f (Err e) = Err (fault e.cause b f)
