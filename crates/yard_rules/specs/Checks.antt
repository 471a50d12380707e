-- The checks of the calls, each the refusal that it gives where it is due, and what a refused call
-- leaves.
--
-- A call looks at its checks in the order of their numbers; the first that is due refuses it.
--
-- wrong_sizes      1   the tables are not of the card's sizes, or those are out of limits
-- no_berth a       2   there is no berth a
-- no_file f        3   there is no file f
-- same_berth a b   4   the same berth twice
-- not_working a    5   berth a is not in use
-- not_empty b      5   berth b is in use
-- short_buffer     6   the buffer is shorter than the number of files
-- no_conflict      7   b's copy of the file is not in conflict with a's
-- some_conflict    8   some file is in conflict; the lowest such
-- placed b f       11 to 16: a cause of the clock kind, with berth and file added
-- Outcome             what a call answers and leaves: both tables, and its buffer
-- unless           a refusal, which changes nothing, or else what is done
use Rattle.std.specs.Prelude.{ℕ, zero, suc, ◌*◌, Bool, if◌then◌else◌, not, ◌&&◌, List, length, Some, None, Err, Option, Result, ◌==◌, nat_le, nat_lt}
use Rattle.clock.specs.declared.causes.Cause.{Cause}
use Rattle.clock.specs.declared.causes.Cause.TheVariants.{Sizes, NoBerth, NoFile, SameBerth, WrongState, ShortBuffer, NoConflict, InConflict}
use Rattle.clock.specs.declared.faults.Fault.{Fault}
use Rattle.clock.specs.Answers.{due}
use Rattle.clock.specs.Meaning.{Meaning}
use Rattle.yard_rules.specs.declared.tables.Berth.{Berth}
use Rattle.yard_rules.specs.declared.tables.Record.{Record}
use Rattle.yard_rules.specs.Tables.{Card, working, is_conflict, judged}

abbrev pub fault : Cause → Option ℕ → Option ℕ → Fault
fault c b f = record { cause = c; berth = b; file = f }

abbrev pub sizes_fit : {X Y : Type 0} → Card → List X → List Y → Bool
sizes_fit card bs cs =
    nat_le 1 card.berths && (nat_le card.berths 16
    && (nat_le 1 card.files && (nat_le card.files 32
    && (length bs == card.berths && length cs == card.berths * card.files))))

abbrev pub wrong_sizes : {X Y : Type 0} → Card → List X → List Y → Option Fault
wrong_sizes card bs cs = due (not (sizes_fit card bs cs)) (fault Sizes None None)

abbrev pub no_berth : Card → ℕ → Option Fault
no_berth card a = due (nat_le card.berths a) (fault NoBerth (Some a) None)

abbrev pub no_file : Card → ℕ → Option Fault
no_file card f = due (nat_le card.files f) (fault NoFile None (Some f))

abbrev pub same_berth : ℕ → ℕ → Option Fault
same_berth a b = due (a == b) (fault SameBerth (Some a) None)

abbrev pub not_working : {Pen : Type 0} → List (Berth Pen) → ℕ → Option Fault
not_working bs a = due (not (working bs a)) (fault WrongState (Some a) None)

abbrev pub not_empty : {Pen : Type 0} → List (Berth Pen) → ℕ → Option Fault
not_empty bs b = due (working bs b) (fault WrongState (Some b) None)

abbrev pub short_buffer : Card → List ℕ → Option Fault
short_buffer card bytes = due (nat_lt (length bytes) card.files) (fault ShortBuffer None None)

-- the lowest number below n at which the test says yes
abbrev pub lowest : ℕ → (ℕ → Bool) → Option ℕ
lowest zero t = None
lowest (suc n) t = elim (lowest n t) [ Some k ↦ Some k | None ↦ if t n then Some n else None ]

abbrev pub conflict_in : ℕ → Option ℕ → Option Fault
conflict_in b (Some f) = Some (fault InConflict (Some b) (Some f))
conflict_in b None = None

module _ {Pen C P : Type 0} (m : Meaning Pen C) (files : ℕ) (cs : List (Record C P)) where
  abbrev pub no_conflict : ℕ → ℕ → ℕ → Option Fault
  no_conflict a b f =
      due (not (is_conflict (judged m files cs b a f))) (fault NoConflict (Some b) (Some f))

  abbrev pub some_conflict : ℕ → ℕ → Option Fault
  some_conflict a b = conflict_in b (lowest files (λ f. is_conflict (judged m files cs b a f)))

abbrev pub placed : Option ℕ → Option ℕ → Option Cause → Option Fault
placed b f (Some c) = Some (fault c b f)
placed b f None = None

pub record Outcome (Pen C P A : Type 0) : Type 0 where
  pub answer : Result A Fault
  pub berths : List (Berth Pen)
  pub copies : List (Record C P)
  pub bytes : List ℕ

abbrev pub outcome : {Pen C P A : Type 0} → Result A Fault → List (Berth Pen) → List (Record C P) →
    List ℕ → Outcome Pen C P A
outcome r bs cs bytes = record { answer = r; berths = bs; copies = cs; bytes = bytes }

abbrev pub unless : {Pen C P A : Type 0} → List (Berth Pen) → List (Record C P) → List ℕ →
    Option Fault → Outcome Pen C P A → Outcome Pen C P A
unless bs cs bytes (Some e) done = outcome (Err e) bs cs bytes
unless bs cs bytes None done = done
