-- Worked examples of a whole yard: a day of calls on one file and two berths, and what each must answer and leave.
--
-- Step                 a call, with all that it must answer and leave: the tables, and its buffer
-- Course               the pens and clocks that a kind has in the course of the day
-- alone, shared        the berth table with berth 0 alone at work, and with both
-- copies c p d q       the copy table: berth 0 has clock c and payload p, berth 1 d and q
-- day                  the day's steps after open, with the pens and clocks of a course
-- same_left            whether a call answers and leaves what it must
-- steps_hold           whether each step does, from the given tables on
-- yard_holds           whether open, on tables that were in use before, and the day's steps hold
-- tree_course          the course of the interval tree clocks
-- vector_course        the course of the vector clocks of 16 names
use Rattle.std.specs.Prelude.{ℕ, Bool, true, false, not, ◌&&◌, ◌||◌, List, [], ◌∷◌, Some, None, Ok, Err, Option, Result, ◌==◌, nat_eq}
use Rattle.clock.specs.declared.causes.Cause.TheVariants.{SameBerth, NoConflict}
use Rattle.clock.specs.declared.faults.Fault.{Fault}
use Rattle.clock.specs.declared.verdicts.Verdict.TheVariants.{Stale, Ahead, Conflict}
use Rattle.clock.specs.Causes.{number_of}
use Rattle.clock.specs.Verdicts.{byte_of}
use Rattle.clock.specs.Meaning.{Meaning}
use Rattle.yard_rules.specs.declared.answers.Answer.{Answer}
use Rattle.yard_rules.specs.declared.answers.Answer.TheVariants.{Done, Judged, Reported, Pulled, Shown}
use Rattle.yard_rules.specs.declared.tables.State.TheVariants.{Empty}
use Rattle.yard_rules.specs.declared.tables.Berth.{Berth}
use Rattle.yard_rules.specs.declared.tables.Record.{Record}
use Rattle.yard_rules.specs.Tables.{Card, sizes, works, working_berth}
use Rattle.yard_rules.specs.Checks.{Outcome, outcome, fault}
use Rattle.yard_rules.specs.Open.{open_result}
use Rattle.yard_rules.specs.Page.{Asked}
use Rattle.yard_rules.specs.Fork.{fork_call}
use Rattle.yard_rules.specs.Edit.{edit_call}
use Rattle.yard_rules.specs.Judge.{judge_call}
use Rattle.yard_rules.specs.Report.{report_call}
use Rattle.yard_rules.specs.Show.{show_call}
use Rattle.yard_rules.specs.Pull.{pull_call}
use Rattle.yard_rules.specs.Settle.{settle_call}
use Rattle.yard_rules.specs.Retire.{retire_call}
use Rattle.yard_rules.specs.Calls.{said}
use Rattle.tree_rules.specs.Ids.{Id, off, on, pair}
use Rattle.tree_rules.specs.Events.{Event, leaf, node}
use Rattle.vector_clock.specs.declared.pens.Names.{Names}
use Rattle.vector_clock.specs.declared.clocks.Counts.{Counts}

pub data Step (Pen C : Type 0) : Type 0 where
  step : Asked ℕ → Outcome Pen C ℕ (Answer Pen C) → Step Pen C

pub record Course (Pen C : Type 0) : Type 0 where
  pub whole : Pen
  pub lower : Pen
  pub upper : Pen
  pub spent : Pen
  pub blank : C
  pub edited_0 : C
  pub edited_1 : C
  pub settled : C
  pub last : C

abbrev pub same_list : {X : Type 0} → (X → X → Bool) → List X → List X → Bool
same_list test [] [] = true
same_list test [] (y ∷ ys) = false
same_list test (x ∷ xs) [] = false
same_list test (x ∷ xs) (y ∷ ys) = test x y && same_list test xs ys

abbrev pub same_bit : Bool → Bool → Bool
same_bit x y = (x && y) || (not x && not y)

abbrev pub same_number : Option ℕ → Option ℕ → Bool
same_number (Some x) (Some y) = x == y
same_number (Some x) None = false
same_number None (Some y) = false
same_number None None = true

abbrev pub same_fault : Fault → Fault → Bool
same_fault x y = number_of x.cause == number_of y.cause && (same_number x.berth y.berth && same_number x.file y.file)

abbrev pub same_result : {X : Type 0} → (X → X → Bool) → Result X Fault → Result X Fault → Bool
same_result test (Ok x) (Ok y) = test x y
same_result test (Ok x) (Err d) = false
same_result test (Err c) (Ok y) = false
same_result test (Err c) (Err d) = same_fault c d

abbrev pub same_card : Card → Card → Bool
same_card x y = x.berths == y.berths && x.files == y.files

abbrev pub same_answer : {Pen C : Type 0} → (Pen → Pen → Bool) → (C → C → Bool) → Answer Pen C → Answer Pen C → Bool
same_answer same_pen same_clock Done Done = true
same_answer same_pen same_clock (Judged x) (Judged y) = byte_of x == byte_of y
same_answer same_pen same_clock (Reported e s a c t) (Reported e' s' a' c' t') = e == e' && (s == s' && (a == a' && (c == c' && t == t')))
same_answer same_pen same_clock (Pulled n k) (Pulled n' k') = n == n' && k == k'
same_answer same_pen same_clock (Shown x c) (Shown y d) = same_pen x y && same_clock c d
same_answer same_pen same_clock _ _ = false

abbrev pub yard : Card
yard = sizes 2 1

abbrev pub copies : {C : Type 0} → C → ℕ → C → ℕ → List (Record C ℕ)
copies c p d q = record { clock = c; payload = p } ∷ record { clock = d; payload = q } ∷ []

module _ {Pen C : Type 0} (k : Course Pen C) where
  abbrev pub alone : List (Berth Pen)
  alone = working_berth k.whole ∷ record { state = Empty; pen = k.spent } ∷ []

  abbrev pub shared : List (Berth Pen)
  shared = working_berth k.lower ∷ working_berth k.upper ∷ []

  -- payloads: 10 from open, 11 and 12 by edit, 13 by settle, 14 by the last edit
  abbrev pub day : List (Step Pen C)
  day =
      step (fork_call yard 0 0) (outcome (Err (fault SameBerth (Some 0) None)) alone (copies k.blank 10 k.blank 10) [])
      ∷ step (fork_call yard 0 1) (outcome (Ok Done) shared (copies k.blank 10 k.blank 10) [])
      ∷ step (edit_call yard 0 0 11) (outcome (Ok Done) shared (copies k.edited_0 11 k.blank 10) [])
      ∷ step (judge_call yard 0 1 0) (outcome (Ok (Judged Ahead)) shared (copies k.edited_0 11 k.blank 10) [])
      ∷ step (edit_call yard 1 0 12) (outcome (Ok Done) shared (copies k.edited_0 11 k.edited_1 12) [])
      ∷ step (judge_call yard 0 1 0) (outcome (Ok (Judged Conflict)) shared (copies k.edited_0 11 k.edited_1 12) [])
      ∷ step (report_call yard 0 1 (9 ∷ 9 ∷ [])) (outcome (Ok (Reported 0 0 0 1 0)) shared (copies k.edited_0 11 k.edited_1 12) (3 ∷ 9 ∷ []))
      ∷ step (settle_call yard 0 1 0 13) (outcome (Ok Done) shared (copies k.edited_0 11 k.settled 13) [])
      ∷ step (show_call yard 1 0) (outcome (Ok (Shown k.upper k.settled)) shared (copies k.edited_0 11 k.settled 13) [])
      ∷ step (judge_call yard 0 1 0) (outcome (Ok (Judged Stale)) shared (copies k.edited_0 11 k.settled 13) [])
      ∷ step (settle_call yard 0 1 0 15) (outcome (Err (fault NoConflict (Some 1) (Some 0))) shared (copies k.edited_0 11 k.settled 13) [])
      ∷ step (pull_call yard 1 0 (9 ∷ [])) (outcome (Ok (Pulled 1 0)) shared (copies k.settled 13 k.settled 13) (1 ∷ []))
      ∷ step (retire_call yard 1 0) (outcome (Ok Done) alone (copies k.settled 13 k.settled 13) [])
      ∷ step (edit_call yard 0 0 14) (outcome (Ok Done) alone (copies k.last 14 k.settled 13) [])
      ∷ []

module _ {Pen C : Type 0} (m : Meaning Pen C) (same_pen : Pen → Pen → Bool) (same_clock : C → C → Bool) where
  abbrev pub same_berth : Berth Pen → Berth Pen → Bool
  same_berth x y = same_bit (works x.state) (works y.state) && same_pen x.pen y.pen

  abbrev pub same_copy : Record C ℕ → Record C ℕ → Bool
  same_copy x y = same_clock x.clock y.clock && x.payload == y.payload

  abbrev pub same_left : {A : Type 0} → (A → A → Bool) → Outcome Pen C ℕ A → Outcome Pen C ℕ A → Bool
  same_left test x y = same_result test x.answer y.answer && (same_list same_berth x.berths y.berths && (same_list same_copy x.copies y.copies && same_list nat_eq x.bytes y.bytes))

  -- a step starts from the tables that the step before it must leave
  abbrev pub steps_hold : List (Step Pen C) → List (Berth Pen) → List (Record C ℕ) → Bool
  steps_hold [] bs cs = true
  steps_hold (step q l ∷ steps) bs cs = same_left (same_answer same_pen same_clock) (said m nat_eq q bs cs) l && steps_hold steps l.berths l.copies

  abbrev pub yard_holds : Course Pen C → Bool
  yard_holds k =
      same_left same_card
      (open_result m (shared k) (copies k.settled 8 k.last 9) (10 ∷ []))
      (outcome (Ok yard) (alone k) (copies k.blank 10 k.blank 10) [])
      && steps_hold (day k) (alone k) (copies k.blank 10 k.blank 10)

abbrev pub tree_course : Course Id Event
tree_course = record {
  whole = on;
  lower = pair on off;
  upper = pair off on;
  spent = off;
  blank = leaf 0;
  edited_0 = node 0 (leaf 1) (leaf 0);
  edited_1 = node 0 (leaf 0) (leaf 1);
  settled = node 1 (leaf 0) (leaf 1);
  last = leaf 2;
}

-- the pen with the names 0 to 7 where x says so, and 8 to 15 where y does
abbrev pub names : Bool → Bool → Names 16
names x y = record { held = x ∷ x ∷ x ∷ x ∷ x ∷ x ∷ x ∷ x ∷ y ∷ y ∷ y ∷ y ∷ y ∷ y ∷ y ∷ y ∷ [] }

-- the clock that counts x for name 0, y for name 8, and 0 for each other
abbrev pub counted : ℕ → ℕ → Counts 16
counted x y = record { counts = x ∷ 0 ∷ 0 ∷ 0 ∷ 0 ∷ 0 ∷ 0 ∷ 0 ∷ y ∷ 0 ∷ 0 ∷ 0 ∷ 0 ∷ 0 ∷ 0 ∷ 0 ∷ [] }

abbrev pub same_names : Names 16 → Names 16 → Bool
same_names p q = same_list same_bit p.held q.held

abbrev pub same_counts : Counts 16 → Counts 16 → Bool
same_counts c d = same_list nat_eq c.counts d.counts

abbrev pub vector_course : Course (Names 16) (Counts 16)
vector_course = record {
  whole = names true true;
  lower = names true false;
  upper = names false true;
  spent = names false false;
  blank = counted 0 0;
  edited_0 = counted 1 0;
  edited_1 = counted 0 1;
  settled = counted 1 2;
  last = counted 2 2;
}
