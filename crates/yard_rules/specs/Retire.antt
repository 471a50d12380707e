-- retire a b: working berth a hands its pen and its copies to working berth b and becomes empty.
--
-- No file may be in conflict. b's stale copies are replaced by a's, b gets the united pen, a the
-- empty one. Refused with 1, 2, 4, 5, 8, 12, 13; 12 never comes from a yard that calls lead to.
-- retire_plain   the checks that ask no clock
-- retired        what is left where nothing is due
-- retire_page    all of it: b gets a's set where its own is properly inside it, and a has no copies
--                any more
-- retire_call    the call, asked under a card
--
-- It rests on the verdict on each file: it is accepted only where no sets are in conflict, and
-- refused with 8 only where some are, at the lowest such file.
use Rattle.std.specs.Prelude.{◌≡◌, ◌<◌, false, Err, ℕ, List, [], ◌∷◌, ◌++◌, Some, None, Ok, Option, slice_set}
use Rattle.clock.specs.declared.causes.Cause.TheVariants.{InConflict}
use Rattle.clock.specs.declared.faults.Fault.{Fault}
use Rattle.clock.specs.Answers.{first}
use Rattle.clock.specs.Meaning.{Meaning}
use Rattle.yard_rules.specs.declared.tables.Berth.{Berth}
use Rattle.yard_rules.specs.declared.tables.Record.{Record}
use Rattle.yard_rules.specs.Tables.{Card, pen_at, empty_berth, working_berth, row, newer_from}
use Rattle.yard_rules.specs.Checks.{Outcome, outcome, unless, wrong_sizes, no_berth, same_berth, not_working, some_conflict, placed}
use Rattle.yard_rules.specs.declared.answers.Answer.TheVariants.{Done}
use Rattle.yard_rules.specs.declared.calls.Call.TheVariants.{Writes}
use Rattle.yard_rules.specs.declared.calls.Writing.TheVariants.{Retire}
use Rattle.clock.specs.declared.verdicts.Verdict.TheVariants.{Conflict}
use Rattle.yard_rules.specs.History.{History, Compares, put, larger, moved_to}
use Rattle.yard_rules.specs.Page.{Page, Asked, asked}

module _ {Pen C P : Type 0} (card : Card) (bs : List (Berth Pen)) (cs : List (Record C P)) where
  abbrev pub retire_plain : ℕ → ℕ → List (Option Fault)
  retire_plain a b =
      wrong_sizes card bs cs ∷ no_berth card a ∷ no_berth card b ∷ same_berth a b
      ∷ not_working bs a ∷ not_working bs b ∷ []

module _ {Pen C P : Type 0} (m : Meaning Pen C) (card : Card) (bs : List (Berth Pen))
    (cs : List (Record C P)) where
  abbrev pub retire_checks : ℕ → ℕ → List (Option Fault)
  retire_checks a b = retire_plain card bs cs a b ++
      (some_conflict m card.files cs a b
      ∷ placed (Some b) None (m.unite_due (pen_at m bs a) (pen_at m bs b))
      ∷ [])

  abbrev pub retired : ℕ → ℕ → List ℕ → Outcome Pen C P Unit
  retired a b bytes = let pen = m.united (pen_at m bs a) (pen_at m bs b) in outcome (Ok tt)
      (slice_set (slice_set bs b (working_berth pen)) a (empty_berth m))
      (row card.files cs b (newer_from card.files cs m a b))
      bytes

  abbrev pub retire_result : ℕ → ℕ → Outcome Pen C P Unit
  retire_result a b = unless bs cs [] (first (retire_checks a b)) (retired a b [])

pub record RetireRests {Pen C P : Type 0} (files a b : ℕ) (h : History P)
    (l : Outcome Pen C P Unit) : Type 0 where
  pub accepted : l.answer ≡ Ok tt → (f : ℕ) → f < files →
      Compares Conflict (h.behind b f) (h.behind a f) → ⊥
  pub refused : (e : Fault) → l.answer ≡ Err e → e.cause ≡ InConflict →
      (f : ℕ) × (e.file ≡ Some f) × Compares Conflict (h.behind b f) (h.behind a f)
      × ((g : ℕ) → g < f → Compares Conflict (h.behind b g) (h.behind a g) → ⊥)

abbrev pub retire_page : {Pen C P : Type 0} → Meaning Pen C → Card → ℕ → ℕ → Page Pen C P
retire_page m card a b = record {
  Value = Unit;
  told = λ v. Done;
  checks = λ bs cs bytes. retire_checks m card bs cs a b;
  done = λ alike bs cs bytes. retired m card bs cs a b bytes;
  edits = λ h. moved_to h (put h.present a false) (put h.behind b (larger h a b));
  gives = λ h l. Unit;
  rests_on = λ h l. RetireRests card.files a b h l;
  loses = false;
}

abbrev pub retire_call : {P : Type 0} → Card → ℕ → ℕ → Asked P
retire_call card a b = asked card (Writes (Retire a b)) []
