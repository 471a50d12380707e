-- settle a b f p: working berth b ends the conflict of its copy of file f with a's, by payload p.
--
-- a is in use. b's clock becomes the join of the two, then an event on it under b's pen. Refused
-- with 1, 2, 3, 4, 5, 7, then join's 15, then event's 14, 15, 16.
-- settle_plain   the checks that ask no clock
-- met            the join of the two clocks
-- settled        what is left where nothing is due
-- settle_page    all of it: a new edit of b's copy, with the sets behind both copies behind it
-- settle_call    the call, asked under a card
--
-- It rests on one verdict: it is accepted only where the sets are in conflict, and refused with 7
-- only where not.
use Rattle.std.specs.Prelude.{◌≡◌, false, Err, ℕ, ◌+◌, ◌*◌, List, [], ◌∷◌, ◌++◌, Some, Ok, Option, slice_set}
use Rattle.clock.specs.declared.causes.Cause.TheVariants.{NoConflict}
use Rattle.clock.specs.declared.faults.Fault.{Fault}
use Rattle.clock.specs.Answers.{first}
use Rattle.clock.specs.Meaning.{Meaning}
use Rattle.yard_rules.specs.declared.tables.Berth.{Berth}
use Rattle.yard_rules.specs.declared.tables.Record.{Record}
use Rattle.yard_rules.specs.Tables.{Card, pen_at, clock_at}
use Rattle.yard_rules.specs.Checks.{Outcome, outcome, unless, wrong_sizes, no_berth, no_file, same_berth, not_working, no_conflict, placed}
use Rattle.yard_rules.specs.declared.answers.Answer.TheVariants.{Done}
use Rattle.yard_rules.specs.declared.calls.Call.TheVariants.{Writes}
use Rattle.yard_rules.specs.declared.calls.Writing.TheVariants.{Settle}
use Rattle.clock.specs.declared.verdicts.Verdict.TheVariants.{Conflict}
use Rattle.yard_rules.specs.History.{History, Compares, numbered}
use Rattle.yard_rules.specs.Page.{Page, Asked, asked}

module _ {Pen C P : Type 0} (card : Card) (bs : List (Berth Pen)) (cs : List (Record C P)) where
  abbrev pub settle_plain : ℕ → ℕ → ℕ → List (Option Fault)
  settle_plain a b f =
      wrong_sizes card bs cs ∷ no_berth card a ∷ no_berth card b ∷ no_file card f
      ∷ same_berth a b ∷ not_working bs a ∷ not_working bs b ∷ []

abbrev pub met : {Pen C P : Type 0} → Meaning Pen C → ℕ → List (Record C P) → ℕ → ℕ → ℕ → C
met m files cs a b f = m.joined (clock_at m files cs b f) (clock_at m files cs a f)

module _ {Pen C P : Type 0} (m : Meaning Pen C) (card : Card) (bs : List (Berth Pen))
    (cs : List (Record C P)) where
  abbrev pub settle_checks : ℕ → ℕ → ℕ → List (Option Fault)
  settle_checks a b f = settle_plain card bs cs a b f ++
      (no_conflict m card.files cs a b f
      ∷ placed (Some b) (Some f)
      (m.join_due (clock_at m card.files cs b f) (clock_at m card.files cs a f))
      ∷ placed (Some b) (Some f) (m.event_due (pen_at m bs b) (met m card.files cs a b f))
      ∷ [])

  abbrev pub settled : ℕ → ℕ → ℕ → P → List ℕ → Outcome Pen C P Unit
  settled a b f p bytes =
      let clock = m.evented (pen_at m bs b) (met m card.files cs a b f) in
      outcome (Ok tt) bs
      (slice_set cs (b * card.files + f) (record { clock = clock; payload = p })) bytes

  abbrev pub settle_result : ℕ → ℕ → ℕ → P → Outcome Pen C P Unit
  settle_result a b f p = unless bs cs [] (first (settle_checks a b f)) (settled a b f p [])

pub record SettleRests {Pen C P : Type 0} (a b f : ℕ) (h : History P)
    (l : Outcome Pen C P Unit) : Type 0 where
  pub accepted : l.answer ≡ Ok tt → Compares Conflict (h.behind b f) (h.behind a f)
  pub refused : (e : Fault) → l.answer ≡ Err e → e.cause ≡ NoConflict →
      Compares Conflict (h.behind b f) (h.behind a f) → ⊥

abbrev pub settle_page : {Pen C P : Type 0} → Meaning Pen C → Card → ℕ → ℕ → ℕ → P → Page Pen C P
settle_page m card a b f p = record {
  Value = Unit;
  told = λ v. Done;
  checks = λ bs cs bytes. settle_checks m card bs cs a b f;
  done = λ alike bs cs bytes. settled m card bs cs a b f p bytes;
  edits = λ h. numbered h b f p (h.behind a f ++ h.behind b f);
  gives = λ h l. Unit;
  rests_on = λ h l. SettleRests a b f h l;
  loses = false;
}

abbrev pub settle_call : {P : Type 0} → Card → ℕ → ℕ → ℕ → P → Asked P
settle_call card a b f p = asked card (Writes (Settle a b f p)) []
