-- What edit's code shows of its result.
use Rattle.std.proofs.Common.{◌≡◌, ℕ, ◌+◌, ◌*◌, List, [], set, Some, Ok, Err, Result, sym, ap, ◌∙◌, subst}
use Rattle.std.specs.List.{slice_get}
use Rattle.clock.specs.declared.faults.Fault.{Fault}
use Rattle.clock.specs.Answers.{answered}
use Rattle.clock.specs.Meaning.{Meaning}
use Rattle.yard_rules.specs.declared.tables.Berth.{Berth}
use Rattle.yard_rules.specs.declared.tables.Record.{Record}
use Rattle.yard_rules.specs.Tables.{Card, pen_in, pen_at, clock_in, clock_at}
use Rattle.yard_rules.specs.Checks.{outcome}
use Rattle.yard_rules.specs.Edit.{edit_plain, edited, edit_result}
use Rattle.yard.specs.Passing.{all_pass, at_place}
use Rattle.yard.proofs.Outcomes.{refused_first, append_first, then_one, due_when, none-due_when, refused, accepted}

module _ {Pen C P : Type 0} (m : Meaning Pen C) (card : Card) (bs : List (Berth Pen)) (cs : List (Record C P)) (a f : ℕ) (p : P) where
  pub edit_barred : (e : Fault) (q : Result (Unit {0}) Fault) → Err e ≡ all_pass (edit_plain card bs cs a f) → q ≡ Err e → outcome q bs cs [] ≡ edit_result m card bs cs a f p
  edit_barred e q d z = refused bs cs [] (edited m card bs cs a f p []) _ e q (append_first (edit_plain card bs cs a f) _ e (refused_first (edit_plain card bs cs a f) e d)) z

  module _ (i : ℕ) (x : Berth Pen) (r : Record C P) (passes : Ok tt ≡ all_pass (edit_plain card bs cs a f)) (at : i ≡ a * card.files + f) (ex : slice_get bs a ≡ Some x) (er : slice_get cs i ≡ Some r) (o : Result C Fault) (eo : o ≡ answered (m.event_due x.pen r.clock) (m.evented x.pen r.clock)) where
    er' : slice_get cs (a * card.files + f) ≡ Some r
    er' = subst (λ n. slice_get cs n ≡ Some r) at er

    answers : at_place (Some a) (Some f) o ≡ at_place (Some a) (Some f) (answered (m.event_due (pen_at m bs a) (clock_at m card.files cs a f)) (m.evented (pen_at m bs a) (clock_at m card.files cs a f)))
    answers = ap (at_place (Some a) (Some f)) eo ∙ sym (λ j. at_place (Some a) (Some f) (answered (m.event_due (pen_in m (ex j)) (clock_in m (er' j))) (m.evented (pen_in m (ex j)) (clock_in m (er' j)))))

    pub edit_denied : (e : Fault) (q : Result (Unit {0}) Fault) → Err e ≡ at_place (Some a) (Some f) o → q ≡ Err e → outcome q bs cs [] ≡ edit_result m card bs cs a f p
    edit_denied e q d z = refused bs cs [] (edited m card bs cs a f p []) _ e q (then_one (edit_plain card bs cs a f) _ passes ∙ due_when (Some a) (Some f) _ (m.evented (pen_at m bs a) (clock_at m card.files cs a f)) e (d ∙ answers)) z

    pub edit_done : (c : C) → Ok c ≡ at_place (Some a) (Some f) o → outcome (Ok tt) bs (set cs i (record { clock = c; payload = p })) [] ≡ edit_result m card bs cs a f p
    edit_done c d =
        let k = none-due_when (Some a) (Some f) _ (m.evented (pen_at m bs a) (clock_at m card.files cs a f)) c (d ∙ answers) in
        (λ j. outcome (Ok tt) bs (set cs (at j) (record { clock = k.1 j; payload = p })) []) ∙ accepted bs cs [] (edited m card bs cs a f p []) _ (then_one (edit_plain card bs cs a f) _ passes ∙ k.0)
