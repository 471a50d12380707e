-- What settle's code shows of its result.
use Rattle.std.proofs.Common.{◌≡◌, ℕ, ◌+◌, ◌*◌, not, List, [], ◌∷◌, set, Some, None, Ok, Err, Option, Result, sym, ap, ◌∙◌, subst}
use Rattle.std.specs.List.{slice_get}
use Rattle.clock.specs.declared.causes.Cause.TheVariants.{NoConflict}
use Rattle.clock.specs.declared.faults.Fault.{Fault}
use Rattle.clock.specs.declared.verdicts.Verdict.{Verdict}
use Rattle.clock.specs.Answers.{due, first, answered}
use Rattle.clock.specs.Meaning.{Meaning, Yes}
use Rattle.clock.specs.Sound.{Sound}
use Rattle.yard_rules.specs.declared.tables.Berth.{Berth}
use Rattle.yard_rules.specs.declared.tables.Record.{Record}
use Rattle.yard_rules.specs.Tables.{Card, pen_in, pen_at, clock_in, clock_at, against, is_conflict}
use Rattle.yard_rules.specs.Checks.{fault, outcome, placed, no_conflict}
use Rattle.yard_rules.specs.Settle.{settle_plain, settle_checks, settled, settle_result, met}
use Rattle.yard_rules.proofs.Due.{unplaced}
use Rattle.yard.specs.Passing.{passing, all_pass, at_place}
use Rattle.yard.proofs.Verdicts.{verdict_read}
use Rattle.yard.proofs.Outcomes.{refused_first, passed_first, append_first, append_none, head_some, head-none, first_one, passing_err, passing_ok, due_when, none-due_when, refused, accepted}

module _ {Pen C P : Type 0} (m : Meaning Pen C) (card : Card) (bs : List (Berth Pen)) (cs : List (Record C P)) (a b f : ℕ) (p : P) where
  abbrev late : List (Option Fault)
  late = no_conflict m card.files cs a b f
      ∷ placed (Some b) (Some f) (m.join_due (clock_at m card.files cs b f) (clock_at m card.files cs a f))
      ∷ placed (Some b) (Some f) (m.event_due (pen_at m bs b) (met m card.files cs a b f))
      ∷ []

  pub settle_barred : (e : Fault) (q : Result (Unit {0}) Fault) → Err e ≡ all_pass (settle_plain card bs cs a b f) → q ≡ Err e → outcome q bs cs [] ≡ settle_result m card bs cs a b f p
  settle_barred e q d z = refused bs cs [] (settled m card bs cs a b f p []) _ e q (append_first (settle_plain card bs cs a b f) late e (refused_first (settle_plain card bs cs a b f) e d)) z

  module _ (passes : Ok tt ≡ all_pass (settle_plain card bs cs a b f)) where
    to_late : first (settle_checks m card bs cs a b f) ≡ first late
    to_late = append_none (settle_plain card bs cs a b f) late (passed_first (settle_plain card bs cs a b f) passes)

    module _ (i j : ℕ) (x z : Record C P) (ei : i ≡ b * card.files + f) (ej : j ≡ a * card.files + f) (ex : slice_get cs i ≡ Some x) (ez : slice_get cs j ≡ Some z)
        (v : Verdict) (ev : v ≡ against m x.clock z.clock) where
      same_check : due (not (is_conflict v)) (fault NoConflict (Some b) (Some f)) ≡ no_conflict m card.files cs a b f
      same_check = ap (λ (w : Verdict). due (not (is_conflict w)) (fault NoConflict (Some b) (Some f))) (ev ∙ verdict_read m card.files cs b a f i j x z ei ej ex ez)

      pub conflict_denied : (e : Fault) (q : Result (Unit {0}) Fault) → Err e ≡ passing (due (not (is_conflict v)) (fault NoConflict (Some b) (Some f))) → q ≡ Err e → outcome q bs cs [] ≡ settle_result m card bs cs a b f p
      conflict_denied e q d k = refused bs cs [] (settled m card bs cs a b f p []) _ e q (to_late ∙ head_some _ _ e (sym same_check ∙ passing_err _ e d)) k

      module _ (torn : Ok tt ≡ passing (due (not (is_conflict v)) (fault NoConflict (Some b) (Some f)))) (o : Result C Fault) (eo : o ≡ answered (m.join_due x.clock z.clock) (m.joined x.clock z.clock)) where
        ex' : slice_get cs (b * card.files + f) ≡ Some x
        ex' = subst (λ n. slice_get cs n ≡ Some x) ei ex

        ez' : slice_get cs (a * card.files + f) ≡ Some z
        ez' = subst (λ n. slice_get cs n ≡ Some z) ej ez

        joins : at_place (Some b) (Some f) o ≡ at_place (Some b) (Some f) (answered (m.join_due (clock_at m card.files cs b f) (clock_at m card.files cs a f)) (met m card.files cs a b f))
        joins = ap (at_place (Some b) (Some f)) eo ∙ sym (λ k. at_place (Some b) (Some f) (answered (m.join_due (clock_in m (ex' k)) (clock_in m (ez' k))) (m.joined (clock_in m (ex' k)) (clock_in m (ez' k)))))

        later : first late ≡ first (placed (Some b) (Some f) (m.join_due (clock_at m card.files cs b f) (clock_at m card.files cs a f)) ∷ placed (Some b) (Some f) (m.event_due (pen_at m bs b) (met m card.files cs a b f)) ∷ [])
        later = head-none _ _ (sym same_check ∙ passing_ok _ torn)

        pub join_denied : (e : Fault) (q : Result (Unit {0}) Fault) → Err e ≡ at_place (Some b) (Some f) o → q ≡ Err e → outcome q bs cs [] ≡ settle_result m card bs cs a b f p
        join_denied e q d k = refused bs cs [] (settled m card bs cs a b f p []) _ e q (to_late ∙ later ∙ head_some _ _ e (due_when (Some b) (Some f) _ (met m card.files cs a b f) e (d ∙ joins))) k

        module _ (c : C) (ok : Ok c ≡ at_place (Some b) (Some f) o) where
          joined_is : (placed (Some b) (Some f) (m.join_due (clock_at m card.files cs b f) (clock_at m card.files cs a f)) ≡ None) × (c ≡ met m card.files cs a b f)
          joined_is = none-due_when (Some b) (Some f) _ (met m card.files cs a b f) c (ok ∙ joins)

          pub joined_made : (sound : Sound m) → ((n : ℕ) (r : Record C P) → slice_get cs n ≡ Some r → Yes (m.clock_made r.clock)) → Yes (m.clock_made c)
          joined_made sound made = let k = none-due_when (Some b) (Some f) (m.join_due x.clock z.clock) (m.joined x.clock z.clock) c (ok ∙ ap (at_place (Some b) (Some f)) eo) in
              subst (λ (d : C). Yes (m.clock_made d)) (sym k.1) (sound.join x.clock z.clock (made i x ex) (made j z ez) (unplaced (Some b) (Some f) _ k.0)).made

          module _ (y : Berth Pen) (ey : slice_get bs b ≡ Some y) (w : Result C Fault) (ew : w ≡ answered (m.event_due y.pen c) (m.evented y.pen c)) where
            events : at_place (Some b) (Some f) w ≡ at_place (Some b) (Some f) (answered (m.event_due (pen_at m bs b) (met m card.files cs a b f)) (m.evented (pen_at m bs b) (met m card.files cs a b f)))
            events = ap (at_place (Some b) (Some f)) ew ∙ (λ k. at_place (Some b) (Some f) (answered (m.event_due (pen_in m (sym ey k)) (joined_is.1 k)) (m.evented (pen_in m (sym ey k)) (joined_is.1 k))))

            last : first late ≡ placed (Some b) (Some f) (m.event_due (pen_at m bs b) (met m card.files cs a b f))
            last = later ∙ head-none _ _ joined_is.0 ∙ first_one _

            pub settle_denied : (e : Fault) (q : Result (Unit {0}) Fault) → Err e ≡ at_place (Some b) (Some f) w → q ≡ Err e → outcome q bs cs [] ≡ settle_result m card bs cs a b f p
            settle_denied e q d k = refused bs cs [] (settled m card bs cs a b f p []) _ e q (to_late ∙ last ∙ due_when (Some b) (Some f) _ (m.evented (pen_at m bs b) (met m card.files cs a b f)) e (d ∙ events)) k

            pub settle_done : (n : C) → Ok n ≡ at_place (Some b) (Some f) w → outcome (Ok tt) bs (set cs i (record { clock = n; payload = p })) [] ≡ settle_result m card bs cs a b f p
            settle_done n d =
                let k = none-due_when (Some b) (Some f) _ (m.evented (pen_at m bs b) (met m card.files cs a b f)) n (d ∙ events) in
                (λ t. outcome (Ok tt) bs (set cs (ei t) (record { clock = k.1 t; payload = p })) []) ∙ accepted bs cs [] (settled m card bs cs a b f p []) _ (to_late ∙ last ∙ k.0)
