-- What fork's code shows of its result, and the copying of a row.
use Rattle.std.proofs.Common.{◌≡◌, ℕ, ◌+◌, ◌-◌, ◌*◌, ◌<◌, ◌≤◌, ◌⊎◌, inl, inr, ⊎_elim, List, [], length, get_or, set, Some, None, Ok, Err, Option, Result, sym, ap, ◌∙◌, arith}
use Rattle.std.specs.List.{slice_get, CopiedTo, SameBelow, SameFrom}
use Rattle.std.proofs.lemmas.Option.{slice_get-get_or, slice_get_past}
use Rattle.std.proofs.lemmas.Bool.{cases_lt}
use Rattle.clock.specs.declared.faults.Fault.{Fault}
use Rattle.clock.specs.Answers.{answered}
use Rattle.clock.specs.Meaning.{Meaning}
use Rattle.yard_rules.specs.declared.tables.Berth.{Berth}
use Rattle.yard_rules.specs.declared.tables.Record.{Record}
use Rattle.yard_rules.specs.Tables.{Card, or_else, pen_in, pen_at, working_berth, row, copy_from}
use Rattle.yard_rules.specs.Checks.{outcome}
use Rattle.yard_rules.specs.Fork.{fork_plain, forked, fork_result}
use Rattle.yard_rules.proofs.Lookups.{entry, over}
use Rattle.yard.specs.Passing.{all_pass, at_place}
use Rattle.yard.proofs.Outcomes.{then_one, due_when, none-due_when, refused, accepted}
use Rattle.yard.proofs.Upto.{row_from}

-- a's row, which begins at i and ends at end, copied over b's, which begins at j
pub copied : {C P : Type 0} (F a b i end j : ℕ) (cs new : List (Record C P)) → 0 < F → length new ≡ length cs → i ≡ a * F → end ≡ a * F + F → j ≡ b * F → end ≤ length cs → j + F ≤ length cs → CopiedTo cs new i j (end - i) → SameBelow cs new j → SameFrom cs new (j + (end - i)) → new ≡ row F cs b (copy_from F cs a)
copied F a b i end j cs new some e ei ee ej la lb to below from = row_from F b (copy_from F cs a) some cs new here there
  where
    here : (f : ℕ) → f < F → slice_get new (b * F + f) ≡ over (copy_from F cs a f) (slice_get cs (b * F + f))
    here f lf =
        let x = entry cs (b * F + f) (omega arith) in
        let p : get_or new (b * F + f) x.0 ≡ get_or cs (a * F + f) x.0 = to (b * F + f) x.0 (omega arith) (omega arith) ∙ ap (λ k. get_or cs k x.0) (omega arith) in
        slice_get-get_or new (b * F + f) x.0 (omega arith) ∙ ap Some p
        ∙ sym (ap (over (copy_from F cs a f)) x.1 ∙ ap (λ (o : Option _). Some (or_else o x.0)) (slice_get-get_or cs (a * F + f) x.0 (omega arith)))

    kept : (k : ℕ) → ((x : Record _ _) → get_or new k x ≡ get_or cs k x) → slice_get new k ≡ slice_get cs k
    kept k h = ⊎_elim
        (λ lt. let x = entry cs k lt in slice_get-get_or new k x.0 (omega arith) ∙ ap Some (h x.0) ∙ sym (slice_get-get_or cs k x.0 lt))
        (λ ge. slice_get_past new k (omega arith) ∙ sym (slice_get_past cs k ge))
        (cases_lt k (length cs))

    there : (k : ℕ) → (k < b * F) ⊎ (b * F + F ≤ k) → slice_get new k ≡ slice_get cs k
    there k (inl lt) = kept k (λ x. below k x (omega arith))
    there k (inr ge) = kept k (λ x. from k x (omega arith))

module _ {Pen C P : Type 0} (m : Meaning Pen C) (card : Card) (bs : List (Berth Pen)) (cs : List (Record C P)) (a b : ℕ) where
  module _ (passes : Ok tt ≡ all_pass (fork_plain card bs cs a b)) (x : Berth Pen) (ex : slice_get bs a ≡ Some x) (o : Result (Pen × Pen) Fault) (eo : o ≡ answered (m.fork_due x.pen) (m.halves x.pen)) where
    answers : at_place (Some a) None o ≡ at_place (Some a) None (answered (m.fork_due (pen_at m bs a)) (m.halves (pen_at m bs a)))
    answers = ap (at_place (Some a) None) eo ∙ sym (λ k. at_place (Some a) None (answered (m.fork_due (pen_in m (ex k))) (m.halves (pen_in m (ex k)))))

    pub fork_denied : (e : Fault) (q : Result (Unit {0}) Fault) → Err e ≡ at_place (Some a) None o → q ≡ Err e → outcome q bs cs [] ≡ fork_result m card bs cs a b
    fork_denied e q d z = refused bs cs [] (forked m card bs cs a b []) _ e q (then_one (fork_plain card bs cs a b) _ passes ∙ due_when (Some a) None _ (m.halves (pen_at m bs a)) e (d ∙ answers)) z

    pub fork_done : (h : Pen × Pen) (cs' : List (Record C P)) → Ok h ≡ at_place (Some a) None o → cs' ≡ row card.files cs b (copy_from card.files cs a) → outcome (Ok tt) (set (set bs a (working_berth h.0)) b (working_berth h.1)) cs' [] ≡ fork_result m card bs cs a b
    fork_done h cs' d ec =
        let k = none-due_when (Some a) None _ (m.halves (pen_at m bs a)) h (d ∙ answers) in
        (λ t. outcome (Ok tt) (set (set bs a (working_berth (k.1 t).0)) b (working_berth (k.1 t).1)) (ec t) []) ∙ accepted bs cs [] (forked m card bs cs a b []) _ (then_one (fork_plain card bs cs a b) _ passes ∙ k.0)
