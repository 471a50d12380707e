-- settle: an accepted one keeps the invariant, and loses no edit; it rests on a conflict of the two copies.
use Rattle.std.proofs.Common.{◌≡◌, ℕ, ◌+◌, ◌*◌, ◌<◌, ◌≤◌, Bool, true, not, List, ◌++◌, length, set, Some, None, Ok, Err, Option, sym, refl, ap, ◌∙◌, subst, ⊎_elim, arith, length-set}
use Rattle.std.specs.List.{slice_get}
use Rattle.std.proofs.lemmas.Bool.{or_cases, or_left, or_right, not-false, cond-false}
use Rattle.clock.specs.declared.causes.Cause.TheVariants.{NoConflict}
use Rattle.clock.specs.declared.faults.Fault.{Fault}
use Rattle.clock.specs.declared.verdicts.Verdict.{Verdict}
use Rattle.clock.specs.declared.verdicts.Verdict.TheVariants.{Conflict}
use Rattle.clock.specs.Answers.{due, first}
use Rattle.clock.specs.Causes.{number_of}
use Rattle.clock.specs.Meaning.{Meaning, Yes}
use Rattle.clock.specs.Sound.{Sound, Evented, Joined}
use Rattle.clock.proofs.Dues.{due-none, due_some}
use Rattle.yard_rules.specs.declared.tables.Berth.{Berth}
use Rattle.yard_rules.specs.declared.tables.Record.{Record}
use Rattle.yard_rules.specs.Tables.{Card, working, pen_at, clock_at, judged, is_conflict}
use Rattle.yard_rules.specs.Checks.{wrong_sizes, no_conflict, placed}
use Rattle.yard_rules.specs.History.{History, Compares, numbered}
use Rattle.yard_rules.specs.Page.{result}
use Rattle.yard_rules.specs.Settle.{settle_checks, settle_page, met, SettleRests}
use Rattle.yard_rules.proofs.Sets.{has_left, has_right, has_either}
use Rattle.yard_rules.proofs.Lookups.{at, set_here, set_there}
use Rattle.yard_rules.proofs.Invariant.{Backed, Inv}
use Rattle.yard_rules.proofs.Numbered.{written}
use Rattle.yard_rules.proofs.Due.{each_undue, each_refusal, within, file_below, in_use, unplaced, placed_is}
use Rattle.yard_rules.proofs.WellMade.{ClockMade, every_set, pen_made-at, clock_made-at}
use Rattle.yard_rules.proofs.Good.{Good, well, at_card, back, pen_made, event_number}
use Rattle.yard_rules.proofs.Holding.{verdict_at}
use Rattle.yard_rules.proofs.Pages.{Shows, InYard, NoOverlap, plain, ways, err_is, err_not_ok, ok_not_err}
use Rattle.yard_rules.proofs.Still.{numbered_still, conflict_is}

module _ {Pen C P : Type 0} (m : Meaning Pen C) (F : ℕ) (opening : ℕ → Option P) (bs : List (Berth Pen)) (cs : List (Record C P)) (h : History P) (sizes : length cs ≡ length bs * F) (inv : Inv m F opening (slice_get bs) (at F cs) h) where
  backed : (a f : ℕ) → working bs a ≡ true → f < F → Backed m inv.added h.next h.edits (opening f) (at F cs a f) (h.behind a f)
  backed a f ua lf = inv.backed a f ua lf

  settle_kept : (a b f : ℕ) (p : P) (j c : C) → b < length bs → f < F → working bs a ≡ true → working bs b ≡ true → Joined m (clock_at m F cs b f) (clock_at m F cs a f) j → Evented m (pen_at m bs b) j c →
      Inv m F opening (slice_get bs) (at F (set cs (b * F + f) (record { clock = c; payload = p }))) (numbered h b f p (h.behind a f ++ h.behind b f))
  settle_kept a b f p j c lb lf ua ub J ev = written m F opening (slice_get bs) (at F cs) (at F (set cs (b * F + f) (record { clock = c; payload = p }))) h inv b f ub lf j (h.behind a f ++ h.behind b f) p c
      (λ l s k. ⊎_elim
      (λ z. let q = B.known l s z in (q.0, has_right (h.behind a f) (h.behind b f) q.0 q.1, q.2))
      (λ z. let q = A.known l s z in (q.0, has_left (h.behind a f) (h.behind b f) q.0 q.1, q.2))
      (or_cases _ _ (sym (J.union l s) ∙ k)))
      (λ n l s hn an. J.union l s ∙ ⊎_elim
      (λ z. or_right _ _ (A.knows n l s z an))
      (λ z. or_left _ _ (B.knows n l s z an))
      (has_either (h.behind a f) (h.behind b f) n hn))
      (λ n hn. ⊎_elim (λ z. (a, ua, z)) (λ z. (b, ub, z)) (has_either (h.behind a f) (h.behind b f) n hn))
      (λ l s k. J.union l s ∙ or_left _ _ k)
      ev (set_here (length bs) F cs sizes b f _ lb lf) (set_there (length bs) F cs sizes b f _ lb lf)
    where
      A : Backed m inv.added h.next h.edits (opening f) (at F cs a f) (h.behind a f)
      A = backed a f ua lf

      B : Backed m inv.added h.next h.edits (opening f) (at F cs b f) (h.behind b f)
      B = backed b f ub lf

module _ {Pen C P : Type 0} (m : Meaning Pen C) (sound : Sound m) (card : Card) (a b f : ℕ) (p : P) where
  record Passed (bs : List (Berth Pen)) (cs : List (Record C P)) : Type 0 where
    sizes : wrong_sizes card bs cs ≡ None
    two : b < length bs
    file : f < card.files
    one_works : working bs a ≡ true
    two_works : working bs b ≡ true
    conflict : is_conflict (judged m card.files cs b a f) ≡ true
    joins : m.join_due (clock_at m card.files cs b f) (clock_at m card.files cs a f) ≡ None
    events : m.event_due (pen_at m bs b) (met m card.files cs a b f) ≡ None

  passed : (bs : List (Berth Pen)) (cs : List (Record C P)) → first (settle_checks m card bs cs a b f) ≡ None → Passed bs cs
  passed bs cs = each_undue (settle_checks m card bs cs a b f) (λ sizes one two file same one_works two_works conflict joins events. record {
    sizes = sizes;
    two = within card bs cs b sizes two;
    file = file_below card f file;
    one_works = in_use bs a one_works;
    two_works = in_use bs b two_works;
    conflict = not-false _ (due-none _ _ conflict);
    joins = unplaced _ _ _ joins;
    events = unplaced _ _ _ events;
  })

  module _ (alike : P → P → Bool) (files : ℕ) (opening : ℕ → Option P) (bs : List (Berth Pen)) (cs : List (Record C P)) (h : History P) (bytes : List ℕ) (g : Good m files opening bs cs h) where
    compared : wrong_sizes card bs cs ≡ None → f < card.files → working bs a ≡ true → working bs b ≡ true → Compares (judged m card.files cs b a f) (h.behind b f) (h.behind a f)
    compared sizes file one two = verdict_at m sound files opening bs cs h g card b a f sizes two one file

    pen : Yes (m.pen_made (pen_at m bs b))
    pen = pen_made m sound files opening bs cs h g b

    clock : (c : ℕ) → Yes (m.clock_made (clock_at m card.files cs c f))
    clock c = well m sound card.files bs cs g.made c f

    -- it is refused with 7 only where there is no conflict
    NoTear : Fault → Type 0
    NoTear e = e.cause ≡ NoConflict → Compares Conflict (h.behind b f) (h.behind a f) → ⊥

    early : (t : Bool) (d : Fault) → number_of d.cause ≤ 6 → (e : Fault) → due t d ≡ Some e → NoTear e
    unfolding NoTear
    early t d le e q k con = omega (arith, ap (λ (z : Fault). number_of z.cause) (due_some t d e q).1, ap number_of k)

    at_conflict : wrong_sizes card bs cs ≡ None → f < card.files → working bs a ≡ true → working bs b ≡ true → (e : Fault) → no_conflict m card.files cs a b f ≡ Some e → NoTear e
    unfolding NoTear
    at_conflict sizes file one two e q k con =
        let v : judged m card.files cs b a f ≡ Conflict = (compared sizes file one two).conflict.1 (con.conflict.0 refl) in
        let x : no_conflict m card.files cs a b f ≡ None = cond-false _ _ _ (ap (λ (u : Verdict). not (is_conflict u)) v) in
        cc

    late_join : (e : Fault) → placed (Some b) (Some f) (m.join_due (clock_at m card.files cs b f) (clock_at m card.files cs a f)) ≡ Some e → 13 < number_of e.cause
    late_join e q = let r = sound.join_cause _ _ e.cause (clock b) (clock a) (placed_is _ _ _ e q) in omega (arith, ap number_of r)

    late_event : placed (Some b) (Some f) (m.join_due (clock_at m card.files cs b f) (clock_at m card.files cs a f)) ≡ None → (e : Fault) → placed (Some b) (Some f) (m.event_due (pen_at m bs b) (met m card.files cs a b f)) ≡ Some e → 13 < number_of e.cause
    late_event joins e q = event_number m sound _ _ _ _ e pen (sound.join _ _ (clock b) (clock a) (unplaced _ _ _ joins)).made q

    refusals : (e : Fault) → first (settle_checks m card bs cs a b f) ≡ Some e → NoTear e
    unfolding NoTear
    refusals = each_refusal NoTear (settle_checks m card bs cs a b f) (
      early _ _ (omega arith),
      λ sizes. (
        early _ _ (omega arith),
        λ one. (
          early _ _ (omega arith),
          λ two. (
            early _ _ (omega arith),
            λ file. (
              early _ _ (omega arith),
              λ same. (
                early _ _ (omega arith),
                λ one_works. (
                  early _ _ (omega arith),
                  λ two_works. (
                    at_conflict sizes (file_below card f file) (in_use bs a one_works) (in_use bs b two_works),
                    λ conflict. (
                      λ e q k con. omega (arith, late_join e q, ap number_of k),
                      λ joins.
                          (λ e q k con. omega (arith, late_event joins e q, ap number_of k), λ events. tt),
                    ),
                  ),
                ),
              ),
            ),
          ),
        ),
      ),
    )

    rests : SettleRests a b f h (result (settle_page m card a b f p) alike bs cs bytes)
    unfolding NoTear
    rests = record {
      accepted = ways (settle_page m card a b f p) alike bs cs bytes (λ l. l.answer ≡ Ok tt → Compares Conflict (h.behind b f) (h.behind a f))
          (λ e q ok. absurd (err_not_ok e tt ok))
          (λ q ok. let s = passed bs cs q in subst (λ v. Compares v (h.behind b f) (h.behind a f)) (conflict_is (judged m card.files cs b a f) s.conflict) (compared s.sizes s.file s.one_works s.two_works));
      refused = ways (settle_page m card a b f p) alike bs cs bytes (λ l. (e : Fault) → l.answer ≡ Err e → NoTear e)
          (λ d q e de. subst NoTear (err_is d e de) (refusals d q))
          (λ q e de. absurd (ok_not_err e _ de));
    }

    in_yard : InYard m (settle_page m card a b f p) alike files opening bs cs h bytes
    in_yard = record {
      kept = λ q. let s = passed bs cs q in let k = at_card m sound files opening bs cs h g card s.sizes in
          let j = sound.join _ _ (clock b) (clock a) s.joins in
          back m sound files opening bs cs h g card s.sizes _ _ _ (settle_kept m card.files opening bs cs h k.sizes k.inv a b f p _ _
          s.two s.file s.one_works s.two_works j (sound.event _ _ pen j.made s.events));
      gives = tt;
      rests_on = rests;
      clear = each_refusal NoOverlap (settle_checks m card bs cs a b f) (
        plain _ _ (omega arith),
        λ sizes. (
          plain _ _ (omega arith),
          λ one. (
            plain _ _ (omega arith),
            λ two. (
              plain _ _ (omega arith),
              λ file. (
                plain _ _ (omega arith),
                λ same. (
                  plain _ _ (omega arith),
                  λ one_works. (
                    plain _ _ (omega arith),
                    λ two_works. (
                      plain _ _ (omega arith),
                      λ conflict. (
                        λ e q k. omega (arith, late_join e q, ap number_of k),
                        λ joins.
                            (λ e q k. omega (arith, late_event joins e q, ap number_of k), λ events. tt),
                      ),
                    ),
                  ),
                ),
              ),
            ),
          ),
        ),
      );
      still = λ z q. numbered_still files h b f p (h.behind a f ++ h.behind b f) (λ n hn. has_right (h.behind a f) (h.behind b f) n hn);
    }

  pub settle_shows : Shows m (settle_page {P = P} m card a b f p)
  settle_shows = record {
    value = λ alike bs cs bytes. (tt, refl);
    berths_stay = λ alike bs cs bytes. refl;
    copies_stay = λ alike bs cs bytes. length-set cs (b * card.files + f) _;
    made = λ alike bs cs bytes made q.
        let s = passed bs cs q in
        let j = sound.join _ _ (clock_made-at m sound cs made.clocks (b * card.files + f)) (clock_made-at m sound cs made.clocks (a * card.files + f)) s.joins in record {
          pens = made.pens;
          clocks = every_set (ClockMade m) cs (b * card.files + f) _ made.clocks (sound.event _ _ (pen_made-at m sound bs made.pens b) j.made s.events).made;
        };
    in_yard = in_yard;
  }
