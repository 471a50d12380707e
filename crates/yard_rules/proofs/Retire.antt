-- retire: an accepted one keeps the invariant, and loses no edit; it rests on there being no conflict.
use Rattle.std.proofs.Common.{◌≡◌, ℕ, ◌*◌, ◌<◌, ◌≤◌, Bool, true, false, ◌⊎◌, List, length, set, Some, None, Ok, Err, Option, sym, refl, ap, ◌∙◌, subst, ⊎_elim, arith, length-set}
use Rattle.std.specs.List.{slice_get}
use Rattle.std.proofs.lemmas.Bool.{both_ways, or_cases, cases_eq}
use Rattle.clock.specs.declared.causes.Cause.TheVariants.{InConflict}
use Rattle.clock.specs.declared.faults.Fault.{Fault}
use Rattle.clock.specs.declared.verdicts.Verdict.TheVariants.{Conflict}
use Rattle.clock.specs.Answers.{due, first}
use Rattle.clock.specs.Causes.{number_of}
use Rattle.clock.specs.Meaning.{Meaning, Yes}
use Rattle.clock.specs.Sound.{Sound, Apart, United}
use Rattle.clock.proofs.Dues.{due_some}
use Rattle.yard_rules.specs.declared.tables.Berth.{Berth}
use Rattle.yard_rules.specs.declared.tables.Record.{Record}
use Rattle.yard_rules.specs.Tables.{Card, working, works_in, pen_in, pen_at, clock_in, empty_berth, working_berth, row, newer_from, is_conflict, judged}
use Rattle.yard_rules.specs.Checks.{wrong_sizes, some_conflict, placed}
use Rattle.yard_rules.specs.History.{History, Compares, put, larger, moved_to}
use Rattle.yard_rules.specs.Page.{result}
use Rattle.yard_rules.specs.Retire.{retire_checks, retire_page, RetireRests}
use Rattle.yard_rules.proofs.Sets.{put_same, put_other}
use Rattle.yard_rules.proofs.Lookups.{at, length_each, three_ways, two_first, two_second, two_other}
use Rattle.yard_rules.proofs.Invariant.{Well, Inv}
use Rattle.yard_rules.proofs.Moved.{moved}
use Rattle.yard_rules.proofs.Taken.{cs', merge_source, b_within, merge_up, a_within}
use Rattle.yard_rules.proofs.Due.{each_undue, each_refusal, within, differ, in_use, calm, conflict_at, lowest_some, unplaced, placed_is}
use Rattle.yard_rules.proofs.WellMade.{PenMade, every_set, pen_made-at, row_made, newer_made}
use Rattle.yard_rules.proofs.Good.{Good, well, card_files, at_card, back, pen_made, no_conflicts}
use Rattle.yard_rules.proofs.Holding.{verdict_at}
use Rattle.yard_rules.proofs.Pages.{Shows, InYard, NoOverlap, plain, ways, err_is, err_not_ok, ok_not_err}
use Rattle.yard_rules.proofs.Still.{conflict_is, is_no_conflict, nested, retired_still}

module _ {Pen C P : Type 0} (m : Meaning Pen C) (sound : Sound m) (F : ℕ) (opening : ℕ → Option P) (bs : List (Berth Pen)) (cs : List (Record C P)) (h : History P) (sizes : length cs ≡ length bs * F) (well : Well m (at F cs)) (inv : Inv m F opening (slice_get bs) (at F cs) h)
    (a b : ℕ) (la : a < length bs) (lb : b < length bs) (ua : working bs a ≡ true) (ub : working bs b ≡ true) where
  retire_kept : (p : Pen) → (a ≡ b → ⊥) → United m (pen_at m bs a) (pen_at m bs b) p → ((f : ℕ) → f < F → is_conflict (judged m F cs b a f) ≡ false) →
      Inv m F opening (slice_get (set (set bs b (working_berth p)) a (empty_berth m))) (at F (row F cs b (newer_from F cs m a b))) (moved_to h (put h.present a false) (put h.behind b (larger h a b)))
  unfolding cs'
  retire_kept p ne U calm = moved m F opening (slice_get bs) (slice_get bs') (at F cs) (at F (cs' m sound F opening bs cs h sizes well inv a b la lb ua ub)) h (put h.present a false) (put h.behind b (larger h a b)) inv
      (λ c. three_ways (λ c. put h.present a false c ≡ works_in (slice_get bs' c)) a b c
      (put_same h.present a false ∙ sym (ap works_in at_a))
      (put_other h.present a b false (λ e. ne (sym e)) ∙ inv.present b ∙ ub ∙ sym (ap works_in at_b))
      (λ na nb. put_other h.present a c false na ∙ inv.present c ∙ sym (ap works_in (at_c c na nb))))
      own
      (λ c f uc lf. (merge_source m sound F opening bs cs h sizes well inv a b la lb ua ub) c f (three_ways (λ c. works_in (slice_get bs' c) ≡ true → works_in (slice_get bs c) ≡ true) a b c
      (λ z. ua) (λ z. ub) (λ na nb z. ap works_in (sym (at_c c na nb)) ∙ z) uc) lf)
      (λ c o f l s uo lf mk kn. three_ways (λ c. m.makes (pen_at m bs' c) l s ≡ true → m.knows (clock_in m (at F (cs' m sound F opening bs cs h sizes well inv a b la lb ua ub) c f)) l s ≡ true) a b c
      (λ z. absurd (none l s z))
      (λ z. ⊎_elim
      (λ r. (a_within m sound F opening bs cs h sizes well inv a b la lb ua ub) calm f l s lf (inv.sees a o f l s uo lf r kn))
      (λ r. (b_within m sound F opening bs cs h sizes well inv a b la lb ua ub) f l s lf (inv.sees b o f l s uo lf r kn))
      (either l s z))
      (λ na nb z. (merge_up m sound F opening bs cs h sizes well inv a b la lb ua ub) c f l s lf (inv.sees c o f l s uo lf (sym (ap (λ (x : Option (Berth Pen)). m.makes (pen_in m x) l s) (at_c c na nb)) ∙ z) kn)) mk)
    where
      bs' : List (Berth Pen)
      bs' = set (set bs b (working_berth p)) a (empty_berth m)

      nb_a : b ≡ a → ⊥
      nb_a e = ne (sym e)

      at_a : slice_get bs' a ≡ Some (empty_berth m)
      at_a = two_second bs b a _ _ lb la nb_a

      at_b : slice_get bs' b ≡ Some (working_berth p)
      at_b = two_first bs b a _ _ lb la nb_a

      at_c : (c : ℕ) → (c ≡ a → ⊥) → (c ≡ b → ⊥) → slice_get bs' c ≡ slice_get bs c
      at_c c na nb = two_other bs b a _ _ lb la nb_a c nb na

      none : (l s : ℕ) → m.makes (pen_at m bs' a) l s ≡ true → ⊥
      none l s z = both_ways (m.makes m.no_pen l s) (sound.no_pen_makes l s) (sym (ap (λ (x : Option (Berth Pen)). m.makes (pen_in m x) l s) at_a) ∙ z)

      either : (l s : ℕ) → m.makes (pen_at m bs' b) l s ≡ true → (m.makes (pen_at m bs a) l s ≡ true) ⊎ (m.makes (pen_at m bs b) l s ≡ true)
      either l s z = or_cases (m.makes (pen_at m bs a) l s) (m.makes (pen_at m bs b) l s) (sym (U.union l s) ∙ sym (ap (λ (x : Option (Berth Pen)). m.makes (pen_in m x) l s) at_b) ∙ z)

      own_b : (d l s : ℕ) → (d ≡ b → ⊥) → m.makes (pen_at m bs' b) l s ≡ true → m.makes (pen_at m bs' d) l s ≡ true → ⊥
      own_b d l s nb x y = ⊎_elim
          (λ e. none l s (subst (λ z. m.makes (pen_at m bs' z) l s ≡ true) e y))
          (λ na.
          let y' : m.makes (pen_at m bs d) l s ≡ true = sym (ap (λ (x : Option (Berth Pen)). m.makes (pen_in m x) l s) (at_c d na nb)) ∙ y in
          ⊎_elim (λ r. inv.own a d (λ e. na (sym e)) l s r y') (λ r. inv.own b d (λ e. nb (sym e)) l s r y') (either l s x))
          (cases_eq d a)

      own : (c d : ℕ) → (c ≡ d → ⊥) → Apart m (pen_at m bs' c) (pen_at m bs' d)
      own c d nd l s x y = three_ways (λ c. (c ≡ d → ⊥) → m.makes (pen_at m bs' c) l s ≡ true → ⊥) a b c
          (λ ad x. none l s x)
          (λ bd x. own_b d l s (λ e. bd (sym e)) x y)
          (λ na nb cd x. three_ways (λ d. (c ≡ d → ⊥) → m.makes (pen_at m bs' d) l s ≡ true → ⊥) a b d
          (λ ca y. none l s y)
          (λ cb y. own_b c l s nb y x)
          (λ da db cd y. inv.own c d cd l s (sym (ap (λ (z : Option (Berth Pen)). m.makes (pen_in m z) l s) (at_c c na nb)) ∙ x) (sym (ap (λ (z : Option (Berth Pen)). m.makes (pen_in m z) l s) (at_c d da db)) ∙ y)) cd y) nd x

module _ {Pen C P : Type 0} (m : Meaning Pen C) (sound : Sound m) (card : Card) (a b : ℕ) where
  record Passed (bs : List (Berth Pen)) (cs : List (Record C P)) : Type 0 where
    sizes : wrong_sizes card bs cs ≡ None
    one : a < length bs
    two : b < length bs
    differ : a ≡ b → ⊥
    one_works : working bs a ≡ true
    two_works : working bs b ≡ true
    calm : (f : ℕ) → f < card.files → is_conflict (judged m card.files cs b a f) ≡ false
    unites : m.unite_due (pen_at m bs a) (pen_at m bs b) ≡ None

  passed : (bs : List (Berth Pen)) (cs : List (Record C P)) → first (retire_checks m card bs cs a b) ≡ None → Passed bs cs
  passed bs cs = each_undue (retire_checks m card bs cs a b) (λ sizes one two same one_works two_works conflict unites. record {
    sizes = sizes;
    one = within card bs cs a sizes one;
    two = within card bs cs b sizes two;
    differ = differ a b same;
    one_works = in_use bs a one_works;
    two_works = in_use bs b two_works;
    calm = no_conflicts m cs card.files a b (calm b _ conflict);
    unites = unplaced _ _ _ unites;
  })

  module _ (alike : P → P → Bool) (files : ℕ) (opening : ℕ → Option P) (bs : List (Berth Pen)) (cs : List (Record C P)) (h : History P) (bytes : List ℕ) (g : Good m files opening bs cs h) where
    compared : wrong_sizes card bs cs ≡ None → working bs a ≡ true → working bs b ≡ true → (f : ℕ) → f < card.files → Compares (judged m card.files cs b a f) (h.behind b f) (h.behind a f)
    compared sizes one two f lf = verdict_at m sound files opening bs cs h g card b a f sizes two one lf

    pen : (c : ℕ) → Yes (m.pen_made (pen_at m bs c))
    pen = pen_made m sound files opening bs cs h g

    -- 12 comes from no yard that calls lead to: its pens have no mark in common
    no_overlap : (a ≡ b → ⊥) → (e : Fault) → placed (Some b) None (m.unite_due (pen_at m bs a) (pen_at m bs b)) ≡ Some e → 12 < number_of e.cause
    no_overlap ne e q = let u = placed_is _ _ _ e q in ⊎_elim {C = 12 < number_of e.cause}
        (λ r. let o = (sound.overlap _ _ (pen a) (pen b)).0 (u ∙ ap Some r) in absurd (g.inv.own a b ne o.0 o.1 o.2 o.3))
        (λ r. omega (arith, ap number_of r))
        (sound.unite_cause _ _ e.cause (pen a) (pen b) u)

    -- it is refused with 8 only at the lowest file in conflict
    abbrev AtLowest : Fault → Type 0
    AtLowest e = e.cause ≡ InConflict → (f : ℕ) × (e.file ≡ Some f) × Compares Conflict (h.behind b f) (h.behind a f) × ((j : ℕ) → j < f → Compares Conflict (h.behind b j) (h.behind a j) → ⊥)

    early : (t : Bool) (d : Fault) → number_of d.cause ≤ 6 → (e : Fault) → due t d ≡ Some e → AtLowest e
    early t d le e q k = absurd (omega (arith, ap (λ (z : Fault). number_of z.cause) (due_some t d e q).1, ap number_of k))

    at_conflict : wrong_sizes card bs cs ≡ None → working bs a ≡ true → working bs b ≡ true → (e : Fault) → some_conflict m card.files cs a b ≡ Some e → AtLowest e
    at_conflict sizes one two e q k =
        let w = compared sizes one two in
        let s = conflict_at b _ e q in
        let t = lowest_some card.files (λ f. is_conflict (judged m card.files cs b a f)) s.0 s.1 in (
          s.0,
          ap (λ (z : Fault). z.file) s.2,
          subst (λ v. Compares v (h.behind b s.0) (h.behind a s.0)) (conflict_is _ t.1) (w s.0 t.0),
          λ j lt con. is_no_conflict (judged m card.files cs b a j) (t.2 j lt) ((w j (omega (arith, t.0))).conflict.1 (con.conflict.0 refl)),
        )

    refusals : (e : Fault) → first (retire_checks m card bs cs a b) ≡ Some e → AtLowest e
    refusals = each_refusal AtLowest (retire_checks m card bs cs a b) (
      early _ _ (omega arith),
      λ sizes. (
        early _ _ (omega arith),
        λ one. (
          early _ _ (omega arith),
          λ two. (
            early _ _ (omega arith),
            λ same. (
              early _ _ (omega arith),
              λ one_works. (
                early _ _ (omega arith),
                λ two_works. (
                  at_conflict sizes (in_use bs a one_works) (in_use bs b two_works),
                  λ conflict.
                      (λ e q k. absurd (omega (arith, no_overlap (differ a b same) e q, ap number_of k)), λ unites. tt),
                ),
              ),
            ),
          ),
        ),
      ),
    )

    rests : RetireRests card.files a b h (result (retire_page m card a b) alike bs cs bytes)
    rests = record {
      accepted = ways (retire_page m card a b) alike bs cs bytes (λ l. l.answer ≡ Ok tt → (f : ℕ) → f < card.files → Compares Conflict (h.behind b f) (h.behind a f) → ⊥)
          (λ e q ok. absurd (err_not_ok e tt ok))
          (λ q ok f lf con. let s = passed bs cs q in is_no_conflict (judged m card.files cs b a f) (s.calm f lf)
          ((compared s.sizes s.one_works s.two_works f lf).conflict.1 (con.conflict.0 refl)));
      refused = ways (retire_page m card a b) alike bs cs bytes (λ l. (e : Fault) → l.answer ≡ Err e → AtLowest e)
          (λ d q e de. subst AtLowest (err_is d e de) (refusals d q))
          (λ q e de. absurd (ok_not_err e _ de));
    }

    in_yard : InYard m (retire_page m card a b) alike files opening bs cs h bytes
    in_yard = record {
      kept = λ q. let s = passed bs cs q in let k = at_card m sound files opening bs cs h g card s.sizes in
          back m sound files opening bs cs h g card s.sizes _ _ _ (retire_kept m sound card.files opening bs cs h k.sizes (well m sound card.files bs cs k.made) k.inv a b
          s.one s.two s.one_works s.two_works _ s.differ (sound.unite _ _ (pen a) (pen b) s.unites) s.calm);
      gives = tt;
      rests_on = rests;
      clear = each_refusal NoOverlap (retire_checks m card bs cs a b) (
        plain _ _ (omega arith),
        λ sizes. (
          plain _ _ (omega arith),
          λ one. (
            plain _ _ (omega arith),
            λ two. (
              plain _ _ (omega arith),
              λ same. (
                plain _ _ (omega arith),
                λ one_works. (
                  plain _ _ (omega arith),
                  λ two_works. (
                    λ e q k. let s = conflict_at b _ e q in omega (arith, ap (λ (z : Fault). number_of z.cause) s.2, ap number_of k),
                    λ conflict.
                        (λ e q k. omega (arith, no_overlap (differ a b same) e q, ap number_of k), λ unites. tt),
                  ),
                ),
              ),
            ),
          ),
        ),
      );
      still = λ z q. let s = passed bs cs q in retired_still files h a b s.differ (g.inv.present b ∙ s.two_works) (λ f lt.
          let lf : f < card.files = subst (λ x. f < x) (card_files m sound files opening bs cs h g card s.sizes) lt in
          nested _ (h.behind b f) (h.behind a f) (compared s.sizes s.one_works s.two_works f lf) (s.calm f lf));
    }

  pub retire_shows : Shows m (retire_page {P = P} m card a b)
  retire_shows = record {
    value = λ alike bs cs bytes. (tt, refl);
    berths_stay = λ alike bs cs bytes. length-set (set bs b _) a _ ∙ length-set bs b _;
    copies_stay = λ alike bs cs bytes. length_each _ cs;
    made = λ alike bs cs bytes made q.
        let u = sound.unite _ _ (pen_made-at m sound bs made.pens a) (pen_made-at m sound bs made.pens b) (passed bs cs q).unites in record {
          pens = every_set (PenMade m) (set bs b (working_berth (m.united (pen_at m bs a) (pen_at m bs b)))) a _ (every_set (PenMade m) bs b _ made.pens u.made) sound.no_pen_made;
          clocks = row_made m sound card.files cs b (newer_from card.files cs m a b) made.clocks (newer_made m sound card.files cs a b made.clocks);
        };
    in_yard = in_yard;
  }
