-- fork: an accepted one keeps the invariant, and loses no edit.
use Rattle.std.proofs.Common.{◌≡◌, ℕ, ◌+◌, ◌*◌, ◌<◌, Bool, true, false, List, length, set, Some, None, Option, sym, refl, ap, ◌∙◌, subst, ⊎_elim, arith, length-set}
use Rattle.std.specs.List.{slice_get}
use Rattle.std.proofs.lemmas.Bool.{or_left, or_right, cases_eq}
use Rattle.clock.specs.Answers.{first}
use Rattle.clock.specs.Causes.{number_of}
use Rattle.clock.specs.Meaning.{Meaning}
use Rattle.clock.specs.Sound.{Sound, Apart, Forked}
use Rattle.yard_rules.specs.declared.tables.Berth.{Berth}
use Rattle.yard_rules.specs.declared.tables.Record.{Record}
use Rattle.yard_rules.specs.Tables.{Card, working, works_in, pen_in, pen_at, clock_in, working_berth, row, copy_from}
use Rattle.yard_rules.specs.Checks.{wrong_sizes}
use Rattle.yard_rules.specs.History.{History, put, moved_to}
use Rattle.yard_rules.specs.Fork.{fork_checks, fork_page}
use Rattle.yard_rules.proofs.Sets.{put_same, put_other}
use Rattle.yard_rules.proofs.Lookups.{at, length_each, place_within, row_copied, row_there, three_ways, two_first, two_second, two_other}
use Rattle.yard_rules.proofs.Invariant.{Inv}
use Rattle.yard_rules.proofs.Moved.{moved}
use Rattle.yard_rules.proofs.Due.{each_undue, each_refusal, within, differ, in_use, out_of_use, unplaced, placed_is}
use Rattle.yard_rules.proofs.WellMade.{PenMade, every_set, pen_made-at, row_made, copy_made}
use Rattle.yard_rules.proofs.Good.{Good, at_card, back, pen_made}
use Rattle.yard_rules.proofs.Pages.{Shows, InYard, NoOverlap, plain}
use Rattle.yard_rules.proofs.Still.{forked_still}

module _ {Pen C P : Type 0} (m : Meaning Pen C) (sound : Sound m) (F : ℕ) (opening : ℕ → Option P) (bs : List (Berth Pen)) (cs : List (Record C P)) (h : History P) (sizes : length cs ≡ length bs * F) (inv : Inv m F opening (slice_get bs) (at F cs) h) where
  fork_kept : (a b : ℕ) (p q : Pen) → a < length bs → b < length bs → (a ≡ b → ⊥) → working bs a ≡ true → Forked m (pen_at m bs a) p q →
      Inv m F opening (slice_get (set (set bs a (working_berth p)) b (working_berth q))) (at F (row F cs b (copy_from F cs a))) (moved_to h (put h.present b true) (put h.behind b (h.behind a)))
  fork_kept a b p q la lb ne ua K = moved m F opening (slice_get bs) (slice_get bs') (at F cs) (at F cs') h (put h.present b true) (put h.behind b (h.behind a)) inv
      (λ c. three_ways (λ c. put h.present b true c ≡ works_in (slice_get bs' c)) a b c
      (put_other h.present b a true ne ∙ inv.present a ∙ ua ∙ sym (ap works_in at_a))
      (put_same h.present b true ∙ sym (ap works_in at_b))
      (λ na nb. put_other h.present b c true nb ∙ inv.present c ∙ sym (ap works_in (at_c c na nb))))
      own
      (λ c f uc lf. ⊎_elim
      (λ e. (a, ua, subst (λ z. at F cs' z f ≡ at F cs a f) (sym e) (copied f lf), subst (λ z. put h.behind b (h.behind a) z f ≡ h.behind a f) (sym e) (ap (λ (g : ℕ → List ℕ). g f) (put_same h.behind b (h.behind a)))))
      (λ e. (c, ⊎_elim (λ r. subst (λ z. works_in (slice_get bs z) ≡ true) (sym r) ua) (λ r. ap works_in (sym (at_c c r e)) ∙ uc) (cases_eq c a), others c f lf e, ap (λ (g : ℕ → List ℕ). g f) (put_other h.behind b c (h.behind a) e)))
      (cases_eq c b))
      (λ c o f l s uo lf mk kn. ⊎_elim
      (λ e. subst (λ z. m.knows (clock_in m (at F cs' z f)) l s ≡ true) (sym e)
      (ap (λ (r : Option (Record C P)). m.knows (clock_in m r) l s) (copied f lf) ∙ inv.sees a o f l s uo lf (second l s (subst (λ z. m.makes (pen_at m bs' z) l s ≡ true) e mk)) kn))
      (λ e. ap (λ (r : Option (Record C P)). m.knows (clock_in m r) l s) (others c f lf e) ∙ inv.sees c o f l s uo lf (rest c l s e mk) kn)
      (cases_eq c b))
    where
      bs' : List (Berth Pen)
      bs' = set (set bs a (working_berth p)) b (working_berth q)

      cs' : List (Record C P)
      cs' = row F cs b (copy_from F cs a)

      inside_table : (c f : ℕ) → c < length bs → f < F → c * F + f < length cs
      inside_table c f lc lf = omega (arith, place_within (length bs) F c f lc lf)

      copied : (f : ℕ) → f < F → at F cs' b f ≡ at F cs a f
      copied f lf = row_copied F cs a b f lf (inside_table a f la lf) (inside_table b f lb lf)

      others : (c f : ℕ) → f < F → (c ≡ b → ⊥) → at F cs' c f ≡ at F cs c f
      others c f lf nb = row_there F cs b (copy_from F cs a) c f lf nb

      at_a : slice_get bs' a ≡ Some (working_berth p)
      at_a = two_first bs a b _ _ la lb ne

      at_b : slice_get bs' b ≡ Some (working_berth q)
      at_b = two_second bs a b _ _ la lb ne

      at_c : (c : ℕ) → (c ≡ a → ⊥) → (c ≡ b → ⊥) → slice_get bs' c ≡ slice_get bs c
      at_c = two_other bs a b _ _ la lb ne

      -- the second pen's marks were a's
      as_q : (l s : ℕ) → m.makes (pen_at m bs' b) l s ≡ true → m.makes q l s ≡ true
      as_q l s x = sym (ap (λ (z : Option (Berth Pen)). m.makes (pen_in m z) l s) at_b) ∙ x

      second : (l s : ℕ) → m.makes (pen_at m bs' b) l s ≡ true → m.makes (pen_at m bs a) l s ≡ true
      second l s x = K.together l s ∙ or_right (m.makes p l s) (m.makes q l s) (as_q l s x)

      as_p : (l s : ℕ) → m.makes (pen_at m bs' a) l s ≡ true → m.makes p l s ≡ true
      as_p l s x = sym (ap (λ (z : Option (Berth Pen)). m.makes (pen_in m z) l s) at_a) ∙ x

      -- every other berth's were its own
      rest : (c l s : ℕ) → (c ≡ b → ⊥) → m.makes (pen_at m bs' c) l s ≡ true → m.makes (pen_at m bs c) l s ≡ true
      rest c l s nb x = ⊎_elim
          (λ e. subst (λ z. m.makes (pen_at m bs z) l s ≡ true) (sym e) (K.together l s ∙ or_left (m.makes p l s) (m.makes q l s) (as_p l s (subst (λ z. m.makes (pen_at m bs' z) l s ≡ true) e x))))
          (λ na. sym (ap (λ (z : Option (Berth Pen)). m.makes (pen_in m z) l s) (at_c c na nb)) ∙ x)
          (cases_eq c a)

      own_b : (d l s : ℕ) → (d ≡ b → ⊥) → m.makes (pen_at m bs' b) l s ≡ true → m.makes (pen_at m bs' d) l s ≡ true → ⊥
      own_b d l s nb x y = ⊎_elim
          (λ e. K.apart l s (as_p l s (subst (λ z. m.makes (pen_at m bs' z) l s ≡ true) e y)) (as_q l s x))
          (λ na. inv.own a d (λ e. na (sym e)) l s (second l s x) (rest d l s nb y))
          (cases_eq d a)

      own : (c d : ℕ) → (c ≡ d → ⊥) → Apart m (pen_at m bs' c) (pen_at m bs' d)
      own c d nd l s x y = ⊎_elim
          (λ e. own_b d l s (λ r. nd (e ∙ sym r)) (subst (λ z. m.makes (pen_at m bs' z) l s ≡ true) e x) y)
          (λ cb. ⊎_elim
          (λ e. own_b c l s cb (subst (λ z. m.makes (pen_at m bs' z) l s ≡ true) e y) x)
          (λ db. inv.own c d nd l s (rest c l s cb x) (rest d l s db y))
          (cases_eq d b))
          (cases_eq c b)

module _ {Pen C P : Type 0} (m : Meaning Pen C) (sound : Sound m) (card : Card) (a b : ℕ) where
  record Passed (bs : List (Berth Pen)) (cs : List (Record C P)) : Type 0 where
    sizes : wrong_sizes card bs cs ≡ None
    one : a < length bs
    two : b < length bs
    differ : a ≡ b → ⊥
    works : working bs a ≡ true
    empty : working bs b ≡ false
    splits : m.fork_due (pen_at m bs a) ≡ None

  passed : (bs : List (Berth Pen)) (cs : List (Record C P)) → first (fork_checks m card bs cs a b) ≡ None → Passed bs cs
  passed bs cs = each_undue (fork_checks m card bs cs a b) (λ sizes one two same works empty splits. record {
    sizes = sizes;
    one = within card bs cs a sizes one;
    two = within card bs cs b sizes two;
    differ = differ a b same;
    works = in_use bs a works;
    empty = out_of_use bs b empty;
    splits = unplaced _ _ _ splits;
  })

  module _ (alike : P → P → Bool) (files : ℕ) (opening : ℕ → Option P) (bs : List (Berth Pen)) (cs : List (Record C P)) (h : History P) (bytes : List ℕ) (g : Good m files opening bs cs h) where
    in_yard : InYard m (fork_page m card a b) alike files opening bs cs h bytes
    in_yard = record {
      kept = λ q. let s = passed bs cs q in let k = at_card m sound files opening bs cs h g card s.sizes in
          back m sound files opening bs cs h g card s.sizes _ _ _ (fork_kept m sound card.files opening bs cs h k.sizes k.inv a b _ _
          s.one s.two s.differ s.works
          (sound.fork (pen_at m bs a) (pen_made m sound files opening bs cs h g a) s.splits));
      gives = tt;
      rests_on = tt;
      clear = each_refusal NoOverlap (fork_checks m card bs cs a b)
          (plain _ _ (omega arith), λ sizes. (plain _ _ (omega arith), λ one. (plain _ _ (omega arith), λ two. (plain _ _ (omega arith), λ same. (plain _ _ (omega arith), λ works. (plain _ _ (omega arith), λ empty. (λ e q k. omega (arith, ap number_of (sound.fork_cause _ e.cause (pen_made m sound files opening bs cs h g a) (placed_is _ _ _ e q)), ap number_of k), λ splits. tt)))))));
      still = λ z q. let s = passed bs cs q in forked_still files h a b (g.inv.present b ∙ s.empty);
    }

  pub fork_shows : Shows m (fork_page {P = P} m card a b)
  fork_shows = record {
    value = λ alike bs cs bytes. (tt, refl);
    berths_stay = λ alike bs cs bytes. length-set (set bs a _) b _ ∙ length-set bs a _;
    copies_stay = λ alike bs cs bytes. length_each _ cs;
    made = λ alike bs cs bytes made q.
        let f = sound.fork (pen_at m bs a) (pen_made-at m sound bs made.pens a) (passed bs cs q).splits in record {
          pens = every_set (PenMade m) (set bs a (working_berth (m.halves (pen_at m bs a)).0)) b _ (every_set (PenMade m) bs a _ made.pens f.first_made) f.second_made;
          clocks = row_made m sound card.files cs b (copy_from card.files cs a) made.clocks (copy_made m sound card.files cs a made.clocks);
        };
    in_yard = in_yard;
  }
