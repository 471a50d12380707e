-- drop: an accepted one keeps the invariant.
use Rattle.std.proofs.Common.{◌≡◌, ℕ, ◌*◌, ◌<◌, Bool, true, false, List, length, set, Some, None, Option, sym, refl, ap, ◌∙◌, subst, ⊎_elim, arith, length-set}
use Rattle.std.specs.List.{slice_get}
use Rattle.std.proofs.lemmas.Bool.{both_ways, cases_eq}
use Rattle.clock.specs.Answers.{first}
use Rattle.clock.specs.Meaning.{Meaning}
use Rattle.clock.specs.Sound.{Sound}
use Rattle.yard_rules.specs.declared.tables.Berth.{Berth}
use Rattle.yard_rules.specs.declared.tables.Record.{Record}
use Rattle.yard_rules.specs.Tables.{Card, works_in, pen_in, pen_at, empty_berth}
use Rattle.yard_rules.specs.Checks.{wrong_sizes}
use Rattle.yard_rules.specs.History.{History, put, moved_to}
use Rattle.yard_rules.specs.Drop.{drop_checks, drop_page}
use Rattle.yard_rules.proofs.Sets.{put_same, put_other}
use Rattle.yard_rules.proofs.Lookups.{at, nth_set_same, nth_set_other}
use Rattle.yard_rules.proofs.Invariant.{Inv}
use Rattle.yard_rules.proofs.Moved.{moved}
use Rattle.yard_rules.proofs.Due.{each_undue, each_refusal, within}
use Rattle.yard_rules.proofs.WellMade.{PenMade, every_set}
use Rattle.yard_rules.proofs.Good.{Good, at_card, back}
use Rattle.yard_rules.proofs.Pages.{Shows, InYard, NoOverlap, plain}

module _ {Pen C P : Type 0} (m : Meaning Pen C) (sound : Sound m) (F : ℕ) (opening : ℕ → Option P) (bs : List (Berth Pen)) (cs : List (Record C P)) (h : History P) (sizes : length cs ≡ length bs * F) (inv : Inv m F opening (slice_get bs) (at F cs) h) where
  drop_kept : (a : ℕ) → a < length bs → Inv m F opening (slice_get (set bs a (empty_berth m))) (at F cs) (moved_to h (put h.present a false) h.behind)
  drop_kept a la = moved m F opening (slice_get bs) (slice_get bs') (at F cs) (at F cs) h (put h.present a false) h.behind inv
      (λ c. ⊎_elim
      (λ q. subst (λ z. put h.present a false z ≡ works_in (slice_get bs' z)) (sym q) (put_same h.present a false ∙ sym (ap works_in here)))
      (λ q. put_other h.present a c false q ∙ inv.present c ∙ ap works_in (sym (there c q))) (cases_eq c a))
      (λ c d ne l s x y. inv.own c d ne l s (less c l s x) (less d l s y))
      (λ c f uc lf. (
        c,
        ⊎_elim
            (λ q. absurd (both_ways (works_in (slice_get bs' c)) (subst (λ z. works_in (slice_get bs' z) ≡ false) (sym q) (ap works_in here)) uc))
            (λ q. ap works_in (sym (there c q)) ∙ uc) (cases_eq c a),
        refl,
        refl,
      ))
      (λ c o f l s uo lf mk kn. inv.sees c o f l s uo lf (less c l s mk) kn)
    where
      bs' : List (Berth Pen)
      bs' = set bs a (empty_berth m)

      here : slice_get bs' a ≡ Some (empty_berth m)
      here = nth_set_same bs a (empty_berth m) la

      there : (c : ℕ) → (c ≡ a → ⊥) → slice_get bs' c ≡ slice_get bs c
      there c = nth_set_other bs a c (empty_berth m)

      less : (c l s : ℕ) → m.makes (pen_at m bs' c) l s ≡ true → m.makes (pen_at m bs c) l s ≡ true
      less c l s x = ⊎_elim
          (λ q. absurd (both_ways (m.makes m.no_pen l s) (sound.no_pen_makes l s) (sym (ap (λ (z : Option (Berth Pen)). m.makes (pen_in m z) l s) (ap (slice_get bs') q ∙ here)) ∙ x)))
          (λ q. sym (ap (λ (z : Option (Berth Pen)). m.makes (pen_in m z) l s) (there c q)) ∙ x) (cases_eq c a)

module _ {Pen C P : Type 0} (m : Meaning Pen C) (sound : Sound m) (card : Card) (a : ℕ) where
  record Passed (bs : List (Berth Pen)) (cs : List (Record C P)) : Type 0 where
    sizes : wrong_sizes card bs cs ≡ None
    one : a < length bs

  passed : (bs : List (Berth Pen)) (cs : List (Record C P)) → first (drop_checks card bs cs a) ≡ None → Passed bs cs
  passed bs cs = each_undue (drop_checks card bs cs a) (λ sizes one works. record { sizes = sizes; one = within card bs cs a sizes one })

  module _ (alike : P → P → Bool) (files : ℕ) (opening : ℕ → Option P) (bs : List (Berth Pen)) (cs : List (Record C P)) (h : History P) (bytes : List ℕ) (g : Good m files opening bs cs h) where
    in_yard : InYard m (drop_page m card a) alike files opening bs cs h bytes
    in_yard = record {
      kept = λ q. let s = passed bs cs q in let k = at_card m sound files opening bs cs h g card s.sizes in
          back m sound files opening bs cs h g card s.sizes _ _ _ (drop_kept m sound card.files opening bs cs h k.sizes k.inv a s.one);
      gives = tt;
      rests_on = tt;
      clear = each_refusal NoOverlap (drop_checks card bs cs a)
          (plain _ _ (omega arith), λ sizes. (plain _ _ (omega arith), λ one. (plain _ _ (omega arith), λ works. tt)));
      still = λ z q. absurd (both_ways true z refl);
    }

  pub drop_shows : Shows m (drop_page {P = P} m card a)
  drop_shows = record {
    value = λ alike bs cs bytes. (tt, refl);
    berths_stay = λ alike bs cs bytes. length-set bs a _;
    copies_stay = λ alike bs cs bytes. refl;
    made = λ alike bs cs bytes made q. record { pens = every_set (PenMade m) bs a _ made.pens sound.no_pen_made; clocks = made.clocks };
    in_yard = in_yard;
  }
