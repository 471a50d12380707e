-- open: what an accepted one leaves has the invariant, and is well made.
use Rattle.std.proofs.Common.{◌≡◌, ℕ, ◌+◌, ◌*◌, ◌<◌, ◌≤◌, Bool, true, false, cond, eqb, List, length, Some, None, Option, sym, refl, ap, ◌∙◌, subst, inl, ⊎_elim, arith, [], Ok}
use Rattle.std.specs.List.{slice_get}
use Rattle.std.proofs.lemmas.Nat.{mod-mul-add}
use Rattle.std.proofs.lemmas.Bool.{both_ways, eq-eqb, ne_eqb, cases_eq}
use Rattle.clock.specs.Meaning.{Meaning}
use Rattle.clock.specs.Sound.{Sound}
use Rattle.yard_rules.specs.declared.tables.Berth.{Berth}
use Rattle.yard_rules.specs.declared.tables.Record.{Record}
use Rattle.yard_rules.specs.Tables.{or_else, working_berth, empty_berth, works_in, pen_in, clock_in, payload_in, Card}
use Rattle.yard_rules.specs.Open.{opened_berths, opened_copies, card_of, open_result}
use Rattle.yard_rules.specs.History.{start}
use Rattle.yard_rules.proofs.Lookups.{at, over, nth_each, entry, place_within, length_each}
use Rattle.yard_rules.proofs.Invariant.{Inv}
use Rattle.clock.specs.declared.faults.Fault.{Fault}
use Rattle.yard_rules.specs.Checks.{outcome, unless, wrong_sizes}
use Rattle.yard_rules.specs.Law.{TracedYard, newly_traced}
use Rattle.yard_rules.proofs.Due.{fit}
use Rattle.yard_rules.proofs.WellMade.{opened_made}
use Rattle.yard_rules.proofs.Good.{Good}

module _ {Pen C P : Type 0} (m : Meaning Pen C) (sound : Sound m) (payloads : List P) (bs : List (Berth Pen)) (cs : List (Record C P)) (some : 1 ≤ length bs) (sizes : length cs ≡ length bs * length payloads) where
  bs' : List (Berth Pen)
  bs' = opened_berths m bs

  F : ℕ
  F = length payloads

  -- berth 0, and the others
  zeroth : slice_get bs' 0 ≡ Some (working_berth m.seed)
  unfolding bs'
  zeroth = let x = entry bs 0 some in nth_each _ bs 0 ∙ ap (over (λ (z : Berth Pen). working_berth m.seed)) x.1

  other : (c : ℕ) → (c ≡ 0 → ⊥) → (works_in (slice_get bs' c) ≡ false) × (pen_in m (slice_get bs' c) ≡ m.no_pen)
  unfolding bs'
  other c ne = subst (λ (o : Option (Berth Pen)). (works_in o ≡ false) × (pen_in m o ≡ m.no_pen)) (sym (nth_each _ bs c)) (go (eqb c 0) (ne_eqb c 0 ne) (slice_get bs c))
    where
      go : (t : Bool) → t ≡ false → (o : Option (Berth Pen)) → (works_in (over (λ x. cond t (working_berth m.seed) (empty_berth m)) o) ≡ false) × (pen_in m (over (λ x. cond t (working_berth m.seed) (empty_berth m)) o) ≡ m.no_pen)
      go true e o = absurd (both_ways true e refl)
      go false e (Some x) = (refl, refl)
      go false e None = (refl, refl)

  is_zero : (c : ℕ) → works_in (slice_get bs' c) ≡ true → c ≡ 0
  is_zero c u = ⊎_elim (λ e. e) (λ ne. absurd (both_ways (works_in (slice_get bs' c)) (other c ne).0 u)) (cases_eq c 0)

  no_mark : (c : ℕ) → (c ≡ 0 → ⊥) → (l s : ℕ) → m.makes (pen_in m (slice_get bs' c)) l s ≡ true → ⊥
  no_mark c ne l s x = both_ways (m.makes m.no_pen l s) (sound.no_pen_makes l s) (sym (ap (λ (p : Pen). m.makes p l s) (other c ne).1) ∙ x)

  -- a copy of berth 0
  fresh : (f : ℕ) → f < F → (clock_in m (at F (opened_copies m payloads cs) 0 f) ≡ m.blank) × (payload_in (at F (opened_copies m payloads cs) 0 f) ≡ slice_get payloads f)
  unfolding F
  fresh f lf =
      let r = entry cs (0 * length payloads + f) (omega (arith, place_within (length bs) (length payloads) 0 f some lf)) in
      let p = entry payloads f lf in
      let e : slice_get (opened_copies m payloads cs) (0 * length payloads + f) ≡ Some (record { clock = m.blank; payload = p.0 }) =
      nth_each _ cs (0 * length payloads + f) ∙ ap (over _) r.1 ∙ ap (λ i. Some (record { clock = m.blank; payload = or_else (slice_get payloads i) r.0.payload })) (mod-mul-add 0 (length payloads) f lf) ∙ ap (λ (o : Option P). Some (record { clock = m.blank; payload = or_else o r.0.payload })) p.1 in
      (ap (clock_in m) e, ap payload_in e ∙ sym p.1)

  at_zero : (c f : ℕ) → works_in (slice_get bs' c) ≡ true → f < F → (clock_in m (at F (opened_copies m payloads cs) c f) ≡ m.blank) × (payload_in (at F (opened_copies m payloads cs) c f) ≡ slice_get payloads f)
  at_zero c f u lf = subst (λ z. (clock_in m (at F (opened_copies m payloads cs) z f) ≡ m.blank) × (payload_in (at F (opened_copies m payloads cs) z f) ≡ slice_get payloads f)) (sym (is_zero c u)) (fresh f lf)

  blank : (c f l s : ℕ) → works_in (slice_get bs' c) ≡ true → f < F → m.knows (clock_in m (at F (opened_copies m payloads cs) c f)) l s ≡ true → ⊥
  blank c f l s u lf kn = both_ways (m.knows m.blank l s) (sound.blank_knows l s) (sym (ap (λ (k : C). m.knows k l s) (at_zero c f u lf).0) ∙ kn)

  open_kept : Inv m (length payloads) (slice_get payloads) (slice_get (opened_berths m bs)) (at (length payloads) (opened_copies m payloads cs)) start
  unfolding F bs'
  open_kept = record {
    added = λ n l s. false;
    present = λ c. ⊎_elim
        (λ e. eq-eqb c 0 e ∙ sym (ap works_in (ap (slice_get bs') e ∙ zeroth)))
        (λ ne. ne_eqb c 0 ne ∙ sym (other c ne).0) (cases_eq c 0);
    own = λ c d ne l s x y. ⊎_elim (λ e. no_mark d (λ q. ne (e ∙ sym q)) l s y) (λ q. no_mark c q l s x) (cases_eq c 0);
    sees = λ c d f l s ud lt mk kn. absurd (blank d f l s ud lt kn);
    backed = λ c f uc lt. record {
      known = λ l s kn. absurd (blank c f l s uc lt kn);
      knows = λ n l s hn an. absurd (both_ways false refl hn);
      some = λ n hn. absurd (both_ways false refl hn);
      below = λ n hn. absurd (both_ways false refl hn);
      early = λ n hn e le k hk. absurd (both_ways false refl hn);
      source = inl (λ n. refl, (at_zero c f uc lt).1);
    };
    single = λ c d f n k l s uc ud lt hn hk an ak. absurd (both_ways false refl hn);
  }

module _ {Pen C P : Type 0} (m : Meaning Pen C) (sound : Sound m) (payloads : List P) where
  abbrev pub GoodYard : TracedYard Pen C P → Type 0
  GoodYard y = Good m (length payloads) (slice_get payloads) y.berths y.copies y.history

  pub opened_good : (bs : List (Berth Pen)) (cs : List (Record C P)) (card : Card) → (open_result m bs cs payloads).answer ≡ Ok card → GoodYard (newly_traced (open_result m bs cs payloads))
  opened_good bs cs card ok = go (wrong_sizes (card_of bs payloads) bs cs) refl ok
    where
      go : (o : Option Fault) → wrong_sizes (card_of bs payloads) bs cs ≡ o → (unless bs cs [] o (outcome (Ok (card_of bs payloads)) (opened_berths m bs) (opened_copies m payloads cs) [])).answer ≡ Ok card → GoodYard (newly_traced (unless bs cs [] o (outcome (Ok (card_of bs payloads)) (opened_berths m bs) (opened_copies m payloads cs) [])))
      go (Some e) p q = absurd (cc)
      go None p q = let s = fit (card_of bs payloads) bs cs p in record {
        some_berths = subst (λ n. 1 ≤ n) (sym (length_each _ bs)) s.some_berths;
        sizes = length_each _ cs ∙ s.copies_are ∙ ap (λ n. n * length payloads) (sym (length_each _ bs));
        made = opened_made m sound payloads bs cs;
        inv = open_kept m sound payloads bs cs s.some_berths s.copies_are;
      }
