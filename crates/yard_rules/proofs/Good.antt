-- What every yard keeps that calls lead to: sizes, well-made tables and the invariant.
use Rattle.std.proofs.Common.{◌≡◌, ℕ, ◌+◌, ◌*◌, ◌<◌, ◌≤◌, false, List, length, Some, None, Option, sym, ap, ◌∙◌, subst, ⊎_elim, arith}
use Rattle.std.specs.List.{slice_get}
use Rattle.clock.specs.declared.faults.Fault.{Fault}
use Rattle.clock.specs.Causes.{number_of}
use Rattle.clock.specs.Meaning.{Meaning, Yes}
use Rattle.clock.specs.Sound.{Sound}
use Rattle.yard_rules.specs.declared.tables.Berth.{Berth}
use Rattle.yard_rules.specs.declared.tables.Record.{Record}
use Rattle.yard_rules.specs.Tables.{Card, Made, pen_at, is_conflict, judged}
use Rattle.yard_rules.specs.Checks.{wrong_sizes, lowest, placed}
use Rattle.yard_rules.specs.History.{History}
use Rattle.yard_rules.proofs.Lookups.{at, same_files}
use Rattle.yard_rules.proofs.Due.{fit, lowest-none, placed_is}
use Rattle.yard_rules.proofs.WellMade.{pen_made-at, clock_made-at}
use Rattle.yard_rules.proofs.Invariant.{Well, Inv}

pub record Good {Pen C P : Type 0} (m : Meaning Pen C) (files : ℕ) (opening : ℕ → Option P) (bs : List (Berth Pen)) (cs : List (Record C P)) (h : History P) : Type 0 where
  pub some_berths : 1 ≤ length bs
  pub sizes : length cs ≡ length bs * files
  pub made : Made m bs cs
  pub inv : Inv m files opening (slice_get bs) (at files cs) h

pub well : {Pen C P : Type 0} (m : Meaning Pen C) (sound : Sound m) (files : ℕ) (bs : List (Berth Pen)) (cs : List (Record C P)) → Made m bs cs → Well m (at files cs)
well m sound files bs cs made c f = clock_made-at m sound cs made.clocks (c * files + f)

module _ {Pen C P : Type 0} (m : Meaning Pen C) (sound : Sound m) (files : ℕ) (opening : ℕ → Option P) (bs : List (Berth Pen)) (cs : List (Record C P)) (h : History P) (good : Good m files opening bs cs h) where
  -- a card that the checks pass has the yard's files
  pub card_files : (card : Card) → wrong_sizes card bs cs ≡ None → files ≡ card.files
  card_files card q = let s = fit card bs cs q in same_files (length bs) files card.files (length cs) good.some_berths good.sizes (s.copies_are ∙ ap (λ n. n * card.files) (sym s.berths_are))

  pub at_card : (card : Card) → wrong_sizes card bs cs ≡ None → Good m card.files opening bs cs h
  at_card card q = subst (λ n. Good m n opening bs cs h) (card_files card q) good

  pub back : (card : Card) → wrong_sizes card bs cs ≡ None → (bs' : List (Berth Pen)) (cs' : List (Record C P)) (h' : History P) → Inv m card.files opening (slice_get bs') (at card.files cs') h' → Inv m files opening (slice_get bs') (at files cs') h'
  back card q bs' cs' h' i = subst (λ n. Inv m n opening (slice_get bs') (at n cs') h') (sym (card_files card q)) i

  pub pen_made : (a : ℕ) → Yes (m.pen_made (pen_at m bs a))
  pen_made = pen_made-at m sound bs good.made.pens

  pub clock_made : Well m (at files cs)
  clock_made = well m sound files bs cs good.made

pub no_conflicts : {Pen C P : Type 0} (m : Meaning Pen C) (cs : List (Record C P)) (F a b : ℕ) → lowest F (λ f. is_conflict (judged m F cs b a f)) ≡ None → (f : ℕ) → f < F → is_conflict (judged m F cs b a f) ≡ false
no_conflicts m cs F a b q = lowest-none F (λ f. is_conflict (judged m F cs b a f)) q

-- with which causes an event is refused
pub event_number : {Pen C : Type 0} (m : Meaning Pen C) (sound : Sound m) (b f : Option ℕ) (p : Pen) (c : C) (e : Fault) → Yes (m.pen_made p) → Yes (m.clock_made c) → placed b f (m.event_due p c) ≡ Some e → 13 < number_of e.cause
event_number m sound b f p c e pen clock q = ⊎_elim {C = 13 < number_of e.cause}
    (λ r. omega (arith, ap number_of r))
    (λ r. ⊎_elim {C = 13 < number_of e.cause} (λ r. omega (arith, ap number_of r)) (λ r. omega (arith, ap number_of r)) r)
    (sound.event_cause _ _ e.cause pen clock (placed_is b f _ e q))
