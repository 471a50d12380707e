-- A season that is opened within the limits: it is not refused, and what it leaves is led to by no call.
use Rattle.std.proofs.Common.{rules, ◌≡◌, ℕ, ◌*◌, Bool, true, not, List, [], length, Ok, Err, None, Some, Option, refl, ap, sym, subst, ◌∙◌, arith}
use Rattle.std.specs.Prelude.{Vec}
use Rattle.std.specs.Vec.{with_items}
use Rattle.std.proofs.lemmas.List.{with_items_is}
use Rattle.clock.specs.declared.faults.Fault.{Fault}
use Rattle.clock.specs.Meaning.{Meaning}
use Rattle.yard_rules.specs.declared.tables.Berth.{Berth}
use Rattle.yard_rules.specs.declared.tables.Record.{Record}
use Rattle.yard_rules.specs.Tables.{Card}
use Rattle.yard_rules.specs.Checks.{Outcome, outcome, unless, fault, wrong_sizes, sizes_fit}
use Rattle.yard_rules.specs.Open.{open_result, card_of}
use Rattle.yard_rules.specs.History.{start}
use Rattle.yard_rules.specs.Law.{newly_traced}
use Rattle.season.specs.Opens.{within}
use Rattle.season.specs.Replays.{Replayed}
use Rattle.clock.specs.Answers.{due}
use Rattle.clock.specs.declared.causes.Cause.TheVariants.{Sizes}

-- what a refusal says of the check that was due
refused_is : {Pen C P A : Type 0} (bs : List (Berth Pen)) (cs : List (Record C P)) (done : Outcome Pen C P A) (o : Option Fault) (x : Fault) (w : A) → done.answer ≡ Ok w → Err x ≡ (unless bs cs [] o done).answer → o ≡ Some x
refused_is bs cs done None x w d e = absurd (search (rules, e, d))
refused_is bs cs done (Some y) x w d e = search (rules, e)

module _ {Pen C P : Type 0} (m : Meaning Pen C) (payloads : List P) where
  fits : (bs : List (Berth Pen)) (cs : List (Record C P)) → within (length bs) (length payloads) ≡ true → length cs ≡ length bs * length payloads → sizes_fit (card_of bs payloads) bs cs ≡ true
  fits bs cs w e = grind (arith, w, e)

  pub not_refused : (berths : ℕ) (bs xs : List (Berth Pen)) (cs ys : List (Record C P)) (e : Fault) → within berths (length payloads) ≡ true → length bs ≡ berths → length cs ≡ berths * length payloads → outcome (Err e) xs ys [] ≡ open_result m bs cs payloads → ⊥
  not_refused berths bs xs cs ys e w eb ec is =
      let n = ap (λ t. due (not t) (fault Sizes None None)) (fits bs cs (subst (λ k. within k (length payloads) ≡ true) (sym eb) w) (subst (λ k. length cs ≡ k * length payloads) (sym eb) ec)) in
      let r : wrong_sizes (card_of bs payloads) bs cs ≡ Some e = refused_is bs cs _ _ e _ refl (ap (λ (l : Outcome Pen C P Card). l.answer) is) in
      search (rules, sym r ∙ n)

  module _ (alike : P → P → Bool) where
    opened : (bs : List (Berth Pen)) (cs : List (Record C P)) (card : Card) (l : Outcome Pen C P Card) → l.answer ≡ Ok card → l ≡ open_result m bs cs payloads → Replayed m alike l.berths l.copies
    opened bs cs card l ok e = record {
      payloads = payloads;
      history = start;
      reached = record {
        berths = bs;
        copies = cs;
        card = card;
        accepted = ap (λ (k : Outcome Pen C P Card). k.answer) (sym e) ∙ ok;
        calls = [];
        is = ap (λ (k : Outcome Pen C P Card). newly_traced k) e;
      };
    }

    pub opened_led : {Z : Type 0} (bs : Vec (Berth Pen) Z) (cs : Vec (Record C P) Z) (card : Card) (l : Outcome Pen C P Card) → l.answer ≡ Ok card → l ≡ open_result m bs.items cs.items payloads → length l.berths ≡ bs.len → length l.copies ≡ cs.len → ∥ Replayed m alike (with_items bs l.berths).items (with_items cs l.copies).items ∥₁
    opened_led bs cs card l ok e nb nc = ∣ subst (λ ys. Replayed m alike (with_items bs l.berths).items ys) (sym (with_items_is cs l.copies nc)) (subst (λ xs. Replayed m alike xs l.copies) (sym (with_items_is bs l.berths nb)) (opened bs.items cs.items card l ok e)) ∣₁
