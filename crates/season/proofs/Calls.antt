-- Tables that calls lead to: they are well made, and one more call leads on from them.
use Rattle.std.proofs.Common.{◌≡◌, Bool, List, [], ◌∷◌, ◌++◌, length, refl, ap, sym, subst, ◌∙◌}
use Rattle.std.proofs.Math.Logic.{∥∥₁_elim, ∥∥₁_map}
use Rattle.std.proofs.Props.{props}
use Rattle.std.specs.Prelude.{Vec}
use Rattle.std.specs.Vec.{with_items}
use Rattle.std.proofs.lemmas.List.{with_items_is}
use Rattle.clock.specs.Meaning.{Meaning, Yes}
use Rattle.yard_rules.specs.declared.tables.Berth.{Berth}
use Rattle.yard_rules.specs.declared.tables.Record.{Record}
use Rattle.yard_rules.specs.Tables.{Made}
use Rattle.yard_rules.specs.Checks.{Outcome}
use Rattle.yard_rules.specs.Page.{Asked}
use Rattle.yard_rules.specs.declared.answers.Answer.{Answer}
use Rattle.yard_rules.specs.Calls.{page_of, Value, leaves, said}
use Rattle.yard_rules.specs.Law.{TracedYard, traced, called, all_called, after, newly_traced, LawOf}
use Rattle.yard_rules.specs.Open.{open_result}
use Rattle.season.specs.Replays.{Replayed}

yes-prop : (b : Bool) → IsProp (Yes b)
yes-prop b = Prim.hlevel props

module _ {Pen C P : Type 0} (m : Meaning Pen C) (alike : P → P → Bool) where
  one_more : (calls : List (Asked P)) (c : Asked P) (y : TracedYard Pen C P) → all_called m alike (calls ++ (c ∷ [])) y ≡ called m alike c (all_called m alike calls y)
  one_more [] c y = refl
  one_more (d ∷ more) c y = one_more more c (called m alike d y)

  module _ (bs : List (Berth Pen)) (cs : List (Record C P)) where
    made_by : LawOf m P → Replayed m alike bs cs → Made m bs cs
    made_by law r = (law alike r.payloads (traced bs cs r.history) r.reached).made

    pub well_made : LawOf m P → ∥ Replayed m alike bs cs ∥₁ → Made m bs cs
    well_made law r = record {
      pens = λ a x e. ∥∥₁_elim r (yes-prop _) (λ q. (made_by law q).pens a x e);
      clocks = λ i x e. ∥∥₁_elim r (yes-prop _) (λ q. (made_by law q).clocks i x e);
    }

    after_call : (c : Asked P) → Replayed m alike bs cs → let l = leaves m alike c bs cs in Replayed m alike l.berths l.copies
    after_call c r = record {
      payloads = r.payloads;
      history = after (page_of m c) (leaves m alike c bs cs).answer r.history;
      reached = record {
        berths = r.reached.berths;
        copies = r.reached.copies;
        card = r.reached.card;
        accepted = r.reached.accepted;
        calls = r.reached.calls ++ (c ∷ []);
        is = ap (called m alike c) r.reached.is ∙ sym (one_more r.reached.calls c (newly_traced (open_result m r.reached.berths r.reached.copies r.payloads)));
      };
    }

    -- what a call leaves is what a call more leads to
    pub led_on : (c : Asked P) (l : Outcome Pen C P (Value m c)) → l ≡ leaves m alike c bs cs → ∥ Replayed m alike bs cs ∥₁ → ∥ Replayed m alike l.berths l.copies ∥₁
    led_on c l e r = ∥∥₁_map r (λ q. subst (λ (k : Outcome Pen C P (Value m c)). Replayed m alike k.berths k.copies) (sym e) (after_call c q))

  -- the same, of tables held as vectors: of what a call wrote, both or one
  module _ {Z : Type 0} (bs : Vec (Berth Pen) Z) (cs : Vec (Record C P) Z) (c : Asked P) (l : Outcome Pen C P (Value m c)) (e : l ≡ leaves m alike c bs.items cs.items) (r : ∥ Replayed m alike bs.items cs.items ∥₁) where
    led : ∥ Replayed m alike l.berths l.copies ∥₁
    led = led_on bs.items cs.items c l e r

    pub copies_led : l.berths ≡ bs.items → length l.copies ≡ cs.len → ∥ Replayed m alike bs.items (with_items cs l.copies).items ∥₁
    copies_led eb n = subst (λ ys. ∥ Replayed m alike bs.items ys ∥₁) (sym (with_items_is cs l.copies n)) (subst (λ xs. ∥ Replayed m alike xs l.copies ∥₁) eb led)

    pub berths_led : l.copies ≡ cs.items → length l.berths ≡ bs.len → ∥ Replayed m alike (with_items bs l.berths).items cs.items ∥₁
    berths_led ec n = subst (λ xs. ∥ Replayed m alike xs cs.items ∥₁) (sym (with_items_is bs l.berths n)) (subst (λ ys. ∥ Replayed m alike l.berths ys ∥₁) ec led)

    pub both_led : length l.berths ≡ bs.len → length l.copies ≡ cs.len → ∥ Replayed m alike (with_items bs l.berths).items (with_items cs l.copies).items ∥₁
    both_led nb nc = subst (λ ys. ∥ Replayed m alike (with_items bs l.berths).items ys ∥₁) (sym (with_items_is cs l.copies nc)) (subst (λ xs. ∥ Replayed m alike xs l.copies ∥₁) (sym (with_items_is bs l.berths nb)) led)

  -- the same, of what any call is said to leave
  pub said_led : {Z : Type 0} (bs : Vec (Berth Pen) Z) (cs : Vec (Record C P) Z) (q : Asked P) (k : Outcome Pen C P (Answer Pen C)) → k ≡ said m alike q bs.items cs.items → ∥ Replayed m alike bs.items cs.items ∥₁ → length k.berths ≡ bs.len → length k.copies ≡ cs.len → ∥ Replayed m alike (with_items bs k.berths).items (with_items cs k.copies).items ∥₁
  said_led bs cs q k e r = subst (λ (k : Outcome Pen C P (Answer Pen C)). length k.berths ≡ bs.len → length k.copies ≡ cs.len → ∥ Replayed m alike (with_items bs k.berths).items (with_items cs k.copies).items ∥₁) (sym e) (both_led bs cs q (leaves m alike q bs.items cs.items) refl r)
