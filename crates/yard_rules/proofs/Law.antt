-- The law of histories, and its form at each call.
use Rattle.std.proofs.Common.{◌≡◌, ℕ, ◌<◌, Bool, List, [], ◌∷◌, length, Some, sym, refl, ◌∙◌, subst, ⊎_elim}
use Rattle.std.specs.List.{slice_get}
use Rattle.std.proofs.lemmas.Option.{none-some, slice_get_past}
use Rattle.std.proofs.lemmas.Bool.{cases_lt}
use Rattle.clock.specs.Meaning.{Meaning}
use Rattle.clock.specs.Sound.{Sound}
use Rattle.yard_rules.specs.declared.tables.Berth.{Berth}
use Rattle.yard_rules.specs.declared.tables.Record.{Record}
use Rattle.yard_rules.specs.Tables.{Made}
use Rattle.yard_rules.specs.Open.{open_result}
use Rattle.yard_rules.specs.Page.{Asked}
use Rattle.yard_rules.specs.Calls.{page_of, leaves}
use Rattle.yard_rules.specs.Law.{TracedYard, traced, called, all_called, Reached, YardLaw, LawOf, LawfulCall, LawfulOpen}
use Rattle.yard_rules.proofs.Holding.{compared, equal_holds, verdict_at}
use Rattle.yard_rules.proofs.Open.{GoodYard, opened_good}
use Rattle.yard_rules.proofs.EachCall.{shows}
use Rattle.yard_rules.proofs.Pages as pages

nth_below : {A : Type 0} (xs : List A) (i : ℕ) (x : A) → slice_get xs i ≡ Some x → i < length xs
nth_below xs i x e = ⊎_elim (λ lt. lt) (λ ge. absurd (none-some x (sym (slice_get_past xs i ge) ∙ e))) (cases_lt i (length xs))

module _ {Pen C P : Type 0} (m : Meaning Pen C) (sound : Sound m) (alike : P → P → Bool) where
  pub leaves_made : (q : Asked P) (bs : List (Berth Pen)) (cs : List (Record C P)) → Made m bs cs → Made m (leaves m alike q bs cs).berths (leaves m alike q bs cs).copies
  leaves_made q bs cs = pages.leaves_made m (page_of m q) (shows m sound q.card q.call) alike bs cs q.bytes

  module _ (payloads : List P) where
    leaves_good : (q : Asked P) (y : TracedYard Pen C P) → GoodYard m sound payloads y → GoodYard m sound payloads (called m alike q y)
    leaves_good q y g = pages.leaves_good m (page_of m q) (shows m sound q.card q.call) alike y.berths y.copies q.bytes (length payloads) (slice_get payloads) y.history g

    all_good : (calls : List (Asked P)) (y : TracedYard Pen C P) → GoodYard m sound payloads y → GoodYard m sound payloads (all_called m alike calls y)
    all_good [] y g = g
    all_good (q ∷ more) y g = all_good more (called m alike q y) (leaves_good q y g)

    reached_good : (y : TracedYard Pen C P) → Reached m alike payloads y → GoodYard m sound payloads y
    reached_good y r = subst (GoodYard m sound payloads) (sym r.is) (all_good r.calls _ (opened_good m sound payloads r.berths r.copies r.card r.accepted))

    points : (y : TracedYard Pen C P) → GoodYard m sound payloads y → YardLaw m alike payloads y
    points y g = record {
      made = g.made;
      stand = g.inv.present;
      verdicts = λ a b f sa sb lt. compared m sound F (slice_get payloads) y.berths y.copies y.history g a b f (sym (g.inv.present a) ∙ sa) (sym (g.inv.present b) ∙ sb) lt;
      every = verdict_at m sound F (slice_get payloads) y.berths y.copies y.history g;
      apart = g.inv.own;
      holds = λ a b f x z o sa sb eo ex ez eq. equal_holds m sound F (slice_get payloads) y.berths y.copies y.history g a b f x z o (sym (g.inv.present a) ∙ sa) (sym (g.inv.present b) ∙ sb) (nth_below payloads f o eo) eo ex ez eq;
      lawful = λ q. pages.lawful m (page_of m q) (shows m sound q.card q.call) alike y.berths y.copies q.bytes F (slice_get payloads) y.history g payloads refl;
    }
      where
        F : ℕ
        F = length payloads

pub law_of : {Pen C P : Type 0} (m : Meaning Pen C) → Sound m → LawOf m P
law_of m sound alike payloads y r = points m sound alike payloads y (reached_good m sound alike payloads y r)

pub lawful_call : {Pen C P : Type 0} (m : Meaning Pen C) (sound : Sound m) (alike : P → P → Bool) (q : Asked P) (bs : List (Berth Pen)) (cs : List (Record C P)) → LawfulCall m alike q bs cs (leaves m alike q bs cs)
lawful_call m sound alike q bs cs payloads h r =
    let g = reached_good m sound alike payloads (traced bs cs h) r in
    let p = points m sound alike payloads (traced bs cs h) g in record {
      before = p;
      lawful = p.lawful q;
      afterwards = points m sound alike payloads (called m alike q (traced bs cs h)) (leaves_good m sound alike payloads q (traced bs cs h) g);
    }

pub lawful_open : {Pen C P : Type 0} (m : Meaning Pen C) (sound : Sound m) (bs : List (Berth Pen)) (cs : List (Record C P)) (payloads : List P) → LawfulOpen m payloads (open_result m bs cs payloads)
lawful_open m sound bs cs payloads alike card ok = points m sound alike payloads _ (opened_good m sound payloads bs cs card ok)
