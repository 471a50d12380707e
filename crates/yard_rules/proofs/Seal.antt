-- seal: it gives no verdict and changes nothing.
use Rattle.std.proofs.Common.{ℕ, Bool, List, [], Option, refl}
use Rattle.clock.specs.Meaning.{Meaning}
use Rattle.yard_rules.specs.declared.tables.Berth.{Berth}
use Rattle.yard_rules.specs.declared.tables.Record.{Record}
use Rattle.yard_rules.specs.History.{History}
use Rattle.yard_rules.specs.Seal.{seal_page}
use Rattle.yard_rules.proofs.Due.{each_refusal}
use Rattle.yard_rules.proofs.Good.{Good}
use Rattle.yard_rules.proofs.Pages.{Shows, InYard, NoOverlap}
use Rattle.yard_rules.proofs.Still.{same_still}

module _ {Pen C P : Type 0} (m : Meaning Pen C) where
  module _ (alike : P → P → Bool) (files : ℕ) (opening : ℕ → Option P) (bs : List (Berth Pen)) (cs : List (Record C P)) (h : History P) (bytes : List ℕ) (g : Good m files opening bs cs h) where
    in_yard : InYard m seal_page alike files opening bs cs h bytes
    in_yard = record {
      kept = λ q. g.inv;
      gives = tt;
      rests_on = tt;
      clear = each_refusal NoOverlap [] tt;
      still = λ z q. same_still files h;
    }

  pub seal_shows : Shows m (seal_page {P = P})
  seal_shows = record {
    value = λ alike bs cs bytes. (tt, refl);
    berths_stay = λ alike bs cs bytes. refl;
    copies_stay = λ alike bs cs bytes. refl;
    made = λ alike bs cs bytes made q. made;
    in_yard = in_yard;
  }
