-- show: it gives no verdict and changes nothing.
use Rattle.std.proofs.Common.{ℕ, Bool, List, Option, refl, arith}
use Rattle.clock.specs.Meaning.{Meaning}
use Rattle.yard_rules.specs.declared.tables.Berth.{Berth}
use Rattle.yard_rules.specs.declared.tables.Record.{Record}
use Rattle.yard_rules.specs.Tables.{Card, pen_at, clock_at}
use Rattle.yard_rules.specs.History.{History}
use Rattle.yard_rules.specs.Show.{show_checks, show_page}
use Rattle.yard_rules.proofs.Due.{each_refusal}
use Rattle.yard_rules.proofs.Good.{Good}
use Rattle.yard_rules.proofs.Pages.{Shows, InYard, NoOverlap, plain}
use Rattle.yard_rules.proofs.Still.{same_still}

module _ {Pen C P : Type 0} (m : Meaning Pen C) (card : Card) (a f : ℕ) where
  module _ (alike : P → P → Bool) (files : ℕ) (opening : ℕ → Option P) (bs : List (Berth Pen)) (cs : List (Record C P)) (h : History P) (bytes : List ℕ) (g : Good m files opening bs cs h) where
    in_yard : InYard m (show_page m card a f) alike files opening bs cs h bytes
    in_yard = record {
      kept = λ q. g.inv;
      gives = tt;
      rests_on = tt;
      clear = each_refusal NoOverlap (show_checks card bs cs a f)
          (plain _ _ (omega arith), λ sizes. (plain _ _ (omega arith), λ one. (plain _ _ (omega arith), λ file. (plain _ _ (omega arith), λ works. tt))));
      still = λ z q. same_still files h;
    }

  pub show_shows : Shows m (show_page {P = P} m card a f)
  show_shows = record {
    value = λ alike bs cs bytes. ((pen_at m bs a, clock_at m card.files cs a f), refl);
    berths_stay = λ alike bs cs bytes. refl;
    copies_stay = λ alike bs cs bytes. refl;
    made = λ alike bs cs bytes made q. made;
    in_yard = in_yard;
  }
