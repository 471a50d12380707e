-- report: each byte compares the edits behind the two copies.
use Rattle.std.proofs.Common.{◌≡◌, ℕ, ◌≤◌, Bool, true, List, length, None, Option, refl, arith}
use Rattle.clock.specs.Answers.{first}
use Rattle.clock.specs.Meaning.{Meaning}
use Rattle.clock.specs.Sound.{Sound}
use Rattle.yard_rules.specs.declared.tables.Berth.{Berth}
use Rattle.yard_rules.specs.declared.tables.Record.{Record}
use Rattle.yard_rules.specs.Tables.{Card, judged, working}
use Rattle.yard_rules.specs.Checks.{wrong_sizes}
use Rattle.yard_rules.specs.History.{History}
use Rattle.yard_rules.specs.Report.{report_checks, report_page, counts, twins}
use Rattle.yard_rules.proofs.Lookups.{reported_byte}
use Rattle.yard_rules.proofs.Due.{each_undue, each_refusal, in_use, roomy}
use Rattle.yard_rules.proofs.Good.{Good}
use Rattle.yard_rules.proofs.Holding.{verdict_at}
use Rattle.yard_rules.proofs.Pages.{Shows, InYard, NoOverlap, plain, ways, err_not_ok}
use Rattle.yard_rules.proofs.Still.{same_still, byte_compares}

module _ {Pen C P : Type 0} (m : Meaning Pen C) (sound : Sound m) (card : Card) (a b : ℕ) where
  record Passed (bs : List (Berth Pen)) (cs : List (Record C P)) (bytes : List ℕ) : Type 0 where
    sizes : wrong_sizes card bs cs ≡ None
    one_works : working bs a ≡ true
    two_works : working bs b ≡ true
    room : card.files ≤ length bytes

  passed : (bs : List (Berth Pen)) (cs : List (Record C P)) (bytes : List ℕ) → first (report_checks card bs cs a b bytes) ≡ None → Passed bs cs bytes
  passed bs cs bytes = each_undue (report_checks card bs cs a b bytes) (λ sizes one two one_works two_works room.
      record { sizes = sizes; one_works = in_use bs a one_works; two_works = in_use bs b two_works; room = roomy card bytes room })

  module _ (alike : P → P → Bool) (files : ℕ) (opening : ℕ → Option P) (bs : List (Berth Pen)) (cs : List (Record C P)) (h : History P) (bytes : List ℕ) (g : Good m files opening bs cs h) where
    in_yard : InYard m (report_page m card a b) alike files opening bs cs h bytes
    in_yard = record {
      kept = λ q. g.inv;
      gives = ways (report_page m card a b) alike bs cs bytes (λ l. (report_page m card a b).gives h l)
          (λ e q v ok. absurd (err_not_ok e v ok))
          (λ q v ok f lf. let s = passed bs cs bytes q in byte_compares _ (judged m card.files cs a b f) _ _
          (reported_byte card.files _ bytes s.room f lf)
          (verdict_at m sound files opening bs cs h g card a b f s.sizes s.one_works s.two_works lf));
      rests_on = tt;
      clear = each_refusal NoOverlap (report_checks card bs cs a b bytes)
          (plain _ _ (omega arith), λ sizes. (plain _ _ (omega arith), λ one. (plain _ _ (omega arith), λ two. (plain _ _ (omega arith), λ one_works. (plain _ _ (omega arith), λ two_works. (plain _ _ (omega arith), λ room. tt))))));
      still = λ z q. same_still files h;
    }

  pub report_shows : Shows m (report_page {P = P} m card a b)
  report_shows = record {
    value = λ alike bs cs bytes. (counts card.files (judged m card.files cs a b) (twins card.files cs alike a b), refl);
    berths_stay = λ alike bs cs bytes. refl;
    copies_stay = λ alike bs cs bytes. refl;
    made = λ alike bs cs bytes made q. made;
    in_yard = in_yard;
  }
