-- judge: its verdict compares the edits behind the two copies.
use Rattle.std.proofs.Common.{◌≡◌, ℕ, ◌<◌, Bool, true, List, None, Ok, Option, refl, subst, arith}
use Rattle.clock.specs.Answers.{first}
use Rattle.clock.specs.declared.verdicts.Verdict.{Verdict}
use Rattle.clock.specs.Meaning.{Meaning}
use Rattle.clock.specs.Sound.{Sound}
use Rattle.yard_rules.specs.declared.tables.Berth.{Berth}
use Rattle.yard_rules.specs.declared.tables.Record.{Record}
use Rattle.yard_rules.specs.Tables.{Card, judged, working}
use Rattle.yard_rules.specs.Checks.{wrong_sizes}
use Rattle.yard_rules.specs.History.{History, Compares}
use Rattle.yard_rules.specs.Judge.{judge_checks, judge_page}
use Rattle.yard_rules.proofs.Due.{each_undue, each_refusal, file_below, in_use}
use Rattle.yard_rules.proofs.Good.{Good}
use Rattle.yard_rules.proofs.Holding.{verdict_at}
use Rattle.yard_rules.proofs.Pages.{Shows, InYard, NoOverlap, plain, ways, ok_is, err_not_ok}
use Rattle.yard_rules.proofs.Still.{same_still}

module _ {Pen C P : Type 0} (m : Meaning Pen C) (sound : Sound m) (card : Card) (a b f : ℕ) where
  record Passed (bs : List (Berth Pen)) (cs : List (Record C P)) : Type 0 where
    sizes : wrong_sizes card bs cs ≡ None
    file : f < card.files
    one_works : working bs a ≡ true
    two_works : working bs b ≡ true

  passed : (bs : List (Berth Pen)) (cs : List (Record C P)) → first (judge_checks card bs cs a b f) ≡ None → Passed bs cs
  passed bs cs = each_undue (judge_checks card bs cs a b f) (λ sizes one two file one_works two_works.
      record { sizes = sizes; file = file_below card f file; one_works = in_use bs a one_works; two_works = in_use bs b two_works })

  module _ (alike : P → P → Bool) (files : ℕ) (opening : ℕ → Option P) (bs : List (Berth Pen)) (cs : List (Record C P)) (h : History P) (bytes : List ℕ) (g : Good m files opening bs cs h) where
    in_yard : InYard m (judge_page m card a b f) alike files opening bs cs h bytes
    in_yard = record {
      kept = λ q. g.inv;
      gives = ways (judge_page m card a b f) alike bs cs bytes (λ l. (v : Verdict) → l.answer ≡ Ok v → Compares v (h.behind a f) (h.behind b f))
          (λ e q v ok. absurd (err_not_ok e v ok))
          (λ q v ok. let s = passed bs cs q in subst (λ w. Compares w (h.behind a f) (h.behind b f)) (ok_is _ v ok)
          (verdict_at m sound files opening bs cs h g card a b f s.sizes s.one_works s.two_works s.file));
      rests_on = tt;
      clear = each_refusal NoOverlap (judge_checks card bs cs a b f)
          (plain _ _ (omega arith), λ sizes. (plain _ _ (omega arith), λ one. (plain _ _ (omega arith), λ two. (plain _ _ (omega arith), λ file. (plain _ _ (omega arith), λ one_works. (plain _ _ (omega arith), λ two_works. tt))))));
      still = λ z q. same_still files h;
    }

  pub judge_shows : Shows m (judge_page {P = P} m card a b f)
  judge_shows = record {
    value = λ alike bs cs bytes. (judged m card.files cs a b f, refl);
    berths_stay = λ alike bs cs bytes. refl;
    copies_stay = λ alike bs cs bytes. refl;
    made = λ alike bs cs bytes made q. made;
    in_yard = in_yard;
  }
