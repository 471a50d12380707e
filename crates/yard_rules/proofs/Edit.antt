-- edit: an accepted one keeps the invariant, and loses no edit.
use Rattle.std.proofs.Common.{◌≡◌, ℕ, ◌+◌, ◌*◌, ◌<◌, Bool, true, List, length, set, None, Option, refl, ap, arith, length-set}
use Rattle.std.specs.List.{slice_get}
use Rattle.clock.specs.Answers.{first}
use Rattle.clock.specs.Causes.{number_of}
use Rattle.clock.specs.Meaning.{Meaning}
use Rattle.clock.specs.Sound.{Sound, Evented}
use Rattle.yard_rules.specs.declared.tables.Berth.{Berth}
use Rattle.yard_rules.specs.declared.tables.Record.{Record}
use Rattle.yard_rules.specs.Tables.{Card, working, pen_at, clock_at}
use Rattle.yard_rules.specs.Checks.{wrong_sizes}
use Rattle.yard_rules.specs.History.{History, numbered}
use Rattle.yard_rules.specs.Edit.{edit_checks, edit_page}
use Rattle.yard_rules.proofs.Lookups.{at, set_here, set_there}
use Rattle.yard_rules.proofs.Invariant.{Backed, Inv}
use Rattle.yard_rules.proofs.Numbered.{written}
use Rattle.yard_rules.proofs.Due.{each_undue, each_refusal, within, file_below, in_use, unplaced}
use Rattle.yard_rules.proofs.WellMade.{ClockMade, every_set, pen_made-at, clock_made-at}
use Rattle.yard_rules.proofs.Good.{Good, well, at_card, back, pen_made, event_number}
use Rattle.yard_rules.proofs.Pages.{Shows, InYard, NoOverlap, plain}
use Rattle.yard_rules.proofs.Still.{numbered_still}

module _ {Pen C P : Type 0} (m : Meaning Pen C) (F : ℕ) (opening : ℕ → Option P) (bs : List (Berth Pen)) (cs : List (Record C P)) (h : History P) (sizes : length cs ≡ length bs * F) (inv : Inv m F opening (slice_get bs) (at F cs) h) where
  backed : (a f : ℕ) → working bs a ≡ true → f < F → Backed m inv.added h.next h.edits (opening f) (at F cs a f) (h.behind a f)
  backed a f ua lf = inv.backed a f ua lf

  edit_kept : (a f : ℕ) (p : P) (c : C) → a < length bs → f < F → working bs a ≡ true → Evented m (pen_at m bs a) (clock_at m F cs a f) c →
      Inv m F opening (slice_get bs) (at F (set cs (a * F + f) (record { clock = c; payload = p }))) (numbered h a f p (h.behind a f))
  edit_kept a f p c la lf ua ev = written m F opening (slice_get bs) (at F cs) (at F (set cs (a * F + f) (record { clock = c; payload = p }))) h inv a f ua lf (clock_at m F cs a f) (h.behind a f) p c
      (backed a f ua lf).known (backed a f ua lf).knows (λ n hn. (a, ua, hn)) (λ l s k. k) ev (set_here (length bs) F cs sizes a f _ la lf) (set_there (length bs) F cs sizes a f _ la lf)

module _ {Pen C P : Type 0} (m : Meaning Pen C) (sound : Sound m) (card : Card) (a f : ℕ) (p : P) where
  record Passed (bs : List (Berth Pen)) (cs : List (Record C P)) : Type 0 where
    sizes : wrong_sizes card bs cs ≡ None
    one : a < length bs
    file : f < card.files
    works : working bs a ≡ true
    events : m.event_due (pen_at m bs a) (clock_at m card.files cs a f) ≡ None

  passed : (bs : List (Berth Pen)) (cs : List (Record C P)) → first (edit_checks m card bs cs a f) ≡ None → Passed bs cs
  passed bs cs = each_undue (edit_checks m card bs cs a f) (λ sizes one file works events. record {
    sizes = sizes;
    one = within card bs cs a sizes one;
    file = file_below card f file;
    works = in_use bs a works;
    events = unplaced _ _ _ events;
  })

  module _ (alike : P → P → Bool) (files : ℕ) (opening : ℕ → Option P) (bs : List (Berth Pen)) (cs : List (Record C P)) (h : History P) (bytes : List ℕ) (g : Good m files opening bs cs h) where
    in_yard : InYard m (edit_page m card a f p) alike files opening bs cs h bytes
    in_yard = record {
      kept = λ q. let s = passed bs cs q in let k = at_card m sound files opening bs cs h g card s.sizes in
          back m sound files opening bs cs h g card s.sizes _ _ _ (edit_kept m card.files opening bs cs h k.sizes k.inv a f p _
          s.one s.file s.works
          (sound.event _ _ (pen_made m sound files opening bs cs h g a) (well m sound card.files bs cs g.made a f) s.events));
      gives = tt;
      rests_on = tt;
      clear = each_refusal NoOverlap (edit_checks m card bs cs a f)
          (plain _ _ (omega arith), λ sizes. (plain _ _ (omega arith), λ one. (plain _ _ (omega arith), λ file. (plain _ _ (omega arith), λ works. (λ e q k. omega (arith, event_number m sound _ _ _ _ e (pen_made m sound files opening bs cs h g a) (well m sound card.files bs cs g.made a f) q, ap number_of k), λ events. tt)))));
      still = λ z q. numbered_still files h a f p (h.behind a f) (λ n hn. hn);
    }

  pub edit_shows : Shows m (edit_page {P = P} m card a f p)
  edit_shows = record {
    value = λ alike bs cs bytes. (tt, refl);
    berths_stay = λ alike bs cs bytes. refl;
    copies_stay = λ alike bs cs bytes. length-set cs (a * card.files + f) _;
    made = λ alike bs cs bytes made q. record {
      pens = made.pens;
      clocks = every_set (ClockMade m) cs (a * card.files + f) _ made.clocks (sound.event _ _ (pen_made-at m sound bs made.pens a) (clock_made-at m sound cs made.clocks (a * card.files + f)) (passed bs cs q).events).made;
    };
    in_yard = in_yard;
  }
