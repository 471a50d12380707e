-- pull: an accepted one keeps the invariant and loses no edit, and each byte compares the edits behind the two copies.
use Rattle.std.proofs.Common.{◌≡◌, ℕ, ◌*◌, ◌<◌, ◌≤◌, Bool, true, List, length, None, Option, refl, arith}
use Rattle.std.specs.List.{slice_get}
use Rattle.clock.specs.Answers.{first}
use Rattle.clock.specs.Meaning.{Meaning}
use Rattle.clock.specs.Sound.{Sound}
use Rattle.yard_rules.specs.declared.tables.Berth.{Berth}
use Rattle.yard_rules.specs.declared.tables.Record.{Record}
use Rattle.yard_rules.specs.Tables.{Card, working, row, newer_from, count, is_stale, is_conflict, judged}
use Rattle.yard_rules.specs.Checks.{wrong_sizes}
use Rattle.yard_rules.specs.History.{History, put, larger, moved_to}
use Rattle.yard_rules.specs.Pull.{pull_checks, pull_page}
use Rattle.yard_rules.proofs.Lookups.{at, length_each, reported_byte}
use Rattle.yard_rules.proofs.Invariant.{Well, Inv}
use Rattle.yard_rules.proofs.Moved.{moved}
use Rattle.yard_rules.proofs.Taken.{cs', merge_source, merge_up}
use Rattle.yard_rules.proofs.Due.{each_undue, each_refusal, within, in_use, roomy}
use Rattle.yard_rules.proofs.WellMade.{row_made, newer_made}
use Rattle.yard_rules.proofs.Good.{Good, well, at_card, back}
use Rattle.yard_rules.proofs.Holding.{verdict_at}
use Rattle.yard_rules.proofs.Pages.{Shows, InYard, NoOverlap, plain, ways, err_not_ok}
use Rattle.yard_rules.proofs.Still.{pulled_still, byte_compares}

module _ {Pen C P : Type 0} (m : Meaning Pen C) (sound : Sound m) (F : ℕ) (opening : ℕ → Option P) (bs : List (Berth Pen)) (cs : List (Record C P)) (h : History P) (sizes : length cs ≡ length bs * F) (well : Well m (at F cs)) (inv : Inv m F opening (slice_get bs) (at F cs) h)
    (a b : ℕ) (la : a < length bs) (lb : b < length bs) (ua : working bs a ≡ true) (ub : working bs b ≡ true) where
  pull_kept : Inv m F opening (slice_get bs) (at F (row F cs b (newer_from F cs m a b))) (moved_to h h.present (put h.behind b (larger h a b)))
  unfolding cs'
  pull_kept = moved m F opening (slice_get bs) (slice_get bs) (at F cs) (at F (cs' m sound F opening bs cs h sizes well inv a b la lb ua ub)) h h.present (put h.behind b (larger h a b)) inv
      inv.present inv.own (merge_source m sound F opening bs cs h sizes well inv a b la lb ua ub)
      (λ c o f l s uo lf mk kn. (merge_up m sound F opening bs cs h sizes well inv a b la lb ua ub) c f l s lf (inv.sees c o f l s uo lf mk kn))

module _ {Pen C P : Type 0} (m : Meaning Pen C) (sound : Sound m) (card : Card) (a b : ℕ) where
  record Passed (bs : List (Berth Pen)) (cs : List (Record C P)) (bytes : List ℕ) : Type 0 where
    sizes : wrong_sizes card bs cs ≡ None
    one : a < length bs
    two : b < length bs
    one_works : working bs a ≡ true
    two_works : working bs b ≡ true
    room : card.files ≤ length bytes

  passed : (bs : List (Berth Pen)) (cs : List (Record C P)) (bytes : List ℕ) → first (pull_checks card bs cs a b bytes) ≡ None → Passed bs cs bytes
  passed bs cs bytes = each_undue (pull_checks card bs cs a b bytes) (λ sizes one two same one_works two_works room. record {
    sizes = sizes;
    one = within card bs cs a sizes one;
    two = within card bs cs b sizes two;
    one_works = in_use bs a one_works;
    two_works = in_use bs b two_works;
    room = roomy card bytes room;
  })

  module _ (alike : P → P → Bool) (files : ℕ) (opening : ℕ → Option P) (bs : List (Berth Pen)) (cs : List (Record C P)) (h : History P) (bytes : List ℕ) (g : Good m files opening bs cs h) where
    in_yard : InYard m (pull_page m card a b) alike files opening bs cs h bytes
    in_yard = record {
      kept = λ q. let s = passed bs cs bytes q in let k = at_card m sound files opening bs cs h g card s.sizes in
          back m sound files opening bs cs h g card s.sizes _ _ _ (pull_kept m sound card.files opening bs cs h k.sizes (well m sound card.files bs cs k.made) k.inv a b
          s.one s.two s.one_works s.two_works);
      gives = ways (pull_page m card a b) alike bs cs bytes (λ l. (pull_page m card a b).gives h l)
          (λ e q v ok. absurd (err_not_ok e v ok))
          (λ q v ok f lf. let s = passed bs cs bytes q in byte_compares _ (judged m card.files cs b a f) _ _
          (reported_byte card.files _ bytes s.room f lf)
          (verdict_at m sound files opening bs cs h g card b a f s.sizes s.two_works s.one_works lf));
      rests_on = tt;
      clear = each_refusal NoOverlap (pull_checks card bs cs a b bytes)
          (plain _ _ (omega arith), λ sizes. (plain _ _ (omega arith), λ one. (plain _ _ (omega arith), λ two. (plain _ _ (omega arith), λ same. (plain _ _ (omega arith), λ one_works. (plain _ _ (omega arith), λ two_works. (plain _ _ (omega arith), λ room. tt)))))));
      still = λ z q. pulled_still files h a b;
    }

  pub pull_shows : Shows m (pull_page {P = P} m card a b)
  pull_shows = record {
    value = λ alike bs cs bytes. ((count card.files (λ f. is_stale (judged m card.files cs b a f)), count card.files (λ f. is_conflict (judged m card.files cs b a f))), refl);
    berths_stay = λ alike bs cs bytes. refl;
    copies_stay = λ alike bs cs bytes. length_each _ cs;
    made = λ alike bs cs bytes made q. record {
      pens = made.pens;
      clocks = row_made m sound card.files cs b (newer_from card.files cs m a b) made.clocks (newer_made m sound card.files cs a b made.clocks);
    };
    in_yard = in_yard;
  }
