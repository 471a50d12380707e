-- From what a call's own function answers and leaves to the same in the one type of answers.
use Rattle.std.proofs.Common.{◌≡◌, ℕ, List, [], Some, None, Option, Result, refl, ap, ◌∙◌}
use Rattle.clock.specs.declared.faults.Fault.{Fault}
use Rattle.yard_rules.specs.declared.tables.Berth.{Berth}
use Rattle.yard_rules.specs.declared.tables.Record.{Record}
use Rattle.yard_rules.specs.Checks.{Outcome, outcome, unless}
use Rattle.yard_rules.specs.Calls.{in_form, in_words}

module _ {Pen C P A B : Type 0} (told : A → B) (bs bs' : List (Berth Pen)) (cs cs' : List (Record C P)) (bytes : List ℕ) (r : Result A Fault) (o : Option Fault) where
  lent : List ℕ → Outcome Pen C P A → Outcome Pen C P A
  lent bytes l = outcome l.answer l.berths l.copies bytes

  -- a call that asks no buffer leaves that which it is lent
  pub told_lent : (ds : List (Berth Pen)) (es : List (Record C P)) (d : Result A Fault) → outcome r bs' cs' [] ≡ unless bs cs [] o (outcome d ds es []) → outcome (in_form told r) bs' cs' bytes ≡ in_words told (unless bs cs bytes o (outcome d ds es bytes))
  unfolding lent
  told_lent ds es d e = ap (λ (l : Outcome Pen C P A). in_words told (lent bytes l)) e ∙ go o
    where
      go : (o : Option Fault) → in_words told (lent bytes (unless bs cs [] o (outcome d ds es []))) ≡ in_words told (unless bs cs bytes o (outcome d ds es bytes))
      go (Some x) = refl
      go None = refl
