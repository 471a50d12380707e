-- What the code may rely on once a call's checks have passed.
use Rattle.std.proofs.Common.{◌≡◌, ℕ, ◌<◌, ◌≤◌, List, length, None, Ok, refl}
use Rattle.yard_rules.specs.declared.tables.Berth.{Berth}
use Rattle.yard_rules.specs.declared.tables.Record.{Record}
use Rattle.yard_rules.specs.Tables.{Card}
use Rattle.yard_rules.specs.Checks.{wrong_sizes, no_berth}
use Rattle.yard_rules.specs.Settle.{settle_plain}
use Rattle.yard_rules.specs.Fork.{fork_plain}
use Rattle.yard_rules.specs.Pull.{pull_checks}
use Rattle.yard_rules.proofs.Due.{each_undue, fit, berth_below, file_below, differ, roomy}
use Rattle.yard.specs.Passing.{all_pass}
use Rattle.yard.specs.Ready.{Ready}
use Rattle.yard.proofs.Outcomes.{passed_first}

ready : {X Y : Type 0} (card : Card) (bs : List X) (cs : List Y) (a b : ℕ) → wrong_sizes card bs cs ≡ None → no_berth card a ≡ None → no_berth card b ≡ None → Ready card (length bs) (length cs) a b
ready card bs cs a b q na nb = let s = fit card bs cs q in record {
  few_berths = s.few_berths;
  few_files = s.few_files;
  some_files = s.some_files;
  berths_are = s.berths_are;
  copies_are = s.copies_are;
  one = berth_below card a na;
  two = berth_below card b nb;
}

-- the same, with the card's number of berths for the table's length
pub of_card : {card : Card} {berths copies a b : ℕ} → Ready card berths copies a b → Ready card card.berths copies a b
of_card r = record {
  few_berths = r.few_berths;
  few_files = r.few_files;
  some_files = r.some_files;
  berths_are = refl;
  copies_are = r.copies_are;
  one = r.one;
  two = r.two;
}

module _ {Pen C P : Type 0} (card : Card) (bs : List (Berth Pen)) (cs : List (Record C P)) (a b : ℕ) where
  pub settle_ready : (f : ℕ) → Ok tt ≡ all_pass (settle_plain card bs cs a b f) → Ready card (length bs) (length cs) a b × (f < card.files)
  settle_ready f p = each_undue (settle_plain card bs cs a b f)
      (λ sizes one two file same one_works two_works. (ready card bs cs a b sizes one two, file_below card f file))
      (passed_first (settle_plain card bs cs a b f) p)

  pub fork_ready : Ok tt ≡ all_pass (fork_plain card bs cs a b) → Ready card (length bs) (length cs) a b × (a ≡ b → ⊥)
  fork_ready p = each_undue (fork_plain card bs cs a b)
      (λ sizes one two same works empty. (ready card bs cs a b sizes one two, differ a b same))
      (passed_first (fork_plain card bs cs a b) p)

  pub pull_ready : (bytes : List ℕ) → Ok tt ≡ all_pass (pull_checks card bs cs a b bytes) → Ready card (length bs) (length cs) a b × (a ≡ b → ⊥) × (card.files ≤ length bytes)
  pull_ready bytes p = each_undue (pull_checks card bs cs a b bytes)
      (λ sizes one two same one_works two_works room. (ready card bs cs a b sizes one two, differ a b same, roomy card bytes room))
      (passed_first (pull_checks card bs cs a b bytes) p)
