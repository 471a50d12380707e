-- The loops of open, and what its code shows of its result.
use Rattle.std.proofs.Common.{◌≡◌, ℕ, ◌+◌, ◌%◌, ◌<◌, cond, eqb, List, [], length, set, Some, Ok, sym, ap, ◌∙◌, subst}
use Rattle.std.specs.List.{slice_get}
use Rattle.clock.specs.Meaning.{Meaning}
use Rattle.clock.specs.Sound.{Sound}
use Rattle.yard_rules.specs.declared.tables.Berth.{Berth}
use Rattle.yard_rules.specs.declared.tables.Record.{Record}
use Rattle.yard_rules.specs.Tables.{Card, sizes, Made, or_else, working_berth, empty_berth}
use Rattle.yard_rules.specs.Checks.{Outcome, outcome, wrong_sizes}
use Rattle.yard_rules.specs.Open.{card_of, opened_berths, opened_copies, open_result}
use Rattle.yard_rules.specs.Law.{LawfulOpen}
use Rattle.yard_rules.proofs.Law.{lawful_open}
use Rattle.yard_rules.proofs.Lookups.{entry}
use Rattle.yard_rules.proofs.WellMade.{opened_made}
use Rattle.yard.specs.Passing.{passing}
use Rattle.yard.proofs.Outcomes.{passing_ok, accepted}
use Rattle.yard.proofs.Upto.{upto, upto_set}

abbrev pub berth_rule : {Pen C : Type 0} → Meaning Pen C → ℕ → Berth Pen → Berth Pen
berth_rule m b x = cond (eqb b 0) (working_berth m.seed) (empty_berth m)

abbrev pub copy_rule : {Pen C P : Type 0} → Meaning Pen C → List P → ℕ → Record C P → Record C P
copy_rule m payloads i r = record { clock = m.blank; payload = or_else (slice_get payloads (i % length payloads)) r.payload }

-- one entry written, as the code has it
pub upto_write : {A : Type 0} (rule : ℕ → A → A) (xs now : List A) (n : ℕ) (y : A) → n < length xs → now ≡ upto n rule xs → ((x : A) → y ≡ rule n x) → set now n y ≡ upto (n + 1) rule xs
upto_write {A} rule xs now n y lt e ey = let x = entry xs n lt in ap (λ (l : List A). set l n y) e ∙ upto_set rule xs n x.0 y x.1 (ey x.0)

pub payload_is : {Pen C P : Type 0} (m : Meaning Pen C) (payloads : List P) (i f : ℕ) (c : C) (p : P) → f ≡ i % length payloads → slice_get payloads f ≡ Some p → c ≡ m.blank → (r : Record C P) → record { clock = c; payload = p } ≡ copy_rule m payloads i r
payload_is m payloads i f c p ef ep ec r = λ k. record { clock = ec k; payload = or_else (sym (subst (λ n. slice_get payloads n ≡ Some p) ef ep) k) r.payload }

module _ {Pen C P : Type 0} (m : Meaning Pen C) (bs : List (Berth Pen)) (cs : List (Record C P)) (payloads : List P) where
  done : Outcome Pen C P Card
  done = outcome (Ok (card_of bs payloads)) (opened_berths m bs) (opened_copies m payloads cs) []

  pub open_done : (bs' : List (Berth Pen)) (cs' : List (Record C P)) (b f : ℕ) → Ok tt ≡ passing (wrong_sizes (card_of bs payloads) bs cs) → bs' ≡ opened_berths m bs → cs' ≡ opened_copies m payloads cs → b ≡ length bs → f ≡ length payloads → outcome (Ok (sizes b f)) bs' cs' [] ≡ open_result m bs cs payloads
  unfolding done
  open_done bs' cs' b f d eb ec en ef = (λ k. outcome (Ok (sizes (en k) (ef k))) (eb k) (ec k) []) ∙ accepted bs cs [] done _ (passing_ok _ d)

  pub open_made : (sound : Sound m) (bs' : List (Berth Pen)) (cs' : List (Record C P)) → bs' ≡ opened_berths m bs → cs' ≡ opened_copies m payloads cs → Made m bs' cs'
  open_made sound bs' cs' eb ec = subst (λ (l : List (Berth Pen)). Made m l cs') (sym eb) (subst (λ (l : List (Record C P)). Made m (opened_berths m bs) l) (sym ec) (opened_made m sound payloads bs cs))

  pub open_lawful : (sound : Sound m) (l : Outcome Pen C P Card) → l ≡ open_result m bs cs payloads → LawfulOpen m payloads l
  open_lawful sound l e = subst (λ (k : Outcome Pen C P Card). LawfulOpen m payloads k) (sym e) (lawful_open m sound bs cs payloads)
