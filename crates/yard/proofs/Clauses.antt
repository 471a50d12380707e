-- The clauses `made` and `history` of a call, from its `result`.
use Rattle.std.proofs.Common.{◌≡◌, Bool, true, List, sym, ap, ◌∙◌, subst}
use Rattle.clock.specs.Meaning.{Meaning}
use Rattle.clock.specs.Sound.{Sound}
use Rattle.yard_rules.specs.declared.tables.Berth.{Berth}
use Rattle.yard_rules.specs.declared.tables.Record.{Record}
use Rattle.yard_rules.specs.Tables.{Card, Made}
use Rattle.yard_rules.specs.Checks.{Outcome}
use Rattle.yard_rules.specs.Page.{Asked}
use Rattle.yard_rules.specs.declared.answers.Answer.{Answer}
use Rattle.yard_rules.specs.Calls.{Value, leaves, said}
use Rattle.yard_rules.specs.Law.{LawfulCall, LawfulAt}
use Rattle.yard_rules.proofs.Law.{leaves_made, lawful_call}

module _ {Pen C P : Type 0} (m : Meaning Pen C) (sound : Sound m) (alike : P → P → Bool) (c : Asked P) (bs : List (Berth Pen)) (cs : List (Record C P)) (l : Outcome Pen C P (Value m c)) (e : l ≡ leaves m alike c bs cs) where
  pub made_from : Made m bs cs → Made m l.berths l.copies
  made_from made = subst (λ (k : Outcome Pen C P (Value m c)). Made m k.berths k.copies) (sym e) (leaves_made m sound alike c bs cs made)

  pub lawful_from : LawfulCall m alike c bs cs l
  lawful_from = subst (λ (k : Outcome Pen C P (Value m c)). LawfulCall m alike c bs cs k) (sym e) (lawful_call m sound alike c bs cs)

-- the same, from its result in the one type of answers
pub made_said : {Pen C P : Type 0} (m : Meaning Pen C) (sound : Sound m) (alike : P → P → Bool) (c : Asked P) (bs : List (Berth Pen)) (cs : List (Record C P)) (l : Outcome Pen C P (Answer Pen C)) → l ≡ said m alike c bs cs → Made m bs cs → Made m l.berths l.copies
made_said {Pen} {C} {P} m sound alike c bs cs l e made = subst (λ (k : Outcome Pen C P (Answer Pen C)). Made m k.berths k.copies) (sym e) (leaves_made m sound alike c bs cs made)

-- any test of payloads, for a call that asks none
abbrev pub any : {P : Type 0} → P → P → Bool
any p q = true

-- what is left under the sizes as they were read is what is left under the card
pub under_card : {A : Type 0} (of : Card → A) (x : A) (sizes card : Card) → sizes ≡ card → x ≡ of sizes → x ≡ of card
under_card of x sizes card is e = e ∙ ap of is

-- The clauses of a call that asks no test of payloads, from what it leaves under its card's sizes as they were read.
pub record Clauses {Pen C P : Type 0} (m : Meaning Pen C) (c : Asked P) (bs : List (Berth Pen)) (cs : List (Record C P)) (l target : Outcome Pen C P (Value m c)) : Type 0 where
  pub result : l ≡ target
  pub made : Made m bs cs → Made m l.berths l.copies
  pub history : LawfulAt m c bs cs l

pub clauses : {Pen C P : Type 0} (m : Meaning Pen C) (sound : Sound m) (c : Asked P) (bs : List (Berth Pen)) (cs : List (Record C P)) (of : Card → Outcome Pen C P (Value m c)) (l : Outcome Pen C P (Value m c)) (sizes card : Card) → sizes ≡ card → l ≡ of sizes →
    ((alike : P → P → Bool) → of card ≡ leaves m alike c bs cs) → Clauses m c bs cs l (of card)
clauses {P = P} m sound c bs cs of l sizes card is e documented =
    let r = under_card of l sizes card is e in
    record {
      result = r;
      made = made_from m sound any c bs cs l (r ∙ documented any);
      history = λ alike. lawful_from m sound alike c bs cs l (r ∙ documented alike);
    }
