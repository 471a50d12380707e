-- Verdicts that a season gives compare the edits behind the copies.
use Rattle.std.proofs.Common.{rules, ◌≡◌, ℕ, Bool, List, Ok, Err, Result, IfOk, OnOk, refl, sym, subst}
use Rattle.std.proofs.Math.Logic.{∥∥₁_map}
use Rattle.clock.specs.declared.faults.Fault.{Fault}
use Rattle.clock.specs.declared.verdicts.Verdict.{Verdict}
use Rattle.clock.specs.Meaning.{Meaning}
use Rattle.yard_rules.specs.declared.tables.Berth.{Berth}
use Rattle.yard_rules.specs.declared.tables.Record.{Record}
use Rattle.yard_rules.specs.Tables.{Card}
use Rattle.yard_rules.specs.declared.answers.Answer.{Answer}
use Rattle.yard_rules.specs.declared.answers.Answer.TheVariants.{Judged, Reported, Pulled}
use Rattle.yard_rules.specs.declared.calls.Call.TheVariants.{Reads, Writes}
use Rattle.yard_rules.specs.declared.calls.Reading.{Reading}
use Rattle.yard_rules.specs.declared.calls.Reading.TheVariants.{Judge, Report, Show}
use Rattle.yard_rules.specs.declared.calls.Writing.{Writing}
use Rattle.yard_rules.specs.declared.calls.Writing.TheVariants.{Fork, Edit, Pull, Settle, Retire, Drop}
use Rattle.yard_rules.specs.Checks.{Outcome}
use Rattle.yard_rules.specs.Judge.{judge_call}
use Rattle.yard_rules.specs.Report.{report_call}
use Rattle.yard_rules.specs.Pull.{pull_call}
use Rattle.yard_rules.specs.Page.{Asked, asked}
use Rattle.yard_rules.specs.Calls.{in_form, leaves, said}
use Rattle.yard_rules.specs.Law.{LawfulCall}
use Rattle.season.specs.Held.{held}
use Rattle.season.specs.Replays.{Replayed, Behind, EachBehind, LawfulIn, Tells}

-- a fact of two tables, said of what they are equal to
pub moved : {A B : Type 0} (fact : A → B → Type 0) {x y : A} {u v : B} → x ≡ y → u ≡ v → fact x u → fact y v
moved fact {x} {y} {u} {v} e d h = subst (λ w. fact y w) d (subst (λ z. fact z u) e h)

module _ {Pen C P : Type 0} (m : Meaning Pen C) (alike : P → P → Bool) (bs : List (Berth Pen)) (cs : List (Record C P)) (card : Card) (a b : ℕ) (led : ∥ Replayed m alike bs cs ∥₁) where
  pub judged_behind : (f : ℕ) (r : Result Verdict Fault) (l : Outcome Pen C P Verdict) → l.answer ≡ r → LawfulCall m alike (judge_call card a b f) bs cs l → IfOk r (λ v. ∥ Behind m alike (held card bs cs) a b f v ∥₁)
  judged_behind f (Ok v) l is law = ∥∥₁_map led (λ q. record { replayed = q; compares = (law q.payloads q.history q.reached).lawful.gives v is })
  judged_behind f (Err e) l is law = tt

  pub reported_behind : (bytes : List ℕ) (r : Result (ℕ × ℕ × ℕ × ℕ × ℕ) Fault) (l : Outcome Pen C P (ℕ × ℕ × ℕ × ℕ × ℕ)) → l.answer ≡ r → LawfulCall m alike (report_call card a b bytes) bs cs l → OnOk r ∥ EachBehind m alike (held card bs cs) a b l.bytes ∥₁
  reported_behind bytes (Ok v) l is law = ∥∥₁_map led (λ q. record { replayed = q; compares = (law q.payloads q.history q.reached).lawful.gives v is })
  reported_behind bytes (Err e) l is law = tt

  pub pulled_behind : (bytes : List ℕ) (r : Result (ℕ × ℕ) Fault) (l : Outcome Pen C P (ℕ × ℕ)) → l.answer ≡ r → LawfulCall m alike (pull_call card a b bytes) bs cs l → OnOk r ∥ EachBehind m alike (held card bs cs) b a l.bytes ∥₁
  pulled_behind bytes (Ok v) l is law = ∥∥₁_map led (λ q. record { replayed = q; compares = (law q.payloads q.history q.reached).lawful.gives v is })
  pulled_behind bytes (Err e) l is law = tt

-- any call is lawful, of the edits behind the copies
pub lawful_in : {Pen C P : Type 0} (m : Meaning Pen C) (alike : P → P → Bool) (bs : List (Berth Pen)) (cs : List (Record C P)) (card : Card) (q : Asked P) → ∥ Replayed m alike bs cs ∥₁ → LawfulCall m alike q bs cs (leaves m alike q bs cs) → ∥ LawfulIn m alike (held card bs cs) q ∥₁
lawful_in m alike bs cs card q led law = ∥∥₁_map led (λ r. record { replayed = r; lawful = (law r.payloads r.history r.reached).lawful })

-- an answer in the one type of answers is that of the call
judged_is : {Pen C : Type 0} (r : Result Verdict Fault) (v : Verdict) → in_form {B = Answer Pen C} Judged r ≡ Ok (Judged v) → r ≡ Ok v
judged_is (Ok w) v e = search (rules, e)
judged_is (Err x) v e = absurd (search (rules, e))

ok_in_form : {A B : Type 0} (fact : Type 0) (told : A → B) (r : Result A Fault) → OnOk r fact → OnOk (in_form told r) fact
ok_in_form fact told (Ok v) h = h
ok_in_form fact told (Err e) h = tt

-- what any call tells of the edits
module _ {Pen C P : Type 0} (m : Meaning Pen C) (alike : P → P → Bool) (bs : List (Berth Pen)) (cs : List (Record C P)) (card : Card) (bytes : List ℕ) (led : ∥ Replayed m alike bs cs ∥₁) where
  read_tells : (call : Reading) → let q = asked card (Reads call) bytes in LawfulCall m alike q bs cs (leaves m alike q bs cs) → let k = said m alike q bs cs in Tells m alike (held card bs cs) (Reads call) k.answer k.bytes
  read_tells (Judge a b f) law = λ v is. ∥∥₁_map led (λ q. record { replayed = q; compares = (law q.payloads q.history q.reached).lawful.gives v (judged_is _ v is) })
  read_tells (Report a b) law =
      let l = leaves m alike (report_call card a b bytes) bs cs in
      ok_in_form {B = Answer Pen C} ∥ EachBehind m alike (held card bs cs) a b l.bytes ∥₁ (λ v. Reported v.0 v.1 v.2 v.3 v.4) l.answer (reported_behind m alike bs cs card a b led bytes l.answer l refl law)
  read_tells (Show a f) law = tt

  written_tells : (call : Writing P) → let q = asked card (Writes call) bytes in LawfulCall m alike q bs cs (leaves m alike q bs cs) → let k = said m alike q bs cs in Tells m alike (held card bs cs) (Writes call) k.answer k.bytes
  written_tells (Fork a b) law = tt
  written_tells (Edit a f p) law = tt
  written_tells (Pull a b) law =
      let l = leaves m alike (pull_call card a b bytes) bs cs in
      ok_in_form {B = Answer Pen C} ∥ EachBehind m alike (held card bs cs) b a l.bytes ∥₁ (λ v. Pulled v.0 v.1) l.answer (pulled_behind m alike bs cs card a b led bytes l.answer l refl law)
  written_tells (Settle a b f p) law = tt
  written_tells (Retire a b) law = tt
  written_tells (Drop a) law = tt

  module _ (k : Outcome Pen C P (Answer Pen C)) where
    pub told_reading : (call : Reading) → let q = asked card (Reads call) bytes in k ≡ said m alike q bs cs → LawfulCall m alike q bs cs (leaves m alike q bs cs) → Tells m alike (held card bs cs) (Reads call) k.answer k.bytes
    told_reading call e law = subst (λ (l : Outcome Pen C P (Answer Pen C)). Tells m alike (held card bs cs) (Reads call) l.answer l.bytes) (sym e) (read_tells call law)

    pub told_writing : (call : Writing P) → let q = asked card (Writes call) bytes in k ≡ said m alike q bs cs → LawfulCall m alike q bs cs (leaves m alike q bs cs) → Tells m alike (held card bs cs) (Writes call) k.answer k.bytes
    told_writing call e law = subst (λ (l : Outcome Pen C P (Answer Pen C)). Tells m alike (held card bs cs) (Writes call) l.answer l.bytes) (sym e) (written_tells call law)
