-- From what the checks and the clock kind answer in the code to what a call leaves.
use Rattle.std.proofs.Common.{◌≡◌, ℕ, List, [], ◌∷◌, ◌++◌, Some, None, Ok, Err, Option, Result, sym, refl, ap, ◌∙◌}
use Rattle.clock.specs.declared.causes.Cause.{Cause}
use Rattle.clock.specs.declared.faults.Fault.{Fault}
use Rattle.clock.specs.Answers.{first, answered}
use Rattle.yard_rules.specs.declared.tables.Berth.{Berth}
use Rattle.yard_rules.specs.declared.tables.Record.{Record}
use Rattle.yard_rules.specs.Checks.{fault, Outcome, outcome, unless, placed}
use Rattle.yard.specs.Passing.{passing, all_pass, at_place}

pub refused_first : (l : List (Option Fault)) (e : Fault) → Err e ≡ all_pass l → first l ≡ Some e
refused_first [] e q = cc
refused_first (Some d ∷ l) e q = let z : e ≡ d = cc in ap Some (sym z)
refused_first (None ∷ l) e q = refused_first l e q

pub passed_first : (l : List (Option Fault)) → Ok tt ≡ all_pass l → first l ≡ None
passed_first [] q = refl
passed_first (Some d ∷ l) q = cc
passed_first (None ∷ l) q = passed_first l q

pub append_none : (l k : List (Option Fault)) → first l ≡ None → first (l ++ k) ≡ first k
append_none [] k q = refl
append_none (Some d ∷ l) k q = cc
append_none (None ∷ l) k q = append_none l k q

pub append_first : (l k : List (Option Fault)) (e : Fault) → first l ≡ Some e → first (l ++ k) ≡ Some e
append_first [] k e q = cc
append_first (Some d ∷ l) k e q = q
append_first (None ∷ l) k e q = append_first l k e q

-- the kind's answer where a cause is due, and where none is
pub due_when : {X : Type 0} (b f : Option ℕ) (o : Option Cause) (v : X) (e : Fault) → Err e ≡ at_place b f (answered o v) → placed b f o ≡ Some e
due_when b f (Some c) v e q = let z : e ≡ fault c b f = cc in ap Some (sym z)
due_when b f None v e q = cc

pub none-due_when : {X : Type 0} (b f : Option ℕ) (o : Option Cause) (v x : X) → Ok x ≡ at_place b f (answered o v) → (placed b f o ≡ None) × (x ≡ v)
none-due_when b f (Some c) v x q = absurd (cc)
none-due_when b f None v x q = (refl, cc)

pub first_one : (o : Option Fault) → first (o ∷ []) ≡ o
first_one (Some e) = refl
first_one None = refl

-- a list whose checks all passed, and then one more
pub then_one : (l : List (Option Fault)) (o : Option Fault) → Ok tt ≡ all_pass l → first (l ++ (o ∷ [])) ≡ o
then_one l o q = append_none l (o ∷ []) (passed_first l q) ∙ first_one o

module _ {Pen C P A : Type 0} (bs : List (Berth Pen)) (cs : List (Record C P)) (bytes : List ℕ) (done : Outcome Pen C P A) where
  -- a refusal that is due, and none
  pub refused : (o : Option Fault) (e : Fault) (q : Result A Fault) → o ≡ Some e → q ≡ Err e → outcome q bs cs bytes ≡ unless bs cs bytes o done
  refused o e q d z = ap (λ (y : Result A Fault). outcome y bs cs bytes) z ∙ ap (λ (y : Option Fault). unless bs cs bytes y done) (sym d)

  pub accepted : (o : Option Fault) → o ≡ None → done ≡ unless bs cs bytes o done
  accepted o d = ap (λ (y : Option Fault). unless bs cs bytes y done) (sym d)

pub passing_ok : (o : Option Fault) → Ok tt ≡ passing o → o ≡ None
passing_ok (Some d) q = cc
passing_ok None q = refl

pub passing_err : (o : Option Fault) (e : Fault) → Err e ≡ passing o → o ≡ Some e
passing_err (Some d) e q = let z : e ≡ d = cc in ap Some (sym z)
passing_err None e q = cc

pub head_some : (o : Option Fault) (l : List (Option Fault)) (e : Fault) → o ≡ Some e → first (o ∷ l) ≡ Some e
head_some o l e q = ap (λ (z : Option Fault). first (z ∷ l)) q

pub head-none : (o : Option Fault) (l : List (Option Fault)) → o ≡ None → first (o ∷ l) ≡ first l
head-none o l q = ap (λ (z : Option Fault). first (z ∷ l)) q
