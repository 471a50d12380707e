-- What is shown of a call's page, and what follows of every call.
--
-- InYard      of a yard that calls lead to: the call keeps the invariant, its verdicts compare, and it loses no edit
-- Shows       of every yard: the call changes the size of no table, and leaves well-made tables
use Rattle.std.proofs.Common.{◌≡◌, ℕ, ◌≤◌, Bool, true, false, ◌&&◌, List, length, Some, None, Ok, Err, Option, Result, refl, sym, ap, subst, arith}
use Rattle.std.specs.List.{slice_get}
use Rattle.clock.specs.declared.causes.Cause.TheVariants.{PensOverlap}
use Rattle.clock.specs.declared.faults.Fault.{Fault}
use Rattle.clock.specs.Answers.{due, first}
use Rattle.clock.specs.Causes.{number_of}
use Rattle.clock.specs.Meaning.{Meaning}
use Rattle.clock.proofs.Dues.{due_some}
use Rattle.yard_rules.specs.declared.tables.Berth.{Berth}
use Rattle.yard_rules.specs.declared.tables.Record.{Record}
use Rattle.yard_rules.specs.Tables.{Made}
use Rattle.yard_rules.specs.Checks.{Outcome, outcome, unless}
use Rattle.yard_rules.specs.History.{History, Still}
use Rattle.yard_rules.specs.Page.{Page, result}
use Rattle.yard_rules.specs.Law.{after, was_ok, Lawful}
use Rattle.yard_rules.proofs.Lookups.{at}
use Rattle.yard_rules.proofs.Invariant.{Inv}
use Rattle.yard_rules.proofs.Good.{Good}
use Rattle.yard_rules.proofs.Still.{same_still}

pub err_is : {A : Type 0} (d e : Fault) → ◌≡◌ {A = Result A Fault} (Err d) (Err e) → d ≡ e
err_is d e q = cc

pub ok_is : {A : Type 0} (v w : A) → ◌≡◌ {A = Result A Fault} (Ok v) (Ok w) → v ≡ w
ok_is v w e = cc

pub err_not_ok : {A : Type 0} (e : Fault) (v : A) → ◌≡◌ {A = Result A Fault} (Err e) (Ok v) → ⊥
err_not_ok e v q = cc

pub ok_not_err : {A : Type 0} (e : Fault) (v : A) → ◌≡◌ {A = Result A Fault} (Ok v) (Err e) → ⊥
ok_not_err e v q = cc

-- a refusal that says nothing of pens
abbrev pub NoOverlap : Fault → Type 0
NoOverlap e = e.cause ≡ PensOverlap → ⊥

pub plain : (t : Bool) (d : Fault) → number_of d.cause ≤ 8 → (e : Fault) → due t d ≡ Some e → NoOverlap e
plain t d le e q k = omega (arith, ap (λ (z : Fault). number_of z.cause) (due_some t d e q).1, ap number_of k)

module _ {Pen C P : Type 0} (p : Page Pen C P) (alike : P → P → Bool) (bs : List (Berth Pen)) (cs : List (Record C P)) (bytes : List ℕ) where
  -- whichever way a call goes
  pub ways : (X : Outcome Pen C P p.Value → Type 0) → ((e : Fault) → first (p.checks bs cs bytes) ≡ Some e → X (outcome (Err e) bs cs bytes)) → (first (p.checks bs cs bytes) ≡ None → X (p.done alike bs cs bytes)) → X (result p alike bs cs bytes)
  ways X r d = go (first (p.checks bs cs bytes)) refl
    where
      go : (o : Option Fault) → first (p.checks bs cs bytes) ≡ o → X (unless bs cs bytes o (p.done alike bs cs bytes))
      go (Some e) q = r e q
      go None q = d q

module _ {Pen C P : Type 0} (m : Meaning Pen C) (p : Page Pen C P) where
  pub record InYard (alike : P → P → Bool) (files : ℕ) (opening : ℕ → Option P) (bs : List (Berth Pen)) (cs : List (Record C P)) (h : History P) (bytes : List ℕ) : Type 0 where
    pub kept : first (p.checks bs cs bytes) ≡ None → Inv m files opening (slice_get (p.done alike bs cs bytes).berths) (at files (p.done alike bs cs bytes).copies) (p.edits h)
    pub gives : p.gives h (result p alike bs cs bytes)
    pub rests_on : p.rests_on h (result p alike bs cs bytes)
    pub clear : (e : Fault) → first (p.checks bs cs bytes) ≡ Some e → NoOverlap e
    pub still : p.loses ≡ false → first (p.checks bs cs bytes) ≡ None → Still files h (p.edits h)

  pub record Shows : Type 0 where
    pub value : (alike : P → P → Bool) (bs : List (Berth Pen)) (cs : List (Record C P)) (bytes : List ℕ) → (v : p.Value) × ((p.done alike bs cs bytes).answer ≡ Ok v)
    pub berths_stay : (alike : P → P → Bool) (bs : List (Berth Pen)) (cs : List (Record C P)) (bytes : List ℕ) → length (p.done alike bs cs bytes).berths ≡ length bs
    pub copies_stay : (alike : P → P → Bool) (bs : List (Berth Pen)) (cs : List (Record C P)) (bytes : List ℕ) → length (p.done alike bs cs bytes).copies ≡ length cs
    pub made : (alike : P → P → Bool) (bs : List (Berth Pen)) (cs : List (Record C P)) (bytes : List ℕ) → Made m bs cs → first (p.checks bs cs bytes) ≡ None → Made m (p.done alike bs cs bytes).berths (p.done alike bs cs bytes).copies
    pub in_yard : (alike : P → P → Bool) (files : ℕ) (opening : ℕ → Option P) (bs : List (Berth Pen)) (cs : List (Record C P)) (h : History P) (bytes : List ℕ) → Good m files opening bs cs h → InYard alike files opening bs cs h bytes

module _ {Pen C P : Type 0} (m : Meaning Pen C) (p : Page Pen C P) (shows : Shows m p) (alike : P → P → Bool) (bs : List (Berth Pen)) (cs : List (Record C P)) (bytes : List ℕ) where
  -- an accepted call answers no refusal
  done_ok : (A : Result p.Value Fault → Type 0) → ((v : p.Value) → A (Ok v)) → A (p.done alike bs cs bytes).answer
  done_ok A f = let v = shows.value alike bs cs bytes in subst A (sym v.1) (f v.0)

  pub leaves_made : Made m bs cs → Made m (result p alike bs cs bytes).berths (result p alike bs cs bytes).copies
  leaves_made made = ways p alike bs cs bytes (λ l. Made m l.berths l.copies) (λ e q. made) (λ q. shows.made alike bs cs bytes made q)

  module _ (files : ℕ) (opening : ℕ → Option P) (h : History P) (g : Good m files opening bs cs h) where
    abbrev S : InYard m p alike files opening bs cs h bytes
    S = shows.in_yard alike files opening bs cs h bytes g

    pub leaves_good : Good m files opening (result p alike bs cs bytes).berths (result p alike bs cs bytes).copies (after p (result p alike bs cs bytes).answer h)
    leaves_good = ways p alike bs cs bytes (λ l. Good m files opening l.berths l.copies (after p l.answer h))
        (λ e q. g)
        (λ q. done_ok (λ r. Good m files opening (p.done alike bs cs bytes).berths (p.done alike bs cs bytes).copies (after p r h)) (λ v. record {
          some_berths = rw (shows.berths_stay alike bs cs bytes) g.some_berths;
          sizes = rw (shows.berths_stay alike bs cs bytes, shows.copies_stay alike bs cs bytes) g.sizes;
          made = shows.made alike bs cs bytes g.made q;
          inv = S.kept q;
        }))

    clear : (e : Fault) → (result p alike bs cs bytes).answer ≡ Err e → NoOverlap e
    clear = ways p alike bs cs bytes (λ l. (e : Fault) → l.answer ≡ Err e → NoOverlap e)
        (λ d q e de. subst NoOverlap (err_is d e de) (S.clear d q))
        (λ q. done_ok (λ r. (e : Fault) → r ≡ Err e → NoOverlap e) (λ v e de. absurd (ok_not_err e v de)))

    still : (p.loses && was_ok (result p alike bs cs bytes).answer) ≡ false → Still files h (after p (result p alike bs cs bytes).answer h)
    still = ways p alike bs cs bytes (λ l. (p.loses && was_ok l.answer) ≡ false → Still files h (after p l.answer h))
        (λ e q z. same_still files h)
        (λ q. done_ok (λ r. (p.loses && was_ok r) ≡ false → Still files h (after p r h)) (λ v z. S.still (loses_not p.loses z) q))
      where
        loses_not : (t : Bool) → (t && true) ≡ false → t ≡ false
        loses_not true z = z
        loses_not false z = refl

    pub lawful : (payloads : List P) → files ≡ length payloads → Lawful payloads h p (result p alike bs cs bytes)
    lawful payloads e = record {
      gives = S.gives;
      rests_on = S.rests_on;
      clear = clear;
      still = λ z. subst (λ n. Still n h (after p (result p alike bs cs bytes).answer h)) e (still z);
    }
