-- What follows where no check of a list is due, and which refusal a list gives.
--
-- Undue l X        X, where no check of the list is due
-- Refusals Q l     Q of each refusal of the list, where no check before it is due
-- Sized            the sizes of tables that pass
use Rattle.std.proofs.Common.{◌≡◌, ℕ, zero, suc, ◌*◌, ◌<◌, ◌≤◌, Bool, true, false, cond, not, ◌&&◌, eqb, leb, List, [], ◌∷◌, length, Some, None, Option, sym, refl, ap, ◌∙◌, subst, ⊎_elim, arith}
use Rattle.std.proofs.lemmas.Option.{cond_some}
use Rattle.std.proofs.lemmas.Bool.{and_parts, not-false, leb-true, leb-false, eqb-true, eqb-false, ltb-false, cases_eq}
use Rattle.clock.specs.declared.causes.Cause.{Cause}
use Rattle.clock.specs.declared.causes.Cause.TheVariants.{Sizes, InConflict}
use Rattle.clock.specs.declared.faults.Fault.{Fault}
use Rattle.clock.specs.Answers.{first}
use Rattle.clock.proofs.Dues.{due-none}
use Rattle.yard_rules.specs.declared.tables.Berth.{Berth}
use Rattle.yard_rules.specs.declared.tables.Record.{Record}
use Rattle.yard_rules.specs.Tables.{Card, working}
use Rattle.yard_rules.specs.Checks.{fault, sizes_fit, wrong_sizes, no_berth, no_file, same_berth, not_working, not_empty, short_buffer, lowest, conflict_in, placed}

-- a fact of each check, and what follows where none is due
abbrev pub Undue : List (Option Fault) → Type 0 → Type 0
Undue [] X = X
Undue (o ∷ l) X = o ≡ None → Undue l X

pub each_undue : {X : Type 0} (l : List (Option Fault)) → Undue l X → first l ≡ None → X
each_undue [] f q = f
each_undue (Some e ∷ l) f q = absurd (cc)
each_undue (None ∷ l) f q = each_undue l (f refl) q

-- a fact of each refusal, where no check before it is due
abbrev pub Refusals : (Fault → Type 0) → List (Option Fault) → Type 0
Refusals Q [] = Unit
Refusals Q (o ∷ l) = ((e : Fault) → o ≡ Some e → Q e) × (o ≡ None → Refusals Q l)

pub each_refusal : (Q : Fault → Type 0) (l : List (Option Fault)) → Refusals Q l → (e : Fault) → first l ≡ Some e → Q e
each_refusal Q [] r e q = absurd (cc)
each_refusal Q (Some d ∷ l) r e q = r.0 e q
each_refusal Q (None ∷ l) r e q = each_refusal Q l (r.1 refl) e q

pub unplaced : (b f : Option ℕ) (o : Option Cause) → placed b f o ≡ None → o ≡ None
unplaced b f (Some c) q = cc
unplaced b f None q = refl

-- the sizes of tables that pass
pub record Sized (card : Card) (berths copies : ℕ) : Type 0 where
  pub some_berths : 1 ≤ card.berths
  pub few_berths : card.berths ≤ 16
  pub some_files : 1 ≤ card.files
  pub few_files : card.files ≤ 32
  pub berths_are : berths ≡ card.berths
  pub copies_are : copies ≡ card.berths * card.files

pub sized : {X Y : Type 0} (card : Card) (bs : List X) (cs : List Y) → sizes_fit card bs cs ≡ true → Sized card (length bs) (length cs)
sized card bs cs q =
    let e = eqb (length bs) card.berths && eqb (length cs) (card.berths * card.files) in
    let d = leb card.files 32 && e in
    let c = leb 1 card.files && d in
    let b = leb card.berths 16 && c in
    let s0 = and_parts (leb 1 card.berths) b q in
    let s1 = and_parts (leb card.berths 16) c s0.1 in
    let s2 = and_parts (leb 1 card.files) d s1.1 in
    let s3 = and_parts (leb card.files 32) e s2.1 in
    let s4 = and_parts (eqb (length bs) card.berths) (eqb (length cs) (card.berths * card.files)) s3.1 in
    record {
      some_berths = leb-true 1 card.berths s0.0;
      few_berths = leb-true card.berths 16 s1.0;
      some_files = leb-true 1 card.files s2.0;
      few_files = leb-true card.files 32 s3.0;
      berths_are = eqb-true (length bs) card.berths s4.0;
      copies_are = eqb-true (length cs) (card.berths * card.files) s4.1;
    }

pub fit : {X Y : Type 0} (card : Card) (bs : List X) (cs : List Y) → wrong_sizes card bs cs ≡ None → Sized card (length bs) (length cs)
fit card bs cs q = sized card bs cs (not-false (sizes_fit card bs cs) (due-none (not (sizes_fit card bs cs)) (fault Sizes None None) q))

-- each check that is not due
pub berth_below : (card : Card) (a : ℕ) → no_berth card a ≡ None → a < card.berths
berth_below card a q = leb-false card.berths a (due-none _ _ q)

pub within : {Pen C P : Type 0} (card : Card) (bs : List (Berth Pen)) (cs : List (Record C P)) (a : ℕ) → wrong_sizes card bs cs ≡ None → no_berth card a ≡ None → a < length bs
within card bs cs a q n = omega (arith, (fit card bs cs q).berths_are, berth_below card a n)

pub file_below : (card : Card) (f : ℕ) → no_file card f ≡ None → f < card.files
file_below card f q = leb-false card.files f (due-none _ _ q)

pub differ : (a b : ℕ) → same_berth a b ≡ None → a ≡ b → ⊥
differ a b q = eqb-false a b (due-none _ _ q)

pub in_use : {Pen : Type 0} (bs : List (Berth Pen)) (a : ℕ) → not_working bs a ≡ None → working bs a ≡ true
in_use bs a q = not-false _ (due-none _ _ q)

pub out_of_use : {Pen : Type 0} (bs : List (Berth Pen)) (b : ℕ) → not_empty bs b ≡ None → working bs b ≡ false
out_of_use bs b q = due-none _ _ q

pub roomy : (card : Card) (bytes : List ℕ) → short_buffer card bytes ≡ None → card.files ≤ length bytes
roomy card bytes q = ltb-false (length bytes) card.files (due-none _ _ q)

-- the lowest number with a yes
pub lowest-none : (n : ℕ) (t : ℕ → Bool) → lowest n t ≡ None → (k : ℕ) → k < n → t k ≡ false
lowest-none zero t e k lt = absurd (omega arith)
lowest-none (suc n) t e k lt = go (lowest n t) e (λ p l. lowest-none n t p k l)
  where
    go : (o : Option ℕ) → (elim o as (λ x. Option ℕ) [ Some k ↦ Some k | None ↦ cond (t n) (Some n) None ]) ≡ None → (o ≡ None → k < n → t k ≡ false) → t k ≡ false
    go (Some j) q f = absurd (cc)
    go None q f = ⊎_elim (λ r. subst (λ i. t i ≡ false) (sym r) (due-none (t n) n q)) (λ r. f refl (omega arith)) (cases_eq k n)

pub lowest_some : (n : ℕ) (t : ℕ → Bool) (k : ℕ) → lowest n t ≡ Some k → (k < n) × (t k ≡ true) × ((j : ℕ) → j < k → t j ≡ false)
lowest_some zero t k e = absurd (cc)
lowest_some (suc n) t k e = go (lowest n t) refl e (λ j p. lowest_some n t j p)
  where
    go : (o : Option ℕ) → lowest n t ≡ o → (elim o as (λ x. Option ℕ) [ Some k ↦ Some k | None ↦ cond (t n) (Some n) None ]) ≡ Some k → ((j : ℕ) → lowest n t ≡ Some j → (j < n) × (t j ≡ true) × ((i : ℕ) → i < j → t i ≡ false)) → (k < suc n) × (t k ≡ true) × ((j : ℕ) → j < k → t j ≡ false)
    go (Some j) p q f = let r = f k (p ∙ q) in (omega arith, r.1, r.2)
    go None p q f = let r = cond_some (t n) n k q in (omega arith, subst (λ i. t i ≡ true) r.1 r.0, λ j lt. lowest-none n t p j (omega arith))

pub calm : (b : ℕ) (o : Option ℕ) → conflict_in b o ≡ None → o ≡ None
calm b (Some f) q = cc
calm b None q = refl

pub conflict_at : (b : ℕ) (o : Option ℕ) (e : Fault) → conflict_in b o ≡ Some e → (f : ℕ) × (o ≡ Some f) × (e ≡ fault InConflict (Some b) (Some f))
conflict_at b (Some f) e q = (f, refl, cc)
conflict_at b None e q = absurd (cc)

-- which cause a refusal has
pub placed_is : (b f : Option ℕ) (o : Option Cause) (e : Fault) → placed b f o ≡ Some e → o ≡ Some e.cause
placed_is b f (Some c) e q = ap (λ (z : Option Fault). elim z as (λ x. Option Cause) [ Some d ↦ Some d.cause | None ↦ None ]) q
placed_is b f None e q = cc
