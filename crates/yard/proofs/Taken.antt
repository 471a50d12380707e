-- One file is taken, or left: the loops of pull and retire.
use Rattle.std.proofs.Common.{◌≡◌, ℕ, ◌+◌, ◌-◌, ◌*◌, ◌<◌, Bool, true, false, cond, List, length, Some, None, Option, sym, refl, ap, ◌∙◌, subst, ⊎_elim, add-zero, arith}
use Rattle.std.specs.List.{slice_get}
use Rattle.std.proofs.lemmas.Bool.{cases_Bool, cond-true, cond-false}
use Rattle.clock.specs.declared.verdicts.Verdict.{Verdict}
use Rattle.clock.specs.Meaning.{Meaning, Yes}
use Rattle.yard_rules.specs.declared.tables.Record.{Record}
use Rattle.yard_rules.specs.Tables.{or_else, clock_in, against, judged, is_stale, newer_from, row}
use Rattle.yard_rules.proofs.Lookups.{entry}
use Rattle.yard_rules.proofs.WellMade.{every_set}
use Rattle.yard.specs.Entries.{Clocks}
use Rattle.yard.specs.Taking.{verdict_on, took, put_in}
use Rattle.yard.proofs.Upto.{upto, row_rule, nth_waits, upto_set, upto_skip, rule_here, row_away, row_begun, row_ended}

-- the table after the first n files of berth b
abbrev pub taking : {Pen C P : Type 0} → Meaning Pen C → ℕ → ℕ → ℕ → List (Record C P) → ℕ → List (Record C P)
taking m F a b cs n = upto (b * F + n) (row_rule F b (newer_from F cs m a b)) cs

took_clocks : {Pen C P : Type 0} (m : Meaning Pen C) (cs : List (Record C P)) (i j : ℕ) → Clocks m cs → Clocks m (took m cs i j)
took_clocks {C = C} {P = P} m cs i j all = go (is_stale (verdict_on m cs i j)) (slice_get cs j) refl
  where
    go : (t : Bool) (o : Option (Record C P)) → slice_get cs j ≡ o → Clocks m (cond t (put_in cs i o) cs)
    go true (Some r) e = every_set (λ (r : Record C P). Yes (m.clock_made r.clock)) cs i r all (all j r e)
    go true None e = all
    go false o e = all

pub taken_clocks : {Pen C P : Type 0} (m : Meaning Pen C) (cs new : List (Record C P)) (i j : ℕ) → new ≡ took m cs i j → Clocks m cs → Clocks m new
taken_clocks {C = C} {P = P} m cs new i j e all = subst (λ (l : List (Record C P)). Clocks m l) (sym e) (took_clocks m cs i j all)

module _ {Pen C P : Type 0} (m : Meaning Pen C) (F a b : ℕ) (cs : List (Record C P)) (n : ℕ) (ne : a ≡ b → ⊥) (lt : n < F) (la : a * F + n < length cs) (lb : b * F + n < length cs) where
  at_b : slice_get (taking m F a b cs n) (b * F + n) ≡ slice_get cs (b * F + n)
  at_b = nth_waits (row_rule F b (newer_from F cs m a b)) cs (b * F + n) (b * F + n) (omega arith)

  at_a : slice_get (taking m F a b cs n) (a * F + n) ≡ slice_get cs (a * F + n)
  at_a = row_away F b (newer_from F cs m a b) (omega arith) cs (b * F + n) a n lt ne

  -- the verdict is the one beforehand
  pub verdict_taking : verdict_on m (taking m F a b cs n) (b * F + n) (a * F + n) ≡ judged m F cs b a n
  verdict_taking = λ k. against m (clock_in m (at_b k)) (clock_in m (at_a k))

  pub took_more : took m (taking m F a b cs n) (b * F + n) (a * F + n) ≡ taking m F a b cs (n + 1)
  took_more =
      let x = entry cs (b * F + n) lb in
      let z = entry cs (a * F + n) la in
      let rule = rule_here F b (newer_from F cs m a b) (omega arith) n x.0 lt in
      let next : upto (b * F + n + 1) (row_rule F b (newer_from F cs m a b)) cs ≡ taking m F a b cs (n + 1) = ap (λ k. upto k (row_rule F b (newer_from F cs m a b)) cs) (omega arith) in
      ⊎_elim
      (λ s. cond-true _ _ _ (ap is_stale verdict_taking ∙ s) ∙ ap (put_in (taking m F a b cs n) (b * F + n)) (at_a ∙ z.1)
      ∙ upto_set (row_rule F b (newer_from F cs m a b)) cs (b * F + n) x.0 z.0 x.1 (sym (rule ∙ cond-true _ _ _ s ∙ ap (λ (o : Option (Record C P)). or_else o x.0) z.1)) ∙ next)
      (λ s. cond-false _ _ _ (ap is_stale verdict_taking ∙ s)
      ∙ upto_skip (row_rule F b (newer_from F cs m a b)) cs (b * F + n) x.0 x.1 (rule ∙ cond-false _ _ _ s) ∙ next)
      (cases_Bool (is_stale (judged m F cs b a n)))

-- one turn of a loop over a row's places: the row begins at begin, and n of its F places are behind
--
-- below   a place is left
-- is      it is place i
-- next    the range that is left begins one further
-- ends    and ends where the row ends
pub record Turn (F begin n i start end : ℕ) : Type 0 where
  pub below : n < F
  pub is : i ≡ begin + n
  pub next : start ≡ begin + n + 1
  pub ends : end ≡ begin + F

-- a turn, from what a range says of the place that it gives
pub turn : (F begin n : ℕ) {start end i start' end' : ℕ} → start ≡ begin + n → end ≡ begin + F → (end' ≡ end) × ((0 < end - start) × (i ≡ start) × (start' ≡ start + 1)) → Turn F begin n i start' end'
turn F begin n s e gives = record {
  below = omega (arith, gives.1.0);
  is = gives.1.1 ∙ s;
  next = omega (arith, gives.1.2);
  ends = gives.0 ∙ e;
}

-- the steps of the loop, as the code has them
module _ {Pen C P : Type 0} (m : Meaning Pen C) (F a b : ℕ) (cs : List (Record C P)) (some : 0 < F) where
  pub taking-none : cs ≡ taking m F a b cs 0
  taking-none = sym (ap (λ k. upto k (row_rule F b (newer_from F cs m a b)) cs) (add-zero (b * F)) ∙ row_begun F b (newer_from F cs m a b) some cs)

  pub taking_all : (n : ℕ) → n ≡ F → taking m F a b cs n ≡ row F cs b (newer_from F cs m a b)
  taking_all n e = ap (λ k. upto (b * F + k) (row_rule F b (newer_from F cs m a b)) cs) e ∙ row_ended F b (newer_from F cs m a b) some cs

  pub taking_more : (n i j : ℕ) (now new : List (Record C P)) → (a ≡ b → ⊥) → n < F → a * F + n < length cs → b * F + n < length cs → now ≡ taking m F a b cs n → i ≡ b * F + n → j ≡ a * F + n → new ≡ took m now i j → new ≡ taking m F a b cs (n + 1)
  taking_more n i j now new ne lt la lb e ei ej en = en ∙ (λ k. took m (e k) (ei k) (ej k)) ∙ took_more m F a b cs n ne lt la lb

  pub taking_verdict : (n i j : ℕ) (now : List (Record C P)) (v : Verdict) → (a ≡ b → ⊥) → n < F → a * F + n < length cs → b * F + n < length cs → now ≡ taking m F a b cs n → i ≡ b * F + n → j ≡ a * F + n → v ≡ verdict_on m now i j → v ≡ judged m F cs b a n
  taking_verdict n i j now v ne lt la lb e ei ej ev = ev ∙ (λ k. verdict_on m (e k) (ei k) (ej k)) ∙ verdict_taking m F a b cs n ne lt la lb
