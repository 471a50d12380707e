-- Tables stay well made when entries are written, and rows copied.
use Rattle.std.proofs.Common.{◌≡◌, ℕ, ◌+◌, ◌*◌, ◌/◌, ◌%◌, Bool, true, false, cond, eqb, List, length, set, Some, None, Option, sym, refl, ◌∙◌, subst, ⊎_elim, arith, length-set}
use Rattle.std.specs.List.{slice_get}
use Rattle.std.proofs.lemmas.Option.{same_Some, none-some, slice_get_past}
use Rattle.std.proofs.lemmas.Bool.{cases_eq, cases_lt}
use Rattle.clock.specs.Meaning.{Meaning, Yes}
use Rattle.clock.specs.Sound.{Sound}
use Rattle.yard_rules.specs.declared.tables.Berth.{Berth}
use Rattle.yard_rules.specs.declared.tables.Record.{Record}
use Rattle.yard_rules.specs.Tables.{Made, each, or_else, pen_in, pen_at, clock_in, empty_berth, working_berth, row, copy_from, newer_from, is_stale, judged}
use Rattle.yard_rules.specs.Open.{opened_berths, opened_copies}
use Rattle.yard_rules.proofs.Lookups.{nth_set_same, nth_set_other, nth_each, over}

-- a fact of every entry of a table stays when one entry is written, and when each is by a rule
module _ {A : Type 0} (Good : A → Type 0) where
  abbrev pub Every : List A → Type 0
  Every xs = (i : ℕ) (x : A) → slice_get xs i ≡ Some x → Good x

  pub every_set : (xs : List A) (i : ℕ) (x : A) → Every xs → Good x → Every (set xs i x)
  every_set xs i x all new k y e = ⊎_elim
      (λ q. ⊎_elim
      (λ lt. subst Good (same_Some x y (sym (nth_set_same xs i x lt) ∙ subst (λ j. slice_get (set xs i x) j ≡ Some y) q e)) new)
      (λ ge. absurd (none-some y (sym (slice_get_past (set xs i x) k (omega (arith, length-set xs i x))) ∙ e)))
      (cases_lt i (length xs)))
      (λ ne. all k y (sym (nth_set_other xs i k x ne) ∙ e))
      (cases_eq k i)

  pub every_each : (new : ℕ → A → A) (xs : List A) → Every xs → ((i : ℕ) (x : A) → Good x → Good (new i x)) → Every (each new xs)
  every_each new xs all keeps i y e = go (slice_get xs i) refl (sym (nth_each new xs i) ∙ e)
    where
      go : (o : Option A) → slice_get xs i ≡ o → over (new i) o ≡ Some y → Good y
      go (Some x) p q = subst Good (same_Some (new i x) y q) (keeps i x (all i x p))
      go None p q = absurd (none-some y q)

  pub every_cond : (t : Bool) (x y : A) → Good x → Good y → Good (cond t x y)
  every_cond true x y g k = g
  every_cond false x y g k = k

abbrev pub PenMade : {Pen C : Type 0} → Meaning Pen C → Berth Pen → Type 0
PenMade m x = Yes (m.pen_made x.pen)

abbrev pub ClockMade : {Pen C P : Type 0} → Meaning Pen C → Record C P → Type 0
ClockMade m r = Yes (m.clock_made r.clock)

pub pen_made-at : {Pen C : Type 0} (m : Meaning Pen C) (sound : Sound m) (bs : List (Berth Pen)) → ((a : ℕ) (x : Berth Pen) → slice_get bs a ≡ Some x → PenMade m x) → (a : ℕ) → Yes (m.pen_made (pen_at m bs a))
pen_made-at {Pen} m sound bs all a = go (slice_get bs a) refl
  where
    go : (o : Option (Berth Pen)) → slice_get bs a ≡ o → Yes (m.pen_made (pen_in m o))
    go (Some x) p = all a x p
    go None p = sound.no_pen_made

module _ {Pen C P : Type 0} (m : Meaning Pen C) (sound : Sound m) where
  pub clock_made-at : (cs : List (Record C P)) → ((i : ℕ) (r : Record C P) → slice_get cs i ≡ Some r → ClockMade m r) → (i : ℕ) → Yes (m.clock_made (clock_in m (slice_get cs i)))
  clock_made-at cs all i = go (slice_get cs i) refl
    where
      go : (o : Option (Record C P)) → slice_get cs i ≡ o → Yes (m.clock_made (clock_in m o))
      go (Some x) p = all i x p
      go None p = sound.blank_made

  -- a row by a rule that gives well-made records
  pub row_made : (F : ℕ) (cs : List (Record C P)) (b : ℕ) (new : ℕ → Record C P → Record C P) → ((i : ℕ) (r : Record C P) → slice_get cs i ≡ Some r → ClockMade m r) → ((f : ℕ) (r : Record C P) → ClockMade m r → ClockMade m (new f r)) → (i : ℕ) (r : Record C P) → slice_get (row F cs b new) i ≡ Some r → ClockMade m r
  row_made F cs b new all keeps = every_each (ClockMade m) _ cs all (λ i r g. every_cond (ClockMade m) (eqb (i / F) b) (new (i % F) r) r (keeps (i % F) r g) g)

  pub copy_made : (F : ℕ) (cs : List (Record C P)) (a : ℕ) → ((i : ℕ) (r : Record C P) → slice_get cs i ≡ Some r → ClockMade m r) → (f : ℕ) (r : Record C P) → ClockMade m r → ClockMade m (copy_from F cs a f r)
  copy_made F cs a all f r g = go (slice_get cs (a * F + f)) refl
    where
      go : (o : Option (Record C P)) → slice_get cs (a * F + f) ≡ o → ClockMade m (or_else o r)
      go (Some x) p = all (a * F + f) x p
      go None p = g

  pub newer_made : (F : ℕ) (cs : List (Record C P)) (a b : ℕ) → ((i : ℕ) (r : Record C P) → slice_get cs i ≡ Some r → ClockMade m r) → (f : ℕ) (r : Record C P) → ClockMade m r → ClockMade m (newer_from F cs m a b f r)
  newer_made F cs a b all f r g = every_cond (ClockMade m) (is_stale (judged m F cs b a f)) (copy_from F cs a f r) r (copy_made F cs a all f r g) g

  -- what an accepted open leaves, whatever the tables held
  pub opened_made : (payloads : List P) (bs : List (Berth Pen)) (cs : List (Record C P)) → Made m (opened_berths m bs) (opened_copies m payloads cs)
  opened_made payloads bs cs = record {
    pens = λ i y e. berths i y (slice_get bs i) (sym (nth_each _ bs i) ∙ e);
    clocks = λ i y e. copies i y (slice_get cs i) (sym (nth_each _ cs i) ∙ e);
  }
    where
      berths : (i : ℕ) (y : Berth Pen) (o : Option (Berth Pen)) → over (λ x. cond (eqb i 0) (working_berth m.seed) (empty_berth m)) o ≡ Some y → PenMade m y
      berths i y (Some x) q = subst (PenMade m) (same_Some _ y q) (every_cond (PenMade m) (eqb i 0) (working_berth m.seed) (empty_berth m) sound.seed_made sound.no_pen_made)
      berths i y None q = absurd (none-some y q)

      copies : (i : ℕ) (y : Record C P) (o : Option (Record C P)) → over (λ r. record { clock = m.blank; payload = or_else (slice_get payloads (i % length payloads)) r.payload }) o ≡ Some y → ClockMade m y
      copies i y (Some x) q = subst (ClockMade m) (same_Some _ y q) sound.blank_made
      copies i y None q = absurd (none-some y q)
