-- The invariant of the yards that calls lead to, and what it says of verdicts.
--
-- It is of one yard state: it says nothing of an edit that is behind no copy, so a saved state can be put back.
-- added n     the marks that edit n added
-- Backed      what stands behind one copy
-- Inv         of a yard: pens have no mark in common, a mark that a berth's pen may make and any copy of a file knows the berth's own copy knows, each copy is backed, and different edits behind copies of one file added different marks
-- Well        every clock that a copy has is well made
use Rattle.std.proofs.Common.{◌≡◌, ℕ, ◌<◌, Bool, true, false, not, ◌&&◌, eqb, ◌⊎◌, ◌↔◌, List, Some, Option, subst}
use Rattle.clock.specs.Meaning.{Meaning, Yes}
use Rattle.clock.specs.Sound.{Sound, Apart}
use Rattle.clock.specs.Verdicts.{verdict_of}
use Rattle.clock.proofs.Tests.{same_test}
use Rattle.clock.proofs.Deciding.{verdict_tells}
use Rattle.yard_rules.specs.declared.tables.Record.{Record}
use Rattle.yard_rules.specs.declared.tables.Berth.{Berth}
use Rattle.yard_rules.specs.Tables.{works_in, pen_in, clock_in, payload_in, against}
use Rattle.yard_rules.specs.History.{has, inside, Edited, History, Inside, Compares}
use Rattle.yard_rules.proofs.Sets.{inside-to, to_inside}

pub record Backed {Pen C P : Type 0} (m : Meaning Pen C) (added : ℕ → ℕ → ℕ → Bool) (next : ℕ) (log : ℕ → Option (Edited P)) (opening : Option P) (r : Option (Record C P)) (set : List ℕ) : Type 0 where
  pub known : (l s : ℕ) → m.knows (clock_in m r) l s ≡ true → (n : ℕ) × (has set n ≡ true) × (added n l s ≡ true)
  pub knows : (n l s : ℕ) → has set n ≡ true → added n l s ≡ true → m.knows (clock_in m r) l s ≡ true
  pub some : (n : ℕ) → has set n ≡ true → (l : ℕ) × (s : ℕ) × (added n l s ≡ true)
  pub below : (n : ℕ) → has set n ≡ true → n < next
  pub early : (n : ℕ) → has set n ≡ true → (e : Edited P) → log n ≡ Some e → (k : ℕ) → has e.before k ≡ true → k < n
  pub source : (((n : ℕ) → has set n ≡ false) × (payload_in r ≡ opening)) ⊎ ((n : ℕ) × (e : Edited P) × (log n ≡ Some e) × (has set n ≡ true) × ((k : ℕ) → has e.before k ≡ (has set k && not (eqb k n))) × (Some e.payload ≡ payload_in r))

pub record Inv {Pen C P : Type 0} (m : Meaning Pen C) (files : ℕ) (opening : ℕ → Option P) (berth : ℕ → Option (Berth Pen)) (copy : ℕ → ℕ → Option (Record C P)) (h : History P) : Type 0 where
  pub added : ℕ → ℕ → ℕ → Bool
  pub present : (c : ℕ) → h.present c ≡ works_in (berth c)
  pub own : (c d : ℕ) → (c ≡ d → ⊥) → Apart m (pen_in m (berth c)) (pen_in m (berth d))
  pub sees : (c d f l s : ℕ) → works_in (berth d) ≡ true → f < files → m.makes (pen_in m (berth c)) l s ≡ true → m.knows (clock_in m (copy d f)) l s ≡ true → m.knows (clock_in m (copy c f)) l s ≡ true
  pub backed : (c f : ℕ) → works_in (berth c) ≡ true → f < files → Backed m added h.next h.edits (opening f) (copy c f) (h.behind c f)
  pub single : (c d f n k l s : ℕ) → works_in (berth c) ≡ true → works_in (berth d) ≡ true → f < files → has (h.behind c f) n ≡ true → has (h.behind d f) k ≡ true → added n l s ≡ true → added k l s ≡ true → n ≡ k

abbrev pub Well : {Pen C P : Type 0} → Meaning Pen C → (ℕ → ℕ → Option (Record C P)) → Type 0
Well m copy = (c f : ℕ) → Yes (m.clock_made (clock_in m (copy c f)))

module _ {Pen C P : Type 0} (m : Meaning Pen C) (sound : Sound m) (files : ℕ) (opening : ℕ → Option P) (berth : ℕ → Option (Berth Pen)) (copy : ℕ → ℕ → Option (Record C P)) (h : History P) (well : Well m copy) (inv : Inv m files opening berth copy h) where
  -- covers is inclusion of the sets
  pub covers_inside : (a b f : ℕ) → works_in (berth a) ≡ true → works_in (berth b) ≡ true → f < files → m.covers (clock_in m (copy a f)) (clock_in m (copy b f)) ≡ inside (h.behind b f) (h.behind a f)
  covers_inside a b f ua ub lt =
      same_test _ _
      (λ e. to_inside _ _ (λ n hn.
      let w = B.some n hn in
      let k = A.known w.0 w.1 ((sound.covers _ _ (well a f) (well b f)).0 e w.0 w.1 (B.knows n w.0 w.1 hn w.2)) in
      subst (λ i. has (h.behind a f) i ≡ true) (inv.single a b f k.0 n w.0 w.1 ua ub lt k.1 hn k.2 w.2) k.1))
      (λ e. (sound.covers _ _ (well a f) (well b f)).1 (λ l s kn.
      let k = B.known l s kn in A.knows k.0 l s (inside-to _ _ e k.0 k.1) k.2))
    where
      A : Backed m inv.added h.next h.edits (opening f) (copy a f) (h.behind a f)
      A = inv.backed a f ua lt

      B : Backed m inv.added h.next h.edits (opening f) (copy b f) (h.behind b f)
      B = inv.backed b f ub lt

  pub verdict_sets : (a b f : ℕ) → works_in (berth a) ≡ true → works_in (berth b) ≡ true → f < files → against m (clock_in m (copy a f)) (clock_in m (copy b f)) ≡ verdict_of (inside (h.behind b f) (h.behind a f)) (inside (h.behind a f) (h.behind b f))
  verdict_sets a b f ua ub lt = rw (covers_inside a b f ua ub lt, covers_inside b a f ub ua lt)

-- inclusion, as its test decides it
inside_decides : (s t : List ℕ) → Yes (inside s t) ↔ Inside s t
inside_decides s t = (inside-to s t, to_inside s t)

-- the verdict of two sets compares them
pub compares : (s t : List ℕ) → Compares (verdict_of (inside t s) (inside s t)) s t
compares s t = let told = verdict_tells (inside t s) (inside s t) (inside_decides t s) (inside_decides s t) in
    record {
      equal = (λ v. let both = told.equal.0 v in (both.1, both.0), λ both. told.equal.1 (both.1, both.0));
      stale = told.stale;
      ahead = (λ v. let one = told.ahead.0 v in (one.1, one.0), λ one. told.ahead.1 (one.1, one.0));
      conflict = told.conflict;
    }
