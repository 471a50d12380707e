-- What the public operations on pens and clocks share.
use Rattle.std.proofs.Common.{◌≡◌, ◌≤◌, List, Bool, true, false, ◌↔◌, Ok, None, Result, sym, ap, ap₂, ◌∙◌, arith, le-ltb}
use Rattle.clock.specs.declared.faults.Fault.{Fault}
use Rattle.clock.specs.declared.verdicts.Verdict.{Verdict}
use Rattle.clock.specs.declared.verdicts.Verdict.TheVariants.{Equal}
use Rattle.clock.specs.Compare.{ComparesMarks}
use Rattle.clock.proofs.Comparing.{compares_marks}
use Rattle.clock.specs.Answers.{answered}
use Rattle.clock.specs.Meaning.{Yes}
use Rattle.clock.specs.Sound.{Within}
use Rattle.tree_rules.specs.Ids.{Id, id_size, is_off}
use Rattle.tree_rules.specs.Events.{Event, size, top}
use Rattle.tree_rules.specs.Fill.{fill}
use Rattle.tree_rules.specs.Grow.{grow, event}
use Rattle.tree_rules.specs.Kind.{grown_due, split_due}
use Rattle.tree_rules.specs.Shape.{shape}
use Rattle.tree_rules.specs.Sum.{sum, overlap}
use Rattle.tree_rules.specs.Split.{half, unsplittable}
use Rattle.tree_rules.specs.Walk.{fits_up}
use Rattle.tree_rules.proofs.Covering.{fits_covers}
use Rattle.tree_rules.proofs.Fills.{size-fill, top-fill}
use Rattle.tree_rules.proofs.Grows.{size-grow, top-grow}
use Rattle.tree_rules.proofs.Made.{made_id}
use Rattle.tree_rules.proofs.PenLaws.{fork}
use Rattle.tree_rules.proofs.RulesHold.{event_rules}
use Rattle.tree_rules.proofs.Shapes.{size-shape, top-shape, shape_injective}
use Rattle.tree_clock.specs.declared.clocks.TreeClock.{TreeClock}
use Rattle.tree_clock.specs.declared.pens.TreePen.{TreePen}
use Rattle.tree_clock.specs.declared.nodes.Node.{Node}
use Rattle.tree_clock.specs.Flat.{stored}
use Rattle.tree_clock.specs.Growth.{past_limits}
use Rattle.tree_clock.specs.Operations.{fork_answer, unite_answer, event_answer, covers_answer, verdict_answer}
use Rattle.tree_clock.specs.Reading.{clock_facts, clock_is, pen_is, pen_id}
use Rattle.tree_clock.specs.Stored.{id_of, event_of, pen_of, clock_of, pen_made, clock_made, SameMakes, SameKnows, tree_kind}
use Rattle.tree_clock.specs.StoredSound.{same_marks, tree_kind_sound}
use Rattle.tree_clock.specs.Trees.{same_event, as_id, as_id-shape}
use Rattle.tree_clock.proofs.Viewing.{one_event}

-- an id as the tree that is its shape
pub ruleset shapes = (size-shape, top-shape, as_id-shape)

pub ruleset fills = (size-fill, top-fill)

pub ruleset grows = (size-grow, top-grow)

-- the halves of a pen that can be parted fit
pub half_fits : (p : TreePen) → Yes (pen_made p) → (i j : Id) → i ≡ id_of p → false ≡ unsplittable 12 i → j ≡ id_of p → (u : Bool) → id_size (half u j) ≤ 63
half_fits p h i j q e q' u = rw q' (fits u)
  where
    none-due : split_due (id_of p) ≡ None
    none-due = rw (sym (e ∙ ap (unsplittable 12) q))

    fits : (u : Bool) → id_size (half u (id_of p)) ≤ 63
    fits false = (made_id _ (fork (id_of p) (pen_id p h) none-due).first_made).2
    fits true = (made_id _ (fork (id_of p) (pen_id p h) none-due).second_made).2

-- the halves of a pen that can be parted, as they are stored
pub fork_done : (p : TreePen) (i : Id) → i ≡ id_of p → false ≡ unsplittable 12 i → (s t : List Node) → s ≡ stored (shape (half false (id_of p))) → t ≡ stored (shape (half true (id_of p))) → ◌≡◌ {A = Result (TreePen × TreePen) Fault} (Ok (record { stored = record { nodes = s } }, record { stored = record { nodes = t } })) (fork_answer p)
fork_done p i q e s t a b =
    let n : split_due (id_of p) ≡ None = rw (sym (e ∙ ap (unsplittable 12) q)) in
    rw n (ap₂ {C = Result (TreePen × TreePen) Fault} (λ s t. Ok (record { stored = record { nodes = s } }, record { stored = record { nodes = t } })) a b)

-- two pens, or two clocks, are one where what they hold is
module _ (p q : TreePen) (h : Yes (pen_made p)) (g : Yes (pen_made q)) (r : Bool) (s t : Event) (v : s ≡ shape (id_of p)) (w : t ≡ shape (id_of q)) (z : r ≡ same_event s t) where
  shapes_one : (r ≡ true) ↔ (s ≡ t)
  shapes_one = one_event s t r z

  pub same-stored : (r ≡ true) ↔ (p ≡ q)
  same-stored = (λ k. pen_is p h ∙ ap pen_of (shape_injective _ _ (sym v ∙ shapes_one.0 k ∙ w)) ∙ sym (pen_is q g), λ k. shapes_one.1 (v ∙ ap (λ (x : TreePen). shape (id_of x)) k ∙ sym w))

  pub same_making : (r ≡ true) ↔ SameMakes p q
  same_making =
      let m = same_marks.pens p q h g in
      (λ k. m.0 (same-stored.0 k), λ s. same-stored.1 (m.1 s))

module _ (c d : TreeClock) (h : Yes (clock_made c)) (g : Yes (clock_made d)) where
  module _ (r : Bool) (s t : Event) (v : s ≡ event_of c) (w : t ≡ event_of d) (z : r ≡ same_event s t) where
    events_one : (r ≡ true) ↔ (s ≡ t)
    events_one = one_event s t r z

    pub clock_stored : (r ≡ true) ↔ (c ≡ d)
    clock_stored = (λ k. clock_is c h ∙ ap clock_of (sym v ∙ events_one.0 k ∙ w) ∙ sym (clock_is d g), λ k. events_one.1 (v ∙ ap event_of k ∙ sym w))

    pub clock_knowing : (r ≡ true) ↔ SameKnows c d
    clock_knowing =
        let m = same_marks.clocks c d h g in
        (λ k. m.0 (clock_stored.0 k), λ s. clock_stored.1 (m.1 s))

  pub covers_done : (r : Bool) → r ≡ fits_up (event_of c) 0 (event_of d) 0 → r ≡ covers_answer c d
  covers_done r p =
      let x = clock_facts c h in
      let y = clock_facts d g in
      p ∙ fits_covers 12 (event_of c) 0 (event_of d) 0 x.1 x.2 y.2

  -- a test that says what covers says
  pub covers_marks : (r : Bool) → r ≡ covers_answer c d → (r ≡ true) ↔ Within tree_kind d c
  covers_marks r p =
      let s = tree_kind_sound.covers c d h g in
      (λ k. s.0 (sym p ∙ k), λ w. p ∙ s.1 w)

  -- one value is equal
  pub equal_verdict : c ≡ d → Equal ≡ verdict_answer c d
  equal_verdict p =
      let a = (tree_kind_sound.covers c c h h).1 (λ l s k. k) in
      rw (← p, a)

  pub compared : (v : Verdict) → v ≡ verdict_answer c d → ComparesMarks tree_kind c d v
  compared v e = rw e (compares_marks tree_kind tree_kind_sound c d h g)

-- the union of two pens that do not meet
pub unite_fits : (p q : TreePen) → overlap (id_of p) (id_of q) ≡ false → id_size (sum (id_of p) (id_of q)) ≤ 63 → (r : TreePen) → r ≡ pen_of (sum (id_of p) (id_of q)) → ◌≡◌ {A = Result TreePen Fault} (Ok r) (unite_answer p q)
unite_fits p q v n r z = rw (v, le-ltb 63 (id_size (sum (id_of p) (id_of q))) n) (ap Ok z)

-- an event, under an id that is not 0
module _ (p : TreePen) (c : TreeClock) (k : false ≡ is_off (id_of p)) where
  abbrev i : Id
  i = id_of p

  abbrev e : Event
  e = event_of c

  due_of : (t : Event) → event i e ≡ t → grown_due i e ≡ past_limits t
  due_of t q = rw (sym k, q)

  pub event_grows : fill i e ≡ e → answered (past_limits (grow i e)) (clock_of (grow i e)) ≡ event_answer p c
  event_grows q =
      let x = event_rules.grows i e q in
      rw (due_of (grow i e) x, x)

  pub event_fills : Yes (clock_made c) → (fill i e ≡ e → ⊥) → ◌≡◌ {A = Result TreeClock Fault} (Ok (clock_of (fill i e))) (event_answer p c)
  event_fills g q =
      let x = event_rules.fills i e q in
      let f = clock_facts c g in
      rw (due_of (fill i e) x, x, le-ltb 63 (size (fill i e)) (omega (arith, size-fill i e, f.3)), le-ltb 65535 (top (fill i e)) (omega (arith, top-fill i e f.1, f.4)))
