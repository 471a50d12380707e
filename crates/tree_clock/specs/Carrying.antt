-- A sound clock kind stays sound when it is carried over to values that read back as what they stand for.
use Rattle.std.specs.Prelude.{◌≡◌, ℕ, Bool, ◌||◌, None}
use Rattle.std.proofs.Common.{sym, ap, ap₂, ◌∙◌}
use Rattle.clock.specs.Meaning.{Meaning, Yes}
use Rattle.clock.specs.Sound.{Sound, Forked, Evented, Joined, United, Opening}
use Rattle.tree_clock.specs.Carried.{carried}

module _ {Id Event Pen Clock : Type 0} (m : Meaning Id Event) (pen_of : Id → Pen) (id_of : Pen → Id) (pen_ok : Pen → Bool) (clock_of : Event → Clock) (event_of : Clock → Event) (clock_ok : Clock → Bool) where
  -- what is asked of the values: what stands for a well-made one is well-made and reads back
  pub record Faithful : Type 0 where
    pub id_back : (i : Id) → Yes (m.pen_made i) → id_of (pen_of i) ≡ i
    pub pen_from : (i : Id) → Yes (m.pen_made i) → Yes (pen_ok (pen_of i))
    pub pen_id : (p : Pen) → Yes (pen_ok p) → Yes (m.pen_made (id_of p))
    pub event_back : (e : Event) → Yes (m.clock_made e) → event_of (clock_of e) ≡ e
    pub clock_from : (e : Event) → Yes (m.clock_made e) → Yes (clock_ok (clock_of e))
    pub clock_event : (c : Clock) → Yes (clock_ok c) → Yes (m.clock_made (event_of c))

  abbrev to : Meaning Pen Clock
  to = carried m pen_of id_of pen_ok clock_of event_of clock_ok

  module _ (f : Faithful) (s : Sound m) where
    makes_back : (i : Id) → Yes (m.pen_made i) → (l k : ℕ) → to.makes (pen_of i) l k ≡ m.makes i l k
    makes_back i h l k = ap (λ i. m.makes i l k) (f.id_back i h)

    knows_back : (e : Event) → Yes (m.clock_made e) → (l k : ℕ) → to.knows (clock_of e) l k ≡ m.knows e l k
    knows_back e h l k = ap (λ e. m.knows e l k) (f.event_back e h)

    forks : (p : Pen) → Yes (pen_ok p) → to.fork_due p ≡ None → Forked to p (to.halves p).0 (to.halves p).1
    forks p h none =
        let g = s.fork (id_of p) (f.pen_id p h) none in
        let a = makes_back _ g.first_made in
        let b = makes_back _ g.second_made in
        record {
          first_made = f.pen_from _ g.first_made;
          second_made = f.pen_from _ g.second_made;
          apart = λ l k x y. g.apart l k (sym (a l k) ∙ x) (sym (b l k) ∙ y);
          together = λ l k. g.together l k ∙ sym (ap₂ ◌||◌ (a l k) (b l k));
        }

    events : (p : Pen) (c : Clock) → Yes (pen_ok p) → Yes (clock_ok c) → to.event_due p c ≡ None → Evented to p c (to.evented p c)
    events p c h j none =
        let g = s.event (id_of p) (event_of c) (f.pen_id p h) (f.clock_event c j) none in
        let a = knows_back _ g.made in
        record {
          made = f.clock_from _ g.made;
          keeps = λ l k x. a l k ∙ g.keeps l k x;
          line = g.line;
          step = g.step;
          more = a _ _ ∙ g.more;
          before = g.before;
          own = λ l k x. g.own l k (sym (a l k) ∙ x);
        }

    joins : (c d : Clock) → Yes (clock_ok c) → Yes (clock_ok d) → to.join_due c d ≡ None → Joined to c d (to.joined c d)
    joins c d h j none =
        let g = s.join (event_of c) (event_of d) (f.clock_event c h) (f.clock_event d j) none in
        record { made = f.clock_from _ g.made; union = λ l k. knows_back _ g.made l k ∙ g.union l k }

    unites : (p q : Pen) → Yes (pen_ok p) → Yes (pen_ok q) → to.unite_due p q ≡ None → United to p q (to.united p q)
    unites p q h j none =
        let g = s.unite (id_of p) (id_of q) (f.pen_id p h) (f.pen_id q j) none in
        record { made = f.pen_from _ g.made; union = λ l k. makes_back _ g.made l k ∙ g.union l k }

    opens : Opening to
    opens =
        let o = s.opening in
        let i = f.id_back m.seed s.seed_made in
        let e = f.event_back m.blank s.blank_made in
        let g = s.fork m.seed s.seed_made o.forks in
        let p : id_of (to.halves to.seed).0 ≡ (m.halves m.seed).0 = ap (λ i. id_of (pen_of (m.halves i).0)) i ∙ f.id_back _ g.first_made in
        let q : id_of (to.halves to.seed).1 ≡ (m.halves m.seed).1 = ap (λ i. id_of (pen_of (m.halves i).1)) i ∙ f.id_back _ g.second_made in
        let a = s.event _ _ g.first_made s.blank_made o.first_event in
        let b = s.event _ _ g.second_made s.blank_made o.second_event in
        let after = λ (i : Id) (e : Event). event_of (clock_of (m.evented i e)) in
        record {
          forks = ap m.fork_due i ∙ o.forks;
          first_event = ap₂ m.event_due p e ∙ o.first_event;
          second_event = ap₂ m.event_due q e ∙ o.second_event;
          joins = ap₂ m.join_due (ap₂ after p e ∙ f.event_back _ a.made) (ap₂ after q e ∙ f.event_back _ b.made) ∙ o.joins;
        }

    pub carried_sound : Sound to
    carried_sound = record {
      seed_made = f.pen_from _ s.seed_made;
      no_pen_made = f.pen_from _ s.no_pen_made;
      blank_made = f.clock_from _ s.blank_made;
      no_pen_makes = λ l k. makes_back _ s.no_pen_made l k ∙ s.no_pen_makes l k;
      blank_knows = λ l k. knows_back _ s.blank_made l k ∙ s.blank_knows l k;
      fork = forks;
      fork_cause = λ p c h. s.fork_cause (id_of p) c (f.pen_id p h);
      event = events;
      event_cause = λ p c e h j. s.event_cause (id_of p) (event_of c) e (f.pen_id p h) (f.clock_event c j);
      join = joins;
      join_cause = λ c d e h j. s.join_cause (event_of c) (event_of d) e (f.clock_event c h) (f.clock_event d j);
      covers = λ c d h j. s.covers (event_of c) (event_of d) (f.clock_event c h) (f.clock_event d j);
      unite = unites;
      unite_cause = λ p q c h j. s.unite_cause (id_of p) (id_of q) c (f.pen_id p h) (f.pen_id q j);
      overlap = λ p q h j. s.overlap (id_of p) (id_of q) (f.pen_id p h) (f.pen_id q j);
      opening = opens;
    }
