-- The laws of event: a well-made clock with all the old marks and one more, each added mark the pen's; its causes; the opening.
use Rattle.std.proofs.Common.{◌≡◌, ℕ, ◌≤◌, max, Bool, true, false, ltb, ◌⊎◌, [], ◌∷◌, Some, None, Option, sym, refl, ap, ◌∙◌, inl, inr, arith, ltb-false, ltb-true, le-ltb, lt-ltb}
use Rattle.std.proofs.lemmas.Bool.{and_parts, and_from, and_right, cases_Bool, both_ways, cond_both}
use Rattle.clock.specs.declared.causes.Cause.{Cause}
use Rattle.clock.specs.declared.causes.Cause.TheVariants.{PenSpent, ClockTooLarge, AtLimit}
use Rattle.clock.specs.Answers.{due, first}
use Rattle.clock.specs.Meaning.{Yes}
use Rattle.clock.specs.Sound.{Within, Evented, Opening}
use Rattle.tree_rules.specs.Ids.{Id, is_off, id_depth, owns, NormalId}
use Rattle.tree_rules.specs.Events.{Event, size, depth, value, top, norm, Normal, same}
use Rattle.tree_rules.specs.Fill.{fill}
use Rattle.tree_rules.specs.Grow.{grow, event}
use Rattle.tree_rules.specs.Kind.{tree}
use Rattle.tree_rules.proofs.Canon.{same_is}
use Rattle.tree_rules.proofs.Fills.{normal-fill, depth-fill}
use Rattle.tree_rules.proofs.Adding.{Adds, Gains, fill_adds}
use Rattle.tree_rules.proofs.Grows.{depth-grow}
use Rattle.tree_rules.proofs.Growing.{normal-grow, grow_adds}
use Rattle.tree_rules.proofs.Gaining.{fill_gains}
use Rattle.tree_rules.proofs.Made.{made_event, event-from, made_id}

-- event is grow where fill changes nothing, else fill
by_fill : (i : Id) (e : Event) (P : Event → Type 0) → (fill i e ≡ e → P (grow i e)) → (same (fill i e) e ≡ false → P (fill i e)) → P (event i e)
unfolding event
by_fill i e P g f = cond_both (same (fill i e) e) (grow i e) (fill i e) P (λ s. g (same_is (fill i e) e s)) f

pub depth-event : (i : Id) (e : Event) → depth (event i e) ≤ max (depth e) (id_depth i)
depth-event i e = by_fill i e (λ g. depth g ≤ max (depth e) (id_depth i)) (λ _. depth-grow i e) (λ _. omega (arith, depth-fill i e))

pub normal-event : (i : Id) (e : Event) → NormalId i → is_off i ≡ false → Normal e → Normal (event i e)
normal-event i e d f n = by_fill i e Normal (normal-grow i e d f n) (λ _. normal-fill i e n)

pub event_adds : (i : Id) (h : ℕ) (e : Event) → NormalId i → is_off i ≡ false → Normal e → depth e ≤ h → id_depth i ≤ h → Adds i h e (event i e) × Gains i h e (event i e)
event_adds i h e d f n k j =
    by_fill i e (λ g. Adds i h e g × Gains i h e g)
    (λ w. grow_adds i h e d f n w k j)
    (λ s. (fill_adds i h e n k, fill_gains i h e n k s))

-- of three causes, none is due exactly when no test says yes
module _ {X : Type 0} (x y z : X) where
  abbrev first_of : Bool → Bool → Bool → Option X
  first_of a b c = first (due a x ∷ due b y ∷ due c z ∷ [])

  none-due : (a b c : Bool) → first_of a b c ≡ None → (a ≡ false) × (b ≡ false) × (c ≡ false)
  none-due true b c p = absurd (cc)
  none-due false true c p = absurd (cc)
  none-due false false true p = absurd (cc)
  none-due false false false p = (refl, refl, refl)

  one_due : (a b c : Bool) (w : X) → first_of a b c ≡ Some w → (w ≡ x) ⊎ ((w ≡ y) ⊎ (w ≡ z))
  one_due true b c w p = inl (cc)
  one_due false true c w p = inr (inl (cc))
  one_due false false true w p = inr (inr (cc))
  one_due false false false w p = absurd (cc)

-- a value no smaller at every place keeps the marks; what it adds is the id's
module _ (i : Id) (e g : Event) (a : Adds i 12 e g) where
  adds_keeps : Within tree e g
  adds_keeps x k h =
      let p = and_parts (ltb x 4096) _ h in
      let q = ltb-true x 4096 p.0 in
      and_from (ltb x 4096) _ p.0 (lt-ltb k (value g 12 x) (omega (arith, ltb-true k _ p.1, (a x q).0)))

  adds_own : (x k : ℕ) → Yes (tree.knows g x k) → tree.knows e x k ≡ false → Yes (tree.makes i x k)
  adds_own x k h o = and_from (ltb x 4096) _ p.0 (elim (cases_Bool (owns i 12 x)) [ inl w ↦ w | inr w ↦ absurd (both_ways (tree.knows e x k) o (known w)) ])
    where
      p : (ltb x 4096 ≡ true) × (ltb k (value g 12 x) ≡ true)
      p = and_parts (ltb x 4096) (ltb k (value g 12 x)) h

      known : owns i 12 x ≡ false → Yes (tree.knows e x k)
      known w = and_from (ltb x 4096) _ p.0 (ap (ltb k) (sym ((a x (ltb-true x 4096 p.0)).1 w)) ∙ p.1)

pub event_law : (p : Id) (c : Event) → Yes (tree.pen_made p) → Yes (tree.clock_made c) → tree.event_due p c ≡ None → Evented tree p c (tree.evented p c)
event_law i e p c z =
    let I = made_id i p in
    let E = made_event e c in
    let N = none-due PenSpent ClockTooLarge AtLimit (is_off i) (ltb 63 (size (event i e))) (ltb 65535 (top (event i e))) z in
    let A = event_adds i 12 e I.0 N.0 E.0 E.1 I.1 in
    let x : ℕ = A.1.0 in
    let below = lt-ltb x 4096 A.1.1 in
    record {
      made = event-from (event i e) (normal-event i e I.0 N.0 E.0) (omega (arith, depth-event i e)) (ltb-false 63 _ N.1) (ltb-false 65535 _ N.2);
      keeps = adds_keeps i e (event i e) A.0;
      line = x;
      step = value e 12 x;
      more = and_from (ltb x 4096) _ below (lt-ltb (value e 12 x) (value (event i e) 12 x) A.1.3);
      before = and_right (ltb x 4096) _ (le-ltb (value e 12 x) (value e 12 x) (omega arith));
      own = adds_own i e (event i e) A.0;
    }

pub event_cause_law : (p : Id) (c : Event) (e : Cause) → Yes (tree.pen_made p) → Yes (tree.clock_made c) → tree.event_due p c ≡ Some e → (e ≡ PenSpent) ⊎ ((e ≡ ClockTooLarge) ⊎ (e ≡ AtLimit))
event_cause_law i e c _ _ z = one_due PenSpent ClockTooLarge AtLimit (is_off i) (ltb 63 (size (event i e))) (ltb 65535 (top (event i e))) c z

pub opening_law : Opening tree
unfolding event grow norm
opening_law = record { forks = refl; first_event = refl; second_event = refl; joins = refl }
