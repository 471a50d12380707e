-- Stored trees are a sound clock kind, and well-made values with the same marks are one.
use Rattle.std.specs.Prelude.{◌≡◌, ℕ, ◌^◌, ◌<◌, Bool, ◌&&◌, nat_lt}
use Rattle.std.proofs.Common.{sym, ap, ◌∙◌, arith, lt-ltb, le-ltb, ltb-false}
use Rattle.clock.specs.Meaning.{Yes}
use Rattle.clock.specs.Sound.{Sound}
use Rattle.tree_rules.specs.Ids.{owns}
use Rattle.tree_rules.specs.Events.{value}
use Rattle.tree_rules.specs.Kind.{tree}
use Rattle.tree_rules.proofs.Made.{made_event, made_id}
use Rattle.tree_rules.proofs.Canon.{canonical}
use Rattle.tree_rules.proofs.Shapes.{canonical_id}
use Rattle.tree_rules.proofs.TreeSound.{tree_sound}
use Rattle.tree_clock.specs.declared.pens.TreePen.{TreePen}
use Rattle.tree_clock.specs.declared.clocks.TreeClock.{TreeClock}
use Rattle.tree_clock.specs.Stored.{event_of, id_of, clock_of, pen_of, clock_made, pen_made, tree_kind, SameMarks}
use Rattle.tree_clock.specs.Carrying.{Faithful, carried_sound}
use Rattle.tree_clock.specs.Reading.{read_back, id_back, clock_event, clock_facts, clock_is, clock_from, pen_id, pen_facts, pen_is, pen_from}

faithful : Faithful tree pen_of id_of pen_made clock_of event_of clock_made
faithful = record {
  id_back = λ i h. id_back i (made_id i h).1;
  pen_from = pen_from;
  pen_id = pen_id;
  event_back = λ e h. read_back e (made_event e h).1;
  clock_from = clock_from;
  clock_event = clock_event;
}

pub tree_kind_sound : Sound tree_kind
tree_kind_sound = carried_sound tree pen_of id_of pen_made clock_of event_of clock_made faithful tree_sound

-- a number is told by the numbers below it
same_bound : (a b : ℕ) → ((k : ℕ) → nat_lt k a ≡ nat_lt k b) → a ≡ b
same_bound a b h =
    let p = ltb-false a b (sym (h a) ∙ le-ltb a a (omega arith)) in
    let q = ltb-false b a (h b ∙ le-ltb b b (omega arith)) in
    omega arith

-- a test within the places
at_place : (x : ℕ) (s t : Bool) → x < 4096 → (nat_lt x 4096 && s) ≡ (nat_lt x 4096 && t) → s ≡ t
at_place x s t h p = rw (lt-ltb x 4096 h) at p

same_knows : (c d : TreeClock) → Yes (clock_made c) → Yes (clock_made d) → ((line step : ℕ) → tree_kind.knows c line step ≡ tree_kind.knows d line step) → c ≡ d
same_knows c d h j same =
    let (w, n, g, k, t) = clock_facts c h in
    let (w', n', g', k', t') = clock_facts d j in
    let v : (x : ℕ) → x < 2 ^ 12 → value (event_of c) 12 x ≡ value (event_of d) 12 x = λ x b. same_bound _ _ (λ k. at_place x _ _ b (same x k)) in
    clock_is c h ∙ ap clock_of (canonical 12 (event_of c) (event_of d) n n' g g' v) ∙ sym (clock_is d j)

same_makes : (p q : TreePen) → Yes (pen_made p) → Yes (pen_made q) → ((line step : ℕ) → tree_kind.makes p line step ≡ tree_kind.makes q line step) → p ≡ q
same_makes p q h j same =
    let (w, n, g, k) = pen_facts p h in
    let (w', n', g', k') = pen_facts q j in
    let v : (x : ℕ) → x < 2 ^ 12 → owns (id_of p) 12 x ≡ owns (id_of q) 12 x = λ x b. at_place x _ _ b (same x 0) in
    pen_is p h ∙ ap pen_of (canonical_id 12 (id_of p) (id_of q) n n' g g' v) ∙ sym (pen_is q j)

pub same_marks : SameMarks
same_marks = record {
  pens = λ p q h j. (λ e l k. ap (λ p. tree_kind.makes p l k) e, same_makes p q h j);
  clocks = λ c d h j. (λ e l k. ap (λ c. tree_kind.knows c l k) e, same_knows c d h j);
}
