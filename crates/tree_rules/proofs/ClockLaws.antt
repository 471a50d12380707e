-- The laws of clocks: join, covers and the cause with which join is refused.
use Rattle.std.proofs.Common.{◌≡◌, ℕ, ◌<◌, ◌≤◌, max, false, ◌||◌, ltb, ◌↔◌, Some, None, sym, refl, ap, ◌∙◌, arith, ltb-false, ltb-true, le-ltb, lt-ltb}
use native.Mathlib.Decide.{dec_lt}
use Rattle.std.proofs.lemmas.Bool.{and_parts, and_from, or_left, or_right, or_from}
use Rattle.clock.specs.declared.causes.Cause.{Cause}
use Rattle.clock.specs.declared.causes.Cause.TheVariants.{ClockTooLarge}
use Rattle.clock.specs.Meaning.{Yes}
use Rattle.clock.specs.Sound.{Within, Joined}
use Rattle.tree_rules.specs.Events.{Event, size, depth, value}
use Rattle.tree_rules.specs.Join.{join}
use Rattle.tree_rules.specs.Kind.{tree}
use Rattle.tree_rules.proofs.Made.{made_event, event-from}
use Rattle.clock.proofs.Dues.{due-none, due_some}
use Rattle.tree_rules.proofs.Joins.{normal-join, depth-join, top-join, join-value}
use Rattle.tree_rules.proofs.Covering.{Over, covers_decides}
use Rattle.clock.proofs.Tests.{and_or}
use Rattle.tree_rules.proofs.Bools.{and_no}

pub blank_made : Yes (tree.clock_made tree.blank)
blank_made = refl

pub blank_knows : (l s : ℕ) → tree.knows tree.blank l s ≡ false
blank_knows l s = let z : 0 ≤ s = omega arith in rw (le-ltb s 0 z) (and_no (ltb l 4096))

below_max : (k a b : ℕ) → ltb k (max a b) ≡ (ltb k a || ltb k b)
below_max k a b =
    elim (dec_lt k a) [
      | yes p ↦ lt-ltb k (max a b) (omega arith) ∙ sym (or_left _ _ (lt-ltb k a p))
      | no p ↦
          elim (dec_lt k b) [
            | yes q ↦ lt-ltb k (max a b) (omega arith) ∙ sym (or_right _ _ (lt-ltb k b q))
            | no q ↦ le-ltb k (max a b) (omega arith) ∙ sym (or_from _ _ (le-ltb k a (omega arith)) (le-ltb k b (omega arith)))
          ]
    ]

knows_join : (c d : Event) → depth c ≤ 12 → depth d ≤ 12 → (x k : ℕ) → x < 4096 → ltb k (value (join c d) 12 x) ≡ (ltb k (value c 12 x) || ltb k (value d 12 x))
knows_join c d p q x k b = ap (ltb k) (join-value 12 c 0 d 0 p q x b ∙ omega arith) ∙ below_max k (value c 12 x) (value d 12 x)

pub join_sound : (c d : Event) → Yes (tree.clock_made c) → Yes (tree.clock_made d) → tree.join_due c d ≡ None → Joined tree c d (tree.joined c d)
join_sound c d made made' none =
    let m = made_event c made in
    let n = made_event d made' in
    let s = ltb-false 63 (size (join c d)) (due-none _ _ none) in
    record {
      made = event-from (join c d) (normal-join c 0 d 0) (omega (arith, m.1, n.1, depth-join c 0 d 0)) s (top-join c 0 d 0 65535 (omega (arith, m.3)) (omega (arith, n.3)));
      union = λ x k. and_or (ltb x 4096) _ _ _ (λ b. knows_join c d m.1 n.1 x k (ltb-true x 4096 b));
    }

pub join_cause : (c d : Event) (e : Cause) → Yes (tree.clock_made c) → Yes (tree.clock_made d) → tree.join_due c d ≡ Some e → e ≡ ClockTooLarge
join_cause c d e made made' some = (due_some _ ClockTooLarge e some).1

-- the marks of d are c's exactly where c's values are at least d's
within_over : (c d : Event) → Within tree d c → Over 12 0 c 0 d
within_over c d w x b =
    elim (dec_lt (value c 12 x) (value d 12 x)) [
      | no q ↦ omega arith
      | yes q ↦
          let i = lt-ltb x 4096 b in
          let z = w x (value c 12 x) (and_from _ _ i (lt-ltb (value c 12 x) (value d 12 x) q)) in
          omega (arith, ltb-true (value c 12 x) (value c 12 x) (and_parts (ltb x 4096) _ z).1)
    ]

over_within : (c d : Event) → Over 12 0 c 0 d → Within tree d c
over_within c d o x k y =
    let p = and_parts (ltb x 4096) _ y in
    and_from _ _ p.0 (lt-ltb k (value c 12 x) (omega (arith, ltb-true k (value d 12 x) p.1, o x (ltb-true x 4096 p.0))))

pub covers : (c d : Event) → Yes (tree.clock_made c) → Yes (tree.clock_made d) → Yes (tree.covers c d) ↔ Within tree d c
covers c d made made' =
    let w = covers_decides 12 c 0 d 0 (made_event c made).1 (made_event d made').1 in
    (λ y. over_within c d (w.0 y), λ v. w.1 (within_over c d v))
