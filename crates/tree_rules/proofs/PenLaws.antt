-- The laws of pens: fork, unite and the causes with which they are refused.
use Rattle.std.proofs.Common.{◌≡◌, ℕ, ◌≤◌, true, false, ltb, ◌⊎◌, ◌↔◌, Some, None, refl, inl, inr, arith, ltb-false, lt-ltb}
use Rattle.std.proofs.lemmas.Bool.{both_ways, and_parts, and_from, or_parts}
use Rattle.clock.specs.declared.causes.Cause.{Cause}
use Rattle.clock.specs.declared.causes.Cause.TheVariants.{CannotSplit, PensOverlap, PenTooLarge}
use Rattle.clock.specs.Meaning.{Yes}
use Rattle.clock.specs.Sound.{Overlap, Forked, United}
use Rattle.tree_rules.specs.Ids.{Id, id_size, id_depth, is_off}
use Rattle.tree_rules.specs.Split.{half}
use Rattle.tree_rules.specs.Sum.{sum, overlap}
use Rattle.tree_rules.specs.Kind.{tree}
use Rattle.tree_rules.proofs.Made.{made_id, id_from}
use Rattle.clock.proofs.Dues.{due-none, due_some, first-none, first_some, last_some, first_here}
use Rattle.tree_rules.proofs.IdLaws.{overlap-at, at-overlap, normal-sum, depth-sum, sum_places}
use Rattle.tree_rules.proofs.SplitLaws.{normal_halves, size_halves, halves_places, halves_apart}
use Rattle.clock.proofs.Tests.{and_or}
use Rattle.tree_rules.proofs.Bools.{and_no}

pub seed_made : Yes (tree.pen_made tree.seed)
seed_made = refl

pub no_pen_made : Yes (tree.pen_made tree.no_pen)
no_pen_made = refl

pub no_pen_makes : (l s : ℕ) → tree.makes tree.no_pen l s ≡ false
no_pen_makes l s = and_no (ltb l 4096)

shallow_halves : (p : Id) → tree.fork_due p ≡ None → (id_depth (half false p) ≤ 12) × (id_depth (half true p) ≤ 12)
shallow_halves p none =
    let a = or_parts (is_off p) _ (due-none _ _ none) in
    let b = or_parts (ltb 12 (id_depth (half false p))) _ a.1 in
    (ltb-false 12 _ b.0, ltb-false 12 _ b.1)

pub fork : (p : Id) → Yes (tree.pen_made p) → tree.fork_due p ≡ None → Forked tree p (tree.halves p).0 (tree.halves p).1
fork p made none =
    let m = made_id p made in
    let n = normal_halves p m.0 in
    let d = shallow_halves p none in
    let s = size_halves p in
    record {
      first_made = id_from (half false p) n.0 d.0 (omega (arith, m.2, s.0));
      second_made = id_from (half true p) n.1 d.1 (omega (arith, m.2, s.1));
      apart = λ x k a b. both_ways _ (halves_apart p 12 x) (and_from _ _ (and_parts (ltb x 4096) _ a).1 (and_parts (ltb x 4096) _ b).1);
      together = λ x k. and_or (ltb x 4096) _ _ _ (λ _. halves_places p 12 x d.0 d.1);
    }

pub fork_cause : (p : Id) (c : Cause) → Yes (tree.pen_made p) → tree.fork_due p ≡ Some c → c ≡ CannotSplit
fork_cause p c made some = (due_some _ CannotSplit c some).1

pub unite : (p q : Id) → Yes (tree.pen_made p) → Yes (tree.pen_made q) → tree.unite_due p q ≡ None → United tree p q (tree.united p q)
unite p q made made' none =
    let m = made_id p made in
    let n = made_id q made' in
    let a = first-none (overlap p q) PensOverlap _ none in
    let b = first-none (ltb 63 (id_size (sum p q))) PenTooLarge _ a.1 in
    record {
      made = id_from (sum p q) (normal-sum p q m.0 n.0) (depth-sum p q 12 m.1 n.1) (ltb-false 63 _ b.0);
      union = λ x k. and_or (ltb x 4096) _ _ _ (λ _. sum_places p q 12 x m.1 n.1);
    }

pub unite_cause : (p q : Id) (c : Cause) → Yes (tree.pen_made p) → Yes (tree.pen_made q) → tree.unite_due p q ≡ Some c → (c ≡ PensOverlap) ⊎ (c ≡ PenTooLarge)
unite_cause p q c made made' some =
    elim (first_some (overlap p q) PensOverlap _ c some) [
      | inl a ↦ inl a.1
      | inr a ↦ inr (last_some (ltb 63 (id_size (sum p q))) PenTooLarge c a.1)
    ]

overlap-due : (p q : Id) → tree.unite_due p q ≡ Some PensOverlap → overlap p q ≡ true
overlap-due p q some =
    elim (first_some (overlap p q) PensOverlap _ PensOverlap some) [
      | inl a ↦ a.0
      | inr a ↦ let e = last_some (ltb 63 (id_size (sum p q))) PenTooLarge PensOverlap a.1 in cc
    ]

pub overlaps : (p q : Id) → Yes (tree.pen_made p) → Yes (tree.pen_made q) → (tree.unite_due p q ≡ Some PensOverlap) ↔ Overlap tree p q
overlaps p q made made' =
    let m = made_id p made in
    let n = made_id q made' in (
      λ some.
          let (x, b, o, w) = overlap-at 12 p q m.1 n.1 (overlap-due p q some) in
          let i = lt-ltb x 4096 b in
          (x, 0, and_from _ _ i o, and_from _ _ i w),
      λ (x, k, a, b). first_here (overlap p q) PensOverlap _ (at-overlap p q 12 x (and_parts (ltb x 4096) _ a).1 (and_parts (ltb x 4096) _ b).1),
    )
