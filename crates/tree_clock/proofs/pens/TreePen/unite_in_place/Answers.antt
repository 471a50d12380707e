use Rattle.std.proofs.Common.{◌≤◌, ◌∙◌, sym, ap, ap₂, arith}
use Rattle.tree_rules.specs.Ids.{id_size}
use Rattle.tree_rules.specs.Shape.{shape}
use Rattle.tree_rules.specs.Sum.{sum, overlap}
use Rattle.tree_clock.specs.declared.pens.TreePen.{TreePen}
use Rattle.tree_clock.specs.Flat.{stored}
use Rattle.tree_clock.specs.Stored.{id_of}
use Rattle.tree_clock.proofs.Public.{unite_fits}
use Rattle.tree_clock.proofs.Summing.{size-sum}
use Rattle.tree_clock.proofs.pens.TreePen.unite_in_place.Goals as goal

pub returns : goal.returns
returns c =
    let v = ap₂ overlap (sym c.id.ensures.id) (sym c.id-2.ensures.id) ∙ c.in-Some.ensures.sum.0 in
    let n = c.trim.ensures _ c.in-Some.ensures.sum.1 ∙ ap (λ i. stored (shape i)) (ap₂ sum c.id.ensures.id c.id-2.ensures.id) in
    let m : id_size (sum (id_of c.args.self.now) (id_of c.args.other.now)) ≤ 63 = omega (arith, size-sum (id_of c.args.self.now) (id_of c.args.other.now), c.requires.small) in
    unite_fits _ _ v m _ (ap {B = TreePen} (λ s. record { stored = record { nodes = s } }) n)
