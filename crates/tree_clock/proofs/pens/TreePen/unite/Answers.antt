use Rattle.std.proofs.Common.{◌≡◌, Ok, Result, sym, ap, ◌∙◌}
use Rattle.clock.specs.Answers.{answered}
use Rattle.clock.specs.declared.faults.Fault.{Fault}
use Rattle.clock.proofs.Answering.{unite_has}
use Rattle.tree_clock.specs.declared.pens.TreePen.{TreePen}
use Rattle.tree_clock.specs.Operations.{unite_answer}
use Rattle.tree_clock.specs.Stored.{tree_kind}
use Rattle.tree_clock.specs.StoredSound.{tree_kind_sound}
use Rattle.tree_clock.proofs.pens.TreePen.unite.Goals as goal
use Rattle.tree_clock.proofs.pens.TreePen.unite.Goals.{then-size, else-size}

united : (c : goal.In-None) → ◌≡◌ {A = Result TreePen Fault} (Ok c.if-size.made) (unite_answer c.args.self.now c.args.other.now)
united c =
    let e : answered c.if-size.refusal c.if-size.made ≡ unite_answer c.args.self.now c.args.other.now =
    elim c.if-size.branch [
      | then-size w ↦ rw (w.made-is, w.refusal-is) w.unite_in_place-refusal.ensures
      | else-size w ↦ rw (w.made-is, w.refusal-is) w.unite_aside-refusal.ensures
    ]
    in
    ap (λ r. answered r c.if-size.made) (sym c.in-None.is) ∙ e

pub returns-in-None : goal.returns-in-None
returns-in-None c = record { result = united c; marks = unite_has tree_kind tree_kind_sound _ _ c.requires.made.0 c.requires.made.1 _ (united c) }
