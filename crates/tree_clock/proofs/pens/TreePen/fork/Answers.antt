use Rattle.std.proofs.Common.{◌≡◌, Ok, Result, drop, false, true, ap, ◌∙◌, arith}
use Rattle.clock.specs.declared.faults.Fault.{Fault}
use Rattle.clock.proofs.Answering.{fork_has}
use Rattle.tree_rules.specs.Shape.{shape}
use Rattle.tree_rules.specs.Split.{half}
use Rattle.tree_clock.specs.declared.pens.TreePen.{TreePen}
use Rattle.tree_clock.specs.Flat.{stored}
use Rattle.tree_clock.specs.Operations.{fork_answer}
use Rattle.tree_clock.specs.Stored.{tree_kind}
use Rattle.tree_clock.specs.StoredSound.{tree_kind_sound}
use Rattle.tree_clock.proofs.Public.{half_fits, fork_done}
use Rattle.tree_clock.proofs.Storing.{front_stored}
use Rattle.tree_clock.proofs.pens.TreePen.fork.Goals as goal

pub half_into-requires : goal.half_into-requires
half_into-requires c = rw c.unwritten.ensures (half_fits _ c.requires.made _ _ c.id.ensures.id c.if-cannot_split.ensures c.id-2.ensures.id false, omega arith)

pub half_into-requires-2 : goal.half_into-requires-2
half_into-requires-2 c = rw c.unwritten-2.ensures (half_fits _ c.requires.made _ _ c.id.ensures.id c.if-cannot_split.ensures c.id-3.ensures.id true, omega arith)

forked : (c : goal.After-half_into-2) → ◌≡◌ {A = Result (TreePen × TreePen) Fault} (Ok (record { stored = record { nodes = c.half_into.new.out } }, record { stored = record { nodes = c.half_into-2.new.out } })) (fork_answer c.args.self.now)
forked c =
    let s = front_stored _ _ _ c.half_into.ensures.stands (c.half_into.ensures.rest ∙ ap (drop c.half_into.result) c.unwritten.ensures) ∙ ap (λ i. stored (shape (half false i))) c.id-2.ensures.id in
    let t = front_stored _ _ _ c.half_into-2.ensures.stands (c.half_into-2.ensures.rest ∙ ap (drop c.half_into-2.result) c.unwritten-2.ensures) ∙ ap (λ i. stored (shape (half true i))) c.id-3.ensures.id in
    fork_done _ _ c.id.ensures.id c.if-cannot_split.ensures _ _ s t

pub returns-clause-result : goal.returns-clause-result
returns-clause-result c = forked c

pub returns-clause-marks : goal.returns-clause-marks
returns-clause-marks c = fork_has tree_kind tree_kind_sound _ c.requires.made _ (forked c)
