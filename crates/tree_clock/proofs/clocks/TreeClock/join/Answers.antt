use Rattle.std.proofs.Common.{◌≡◌, Ok, Result, arith}
use Rattle.std.proofs.lemmas.Grind.{common_steps}
use Rattle.clock.specs.declared.faults.Fault.{Fault}
use Rattle.clock.proofs.Answering.{join-has}
use Rattle.tree_clock.specs.declared.clocks.TreeClock.{TreeClock}
use Rattle.tree_clock.specs.Operations.{join_answer}
use Rattle.tree_clock.specs.Stored.{tree_kind}
use Rattle.tree_clock.specs.StoredSound.{tree_kind_sound}
use Rattle.tree_clock.proofs.clocks.TreeClock.join.Goals as goal

pub returns-clause-marks : goal.returns-clause-marks
returns-clause-marks c =
    let e : ◌≡◌ {A = Result TreeClock Fault} (Ok c.of.result) (join_answer c.args.self.now c.args.other.now) = grind (arith, common_steps) in
    join-has tree_kind tree_kind_sound _ _ c.requires.made.0 c.requires.made.1 _ e
