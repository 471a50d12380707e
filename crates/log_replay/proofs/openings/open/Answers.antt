use Rattle.std.proofs.Common.{codes, Some, refl}
use Rattle.log_replay.specs.Texts.{line_text}
use Rattle.log_replay.proofs.openings.open.Goals as goal

pub returns-clause-opened : goal.returns-clause-opened
returns-clause-opened g c =
    let text = line_text g.C.Pen.Display.output g.C.Display.output in (
      Some (text (codes "open") c.args.arguments.now c.in_ok-yard.answered),
      record { answer = c.in_ok-yard.answered; opens = c.in_ok-yard.ensures.opened; printed = refl },
      c.write_answer-written.ensures,
    )
