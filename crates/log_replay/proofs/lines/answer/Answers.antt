use Rattle.std.proofs.Common.{Some, refl}
use Rattle.log_replay.specs.Texts.{line_text}
use Rattle.log_replay.proofs.Taken.{carried_line, not_taken, mistaken_line}
use Rattle.log_replay.proofs.lines.answer.Goals as goal

pub returns-in-Ok-write_answer : goal.returns-in-Ok-write_answer
returns-in-Ok-write_answer g c =
    let text = line_text g.C.Pen.Display.output g.C.Display.output in
    let e = c.carry_out-yard.ensures in (
      Some (text c.args.name.now c.args.arguments.now c.in-Ok-carried.answered),
      carried_line g.P.FromStr.from_str_gives g.C.Clock.meaning g.P.Payload.same c.args.yard c.args.name c.args.arguments.now c.carry_out-yard.result.0 c.in-Ok.call c.carry_out-yard.result.1 c.in-Ok.ensures.read e.carried e.mistake text c.in-Ok-carried.answered c.in-Ok-carried.is,
      c.in-Ok-write_answer.ensures,
    )

pub returns-in-Err-write_answer : goal.returns-in-Err-write_answer
returns-in-Err-write_answer g c =
    let text = line_text g.C.Pen.Display.output g.C.Display.output in
    let e = c.carry_out-yard.ensures in (
      text c.args.name.now c.args.arguments.now c.in-Ok-carried.answered,
      carried_line g.P.FromStr.from_str_gives g.C.Clock.meaning g.P.Payload.same c.args.yard c.args.name c.args.arguments.now c.carry_out-yard.result.0 c.in-Ok.call c.carry_out-yard.result.1 c.in-Ok.ensures.read e.carried e.mistake text c.in-Ok-carried.answered c.in-Ok-carried.is,
    )

pub returns-in-Err-carried : goal.returns-in-Err-carried
returns-in-Err-carried g c =
    let e = c.carry_out-yard.ensures in (
      mistaken_line g.P.FromStr.from_str_gives g.C.Clock.meaning g.P.Payload.same c.args.yard c.args.name c.args.arguments.now c.carry_out-yard.result.0 c.in-Ok.call c.carry_out-yard.result.1 c.in-Ok.ensures.read e.carried e.mistake _ c.in-Err-carried.mistake c.in-Err-carried.is,
      e.kept (not_taken g.P.FromStr.from_str_gives g.C.Clock.meaning g.P.Payload.same c.args.yard c.args.name c.args.arguments.now c.carry_out-yard.result.0 c.in-Ok.call c.carry_out-yard.result.1 c.in-Ok.ensures.read e.carried e.mistake c.in-Err-carried.mistake c.in-Err-carried.is),
      refl,
    )
