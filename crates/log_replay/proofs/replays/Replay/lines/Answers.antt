use Rattle.std.proofs.Common.{ap, ◌∙◌}
use Rattle.std.specs.Io.Iter.{lines_known_bytes}
use Rattle.std.specs.String.{string_bytes}
use Rattle.log_replay.specs.Logs.{told_text}
use Rattle.log_replay.proofs.Going.{at_start, read_of, one_more, ended, unreadable, stopped, cut_short, cut_off}
use Rattle.log_replay.proofs.replays.Replay.lines.Goals as goal

pub loop-line-init : goal.loop-line-init
loop-line-init g c =
    at_start c.args.self.now (g.R.Read.remaining c.args.log) _ (g.W.Write.contents c.args.out.now) (ap (lines_known_bytes g.R.Read.remaining) c.into_iter-line-iterator.ensures.into_iter_gives ∙ c.lines-line-items.ensures)

pub returns-in-Err-clause-fails : goal.returns-in-Err-clause-fails
returns-in-Err-clause-fails g c =
    unreadable c.args.self.now (g.R.Read.remaining c.args.log) _ c.loop-line.self c.loop-line.number _ _ c.saturating_add-number.result c.as_str.result.now c.in_ok-told-in-Err.field-0 c.loop-line.invariant c.saturating_add-number.ensures c.in_ok-told-in-Err.ensures

pub returns-in-Err-Mistake-clause-replays : goal.returns-in-Err-Mistake-clause-replays
returns-in-Err-Mistake-clause-replays g c =
    let read = read_of string_bytes c.in-Some.line c.in-Ok.line _ _ _ c.in-Ok.is c.as_str-in-loop-line.ensures.value c.in-Some.ensures.steps.1 in
    let line = rw c.in-Err-Mistake.field-0-is at c.in-Err-Mistake.ensures in
    let what = c.as_str-in-Err-Mistake.ensures.value ∙ c.in_ok-what-in-Err-Mistake.ensures.ok in
    stopped c.args.self.now (g.R.Read.remaining c.args.log) _ c.loop-line.self c.loop-line.number _ _ c.as_str-in-loop-line.result.now _ c.line.new.self c.in-Err-Mistake.mistake c.saturating_add-number.result _ _
    c.loop-line.invariant read line.0 line.1 line.2 c.saturating_add-number.ensures (c.in_ok-told-in-Err-Mistake.ensures ∙ ap (λ w. told_text c.saturating_add-number.result w) what)

pub returns-in-Err-OutOfMemory-clause-fails : goal.returns-in-Err-OutOfMemory-clause-fails
returns-in-Err-OutOfMemory-clause-fails g c =
    let line = rw c.in-Err-OutOfMemory.field-0-is at c.in-Err-OutOfMemory.ensures in
    cut_short c.args.self.now (g.R.Read.remaining c.args.log) _ c.loop-line.self c.loop-line.number _ _ c.line.new.self _ c.loop-line.invariant line.0 line.1

pub returns-in-Err-Unanswered-clause-fails : goal.returns-in-Err-Unanswered-clause-fails
returns-in-Err-Unanswered-clause-fails g c =
    let read = read_of string_bytes c.in-Some.line c.in-Ok.line _ _ _ c.in-Ok.is c.as_str-in-loop-line.ensures.value c.in-Some.ensures.steps.1 in
    let line = rw c.in-Err-Unanswered.field-0-is at c.in-Err-Unanswered.ensures in
    cut_off c.args.self.now (g.R.Read.remaining c.args.log) _ c.loop-line.self c.loop-line.number _ _ c.as_str-in-loop-line.result.now _ c.line.new.self line.0 c.loop-line.invariant read line.1

pub loop-line-preserved : goal.loop-line-preserved
loop-line-preserved g c =
    let read = read_of string_bytes c.in-Some.line c.in-Ok.line _ _ _ c.in-Ok.is c.as_str-in-loop-line.ensures.value c.in-Some.ensures.steps.1 in
    let line = c.in-Ok-line.ensures in
    one_more c.args.self.now (g.R.Read.remaining c.args.log) _ c.loop-line.self c.loop-line.number _ _ c.as_str-in-loop-line.result.now _ c.line.new.self line.0 c.saturating_add-number.result _ c.loop-line.invariant read line.1 line.2 c.saturating_add-number.ensures

pub returns-clause-replays : goal.returns-clause-replays
returns-clause-replays g c = ended c.args.self.now (g.R.Read.remaining c.args.log) _ c.loop-line.self c.loop-line.number _ _ c.loop-line.invariant c.in-None.ensures.steps.1
