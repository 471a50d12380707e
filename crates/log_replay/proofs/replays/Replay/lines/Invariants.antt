use Rattle.std.specs.Io.Iter.{lines_known_bytes}
use Rattle.log_replay.proofs.Going.{Going}
use Rattle.log_replay.proofs.replays.Replay.lines.Given as goal

abbrev pub invariant-loop-line : goal.invariant-loop-line
invariant-loop-line g l =
    Going l.initial.self (g.R.Read.remaining l.fn.log) (lines_known_bytes g.R.Read.remaining l.line-iterator) l.self l.number (g.W.Write.contents l.initial.out) (g.W.Write.contents l.out)
