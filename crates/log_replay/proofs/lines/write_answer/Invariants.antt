use Rattle.std.proofs.Common.{take}
use Rattle.std.specs.List.{flat_map}
use Rattle.std.specs.Io.KnownBytes.{Appends}
use Rattle.log_replay.specs.Texts.{word_text}
use Rattle.log_replay.proofs.lines.write_answer.Given as goal

abbrev pub invariant-loop-word : goal.invariant-loop-word
invariant-loop-word g l =
    Appends (g.W.Write.contents l.initial.out) (g.W.Write.contents l.out) (flat_map word_text (take l.word-index l.arguments))
