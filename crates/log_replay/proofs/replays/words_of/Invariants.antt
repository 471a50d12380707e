use Rattle.std.specs.Str.Iter.{split_whitespace_rest}
use Rattle.log_replay.specs.Words.{WordsThen}
use Rattle.log_replay.proofs.replays.words_of.Given as goal

abbrev pub invariant-loop-word : goal.invariant-loop-word
invariant-loop-word l = WordsThen l.line l.words.items (split_whitespace_rest l.word-iterator)
