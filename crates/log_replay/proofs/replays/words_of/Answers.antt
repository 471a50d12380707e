use Rattle.std.proofs.Common.{List, sym, subst}
use Rattle.std.specs.Str.Iter.{split_whitespace_rest}
use Rattle.season_log.specs.Words.{Word}
use Rattle.log_replay.specs.Words.{WordsThen}
use Rattle.log_replay.proofs.Splitting.{one_more_word}
use Rattle.log_replay.proofs.replays.words_of.Goals as goal

pub loop-word-preserved : goal.loop-word-preserved
loop-word-preserved c =
    subst (λ (ws : List Word). WordsThen c.args.line.now ws (split_whitespace_rest c.next.new.self)) (sym c.in_ok-push.ensures.items)
    (one_more_word c.args.line.now c.loop-word.words.items (split_whitespace_rest c.loop-word.word-iterator) c.in-Some.word (split_whitespace_rest c.next.new.self) c.loop-word.invariant c.in-Some.ensures.steps)
