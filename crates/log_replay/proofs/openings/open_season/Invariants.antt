use Rattle.std.proofs.Common.{take}
use Rattle.log_replay.specs.Openings.{Payloads}
use Rattle.log_replay.proofs.openings.open_season.Given as goal

abbrev pub invariant-loop-word : goal.invariant-loop-word
invariant-loop-word g l = Payloads g.P.FromStr.from_str_gives (take l.word-index l.word-items) l.payloads.items
