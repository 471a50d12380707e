use Rattle.log_replay.proofs.Standing.{stand_on, none_at, told}
use Rattle.log_replay.proofs.openings.open_season.Goals as goal

pub returns-in_err-read_payload-clause-mistake : goal.returns-in_err-read_payload-clause-mistake
returns-in_err-read_payload-clause-mistake g c =
    told _ _ _ c.from_residual.result c.in_err-read_payload.field-0.0 c.from_residual.ensures.1 (none_at _ _ _ c.loop-word.word-index _ _ _ c.loop-word-test.true c.loop-word.invariant c.in_err-read_payload.ensures.refused)

pub loop-word-preserved : goal.loop-word-preserved
loop-word-preserved g c =
    stand_on g.P.FromStr.from_str_gives _ c.loop-word.word-index _ _ _ _ c.loop-word-test.true c.loop-word.invariant c.in_ok-read_payload.ensures.read c.in_ok-push.ensures.items
