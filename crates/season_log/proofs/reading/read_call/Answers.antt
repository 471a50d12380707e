-- What was read is the call that is spelled: the words spell one call, and no mistake.
use Rattle.season_log.proofs.Complete.{complete}
use Rattle.season_log.proofs.reading.read_call.Goals as goal

pub returns-clause-complete : goal.returns-clause-complete
returns-clause-complete g c = complete _ _ c.args.name c.args.arguments.now c.spelled_call.result c.spelled_call.ensures.read c.spelled_call.ensures.refused
