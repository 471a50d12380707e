use Rattle.yard_rules.proofs.Law.{law_of}
use Rattle.yard_rules.proofs.histories.history_law.Goals as goal

pub returns : goal.returns
returns g c = law_of g.C.Clock.meaning g.met.C.Clock.sound
