use Rattle.std.proofs.Common.{ap}
use Rattle.yard_rules.specs.declared.answers.Answer.TheVariants.{Reported, Shown}
use Rattle.yard_rules.specs.Calls.{in_words}
use Rattle.yard.proofs.Carried.{told_lent}
use Rattle.yard.proofs.carrying.read_call.Goals as goal

pub returns-in-Report : goal.returns-in-Report
returns-in-Report g c = rw (c.in-Report.is, c.reported.ensures) (ap (in_words (λ v. Reported v.0 v.1 v.2 v.3 v.4)) c.report.ensures.result)

pub returns-in-Show : goal.returns-in-Show
returns-in-Show g c = rw (c.in-Show.is, c.shown.ensures) (told_lent (λ v. Shown v.0 v.1) _ _ _ _ _ _ _ _ _ _ c.show.ensures.result)
