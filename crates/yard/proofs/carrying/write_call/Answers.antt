use Rattle.std.proofs.Common.{ap}
use Rattle.yard_rules.specs.declared.answers.Answer.TheVariants.{Done, Pulled}
use Rattle.yard_rules.specs.Calls.{in_words}
use Rattle.yard.proofs.Carried.{told_lent}
use Rattle.yard.proofs.carrying.write_call.Goals as goal

pub returns-in-Fork : goal.returns-in-Fork
returns-in-Fork g c = rw (c.in-Fork.is, c.done.ensures) (told_lent (λ v. Done) _ _ _ _ _ _ _ _ _ _ c.fork.ensures.result)

pub returns-in-Edit : goal.returns-in-Edit
returns-in-Edit g c = rw (c.in-Edit.is, c.done-in-Edit.ensures) (told_lent (λ v. Done) _ _ _ _ _ _ _ _ _ _ c.edit.ensures.result)

pub returns-in-Pull : goal.returns-in-Pull
returns-in-Pull g c = rw (c.in-Pull.is, c.pulled.ensures) (ap (in_words (λ v. Pulled v.0 v.1)) c.pull.ensures.result)

pub returns-in-Settle : goal.returns-in-Settle
returns-in-Settle g c = rw (c.in-Settle.is, c.done-in-Settle.ensures) (told_lent (λ v. Done) _ _ _ _ _ _ _ _ _ _ c.settle.ensures.result)

pub returns-in-Retire : goal.returns-in-Retire
returns-in-Retire g c = rw (c.in-Retire.is, c.done-in-Retire.ensures) (told_lent (λ v. Done) _ _ _ _ _ _ _ _ _ _ c.retire.ensures.result)

pub returns-in-Drop : goal.returns-in-Drop
returns-in-Drop g c = rw (c.in-Drop.is, c.done-in-Drop.ensures) (told_lent (λ v. Done) _ _ _ _ _ _ _ _ _ _ c.drop.ensures.result)
