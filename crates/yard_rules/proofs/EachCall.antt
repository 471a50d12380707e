-- What is shown of any call: that of its page.
use Rattle.clock.specs.Meaning.{Meaning}
use Rattle.clock.specs.Sound.{Sound}
use Rattle.yard_rules.specs.declared.calls.Call.{Call}
use Rattle.yard_rules.specs.declared.calls.Call.TheVariants.{Reads, Writes, Seal}
use Rattle.yard_rules.specs.declared.calls.Reading.TheVariants.{Judge, Report, Show}
use Rattle.yard_rules.specs.declared.calls.Writing.TheVariants.{Fork, Edit, Pull, Settle, Retire, Drop}
use Rattle.yard_rules.specs.Tables.{Card}
use Rattle.yard_rules.specs.Calls.{page}
use Rattle.yard_rules.proofs.Pages.{Shows}
use Rattle.yard_rules.proofs.Fork.{fork_shows}
use Rattle.yard_rules.proofs.Edit.{edit_shows}
use Rattle.yard_rules.proofs.Judge.{judge_shows}
use Rattle.yard_rules.proofs.Report.{report_shows}
use Rattle.yard_rules.proofs.Show.{show_shows}
use Rattle.yard_rules.proofs.Pull.{pull_shows}
use Rattle.yard_rules.proofs.Settle.{settle_shows}
use Rattle.yard_rules.proofs.Retire.{retire_shows}
use Rattle.yard_rules.proofs.Drop.{drop_shows}
use Rattle.yard_rules.proofs.Seal.{seal_shows}

module _ {Pen C P : Type 0} (m : Meaning Pen C) (sound : Sound m) where
  pub shows : (card : Card) (c : Call P) → Shows m (page m card c)
  shows card (Reads (Judge a b f)) = judge_shows m sound card a b f
  shows card (Reads (Report a b)) = report_shows m sound card a b
  shows card (Reads (Show a f)) = show_shows m card a f
  shows card (Writes (Fork a b)) = fork_shows m sound card a b
  shows card (Writes (Edit a f p)) = edit_shows m sound card a f p
  shows card (Writes (Pull a b)) = pull_shows m sound card a b
  shows card (Writes (Settle a b f p)) = settle_shows m sound card a b f p
  shows card (Writes (Retire a b)) = retire_shows m sound card a b
  shows card (Writes (Drop a)) = drop_shows m sound card a
  shows card Seal = seal_shows m
