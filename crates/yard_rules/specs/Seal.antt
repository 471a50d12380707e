-- seal: the open card is given away for a sealed one. Changes no table, and is never refused.
--
-- seal_page    all of it: no verdict is given or used
use Rattle.std.specs.Prelude.{false, [], Ok}
use Rattle.yard_rules.specs.declared.answers.Answer.TheVariants.{Done}
use Rattle.yard_rules.specs.Checks.{outcome}
use Rattle.yard_rules.specs.Page.{Page}

abbrev pub seal_page : {Pen C P : Type 0} → Page Pen C P
seal_page = record {
  Value = Unit;
  told = λ v. Done;
  checks = λ bs cs bytes. [];
  done = λ alike bs cs bytes. outcome (Ok tt) bs cs bytes;
  edits = λ h. h;
  gives = λ h l. Unit;
  rests_on = λ h l. Unit;
  loses = false;
}
