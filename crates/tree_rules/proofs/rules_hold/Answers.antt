use Rattle.tree_rules.proofs.Canon.{canonical}
use Rattle.tree_rules.proofs.JoinRules.{join_rules}
use Rattle.tree_rules.proofs.PlainRules.{norm_rules, split_rules, sum_rules}
use Rattle.tree_rules.proofs.RulesHold.{fill_rules, grow_rules, event_rules}
use Rattle.tree_rules.proofs.Shapes.{canonical_id}
use Rattle.tree_rules.proofs.TreeSound.{tree_sound}
use Rattle.tree_rules.proofs.rules_hold.Goals as goal

pub returns : goal.returns
returns c = record { norm = norm_rules; split = split_rules; sum = sum_rules; join = join_rules; fill = fill_rules; grow = grow_rules; event = event_rules; canonical = (canonical, canonical_id); sound = tree_sound }
