use Rattle.std.proofs.Common.{◌∙◌, sym, ap}
use Rattle.tree_rules.specs.Ids.{is_on}
use Rattle.tree_clock.specs.Trees.{id_lo, id_hi}
use Rattle.tree_clock.proofs.Closing.{one_inside, mid_inside}
use Rattle.tree_clock.proofs.Filling.{raises_lower, raises_upper, raises_none, Raises, raised_closes, raised_stands}
use Rattle.tree_clock.proofs.fill.fill_close.Goals as goal
use Rattle.tree_clock.proofs.fill.fill_close.Goals.{then-is_one, else-is_one+then-is_one-2, else-is_one+else-is_one-2}

pub raise-requires : goal.raise-requires
raise-requires c = (one_inside _ _ _ _ _ c.requires.given.2.0, mid_inside _ _ _ _ _ c.requires.given.2.0)

pub raise-requires-then-is_one-2 : goal.raise-requires-then-is_one-2
raise-requires-then-is_one-2 c = (mid_inside _ _ _ _ _ c.requires.given.2.0, one_inside _ _ _ _ _ c.requires.given.2.0)

-- what the raise, if there is one, leaves
raised : (c : goal.After-close-arg-1) → Raises c.args.out.now c.args.mid c.args.end c.args.base (is_on (id_lo c.args.id.now)) (is_on (id_hi c.args.id.now)) c.if-is_one.out
raised c =
    elim c.if-is_one.branch [
      | then-is_one w ↦ raises_lower _ _ _ _ _ _ _ (sym (w.if-is_one.ensures ∙ ap is_on c.lower_side.ensures)) (rw w.out-is w.raise.ensures.lower)
      | else-is_one+then-is_one-2 w ↦ raises_upper _ _ _ _ _ _ _ (sym (w.if-is_one.ensures ∙ ap is_on c.lower_side.ensures)) (sym (w.if-is_one-2.ensures ∙ ap is_on w.upper_side.ensures)) (rw w.out-is w.raise-then-is_one-2.ensures.upper)
      | else-is_one+else-is_one-2 w ↦ raises_none _ _ _ _ _ _ _ (sym (w.if-is_one.ensures ∙ ap is_on c.lower_side.ensures)) (sym (w.if-is_one-2.ensures ∙ ap is_on w.upper_side.ensures)) w.out-is
    ]

pub close-requires : goal.close-requires
close-requires c =
    raised_closes c.args.out.now _ _ _ (is_on (id_lo c.args.id.now)) (is_on (id_hi c.args.id.now)) _ (raised c) c.requires.given

pub returns-clause-stands : goal.returns-clause-stands
returns-clause-stands c =
    raised_stands c.args.out.now _ _ _ (is_on (id_lo c.args.id.now)) (is_on (id_hi c.args.id.now)) _ (raised c.before.before) _ _ c.close.ensures.stands
