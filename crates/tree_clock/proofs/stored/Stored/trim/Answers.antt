use Rattle.std.proofs.Common.{arith, rules}
use Rattle.tree_clock.proofs.Viewing.{stands_within}
use Rattle.tree_clock.proofs.Writing.{trimmed}
use Rattle.tree_clock.proofs.stored.Stored.trim.Goals as goal

pub offset_bounds-self-n : goal.offset_bounds-self-n
offset_bounds-self-n c = omega (arith, stands_within _ _ _ c.requires.1)

pub slice_bounds-fill-count : goal.slice_bounds-fill-count
slice_bounds-fill-count c = omega (arith, stands_within _ _ _ c.requires.1)

pub slice_bounds-fill-start : goal.slice_bounds-fill-start
slice_bounds-fill-start c = omega (arith, stands_within _ _ _ c.requires.1)

pub returns : goal.returns
returns c = λ e w. trimmed c.args.self.now.nodes c.fill.new.self c.args.n e (search rules) w (c.fill.ensures.after (λ y q. (search rules)))
