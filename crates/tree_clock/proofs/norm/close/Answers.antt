use Rattle.std.proofs.Common.{get_or, refl, arith, length-set}
use Rattle.tree_clock.specs.Flat.{filler}
use Rattle.tree_rules.proofs.Norms.{base-top}
use Rattle.tree_clock.proofs.Closing.{one_inside, mid_inside, roots, close_same, close_other, Apart}
use Rattle.tree_clock.proofs.norm.close.Goals as goal

pub slice_copy_out-l : goal.slice_copy_out-l
slice_copy_out-l c = one_inside _ _ _ _ _ c.requires.2

pub slice_copy_out-u : goal.slice_copy_out-u
slice_copy_out-u c = mid_inside _ _ _ _ _ c.requires.2

pub overflow_add-out : goal.overflow_add-out
overflow_add-out c = omega (arith, roots _ _ _ _ _ c.requires.2, base-top c.requires.0, c.requires.5)

pub returns-then-l-u-clause-stands : goal.returns-then-l-u-clause-stands
returns-then-l-u-clause-stands c = λ l r w nl nr. close_same _ _ _ _ c.if-l-eq1.true c.if-u-eq1.true c.if-l-u.true l r w

pub bounds-out-1 : goal.bounds-out-1
bounds-out-1 c = one_inside _ _ _ _ _ c.requires.2

pub bounds-out-mid : goal.bounds-out-mid
bounds-out-mid c = rw length-set (mid_inside _ _ _ _ _ c.requires.2)

pub overflow_add-out-2 : goal.overflow_add-out-2
overflow_add-out-2 c = omega (arith, roots _ _ _ _ _ c.requires.2, base-top c.requires.0, c.requires.5)

pub returns-clause-stands : goal.returns-clause-stands
returns-clause-stands c =
    let d : Apart (get_or c.args.out.now 1 filler) (get_or c.args.out.now c.args.mid filler) = omega arith in
    close_other _ _ _ _ d _ c.min-m.ensures _ refl
