use Rattle.std.proofs.Common.{◌+◌, ◌*◌, ◌<◌, ◌≤◌, sym, arith}
use Rattle.tree_rules.specs.Ids.{id_size}
use Rattle.tree_clock.proofs.Writing.{laid}
use Rattle.tree_clock.proofs.Summing.{first_one, second_one, lower_normal, lower_less, lower_room, mid_within, mid_small, upper_normal, upper_less, upper_room, end_small, some_room, close_given, summed}
use Rattle.tree_clock.proofs.sum.+sum_into_sum_pairs.Goals as goal
use Rattle.tree_clock.proofs.sum.+sum_into_sum_pairs.Goals.{sum_into-then-is_leaf-via-then-is_leaf, sum_into-then-is_leaf-via-else-is_leaf+then-is_leaf-2}

pub sum_into-returns-then-is_leaf-clause-sum : goal.sum_into-returns-then-is_leaf-clause-sum
sum_into-returns-then-is_leaf-clause-sum t c =
    elim c.then-is_leaf.branch [
      | sum_into-then-is_leaf-via-then-is_leaf w ↦ first_one _ _ c.if-is_zero.ensures c.if-is_zero-2.ensures c.requires.normal.1 w.if-is_leaf.ensures
      | sum_into-then-is_leaf-via-else-is_leaf+then-is_leaf-2 w ↦ second_one _ _ c.if-is_zero.ensures c.if-is_zero-2.ensures c.requires.normal.0 w.if-is_leaf-2.ensures
    ]

pub sum_pairs-sum_into-requires : goal.sum_pairs-sum_into-requires
sum_pairs-sum_into-requires t c =
    let k = lower_less c.args.a c.args.b (sym c.requires.pairs.0) (sym c.requires.pairs.1) c.requires.normal.0 c.requires.normal.1 _ _ c.lower_side.ensures c.lower_side-2.ensures in
    let f : 2 * (id_size c.lower_side.result + id_size c.lower_side-2.result) + 1 < t = omega (arith, k, c.decreases) in
    (f, (lower_normal c.args.a c.args.b (sym c.requires.pairs.0) (sym c.requires.pairs.1) c.requires.normal.0 c.requires.normal.1 _ _ c.lower_side.ensures c.lower_side-2.ensures, (lower_room c.args.a c.args.b (sym c.requires.pairs.0) (sym c.requires.pairs.1) c.requires.normal.0 c.requires.normal.1 _ _ c.lower_side.ensures c.lower_side-2.ensures c.args.out.now c.requires.room.0, omega (arith, k, c.requires.room.1))))

pub sum_pairs-overflow_add-mid : goal.sum_pairs-overflow_add-mid
sum_pairs-overflow_add-mid t c = omega (arith, mid_small c.args.a c.args.b (sym c.requires.pairs.0) (sym c.requires.pairs.1) c.requires.normal.0 c.requires.normal.1 _ _ c.lower_side.ensures c.lower_side-2.ensures c.args.out.now c.requires.room.0 c.sum_into.new.out c.in_ok-mid.ensures.long _ c.in_ok-mid.ensures.sum.1.1 c.requires.room.1)

pub sum_pairs-offset_bounds-out-mid : goal.sum_pairs-offset_bounds-out-mid
sum_pairs-offset_bounds-out-mid t c = omega (arith, mid_small c.args.a c.args.b (sym c.requires.pairs.0) (sym c.requires.pairs.1) c.requires.normal.0 c.requires.normal.1 _ _ c.lower_side.ensures c.lower_side-2.ensures c.args.out.now c.requires.room.0 c.sum_into.new.out c.in_ok-mid.ensures.long _ c.in_ok-mid.ensures.sum.1.1 c.requires.room.1)

pub sum_pairs-slice_bounds-sum_into-count-2 : goal.sum_pairs-slice_bounds-sum_into-count-2
sum_pairs-slice_bounds-sum_into-count-2 t c = mid_within c.args.a c.args.b (sym c.requires.pairs.0) (sym c.requires.pairs.1) c.requires.normal.0 c.requires.normal.1 _ _ c.lower_side.ensures c.lower_side-2.ensures c.args.out.now c.requires.room.0 c.sum_into.new.out c.in_ok-mid.ensures.long _ c.in_ok-mid.ensures.sum.1.1

pub sum_pairs-slice_bounds-sum_into-start-2 : goal.sum_pairs-slice_bounds-sum_into-start-2
sum_pairs-slice_bounds-sum_into-start-2 t c = mid_within c.args.a c.args.b (sym c.requires.pairs.0) (sym c.requires.pairs.1) c.requires.normal.0 c.requires.normal.1 _ _ c.lower_side.ensures c.lower_side-2.ensures c.args.out.now c.requires.room.0 c.sum_into.new.out c.in_ok-mid.ensures.long _ c.in_ok-mid.ensures.sum.1.1

pub sum_pairs-sum_into-requires-2 : goal.sum_pairs-sum_into-requires-2
sum_pairs-sum_into-requires-2 t c =
    let k = upper_less c.args.a c.args.b (sym c.requires.pairs.0) (sym c.requires.pairs.1) c.requires.normal.0 c.requires.normal.1 _ _ c.lower_side.ensures c.lower_side-2.ensures c.args.out.now c.requires.room.0 c.sum_into.new.out c.in_ok-mid.ensures.long _ c.in_ok-mid.ensures.sum.1.1 _ _ c.upper_side.ensures c.upper_side-2.ensures in
    let f : 2 * (id_size c.upper_side.result + id_size c.upper_side-2.result) + 1 < t = omega (arith, k, c.decreases) in
    (f, (upper_normal c.args.a c.args.b (sym c.requires.pairs.0) (sym c.requires.pairs.1) c.requires.normal.0 c.requires.normal.1 _ _ c.lower_side.ensures c.lower_side-2.ensures c.args.out.now c.requires.room.0 c.sum_into.new.out c.in_ok-mid.ensures.long _ c.in_ok-mid.ensures.sum.1.1 _ _ c.upper_side.ensures c.upper_side-2.ensures, (upper_room c.args.a c.args.b (sym c.requires.pairs.0) (sym c.requires.pairs.1) c.requires.normal.0 c.requires.normal.1 _ _ c.lower_side.ensures c.lower_side-2.ensures c.args.out.now c.requires.room.0 c.sum_into.new.out c.in_ok-mid.ensures.long _ c.in_ok-mid.ensures.sum.1.1 _ _ c.upper_side.ensures c.upper_side-2.ensures, omega (arith, k, c.requires.room.1))))

pub sum_pairs-overflow_add-end : goal.sum_pairs-overflow_add-end
sum_pairs-overflow_add-end t c = omega (arith, end_small c.args.a c.args.b (sym c.requires.pairs.0) (sym c.requires.pairs.1) c.requires.normal.0 c.requires.normal.1 _ _ c.lower_side.ensures c.lower_side-2.ensures c.args.out.now c.requires.room.0 c.sum_into.new.out c.in_ok-mid.ensures.long _ c.in_ok-mid.ensures.sum.1.1 _ _ c.upper_side.ensures c.upper_side-2.ensures c.requires.room.1 _ c.in_ok-end.ensures.sum.1.1)

pub sum_pairs-close-requires : goal.sum_pairs-close-requires
sum_pairs-close-requires t c =
    let z = laid c.args.out.now _ _ _ _ _ _ (some_room c.args.a c.args.b c.args.out.now c.requires.room.0) c.in_ok-mid.ensures.sum.1 c.in_ok-end.ensures.sum.1 in
    let e : 1 + c.in_ok-mid.field-0 + c.in_ok-end.field-0 ≤ 65535 = omega (arith, end_small c.args.a c.args.b (sym c.requires.pairs.0) (sym c.requires.pairs.1) c.requires.normal.0 c.requires.normal.1 _ _ c.lower_side.ensures c.lower_side-2.ensures c.args.out.now c.requires.room.0 c.sum_into.new.out c.in_ok-mid.ensures.long _ c.in_ok-mid.ensures.sum.1.1 _ _ c.upper_side.ensures c.upper_side-2.ensures c.requires.room.1 _ c.in_ok-end.ensures.sum.1.1) in
    close_given c.args.a c.args.b (sym c.requires.pairs.0) (sym c.requires.pairs.1) c.requires.normal.0 c.requires.normal.1 _ _ _ _ c.lower_side.ensures c.lower_side-2.ensures c.upper_side.ensures c.upper_side-2.ensures _ _ _ z e

pub sum_pairs-returns-clause-sum : goal.sum_pairs-returns-clause-sum
sum_pairs-returns-clause-sum t c =
    let z = laid c.args.out.now _ _ _ _ _ _ (some_room c.args.a c.args.b c.args.out.now c.requires.room.0) c.in_ok-mid.ensures.sum.1 c.in_ok-end.ensures.sum.1 in
    summed c.args.a c.args.b (sym c.requires.pairs.0) (sym c.requires.pairs.1) c.requires.normal.0 c.requires.normal.1 _ _ _ _ c.lower_side.ensures c.lower_side-2.ensures c.upper_side.ensures c.upper_side-2.ensures _ _ _ z c.in_ok-mid.ensures.sum.0 c.in_ok-end.ensures.sum.0 _ _ c.close.ensures.stands
