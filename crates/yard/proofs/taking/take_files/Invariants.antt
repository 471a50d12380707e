use Rattle.std.proofs.Common.{◌≡◌, ◌+◌, ◌*◌, ◌≤◌, length}
use Rattle.yard.specs.Entries.{Clocks}
use Rattle.yard.proofs.Taken.{taking}
use Rattle.yard.proofs.taking.take_files.Given as goal

abbrev pub invariant-loop-i : goal.invariant-loop-i
invariant-loop-i g l =
    let F = l.fn.sizes.files in
    let n = length l.yielded in
    (goal.iterator-loop-i g).can_next l.i-iterator
    × (goal.iterator-loop-i g).is_finite l.i-iterator
    × (l.i-iterator.a.start ≡ l.fn.b * F + n) × (l.i-iterator.a.end ≡ l.fn.b * F + F)
    × (l.i-iterator.b.start ≡ l.fn.a * F + n) × (l.i-iterator.b.end ≡ l.fn.a * F + F)
    × (n ≤ F)
    × (l.copies ≡ taking g.C.Clock.meaning F l.fn.a l.fn.b l.initial.copies n) × Clocks g.C.Clock.meaning l.copies × (length l.copies ≡ length l.initial.copies)
