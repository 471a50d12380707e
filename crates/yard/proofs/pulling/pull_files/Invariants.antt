use Rattle.std.proofs.Common.{◌≡◌, ◌+◌, ◌*◌, ◌≤◌, length}
use Rattle.yard_rules.specs.Tables.{judged, reported}
use Rattle.yard.specs.Entries.{Clocks}
use Rattle.yard.proofs.Taken.{taking}
use Rattle.yard.proofs.pulling.pull_files.Given as goal

abbrev pub invariant-loop-f : goal.invariant-loop-f
invariant-loop-f g l =
    let F = l.fn.sizes.files in
    let n = l.f-iterator.count in
    (goal.iterator-loop-f g).can_next l.f-iterator
    × (goal.iterator-loop-f g).is_finite l.f-iterator
    × (l.f-iterator.iter.a.start ≡ l.fn.b * F + n) × (l.f-iterator.iter.a.end ≡ l.fn.b * F + F)
    × (l.f-iterator.iter.b.start ≡ l.fn.a * F + n) × (l.f-iterator.iter.b.end ≡ l.fn.a * F + F)
    × (n ≤ F)
    × (l.copies ≡ taking g.C.Clock.meaning F l.fn.a l.fn.b l.initial.copies n) × Clocks g.C.Clock.meaning l.copies × (length l.copies ≡ length l.initial.copies)
    × (l.bytes ≡ reported n (judged g.C.Clock.meaning F l.initial.copies l.fn.b l.fn.a) l.initial.bytes) × (length l.bytes ≡ length l.initial.bytes)
