use Rattle.std.proofs.Common.{◌≡◌, ℕ, ◌*◌, ◌<◌, false}
use Rattle.yard_rules.specs.Tables.{judged, is_conflict}
use Rattle.yard.proofs.Rows.{left_of}
use Rattle.yard.proofs.retiring.check_calm.Given as goal

abbrev pub invariant-loop-f : goal.invariant-loop-f
invariant-loop-f g l =
    let F = l.fn.sizes.files in
    let n = l.f-iterator.count in
    (goal.iterator-loop-f g).can_next l.f-iterator
    × (goal.iterator-loop-f g).is_finite l.f-iterator
    × (l.f-iterator.iter.a.rest.now ≡ left_of F (l.b * F) n l.copies)
    × (l.f-iterator.iter.b.rest.now ≡ left_of F (l.a * F) n l.copies)
    × ((k : ℕ) → k < n → is_conflict (judged g.C.Clock.meaning F l.copies l.b l.a k) ≡ false)
