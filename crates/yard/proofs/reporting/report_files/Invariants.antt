use Rattle.std.proofs.Common.{◌≡◌, ◌*◌, ◌≤◌, ◌&&◌, length}
use Rattle.yard_rules.specs.Tables.{judged, reported, count, is_conflict}
use Rattle.yard_rules.specs.Report.{twins}
use Rattle.yard.proofs.Rows.{left_of}
use Rattle.yard.proofs.reporting.report_files.Given as goal

abbrev pub invariant-loop-f : goal.invariant-loop-f
invariant-loop-f g l =
    let F = l.fn.sizes.files in
    let n = l.f-iterator.count in
    let v = judged g.C.Clock.meaning F l.fn.copies l.fn.a l.fn.b in
    (goal.iterator-loop-f g).can_next l.f-iterator
    × (goal.iterator-loop-f g).is_finite l.f-iterator
    × (l.f-iterator.iter.a.rest.now ≡ left_of F (l.fn.a * F) n l.fn.copies)
    × (l.f-iterator.iter.b.rest.now ≡ left_of F (l.fn.b * F) n l.fn.copies)
    × (n ≤ F)
    × (l.bytes ≡ reported n v l.initial.bytes) × (length l.bytes ≡ length l.initial.bytes)
    × (l.twins ≡ count n (λ f. is_conflict (v f) && twins F l.fn.copies g.P.Payload.same l.fn.a l.fn.b f)) × (l.twins ≤ n)
